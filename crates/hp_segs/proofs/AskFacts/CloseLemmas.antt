-- An ask that is refused without a growth has its cause.
use Rattle.std.proofs.Common.{◌≡◌, ◌==◌, ◌∙◌, ℕ, ◌+◌, ◌*◌, Bool, true, false, ◌&&◌, if◌then◌else◌, List, [], ◌∷◌, length, get_or, None, Result, Ok, Err, refl, ap, sym, subst, arith}
use Rattle.std.specs.List.{All}
use Rattle.std.proofs.lemmas.List.Elements.{All-head, All-tail}
use Rattle.std.proofs.lemmas.List.Sums.{sum_by-cons}
use Rattle.std.proofs.Math.Seq.{take-length}
use Rattle.hp_base.specs.declared.row.Row.{Row}
use Rattle.hp_base.specs.declared.row.Run.{Run}
use Rattle.hp_segs.specs.Calls.{IsCloseCause, IsRefusalOf, IsDenial}
use Rattle.hp_segs.specs.Causes.{HasCause, IsCaused, IsKeptAsk}
use Rattle.hp_log.specs.Log.{table_of, table_at}
use Rattle.hp_segs.specs.Plan.{IsFirstFor, plan_of}
use Rattle.hp_segs.specs.Refusals.{IsShort, IsFull, IsUnfit, IsPlanRefusal, HasRefusalCause, bytes_on}
use Rattle.hp_segs.specs.SegsView.{SegsView, rows_in, is_opened, is_retiring, is_counted, counted_bytes, total_of}
use Rattle.hp_segs.specs.Sound.{IsSound}
use Rattle.hp_segs.specs.SoundRows.{in_runs, growth_run}
use Rattle.hp_segs.specs.declared.ask.Ask.{Ask}
use Rattle.hp_segs.specs.declared.outcome.AskLog.{AskLog}
use Rattle.hp_segs.specs.declared.outcome.Cause.{Cause}
use Rattle.hp_segs.specs.declared.outcome.Cause.TheVariants as why
use Rattle.hp_segs.specs.declared.outcome.Outcome.TheVariants.{Refused}
use Rattle.hp_segs.specs.declared.plan_refusal.PlanRefusal.{PlanRefusal}
use Rattle.hp_segs.specs.declared.plan_refusal.PlanRefusal.TheVariants.{StaleAsk, GrowthOpen, NoList, TooFew, ListFull, CannotHold}
use Rattle.hp_segs.specs.declared.row_state.RowState.{RowState}
use Rattle.hp_segs.specs.declared.row_state.RowState.TheVariants.{Opened, Agreed, Owned, Retiring}
use Rattle.hp_segs.specs.declared.row_state.Segment.{Segment}
use Rattle.hp_segs.proofs.SlotFacts.PlannedLemmas.{open_plan}
use Rattle.hp_segs.proofs.AskFacts.RefusalLemmas.{refused_plan}

counts : (state : RowState) → is_opened state ≡ false → is_retiring state ≡ false → is_counted state ≡ true
counts Opened settled stays = cc
counts (Agreed heap) settled stays = refl
counts (Owned heap) settled stays = refl
counts Retiring settled stays = cc

bytes_at : (here counted : Bool) (page : ℕ) → counted ≡ true → (if here && counted then page else 0) ≡ (if here then page else 0)
bytes_at true counted page is = ap (λ b. if b then page else 0) is
bytes_at false counted page is = refl

-- where no row is Opened or Retiring, all bytes of a socket count
all_bytes : (segments : List Segment) (socket : ℕ) → All (λ segment. is_opened segment.state ≡ false) segments
    → All (λ segment. is_retiring segment.state ≡ false) segments → total_of segments socket ≡ bytes_on (rows_in segments) socket
all_bytes [] socket settled stays = refl
all_bytes (segment ∷ segments) socket settled stays =
    let bytes : Row → ℕ = λ row. if row.socket == socket then row.page else 0 in
    let here : counted_bytes socket segment ≡ bytes segment.row =
    bytes_at (segment.row.socket == socket) (is_counted segment.state) segment.row.page
    (counts segment.state (All-head (λ segment. is_opened segment.state ≡ false) segment segments settled)
    (All-head (λ segment. is_retiring segment.state ≡ false) segment segments stays)) in
    let rest = all_bytes segments socket (All-tail (λ segment. is_opened segment.state ≡ false) segment segments settled)
    (All-tail (λ segment. is_retiring segment.state ≡ false) segment segments stays) in
    omega (arith, here, rest, sum_by-cons (counted_bytes socket) segment segments, sum_by-cons bytes segment.row (rows_in segments))

module _ (segs : SegsView) (ask : Ask) (before : List AskLog) (sound : IsSound segs) where
  -- the rows are the table of all records
  rows_now : rows_in segs.segments ≡ table_at segs.log (length segs.log)
  rows_now = sound.rows.table.table ∙ ap table_of (sym (take-length segs.log))

  refusal_cause : (refusal : PlanRefusal) (cause : Cause) → IsRefusalOf refusal cause
      → IsPlanRefusal ask segs refusal
      → HasRefusalCause segs.pools segs.log before (length segs.log) ask cause
  refusal_cause (StaleAsk number done) cause is has = absurd is
  refusal_cause (GrowthOpen generation) cause is has = absurd is
  refusal_cause NoList cause is has = subst (HasRefusalCause segs.pools segs.log before (length segs.log) ask) (sym is) has
  refusal_cause (TooFew have need) cause is has =
      subst (HasRefusalCause segs.pools segs.log before (length segs.log) ask) (sym is)
      (subst (λ table. IsShort segs.pools table ask have need) rows_now has)
  refusal_cause (ListFull longest need) cause is has =
      subst (HasRefusalCause segs.pools segs.log before (length segs.log) ask) (sym is)
      (subst (λ table. IsFull segs.pools table ask longest need) rows_now has)
  refusal_cause (CannotHold addr len) cause is has =
      subst (HasRefusalCause segs.pools segs.log before (length segs.log) ask) (sym is)
      (subst (λ table. IsUnfit segs.pools table ask addr len) rows_now has)

  denial_cause : (run : Run) (cause : Cause) → segs.growth ≡ None → plan_of ask segs ≡ Ok run → IsDenial ask run segs cause
      → HasRefusalCause segs.pools segs.log before (length segs.log) ask cause
  denial_cause run why.NoList alone plan is = absurd is
  denial_cause run (why.TooFew have need) alone plan is = absurd is
  denial_cause run (why.ListFull longest need) alone plan is = absurd is
  denial_cause run (why.CannotHold addr len) alone plan is = absurd is
  denial_cause run (why.Denied validator limit total) alone plan is =
      let settled : All (λ segment. is_opened segment.state ≡ false) segs.segments =
      λ k d within. sound.rows.opened k d within ∙ ap (λ g. in_runs (growth_run g) (get_or segs.segments k d).row) alone in
      let stays : All (λ segment. is_retiring segment.state ≡ false) segs.segments =
      λ k d within. sound.rows.retired k d within ∙ ap (λ runs. in_runs runs (get_or segs.segments k d).row) is.0 in
      let bytes : total_of segs.segments ask.socket ≡ bytes_on (table_at segs.log (length segs.log)) ask.socket =
      all_bytes segs.segments ask.socket settled stays ∙ ap (λ rows. bytes_on rows ask.socket) rows_now in
      record {
        run = run;
        first =
            subst (λ table. IsFirstFor segs.pools table ask run) rows_now
            (open_plan segs ask run sound.rows.table.limits plan).planned.first;
        sum = is.1 ∙ ap (λ bytes. bytes + run.count * run.page) bytes;
        above = is.2;
      }
  denial_cause run (why.MapFailed participant call addr got) alone plan is = absurd is
  denial_cause run (why.Late participant from to) alone plan is = absurd is
  denial_cause run (why.Withdrawn from to) alone plan is = absurd is

  close_cause : (cause : Cause) (plan : Result Run PlanRefusal) → segs.growth ≡ None → plan_of ask segs ≡ plan
      → IsCloseCause ask segs cause plan → HasRefusalCause segs.pools segs.log before (length segs.log) ask cause
  close_cause cause (Ok run) alone plan is = denial_cause run cause alone plan is
  close_cause cause (Err refusal) alone plan is = refusal_cause refusal cause is (refused_plan segs ask refusal plan)

-- an ask that is refused without a growth has its cause
pub closed_caused : (segs : SegsView) (ask : Ask) (cause : Cause) (before : List AskLog) (entry : AskLog) → IsSound segs → segs.growth ≡ None
    → IsCloseCause ask segs cause (plan_of ask segs) → entry.outcome ≡ Refused cause → entry.at ≡ length segs.log → IsKeptAsk entry ask
    → IsCaused segs.pools segs.log before entry
closed_caused segs ask cause before entry sound alone is outcome at kept = record {
  within = omega (arith, at);
  cause =
      subst (HasCause segs.pools segs.log before entry) (sym outcome) (
        ask,
        kept,
        subst (λ at. HasRefusalCause segs.pools segs.log before at ask cause) (sym at)
            (close_cause segs ask before sound cause (plan_of ask segs) alone refl is),
      );
}
