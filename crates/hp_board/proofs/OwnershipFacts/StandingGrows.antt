-- What a heap has claimed and given up goes on under each form of a give: further runs come after those of before.
use Rattle.std.proofs.Common.{◌≡◌, ◌∙◌, ℕ, List, [], ◌∷◌, Option, Some, None, IsTrue, refl, sym, ap, subst}
use Rattle.std.specs.Prelude.{Contains, IsSomeAnd}
use Rattle.std.specs.List.{All}
use Rattle.std.specs.Option.{option_and_then}
use Rattle.std.proofs.lemmas.List.Elements.{All-contains, All-head, All-tail}
use mathlib.Core.Logic.{dite}
use native.Mathlib.Decide.{ℕ_discrete}
use Rattle.hp_base.specs.declared.row.Run.{Run}
use Rattle.hp_heap.specs.History.{HeapView}
use Rattle.hp_segs.specs.Calls.{IsUnclaimedGrant, OwnsRun}
use Rattle.hp_segs.specs.Moved.{SegsCall, Reserve, OpenRun, CloseAsk, LogStale, NoteFailed, Agree, Cancel, Claim, Arm, Withdraw, Retire, DropRetiring, LogFreed, JoinRoster, LeaveRoster, ClaimRange, ReleaseRange, Leads, May, after, is_owner_call}
use Rattle.hp_segs.specs.PendingRuns.{ArePending, PendingIsLast}
use Rattle.hp_segs.specs.SegsView.{SegsView, grant_of, is_unclaimed, run_of}
use Rattle.hp_segs.specs.Sound.{IsSound}
use Rattle.hp_segs.specs.SoundAsks.{IsGranted}
use Rattle.hp_segs.specs.Standing.{Holding, standing_of}
use Rattle.hp_segs.specs.Steps.{after_claim, after_retire}
use Rattle.hp_stats.specs.StatViews.{PenView}
use Rattle.hp_segs.specs.declared.outcome.AskLog.{AskLog}
use Rattle.hp_segs.specs.declared.outcome.Outcome.TheVariants.{Granted}
use Rattle.hp_segs.proofs.Moves.{calls_keep, calls_move}
use Rattle.hp_hall.specs.Giving.{GivesForm, Knows, claims_ranges, enrols, logs, owns}
use Rattle.hp_hall.specs.Holding.{HasHolding}
use Rattle.hp_hall.specs.Standings.{IsGrantFor}
use Rattle.hp_hall.specs.declared.kept.Kept.{Kept}
use Rattle.hp_hall.specs.declared.kept.Kept.TheVariants.{Heap, Names, Segments}
use Rattle.hp_hall.proofs.AsksOfHalls.AskFacts.{IsGrantIn, grant_in, keeps_ask}
use Rattle.hp_hall.proofs.AsksOfHalls.ClaimPuts.{claim_puts}
use Rattle.hp_hall.proofs.AsksOfHalls.OwnerAsks.{pending_last_owned}
use Rattle.hp_hall.proofs.StandingFacts.StandingClaims.{claim_leaves_others, granted_is}
use Rattle.hp_hall.proofs.StandingFacts.StandingMoves.{log_calls_leave, range_calls_leave, roster_calls_leave}
use Rattle.hp_hall.proofs.StandingFacts.StandingRetires.{retire_leaves_others, retire_takes_rows}
use Rattle.hp_board.specs.Ownership.{HasBegun}
use Rattle.hp_board.specs.Views.{BeginsWith}
use Rattle.hp_board.proofs.Fronts.{front_on, front_same}

-- what a heap has claimed and given up begins with what it had
pub record GoesOn (old new : Holding) : Type 0 where
  pub came : BeginsWith new.came old.came
  pub retired : BeginsWith new.retired old.retired

goes_same : (old new : Holding) → new ≡ old → GoesOn old new
goes_same old new same = record {
  came = front_same old.came new.came (ap (λ (h : Holding). h.came) same);
  retired = front_same old.retired new.retired (ap (λ (h : Holding). h.retired) same);
}

goes_then : (old between new : Holding) → GoesOn old between → GoesOn between new → GoesOn old new
goes_then old between new first next = record {
  came = front_on between.came new.came old.came next.came first.came;
  retired = front_on between.retired new.retired old.retired next.retired first.retired;
}

-- the run that an outcome of a sound value granted is one of the log
run_logged : (segs : SegsView) (entry : AskLog) (generation : ℕ) → IsSound segs → Contains segs.asks entry → entry.outcome ≡ Granted generation
    → (run : Run) × (run_of segs.log generation ≡ Some run)
run_logged segs entry generation sound among is =
    (subst (IsGranted segs.log) is (All-contains (λ (e : AskLog). IsGranted segs.log e.outcome) segs.asks entry sound.asks.granted among)).1

-- a grant is claimed
claim_by : (segs : SegsView) (heap from number generation : ℕ) → IsSound segs → PendingIsLast segs → IsUnclaimedGrant from number segs → grant_of segs.asks from number ≡ Some generation
    → GoesOn (standing_of heap segs) (standing_of heap (after_claim from number segs))
claim_by segs heap from number generation sound last may grant =
    let its : IsGrantIn segs.asks from number generation = grant_in segs.asks from number generation grant in
    let kept_ask = keeps_ask segs its.entry generation sound its.there its.granted in
    let is : IsGrantFor kept_ask.0.heap generation its.entry =
    record { ask = kept_ask.0; kept = kept_ask.1; its_heap = refl; granted = granted_is its.entry.outcome generation its.granted } in
    dite (ℕ_discrete heap kept_ask.0.heap)
    (λ here.
    let run = run_logged segs its.entry generation sound its.there is.granted in
    let puts =
    claim_puts segs kept_ask.0.heap from number generation its.entry run.0 sound last grant its.there is may
    (ap (option_and_then (run_of segs.log)) grant ∙ run.1) in
    subst (λ (h : ℕ). GoesOn (standing_of h segs) (standing_of h (after_claim from number segs))) (sym here)
    (record {
      came = (run.0 ∷ [], puts.came);
      retired = front_same (standing_of kept_ask.0.heap segs).retired (standing_of kept_ask.0.heap (after_claim from number segs)).retired puts.retired;
    }))
    (λ apart.
    goes_same (standing_of heap segs) (standing_of heap (after_claim from number segs))
    (claim_leaves_others segs kept_ask.0.heap from number generation its.entry sound grant its.there is heap apart))

claim_goes : (segs : SegsView) (heap from number : ℕ) (grant : Option ℕ) → IsSound segs → PendingIsLast segs → IsUnclaimedGrant from number segs → grant_of segs.asks from number ≡ grant
    → GoesOn (standing_of heap segs) (standing_of heap (after_claim from number segs))
claim_goes segs heap from number None sound last may is =
    absurd (subst (λ (g : Option ℕ). IsSomeAnd g (λ generation. IsTrue (is_unclaimed segs.segments generation))) is may)
claim_goes segs heap from number (Some generation) sound last may is = claim_by segs heap from number generation sound last may is

-- a run is given up
retire_goes : (segs : SegsView) (heap owner : ℕ) (run : Run) → IsSound segs → OwnsRun owner run segs → GoesOn (standing_of heap segs) (standing_of heap (after_retire owner run segs))
retire_goes segs heap owner run sound its_own =
    dite (ℕ_discrete heap owner)
    (λ here.
    let is = retire_takes_rows segs owner run sound its_own in
    subst (λ (h : ℕ). GoesOn (standing_of h segs) (standing_of h (after_retire owner run segs))) (sym here)
    (record {
      came = front_same (standing_of owner segs).came (standing_of owner (after_retire owner run segs)).came (ap (λ (h : Holding). h.came) is);
      retired = (run ∷ [], ap (λ (h : Holding). h.retired) is);
    }))
    (λ apart.
    goes_same (standing_of heap segs) (standing_of heap (after_retire owner run segs)) (retire_leaves_others segs owner run sound its_own heap apart))

-- what one call leaves
record IsOwnerStep (old new : SegsView) : Type 0 where
  goes : (heap : ℕ) → GoesOn (standing_of heap old) (standing_of heap new)
  sound : IsSound new
  last : PendingIsLast new

step : (call : SegsCall) (segs : SegsView) → IsTrue (is_owner_call call) → May call segs → IsSound segs → PendingIsLast segs → IsOwnerStep segs (after call segs)
step (Reserve n) segs only may sound last = record {
  goes = λ heap. goes_same (standing_of heap segs) (standing_of heap (after (Reserve n) segs)) refl;
  sound = calls_keep (Reserve n) segs sound may;
  last = pending_last_owned segs (after (Reserve n) segs) (calls_move is_owner_call (Reserve n) segs refl may) last;
}
step (Claim from number) segs only may sound last = record {
  goes = λ heap. claim_goes segs heap from number (grant_of segs.asks from number) sound last may refl;
  sound = calls_keep (Claim from number) segs sound may;
  last = pending_last_owned segs (after (Claim from number) segs) (calls_move is_owner_call (Claim from number) segs refl may) last;
}
step (Retire owner run) segs only may sound last = record {
  goes = λ heap. retire_goes segs heap owner run sound may;
  sound = calls_keep (Retire owner run) segs sound may;
  last = pending_last_owned segs (after (Retire owner run) segs) (calls_move is_owner_call (Retire owner run) segs refl may) last;
}
step (OpenRun ask run) segs only may sound last = absurd (cc)
step (CloseAsk ask cause) segs only may sound last = absurd (cc)
step (LogStale from number) segs only may sound last = absurd (cc)
step (NoteFailed participant call row got) segs only may sound last = absurd (cc)
step (Agree acks) segs only may sound last = absurd (cc)
step (Cancel cause) segs only may sound last = absurd (cc)
step (Arm ask) segs only may sound last = absurd (cc)
step (Withdraw from number since now) segs only may sound last = absurd (cc)
step DropRetiring segs only may sound last = absurd (cc)
step (LogFreed from number) segs only may sound last = absurd (cc)
step (JoinRoster participant acked) segs only may sound last = absurd (cc)
step (LeaveRoster participant) segs only may sound last = absurd (cc)
step (ClaimRange list addr len page socket) segs only may sound last = absurd (cc)
step (ReleaseRange list) segs only may sound last = absurd (cc)

owned_on : (calls : List SegsCall) (old new : SegsView) → Leads calls old new → All (λ call. IsTrue (is_owner_call call)) calls → IsSound old → PendingIsLast old → (heap : ℕ)
    → GoesOn (standing_of heap old) (standing_of heap new)
owned_on [] old new leads only sound last heap = goes_same (standing_of heap old) (standing_of heap new) (ap (standing_of heap) leads)
owned_on (call ∷ calls) old new leads only sound last heap =
    let first = step call old (All-head (λ c. IsTrue (is_owner_call c)) call calls only) leads.0 sound last in
    goes_then (standing_of heap old) (standing_of heap (after call old)) (standing_of heap new) (first.goes heap)
    (owned_on calls (after call old) new leads.1 (All-tail (λ c. IsTrue (is_owner_call c)) call calls only) first.sound first.last heap)

-- the segment value is given
standing_on : (knows : Knows) (old new : SegsView) → IsSound old → ArePending old → GivesForm knows old new → (heap : ℕ) → GoesOn (standing_of heap old) (standing_of heap new)
standing_on knows old new sound pending (logs form) heap =
    goes_same (standing_of heap old) (standing_of heap new) (log_calls_leave 1 old new sound form.give.moved heap)
standing_on knows old new sound pending (enrols form) heap =
    goes_same (standing_of heap old) (standing_of heap new) ((roster_calls_leave 0 old new form.moved).standing heap)
standing_on knows old new sound pending (claims_ranges form) heap =
    goes_same (standing_of heap old) (standing_of heap new) ((range_calls_leave 0 old new form.give.moved).standing heap)
standing_on knows old new sound pending (owns form) heap =
    owned_on form.give.moved.calls old new form.give.moved.leads form.give.moved.only sound pending.last heap

-- A HEAP'S HISTORY

-- a heap that has what the value has for it
pub begun_has : (segs : SegsView) (slot : ℕ) (heap : HeapView) (pen : PenView) → HasHolding heap (standing_of slot segs) → HasBegun segs slot (Heap heap pen)
begun_has segs slot heap pen has =
    (front_same _ (standing_of slot segs).came (sym has.grown), front_same _ (standing_of slot segs).retired (sym has.cut))

pub begun_on : (knows : Knows) (old new : SegsView) → IsSound old → ArePending old → GivesForm knows old new → (slot : ℕ) (kept : Kept) → HasBegun old slot kept → HasBegun new slot kept
begun_on knows old new sound pending form slot (Heap heap pen) begun =
    let on = standing_on knows old new sound pending form slot in
    (front_on (standing_of slot old).came (standing_of slot new).came _ on.came begun.0, front_on (standing_of slot old).retired (standing_of slot new).retired _ on.retired begun.1)
begun_on knows old new sound pending form slot (Segments other) begun = tt
begun_on knows old new sound pending form slot (Names names) begun = tt
