-- Which runs that were given up are on their way back, and which have gone, by a Drop that came since there were so many records.
use Rattle.std.proofs.Common.{◌≡◌, ◌⊎◌, ℕ, zero, suc, ◌+◌, ◌-◌, ◌<◌, ◌≤◌, Bool, true, false, List, [], ◌∷◌, ◌++◌, length, map, get_or, Some, inl, inr, refl, ap, ◌∙◌, sym, subst, append_assoc, length-append, arith, if◌then◌else◌}
use Rattle.std.specs.Prelude.{Contains, nat_lt, slice_get}
use Rattle.std.specs.List.{All}
use Rattle.std.proofs.lemmas.List.Elements.{All-weaker, Contains-append_cases, Contains-append_left, Contains-append_right}
use Rattle.hp_base.specs.declared.row.Run.{Run}
use Rattle.hp_log.specs.declared.log_record.LogRecord.{LogRecord}
use Rattle.hp_log.specs.declared.log_record.LogRecord.TheVariants.{Drop}
use Rattle.hp_segs.specs.SegsView.{SegsView, is_grant_or_refusal, is_stale}
use Rattle.hp_segs.specs.Steps.{insert_by_address}
use Rattle.hp_segs.specs.declared.outcome.AskLog.{AskLog}
use Rattle.hp_segs.specs.declared.outcome.Outcome.TheVariants.{Freed}
use Rattle.hp_segs.proofs.SlotFacts.ListFacts.{get_stays}
use Rattle.hp_proc.specs.Doing.{Done}
use Rattle.hp_proc.specs.Doing.Done.{GaveUp}
use Rattle.hp_proc.specs.Outcomes.{HasGone}
use Rattle.thm_run.proofs.SeatFacts.CoreLogs.{LogMoves, drops, keeps, with_drops}
use Rattle.thm_run.proofs.TracesTold.Numbers.{AreLater, stays_at}

-- the run went back by a Drop that stands among the first records, but not among those that were there before
pub record HasGoneSince (base : ℕ) (log : List LogRecord) (records : ℕ) (run : Run) : Type 0 where
  pub place : ℕ
  pub since : base ≤ place
  pub before : place < records
  pub dropped : slice_get log place ≡ Some (Drop run)

-- the run is Retiring, or was dropped since
abbrev pub IsGoing : ℕ → SegsView → Run → Type 0
IsGoing base segs run = Contains segs.retiring run ⊎ HasGoneSince base segs.log (length segs.log) run

-- what has gone stays gone
pub gone_later : (base : ℕ) (log more : List LogRecord) (records later : ℕ) (run : Run) → HasGoneSince base log records run
    → records ≤ later → HasGoneSince base (log ++ more) later run
gone_later base log more records later run gone up = record {
  place = gone.place;
  since = gone.since;
  before = omega (arith, gone.before, up);
  dropped = get_stays log more gone.place (Drop run) gone.dropped;
}

read_behind : {X : Type 0} (xs ys : List X) (k : ℕ) (y : X) → slice_get ys k ≡ Some y → slice_get (xs ++ ys) (length xs + k) ≡ Some y
read_behind [] ys k y is =
    let same : k ≡ 0 + k = omega arith in
    subst (λ k. slice_get ys k ≡ Some y) same is
read_behind (x ∷ xs) ys k y is =
    let same : suc (length xs + k) ≡ suc (length xs) + k = omega arith in
    subst (λ k. slice_get (x ∷ (xs ++ ys)) k ≡ Some y) same (read_behind xs ys k y is)

read_drop : (runs : List Run) (run : Run) (k : ℕ) → k < length runs → get_or runs k run ≡ run
    → slice_get (map (λ run. Drop run) runs) k ≡ Some (Drop run)
read_drop [] run k below is = absurd (omega (arith, below))
read_drop (first ∷ runs) run zero below is = ap (λ run. Some (Drop run)) is
read_drop (first ∷ runs) run (suc k) below is = read_drop runs run k (omega (arith, below)) is

long_drops : (runs : List Run) → length (map (λ run. Drop run) runs) ≡ length runs
long_drops [] = refl
long_drops (run ∷ runs) = ap suc (long_drops runs)

-- after the drops what was Retiring has gone
pub going_dropped : (base : ℕ) (segs : SegsView) (run : Run) → base ≤ length segs.log → IsGoing base segs run
    → HasGoneSince base (with_drops segs) (length (with_drops segs)) run
going_dropped base segs run low (inl among) =
    let long : length (with_drops segs) ≡ length segs.log + length (map (λ run. Drop run) segs.retiring) =
    length-append segs.log (map (λ run. Drop run) segs.retiring) in
    let below = among.1 in
    record {
      place = length segs.log + among.0;
      since = omega (arith, low);
      before = omega (arith, long, long_drops segs.retiring, below);
      dropped = read_behind segs.log (map (λ run. Drop run) segs.retiring) among.0 (Drop run)
          (read_drop segs.retiring run among.0 among.1 among.2);
    }
going_dropped base segs run low (inr gone) =
    let long : length (with_drops segs) ≡ length segs.log + length (map (λ run. Drop run) segs.retiring) =
    length-append segs.log (map (λ run. Drop run) segs.retiring) in
    gone_later base segs.log (map (λ run. Drop run) segs.retiring) (length segs.log) (length (with_drops segs)) run gone
    (omega (arith, long))

gone_behind : (base : ℕ) (log more all : List LogRecord) (run : Run) → all ≡ log ++ more → HasGoneSince base log (length log) run
    → HasGoneSince base all (length all) run
gone_behind base log more all run is gone =
    let long : length (log ++ more) ≡ length log + length more = length-append log more in
    subst (λ all. HasGoneSince base all (length all) run) (sym is)
    (gone_later base log more (length log) (length (log ++ more)) run gone (omega (arith, long)))

-- a run that is going goes on
pub going_later : (base : ℕ) (old new : SegsView) (run : Run) → LogMoves old new → base ≤ length old.log → IsGoing base old run
    → IsGoing base new run
going_later base old new run (keeps more log retiring) low (inl among) = inl (subst (λ runs. Contains runs run) (sym retiring) among)
going_later base old new run (keeps more log retiring) low (inr gone) = inr (gone_behind base old.log more new.log run log gone)
going_later base old new run (drops more log retiring) low going =
    inr (gone_behind base (with_drops old) more new.log run log (going_dropped base old run low going))

-- records come after the others
pub record Grew (old new : List LogRecord) : Type 0 where
  pub more : List LogRecord
  pub is : new ≡ old ++ more

pub log_grew : (old new : SegsView) → LogMoves old new → Grew old.log new.log
log_grew old new (keeps more log retiring) = record { more = more; is = log }
log_grew old new (drops more log retiring) = record {
  more = map (λ run. Drop run) old.retiring ++ more;
  is = log ∙ append_assoc old.log (map (λ run. Drop run) old.retiring) more;
}

-- a run that is given up is Retiring
insert_by : (lower : Bool) (run other x : Run) (runs : List Run) → ((run ≡ x) ⊎ Contains runs x → Contains (insert_by_address run runs) x)
    → (run ≡ x) ⊎ Contains (other ∷ runs) x
    → Contains (if lower then run ∷ other ∷ runs else other ∷ insert_by_address run runs) x
insert_by true run other x runs rest (inl same) = (0, omega arith, same)
insert_by true run other x runs rest (inr among) = Contains-append_right (run ∷ []) (other ∷ runs) x among
insert_by false run other x runs rest (inl same) = Contains-append_right (other ∷ []) (insert_by_address run runs) x (rest (inl same))
insert_by false run other x runs rest (inr among) =
    elim (Contains-append_cases (other ∷ []) runs x among) [
      | inl first ↦ Contains-append_left (other ∷ []) (insert_by_address run runs) x first
      | inr behind ↦ Contains-append_right (other ∷ []) (insert_by_address run runs) x (rest (inr behind))
    ]

pub inserted : (run x : Run) (runs : List Run) → (run ≡ x) ⊎ Contains runs x → Contains (insert_by_address run runs) x
inserted run x [] (inl same) = (0, omega arith, same)
inserted run x [] (inr among) = absurd (omega (arith, among.1))
inserted run x (other ∷ runs) either = insert_by (nat_lt run.addr other.addr) run other x runs (inserted run x runs) either

-- the outcome says of a notice that its run has gone
pub record IsFreedOf (took : ℕ → List Done) (log : List LogRecord) (generation : ℕ) (entry : AskLog) : Type 0 where
  pub heap : ℕ
  pub run : Run
  pub its : slice_get (took entry.from) (entry.number - 1) ≡ Some (GaveUp heap run)
  pub gone : HasGone log generation run

-- it does so, where it says so
abbrev pub IsTrulyFreed : (ℕ → List Done) → List LogRecord → AskLog → Type 0
IsTrulyFreed took log entry = (generation : ℕ) → entry.outcome ≡ Freed generation → IsFreedOf took log generation entry

-- each outcome that says so does
abbrev pub AreTrulyFreed : (ℕ → List Done) → List LogRecord → List AskLog → Type 0
AreTrulyFreed took log asks = All (IsTrulyFreed took log) asks

-- the outcome says so of a notice whose run has gone since there were so many records
pub record IsFreedSince (base : ℕ) (took : ℕ → List Done) (log : List LogRecord) (generation : ℕ) (entry : AskLog) : Type 0 where
  pub heap : ℕ
  pub run : Run
  pub its : slice_get (took entry.from) (entry.number - 1) ≡ Some (GaveUp heap run)
  pub gone : HasGoneSince base log generation run

-- the notices of a participant, but for those among so many first asks and notices
module _ (who made base : ℕ) where
  -- where an outcome says so of one of them, its run has gone since
  abbrev pub IsTrulySince : (ℕ → List Done) → List LogRecord → AskLog → Type 0
  IsTrulySince took log entry = (generation : ℕ) → entry.outcome ≡ Freed generation → entry.from ≡ who → made < entry.number
      → IsFreedSince base took log generation entry

  -- so it is with each outcome
  abbrev pub AreTrulySince : (ℕ → List Done) → List LogRecord → List AskLog → Type 0
  AreTrulySince took log asks = All (IsTrulySince took log) asks

  truly_later : (took later : ℕ → List Done) (log records : List LogRecord) → AreLater took later → (entry : AskLog)
      → IsTrulySince took log entry → IsTrulySince later (log ++ records) entry
  truly_later took later log records grown entry truly generation is own past =
      let its = truly generation is own past in
      record {
        heap = its.heap;
        run = its.run;
        its = stays_at took later grown entry.from (entry.number - 1) (GaveUp its.heap its.run) its.its;
        gone = gone_later base log records generation generation its.run its.gone (omega arith);
      }

  pub freed_later : (took later : ℕ → List Done) (old new : List LogRecord) (asks : List AskLog) → AreLater took later → Grew old new
      → AreTrulySince took old asks → AreTrulySince later new asks
  freed_later took later old new asks grown grew are =
      subst (λ log. AreTrulySince later log asks) (sym grew.is)
      (All-weaker (IsTrulySince took old) (IsTrulySince later (old ++ grew.more)) (truly_later took later old grew.more grown) asks are)

  -- a grant, a refusal and a stale outcome don't say so
  pub not_freed : (took : ℕ → List Done) (log : List LogRecord) (entry : AskLog) → is_grant_or_refusal entry.outcome ≡ true
      → IsTrulySince took log entry
  not_freed took log entry is generation freed own past =
      let wrong : true ≡ false = sym is ∙ ap is_grant_or_refusal freed in
      cc

  pub stale_unfreed : (took : ℕ → List Done) (log : List LogRecord) (entry : AskLog) → is_stale entry.outcome ≡ true
      → IsTrulySince took log entry
  stale_unfreed took log entry is generation freed own past =
      let wrong : true ≡ false = sym is ∙ ap is_stale freed in
      cc
