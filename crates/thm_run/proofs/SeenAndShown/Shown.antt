-- What grants and refusals show of the log: none shows less than one before it.
use Rattle.std.proofs.Common.{◌≡◌, ◌∙◌, ℕ, ◌+◌, ◌-◌, ◌<◌, ◌≤◌, Bool, true, false, not, ◌&&◌, List, [], ◌∷◌, length, Option, Some, None, nat_lt, inl, inr, refl, ap, sym, subst, arith}
use Rattle.std.specs.List.{slice_get}
use Rattle.std.specs.List.Sorted.{IsNonDecreasingBy}
use Rattle.std.specs.Option.{option_map_or}
use Rattle.std.proofs.lemmas.Bool.{and_parts, cases_lt, ltb-true, not-true}
use Rattle.std.proofs.lemmas.Option.{get_or_from_slice_get, slice_get_within}
use Rattle.hp_base.specs.declared.pool_line.PoolLine.{PoolLine}
use Rattle.hp_base.specs.declared.row.Run.{Run}
use Rattle.hp_log.specs.declared.log_record.LogRecord.{LogRecord}
use Rattle.hp_log.specs.declared.log_record.LogRecord.TheVariants.{Add, Drop}
use Rattle.hp_segs.specs.Causes.{HasCause}
use Rattle.hp_segs.specs.SegsView.{granted_by, is_grant_or_refusal}
use Rattle.hp_segs.specs.SoundAsks.{AreSettled, is_granted}
use Rattle.hp_segs.specs.declared.outcome.AskLog.{AskLog}
use Rattle.hp_segs.specs.declared.outcome.Outcome.{Outcome}
use Rattle.hp_segs.specs.declared.outcome.Outcome.TheVariants.{Freed, Granted, Refused, Stale}
use Rattle.hp_proc.specs.Seen.{adds_for, has_failed, seen_by}
use Rattle.thm_run.proofs.GrownHeaps.UngrantedAdds.{AreApart, HasItsCause, IsLevel, IsUngrantedAdd}

-- the first and the last number of records that a grant or a refusal shows
abbrev pub shown_first : Bool → ℕ → Outcome → ℕ
shown_first failed at (Granted generation) = generation - 1
shown_first true at (Refused cause) = at - 1
shown_first false at (Refused cause) = at
shown_first failed at (Stale done) = at
shown_first failed at (Freed generation) = at

abbrev pub shown_last : Bool → ℕ → Outcome → ℕ
shown_last failed at (Granted generation) = generation
shown_last true at (Refused cause) = at + 1
shown_last false at (Refused cause) = at
shown_last failed at (Stale done) = at
shown_last failed at (Freed generation) = at

-- it shows these two, and another outcome nothing
pub shows_two : (failed : Bool) (at : ℕ) (outcome : Outcome) → is_grant_or_refusal outcome ≡ true
    → seen_by failed at outcome ≡ shown_first failed at outcome ∷ shown_last failed at outcome ∷ []
shows_two failed at (Granted generation) is = refl
shows_two true at (Refused cause) is = refl
shows_two false at (Refused cause) is = refl
shows_two failed at (Stale done) is = cc
shows_two failed at (Freed generation) is = cc

pub shows_none : (failed : Bool) (at : ℕ) (outcome : Outcome) → is_grant_or_refusal outcome ≡ false → seen_by failed at outcome ≡ []
shows_none failed at (Granted generation) is = cc
shows_none true at (Refused cause) is = cc
shows_none false at (Refused cause) is = cc
shows_none failed at (Stale done) is = refl
shows_none failed at (Freed generation) is = refl

-- the record at a place adds a run
record IsAddAt (log : List LogRecord) (place : ℕ) : Type 0 where
  pub run : Run
  pub heap : ℕ
  pub added : slice_get log place ≡ Some (Add run heap)

adds_by : (log : List LogRecord) (heap place : ℕ) (found : Option LogRecord) → slice_get log place ≡ found
    → option_map_or (adds_for heap) found false ≡ true → IsAddAt log place
adds_by log heap place None here is = cc
adds_by log heap place (Some (Add run for)) here is = record { run = run; heap = for; added = here }
adds_by log heap place (Some (Drop run)) here is = cc

-- a growth that failed is an Add that is not granted
pub failed_add : (log : List LogRecord) (asks : List AskLog) (heap at : ℕ) → has_failed log asks heap at ≡ true → IsUngrantedAdd log asks at
failed_add log asks heap at is =
    let parts = and_parts (nat_lt 0 at) (option_map_or (adds_for heap) (slice_get log (at - 1)) false && not (is_granted asks at)) is in
    let more = and_parts (option_map_or (adds_for heap) (slice_get log (at - 1)) false) (not (is_granted asks at)) parts.1 in
    let adds = adds_by log heap (at - 1) (slice_get log (at - 1)) refl more.0 in
    record {
      some = ltb-true 0 at parts.0;
      run = adds.run;
      heap = adds.heap;
      added = adds.added;
      ungranted = not-true (is_granted asks at) more.1;
    }

-- what an outcome shows last is as many records as stand before it, or one more after a growth that failed
data IsLastShown (log : List LogRecord) (asks : List AskLog) (entry : AskLog) (last : ℕ) : Type 0 where
  at_once : last ≡ entry.at → IsLastShown log asks entry last
  behind_drop : last ≡ entry.at + 1 → IsUngrantedAdd log asks entry.at → IsLastShown log asks entry last

-- what it shows first is as many, or one less before an Add beside which nothing else is logged
data IsFirstShown (log : List LogRecord) (asks : List AskLog) (entry : AskLog) (first : ℕ) : Type 0 where
  at_once : first ≡ entry.at → IsFirstShown log asks entry first
  before_add : (run : Run) (heap : ℕ) → first + 1 ≡ entry.at → slice_get log (entry.at - 1) ≡ Some (Add run heap)
      → (IsLevel log asks entry.at entry → ⊥) → IsFirstShown log asks entry first

module _ (pools : List PoolLine) (log : List LogRecord) (asks : List AskLog) (entry : AskLog) where
  granted_apart : (generation : ℕ) → entry.outcome ≡ Granted generation → IsLevel log asks entry.at entry → ⊥
  granted_apart generation is level =
      let wrong : Some generation ≡ None = sym (ap granted_by is) ∙ level.ungranted in
      cc

  first_by : (before : List AskLog) (heap : ℕ) (failed : Bool) (outcome : Outcome) → entry.outcome ≡ outcome
      → has_failed log asks heap entry.at ≡ failed → HasCause pools log before entry outcome
      → IsFirstShown log asks entry (shown_first failed entry.at outcome)
  first_by before heap failed (Granted generation) is fails (ask, run, kept, same, add) =
      before_add run ask.heap (omega (arith, same, add.some)) add.added (granted_apart generation is)
  first_by before heap true (Refused cause) is fails caused =
      let add = failed_add log asks heap entry.at fails in
      before_add add.run add.heap (omega (arith, add.some)) add.added (λ level. level.kept add)
  first_by before heap false (Refused cause) is fails caused = at_once refl
  first_by before heap failed (Stale done) is fails caused = at_once refl
  first_by before heap failed (Freed generation) is fails caused = at_once refl

  last_by : (before : List AskLog) (heap : ℕ) (failed : Bool) (outcome : Outcome) → has_failed log asks heap entry.at ≡ failed
      → HasCause pools log before entry outcome → IsLastShown log asks entry (shown_last failed entry.at outcome)
  last_by before heap failed (Granted generation) fails (ask, run, kept, same, add) = at_once same
  last_by before heap true (Refused cause) fails caused = behind_drop refl (failed_add log asks heap entry.at fails)
  last_by before heap false (Refused cause) fails caused = at_once refl
  last_by before heap failed (Stale done) fails caused = at_once refl
  last_by before heap failed (Freed generation) fails caused = at_once refl

  abbrev pub first_of : ℕ → ℕ
  first_of heap = shown_first (has_failed log asks heap entry.at) entry.at entry.outcome

  abbrev pub last_of : ℕ → ℕ
  last_of heap = shown_last (has_failed log asks heap entry.at) entry.at entry.outcome

  module _ (caused : HasItsCause pools log entry) (heap : ℕ) where
    first_shown : IsFirstShown log asks entry (first_of heap)
    first_shown = first_by caused.before heap (has_failed log asks heap entry.at) entry.outcome refl refl caused.is.cause

    last_shown : IsLastShown log asks entry (last_of heap)
    last_shown = last_by caused.before heap (has_failed log asks heap entry.at) entry.outcome refl caused.is.cause

    first_low : (first : ℕ) → IsFirstShown log asks entry first → first ≤ entry.at
    first_low first (at_once is) = omega (arith, is)
    first_low first (before_add run heap is added apart) = omega (arith, is)

    last_high : (last : ℕ) → IsLastShown log asks entry last → entry.at ≤ last
    last_high last (at_once is) = omega (arith, is)
    last_high last (behind_drop is add) = omega (arith, is)

    -- it shows no less last than first
    pub shown_rises : first_of heap ≤ last_of heap
    shown_rises = omega (arith, first_low (first_of heap) first_shown, last_high (last_of heap) last_shown)

-- where no growth is open
module _ (log : List LogRecord) (asks : List AskLog) (settled : AreSettled log asks None) where
  -- the record after an Add that is not granted is its Drop
  dropped_next : (at : ℕ) (add : IsUngrantedAdd log asks at) → slice_get log at ≡ Some (Drop add.run)
  dropped_next at add =
      let next : at - 1 + 1 ≡ at = omega (arith, add.some) in
      subst (λ place. slice_get log place ≡ Some (Drop add.run)) next
      (settled (at - 1) add.run add.heap add.added refl (ap (is_granted asks) next ∙ add.ungranted))

  last_within : (entry : AskLog) (last : ℕ) → entry.at ≤ length log → IsLastShown log asks entry last → last ≤ length log
  last_within entry last within (at_once is) = omega (arith, within, is)
  last_within entry last within (behind_drop is add) =
      omega (arith, is, slice_get_within log entry.at (Drop add.run) (dropped_next entry.at add))

  -- no more than there are
  pub shown_within : (pools : List PoolLine) (entry : AskLog) → HasItsCause pools log entry → (heap : ℕ)
      → last_of pools log asks entry heap ≤ length log
  shown_within pools entry caused heap =
      last_within entry (last_of pools log asks entry heap) caused.is.within (last_shown pools log asks entry caused heap)

  not_next : (at later : ℕ) (run : Run) (heap : ℕ) → IsUngrantedAdd log asks at → slice_get log (later - 1) ≡ Some (Add run heap)
      → at + 1 ≡ later → ⊥
  not_next at later run heap add added next =
      let place : later - 1 ≡ at = omega (arith, next) in
      let wrong : Some (Drop add.run) ≡ Some (Add run heap) = sym (dropped_next at add) ∙ (ap (slice_get log) (sym place) ∙ added) in
      cc

  rises_later : (x y : AskLog) (last first : ℕ) → x.at < y.at → IsLastShown log asks x last → IsFirstShown log asks y first → last ≤ first
  rises_later x y last first later (at_once is) (at_once its) = omega (arith, is, its, later)
  rises_later x y last first later (at_once is) (before_add run heap its added apart) = omega (arith, is, its, later)
  rises_later x y last first later (behind_drop is add) (at_once its) = omega (arith, is, its, later)
  rises_later x y last first later (behind_drop is add) (before_add run heap its added apart) =
      omega (arith, is, its, later, not_next x.at y.at run heap add added)

  rises_level : (x y : AskLog) (last first : ℕ) → x.at ≡ y.at → IsLevel log asks x.at y → IsLastShown log asks x last
      → IsFirstShown log asks y first → last ≤ first
  rises_level x y last first same level (at_once is) (at_once its) = omega (arith, is, its, same)
  rises_level x y last first same level (at_once is) (before_add run heap its added apart) =
      absurd (apart (subst (λ at. IsLevel log asks at y) same level))
  rises_level x y last first same level (behind_drop is add) first_is = absurd (level.kept add)

  -- a later grant or refusal shows no less
  module _ (pools : List PoolLine) (base : ℕ) (apart : AreApart base log asks)
      (in_time : IsNonDecreasingBy (λ (entry : AskLog). entry.at) asks)
      (before later : ℕ) (x y : AskLog)
      (from : base ≤ before) (here : slice_get asks before ≡ Some x) (there : slice_get asks later ≡ Some y) (behind : before < later) where
    not_before : x.at ≤ y.at
    not_before =
        let one = ap (λ (entry : AskLog). entry.at) (get_or_from_slice_get asks before x x here) in
        let other = ap (λ (entry : AskLog). entry.at) (get_or_from_slice_get asks later y x there) in
        omega (arith, one, other, in_time before later x (omega (arith, behind)) (slice_get_within asks later y there))

    pub shown_later : HasItsCause pools log x → HasItsCause pools log y → is_grant_or_refusal x.outcome ≡ true
        → is_grant_or_refusal y.outcome ≡ true → (heap other : ℕ) → last_of pools log asks x heap ≤ first_of pools log asks y other
    shown_later caused its_cause shown shows heap other =
        let last = last_shown pools log asks x caused heap in
        let first = first_shown pools log asks y its_cause other in
        elim (cases_lt x.at y.at) [
          | inl less ↦ rises_later x y (last_of pools log asks x heap) (first_of pools log asks y other) less last first
          | inr level ↦
              let same : x.at ≡ y.at = omega (arith, level, not_before) in
              rises_level x y (last_of pools log asks x heap) (first_of pools log asks y other) same
              (apart before later x y from here there behind shown shows same) last first
        ]
