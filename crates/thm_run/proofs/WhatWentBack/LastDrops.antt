-- The last Drop of a run among the first records of a log: where one came since there were so many, it is no earlier than that.
use Rattle.std.proofs.Common.{◌≡◌, ◌∙◌, ◌==◌, ◌&&◌, ℕ, zero, suc, ◌+◌, ◌≤◌, Bool, true, List, [], ◌∷◌, drop, length, take, Some, refl, ap, sym, subst, arith, if◌then◌else◌}
use Rattle.std.specs.List.{slice_get}
use Rattle.std.proofs.lemmas.Bool.{cond-true, cond_both, eq-eqb}
use Rattle.std.proofs.lemmas.List.{length-take-le, take-append-drop}
use Rattle.std.proofs.lemmas.Option.{same_Some}
use Rattle.hp_base.specs.declared.row.Run.{Run}
use Rattle.hp_log.specs.declared.log_record.LogRecord.{LogRecord}
use Rattle.hp_log.specs.declared.log_record.LogRecord.TheVariants.{Drop}
use Rattle.hp_segs.proofs.AskFacts.Settled.{get_before}
use Rattle.thm_run.specs.Freed.{before_drop, is_drop_of}
use Rattle.thm_run.proofs.WhatWentBack.Gone.{HasGoneSince}

-- as many records as a generation say of a run that it has gone: its last Drop among them came since there were so many, and there are so
-- many
abbrev pub IsShownBetween : List LogRecord → Run → ℕ → ℕ → ℕ → Type 0
IsShownBetween log run generation base most = (base ≤ before_drop run 0 0 (take generation log))
    × ((before_drop run 0 0 (take generation log) ≤ generation) × (generation ≤ most))

-- a Drop of the run is one
its_drop : (run : Run) → is_drop_of run (Drop run) ≡ true
its_drop run =
    ap (λ (same : Bool). same && ((run.first == run.first) && (run.count == run.count))) (eq-eqb run.list run.list refl)
    ∙ (ap (λ (same : Bool). same && (run.count == run.count)) (eq-eqb run.first run.first refl) ∙ eq-eqb run.count run.count refl)

module _ (run : Run) where
  -- what is found among later records is no earlier
  still_high : (log : List LogRecord) (base none at : ℕ) → base ≤ none → base ≤ at → base ≤ before_drop run none at log
  still_high [] base none at high past = high
  still_high (entry ∷ log) base none at high past =
      still_high log base (if is_drop_of run entry then at else none) (at + 1)
      (cond_both (is_drop_of run entry) at none (λ n. base ≤ n) (λ its. past) (λ other. high)) (omega (arith, past))

  -- and no earlier than any of them
  found_high : (log : List LogRecord) (base none at place : ℕ) → base ≤ at + place → slice_get log place ≡ Some (Drop run)
      → base ≤ before_drop run none at log
  found_high [] base none at place high here = cc
  found_high (entry ∷ log) base none at zero high here =
      let same : entry ≡ Drop run = same_Some entry (Drop run) here in
      let first : (if is_drop_of run entry then at else none) ≡ at =
      cond-true (is_drop_of run entry) at none (ap (is_drop_of run) same ∙ its_drop run) in
      still_high log base (if is_drop_of run entry then at else none) (at + 1) (subst (λ n. base ≤ n) (sym first) (omega (arith, high)))
      (omega (arith, high))
  found_high (entry ∷ log) base none at (suc place) high here =
      found_high log base (if is_drop_of run entry then at else none) (at + 1) place (omega (arith, high)) here

  -- there are no more before it than there are
  found_within : (log : List LogRecord) (none at : ℕ) → none ≤ at → before_drop run none at log ≤ at + length log
  found_within [] none at low = omega (arith, low)
  found_within (entry ∷ log) none at low =
      let rest = found_within log (if is_drop_of run entry then at else none) (at + 1)
      (cond_both (is_drop_of run entry) at none (λ n. n ≤ at + 1) (λ its. omega arith) (λ other. omega (arith, low))) in
      omega (arith, rest)

  -- so it is with one that came since
  pub shown_between : (log : List LogRecord) (generation base : ℕ) → HasGoneSince base log generation run → generation ≤ length log
      → IsShownBetween log run generation base (length log)
  shown_between log generation base gone within =
      let long : length (take generation log) ≡ generation = length-take-le generation log within in
      let here : slice_get (take generation log) gone.place ≡ Some (Drop run) =
      sym (get_before (take generation log) (drop generation log) gone.place (omega (arith, long, gone.before)))
      ∙ (ap (λ (log : List LogRecord). slice_get log gone.place) (take-append-drop generation log) ∙ gone.dropped) in
      let most = found_within (take generation log) 0 0 (omega arith) in
      (found_high (take generation log) base 0 0 gone.place (omega (arith, gone.since)) here, (omega (arith, most, long), within))
