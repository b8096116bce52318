-- What a trace shows of the log with its notices: it is what its asks and looks show where it gives up nothing, it stays where what is looked
-- up does, and it rises.
use Rattle.std.proofs.Common.{◌≡◌, ◌∙◌, ℕ, ◌+◌, ◌<◌, ◌≤◌, Bool, true, false, ◌||◌, cond, List, [], ◌∷◌, ◌++◌, length, Option, Some, None, refl, ap, sym, subst, arith, true≢false}
use Rattle.std.specs.List.{find, list_any, slice_get}
use Rattle.std.proofs.lemmas.Bool.{false_from_ne_true}
use Rattle.std.proofs.lemmas.List.{take-append-le}
use Rattle.hp_base.specs.declared.row.Run.{Run}
use Rattle.hp_heap.proofs.Members.{find_some}
use Rattle.hp_log.specs.declared.log_record.LogRecord.{LogRecord}
use Rattle.hp_segs.specs.SegsView.{is_outcome_for}
use Rattle.hp_segs.specs.declared.outcome.AskLog.{AskLog}
use Rattle.hp_segs.specs.declared.outcome.Outcome.{Outcome}
use Rattle.hp_segs.specs.declared.outcome.Outcome.TheVariants.{Freed, Granted, Refused, Stale}
use Rattle.hp_proc.specs.Courses.{numbered_in}
use Rattle.hp_proc.specs.Doing.{Done}
use Rattle.hp_proc.specs.Doing.Done.{Asked, CaughtUp, GaveUp, Looked}
use Rattle.hp_proc.specs.Seen.{seen_by, seen_by_ask, seen_in}
use Rattle.hp_proc.proofs.LawLemmas.{find_stays}
use Rattle.thm_run.proofs.GrownHeaps.GrantTurns.{among_read}
use Rattle.thm_run.proofs.WhatWentBack.LastDrops.{IsShownBetween}
use Rattle.thm_run.proofs.GrownHeaps.LaterGrants.{GrantsLater, failed_stays}
use Rattle.thm_run.proofs.Rising.{Rises}
use Rattle.thm_run.proofs.TellsLast.{TellsLast}
use Rattle.thm_run.specs.Freed.{before_drop, shown_by, shown_by_notice, shown_in}

-- WHAT IS LOOKED UP

first_off : (first rest : Bool) → (first || rest) ≡ false → (first ≡ false) × (rest ≡ false)
first_off true rest none = absurd (true≢false none)
first_off false rest none = (refl, none)

first_none : {X : Type 0} (first : Bool) (x : X) (rest : Option X) → cond first (Some x) rest ≡ None → (first ≡ false) × (rest ≡ None)
first_none true x rest none = cc
first_none false x rest none = (refl, none)

none_found : {X : Type 0} (p : X → Bool) (xs : List X) → list_any p xs ≡ false → find p xs ≡ None
none_found p [] none = refl
none_found p (x ∷ xs) none =
    let off = first_off (p x) (list_any p xs) none in
    ap (λ (first : Bool). cond first (Some x) (find p xs)) off.0 ∙ none_found p xs off.1

none_any : {X : Type 0} (p : X → Bool) (xs : List X) → find p xs ≡ None → list_any p xs ≡ false
none_any p [] none = refl
none_any p (x ∷ xs) none =
    let off = first_none (p x) x (find p xs) none in
    ap (λ (first : Bool). first || list_any p xs) off.0 ∙ none_any p xs off.1

found_same : {X : Type 0} (p : X → Bool) (xs more : List X) → (list_any p (xs ++ more) ≡ true → list_any p xs ≡ true) → (found : Option X)
    → find p xs ≡ found → find p (xs ++ more) ≡ find p xs
found_same p xs more late (Some x) is = find_stays p xs more x is ∙ sym is
found_same p xs more late None is =
    none_found p (xs ++ more)
    (false_from_ne_true (list_any p (xs ++ more)) (λ there. true≢false (sym (late there) ∙ none_any p xs is)))
    ∙ sym is

-- what is looked up is the same with more after, where nothing comes that passes if none did
pub find_same : {X : Type 0} (p : X → Bool) (xs more : List X) → (list_any p (xs ++ more) ≡ true → list_any p xs ≡ true)
    → find p (xs ++ more) ≡ find p xs
find_same p xs more late = found_same p xs more late (find p xs) refl

-- RECORDS AND OUTCOMES COME BEHIND

-- no outcome says of more records than there are that a run had gone by then
abbrev pub AreFreedWithin : List LogRecord → List AskLog → Type 0
AreFreedWithin log asks = (place generation : ℕ) (entry : AskLog) → slice_get asks place ≡ Some entry → entry.outcome ≡ Freed generation
    → generation ≤ length log

module _ (log more : List LogRecord) (asks others : List AskLog) (later : GrantsLater (length log) others)
    (within : (place : ℕ) (entry : AskLog) → slice_get asks place ≡ Some entry → entry.at ≤ length log)
    (freed_within : AreFreedWithin log asks) where
  -- what is looked up of a number is the same
  abbrev pub StaysFound : ℕ → ℕ → Type 0
  StaysFound who number = find (is_outcome_for who number) (asks ++ others) ≡ find (is_outcome_for who number) asks

  ask_stays : (who number heap : ℕ) (found : Option AskLog) → find (is_outcome_for who number) asks ≡ found
      → seen_by_ask (log ++ more) (asks ++ others) heap found ≡ seen_by_ask log asks heap found
  ask_stays who number heap None is = refl
  ask_stays who number heap (Some entry) is =
      let read = among_read asks entry (find_some (is_outcome_for who number) asks entry is).1 in
      ap (λ failed. seen_by failed entry.at entry.outcome)
      (failed_stays log more asks others later heap entry.at (within read.0 entry read.1))

  outcome_stays : (run : Run) (place : ℕ) (entry : AskLog) (outcome : Outcome) → slice_get asks place ≡ Some entry
      → entry.outcome ≡ outcome → shown_by (log ++ more) run outcome ≡ shown_by log run outcome
  outcome_stays run place entry (Freed generation) here is =
      ap (λ (records : List LogRecord). before_drop run 0 0 records ∷ generation ∷ [])
      (take-append-le generation log more (freed_within place generation entry here is))
  outcome_stays run place entry (Granted generation) here is = refl
  outcome_stays run place entry (Refused cause) here is = refl
  outcome_stays run place entry (Stale done) here is = refl

  notice_stays : (who number : ℕ) (run : Run) (found : Option AskLog) → find (is_outcome_for who number) asks ≡ found
      → shown_by_notice (log ++ more) run found ≡ shown_by_notice log run found
  notice_stays who number run None is = refl
  notice_stays who number run (Some entry) is =
      let read = among_read asks entry (find_some (is_outcome_for who number) asks entry is).1 in
      outcome_stays run read.0 entry entry.outcome read.1 refl

  -- what a trace shows stays
  pub shown_stays : (who number : ℕ) (trace : List Done)
      → ((n : ℕ) → number ≤ n → n < number + length (numbered_in trace) → StaysFound who n)
      → shown_in (log ++ more) (asks ++ others) who number trace ≡ shown_in log asks who number trace
  shown_stays who number [] same = refl
  shown_stays who number (Asked asked run ∷ trace) same =
      let one : seen_by_ask (log ++ more) (asks ++ others) asked.heap (find (is_outcome_for who number) (asks ++ others))
      ≡ seen_by_ask log asks asked.heap (find (is_outcome_for who number) asks) =
      ap (seen_by_ask (log ++ more) (asks ++ others) asked.heap) (same number (omega arith) (omega arith))
      ∙ ask_stays who number asked.heap (find (is_outcome_for who number) asks) refl in
      ap (λ shown. shown ++ shown_in (log ++ more) (asks ++ others) who (number + 1) trace) one
      ∙ ap (λ rest. seen_by_ask log asks asked.heap (find (is_outcome_for who number) asks) ++ rest)
      (shown_stays who (number + 1) trace (λ n low high. same n (omega (arith, low)) (omega (arith, high))))
  shown_stays who number (GaveUp heap run ∷ trace) same =
      let one : shown_by_notice (log ++ more) run (find (is_outcome_for who number) (asks ++ others))
      ≡ shown_by_notice log run (find (is_outcome_for who number) asks) =
      ap (shown_by_notice (log ++ more) run) (same number (omega arith) (omega arith))
      ∙ notice_stays who number run (find (is_outcome_for who number) asks) refl in
      ap (λ shown. shown ++ shown_in (log ++ more) (asks ++ others) who (number + 1) trace) one
      ∙ ap (λ rest. shown_by_notice log run (find (is_outcome_for who number) asks) ++ rest)
      (shown_stays who (number + 1) trace (λ n low high. same n (omega (arith, low)) (omega (arith, high))))
  shown_stays who number (Looked records ∷ trace) same = ap (λ rest. records ∷ rest) (shown_stays who number trace same)
  shown_stays who number (_ ∷ trace) same = shown_stays who number trace same

-- A TRACE THAT GIVES UP A RUN AT LAST

module _ (log : List LogRecord) (asks : List AskLog) (who : ℕ) where
  -- where something was asked for before, a trace gives up nothing
  none_told : (number : ℕ) (trace : List Done) → TellsLast true trace → shown_in log asks who number trace ≡ seen_in log asks who number trace
  none_told number [] tells = refl
  none_told number (Asked asked run ∷ trace) tells =
      ap (λ rest. seen_by_ask log asks asked.heap (find (is_outcome_for who number) asks) ++ rest) (none_told (number + 1) trace tells)
  none_told number (GaveUp heap run ∷ trace) tells = absurd (true≢false tells.0)
  none_told number (Looked records ∷ trace) tells = ap (λ rest. records ∷ rest) (none_told number trace tells)
  none_told number (_ ∷ trace) tells = none_told number trace tells

  module _ (floor most number : ℕ) (within : floor ≤ most) where
    -- where the outcome of that number says that the run has gone, its Drop came between
    abbrev pub IsFreedBetween : Run → Type 0
    IsFreedBetween run = (entry : AskLog) (generation : ℕ) → find (is_outcome_for who number) asks ≡ Some entry
        → entry.outcome ≡ Freed generation → IsShownBetween log run generation floor most

    outcome_rises : (run : Run) → IsFreedBetween run → (entry : AskLog) (outcome : Outcome)
        → find (is_outcome_for who number) asks ≡ Some entry → entry.outcome ≡ outcome → Rises floor most (shown_by log run outcome ++ [])
    outcome_rises run freed entry (Freed generation) found is = freed entry generation found is
    outcome_rises run freed entry (Granted generation) found is = within
    outcome_rises run freed entry (Refused cause) found is = within
    outcome_rises run freed entry (Stale done) found is = within

    notice_rises : (run : Run) → IsFreedBetween run → (found : Option AskLog) → find (is_outcome_for who number) asks ≡ found
        → Rises floor most (shown_by_notice log run found ++ [])
    notice_rises run freed None is = within
    notice_rises run freed (Some entry) is = outcome_rises run freed entry entry.outcome is refl

    -- what it shows rises where its asks and looks do, and where its notice does
    pub shown_rises : (trace : List Done) → TellsLast false trace
        → ((heap : ℕ) (run : Run) → slice_get (numbered_in trace) 0 ≡ Some (GaveUp heap run) → IsFreedBetween run)
        → Rises floor most (seen_in log asks who number trace) → Rises floor most (shown_in log asks who number trace)
    shown_rises [] tells freed rises = rises
    shown_rises (Asked asked run ∷ trace) tells freed rises =
        subst (Rises floor most) (sym (none_told number (Asked asked run ∷ trace) tells)) rises
    shown_rises (GaveUp heap run ∷ trace) tells freed rises =
        subst (λ (rest : List Done). Rises floor most (shown_in log asks who number (GaveUp heap run ∷ rest))) (sym tells.1)
        (notice_rises run (freed heap run refl) (find (is_outcome_for who number) asks) refl)
    shown_rises (Looked records ∷ trace) tells freed rises =
        subst (Rises floor most) (sym (none_told number (Looked records ∷ trace) tells)) rises
    shown_rises (CaughtUp to caught ∷ trace) tells freed rises =
        subst (Rises floor most) (sym (none_told number (CaughtUp to caught ∷ trace) tells)) rises
    shown_rises (_ ∷ trace) tells freed rises = shown_rises trace tells freed rises
