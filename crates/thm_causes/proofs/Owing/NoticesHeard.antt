-- Notices that have an outcome have that of a run that has gone back, so those that have none are among the asks and notices without one.
use Rattle.std.proofs.Common.{◌≡◌, ◌∙◌, ◌⊎◌, ℕ, zero, suc, ◌+◌, ◌-◌, ◌≤◌, Bool, true, false, not, ◌||◌, ◌==◌, cond, List, [], ◌∷◌, ◌++◌, length, Some, inl, inr, refl, sym, ap, subst, arith, append_assoc, length-append}
use Rattle.std.specs.Prelude.{find, slice_get}
use Rattle.std.specs.List.{All, list_any}
use Rattle.std.specs.Option.{option_map_or}
use Rattle.std.proofs.lemmas.Bool.{and_parts, cases_Bool, cases_lt, eqb-true}
use Rattle.std.proofs.lemmas.List.Elements.{All-head, All-tail}
use Rattle.hp_log.specs.declared.log_record.LogRecord.{LogRecord}
use Rattle.hp_proc.specs.Acting.{AreAsked}
use Rattle.hp_proc.specs.Courses.{numbered_in}
use Rattle.hp_proc.specs.Doing.{Done}
use Rattle.hp_proc.specs.Doing.Done.{Asked, GaveUp}
use Rattle.hp_proc.specs.Outcomes.{IsOfATrace, IsOfATraceUnlessStale, IsOutcomeOf}
use Rattle.hp_base.specs.declared.row.Run.{Run}
use Rattle.hp_segs.specs.SegsView.{is_outcome_for, is_stale}
use Rattle.hp_segs.specs.declared.outcome.AskLog.{AskLog}
use Rattle.hp_segs.specs.declared.outcome.Outcome.{Outcome}
use Rattle.hp_segs.specs.declared.outcome.Outcome.TheVariants.{Freed, Granted, Refused, Stale}
use Rattle.thm_causes.specs.Notices.{has_freed, is_freed, unfreed_in}
use Rattle.thm_causes.specs.Outcomes.{unanswered_among}
use Rattle.thm_causes.proofs.Told.{unanswered_next}

-- what a participant took numbers for, so many
pub made_within : (log : List LogRecord) (asks : List AskLog) (who before after : ℕ) (trace : List Done) → AreAsked log asks who before after trace
    → before + length (numbered_in trace) ≤ after
unfolding AreAsked
made_within log asks who before after [] are = omega (arith, are)
made_within log asks who before after (Asked asked run ∷ trace) are =
    omega (arith, made_within log asks who are.0 after trace are.2, are.1.number)
made_within log asks who before after (GaveUp heap run ∷ trace) are = omega (arith, made_within log asks who (before + 1) after trace are)
made_within log asks who before after (_ ∷ trace) are = made_within log asks who before after trace are

-- an outcome of a run that was given up says that it has gone back
freed_of : (log : List LogRecord) (heap : ℕ) (run : Run) (outcome : Outcome) → IsOutcomeOf log outcome (GaveUp heap run) → is_freed outcome ≡ true
freed_of log heap run (Freed generation) is = refl
freed_of log heap run (Granted generation) is = elim is [ ]
freed_of log heap run (Refused cause) is = elim is [ ]
freed_of log heap run (Stale done) is = elim is [ ]

seam : (done : List Done) (one : Done) (more : List Done) → slice_get (done ++ one ∷ more) (length done) ≡ Some one
seam [] one more = refl
seam (first ∷ done) one more = seam done one more

module _ (log : List LogRecord) (all : List AskLog) (did : ℕ → List Done) (who : ℕ) where
  -- the first outcome of a notice is one
  first_freed : (asks : List AskLog) → All (IsOfATraceUnlessStale log did) asks → (heap : ℕ) (run : Run) (done more : List Done)
      → numbered_in (did who) ≡ done ++ GaveUp heap run ∷ more → list_any (is_outcome_for who (length done + 1)) asks ≡ true
      → has_freed asks who (length done + 1) ≡ true
  first_freed [] outcomes heap run done more are any = cc
  first_freed (entry ∷ asks) outcomes heap run done more are any =
      elim (cases_Bool (is_outcome_for who (length done + 1) entry)) [
        | inr other ↦
            ap (λ (b : Bool). option_map_or (λ (entry : AskLog). is_freed entry.outcome)
            (cond b (Some entry) (find (is_outcome_for who (length done + 1)) asks)) false) other
            ∙ first_freed asks (All-tail (IsOfATraceUnlessStale log did) entry asks outcomes) heap run done more are
            (or_rest (is_outcome_for who (length done + 1) entry) (list_any (is_outcome_for who (length done + 1)) asks) other any)
        | inl its ↦
            ap (λ (b : Bool). option_map_or (λ (entry : AskLog). is_freed entry.outcome)
            (cond b (Some entry) (find (is_outcome_for who (length done + 1)) asks)) false) its
            ∙ freed_entry its
      ]
    where
      or_rest : (a b : Bool) → a ≡ false → (a || b) ≡ true → b ≡ true
      or_rest true b none any = cc
      or_rest false b none any = any

      not_true : (b : Bool) → not b ≡ true → b ≡ false
      not_true true is = cc
      not_true false is = refl

      freed_entry : is_outcome_for who (length done + 1) entry ≡ true → is_freed entry.outcome ≡ true
      freed_entry its =
          let own = and_parts (entry.from == who) _ its in
          let rest = and_parts (entry.number == (length done + 1)) _ own.1 in
          let from : entry.from ≡ who = eqb-true entry.from who own.0 in
          let number : entry.number ≡ length done + 1 = eqb-true entry.number (length done + 1) rest.0 in
          let fresh : is_stale entry.outcome ≡ false = not_true (is_stale entry.outcome) rest.1 in
          let of : IsOfATrace log did entry = All-head (IsOfATraceUnlessStale log did) entry asks outcomes fresh in
          let place : entry.number - 1 ≡ length done = omega (arith, number) in
          let at : slice_get (numbered_in (did who)) (length done) ≡ Some (GaveUp heap run) =
          ap (λ (numbers : List Done). slice_get numbers (length done)) are ∙ seam done (GaveUp heap run) more in
          let found : slice_get (numbered_in (did who)) (length done) ≡ Some of.done =
          ap (λ (n : ℕ). slice_get (numbered_in (did who)) n) (sym place)
          ∙ ap (λ (from : ℕ). slice_get (numbered_in (did from)) (entry.number - 1)) (sym from)
          ∙ of.its in
          let both : Some of.done ≡ Some (GaveUp heap run) = sym found ∙ at in
          let same : of.done ≡ GaveUp heap run = cc in
          freed_of log heap run entry.outcome (subst (IsOutcomeOf log entry.outcome) same of.kind)

  module _ (outcomes : All (IsOfATraceUnlessStale log did) all) where
    one_by : (heap : ℕ) (run : Run) (done more : List Done) → numbered_in (did who) ≡ done ++ GaveUp heap run ∷ more → (any : Bool)
        → list_any (is_outcome_for who (length done + 1)) all ≡ any → cond (has_freed all who (length done + 1)) 0 1 ≤ cond any 0 1
    one_by heap run done more are true is =
        let none : ◌≡◌ {A = ℕ} (cond (has_freed all who (length done + 1)) 0 1) 0 =
        ap (λ (b : Bool). cond b 0 1) (first_freed all outcomes heap run done more are is) in
        omega (arith, none)
    one_by heap run done more are false is = at_most (has_freed all who (length done + 1))
      where
        at_most : (b : Bool) → cond b 0 1 ≤ 1
        at_most true = omega arith
        at_most false = omega arith

    next_one : (n : ℕ) → unanswered_among all who (n + 1)
        ≡ unanswered_among all who n + cond (list_any (is_outcome_for who (n + 1)) all) 0 1
    next_one n =
        subst (λ (k : ℕ). unanswered_among all who k ≡ unanswered_among all who n + cond (list_any (is_outcome_for who k) all) 0 1)
        (one_more n) (unanswered_next all who n)
      where
        one_more : (n : ℕ) → suc n ≡ n + 1
        one_more n = omega arith

    behind : (done : List Done) (one : Done) (trace : List Done) → numbered_in (did who) ≡ done ++ one ∷ numbered_in trace
        → numbered_in (did who) ≡ (done ++ one ∷ []) ++ numbered_in trace
    behind done one trace are = are ∙ sym (append_assoc done (one ∷ []) (numbered_in trace))

    one_longer : (done : List Done) (one : Done) → length (done ++ one ∷ []) ≡ length done + 1
    one_longer done one = length-append done (one ∷ [])

    sums : (longer long more : ℕ) → longer ≡ long + 1 → longer + more ≡ long + suc more
    sums longer long more is = omega (arith, is)

    -- those of a trace are among those of its numbers
    among : (done trace : List Done) → numbered_in (did who) ≡ done ++ numbered_in trace
        → unfreed_in all who (length done + 1) trace + unanswered_among all who (length done)
        ≤ unanswered_among all who (length done + length (numbered_in trace))
    among done [] are =
        let same : unanswered_among all who (length done) ≡ unanswered_among all who (length done + 0) =
        ap (unanswered_among all who) (none_more (length done)) in
        omega (arith, same)
      where
        none_more : (n : ℕ) → n ≡ n + 0
        none_more n = omega arith
    among done (Asked asked run ∷ trace) are =
        let rest = among (done ++ Asked asked run ∷ []) trace (behind done (Asked asked run) trace are) in
        let long = one_longer done (Asked asked run) in
        let here : unfreed_in all who (length (done ++ Asked asked run ∷ []) + 1) trace ≡ unfreed_in all who (length done + 1 + 1) trace =
        ap (λ (n : ℕ). unfreed_in all who (n + 1) trace) long in
        let at : unanswered_among all who (length (done ++ Asked asked run ∷ [])) ≡ unanswered_among all who (length done + 1) =
        ap (unanswered_among all who) long in
        let to : unanswered_among all who (length (done ++ Asked asked run ∷ []) + length (numbered_in trace))
        ≡ unanswered_among all who (length done + suc (length (numbered_in trace))) =
        ap (unanswered_among all who) (sums (length (done ++ Asked asked run ∷ [])) (length done) (length (numbered_in trace)) long) in
        omega (arith, rest, here, at, to, next_one (length done))
    among done (GaveUp heap run ∷ trace) are =
        let rest = among (done ++ GaveUp heap run ∷ []) trace (behind done (GaveUp heap run) trace are) in
        let long = one_longer done (GaveUp heap run) in
        let here : unfreed_in all who (length (done ++ GaveUp heap run ∷ []) + 1) trace ≡ unfreed_in all who (length done + 1 + 1) trace =
        ap (λ (n : ℕ). unfreed_in all who (n + 1) trace) long in
        let at : unanswered_among all who (length (done ++ GaveUp heap run ∷ [])) ≡ unanswered_among all who (length done + 1) =
        ap (unanswered_among all who) long in
        let to : unanswered_among all who (length (done ++ GaveUp heap run ∷ []) + length (numbered_in trace))
        ≡ unanswered_among all who (length done + suc (length (numbered_in trace))) =
        ap (unanswered_among all who) (sums (length (done ++ GaveUp heap run ∷ [])) (length done) (length (numbered_in trace)) long) in
        let own = one_by heap run done (numbered_in trace) are (list_any (is_outcome_for who (length done + 1)) all) refl in
        omega (arith, rest, here, at, to, next_one (length done), own)
    among done (_ ∷ trace) are = among done trace are

    pub all_among : unfreed_in all who 1 (did who) ≤ unanswered_among all who (length (numbered_in (did who)))
    all_among =
        let whole : unfreed_in all who 1 (did who) + unanswered_among all who 0
        ≤ unanswered_among all who (0 + length (numbered_in (did who))) = among [] (did who) refl in
        let same : unanswered_among all who (0 + length (numbered_in (did who)))
        ≡ unanswered_among all who (length (numbered_in (did who))) =
        ap (unanswered_among all who) (none_first (length (numbered_in (did who)))) in
        omega (arith, whole, same)
      where
        none_first : (n : ℕ) → 0 + n ≡ n
        none_first n = omega arith

-- more numbers have no fewer without an outcome
pub unanswered_rises : (asks : List AskLog) (who low high : ℕ) → low ≤ high → unanswered_among asks who low ≤ unanswered_among asks who high
unanswered_rises asks who low zero within =
    let same : unanswered_among asks who low ≡ unanswered_among asks who 0 = ap (unanswered_among asks who) (at_zero low within) in
    omega (arith, same)
  where
    at_zero : (low : ℕ) → low ≤ 0 → low ≡ 0
    at_zero low within = omega (arith, within)
unanswered_rises asks who low (suc high) within =
    elim (cases_at low high within) [
      | inl same ↦ let its : unanswered_among asks who low ≡ unanswered_among asks who (suc high) = ap (unanswered_among asks who) same in omega (arith, its)
      | inr below ↦ omega (arith, unanswered_rises asks who low high below, unanswered_next asks who high)
    ]
  where
    cases_at : (low high : ℕ) → low ≤ suc high → (low ≡ suc high) ⊎ (low ≤ high)
    cases_at low high within = elim (cases_lt high low) [
      | inl past ↦ inl (omega (arith, past, within))
      | inr before ↦ inr before
    ]
