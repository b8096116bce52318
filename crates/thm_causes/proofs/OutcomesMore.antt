-- Counts of outcomes, closed numbers and failures after one outcome more.
use Rattle.std.proofs.Common.{◌≡◌, ℕ, ◌+◌, Bool, ◌&&◌, ◌||◌, ◌==◌, cond, List, [], ◌∷◌, ◌++◌, count_by, ap, ◌∙◌, ◌≤◌, true, false, not, max, Some, inl, inr, refl, sym, subst, arith, if◌then◌else◌}
use Rattle.std.proofs.Math.Bool.{or-false}
use Rattle.std.proofs.lemmas.List.Folds.{list_any-append}
use Rattle.std.proofs.lemmas.List.Sums.{sum_by_push}
use Rattle.std.proofs.lemmas.Bool.{and_parts, and_right, eqb-true, or_from}
use Rattle.std.proofs.lemmas.List.Elements.{Contains-push_cases}
use Rattle.hp_segs.specs.LaterSteps.{has_failed_from, outcome_fails_from}
use Rattle.hp_segs.specs.SegsView.{closed_number, granted_by, is_stale}
use Rattle.hp_segs.specs.declared.outcome.AskLog.{AskLog}
use Rattle.thm_causes.specs.Outcomes.{is_late, is_withdrawn, late_outcomes, refuses, stale_outcomes, withdrawn_outcomes}
use Rattle.thm_causes.specs.Failing.{AreGrantsWithin}
use Rattle.hp_segs.proofs.AskFacts.ClosedLemmas.{closed_push}

pub count_push : {X : Type 0} (p : X → Bool) (xs : List X) (x : X) → count_by p (xs ++ x ∷ []) ≡ count_by p xs + cond (p x) 1 0
count_push p xs x = sum_by_push (λ x. cond (p x) 1 0) xs x

-- a count stays where what comes doesn't pass
nothing_more : (n : ℕ) (b : Bool) → b ≡ false → n + cond b 1 0 ≡ n
nothing_more n b is = ap (λ (c : Bool). n + cond c 1 0) is ∙ omega arith

greater : (done number bound : ℕ) (counts : Bool) → done ≤ bound → (counts ≡ true → number ≤ bound)
    → (if counts then max done number else done) ≤ bound
greater done number bound true before sent = let its : number ≤ bound = sent refl in omega arith
greater done number bound false before sent = before

-- grants stay within a number where one more is within it
pub granted_within : (bound : ℕ) (asks : List AskLog) (entry : AskLog) → AreGrantsWithin bound asks
    → ((generation : ℕ) → granted_by entry.outcome ≡ Some generation → generation ≤ bound) → AreGrantsWithin bound (asks ++ entry ∷ [])
granted_within bound asks last within its = λ entry generation among is.
    elim (Contains-push_cases asks last entry among) [
      | inl before ↦ within entry generation before is
      | inr is_last ↦ its generation (ap (λ (entry : AskLog). granted_by entry.outcome) is_last ∙ is)
    ]

module _ (asks : List AskLog) (entry : AskLog) (who : ℕ) where
  pub late_push : late_outcomes who (asks ++ entry ∷ []) ≡ late_outcomes who asks + cond (refuses (is_late who) entry.outcome) 1 0
  late_push = count_push (λ entry. refuses (is_late who) entry.outcome) asks entry

  pub withdrawn_push : withdrawn_outcomes who (asks ++ entry ∷ [])
      ≡ withdrawn_outcomes who asks + cond ((entry.from == who) && refuses is_withdrawn entry.outcome) 1 0
  withdrawn_push = count_push (λ entry. (entry.from == who) && refuses is_withdrawn entry.outcome) asks entry

  pub stale_push : stale_outcomes who (asks ++ entry ∷ [])
      ≡ stale_outcomes who asks + cond ((entry.from == who) && is_stale entry.outcome) 1 0
  stale_push = count_push (λ entry. (entry.from == who) && is_stale entry.outcome) asks entry

  -- closed numbers: closed_push of hp_segs
  pub failed_push : (call : ℕ) → has_failed_from (asks ++ entry ∷ []) who call
      ≡ (has_failed_from asks who call || outcome_fails_from who call entry.outcome)
  failed_push call =
      list_any-append (λ entry. outcome_fails_from who call entry.outcome) asks (entry ∷ [])
      ∙ ap (λ b. has_failed_from asks who call || b) (or-false (outcome_fails_from who call entry.outcome))

  -- one that is none of these leaves each count as it was
  pub late_same : refuses (is_late who) entry.outcome ≡ false → late_outcomes who (asks ++ entry ∷ []) ≡ late_outcomes who asks
  late_same isnt = late_push ∙ nothing_more (late_outcomes who asks) _ isnt

  pub withdrawn_same : refuses is_withdrawn entry.outcome ≡ false
      → withdrawn_outcomes who (asks ++ entry ∷ []) ≡ withdrawn_outcomes who asks
  withdrawn_same isnt =
      withdrawn_push
      ∙ nothing_more (withdrawn_outcomes who asks) _ (and_right (entry.from == who) (refuses is_withdrawn entry.outcome) isnt)

  pub stale_same : is_stale entry.outcome ≡ false → stale_outcomes who (asks ++ entry ∷ []) ≡ stale_outcomes who asks
  stale_same isnt = stale_push ∙ nothing_more (stale_outcomes who asks) _ (and_right (entry.from == who) (is_stale entry.outcome) isnt)

  -- and no failure comes by one that is none
  pub failed_same : (call : ℕ) → has_failed_from asks who call ≡ false → outcome_fails_from who call entry.outcome ≡ false
      → has_failed_from (asks ++ entry ∷ []) who call ≡ false
  failed_same call none isnt =
      failed_push call ∙ or_from (has_failed_from asks who call) (outcome_fails_from who call entry.outcome) none isnt

  -- a closed number stays within a bound where one that comes from the same is
  pub closed_within : (bound : ℕ) → closed_number asks who ≤ bound → (entry.from ≡ who → entry.number ≤ bound)
      → closed_number (asks ++ entry ∷ []) who ≤ bound
  closed_within bound before sent =
      subst (λ (n : ℕ). n ≤ bound) (sym (closed_push asks entry who))
      (greater (closed_number asks who) entry.number bound ((entry.from == who) && not (is_stale entry.outcome)) before
      (λ counts. sent (eqb-true entry.from who (and_parts (entry.from == who) _ counts).0)))
