-- What one more stale outcome leaves of all that is read off the outcomes.
use Rattle.std.proofs.Common.{◌≡◌, ◌∙◌, ℕ, ◌+◌, Bool, true, false, cond, ◌&&◌, ◌||◌, ◌==◌, List, [], ◌∷◌, ◌++◌, Some, None, Contains, inl, inr, ap, arith}
use Rattle.std.specs.Prelude.{max}
use Rattle.std.specs.List.{list_any}
use Rattle.std.proofs.Math.Bool.{and-false, and-true, or-false}
use Rattle.std.proofs.lemmas.List.Elements.{Contains-push_cases}
use Rattle.std.proofs.lemmas.List.Folds.{list_any-append}
use Rattle.hp_segs.specs.LaterSteps.{has_failed_from}
use Rattle.hp_segs.specs.SegsView.{closed_number, granted_by, grants_or_refuses}
use Rattle.hp_segs.specs.declared.outcome.AskLog.{AskLog}
use Rattle.hp_segs.specs.declared.outcome.Outcome.TheVariants.{Stale}
use Rattle.hp_segs.proofs.AskFacts.ClosedLemmas.{closed_push}
use Rattle.thm_causes.specs.Outcomes.{late_outcomes, stale_outcomes, withdrawn_outcomes}
use Rattle.thm_causes.proofs.OutcomesMore.{failed_push, late_push, stale_push, withdrawn_push}
use Rattle.thm_causes.proofs.CountingLemmas.{one_if}

-- the outcome of an ask that is stale
abbrev pub stale_entry : (from number done at : ℕ) → AskLog
stale_entry from number done at = record { from = from; number = number; outcome = Stale done; at = at; ask = None }

module _ (asks : List AskLog) (from number done at : ℕ) where
  -- each one's closed number stays
  pub closed_stays : (who : ℕ) → closed_number (asks ++ stale_entry from number done at ∷ []) who ≡ closed_number asks who
  closed_stays who =
      closed_push asks (stale_entry from number done at) who
      ∙ ap (λ (counts : Bool). cond counts (max (closed_number asks who) number) (closed_number asks who)) (and-false (from == who))

  -- nobody was late, or has taken an ask back
  pub late_stays : (who : ℕ) → late_outcomes who (asks ++ stale_entry from number done at ∷ []) ≡ late_outcomes who asks
  late_stays who = omega (arith, late_push asks (stale_entry from number done at) who)

  pub withdrawn_stays : (who : ℕ)
      → withdrawn_outcomes who (asks ++ stale_entry from number done at ∷ []) ≡ withdrawn_outcomes who asks
  withdrawn_stays who =
      let none : one_if ((from == who) && false) ≡ 0 = ap one_if (and-false (from == who)) in
      omega (arith, withdrawn_push asks (stale_entry from number done at) who, none)

  -- no mapping failed
  pub failed_stays : (who call : ℕ)
      → has_failed_from (asks ++ stale_entry from number done at ∷ []) who call ≡ has_failed_from asks who call
  failed_stays who call = failed_push asks (stale_entry from number done at) who call ∙ or-false (has_failed_from asks who call)

  -- nothing was granted
  pub granted_before : (entry : AskLog) (generation : ℕ) → Contains (asks ++ stale_entry from number done at ∷ []) entry
      → granted_by entry.outcome ≡ Some generation → Contains asks entry
  granted_before entry generation there grants =
      elim (Contains-push_cases asks (stale_entry from number done at) entry there) [
        | inl before ↦ before
        | inr its ↦ let wrong : None ≡ Some generation = ap (λ (e : AskLog). granted_by e.outcome) its ∙ grants in cc
      ]

  -- what was granted or refused still is
  pub answered_stays : (who which : ℕ) → list_any (grants_or_refuses who which) asks ≡ true
      → list_any (grants_or_refuses who which) (asks ++ stale_entry from number done at ∷ []) ≡ true
  answered_stays who which is =
      list_any-append (grants_or_refuses who which) asks (stale_entry from number done at ∷ [])
      ∙ ap (λ (any : Bool). any || list_any (grants_or_refuses who which) (stale_entry from number done at ∷ [])) is

  -- of one whose ask it is one more is stale, and of nobody else
  pub stale_rises : (who : ℕ)
      → stale_outcomes who (asks ++ stale_entry from number done at ∷ []) ≡ stale_outcomes who asks + one_if (from == who)
  stale_rises who =
      stale_push asks (stale_entry from number done at) who
      ∙ ap (λ (its : Bool). stale_outcomes who asks + one_if its) (and-true (from == who))
