-- The last failed mapping call of each participant, as outcomes are logged.
use Rattle.std.proofs.Common.{◌≡◌, ◌==◌, nat_le, ℕ, zero, suc, ◌+◌, ◌<◌, max, Bool, true, false, ◌&&◌, ◌||◌, if◌then◌else◌, List, [], ◌∷◌, ◌++◌, map, get_or, replicate, Option, Some, None, IfSome, refl, ap, ◌∙◌, sym, arith, inl, inr, eq-eqb}
use Rattle.std.specs.List.{fold, range_with_len}
use Rattle.std.proofs.lemmas.Bool.{cases_lt, le-leb, lt-leb, ne_eqb}
use Rattle.std.proofs.lemmas.List.FromFn.{get_or-map-range_with_len}
use Rattle.std.proofs.lemmas.List.Sums.{fold_push}
use Rattle.hp_segs.specs.AsksView.{AreFailed, cause_failure, failed_after, failure_of, last_after, last_failed, later_call}
use Rattle.hp_segs.specs.LaterSteps.{fails_from, has_failed_from, outcome_fails_from}
use Rattle.hp_segs.specs.declared.outcome.AskLog.{AskLog}
use Rattle.hp_segs.specs.declared.outcome.Cause.{Cause}
use Rattle.hp_segs.specs.declared.outcome.Cause.TheVariants.{NoList, TooFew, ListFull, CannotHold, Denied, MapFailed, Late, Withdrawn}
use Rattle.hp_segs.specs.declared.outcome.Outcome.{Outcome}
use Rattle.hp_segs.specs.declared.outcome.Outcome.TheVariants.{Granted, Refused, Stale, Freed}
use Rattle.hp_segs.proofs.SlotFacts.MaskStepLemmas.{map_range_agree, or_false}
use Rattle.hp_segs.proofs.TotalLemmas.{set_place}

-- the call is at most the last one, where there is one
abbrev pub is_up_to : ℕ → Option ℕ → Bool
is_up_to call None = false
is_up_to call (Some last) = nat_le call last

up_to_max : (call last other : ℕ) → nat_le call (max last other) ≡ (nat_le call last || nat_le call other)
up_to_max call last other =
    elim (cases_lt last call) [
      | inl below ↦
          elim (cases_lt other call) [
            | inl low ↦
                lt-leb call (max last other) (omega (arith, below, low))
                ∙ sym (ap (λ b. b || nat_le call other) (lt-leb call last below) ∙ lt-leb call other low)
            | inr high ↦
                le-leb call (max last other) (omega (arith, high))
                ∙ sym (ap (λ b. b || nat_le call other) (lt-leb call last below) ∙ le-leb call other high)
          ]
      | inr above ↦
          le-leb call (max last other) (omega (arith, above)) ∙ sym (ap (λ b. b || nat_le call other) (le-leb call last above))
    ]

step_after : (call : ℕ) (last : Option ℕ) (other : ℕ) (own : Bool)
    → is_up_to call (if own then Some (later_call last other) else last) ≡ (is_up_to call last || (own && nat_le call other))
step_after call None other true = refl
step_after call (Some last) other true = up_to_max call last other
step_after call last other false = sym (or_false (is_up_to call last))

cause_step : (participant call : ℕ) (last : Option ℕ) (cause : Cause)
    → is_up_to call (last_after participant last (cause_failure cause)) ≡ (is_up_to call last || fails_from participant call cause)
cause_step participant call last NoList = sym (or_false (is_up_to call last))
cause_step participant call last (TooFew have need) = sym (or_false (is_up_to call last))
cause_step participant call last (ListFull longest need) = sym (or_false (is_up_to call last))
cause_step participant call last (CannotHold addr len) = sym (or_false (is_up_to call last))
cause_step participant call last (Denied validator limit total) = sym (or_false (is_up_to call last))
cause_step participant call last (MapFailed who other addr got) = step_after call last other (who == participant)
cause_step participant call last (Late who from to) = sym (or_false (is_up_to call last))
cause_step participant call last (Withdrawn from to) = sym (or_false (is_up_to call last))

outcome_step : (participant call : ℕ) (last : Option ℕ) (outcome : Outcome)
    → is_up_to call (last_after participant last (failure_of outcome)) ≡ (is_up_to call last || outcome_fails_from participant call outcome)
outcome_step participant call last (Granted generation) = sym (or_false (is_up_to call last))
outcome_step participant call last (Refused cause) = cause_step participant call last cause
outcome_step participant call last (Stale done) = sym (or_false (is_up_to call last))
outcome_step participant call last (Freed generation) = sym (or_false (is_up_to call last))

or_assoc : (a b c : Bool) → ((a || b) || c) ≡ (a || (b || c))
or_assoc true b c = refl
or_assoc false b c = refl

failed_from : (participant call : ℕ) (last : Option ℕ) (asks : List AskLog)
    → is_up_to call (fold (λ last entry. last_after participant last (failure_of entry.outcome)) last asks)
    ≡ (is_up_to call last || has_failed_from asks participant call)
failed_from participant call last [] = sym (or_false (is_up_to call last))
failed_from participant call last (entry ∷ asks) =
    failed_from participant call (last_after participant last (failure_of entry.outcome)) asks
    ∙ (ap (λ b. b || has_failed_from asks participant call) (outcome_step participant call last entry.outcome)
    ∙ or_assoc (is_up_to call last) (outcome_fails_from participant call entry.outcome) (has_failed_from asks participant call))

-- a failure by a call or a later one is logged exactly where the last failed call is no earlier one
pub has_failed_is : (asks : List AskLog) (participant call : ℕ) → is_up_to call (last_failed asks participant) ≡ has_failed_from asks participant call
has_failed_is asks participant call = failed_from participant call None asks

pub failed_at : (asks : List AskLog) (failed : List (Option ℕ)) (k : ℕ) → AreFailed asks failed → k < 256 → get_or failed k None ≡ last_failed asks k
failed_at asks failed k are within =
    ap (λ l. get_or l k None) are ∙ get_or-map-range_with_len (last_failed asks) 0 256 k k None within (omega arith)

constant : {X : Type 0} (x : X) (a n : ℕ) → replicate n x ≡ map (λ k. x) (range_with_len a n)
constant x a zero = refl
constant x a (suc n) = ap (λ rest. x ∷ rest) (constant x (a + 1) n)

-- none has failed at the beginning
pub none_failed : AreFailed [] (replicate 256 None)
none_failed = constant None 0 256

module _ (asks : List AskLog) (failed : List (Option ℕ)) (entry : AskLog) (are : AreFailed asks failed) where
  pushed : (k : ℕ) → last_failed (asks ++ entry ∷ []) k ≡ last_after k (last_failed asks k) (failure_of entry.outcome)
  pushed k = fold_push (λ last entry. last_after k last (failure_of entry.outcome)) None asks entry

  after_by : (failure : Option (ℕ × ℕ)) → failure_of entry.outcome ≡ failure → IfSome failure (λ failure. failure.0 < 256)
      → AreFailed (asks ++ entry ∷ []) (failed_after failed failure)
  after_by None is small =
      are
      ∙ map_range_agree (last_failed asks) (last_failed (asks ++ entry ∷ []))
      (λ k. sym (pushed k ∙ ap (last_after k (last_failed asks k)) is)) 0 256
  after_by (Some failure) is small =
      set_place (last_failed asks) (last_failed (asks ++ entry ∷ [])) failed 256 failure.0 _ are small
      (pushed failure.0
      ∙ (ap (last_after failure.0 (last_failed asks failure.0)) is
      ∙ (ap (λ b. if b then Some (later_call (last_failed asks failure.0) failure.1) else last_failed asks failure.0) (eq-eqb failure.0 failure.0 refl)
      ∙ ap (λ last. Some (later_call last failure.1)) (sym (failed_at asks failed failure.0 are small)))))
      (λ k other.
      pushed k
      ∙ (ap (last_after k (last_failed asks k)) is
      ∙ ap (λ b. if b then Some (later_call (last_failed asks k) failure.1) else last_failed asks k) (ne_eqb failure.0 k (λ same. other (sym same)))))

  -- the last failed calls after one outcome more
  pub failed_is_after : IfSome (failure_of entry.outcome) (λ failure. failure.0 < 256)
      → AreFailed (asks ++ entry ∷ []) (failed_after failed (failure_of entry.outcome))
  failed_is_after small = after_by (failure_of entry.outcome) refl small
