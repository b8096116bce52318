-- No two failed mappings of one participant by one call are logged.
use Rattle.std.proofs.Common.{◌≡◌, ◌∙◌, ℕ, zero, suc, true, false, List, [], ◌∷◌, ◌++◌, Some, refl, ap, sym, subst, arith, eq-eqb}
use Rattle.std.specs.Prelude.{nat_le, ◌==◌}
use Rattle.std.specs.List.{slice_get}
use Rattle.std.proofs.lemmas.Bool.{and_from, le-leb, or_left, or_right}
use Rattle.std.proofs.lemmas.List.Folds.{list_any-append}
use Rattle.hp_base.specs.declared.pool_line.PoolLine.{PoolLine}
use Rattle.hp_log.specs.declared.log_record.LogRecord.{LogRecord}
use Rattle.hp_segs.specs.Causes.{AllCaused, HasCause, IsCaused}
use Rattle.hp_segs.specs.LaterSteps.{has_failed_from, outcome_fails_from}
use Rattle.hp_segs.specs.declared.outcome.AskLog.{AskLog}
use Rattle.hp_segs.specs.declared.outcome.Cause.TheVariants.{MapFailed}
use Rattle.hp_segs.specs.declared.outcome.Outcome.TheVariants.{Refused}
use Rattle.thm_run.specs.EndLaws.{IsFailedMapping}
use Rattle.thm_run.specs.Together.{IsFirst, GlobalState, Runs}
use Rattle.thm_run.proofs.SeatFacts.SegsAlong.{sound_along}

module _ (participant call : ℕ) where
  fails : (entry : AskLog) → IsFailedMapping participant call entry → outcome_fails_from participant call entry.outcome ≡ true
  fails entry is =
      ap (outcome_fails_from participant call) is.its
      ∙ and_from (participant == participant) (nat_le call call) (eq-eqb participant participant refl) (le-leb call call (omega arith))

  module _ (pools : List PoolLine) (log : List LogRecord) where
    -- before a failure none by this call or a later one is logged
    none_before : (before : List AskLog) (entry : AskLog) → IsCaused pools log before entry → IsFailedMapping participant call entry
        → has_failed_from before participant call ≡ false
    none_before before entry caused is =
        let cause : HasCause pools log before entry (Refused (MapFailed participant call is.addr is.got)) =
        subst (HasCause pools log before entry) is.its caused.cause in
        cause.2.1

    any_behind : (before : List AskLog) (entry : AskLog) → IsFailedMapping participant call entry
        → has_failed_from (before ++ entry ∷ []) participant call ≡ true
    any_behind before entry is =
        list_any-append (λ entry. outcome_fails_from participant call entry.outcome) before (entry ∷ [])
        ∙ or_right (has_failed_from before participant call) _
        (or_left (outcome_fails_from participant call entry.outcome) false (fails entry is))

    stays_any : (before : List AskLog) (entry : AskLog) → has_failed_from before participant call ≡ true
        → has_failed_from (before ++ entry ∷ []) participant call ≡ true
    stays_any before entry any =
        list_any-append (λ entry. outcome_fails_from participant call entry.outcome) before (entry ∷ [])
        ∙ or_left (has_failed_from before participant call) _ any

    -- once one is logged, none comes
    none_comes : (before asks : List AskLog) → AllCaused pools log before asks → has_failed_from before participant call ≡ true
        → (place : ℕ) (entry : AskLog) → slice_get asks place ≡ Some entry → IsFailedMapping participant call entry → ⊥
    none_comes before [] caused any place entry here is = cc
    none_comes before (first ∷ asks) caused any zero entry here is =
        let same : first ≡ entry = cc in
        let none = none_before before first caused.0 (subst (IsFailedMapping participant call) (sym same) is) in
        let wrong : true ≡ false = sym any ∙ none in
        cc
    none_comes before (first ∷ asks) caused any (suc place) entry here is =
        none_comes (before ++ first ∷ []) asks caused.1 (stays_any before first any) place entry here is

    places_same : (before asks : List AskLog) → AllCaused pools log before asks → (place other : ℕ) (entry second : AskLog)
        → slice_get asks place ≡ Some entry → slice_get asks other ≡ Some second → IsFailedMapping participant call entry
        → IsFailedMapping participant call second → place ≡ other
    places_same before [] caused place other entry second here there is too = cc
    places_same before (first ∷ asks) caused zero zero entry second here there is too = refl
    places_same before (first ∷ asks) caused zero (suc other) entry second here there is too =
        let same : first ≡ entry = cc in
        absurd
        (none_comes (before ++ first ∷ []) asks caused.1
        (any_behind before first (subst (IsFailedMapping participant call) (sym same) is)) other second there too)
    places_same before (first ∷ asks) caused (suc place) zero entry second here there is too =
        let same : first ≡ second = cc in
        absurd
        (none_comes (before ++ first ∷ []) asks caused.1
        (any_behind before first (subst (IsFailedMapping participant call) (sym same) too)) place entry here is)
    places_same before (first ∷ asks) caused (suc place) (suc other) entry second here there is too =
        ap suc (places_same (before ++ first ∷ []) asks caused.1 place other entry second here there is too)

-- failed mappings of a run that share participant and call stand at one place of the outcomes
pub fails_once : (count absent : ℕ) (pools : List PoolLine) (first now : GlobalState) → IsFirst count absent pools first → Runs count first now
    → (place other : ℕ) (entry second : AskLog) (participant call : ℕ) → slice_get now.segs.asks place ≡ Some entry
    → slice_get now.segs.asks other ≡ Some second → IsFailedMapping participant call entry → IsFailedMapping participant call second
    → place ≡ other
fails_once count absent pools first now is runs place other entry second participant call here there failed too =
    places_same participant call now.segs.pools now.segs.log [] now.segs.asks (sound_along count absent pools first is now runs).asks.caused
    place other entry second here there failed too
