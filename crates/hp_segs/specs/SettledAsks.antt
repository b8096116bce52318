-- Which asks are settled, what settles one, and which are not.
use Rattle.std.specs.Prelude.{◌≡◌, ℕ, ◌<◌, true, false, Some}
use Rattle.std.specs.List.{list_any}
use Rattle.hp_segs.specs.Calls.{IsUnclaimedGrant}
use Rattle.hp_segs.specs.SegsView.{SegsView, closed_number, grant_of, grant_or_refusal_of, is_outcome_for, is_unclaimed}
use Rattle.hp_segs.specs.Steps.{after_claim}
use Rattle.hp_segs.specs.declared.outcome.Cause.{Cause}
use Rattle.hp_segs.specs.declared.outcome.Outcome.TheVariants.{Refused}

-- the ask of that participant and number is settled: it has an outcome other than Stale, and where it was granted the grant is claimed
pub record IsSettled (from number : ℕ) (segs : SegsView) : Type 0 where
  pub answered : list_any (is_outcome_for from number) segs.asks ≡ true
  pub claimed : (generation : ℕ) → grant_of segs.asks from number ≡ Some generation → is_unclaimed segs.segments generation ≡ false

-- an ask that is refused is settled
abbrev pub RefusalSettles : Type 0
RefusalSettles = (segs : SegsView) (from number : ℕ) (cause : Cause) → grant_or_refusal_of segs.asks from number ≡ Some (Refused cause)
    → IsSettled from number segs

-- a claim settles the ask whose grant is claimed
abbrev pub ClaimSettles : Type 0
ClaimSettles = (segs : SegsView) (from number : ℕ) → IsUnclaimedGrant from number segs → IsSettled from number (after_claim from number segs)

-- while its grant is not claimed an ask is not settled
abbrev pub UnclaimedIsUnsettled : Type 0
UnclaimedIsUnsettled = (segs : SegsView) (from number : ℕ) → IsUnclaimedGrant from number segs → ¬ (IsSettled from number segs)

-- an ask above the closed number of its participant is not settled
abbrev pub AboveIsUnsettled : Type 0
AboveIsUnsettled = (segs : SegsView) (from number : ℕ) → closed_number segs.asks from < number → ¬ (IsSettled from number segs)
