-- What a claim, and the taking back of an ask, leave of a segment value.
use Rattle.std.proofs.Common.{◌≡◌, ◌∙◌, ℕ, true, false, [], ◌∷◌, ◌++◌, length, Option, Some, None, refl}
use Rattle.std.specs.List.{list_any}
use Rattle.std.specs.Option.{option_map}
use Rattle.std.specs.Prelude.{find}
use Rattle.hp_segs.specs.LaterSteps.{after_withdraw, armed_ask, withdrawn_growth, withdrawn_unless}
use Rattle.hp_segs.specs.SegsView.{SegsView, grant_of, grants_or_refuses}
use Rattle.hp_segs.specs.Steps.{after_claim, claimed_grant}
use Rattle.hp_segs.specs.declared.ask.Ask.{Ask}
use Rattle.hp_segs.specs.declared.growth.Growth.{Growth}
use Rattle.hp_segs.specs.declared.outcome.AskLog.{AskLog}
use Rattle.hp_segs.specs.declared.outcome.Cause.TheVariants.{Withdrawn}
use Rattle.hp_segs.specs.declared.outcome.Outcome.TheVariants as outcome
use Rattle.hp_segs.proofs.Finds.{any_found}
use Rattle.hp_serve.specs.Asking.{after_settling}
use Rattle.hp_serve.proofs.AskingFacts.AskLooks.{any_of_found}

-- a segment value of which states of rows alone may be others, and armed asks
pub record HasOutcomes (old new : SegsView) : Type 0 where
  pub log : new.log ≡ old.log
  pub growth : new.growth ≡ old.growth
  pub roster : new.roster ≡ old.roster
  pub asks : new.asks ≡ old.asks
  pub retiring : new.retiring ≡ old.retiring

claimed : (segs : SegsView) (grant : Option ℕ) → HasOutcomes segs (claimed_grant segs grant)
claimed segs None = record { log = refl; growth = refl; roster = refl; asks = refl; retiring = refl }
claimed segs (Some generation) = record { log = refl; growth = refl; roster = refl; asks = refl; retiring = refl }

-- so it is after a claim
pub claims : (from number : ℕ) (segs : SegsView) → HasOutcomes segs (after_claim from number segs)
claims from number segs = claimed segs (grant_of segs.asks from number)

-- the outcome of an ask that is taken back
abbrev pub taken_back : ℕ → ℕ → ℕ → ℕ → SegsView → AskLog
taken_back from number since now segs = record {
  from = from;
  number = number;
  outcome = outcome.Refused (Withdrawn since now);
  at = length segs.log;
  ask = armed_ask segs from;
}

-- an ask was taken back, or had its answer
pub data IsBackIn (from number since now : ℕ) (segs after : SegsView) : Type 0 where
  answered : list_any (grants_or_refuses from number) segs.asks ≡ true → HasOutcomes segs after → IsBackIn from number since now segs after
  back : list_any (grants_or_refuses from number) segs.asks ≡ false → after.log ≡ segs.log → after.growth ≡ segs.growth
      → after.roster ≡ segs.roster → after.asks ≡ segs.asks ++ taken_back from number since now segs ∷ []
      → after.retiring ≡ segs.retiring → IsBackIn from number since now segs after

module _ (from number since now : ℕ) (segs : SegsView) where
  no_growth : (growth : Option Growth) → growth ≡ None → list_any (grants_or_refuses from number) segs.asks ≡ false
      → IsBackIn from number since now segs (withdrawn_growth from number (Withdrawn since now) segs growth)
  no_growth None none unanswered = IsBackIn.back unanswered refl refl refl refl refl
  no_growth (Some growth) none unanswered = cc

  back_unless : (found : Option AskLog) → find (grants_or_refuses from number) segs.asks ≡ found → segs.growth ≡ None
      → IsBackIn from number since now segs
      (withdrawn_unless from number (Withdrawn since now) segs (option_map (λ entry. entry.outcome) found))
  back_unless None is none = no_growth segs.growth none (any_found (grants_or_refuses from number) segs.asks is)
  back_unless (Some entry) is none =
      IsBackIn.answered (any_of_found (grants_or_refuses from number) segs.asks entry is)
      (record { log = refl; growth = refl; roster = refl; asks = refl; retiring = refl })

  -- so it is after a withdrawal where no growth is open
  pub withdraws : segs.growth ≡ None → IsBackIn from number since now segs (after_withdraw from number since now segs)
  withdraws none = back_unless (find (grants_or_refuses from number) segs.asks) refl none

-- what is as it was, and after that again
pub outcomes_then : (old mid new : SegsView) → HasOutcomes old mid → HasOutcomes mid new → HasOutcomes old new
outcomes_then old mid new first second = record {
  log = second.log ∙ first.log;
  growth = second.growth ∙ first.growth;
  roster = second.roster ∙ first.roster;
  asks = second.asks ∙ first.asks;
  retiring = second.retiring ∙ first.retiring;
}

back_then : (from number since now : ℕ) (segs mid new : SegsView) → IsBackIn from number since now segs mid → HasOutcomes mid new
    → IsBackIn from number since now segs new
back_then from number since now segs mid new (IsBackIn.answered stands same) claims =
    IsBackIn.answered stands (outcomes_then segs mid new same claims)
back_then from number since now segs mid new (IsBackIn.back none log growth roster asks retiring) claims =
    IsBackIn.back none (claims.log ∙ log) (claims.growth ∙ growth) (claims.roster ∙ roster) (claims.asks ∙ asks)
    (claims.retiring ∙ retiring)

-- an ask is settled
pub settles_back : (ask : Ask) (since now : ℕ) (segs : SegsView) → segs.growth ≡ None
    → IsBackIn ask.from ask.number since now segs (after_settling ask since now segs)
settles_back ask since now segs none =
    let behind = after_withdraw ask.from ask.number since now segs in
    back_then ask.from ask.number since now segs behind (after_claim ask.from ask.number behind)
    (withdraws ask.from ask.number since now segs none) (claims ask.from ask.number behind)
