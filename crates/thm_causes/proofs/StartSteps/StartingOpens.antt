-- What the coordinator makes of a growth that it opened, once participant 0 has caught up for it or failed to.
use Rattle.std.proofs.Common.{◌≡◌, ◌⊎◌, ℕ, ◌==◌, Bool, true, false, replicate, Some, None, is_some, inl, inr, refl, sym, ap, subst, ◌∙◌, if◌then◌else◌}
use Rattle.std.proofs.lemmas.Bool.{eqb-true}
use Rattle.hp_base.specs.declared.caught.Caught.{Caught}
use Rattle.hp_core.specs.Core.{Done, is_open_for}
use Rattle.hp_core.specs.Following.{after_catching, failure_of, noted}
use Rattle.hp_core.specs.Mapped.{alone_by, alone_unless_failed, granted_alone, mapped, other_members, synced, told}
use Rattle.hp_core.specs.Rounds.{cancelled, granted, rolled_back}
use Rattle.hp_core.specs.declared.phase.Round.{Round}
use Rattle.hp_core.specs.declared.phase.RoundKind.TheVariants as kind
use Rattle.hp_segs.specs.LaterSteps.{noted_failure}
use Rattle.hp_segs.specs.SegsView.{SegsView}
use Rattle.hp_segs.specs.declared.outcome.Cause.{Cause}

-- the growth is granted where nobody else is there, or cancelled where a mapping failed; with others its SYNC goes out
pub data Opens (round : Round) (ended : Caught) (now : ℕ) (segs : SegsView) (done : Done) : Type 0 where
  grants : failure_of ended ≡ None → other_members segs ≡ 0 → done ≡ granted round (replicate 16 round.generation) segs
      → Opens round ended now segs done
  cancels : (cause : Cause) → other_members (after_catching 0 ended segs) ≡ 0 → noted_failure (after_catching 0 ended segs) ≡ Some cause
      → done ≡ cancelled round cause (after_catching 0 ended segs) → Opens round ended now segs done
  tells : (failure_of ended ≡ None) ⊎ (is_some (noted_failure (after_catching 0 ended segs)) ≡ true)
      → done ≡ synced round now (other_members (after_catching 0 ended segs)) (after_catching 0 ended segs) → Opens round ended now segs done

module _ (round : Round) (ended : Caught) (now : ℕ) (segs : SegsView) (growth : round.kind ≡ kind.Growth) where
  module _ (none : failure_of ended ≡ None) (unfailed : noted_failure segs ≡ None) (opened : is_open_for round segs.growth ≡ true) where
    caught_same : after_catching 0 ended segs ≡ segs
    caught_same = ap (noted 0 segs) none

    alone_grants : alone_by round ended now segs round.kind ≡ granted round (replicate 16 round.generation) segs
    alone_grants =
        ap (alone_by round ended now segs) growth
        ∙ (ap (λ (opens : Bool). if opens then alone_unless_failed round ended now segs (noted_failure segs) else rolled_back round segs) opened
        ∙ (ap (alone_unless_failed round ended now segs) unfailed
        ∙ ap (λ failure. granted_alone round now segs (is_some failure)) none))

    whole_opens : (alone : Bool) → (other_members segs == 0) ≡ alone
        → Opens round ended now segs
        (if alone then alone_by round ended now segs round.kind else synced round now (other_members segs) segs)
    whole_opens true is = grants none (eqb-true (other_members segs) 0 is) alone_grants
    whole_opens false is =
        tells (inl none) (ap (λ (after : SegsView). synced round now (other_members after) after) (sym caught_same))

    -- where no mapping failed
    pub none_opens : Opens round ended now segs (mapped round ended now segs)
    none_opens =
        subst (λ (after : SegsView). Opens round ended now segs (told round ended now after)) (sym caught_same)
        (whole_opens (other_members segs == 0) refl)

  module _ (after : SegsView) (same : after_catching 0 ended segs ≡ after) (opened : is_open_for round after.growth ≡ true) (cause : Cause)
      (its : noted_failure after ≡ Some cause) where
    alone_cancels : alone_by round ended now after round.kind ≡ cancelled round cause after
    alone_cancels =
        ap (alone_by round ended now after) growth
        ∙ (ap (λ (opens : Bool). if opens then alone_unless_failed round ended now after (noted_failure after) else rolled_back round after) opened
        ∙ ap (alone_unless_failed round ended now after) its)

    failed_tells : (alone : Bool) → (other_members after == 0) ≡ alone
        → Opens round ended now segs
        (if alone then alone_by round ended now after round.kind else synced round now (other_members after) after)
    failed_tells true is =
        cancels cause (ap other_members same ∙ eqb-true (other_members after) 0 is) (ap noted_failure same ∙ its)
        (alone_cancels ∙ ap (cancelled round cause) (sym same))
    failed_tells false is =
        tells (inr (ap (λ (segs : SegsView). is_some (noted_failure segs)) same ∙ ap is_some its))
        (ap (λ (after : SegsView). synced round now (other_members after) after) (sym same))

    -- where one failed, and is noted
    pub failed_opens : Opens round ended now segs (mapped round ended now segs)
    failed_opens =
        subst (λ (after : SegsView). Opens round ended now segs (told round ended now after)) (sym same)
        (failed_tells (other_members after == 0) refl)
