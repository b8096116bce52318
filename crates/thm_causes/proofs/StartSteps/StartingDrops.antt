-- What the coordinator makes of a rollback or a drop, once participant 0 has caught up for it: the round is over, or its SYNC goes out.
use Rattle.std.proofs.Common.{◌≡◌, ℕ, ◌==◌, Bool, true, false, Option, Some, None, refl, sym, ap, subst, if◌then◌else◌}
use Rattle.std.proofs.lemmas.Bool.{eqb-true}
use Rattle.hp_base.specs.declared.caught.Caught.{Caught}
use Rattle.hp_base.specs.declared.caught.Caught.TheVariants as caught
use Rattle.hp_base.specs.declared.map_answer.MapAnswer.{MapAnswer}
use Rattle.hp_base.specs.declared.map_answer.MapAnswer.TheVariants as answer
use Rattle.hp_base.specs.declared.row.Row.{Row}
use Rattle.hp_core.specs.Core.{Done, is_growth}
use Rattle.hp_core.specs.Following.{after_catching, noted}
use Rattle.hp_core.specs.Mapped.{alone_by, drop_alone, mapped, other_members, synced, told}
use Rattle.hp_core.specs.Rounds.{ended}
use Rattle.hp_core.specs.declared.phase.Round.{Round}
use Rattle.hp_core.specs.declared.phase.RoundKind.{RoundKind}
use Rattle.hp_core.specs.declared.phase.RoundKind.TheVariants as kind
use Rattle.hp_segs.specs.LaterSteps.{is_failure, is_noted, noting}
use Rattle.hp_segs.specs.SegsView.{SegsView, outcome_of}
use Rattle.hp_segs.specs.declared.growth.Growth.{Growth}
use Rattle.hp_segs.specs.declared.outcome.Cause.TheVariants.{MapFailed}
use Rattle.hp_segs.specs.declared.outcome.Outcome.{Outcome}

elsewhere_none : (segs : SegsView) (row : Row) (call : ℕ) (got : MapAnswer) → segs.growth ≡ None → (fails : Bool)
    → noted 0 segs (if fails then Some (record { row = row; call = call; got = got }) else None) ≡ segs
elsewhere_none segs row call got alone true =
    ap (λ (growth : Option Growth).
    if is_noted segs 0 call row growth then record segs { growth = noting (MapFailed 0 call row.addr got) segs.growth } else segs) alone
elsewhere_none segs row call got alone false = refl

-- without an open growth nothing is noted
pub catching_none : (segs : SegsView) (ended : Caught) → segs.growth ≡ None → after_catching 0 ended segs ≡ segs
catching_none segs caught.Done alone = refl
catching_none segs (caught.Refused row call) alone = elsewhere_none segs row call answer.Refused alone true
catching_none segs (caught.Elsewhere row call got) alone = elsewhere_none segs row call got alone (is_failure row got)

-- the round is over at once, or its SYNC goes out
pub data Settles (round : Round) (now : ℕ) (segs : SegsView) (done : Done) : Type 0 where
  ends : other_members segs ≡ 0 → done ≡ ended round segs → Settles round now segs done
  waits : done ≡ synced round now (other_members segs) segs → Settles round now segs done

module _ (round : Round) (ended_as : Caught) (now : ℕ) (segs : SegsView) (outcome : Outcome)
    (found : outcome_of segs.asks round.from round.number ≡ Some outcome) where
  alone_settles : (which : RoundKind) → is_growth which ≡ false → alone_by round ended_as now segs which ≡ ended round segs
  alone_settles kind.Growth other = cc
  alone_settles kind.Rollback other = ap (drop_alone round now segs) found
  alone_settles kind.Drop other = ap (drop_alone round now segs) found

  told_settles : (alone : Bool) → (other_members segs == 0) ≡ alone → is_growth round.kind ≡ false
      → Settles round now segs
      (if alone then alone_by round ended_as now segs round.kind else synced round now (other_members segs) segs)
  told_settles true none other = ends (eqb-true (other_members segs) 0 none) (alone_settles round.kind other)
  told_settles false some other = waits refl

  pub mapped_settles : segs.growth ≡ None → is_growth round.kind ≡ false → Settles round now segs (mapped round ended_as now segs)
  mapped_settles alone other =
      subst (λ (after : SegsView). Settles round now segs (told round ended_as now after)) (sym (catching_none segs ended_as alone))
      (told_settles (other_members segs == 0) refl other)
