-- For a heap in hand no growth is open, while the ask of who has it is settled.
use Rattle.std.proofs.Common.{◌≡◌, ◌⊎◌, ℕ, Bool, true, Option, Some, None, IfSome, inl, inr, subst}
use Rattle.hp_segs.specs.GrowthLaws.{IsOfArmed}
use Rattle.hp_segs.specs.LaterSteps.{armed_ask}
use Rattle.hp_segs.specs.SegsView.{SegsView}
use Rattle.hp_segs.specs.SettledAsks.{IsSettled}
use Rattle.hp_segs.specs.declared.ask.Ask.{Ask}
use Rattle.hp_segs.specs.declared.growth.Growth.{Growth}
use Rattle.hp_segs.proofs.AskFacts.SettledLaws.{above_is_unsettled}
use Rattle.thm_run.specs.OwnHolds.{NoneGrowsForHeld}

module _ (segs : SegsView) (holds : ℕ → ℕ → Bool) (who heap : ℕ)
    (asking : (other : ℕ) (ask : Ask) → armed_ask segs other ≡ Some ask → IsSettled ask.from ask.number segs ⊎ (holds other ask.heap ≡ true))
    (once : (one other heap : ℕ) → holds one heap ≡ true → holds other heap ≡ true → one ≡ other) (held : holds who heap ≡ true)
    (own : (ask : Ask) → armed_ask segs who ≡ Some ask → IsSettled ask.from ask.number segs) where
  -- the ask of a growth is not settled, so it would be another's that has the same heap in hand
  never : (growth : Growth) → IsOfArmed segs.asks segs.armed growth → growth.ask.heap ≡ heap → ⊥
  never growth is same =
      elim (asking growth.ask.from growth.ask is.its_ask) [
        | inl settled ↦ above_is_unsettled segs growth.ask.from growth.ask.number is.above settled
        | inr holding ↦
            let one : growth.ask.from ≡ who =
            once growth.ask.from who heap (subst (λ heap. holds growth.ask.from heap ≡ true) same holding) held in
            above_is_unsettled segs growth.ask.from growth.ask.number is.above
            (own growth.ask (subst (λ who. armed_ask segs who ≡ Some growth.ask) one is.its_ask))
      ]

  none_for : (growth : Option Growth) → IfSome growth (IsOfArmed segs.asks segs.armed)
      → IfSome growth (λ growth. growth.ask.heap ≡ heap → ⊥)
  none_for None is = tt
  none_for (Some growth) is = never growth is

pub none_grows_for_held : NoneGrowsForHeld
none_grows_for_held segs holds who heap armed asking once held own = none_for segs holds who heap asking once held own segs.growth armed
