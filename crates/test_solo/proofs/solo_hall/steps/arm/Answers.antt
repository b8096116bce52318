use Rattle.std.proofs.Common.{◌≡◌, ℕ, None, sym, subst, arith}
use Rattle.hp_serve.specs.SegmentSlot.{MayHold}
use Rattle.hp_serve.proofs.SegmentSlots.{may_hold}
use Rattle.test_solo.proofs.Callers.{can_but}
use Rattle.test_solo.proofs.solo_hall.steps.arm.Goals as goal

pub arm_first-requires : goal.arm_first-requires
arm_first-requires g c =
    let old = g.H.Hall.state c.args.hall.now in
    let same = c.number.ensures in
    let few = c.requires.few in
    let begins = c.requires.begins in
    record {
      may = subst (λ (n : ℕ). MayHold n old) (sym same) (may_hold begins.can.may);
      few = omega (arith, same, few);
      home = begins.home;
      unarmed = subst (λ (n : ℕ). (heap : ℕ) → (old.part n heap).armed ≡ None) (sym same) begins.unarmed;
      first = c.requires.first;
    }

pub returns : goal.returns
returns g c =
    let is = c.arm_first.ensures in
    record { can = can_but c.args.party.now c.number.ensures is.slots is.others is.joined is.own is.marked c.requires.begins.can }
