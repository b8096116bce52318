-- One participant more has its mapper and its clock.
use Rattle.std.proofs.Common.{◌≡◌, ◌∙◌, ℕ, List, drop, map, refl, ap, subst, arith}
use Rattle.hp_solo.proofs.Pushed.{one_less}
use Rattle.hp_run.proofs.Newcomers.{AreBegunBelow, all_begun, none_begun, one_begins, over_kit}
use Rattle.hp_run.proofs.apart.newcomers.Goals as goal

pub loop-who-init : goal.loop-who-init
loop-who-init g c = record {
  left = refl;
  begun = none_begun c.args.workload.now _ c.in_ok-all.all.items c.in_ok-all.ensures.items;
  long = c.in_ok-all.ensures.len;
  room = omega (arith, c.in_ok-all.ensures.capacity);
}

pub loop-who-preserved : goal.loop-who-preserved
loop-who-preserved g c =
    let workload = c.args.workload.now in
    let kits = c.args.kits.items in
    let who = c.loop-who.who in
    let was = c.loop-who.invariant in
    let first = c.in_ok-first.first in
    record {
      left = c.remove-kit.ensures.items ∙ ap (λ (rest : List _). drop 1 rest) was.left ∙ one_less kits who;
      begun = one_begins workload _ who c.loop-who.all.items c.push_reserved.new.self.items first was.begun
          (over_kit workload _ (λ kit. g.M.Mapper.may_fail kit.mapper) kits c.loop-who.kits.items who c.remove-kit.result first
          (omega (arith, c.loop-who-test.true, c.loop-who.auto.who-end, c.requires.count)) was.left c.remove-kit.ensures.value
          c.in_ok-first.ensures refl)
          c.push_reserved.ensures.items;
      long = omega (arith, was.long, c.push_reserved.ensures.len);
      room = omega (arith, was.room, c.push_reserved.ensures.capacity);
    }

pub returns : goal.returns
returns g c =
    let workload = c.args.workload.now in
    let all : c.loop-who.who ≡ workload.participants = omega (arith, c.loop-who-test.false, c.loop-who.auto.who-end) in
    all_begun workload _ c.loop-who.all.items
    (subst
    (λ (n : ℕ). AreBegunBelow workload (map (λ kit. g.M.Mapper.may_fail kit.mapper) c.args.kits.items) n c.loop-who.all.items)
    all c.loop-who.invariant.begun)
