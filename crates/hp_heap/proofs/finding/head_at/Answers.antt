use Rattle.std.proofs.Common.{◌≤◌, sym, ◌∙◌, arith}
use Rattle.hp_heap.proofs.FindingLemmas.{own_element, own_space}
use Rattle.hp_heap.proofs.FreeFacts.HeadLemmas.{held_by, class_of_head}
use Rattle.hp_heap.proofs.finding.head_at.Goals as goal

pub contains-requires : goal.contains-requires
contains-requires c = omega (arith, (own_space c.args.headers.now c.in-Some.key c.get.result.now c.requires c.get.ensures.stands).end)

pub returns-then-contains : goal.returns-then-contains
returns-then-contains c =
    held_by c.args.headers.now c.args.addr c.in-Some.key c.get.result.now c.requires c.get.ensures.stands (sym c.contains.ensures ∙ c.if-contains.true)

pub overflow_sub-range : goal.overflow_sub-range
overflow_sub-range c = omega (arith, (own_element c.args.headers.now c.in-Some.key c.get.result.now c.requires c.get.ensures.stands).size.least)

pub loop-class-smaller : goal.loop-class-smaller
loop-class-smaller c =
    let upwards : c.loop-class.class ≤ c.class_of-class.result
    = omega (
      arith,
      class_of_head _ c.loop-class.class c.args.headers.now.items c.in-Some.key c.get.result.now c.requires.apart c.in-Some.ensures c.get.ensures.stands,
      c.class_of-class.ensures.number,
    ) in
    omega (arith, upwards, c.loop-class-test.true)
