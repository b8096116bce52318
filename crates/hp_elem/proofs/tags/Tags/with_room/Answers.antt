use Rattle.std.proofs.Common.{arith, rules}
use Rattle.hp_elem.proofs.FindLemmas.{unlinked_numbers, unlinked_filed}
use Rattle.hp_elem.proofs.tags.Tags.with_room.Goals as goal

pub invariant_of-result : goal.invariant_of-result
invariant_of-result c = (
  unlinked_filed c.in_ok-vec.field-0.items c.in_ok-vec-2.field-0.items c.args.room (c.in_ok-vec.ensures.items_if_clones_equal (λ y is. is))
      (c.in_ok-vec-2.ensures.items_if_clones_equal (λ y is. search rules)),
  omega (arith, c.in_ok-vec.ensures.len, c.if-room-gt-MAX_KEYS.false),
)

pub returns-clause-none : goal.returns-clause-none
returns-clause-none c = unlinked_numbers c.in_ok-vec.field-0.items c.args.room (c.in_ok-vec.ensures.items_if_clones_equal (λ y is. is))
