use Rattle.std.proofs.Common.{refl, sym, ◌∙◌, arith}
use Rattle.hp_heap.proofs.ResizeFacts.InPlaceLemmas.{need_fits, own_end, lacks_last, lacks_beside, sum_fits, need_ends, can_join, pair_at, can_cut, takes_next}
use Rattle.hp_heap.proofs.resizing.take_next.Goals as goal

pub returns-in_default-clause-taken : goal.returns-in_default-clause-taken
returns-in_default-clause-taken c = lacks_last c.args.headers.now c.args.key c.args.size c.get.result.now c.requires.of_heap c.requires.busy c.get.ensures.stands c.in_default.is

pub bytes_needed-need-requires : goal.bytes_needed-need-requires
bytes_needed-need-requires c = need_fits c.args.headers.now c.args.key c.args.size c.get.result.now c.requires.of_heap c.get.ensures.stands c.requires.size

pub holds_with-requires-clause-end : goal.holds_with-requires-clause-end
holds_with-requires-clause-end c = own_end c.args.headers.now c.args.key c.args.size c.get.result.now c.requires.of_heap c.requires.busy c.get.ensures.stands

pub holds_with-requires-clause-sum : goal.holds_with-requires-clause-sum
holds_with-requires-clause-sum c =
    sum_fits c.args.headers.now c.args.key c.args.size c.get.result.now c.requires.of_heap c.requires.busy c.get.ensures.stands c.in-Some.next c.get-2.result.now c.in-Some.is c.get-2.ensures.stands

pub returns-then-not-holds_with-clause-taken : goal.returns-then-not-holds_with-clause-taken
returns-then-not-holds_with-clause-taken c =
    lacks_beside c.args.headers.now c.args.key c.args.size c.get.result.now c.requires.of_heap c.requires.busy c.get.ensures.stands c.in-Some.next c.get-2.result.now c.in-Some.is c.get-2.ensures.stands
    c.bytes_needed-need.result c.bytes_needed-need.ensures (sym c.holds_with.ensures ∙ c.if-not-holds_with.true)

pub join-requires : goal.join-requires
join-requires c = record {
  busy = can_join c.args.headers.now c.args.key c.args.size c.get.result.now c.requires.of_heap c.requires.busy c.get.ensures.stands c.in-Some.next c.get-2.result.now c.in-Some.is c.get-2.ensures.stands
      c.bytes_needed-need.result c.bytes_needed-need.ensures (sym c.holds_with.ensures ∙ c.if-not-holds_with.false) _ c.take.new.self refl c.take.ensures.items c.take.ensures.apart;
}

pub set_size-requires-clause-busy : goal.set_size-requires-clause-busy
set_size-requires-clause-busy c =
    pair_at c.args.headers.now c.args.key c.args.size c.get.result.now c.requires.of_heap c.requires.busy c.get.ensures.stands c.in-Some.next c.get-2.result.now c.in-Some.is c.get-2.ensures.stands
    c.bytes_needed-need.result c.bytes_needed-need.ensures (sym c.holds_with.ensures ∙ c.if-not-holds_with.false) _ c.take.new.self refl c.take.ensures.items c.take.ensures.apart
    c.join.new.self c.join.ensures.items c.join.ensures.apart

pub overflow_add-rest : goal.overflow_add-rest
overflow_add-rest c =
    omega (arith, sum_fits c.args.headers.now c.args.key c.args.size c.get.result.now c.requires.of_heap c.requires.busy c.get.ensures.stands c.in-Some.next c.get-2.result.now c.in-Some.is c.get-2.ensures.stands)

pub overflow_add-node : goal.overflow_add-node
overflow_add-node c =
    omega (
      arith,
      need_ends c.args.headers.now c.args.key c.args.size c.get.result.now c.requires.of_heap c.requires.busy c.get.ensures.stands c.in-Some.next c.get-2.result.now c.in-Some.is c.get-2.ensures.stands
          c.bytes_needed-need.result c.bytes_needed-need.ensures (sym c.holds_with.ensures ∙ c.if-not-holds_with.false),
    )

pub cut_behind-requires-clause-busy : goal.cut_behind-requires-clause-busy
cut_behind-requires-clause-busy c =
    can_cut c.args.headers.now c.args.key c.args.size c.get.result.now c.requires.of_heap c.requires.busy c.get.ensures.stands c.in-Some.next c.get-2.result.now c.in-Some.is c.get-2.ensures.stands
    c.bytes_needed-need.result c.bytes_needed-need.ensures (sym c.holds_with.ensures ∙ c.if-not-holds_with.false) _ c.take.new.self refl c.take.ensures.items c.take.ensures.apart
    c.join.new.self c.join.ensures.items c.join.ensures.apart c.set_size.new.headers c.set_size.ensures.items c.set_size.ensures.apart

pub returns-clause-taken : goal.returns-clause-taken
returns-clause-taken c =
    takes_next c.args.headers.now c.args.key c.args.size c.get.result.now c.requires.of_heap c.requires.busy c.get.ensures.stands c.in-Some.next c.get-2.result.now c.in-Some.is c.get-2.ensures.stands
    c.bytes_needed-need.result c.bytes_needed-need.ensures (sym c.holds_with.ensures ∙ c.if-not-holds_with.false) _ c.take.new.self refl c.take.ensures.items c.take.ensures.apart
    c.join.new.self c.join.ensures.items c.join.ensures.apart c.set_size.new.headers c.set_size.ensures.items c.set_size.ensures.apart
    c.cut_behind.new.headers c.cut_behind.result (c.set_size.ensures.insertions ∙ c.join.ensures.insertions ∙ c.take.ensures.insertions) c.cut_behind.ensures.items c.cut_behind.ensures.insertions
