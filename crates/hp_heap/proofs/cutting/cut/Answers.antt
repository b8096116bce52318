use Rattle.std.proofs.Common.{refl}
use Rattle.hp_heap.proofs.FindingLemmas.{own_space}
use Rattle.hp_heap.proofs.CutFacts.CuttingLemmas.{list_known, size_known, lies_within, can_round, in_slots, may_take, free_node, found_node, left_short, taken_out}
use Rattle.hp_heap.proofs.cutting.cut.Goals as goal

pub cut_from-from-requires : goal.cut_from-from-requires
cut_from-from-requires c =
    can_round c.get.result.now.span
    (size_known c.args.lists.now c.args.headers.now.items c.in-Some.key c.get.result.now (c.requires.listed c.if-not-of_socket.false) c.get.ensures.stands)
    (own_space c.args.headers.now c.in-Some.key c.get.result.now c.requires.of_heap c.get.ensures.stands).end

pub cut_to-to-requires : goal.cut_to-to-requires
cut_to-to-requires c =
    can_round c.get.result.now.span
    (size_known c.args.lists.now c.args.headers.now.items c.in-Some.key c.get.result.now (c.requires.listed c.if-not-of_socket.false) c.get.ensures.stands)
    (own_space c.args.headers.now c.in-Some.key c.get.result.now c.requires.of_heap c.get.ensures.stands).end

pub returns-then-from-to-clause-cut : goal.returns-then-from-to-clause-cut
returns-then-from-to-clause-cut c =
    left_short c.args.of_socket c.args.addr c.args.headers.now c.get.result.now.span c.cut_from-from.result c.cut_to-to.result
    (found_node c.args.addr c.args.headers.now.items c.in-Some.key c.get.result.now c.requires.of_heap.apart c.in-Some.ensures c.get.ensures.stands)
    c.cut_from-from.ensures c.cut_to-to.ensures c.if-from-to.true

pub list_of-list-requires : goal.list_of-list-requires
list_of-list-requires c =
    list_known c.args.lists.now c.args.headers.now.items c.in-Some.key c.get.result.now (c.requires.listed c.if-not-of_socket.false) c.get.ensures.stands

pub take_out-requires-clause-free : goal.take_out-requires-clause-free
take_out-requires-clause-free c =
    may_take c.get.result.now.span c.cut_from-from.result c.cut_to-to.result
    (size_known c.args.lists.now c.args.headers.now.items c.in-Some.key c.get.result.now (c.requires.listed c.if-not-of_socket.false) c.get.ensures.stands)
    c.cut_from-from.ensures c.cut_to-to.ensures c.if-from-to.false c.args.headers.now.items c.in-Some.key c.get.result.now refl c.requires.of_heap.apart c.get.ensures.stands
    (free_node c.args.addr c.args.headers.now.items c.in-Some.key c.get.result.now c.requires.of_heap.apart c.in-Some.ensures c.get.ensures.stands)
    (own_space c.args.headers.now c.in-Some.key c.get.result.now c.requires.of_heap c.get.ensures.stands).end

pub run_of-requires : goal.run_of-requires
run_of-requires c =
    in_slots c.get.result.now.span c.cut_from-from.result c.cut_to-to.result
    (size_known c.args.lists.now c.args.headers.now.items c.in-Some.key c.get.result.now (c.requires.listed c.if-not-of_socket.false) c.get.ensures.stands)
    c.cut_from-from.ensures c.cut_to-to.ensures c.if-from-to.false c.list_of-list.result
    (lies_within c.args.lists.now c.args.headers.now.items c.in-Some.key c.get.result.now (c.requires.listed c.if-not-of_socket.false) c.get.ensures.stands c.list_of-list.result c.list_of-list.ensures)

pub returns-clause-cut : goal.returns-clause-cut
returns-clause-cut c = (
  c.if-not-of_socket.false,
  taken_out c.args.lists.now c.args.addr c.args.headers.now c.take_out.new.headers c.run_of.result c.get.result.now.span c.in-Some.key c.cut_from-from.result c.cut_to-to.result
      c.get.ensures.stands.front c.get.ensures.stands.back c.list_of-list.result c.get.ensures.stands.is
      (free_node c.args.addr c.args.headers.now.items c.in-Some.key c.get.result.now c.requires.of_heap.apart c.in-Some.ensures c.get.ensures.stands)
      (found_node c.args.addr c.args.headers.now.items c.in-Some.key c.get.result.now c.requires.of_heap.apart c.in-Some.ensures c.get.ensures.stands)
      c.cut_from-from.ensures c.cut_to-to.ensures c.if-from-to.false c.list_of-list.ensures c.run_of.ensures
      (c.take_out.ensures.ranges c.get.ensures.stands.front c.get.ensures.stands.back (record { key = c.in-Some.key; value = c.get.result.now.span }) c.get.ensures.stands.is refl)
      (c.take_out.ensures.insertions c.get.ensures.stands.front c.get.ensures.stands.back (record { key = c.in-Some.key; value = c.get.result.now.span }) c.get.ensures.stands.is refl),
)
