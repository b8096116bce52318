use Rattle.std.proofs.Common.{◌≤◌, ◌^◌, refl, sym, ◌∙◌, arith}
use Rattle.hp_heap.specs.PlainHeap.{end_of}
use Rattle.hp_heap.proofs.FreeFacts.JoiningLemmas.{lowered_first, last_known, below_ends, lowered_beside, below_free, below_can, lowered_taken}
use Rattle.hp_heap.proofs.joining.join_down.Goals as goal

pub returns-in_default-clause-lowered : goal.returns-in_default-clause-lowered
returns-in_default-clause-lowered c = lowered_first c.args.headers.now.items c.args.key c.get.result.now c.requires.can c.get.ensures.stands c.in_default.is

pub get-requires-2 : goal.get-requires-2
get-requires-2 c = record { known = last_known c.args.headers.now.items c.args.key c.get.result.now c.in-Some.prev c.get.ensures.stands c.in-Some.is }

pub goes_on_below-requires : goal.goes_on_below-requires
goes_on_below-requires c =
    let ends : end_of c.get-2.result.now.span ≤ 2 ^ 63 = below_ends c.args.headers.now.items c.args.key c.get.result.now c.requires.can c.get.ensures.stands c.in-Some.prev c.get-2.result.now c.in-Some.is c.get-2.ensures.stands in
    omega (arith, ends)

pub returns-then-not-goes_on_below-clause-lowered : goal.returns-then-not-goes_on_below-clause-lowered
returns-then-not-goes_on_below-clause-lowered c =
    lowered_beside c.args.headers.now.items c.args.key c.get.result.now c.requires.can c.get.ensures.stands c.in-Some.prev c.get-2.result.now c.in-Some.is c.get-2.ensures.stands
    (sym c.goes_on_below.ensures ∙ c.if-not-goes_on_below.true)

pub take-requires : goal.take-requires
take-requires c = record {
  free = below_free c.args.headers.now.items c.args.key c.get.result.now c.requires.can c.get.ensures.stands c.in-Some.prev c.get-2.result.now c.in-Some.is c.get-2.ensures.stands
      (sym c.goes_on_below.ensures ∙ c.if-not-goes_on_below.false);
}

pub join-requires : goal.join-requires
join-requires c = record {
  busy = below_can c.args.headers.now.items c.args.key c.get.result.now c.requires.can c.get.ensures.stands c.in-Some.prev c.get-2.result.now c.in-Some.is c.get-2.ensures.stands
      _ c.take.new.self.items refl c.take.ensures.items (sym c.goes_on_below.ensures ∙ c.if-not-goes_on_below.false);
}

pub returns-clause-lowered : goal.returns-clause-lowered
returns-clause-lowered c =
    lowered_taken c.args.headers.now.items c.args.key c.get.result.now c.requires.can c.get.ensures.stands c.in-Some.prev c.get-2.result.now c.in-Some.is c.get-2.ensures.stands
    _ c.take.new.self.items refl c.take.ensures.items (sym c.goes_on_below.ensures ∙ c.if-not-goes_on_below.false) c.join.new.self.items c.take.ensures.apart c.join.ensures.items
