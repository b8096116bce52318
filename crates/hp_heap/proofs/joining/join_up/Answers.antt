use Rattle.std.proofs.Common.{refl, sym, ◌∙◌}
use Rattle.hp_heap.proofs.FreeFacts.JoiningLemmas.{upper_end, raised_last, raised_beside, above_free, above_can, raised_taken}
use Rattle.hp_heap.proofs.joining.join_up.Goals as goal

pub returns-in_default-clause-items : goal.returns-in_default-clause-items
returns-in_default-clause-items c = raised_last c.args.headers.now.items c.args.key c.get.result.now c.requires.apart c.requires.at c.get.ensures.stands c.in_default.is

pub goes_on_above-requires : goal.goes_on_above-requires
goes_on_above-requires c = upper_end c.args.headers.now.items c.args.key c.get.result.now c.requires.apart c.requires.at c.get.ensures.stands

pub returns-then-not-goes_on_above-clause-items : goal.returns-then-not-goes_on_above-clause-items
returns-then-not-goes_on_above-clause-items c =
    raised_beside c.args.headers.now.items c.args.key c.get.result.now c.requires.apart c.requires.at c.get.ensures.stands c.in-Some.next c.get-2.result.now c.in-Some.is c.get-2.ensures.stands
    (sym c.goes_on_above.ensures ∙ c.if-not-goes_on_above.true)

pub take-requires : goal.take-requires
take-requires c = record {
  free = above_free c.args.headers.now.items c.args.key c.get.result.now c.requires.apart c.requires.at c.get.ensures.stands c.in-Some.next c.get-2.result.now c.in-Some.is c.get-2.ensures.stands
      (sym c.goes_on_above.ensures ∙ c.if-not-goes_on_above.false);
}

pub join-requires : goal.join-requires
join-requires c = record {
  busy = above_can c.args.headers.now.items c.args.key c.get.result.now c.requires.apart c.requires.at c.get.ensures.stands c.in-Some.next c.get-2.result.now c.in-Some.is c.get-2.ensures.stands
      _ c.take.new.self.items refl c.take.ensures.items (sym c.goes_on_above.ensures ∙ c.if-not-goes_on_above.false);
}

pub returns-clause-items : goal.returns-clause-items
returns-clause-items c =
    raised_taken c.args.headers.now.items c.args.key c.get.result.now c.requires.apart c.requires.at c.get.ensures.stands c.in-Some.next c.get-2.result.now c.in-Some.is c.get-2.ensures.stands
    _ c.take.new.self.items refl c.take.ensures.items (sym c.goes_on_above.ensures ∙ c.if-not-goes_on_above.false) c.join.new.self.items c.take.ensures.apart c.join.ensures.items
