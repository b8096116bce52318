use Rattle.std.proofs.Common.{◌+◌, refl, sym, subst, arith}
use Rattle.hp_elem.specs.Items.{IsAt}
use Rattle.hp_heap.specs.Headers.{HeadersView, CanInsert}
use Rattle.hp_heap.proofs.EditLemmas.{keeps-insert, inserted_within, insert_unlisted, insert_below, insert_least}
use Rattle.hp_heap.proofs.headers.Headers.insert.Goals as goal

pub overflow_sub-whole : goal.overflow_sub-whole
overflow_sub-whole c =
    omega (
      arith,
      insert_least c.self.inside.elems c.args.key c.get.result.now c.self.invariant.tied.apart (subst (λ (v : HeadersView). IsAt CanInsert c.args.key v.items) (sym c.self.view_is) c.requires.busy) c.get.ensures.stands,
    )

pub insert_head-requires-clause-room : goal.insert_head-requires-clause-room
insert_head-requires-clause-room c =
    insert_below c.self.inside.elems c.self.inside.lists c.args.key c.self.invariant.tied (subst (λ (v : HeadersView). IsAt CanInsert c.args.key v.items) (sym c.self.view_is) c.requires.busy)

pub insert_head-requires-clause-unlisted : goal.insert_head-requires-clause-unlisted
insert_head-requires-clause-unlisted c =
    insert_unlisted c.self.inside.elems c.self.inside.lists c.args.key c.self.invariant.tied (subst (λ (v : HeadersView). IsAt CanInsert c.args.key v.items) (sym c.self.view_is) c.requires.busy)

pub insert_head-requires-clause-least : goal.insert_head-requires-clause-least
insert_head-requires-clause-least c =
    insert_least c.self.inside.elems c.args.key c.get.result.now c.self.invariant.tied.apart (subst (λ (v : HeadersView). IsAt CanInsert c.args.key v.items) (sym c.self.view_is) c.requires.busy) c.get.ensures.stands

pub overflow_add-self : goal.overflow_add-self
overflow_add-self c =
    omega (
      arith,
      (inserted_within c.self.inside.elems c.set_free.new.self c.self.inside.lists c.self.inside.totals c.args.key (c.self.inside.elems.stamps + 1) c.get.result.now c.self.invariant
          (subst (λ (v : HeadersView). IsAt CanInsert c.args.key v.items) (sym c.self.view_is) c.requires.busy) c.get.ensures.stands c.set_free.ensures.items c.set_free.ensures.ordered.rising).free,
    )

pub overflow_add-self-2 : goal.overflow_add-self-2
overflow_add-self-2 c =
    omega (
      arith,
      (inserted_within c.self.inside.elems c.set_free.new.self c.self.inside.lists c.self.inside.totals c.args.key (c.self.inside.elems.stamps + 1) c.get.result.now c.self.invariant
          (subst (λ (v : HeadersView). IsAt CanInsert c.args.key v.items) (sym c.self.view_is) c.requires.busy) c.get.ensures.stands c.set_free.ensures.items c.set_free.ensures.ordered.rising).frees,
    )

pub invariant_of-self : goal.invariant_of-self
invariant_of-self c =
    keeps-insert c.self.inside.elems c.set_free.new.self c.self.inside.lists c.insert_head.new.self c.self.inside.totals
    (record { total = c.self.inside.totals.total; free = c.self.inside.totals.free + c.get.result.now.span.whole; frees = c.self.inside.totals.frees + 1 }) c.args.key c.get.result.now c.self.invariant
    (subst (λ (v : HeadersView). IsAt CanInsert c.args.key v.items) (sym c.self.view_is) c.requires.busy) c.get.ensures.stands
    (record {
      apart = c.set_free.ensures.ordered.apart;
      stamps = c.set_free.ensures.stamps;
      items = c.set_free.ensures.items;
      headed = c.insert_head.ensures.lists;
      room = c.insert_head.ensures.room;
      count = c.insert_head.ensures.count;
    }) refl refl refl
