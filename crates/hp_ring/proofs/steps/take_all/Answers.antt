use Rattle.std.proofs.Common.{List, sym, subst, ◌∙◌, arith}
use Rattle.std.proofs.lemmas.List.{nil_from_length}
use Rattle.crossbeam_queue.specs.Passes.{view}
use Rattle.hp_ring.specs.Bulks.{BulkView}
use Rattle.hp_ring.specs.Views.{HasTakenTo}
use Rattle.hp_ring.proofs.PassLemmas.{taken_all, taken_more, taken_none}
use Rattle.hp_ring.proofs.steps.take_all.Goals as goal

pub loop-token-init : goal.loop-token-init
loop-token-init g c =
    let v = view c.args.token.now in
    record {
      of = c.requires.queue;
      taken = subst (λ (l : List BulkView). HasTakenTo v v l) (sym c.requires.none) (taken_none v c.requires.takes);
      room = c.requires.room;
    }

pub take-requires-clause-takes : goal.take-requires-clause-takes
take-requires-clause-takes g c = c.loop-token.invariant.taken.takes

pub returns-in_default : goal.returns-in_default
returns-in_default g c =
    let held = c.in_default.ensures.none.1 in
    taken_all (view c.args.token.now) (view c.loop-token.token) c.loop-token.left.items held.0 c.loop-token.invariant.taken
    (nil_from_length held.0 held.1) held.2

pub loop-token-preserved : goal.loop-token-preserved
loop-token-preserved g c =
    let inv = c.loop-token.invariant in
    let same = c.take.ensures.queue in
    record {
      of = (same.0 ∙ inv.of.0, same.2 ∙ inv.of.1);
      taken = taken_more (view c.args.token.now) (view c.loop-token.token) (view c.take.new.token) c.loop-token.left.items c.push_reserved.new.self.items
          c.in-Some.bulk inv.taken c.in-Some.ensures.some c.push_reserved.ensures.items;
      room = (let keeps = c.push_reserved.ensures.capacity in let room = inv.room in omega (arith, keeps, room));
    }

pub returns : goal.returns
returns g c =
    let held = c.see_empty.ensures.empty in
    taken_all (view c.args.token.now) (view c.loop-token.token) c.loop-token.left.items held.0 c.loop-token.invariant.taken
    (nil_from_length held.0 held.1) held.2
