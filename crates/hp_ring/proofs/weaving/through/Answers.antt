use Rattle.std.proofs.Common.{List, sym, subst, ◌∙◌, arith}
use Rattle.hp_base.specs.Streams.{HasRisen}
use Rattle.hp_ring.specs.declared.taking.Taken.{Taken}
use Rattle.hp_ring.specs.PassViews.{SendView}
use Rattle.hp_ring.specs.Program.{EndsThrough}
use Rattle.hp_ring.proofs.WeaveLemmas.{came_through, ends_through, fresh_passes}
use Rattle.hp_ring.proofs.weaving.through.Goals as goal

pub returns-clause-outcome : goal.returns-clause-outcome
returns-clause-outcome g c =
    let ring = c.args.ring.now in
    let text = c.args.text.now in
    let before : Taken = record { pass = c.args.taker; first = c.in-Ok.prepared.first; second = c.in-Ok.prepared.second } in
    let first : SendView = c.two-one.result.0 in
    let second : SendView = c.two-one.result.1 in
    let first' : SendView = c.exchange-one.result.0 in
    let second' : SendView = c.exchange-one.result.1 in
    let after : Taken = c.exchange-one.result.2 in
    let held = g.K.Sink.held c.args.sink.now in
    let held' = g.K.Sink.held c.put_out-status.new.sink in
    let failed = HasRisen (g.K.Sink.faults c.args.sink.now) (g.K.Sink.faults c.put_out-status.new.sink) in
    let fresh = fresh_passes ring first second before c.requires.two (sym c.two-one.ensures ∙ c.requires.senders) c.requires.taker
    c.in-Ok.ensures.gathered.0 c.in-Ok.ensures.gathered.1 in
    subst (λ (l : List SendView). EndsThrough text held held' failed c.put_out-status.result l after.pass) (sym c.both.ensures)
    (ends_through text first' second' after
    (came_through ring text c.in-Ok.prepared.words.odd.items c.in-Ok.prepared.words.even.items first second first' second' before after fresh
    c.in-Ok.ensures.words.0 c.in-Ok.ensures.words.1 (λ i. omega (arith, c.type_inv.text i)) c.exchange-one.ensures)
    held held' failed c.put_out-status.result c.put_out-status.ensures.outcome)
