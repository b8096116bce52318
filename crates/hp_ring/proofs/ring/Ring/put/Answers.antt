use Rattle.std.proofs.Common.{◌≡◌, ℕ, ap, subst, ◌∙◌}
use Rattle.crossbeam_queue.specs.Fifo.{Held}
use Rattle.crossbeam_queue.specs.Passes.{ruled_capacity, view}
use Rattle.hp_ring.specs.declared.send_pass.SendPass.TheInside.{Inside}
use Rattle.hp_ring.specs.Bulks.{bulk}
use Rattle.hp_ring.specs.PassInside.{send_view}
use Rattle.hp_ring.specs.PassViews.{RingView, SendView, WasFull, after_put}
use Rattle.hp_ring.specs.Views.{Shows, after_put as put_in_view}
use Rattle.hp_ring.proofs.PassLemmas.{nothing_put, on_err, on_ok, put_is, was_full}
use Rattle.hp_ring.proofs.ring.Ring.put.Goals as goal

pub returns-clause-put : goal.returns-clause-put
returns-clause-put g c =
    let old : Inside = c.pass.inside in
    let new : Inside = record { who = old.who; token = c.put.new.token } in
    on_ok c.put.result (view new.token ≡ put_in_view c.new.result (view old.token))
    (send_view new ≡ after_put (bulk c.args.pass.now.who c.args.words.now) c.args.pass.now)
    (λ is.
    put_is old new c.new.result c.args.words.now c.put.ensures.queue.0 is
    (c.new.ensures ∙ ap (λ (who : ℕ). bulk who c.args.words.now) c.pass.invariant.who)
    ∙ ap (λ (p : SendView). after_put (bulk p.who c.args.words.now) p) c.pass.view_is) c.put.ensures.ok

pub returns-clause-full : goal.returns-clause-full
returns-clause-full g c =
    let old : Inside = c.pass.inside in
    let new : Inside = record { who = old.who; token = c.put.new.token } in
    on_err c.put.result ((view new.token ≡ view old.token) × Held (ruled_capacity c.self.inside.queue) (Shows (view old.token)))
    ((send_view new ≡ c.args.pass.now) × WasFull c.args.self.now c.args.pass.now)
    (λ had. (
      nothing_put old new c.put.ensures.queue.0 had.0 ∙ c.pass.view_is,
      subst (λ (p : SendView). WasFull c.args.self.now p) c.pass.view_is
          (was_full c.args.self.now old (ruled_capacity c.self.inside.queue) (ap (λ (r : RingView). r.slots) c.self.view_is) c.pass.invariant.one had.1),
    ))
    c.put.ensures.err
