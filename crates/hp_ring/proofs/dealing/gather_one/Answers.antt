use Rattle.std.proofs.Common.{ap, ◌∙◌}
use Rattle.crossbeam_queue.specs.Passes.{view}
use Rattle.hp_ring.specs.PassViews.{SendView}
use Rattle.hp_ring.specs.Views.{sender, with_sender}
use Rattle.hp_ring.proofs.PassLemmas.{gathered_one}
use Rattle.hp_ring.proofs.RingSteps.{may_join}
use Rattle.hp_ring.proofs.dealing.gather_one.Goals as goal

pub absorb-requires-clause-rule : goal.absorb-requires-clause-rule
absorb-requires-clause-rule c = may_join _ _ _ _

pub returns-clause-gathered : goal.returns-clause-gathered
returns-clause-gathered c =
    c.absorb.ensures.rule
    ∙ (gathered_one (view c.args.token.now) (view c.pass.inside.token) c.pass.invariant.one
    ∙ ap (λ (p : SendView). with_sender (sender p.who p.sent) (view c.args.token.now)) c.pass.view_is)
