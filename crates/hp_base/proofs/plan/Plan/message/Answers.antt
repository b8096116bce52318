-- The action of what is found is that of the plan.
use Rattle.std.proofs.Common.{subst, sym, Some, None}
use Rattle.hp_base.specs.Plans.{IsAction}
use Rattle.hp_base.proofs.PlanLemmas.{message_planned}
use Rattle.hp_base.proofs.plan.Plan.message.Goals as goal

pub returns-in-Some-clause-planned : goal.returns-in-Some-clause-planned
returns-in-Some-clause-planned c =
    subst (λ action. IsAction c.args.self.now c.args.kind c.args.party c.args.k action) (sym c.entry_action.ensures)
    (message_planned c.args.self.now c.args.kind c.args.party c.args.k c.message_named.result (Some c.in-Some.entry) c.message_named.ensures c.in-Some.ensures)

pub returns-in-None-clause-planned : goal.returns-in-None-clause-planned
returns-in-None-clause-planned c =
    message_planned c.args.self.now c.args.kind c.args.party c.args.k c.message_named.result None c.message_named.ensures c.in-None.ensures
