-- The action of what is found is that of the plan.
use Rattle.std.proofs.Common.{subst, sym, Some, None}
use Rattle.hp_base.specs.Plans.{IsMapAction}
use Rattle.hp_base.proofs.PlanLemmas.{mapping_planned}
use Rattle.hp_base.proofs.plan.Plan.mapping.Goals as goal

pub returns-in-Some-clause-planned : goal.returns-in-Some-clause-planned
returns-in-Some-clause-planned c =
    subst (λ action. IsMapAction c.args.self.now c.args.party c.args.call action) (sym c.entry_map_action.ensures)
    (mapping_planned c.args.self.now c.args.party c.args.call c.mapping_named.result (Some c.in-Some.entry) c.mapping_named.ensures c.in-Some.ensures)

pub returns-in-None-clause-planned : goal.returns-in-None-clause-planned
returns-in-None-clause-planned c =
    mapping_planned c.args.self.now c.args.party c.args.call c.mapping_named.result None c.mapping_named.ensures c.in-None.ensures
