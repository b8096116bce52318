-- A planned run is the first one and has a place for the request, and each refusal says what stands.
use Rattle.std.proofs.Common.{◌∙◌, sym}
use Rattle.hp_segs.specs.declared.plan_refusal.PlanRefusal.TheVariants.{StaleAsk, GrowthOpen, NoList, TooFew, ListFull, CannotHold}
use Rattle.hp_segs.proofs.SlotFacts.PlannedLemmas.{planned_first, planned_fits, planned_holds}
use Rattle.hp_segs.proofs.AskFacts.RefusalLemmas.{refused_plan}
use Rattle.hp_segs.proofs.segs.Segs.plan_run.Goals as goal

pub returns-clause-first : goal.returns-clause-first
returns-clause-first c = planned_first c.args.self.now c.args.ask.now c.plan.result c.plan.ensures.limits c.plan.ensures.plan

pub returns-clause-fits : goal.returns-clause-fits
returns-clause-fits c = planned_fits c.args.self.now c.args.ask.now c.plan.result c.plan.ensures.limits c.plan.ensures.plan

pub returns-clause-holds : goal.returns-clause-holds
returns-clause-holds c = planned_holds c.args.self.now c.args.ask.now c.plan.result c.plan.ensures.limits c.plan.ensures.plan

pub returns-clause-stale : goal.returns-clause-stale
returns-clause-stale c = λ number done is. refused_plan c.args.self.now c.args.ask.now (StaleAsk number done) (sym c.plan.ensures.plan ∙ is)

pub returns-clause-growing : goal.returns-clause-growing
returns-clause-growing c = λ generation is. refused_plan c.args.self.now c.args.ask.now (GrowthOpen generation) (sym c.plan.ensures.plan ∙ is)

pub returns-clause-no_list : goal.returns-clause-no_list
returns-clause-no_list c = λ is. refused_plan c.args.self.now c.args.ask.now NoList (sym c.plan.ensures.plan ∙ is)

pub returns-clause-too_few : goal.returns-clause-too_few
returns-clause-too_few c = λ have need is. refused_plan c.args.self.now c.args.ask.now (TooFew have need) (sym c.plan.ensures.plan ∙ is)

pub returns-clause-list_full : goal.returns-clause-list_full
returns-clause-list_full c = λ longest need is. refused_plan c.args.self.now c.args.ask.now (ListFull longest need) (sym c.plan.ensures.plan ∙ is)

pub returns-clause-no_place : goal.returns-clause-no_place
returns-clause-no_place c = λ addr len is. refused_plan c.args.self.now c.args.ask.now (CannotHold addr len) (sym c.plan.ensures.plan ∙ is)
