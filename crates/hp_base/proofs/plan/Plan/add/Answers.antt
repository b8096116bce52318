-- The index goes on with the new entry.
use Rattle.std.proofs.Common.{◌≡◌, List, [], ◌∷◌, ◌++◌, Some, false, subst, sym, arith}
use Rattle.std.proofs.lemmas.Grind.{common_steps}
use Rattle.std.specs.HashMap.{Updates}
use Rattle.hp_base.specs.PlanIndex.{IsIndexed, is_named}
use Rattle.hp_base.specs.Plans.{has_named}
use Rattle.hp_base.specs.declared.plan_entry.PlanEntry.{PlanEntry}
use Rattle.hp_base.proofs.PlanLemmas.{indexed_push}
use Rattle.hp_base.proofs.plan.Plan.add.Goals as goal

pub invariant_of-self-2 : goal.invariant_of-self-2
invariant_of-self-2 c =
    let items_are : c.push.new.self.items ≡ c.self.inside.entries.items ++ c.args.entry ∷ [] = grind (arith, common_steps) in
    let is_new = subst (λ (plan : List PlanEntry). has_named plan c.args.entry ≡ false) (sym c.self.view_is) c.requires in
    subst (λ (entries : List PlanEntry). IsIndexed c.insert.new.self entries) (sym items_are)
    (indexed_push c.self.inside.entries.items c.args.entry is_new c.self.inside.index c.insert.new.self c.self.invariant
    (subst (λ name. Updates is_named c.self.inside.index c.insert.new.self name (Some c.args.entry)) c.named_by.ensures c.in_ok-insert.ensures.updates))
