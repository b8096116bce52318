-- Its table and its watchers are handed out.
use Rattle.std.proofs.Common.{◌≡◌, ◌∙◌, subst}
use Rattle.hp_serve.specs.Ending.{LeavesTable}
use Rattle.hp_serve.specs.Party.{Party}
use Rattle.hp_threads.proofs.working.brought_home.Goals as goal

pub returns-clause-table : goal.returns-clause-table
returns-clause-table g c =
    let its : c.into_inner.result.server ≡ c.into_parts-judged.result.0.value.server = λ i. (c.into_inner.ensures i).server in
    subst (λ (party : Party). LeavesTable party c.in_ok-table.field-0.table) (its ∙ c.into_parts-judged.ensures.server)
    c.in_ok-table.ensures.table
