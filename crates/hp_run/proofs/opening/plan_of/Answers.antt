use Rattle.hp_run.proofs.OpeningLemmas.{not_named}
use Rattle.hp_run.proofs.opening.plan_of.Goals as goal

pub add-requires : goal.add-requires
add-requires c =
    not_named c.args.entries.now c.loop-entry.plan c.loop-entry.entry-index _ c.requires.distinct c.loop-entry.invariant
    c.loop-entry-test.true
