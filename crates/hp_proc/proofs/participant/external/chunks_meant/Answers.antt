-- The name's heap has an index.
use Rattle.hp_proc.proofs.ExternalMeant.{is_meant}
use Rattle.hp_proc.proofs.participant.external.chunks_meant.Goals as goal

pub returns-in-Ok-clause-heap : goal.returns-in-Ok-clause-heap
returns-in-Ok-clause-heap c =
    let found = c.in-Ok.ensures.found in
    is_meant c.args.names.now.heaps c.args.text.now c.in-Ok.index found.0 c.are_sound.ensures.1 found.1
