-- The name's heap has an index.
use Rattle.hp_proc.proofs.ExternalMeant.{is_meant}
use Rattle.hp_proc.proofs.participant.external.heap_meant.Goals as goal

pub returns-in-Ok-clause-heap : goal.returns-in-Ok-clause-heap
returns-in-Ok-clause-heap c = record {
  name = c.in-Ok.ensures.name;
  meant = is_meant c.args.names.now.heaps c.args.text.now c.in-Ok.index c.in-Ok._socket c.are_sound.ensures.1 c.in-Ok.ensures.found;
}
