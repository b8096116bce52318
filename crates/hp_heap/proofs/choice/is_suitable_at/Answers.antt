use Rattle.hp_heap.proofs.SpanLemmas.{space_at}
use Rattle.hp_heap.proofs.choice.is_suitable_at.Goals as goal

pub is_suitable-requires : goal.is_suitable-requires
is_suitable-requires c = record { space = space_at c.args.headers.now.items c.args.key c.get.result.now c.get.ensures.stands c.requires.room }
