use Rattle.hp_heap.proofs.AllocFacts.PlaceLemmas.{no_place}
use Rattle.hp_heap.proofs.choice.has_place.Goals as goal

pub returns-then-range-req : goal.returns-then-range-req
returns-then-range-req c = no_place c.args.range.now c.args.req.now c.if-range-req.true
