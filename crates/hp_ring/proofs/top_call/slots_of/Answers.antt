use Rattle.std.proofs.Common.{map, string_bytes}
use Rattle.hp_ring.proofs.ProgramLemmas.{slots_by, wrong_count}
use Rattle.hp_ring.proofs.top_call.slots_of.Goals as goal

pub returns-then-count-ne1-clause-slots : goal.returns-then-count-ne1-clause-slots
returns-then-count-ne1-clause-slots c = wrong_count (map string_bytes c.args.words.now) c.count.result c.count.ensures c.if-count-ne1.true

pub returns-clause-slots : goal.returns-clause-slots
returns-clause-slots c =
    slots_by (map string_bytes c.args.words.now) c.count.result c.number.result c.count.ensures c.if-count-ne1.false c.number.ensures.number
