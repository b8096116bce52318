use Rattle.hp_heap.proofs.FindingLemmas.{data_of}
use Rattle.hp_heap.proofs.finding.busy_at.Goals as goal

pub returns : goal.returns
returns c = data_of c.args.headers.now c.args.addr c.requires c.padded_at-3.result c.in_default.ensures c.in_default-padded_at.ensures c.padded_at-3.ensures
