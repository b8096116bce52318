use Rattle.hp_heap.proofs.TaggedLemmas.{tagged_busy}
use Rattle.test_heap.proofs.tests.steps.resize.Goals as goal

pub resize-requires-clause-allowed : goal.resize-requires-clause-allowed
resize-requires-clause-allowed c = record {
  busy = tagged_busy c.tag_of.result c.in_ok-addr.addr c.find.new.self.plain c.in_ok-addr.ensures.there;
  some = c.requires.some;
  lines = c.requires.lines;
  most = c.requires.most;
}
