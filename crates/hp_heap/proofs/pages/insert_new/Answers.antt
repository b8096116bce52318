use Rattle.std.proofs.Common.{ℕ, ◌+◌, ap, ◌∙◌}
use Rattle.hp_heap.specs.PlainHeap.{freed}
use Rattle.hp_heap.specs.Joining.{with_stretch}
use Rattle.hp_heap.specs.Headers.{spans_of}
use Rattle.hp_heap.proofs.AddingLemmas.{added_busy, added_joinable, added_ranges}
use Rattle.hp_heap.proofs.pages.insert_new.Goals as goal

pub insert_joined-requires-clause-busy : goal.insert_joined-requires-clause-busy
insert_joined-requires-clause-busy c =
    added_busy c.add-key.result c.args.range c.args.headers.now.items c.add-key.new.self.items c.requires.busy c.add-key.ensures.items c.add-key.ensures.rising c.requires.least

pub insert_joined-requires-clause-joinable : goal.insert_joined-requires-clause-joinable
insert_joined-requires-clause-joinable c =
    added_joinable c.add-key.result c.args.range c.args.headers.now.items c.add-key.new.self.items c.requires.busy c.add-key.ensures.items c.add-key.ensures.rising c.requires.joinable

pub returns-clause-ranges : goal.returns-clause-ranges
returns-clause-ranges c =
    added_ranges c.add-key.result c.args.range c.args.headers.now.items c.add-key.new.self.items c.requires.busy c.add-key.ensures.items c.add-key.ensures.rising
    (c.add-key.new.self.insertions + 1) (spans_of c.insert_joined.new.headers.items) c.insert_joined.ensures.ranges
    ∙ ap (λ (n : ℕ). with_stretch (freed (n + 1) c.args.range) (spans_of c.args.headers.now.items)) c.add-key.ensures.insertions
