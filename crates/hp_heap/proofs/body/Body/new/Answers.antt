use Rattle.std.proofs.Common.{sym, ap, ◌∙◌}
use Rattle.hp_heap.specs.PlainHeap.{opening_heap}
use Rattle.hp_heap.specs.Lists.{free_lists}
use Rattle.hp_heap.specs.History.{replay}
use Rattle.hp_heap.proofs.HistoryFacts.SoundLemmas.{opening_lists}
use Rattle.hp_heap.proofs.body.Body.new.Goals as goal

pub returns-clause-lists : goal.returns-clause-lists
returns-clause-lists c =
    c.new-3.ensures.lists ∙ opening_lists c.args.index c.args.serves
    ∙ ap (λ entries. free_lists (replay (opening_heap c.args.index c.args.serves) entries)) (sym c.new-4.ensures.items)
