use Rattle.std.proofs.Common.{sym, ◌∙◌}
use Rattle.hp_heap.proofs.ChunkFacts.MarkLemmas.{mark_there, mark_set}
use Rattle.hp_heap.proofs.chunk_list.with_mark.Goals as goal

pub returns-then-has_attached : goal.returns-then-has_attached
returns-then-has_attached c = mark_there c.args.participant c.args.marks c.requires (sym c.has_attached.ensures ∙ c.if-has_attached.true)

pub returns-else-has_attached : goal.returns-else-has_attached
returns-else-has_attached c = mark_set c.args.participant c.args.marks c.requires (sym c.has_attached.ensures ∙ c.if-has_attached.false)
