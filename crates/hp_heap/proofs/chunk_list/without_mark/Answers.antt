use Rattle.std.proofs.Common.{sym, ◌∙◌}
use Rattle.hp_heap.proofs.ChunkFacts.MarkLemmas.{mark_cleared, mark_gone}
use Rattle.hp_heap.proofs.chunk_list.without_mark.Goals as goal

pub returns-then-has_attached : goal.returns-then-has_attached
returns-then-has_attached c = mark_cleared c.args.participant c.args.marks c.requires (sym c.has_attached.ensures ∙ c.if-has_attached.true)

pub returns-else-has_attached : goal.returns-else-has_attached
returns-else-has_attached c = mark_gone c.args.participant c.args.marks c.requires (sym c.has_attached.ensures ∙ c.if-has_attached.false)
