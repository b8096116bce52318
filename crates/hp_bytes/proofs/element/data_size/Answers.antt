-- The element that contains the address is the one with its data there, or none is.
use Rattle.std.proofs.Common.{sym, ◌∙◌}
use Rattle.hp_bytes.proofs.StoreLemmas.{no_range_no_size, size_by_range}
use Rattle.hp_bytes.proofs.element.data_size.Goals as goal

pub returns-in-None : goal.returns-in-None
returns-in-None c = no_range_no_size _ _ c.sound.ensures.tiled (sym c.in-None.ensures)

pub returns-in-Some : goal.returns-in-Some
returns-in-Some c = c.size_at.ensures ∙ size_by_range _ _ _ c.sound.ensures.tiled (sym c.in-Some.ensures)
