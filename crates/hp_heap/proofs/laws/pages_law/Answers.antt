use Rattle.hp_heap.proofs.CutFacts.CutPages.{cuts_pages}
use Rattle.hp_heap.proofs.laws.pages_law.Goals as goal

pub returns : goal.returns
returns c = cuts_pages
