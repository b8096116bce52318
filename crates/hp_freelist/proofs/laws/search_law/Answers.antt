use Rattle.hp_freelist.specs.Laws.{answers_of}
use Rattle.hp_freelist.proofs.SearchLaw.{finds_first_of_least}
use Rattle.hp_freelist.proofs.laws.search_law.Goals as goal

pub returns : goal.returns
returns c = λ test lists from found is. finds_first_of_least (answers_of test) lists from found is
