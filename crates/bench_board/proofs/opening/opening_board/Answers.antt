use Rattle.std.proofs.Common.{[], ◌∷◌}
use Rattle.hp_board.proofs.NamesFacts.NamesOpened.{names_open}
use Rattle.bench_board.proofs.opening.opening_board.Goals as goal

pub new-requires-clause-names : goal.new-requires-clause-names
new-requires-clause-names c =
    names_open (0 ∷ []) c.in_ok-heaps.heaps.items c.in_ok-names.names c.in_ok-names.ensures.heaps c.in_ok-names.ensures.zones c.in_ok-heaps.ensures.names
