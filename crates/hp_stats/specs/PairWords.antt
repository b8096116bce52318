-- How a pair is kept as words. No public clause cites this module.
use Rattle.std.specs.Prelude.{ℕ, List, [], ◌∷◌}
use Rattle.hp_stats.specs.declared.stat_pair.StatPair.{StatPair}

abbrev pub words_of : StatPair → List ℕ
words_of p =
    p.entries
    ∷ p.stats.total
    ∷ p.stats.free
    ∷ p.stats.used
    ∷ p.stats.greatest
    ∷ p.stats.busy
    ∷ p.stats.frees
    ∷ []
