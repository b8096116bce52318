-- What the passes of a cell know, and how their steps change that.
use Rattle.std.specs.Prelude.{true, false, List, [], ◌∷◌, ◌++◌}
use Rattle.hp_stats.specs.declared.stat_pair.StatPair.{StatPair}
use Rattle.hp_stats.specs.declared.view.View.{View}
use Rattle.hp_stats.specs.Pairs.{newest_of}

-- the view of the pen before its first step
abbrev pub first_view : View
first_view = record { pen = true; published = []; seen = [] }

-- the view of a pass that has seen some pairs, and is no pen
abbrev pub seeing : List StatPair → View
seeing seen = record { pen = false; published = []; seen = seen }

abbrev pub new_reader : View
new_reader = seeing []

abbrev pub new_reader_view : View → View
new_reader_view v = new_reader

-- what the pen tells a reader: the newest pair
abbrev pub told_view : View → View
told_view v = seeing (newest_of v.published ∷ [])

-- what a reader tells the pen: the pairs that it has seen
abbrev pub seen_view : View → View
seen_view v = seeing v.seen

-- a pass takes in what another has seen
abbrev pub both_seen : View → View → View
both_seen v w = record v { seen = v.seen ++ w.seen }

abbrev pub without_seen : View → View
without_seen v = record v { seen = [] }

-- a pair was published
abbrev pub after_publish : StatPair → View → View
after_publish p v = record v { published = v.published ++ p ∷ [] }

-- a pair was seen
abbrev pub after_see : StatPair → View → View
after_see p v = record v { seen = v.seen ++ p ∷ [] }
