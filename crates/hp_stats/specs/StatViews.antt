-- What contracts see of cells, pens and passes: the rule "Statistics without a lock" of docs/BOARD.md.
use Rattle.std.specs.Prelude.{◌≡◌, ℕ, List, [], ◌∷◌, ◌++◌, Some, map, slice_get, slice_index_or, slice_set}
use Rattle.atomic_table.specs.Seated.{TableId}
use Rattle.hp_stats.specs.declared.stat_pair.StatPair.{StatPair}
use Rattle.hp_stats.specs.Pairs.{newest_of}

-- the cell that a pen is for, and the pairs that it has published, in their order
pub record PenView : Type 0 where
  pub cell : TableId
  pub published : List StatPair

-- the cell that a reader is for, and the pairs that it has seen, in their order
pub record ReaderView : Type 0 where
  pub cell : TableId
  pub seen : List StatPair

-- the cells that a pass is for, by heap, and of each heap the pairs that it has read or published, in their order
pub record PassView : Type 0 where
  pub cells : List TableId
  pub seen : List (List StatPair)

-- a pen, and a pass, before the first step
abbrev pub new_pen : TableId → PenView
new_pen cell = record { cell = cell; published = [] }

abbrev pub unread : TableId → ReaderView
unread cell = record { cell = cell; seen = [] }

abbrev pub new_pass : List TableId → PassView
new_pass cells = record { cells = cells; seen = map (λ cell. []) cells }

-- the pen is that heap's
abbrev pub IsPenOf : List TableId → ℕ → PenView → Type 0
IsPenOf cells heap pen = slice_get cells heap ≡ Some pen.cell

-- the count that a pen has published last
abbrev pub last_count : PenView → ℕ
last_count pen = (newest_of pen.published).entries

-- a pair was published, or seen
abbrev pub has_published : StatPair → PenView → PenView
has_published p pen = record pen { published = pen.published ++ p ∷ [] }

abbrev pub has_seen : StatPair → ReaderView → ReaderView
has_seen p reader = record reader { seen = reader.seen ++ p ∷ [] }

-- the pairs that a pass has read or published of a heap
abbrev pub seen_of : ℕ → PassView → List StatPair
seen_of heap pass = slice_index_or pass.seen heap []

-- a pair of a heap was read or published
abbrev pub sees : ℕ → StatPair → PassView → PassView
sees heap p pass = record pass { seen = slice_set pass.seen heap (seen_of heap pass ++ p ∷ []) }
