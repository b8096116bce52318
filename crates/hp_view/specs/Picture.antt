-- The picture of a report: its shapes, and its text.
use Rattle.std.specs.Prelude.{ℕ, List, [], ◌∷◌, ◌++◌, codes, None}
use Rattle.hp_view.specs.declared.counts.Kind.TheVariants as kind
use Rattle.hp_view.specs.declared.line.Line.{Line}
use Rattle.hp_view.specs.declared.shape.Shape.{Shape}
use Rattle.hp_view.specs.declared.shape.Style.{Style}
use Rattle.hp_view.specs.declared.shape.Style.TheVariants as style
use Rattle.hp_view.specs.Asks.{refusals}
use Rattle.hp_view.specs.Counts.{count_of}
use Rattle.hp_view.specs.Heaps.{heaps}
use Rattle.hp_view.specs.Legend.{legend}
use Rattle.hp_view.specs.Lists.{lists_of}
use Rattle.hp_view.specs.Printing.{picture_text}
use Rattle.hp_view.specs.Scales.{plus, times}
use Rattle.hp_view.specs.Shapes.{label}
use Rattle.hp_view.specs.Tables.{tables}
use Rattle.hp_view.specs.Tallies.{tallies}

abbrev pub words_at : ℕ → Style → List ℕ → List Shape
words_at y kind text = label 20 y kind text ∷ []

-- where the heaps end
abbrev pub below_heaps : List Line → ℕ
below_heaps lines = plus 140 (times (count_of kind.Heap lines) 190)

abbrev pub height_of : List Line → ℕ
height_of lines = plus (below_heaps lines) (plus 384 (times (count_of kind.Table lines) 18))

abbrev pub heaps_shapes : List Line → List Shape
heaps_shapes lines = heaps lines (lists_of lines) (count_of kind.Record lines) 140 lines

abbrev pub asks_shapes : ℕ → List Line → List Shape
asks_shapes y lines =
    words_at (plus y 14) style.Head (codes "Asks for pages that were refused, over the same records (ask p n: number n of participant p)")
    ++ refusals lines (count_of kind.Record lines) (plus y 26) 0 0 None lines
    ++ words_at (plus y 76) style.Head (codes "Asks of the coordinator, for pages and of pages given up, by outcome") ++ tallies (plus y 100) lines

abbrev pub tables_shapes : ℕ → List Line → List Shape
tables_shapes y lines = words_at y style.Head (codes "Participants") ++ tables (count_of kind.Record lines) (plus y 24) lines

-- what is drawn of a report
abbrev pub shapes_of : List Line → List Shape
shapes_of lines =
    legend lines ++ heaps_shapes lines ++ asks_shapes (below_heaps lines) lines ++ tables_shapes (plus (below_heaps lines) 334) lines

-- the text of its picture
abbrev pub picture_of : List Line → List ℕ
picture_of lines = picture_text (height_of lines) (shapes_of lines)
