-- What is written above the heaps.
use Rattle.std.specs.Prelude.{ℕ, List, [], ◌∷◌, ◌++◌, codes}
use Rattle.std.specs.Fmt.{decimal}
use Rattle.hp_view.specs.declared.counts.Kind.TheVariants as kind
use Rattle.hp_view.specs.declared.line.Line.{Line}
use Rattle.hp_view.specs.declared.shape.Colour.{Colour}
use Rattle.hp_view.specs.declared.shape.Colour.TheVariants as colour
use Rattle.hp_view.specs.declared.shape.Shape.{Shape}
use Rattle.hp_view.specs.declared.shape.Style.TheVariants as style
use Rattle.hp_view.specs.Counts.{count_of}
use Rattle.hp_view.specs.Scales.{plus}
use Rattle.hp_view.specs.Shapes.{field, label, rectangle}

abbrev pub title_words : ℕ → ℕ → ℕ → ℕ → List ℕ
title_words heaps records asks tables =
    codes "A report of heapsim: heaps " ++ (decimal heaps
    ++ (codes ", participants " ++ (decimal tables
    ++ (codes ", records of the log " ++ (decimal records
    ++ (codes ", asks of the coordinator " ++ decimal asks))))))

-- how many heaps, participants, records and asks the report has
abbrev pub title : List Line → List Shape
title lines =
    label 20 30 style.Title (title_words (count_of kind.Heap lines) (count_of kind.Record lines) (count_of kind.Ask lines) (count_of kind.Table lines)) ∷ []

abbrev pub remark : ℕ → List ℕ → List Shape
remark y text = label 20 y style.Note text ∷ []

-- a colour, and what it says
abbrev pub swatch : ℕ → Colour → List ℕ → List Shape
swatch x paint text = field (rectangle x 90 20 14) paint text ∷ label (plus x 26) 102 style.Plain text ∷ []

-- what the colours say
abbrev pub swatches : List Shape
swatches =
    swatch 20 colour.Busy (codes "a busy element") ++ swatch 165 (colour.Free 0) (codes "a free one") ++ swatch 275 colour.Many (codes "several small elements")
    ++ swatch 470 colour.Grown (codes "pages came to the heap") ++ swatch 675 colour.Shrunk (codes "pages went")
    ++ swatch 795 colour.Stayed (codes "a record of another heap") ++ swatch 1000 colour.Refused (codes "an ask was refused")

-- how to read the picture
abbrev pub remark_on_bands : List Shape
remark_on_bands =
    remark 54 (codes "A band is a heap, its bytes by rising address from left to right; a tick below it is where a page begins. What sticks out is wider than it is.")

abbrev pub remark_on_logs : List Shape
remark_on_logs =
    remark 72 (codes "Below that, its size after each record of the log. Where a growth failed, pages came and went again, in red: a mark further down says why. Point at anything to read what it is.")

abbrev pub legend : List Line → List Shape
legend lines = title lines ++ remark_on_bands ++ remark_on_logs ++ swatches
