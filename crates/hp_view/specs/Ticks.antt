-- The pages of a heap, as ticks under its band.
use Rattle.std.specs.Prelude.{ℕ, ◌==◌, false, List, [], ◌∷◌, ◌++◌, codes, Option, Some, None, if◌then◌else◌}
use Rattle.std.specs.Fmt.{decimal, digits}
use Rattle.hp_view.specs.declared.line.Line.{Line}
use Rattle.hp_view.specs.declared.line.Line.TheVariants as line
use Rattle.hp_view.specs.declared.lists.Slots.{Slots}
use Rattle.hp_view.specs.declared.shape.Colour.TheVariants as colour
use Rattle.hp_view.specs.declared.shape.Shape.{Shape}
use Rattle.hp_view.specs.Lists.{list_at}
use Rattle.hp_view.specs.Scales.{place, plus}
use Rattle.hp_view.specs.Shapes.{field, rectangle}

-- where a page of a heap begins
abbrev pub page_of : ℕ → Line → Option ℕ
page_of heap (line.Owned addr of) = if of == heap then Some addr else None
page_of heap _ = None

abbrev pub size_in : Option Slots → ℕ
size_in None = 0
size_in (Some list) = list.page

-- the size of the page at an address, by its list
abbrev pub page_size : List Slots → ℕ → ℕ
page_size lists addr = size_in (list_at addr lists)

-- the bytes of the heap's pages up to the end of one
abbrev pub bytes_after : List Slots → ℕ → ℕ → ℕ
bytes_after lists before addr = plus before (page_size lists addr)

abbrev pub tick_words : ℕ → ℕ → List ℕ
tick_words size addr =
    codes "a page of " ++ (decimal size ++ (codes " bytes begins at 0x" ++ digits 16 false addr))

-- the tick of a page, where it begins; none where the next page begins in the same pixel
abbrev pub tick_shapes : List Slots → ℕ → ℕ → ℕ → ℕ → List Shape
tick_shapes lists total y before addr =
    if place before total == place (bytes_after lists before addr) total
    then []
    else field (rectangle (place before total) y 1 8) colour.Tick (tick_words (page_size lists addr) addr) ∷ []

abbrev pub tick_of : List Slots → ℕ → ℕ → ℕ → Option ℕ → List Shape
tick_of lists total y before None = []
tick_of lists total y before (Some addr) = tick_shapes lists total y before addr

abbrev pub bytes_past : List Slots → ℕ → Option ℕ → ℕ
bytes_past lists before None = before
bytes_past lists before (Some addr) = bytes_after lists before addr

-- the ticks of the pages of a heap among lines, with so many bytes of its pages before them
unfoldable pub ticks : List Slots → ℕ → ℕ → ℕ → ℕ → List Line → List Shape
ticks lists heap total y before [] = []
ticks lists heap total y before (first ∷ others) =
    tick_of lists total y before (page_of heap first) ++ ticks lists heap total y (bytes_past lists before (page_of heap first)) others
