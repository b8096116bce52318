-- The band of a heap: its elements by address, and neighbours that fall below a pixel as one mark.
use Rattle.std.specs.Prelude.{ℕ, ◌-◌, ◌==◌, ◌&&◌, max, Bool, false, nat_le, List, [], ◌∷◌, ◌++◌, codes, length, if◌then◌else◌}
use Rattle.std.specs.Fmt.{decimal, digits}
use Rattle.hp_view.specs.declared.bands.Band.{Band}
use Rattle.hp_view.specs.declared.line.Line.{Line}
use Rattle.hp_view.specs.declared.mark.Mark.{Mark}
use Rattle.hp_view.specs.declared.shape.Area.{Area}
use Rattle.hp_view.specs.declared.shape.Colour.TheVariants as colour
use Rattle.hp_view.specs.declared.shape.Shape.{Shape}
use Rattle.hp_view.specs.declared.shape.Style.TheVariants as style
use Rattle.hp_view.specs.Elements.{colour_of, element_words, has_room, is_busy, label_of, start_of, whole_of}
use Rattle.hp_view.specs.Scales.{is_narrow, place, plus}
use Rattle.hp_view.specs.Shapes.{field, label, rectangle}

abbrev pub busy_count : Line → ℕ
busy_count element = if is_busy element then 1 else 0

-- the mark of one element, with so many bytes of the heap before it
abbrev pub single : Line → ℕ → Mark
single element from = record { from = from; to = plus from (whole_of element); count = 1; busy = busy_count element }

-- an element that comes after a mark is drawn with it: it and the first of the mark take less than a pixel, and it begins in the pixel in
-- which the mark does
abbrev pub joins : Line → Mark → Line → ℕ → Bool
joins first mark next total =
    is_narrow (whole_of first) total && (is_narrow (whole_of next) total && (place mark.from total == place mark.to total))

abbrev pub with_next : Mark → Line → Mark
with_next mark next =
    record { from = mark.from; to = plus mark.to (whole_of next); count = plus mark.count 1; busy = plus mark.busy (busy_count next) }

-- what takes less than a pixel is three pixels wide, and stands out of the band above and below
abbrev pub area_of : Band → Line → Mark → Area
area_of band first mark =
    if is_narrow (whole_of first) band.total
    then rectangle (place mark.from band.total) (band.y - 4) 3 48
    else rectangle (place mark.from band.total) band.y (max (place mark.to band.total - plus (place mark.from band.total) 1) 1) 40

abbrev pub small_words : ℕ → ℕ → ℕ → ℕ → List ℕ
small_words count busy bytes start =
    decimal count
    ++ (codes " small elements, " ++ (decimal busy
    ++ (codes " of them busy: " ++ (decimal bytes
    ++ (codes " bytes from 0x" ++ (digits 16 false start ++ codes " on"))))))

-- the words of several elements that are drawn as one, by the address of the first
abbrev pub group_words : Mark → ℕ → List ℕ
group_words mark start = small_words mark.count mark.busy (mark.to - mark.from) start

-- a label in its field, or to the left of it, pointing at it
abbrev pub label_shapes : Bool → Area → List ℕ → List Shape
label_shapes beside area text =
    if has_room text area.width
    then label (plus area.x 5) (plus area.y 25) style.Inside text ∷ []
    else (if beside && has_room text area.x then label (area.x - 4) (plus area.y 29) style.Before (text ++ codes " >") ∷ [] else [])

-- one element, with its label where that has room
abbrev pub element_shapes : Bool → Area → Line → List Shape
element_shapes beside area element = field area (colour_of element) (element_words element) ∷ label_shapes beside area (label_of element)

-- what is drawn of a mark that begins with an element
abbrev pub mark_shapes : Band → Line → Mark → List Shape
mark_shapes band first mark =
    if mark.count == 1
    then element_shapes (band.few && is_narrow (whole_of first) band.total) (area_of band first mark) first
    else field (area_of band first mark) colour.Many (group_words mark (start_of first)) ∷ []

abbrev pub drawn_unless : Bool → Band → Line → Mark → List Shape
drawn_unless joined band first mark = if joined then [] else mark_shapes band first mark

abbrev pub next_mark : Bool → Mark → Line → Mark
next_mark joined mark next = if joined then with_next mark next else single next mark.to

-- what is drawn of a mark that begins with an element, and of the elements that come after it: one that joins it is drawn with it
unfoldable pub band_after : Band → Line → Mark → List Line → List Shape
band_after band first mark [] = mark_shapes band first mark
band_after band first mark (next ∷ others) =
    drawn_unless (joins first mark next band.total) band first mark
    ++ band_after band (if joins first mark next band.total then first else next) (next_mark (joins first mark next band.total) mark next) others

-- what is drawn of elements
abbrev pub band_by : Band → List Line → List Shape
band_by band [] = []
band_by band (first ∷ others) = band_after band first (single first 0) others

-- what is drawn of the elements of a heap with so many bytes; a label may stand beside its field where they are 12 or fewer
abbrev pub band_of : ℕ → ℕ → List Line → List Shape
band_of total y elements = band_by (record { total = total; few = nat_le (length elements) 12; y = y }) elements
