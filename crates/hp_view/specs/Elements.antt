-- What the picture says of elements.
use Rattle.std.specs.Prelude.{ℕ, ◌/◌, ◌&&◌, Bool, true, false, nat_lt, List, [], ◌++◌, codes, length}
use Rattle.std.specs.Fmt.{decimal, digits}
use Rattle.hp_view.specs.declared.line.Line.{Line}
use Rattle.hp_view.specs.declared.line.Line.TheVariants as line
use Rattle.hp_view.specs.declared.shape.Colour.{Colour}
use Rattle.hp_view.specs.declared.shape.Colour.TheVariants as colour

abbrev pub is_element : Line → Bool
is_element (line.Free start whole class) = true
is_element (line.Busy start whole size who label) = true
is_element _ = false

abbrev pub is_busy : Line → Bool
is_busy (line.Busy start whole size who label) = true
is_busy _ = false

-- the bytes of an element with its header
abbrev pub whole_of : Line → ℕ
whole_of (line.Free start whole class) = whole
whole_of (line.Busy start whole size who label) = whole
whole_of _ = 0

-- where it begins
abbrev pub start_of : Line → ℕ
start_of (line.Free start whole class) = start
start_of (line.Busy start whole size who label) = start
start_of _ = 0

abbrev pub label_of : Line → List ℕ
label_of (line.Busy start whole size who label) = label
label_of _ = []

-- a free element by the class of its free list
abbrev pub colour_of : Line → Colour
colour_of (line.Free start whole class) = colour.Free class
colour_of _ = colour.Busy

abbrev pub free_words : ℕ → ℕ → ℕ → List ℕ
free_words start whole class =
    codes "free: " ++ (decimal whole
    ++ (codes " bytes from 0x" ++ (digits 16 false start
    ++ (codes " on, in the free list of class " ++ decimal class))))

abbrev pub busy_words : ℕ → ℕ → ℕ → ℕ → List ℕ
busy_words start whole size who =
    codes ": busy, " ++ (decimal size
    ++ (codes " bytes of data in an element of " ++ (decimal whole
    ++ (codes " bytes from 0x" ++ (digits 16 false start
    ++ (codes " on; participant " ++ (decimal who ++ codes " asked for it")))))))

-- the words that an element shows: the numbers of its line
abbrev pub element_words : Line → List ℕ
element_words (line.Free start whole class) = free_words start whole class
element_words (line.Busy start whole size who label) = label ++ busy_words start whole size who
element_words _ = []

-- a label has room in so many pixels
abbrev pub has_room : List ℕ → ℕ → Bool
has_room label width = nat_lt 0 (length label) && nat_lt (length label) (width / 9)
