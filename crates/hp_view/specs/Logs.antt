-- The log over time, as a heap sees it: its bytes after each record.
use Rattle.std.specs.Prelude.{ℕ, ◌-◌, ◌==◌, max, Bool, true, false, List, [], ◌∷◌, ◌++◌, codes, Option, Some, None, if◌then◌else◌}
use Rattle.std.specs.Fmt.{decimal, digits}
use Rattle.std.specs.List.{list_any}
use Rattle.hp_view.specs.declared.line.Line.{Line}
use Rattle.hp_view.specs.declared.line.Line.TheVariants as line
use Rattle.hp_view.specs.declared.lists.Slots.{Slots}
use Rattle.hp_view.specs.declared.log.Chart.{Chart}
use Rattle.hp_view.specs.declared.log.Key.{Key}
use Rattle.hp_view.specs.declared.outcome.Outcome.{Outcome}
use Rattle.hp_view.specs.declared.outcome.Outcome.TheVariants as outcome
use Rattle.hp_view.specs.declared.shape.Area.{Area}
use Rattle.hp_view.specs.declared.shape.Colour.{Colour}
use Rattle.hp_view.specs.declared.shape.Colour.TheVariants as colour
use Rattle.hp_view.specs.declared.shape.Shape.{Shape}
use Rattle.hp_view.specs.Lists.{list_at}
use Rattle.hp_view.specs.Scales.{place, plus, scaled}
use Rattle.hp_view.specs.Shapes.{field, rectangle}

abbrev pub is_record : Line → Bool
is_record (line.Add generation addr len heap) = true
is_record (line.Gone generation addr len) = true
is_record _ = false

abbrev pub has_socket : ℕ → Option Slots → Bool
has_socket socket None = false
has_socket socket (Some list) = list.socket == socket

-- a record is of a heap: it names it, or what goes lies in a list of its socket
abbrev pub is_own : Key → List Slots → Line → Bool
is_own key lists (line.Add generation addr len heap) = heap == key.index
is_own key lists (line.Gone generation addr len) = has_socket key.socket (list_at addr lists)
is_own key lists _ = false

abbrev pub changed : ℕ → Line → ℕ
changed total (line.Add generation addr len heap) = plus total len
changed total (line.Gone generation addr len) = total - len
changed total _ = total

-- the bytes of a heap after a record
abbrev pub total_after : Key → List Slots → ℕ → Line → ℕ
total_after key lists total of = if is_own key lists of then changed total of else total

-- the most bytes that a heap has after any of the records, or so many
unfoldable pub peak : Key → List Slots → ℕ → ℕ → List Line → ℕ
peak key lists total most [] = most
peak key lists total most (first ∷ others) =
    peak key lists (total_after key lists total first) (max most (total_after key lists total first)) others

-- the step of the record after so many others: as wide as its place among all, and as high as the heap's bytes on a scale of 50 pixels
abbrev pub step_area : Chart → ℕ → ℕ → Area
step_area chart at total =
    rectangle (place at chart.records) (plus chart.y (50 - scaled total chart.peak 50)) (place (plus at 1) chart.records - place at chart.records)
    (plus (scaled total chart.peak 50) 1)

-- an outcome names a record
abbrev pub outcome_names : ℕ → Outcome → Bool
outcome_names generation (outcome.Granted of) = of == generation
outcome_names generation (outcome.Freed of) = of == generation
outcome_names generation _ = false

abbrev pub names : ℕ → Line → Bool
names generation (line.Ask how text) = outcome_names generation how
names generation _ = false

-- an ask that was granted, or pages that were given up, name a record; those of a growth that failed have no such name
abbrev pub is_told : List Line → ℕ → Bool
is_told all generation = list_any (names generation) all

abbrev pub generation_of : Line → ℕ
generation_of (line.Add generation addr len heap) = generation
generation_of (line.Gone generation addr len) = generation
generation_of _ = 0

abbrev pub moved_colour : Line → Colour
moved_colour (line.Add generation addr len heap) = colour.Grown
moved_colour _ = colour.Shrunk

abbrev pub step_colour : Line → Bool → Bool → Colour
step_colour of own told = if own then (if told then moved_colour of else colour.Refused) else colour.Stayed

abbrev pub other_words : ℕ → ℕ → List ℕ
other_words generation total =
    codes "record " ++ (decimal generation ++ (codes " is of another heap; this one has " ++ (decimal total ++ codes " bytes then")))

abbrev pub grown_words : ℕ → ℕ → ℕ → ℕ → List ℕ
grown_words generation len addr total =
    codes "record " ++ (decimal generation
    ++ (codes ": " ++ (decimal len
    ++ (codes " bytes come at 0x" ++ (digits 16 false addr
    ++ (codes "; the heap has " ++ (decimal total ++ codes " bytes then")))))))

abbrev pub shrunk_words : ℕ → ℕ → ℕ → ℕ → List ℕ
shrunk_words generation len addr total =
    codes "record " ++ (decimal generation
    ++ (codes ": " ++ (decimal len
    ++ (codes " bytes go from 0x" ++ (digits 16 false addr
    ++ (codes "; the heap has " ++ (decimal total ++ codes " bytes then")))))))

-- the words of a step: the numbers of its record, and the heap's bytes then
abbrev pub step_words : Line → Bool → ℕ → List ℕ
step_words (line.Add generation addr len heap) own total =
    if own then grown_words generation len addr total else other_words generation total
step_words (line.Gone generation addr len) own total =
    if own then shrunk_words generation len addr total else other_words generation total
step_words _ own total = []

-- what is said of a record of a growth that failed
abbrev pub failed_words : Bool → Bool → List ℕ
failed_words own told = if own then (if told then [] else codes "; of a growth that failed") else []

-- the step of a record; none where it has no pixel of its own
abbrev pub step_shapes : Chart → ℕ → ℕ → Bool → Bool → Line → List Shape
step_shapes chart at total own told of =
    if place (plus at 1) chart.records - place at chart.records == 0
    then []
    else field (step_area chart at total) (step_colour of own told) (step_words of own total ++ failed_words own told) ∷ []

abbrev pub record_shapes : List Line → List Slots → Chart → ℕ → ℕ → Line → List Shape
record_shapes all lists chart at total of =
    if is_record of then step_shapes chart at total (is_own chart.key lists of) (is_told all (generation_of of)) of else []

-- how many records there are up to a line
abbrev pub records_after : ℕ → Line → ℕ
records_after at of = if is_record of then plus at 1 else at

-- the steps of a heap by the records among lines, with so many records before them, after which it has so many bytes
unfoldable pub steps : List Line → List Slots → Chart → ℕ → ℕ → List Line → List Shape
steps all lists chart at total [] = []
steps all lists chart at total (first ∷ others) =
    record_shapes all lists chart at (total_after chart.key lists total first) first
    ++ steps all lists chart (records_after at first) (total_after chart.key lists total first) others
