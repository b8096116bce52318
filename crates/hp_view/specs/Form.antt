-- The form of the lines of a report, and what the picture takes of each: docs/VIEW.md, "What is read".
use Rattle.std.specs.Prelude.{ℕ, ◌==◌, ◌&&◌, ◌||◌, Bool, nat_le, nat_lt, List, [], length, codes, slice_index_or, take, drop, Option, Some, None, if◌then◌else◌}
use Rattle.std.specs.Char.{digit_value}
use Rattle.std.specs.List.{list_all, slice_split}
use Rattle.std.specs.Option.{option_and_then, option_map}
use Rattle.std.specs.Str.{bytes_eq}
use Rattle.std.specs.Str.Parse.{digits_value}
use Rattle.hp_base.specs.Round.{fitting}
use Rattle.hp_view.specs.declared.line.Line.{Line}
use Rattle.hp_view.specs.declared.line.Line.TheVariants as line
use Rattle.hp_view.specs.declared.outcome.Cause.{Cause}
use Rattle.hp_view.specs.declared.outcome.Cause.TheVariants as cause
use Rattle.hp_view.specs.declared.outcome.Outcome.{Outcome}
use Rattle.hp_view.specs.declared.outcome.Outcome.TheVariants as outcome

-- the bytes of lines: printable ASCII
abbrev pub is_printable : ℕ → Bool
is_printable byte = nat_le 32 byte && nat_le byte 126

-- digits of a radix, one or more, and nothing else
abbrev pub is_numeral : ℕ → List ℕ → Bool
is_numeral radix digits = nat_lt 0 (length digits) && list_all (λ digit. nat_lt (digit_value digit) radix) digits

-- the number of at most 64 bits that the digits write
unfoldable pub numeral : ℕ → List ℕ → Option ℕ
numeral radix digits = if is_numeral radix digits then fitting (digits_value radix digits) else None

-- a field, or an empty one where there are not so many
abbrev pub field : List (List ℕ) → ℕ → List ℕ
field fields at = slice_index_or fields at []

abbrev pub is_at : List (List ℕ) → ℕ → List ℕ → Bool
is_at fields at word = bytes_eq (field fields at) word

abbrev pub number : List (List ℕ) → ℕ → Option ℕ
number fields at = numeral 10 (field fields at)

abbrev pub if_to : ℕ → ℕ → Option ℕ
if_to most n = if nat_le n most then Some n else None

abbrev pub number_to : ℕ → List (List ℕ) → ℕ → Option ℕ
number_to most fields at = option_and_then (if_to most) (number fields at)

-- an address is `0x` and hexadecimal digits
abbrev pub address_of : List ℕ → Option ℕ
address_of text =
    if nat_lt (length text) 2 then None else (if bytes_eq (take 2 text) (codes "0x") then numeral 16 (drop 2 text) else None)

abbrev pub address : List (List ℕ) → ℕ → Option ℕ
address fields at = address_of (field fields at)

-- `heap <index> <name> <socket> total <t> free <f> used <u> greatest <g> busy <b> frees <c>`
abbrev pub heap_line : List (List ℕ) → Option Line
heap_line fields =
    option_and_then (λ index.
    option_and_then (λ socket.
    option_and_then (λ total.
    option_and_then (λ used.
    option_and_then (λ busy. option_map (λ frees. line.Heap index (field fields 2) socket total used busy frees) (number fields 15))
    (number fields 13)) (number fields 9)) (number fields 5)) (number fields 3)) (number fields 1)

-- `elem <start> <whole> free <class>`, of classes 0 to 12
abbrev pub free_line : List (List ℕ) → Option Line
free_line fields =
    option_and_then (λ start. option_and_then (λ whole. option_map (λ class. line.Free start whole class) (number_to 12 fields 4)) (number fields 2))
    (address fields 1)

-- `elem <start> <whole> busy <pad> <size> <p> <label>`
abbrev pub busy_line : List (List ℕ) → Option Line
busy_line fields =
    option_and_then (λ start.
    option_and_then (λ whole.
    option_and_then (λ size. option_map (λ who. line.Busy start whole size who (field fields 7)) (number fields 6)) (number fields 5))
    (number fields 2)) (address fields 1)

abbrev pub element_line : List (List ℕ) → Option Line
element_line fields =
    if length fields == 5 && is_at fields 3 (codes "free") then free_line fields
    else (if length fields == 8 && is_at fields 3 (codes "busy") then busy_line fields else None)

-- `list <index> <socket> <page> <base> <slots>`
abbrev pub list_line : List (List ℕ) → Option Line
list_line fields =
    option_and_then (λ socket.
    option_and_then (λ page.
    option_and_then (λ base. option_map (λ slots. line.List socket page base slots) (number fields 5)) (address fields 4))
    (number fields 3)) (number fields 2)

-- `seg <address> owned <heap>`, or another state of a segment
abbrev pub segment_line : List (List ℕ) → Option Line
segment_line fields =
    option_and_then (λ addr.
    if length fields == 4 && is_at fields 2 (codes "owned") then option_map (λ heap. line.Owned addr heap) (number fields 3) else Some line.Other)
    (address fields 1)

abbrev pub record_of : List (List ℕ) → ℕ → ℕ → ℕ → Option Line
record_of fields generation addr len =
    if length fields == 6 && is_at fields 2 (codes "add") then option_map (λ heap. line.Add generation addr len heap) (number fields 5)
    else (if length fields == 5 && is_at fields 2 (codes "drop") then Some (line.Gone generation addr len) else None)

-- `rec <generation> add <address> <bytes> <heap>`, or `drop <address> <bytes>`
abbrev pub record_line : List (List ℕ) → Option Line
record_line fields =
    option_and_then (λ generation. option_and_then (λ addr. option_and_then (λ len. record_of fields generation addr len) (number fields 4)) (address fields 3))
    (number fields 1)

-- the cause of a refusal
abbrev pub cause_of : List ℕ → Option Cause
cause_of word =
    if bytes_eq word (codes "nolist") then Some cause.NoList
    else (if bytes_eq word (codes "toofew") then Some cause.TooFew
    else (if bytes_eq word (codes "listfull") then Some cause.ListFull
    else (if bytes_eq word (codes "cannothold") then Some cause.CannotHold
    else (if bytes_eq word (codes "denied") then Some cause.Denied
    else (if bytes_eq word (codes "mapfailed") then Some cause.MapFailed
    else (if bytes_eq word (codes "late") then Some cause.Late
    else (if bytes_eq word (codes "withdrawn") then Some cause.Withdrawn else None)))))))

abbrev pub done_of : List (List ℕ) → ℕ → Option Outcome
done_of fields n =
    if is_at fields 3 (codes "granted") then Some (outcome.Granted n)
    else (if is_at fields 3 (codes "freed") then Some (outcome.Freed n)
    else (if is_at fields 3 (codes "stale") then Some outcome.Stale else None))

-- `granted <generation>`, `freed <generation>`, `stale <number>`, or `refused` with its cause
abbrev pub outcome_of : List (List ℕ) → Option Outcome
outcome_of fields =
    if is_at fields 3 (codes "refused") then option_map (λ why. outcome.Refused why) (cause_of (field fields 4))
    else option_and_then (done_of fields) (number fields 4)

-- `ask <p> <number> <outcome>`
abbrev pub ask_line : List ℕ → List (List ℕ) → Option Line
ask_line text fields = option_map (λ how. line.Ask how text) (outcome_of fields)

-- `table <p> <in or out> <n> <rows>`
abbrev pub table_line : List (List ℕ) → Option Line
table_line fields =
    option_and_then (λ who.
    option_and_then (λ records.
    option_and_then (λ rows.
    if is_at fields 2 (codes "in") || is_at fields 2 (codes "out") then Some (line.Table who (is_at fields 2 (codes "in")) records rows) else None)
    (number fields 4)) (number fields 3)) (number fields 1)

-- the first words of lines that the picture does not show
abbrev pub is_other : List ℕ → Bool
is_other word =
    bytes_eq word (codes "line") || (bytes_eq word (codes "hist") || (bytes_eq word (codes "zone") || (bytes_eq word (codes "pool")
    || (bytes_eq word (codes "map") || bytes_eq word (codes "event")))))

abbrev pub other_line : List (List ℕ) → Option Line
other_line fields = if nat_le 4 (length fields) && is_other (field fields 0) then Some line.Other else None

abbrev pub log_line : List ℕ → List (List ℕ) → Option Line
log_line text fields =
    if is_at fields 0 (codes "rec") then record_line fields
    else (if is_at fields 0 (codes "ask") && nat_le 5 (length fields) then ask_line text fields
    else (if is_at fields 0 (codes "table") && length fields == 5 then table_line fields
    else (if is_at fields 0 (codes "end") && length fields == 1 then Some line.End else other_line fields)))

-- what the picture takes of a line by its text and its fields, where it is of one of the forms
abbrev pub form_of : List ℕ → List (List ℕ) → Option Line
form_of text fields =
    if is_at fields 0 (codes "heap") && length fields == 16 then heap_line fields
    else (if is_at fields 0 (codes "elem") then element_line fields
    else (if is_at fields 0 (codes "list") && length fields == 6 then list_line fields
    else (if is_at fields 0 (codes "seg") && nat_le 3 (length fields) then segment_line fields else log_line text fields)))

-- the fields of a line: what stands before, between and after its spaces
unfoldable pub fields_of : List ℕ → List (List ℕ)
fields_of text = slice_split (λ byte. byte == 32) text

-- what the picture takes of a line
abbrev pub line_of : List ℕ → Option Line
line_of text = if list_all is_printable text then form_of text (fields_of text) else None
