-- Segment lists: which of them an address lies in.
use Rattle.std.specs.Prelude.{ℕ, ◌-◌, ◌/◌, ◌&&◌, Bool, nat_lt, nat_le, List, [], ◌∷◌, Option, Some, None, option_to_list, if◌then◌else◌}
use Rattle.std.specs.List.{flat_map}
use Rattle.hp_view.specs.declared.line.Line.{Line}
use Rattle.hp_view.specs.declared.line.Line.TheVariants as line
use Rattle.hp_view.specs.declared.lists.Slots.{Slots}

abbrev pub list_of : Line → Option Slots
list_of (line.List socket page base slots) = Some (record { socket = socket; page = page; base = base; slots = slots })
list_of _ = None

-- an address lies in one of a list's slots
abbrev pub holds : Slots → ℕ → Bool
holds list addr = nat_lt 0 list.page && (nat_le list.base addr && nat_lt ((addr - list.base) / list.page) list.slots)

-- the first list that an address lies in
unfoldable pub list_at : ℕ → List Slots → Option Slots
list_at addr [] = None
list_at addr (list ∷ lists) = if holds list addr then Some list else list_at addr lists

-- the segment lists of a report
abbrev pub lists_of : List Line → List Slots
lists_of lines = flat_map (λ line. option_to_list (list_of line)) lines
