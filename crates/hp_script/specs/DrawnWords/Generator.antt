-- The lines that the generator draws, one after another.
use Rattle.std.specs.Prelude.{ℕ, zero, suc, ◌+◌, Bool, ◌||◌, ◌==◌, nat_lt, List, [], ◌∷◌, ◌++◌, length, slice_index, if◌then◌else◌}
use Rattle.std.specs.List.{remove}
use Rattle.hp_script.specs.DrawnWords.Draws.{next_state, drawn}
use Rattle.hp_script.specs.declared.drawn_line.DrawnAct.{DrawnAct}
use Rattle.hp_script.specs.declared.drawn_line.DrawnAct.TheVariants.{Alloc, Free, Resize}
use Rattle.hp_script.specs.declared.drawn_line.DrawnLine.{DrawnLine}

-- what stands between two lines: the state of the draws, and the numbers of the labels that are live, in the order in which they were made
pub record Drawing : Type 0 where
  pub state : ℕ
  pub live : List ℕ

abbrev pub standing : ℕ → List ℕ → Drawing
standing state live = record { state = state; live = live }

-- at the start no label is live
abbrev pub opening : ℕ → Drawing
opening start = standing start []

-- a drawing after a draw
abbrev pub behind_draw : Drawing → Drawing
behind_draw from = record { state = next_state from.state; live = from.live }

-- what a participant does in a line, and what stands after that line
pub record Turn : Type 0 where
  pub act : DrawnAct
  pub left : Drawing

-- a size in bytes
abbrev pub drawn_size : ℕ → ℕ
drawn_size state = 64 + drawn 65536 state

-- a place among the live labels
abbrev pub drawn_place : Drawing → ℕ
drawn_place from = drawn (length from.live) from.state

-- the live label at that place
abbrev pub drawn_label : Drawing → ℕ
drawn_label from = slice_index from.live (drawn_place from)

-- an allocation draws its size and its socket; its label is the number of its line, and is live from then on
abbrev pub allocates : ℕ → Drawing → Turn
allocates number from = record {
  act = Alloc number (drawn_size from.state) (drawn 2 (next_state from.state));
  left = record { state = next_state (next_state from.state); live = from.live ++ number ∷ [] };
}

-- a free draws a live label; that is live no longer, and those after it move up
abbrev pub frees : Drawing → Turn
frees from = record {
  act = Free (drawn_label from);
  left = record { state = next_state from.state; live = remove from.live (drawn_place from) };
}

-- a resize draws a live label and a size
abbrev pub resizes : Drawing → Turn
resizes from = record {
  act = Resize (drawn_label from) (drawn_size (next_state from.state));
  left = behind_draw (behind_draw from);
}

-- of eight verbs four allocate, three free and one resizes; where no label is live, each allocates
abbrev pub is_allocating : ℕ → ℕ → Bool
is_allocating verb live = nat_lt verb 4 || (live == 0)

abbrev pub turn_by : ℕ → ℕ → Drawing → Turn
turn_by verb number from =
    if is_allocating verb (length from.live) then allocates number from
    else (if nat_lt verb 7 then frees from else resizes from)

-- a line draws one of four participants, its verb, and what that asks for
abbrev pub drawn_turn : ℕ → Drawing → Turn
drawn_turn number from = turn_by (drawn 8 (next_state from.state)) number (behind_draw (behind_draw from))

abbrev pub drawn_line : ℕ → Drawing → DrawnLine
drawn_line number from = record { participant = drawn 4 from.state; act = (drawn_turn number from).act }

-- what stands after a line
abbrev pub behind_line : ℕ → Drawing → Drawing
behind_line number from = (drawn_turn number from).left

-- so many lines, the first of them of a number
unfoldable pub drawn_lines : Drawing → ℕ → ℕ → List DrawnLine
drawn_lines from number zero = []
drawn_lines from number (suc more) = drawn_line number from ∷ drawn_lines (behind_line number from) (number + 1) more

-- the lines from a start, numbered from 1
abbrev pub generated_lines : ℕ → ℕ → List DrawnLine
generated_lines start lines = drawn_lines (opening start) 1 lines
