-- The views of the table's seats, each of which has the parts of some participants: the rule "Views" of docs/BOARD.md.
use Rattle.std.specs.Prelude.{ℕ, List, [], ◌∷◌, ◌++◌, map, unwrap_or}
use Rattle.std.specs.List.{range_with_len, slice_get}
use Rattle.hp_segs.specs.Opening as segments
use Rattle.hp_zone.specs.Directory.{opened}
use Rattle.hp_zone.specs.Zones.{no_zones}
use Rattle.hp_board.specs.Views.{newcomer}
use Rattle.hp_board.specs.declared.opening.Opening.{Opening}
use Rattle.hp_board.specs.declared.view.Mine.{Mine}
use Rattle.hp_board.specs.declared.view.View.{View}

-- what stands for a part where there is none
abbrev pub nobody : Mine
nobody = newcomer (record {
  participants = 0;
  serves = [];
  cells = record { marker = record {}; value = [] };
  segs = record { marker = record {}; value = segments.opening [] 0 0 };
  names = record { marker = record {}; value = record { zones = no_zones; heaps = opened [] } };
}) 0

-- a view of one participant's part
abbrev pub one_part : Mine → View
one_part mine = record { parts = mine ∷ [] }

-- the parts of so many participants, from a number on
abbrev pub parts_from : Opening → ℕ → ℕ → List Mine
parts_from opening who count = map (newcomer opening) (range_with_len who count)

-- the view of a new board: a part for each participant
abbrev pub whole_view : Opening → View
whole_view opening = record { parts = parts_from opening 0 opening.participants }

-- a spent view
abbrev pub spent_view : View
spent_view = record { parts = [] }

-- the first of some parts, and all but the first
abbrev pub first_of : List Mine → List Mine
first_of [] = []
first_of (part ∷ parts) = part ∷ []

abbrev pub others_of : List Mine → List Mine
others_of [] = []
others_of (part ∷ parts) = parts

-- a view of the first part alone, and one of all other parts
abbrev pub first_part : View → View
first_part view = record { parts = first_of view.parts }

abbrev pub other_parts : View → View
other_parts view = record { parts = others_of view.parts }

-- the parts of two views
abbrev pub both_parts : View → View → View
both_parts view other = record { parts = view.parts ++ other.parts }

-- the part of a view that has one
abbrev pub part_of : View → Mine
part_of view = unwrap_or (slice_get view.parts 0) nobody
