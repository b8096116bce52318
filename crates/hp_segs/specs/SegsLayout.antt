-- How the segment value is kept. No public clause cites this module.
use Rattle.std.specs.Prelude.{ℕ, ◌+◌, ◌≤◌, Bool, List, Option, sum_by}
use Rattle.hp_base.specs.declared.row.Run.{Run}
use Rattle.hp_segs.specs.AsksView.{AsksView}
use Rattle.hp_segs.specs.SegsView.{SegsView, set_aside}
use Rattle.hp_segs.specs.Sound.{IsSound}
use Rattle.hp_segs.specs.Table.{TableView}
use Rattle.hp_segs.specs.declared.ask.Ask.{Ask}
use Rattle.hp_segs.specs.declared.external_range.ExternalRange.{ExternalRange}
use Rattle.hp_segs.specs.declared.growth.Growth.{Growth}

-- what is seen of the parts
abbrev pub view_of : TableView → AsksView → List Run → List (ℕ × Run) → Option Growth → List Bool → List (Option Ask) → List ExternalRange → ℕ → SegsView
view_of table asks retiring retired growth roster armed ranges spare = record {
  pools = table.pools;
  log = table.log;
  segments = table.segments;
  retiring = retiring;
  retired = retired;
  asks = asks.entries;
  growth = growth;
  roster = roster;
  armed = armed;
  ranges = ranges;
  spare = spare;
}

-- the parts make a sound value, and there is room for what spare and the places set aside promise, and for a Retiring run at each
-- slot
pub record IsKept (table : TableView) (asks : AsksView) (retiring : List Run) (retired : List (ℕ × Run)) (growth : Option Growth) (roster : List Bool)
    (armed : List (Option Ask)) (ranges : List ExternalRange) (spare retiring_room : ℕ) : Type 0 where
  pub sound : IsSound (view_of table asks retiring retired growth roster armed ranges spare)
  pub records : spare + set_aside (view_of table asks retiring retired growth roster armed ranges spare) ≤ table.room
  pub outcomes : spare + set_aside (view_of table asks retiring retired growth roster armed ranges spare) ≤ asks.room
  pub runs : sum_by (λ line. line.slots) table.pools ≤ retiring_room
