-- The segment value at the beginning.
use Rattle.std.specs.Prelude.{ℕ, Bool, ◌&&◌, ◌==◌, nat_lt, List, [], map, None, replicate}
use Rattle.std.specs.List.{range_with_len}
use Rattle.std.specs.Int.{bit_at}
use Rattle.hp_base.specs.declared.pool_line.PoolLine.{PoolLine}
use Rattle.hp_segs.specs.SegsView.{SegsView}

-- the participant is declared and not absent
abbrev pub is_present : ℕ → ℕ → ℕ → Bool
is_present participants absent participant = nat_lt participant participants && (bit_at absent participant == 0)

-- the declared participants without the absent ones
abbrev pub opening_roster : ℕ → ℕ → List Bool
opening_roster participants absent = map (is_present participants absent) (range_with_len 0 16)

-- the value of pools without a record
abbrev pub opening : List PoolLine → ℕ → ℕ → SegsView
opening pools participants absent = record {
  pools = pools;
  log = [];
  segments = [];
  retiring = [];
  retired = [];
  asks = [];
  growth = None;
  roster = opening_roster participants absent;
  armed = replicate 16 None;
  ranges = [];
  spare = 0;
}
