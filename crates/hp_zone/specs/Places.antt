-- How memzones are kept: by the indexes of their changes in the log, in the order of reservation and in that of their names. No public
-- clause cites this module.
use Rattle.std.specs.Prelude.{◌≡◌, ◌≢◌, ℕ, ◌+◌, ◌*◌, ◌<◌, ◌≤◌, ◌==◌, Bool, true, false, List, [], length, map, slice_index_or, count_by}
use Rattle.std.specs.List.{All, insert, remove}
use Rattle.std.specs.List.Sorted.{IsSortedByKey}
use Rattle.std.specs.Cmp.Lexicographic.{slice_cmp}
use Rattle.std.specs.Ordering.{nat_cmp}
use Rattle.std.specs.declared.cmp.Ordering.{Ordering}
use Rattle.std.specs.declared.cmp.Ordering.TheVariants.{Less, Greater}
use Rattle.hp_zone.specs.Zones.{ZonesView, IsZones}
use Rattle.hp_zone.specs.declared.zone.Zone.{Zone}
use Rattle.hp_zone.specs.declared.zone.ZoneChange.{ZoneChange}
use Rattle.hp_zone.specs.declared.zone.ZoneChange.TheVariants.{Put, Gone}

-- the zone that a change put, and one without a name for another change
abbrev pub zone_put : ZoneChange → Zone
zone_put (Put zone) = zone
zone_put (Gone name) = record { name = []; addr = 0; len = 0; socket = 0; heap = 0 }

abbrev pub is_put : ZoneChange → Bool
is_put (Put zone) = true
is_put (Gone name) = false

-- the zone that the change at an index of the log put
abbrev pub zone_at : List ZoneChange → ℕ → Zone
zone_at log index = zone_put (slice_index_or log index (Gone []))

-- its name, empty where the change at the index put none
abbrev pub name_at : List ZoneChange → ℕ → List ℕ
name_at log index = (zone_at log index).name

-- the change at that index put a zone
pub record IsPut (log : List ZoneChange) (index : ℕ) : Type 0 where
  pub within : index < length log
  pub put : is_put (slice_index_or log index (Gone [])) ≡ true

-- two texts in the order of their bytes
abbrev pub compare : List ℕ → List ℕ → Ordering
compare = slice_cmp nat_cmp

-- the index at a place is of a zone with that name
pub record IsAt (log : List ZoneChange) (by_name : List ℕ) (text : List ℕ) (at : ℕ) : Type 0 where
  pub within : at < length by_name
  pub named : name_at log (slice_index_or by_name at 0) ≡ text

-- a name would go to a place: lower names stand before it, and higher ones from it on
pub record IsGap (log : List ZoneChange) (by_name : List ℕ) (text : List ℕ) (at : ℕ) : Type 0 where
  pub within : at ≤ length by_name
  pub before : (k d : ℕ) → k < at → compare (name_at log (slice_index_or by_name k d)) text ≡ Less
  pub after : (k d : ℕ) → at ≤ k → k < length by_name → compare (name_at log (slice_index_or by_name k d)) text ≡ Greater

-- an index is taken out of a list of indexes
pub record TakesOut (old new : List ℕ) (index : ℕ) : Type 0 where
  pub at : ℕ
  pub within : at < length old
  pub here : slice_index_or old at index ≡ index
  pub rest : new ≡ remove old at

-- indexes in the order of names
abbrev pub IsByName : List ZoneChange → List ℕ → Type 0
IsByName log by_name = IsSortedByKey (name_at log) (slice_cmp nat_cmp) by_name

-- an index is filed among indexes in the order of names, where its name would go
pub record Files (log : List ZoneChange) (old new : List ℕ) (text : List ℕ) (index : ℕ) : Type 0 where
  pub at : ℕ
  pub gap : IsGap log old text at
  pub rest : new ≡ insert old at index

-- two lists have the same indexes, each as often
abbrev pub AreSame : List ℕ → List ℕ → Type 0
AreSame xs ys = (index : ℕ) → count_by (λ other. other == index) xs ≡ count_by (λ other. other == index) ys

-- none of these indexes is of a zone with that name
abbrev pub IsUnknown : List ZoneChange → List ℕ → List ℕ → Type 0
IsUnknown log by_name text = All (λ index. name_at log index ≢ text) by_name

-- what the indexes are: each of a zone that was put, the same in both orders, and one of the orders is that of names
pub record AreIndexes (log : List ZoneChange) (order by_name : List ℕ) : Type 0 where
  pub puts : All (IsPut log) order
  pub same : AreSame order by_name
  pub long : length by_name ≡ length order
  pub sorted : IsByName log by_name

-- the memzones that are kept so
abbrev pub view_of : List ℕ → List ZoneChange → ℕ → ZonesView
view_of order log spare = record { zones = map (zone_at log) order; log = log; room = spare }

-- memory is set aside for the reservations that there is room for, and for the removal of each zone
pub record HasRoom (zones spare changes order_room by_name_room log_room : ℕ) : Type 0 where
  pub one : spare ≤ 1
  pub order : zones + spare ≤ order_room
  pub by_name : zones + spare ≤ by_name_room
  pub log : changes + (2 * spare + zones) ≤ log_room

-- how memzones are kept: what holds of them at all times, by indexes, with room
pub record AreKept (order by_name : List ℕ) (log : List ZoneChange) (spare order_room by_name_room log_room : ℕ) : Type 0 where
  pub sound : IsZones (view_of order log spare)
  pub indexes : AreIndexes log order by_name
  pub room : HasRoom (length order) spare (length log) order_room by_name_room log_room
