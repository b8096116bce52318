-- Memzones in the order of their reservation, and the log of their changes: the rule "Memzones" of docs/HEAP.md.
use Rattle.std.specs.Prelude.{◌≡◌, ◌≢◌, ℕ, ◌+◌, ◌<◌, ◌≤◌, max, Bool, not, List, [], ◌∷◌, ◌++◌, length, take, filter, slice_index_or}
use Rattle.std.specs.List.{All, Contains}
use Rattle.std.specs.Str.{bytes_eq}
use Rattle.hp_zone.specs.declared.limits.TheConstants.{MAX_ZONES, MAX_ZONE_NAME}
use Rattle.hp_zone.specs.declared.zone.Zone.{Zone}
use Rattle.hp_zone.specs.declared.zone.ZoneChange.{ZoneChange}
use Rattle.hp_zone.specs.declared.zone.ZoneChange.TheVariants.{Put, Gone}

-- what contracts see of memzones: the zones in the order of their reservation, the log of all changes, and for how many more
-- reservations memory is set aside
pub record ZonesView : Type 0 where
  pub zones : List Zone
  pub log : List ZoneChange
  pub room : ℕ

-- no zone and no change, and no memory is set aside
abbrev pub no_zones : ZonesView
no_zones = record { zones = []; log = []; room = 0 }

-- a text may be the name of a memzone
pub record IsZoneName (text : List ℕ) : Type 0 where
  pub some : 0 < length text
  pub short : length text ≤ MAX_ZONE_NAME

-- a name is found: this zone has it
pub record IsFound (zones : List Zone) (text : List ℕ) (zone : Zone) : Type 0 where
  pub there : Contains zones zone
  pub named : zone.name ≡ text

-- a name is not found: no zone has it
abbrev pub IsNotFound : List Zone → List ℕ → Type 0
IsNotFound zones text = All (λ zone. zone.name ≢ text) zones

-- whether a zone has that name
abbrev pub has_name : List ℕ → Zone → Bool
has_name text zone = bytes_eq zone.name text

-- the zones without that of a name
abbrev pub without : List ℕ → List Zone → List Zone
without text zones = filter (λ zone. not (has_name text zone)) zones

-- the zones after a change: a zone that is put comes last, one that is gone leaves the others in their order
abbrev pub after_change : List Zone → ZoneChange → List Zone
after_change zones (Put zone) = zones ++ zone ∷ []
after_change zones (Gone name) = without name zones

-- the zones after changes, one by one
abbrev pub zones_after : List Zone → List ZoneChange → List Zone
zones_after zones [] = zones
zones_after zones (change ∷ log) = zones_after (after_change zones change) log

-- what the first n changes of a log leave, from no zone on
abbrev pub zones_at : List ZoneChange → ℕ → List Zone
zones_at log n = zones_after [] (take n log)

-- a zone may be reserved: its name may be one and is not found, there is a place for it, and memory is set aside
pub record MayReserve (old : ZonesView) (zone : Zone) : Type 0 where
  pub name : IsZoneName zone.name
  pub fresh : IsNotFound old.zones zone.name
  pub place : length old.zones < MAX_ZONES
  pub memory : 0 < old.room

-- a zone is reserved: it comes last, the log has its change, and memory for one reservation is used
pub record Reserves (old new : ZonesView) (zone : Zone) : Type 0 where
  pub zones : new.zones ≡ old.zones ++ zone ∷ []
  pub log : new.log ≡ old.log ++ Put zone ∷ []
  pub room : new.room + 1 ≡ old.room

-- the zone of a name is freed: it was found, the others stay in their order, the log has its change, and no memory is used
pub record Frees (old new : ZonesView) (text : List ℕ) (zone : Zone) : Type 0 where
  pub found : IsFound old.zones text zone
  pub zones : new.zones ≡ without text old.zones
  pub log : new.log ≡ old.log ++ Gone text ∷ []
  pub room : new.room ≡ old.room

-- memory for at least one reservation is set aside, and nothing else changes
abbrev pub with_room : ZonesView → ZonesView
with_room old = record old { room = max 1 old.room }

-- a name is that of one zone at most: two zones of one name are the same
abbrev pub AreApart : List Zone → Type 0
AreApart zones = (i k : ℕ) (d : Zone) → i < length zones → k < length zones
    → (slice_index_or zones i d).name ≡ (slice_index_or zones k d).name → i ≡ k

-- what holds of memzones at all times
pub record IsZones (view : ZonesView) : Type 0 where
  -- the changes of the log leave the zones
  pub replayed : view.zones ≡ zones_after [] view.log
  pub apart : AreApart view.zones
  pub names : All (λ zone. IsZoneName zone.name) view.zones
  pub few : length view.zones ≤ MAX_ZONES
