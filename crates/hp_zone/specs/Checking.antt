-- What stands against the reservation of a memzone, and which of it is named: the rule "Memzones" of docs/HEAP.md.
use Rattle.std.specs.Prelude.{◌≡◌, ℕ, ◌<◌, ◌≤◌, true, false, List, length}
use Rattle.hp_base.specs.Requests.{is_align, is_bound, rounded_size}
use Rattle.hp_zone.specs.Zones.{IsNotFound, IsZoneName}
use Rattle.hp_zone.specs.declared.fault.ZoneFault.{ZoneFault}
use Rattle.hp_zone.specs.declared.fault.ZoneFault.TheVariants.{NameLong, Exists, NoSpace, BadAlign, BadBound}
use Rattle.hp_zone.specs.declared.limits.TheConstants.{MAX_ZONES}
use Rattle.hp_zone.specs.declared.zone.Zone.{Zone}

-- a reservation: the name, the length in bytes, the alignment and the bound that are asked for
pub record Reservation : Type 0 where
  pub name : List ℕ
  pub len : ℕ
  pub align : ℕ
  pub bound : ℕ

-- a fault stands against a reservation, whatever else does. The length is rounded as a whole number, also past 64 bits
abbrev pub StandsAgainst : List Zone → Reservation → ZoneFault → Type 0
StandsAgainst zones asked NameLong = ¬ IsZoneName asked.name
StandsAgainst zones asked Exists = ¬ IsNotFound zones asked.name
StandsAgainst zones asked (NoSpace limit) = (limit ≡ MAX_ZONES) × (MAX_ZONES ≤ length zones)
StandsAgainst zones asked BadAlign = is_align asked.align ≡ false
StandsAgainst zones asked BadBound = is_bound (rounded_size asked.len) asked.bound ≡ false

-- the order in which faults are judged
abbrev pub turn_of : ZoneFault → ℕ
turn_of NameLong = 1
turn_of Exists = 2
turn_of (NoSpace limit) = 3
turn_of BadAlign = 4
turn_of BadBound = 5

-- the fault is the first that stands against the reservation
pub record IsFirstFault (zones : List Zone) (asked : Reservation) (fault : ZoneFault) : Type 0 where
  pub stands : StandsAgainst zones asked fault
  pub first : (earlier : ZoneFault) → turn_of earlier < turn_of fault → ¬ StandsAgainst zones asked earlier

-- nothing stands against the reservation
pub record IsAcceptable (zones : List Zone) (asked : Reservation) : Type 0 where
  pub name : IsZoneName asked.name
  pub fresh : IsNotFound zones asked.name
  pub place : length zones < MAX_ZONES
  pub aligned : is_align asked.align ≡ true
  pub bounded : is_bound (rounded_size asked.len) asked.bound ≡ true
