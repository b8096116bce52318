-- Laws of names: the limits, and that logs replay: the rules "Memzones" and "The directory of heaps" of docs/HEAP.md.
use Rattle.std.specs.Prelude.{◌≡◌, ℕ, ⊤, List, [], ◌++◌, length}
use Rattle.std.specs.List.{All}
use Rattle.hp_zone.specs.Directory.{IsNamed, MayOpen, PlainDirectory, directory_after, directory_at, opening}
use Rattle.hp_zone.specs.Zones.{IsZoneName, zones_after, zones_at}
use Rattle.hp_zone.specs.declared.heap_name.HeapName.{HeapName}
use Rattle.hp_zone.specs.declared.limits.TheConstants.{MAX_ZONES, MAX_ZONE_NAME, FIRST_EXTERNAL_SOCKET}
use Rattle.hp_zone.specs.declared.name_change.NameChange.{NameChange}
use Rattle.hp_zone.specs.declared.name_change.NameChange.TheVariants.{Named, Unnamed, Range, RangeGone}
use Rattle.hp_zone.specs.declared.zone.Zone.{Zone}
use Rattle.hp_zone.specs.declared.zone.ZoneChange.{ZoneChange}

-- the constants of the code are the numbers of the rules
pub record HasNumbers : Type 0 where
  pub zones : MAX_ZONES ≡ 2560
  pub name : MAX_ZONE_NAME ≡ 31
  pub external : FIRST_EXTERNAL_SOCKET ≡ 256

-- changes of memzones and then more leave what the more leave of what the first left; and what all changes of a log leave is what the
-- log leaves
pub record ZonesReplay (log more : List ZoneChange) : Type 0 where
  pub parts : (zones : List Zone) → zones_after zones (log ++ more) ≡ zones_after (zones_after zones log) more
  pub whole : zones_at log (length log) ≡ zones_after [] log
  pub front : zones_at (log ++ more) (length log) ≡ zones_after [] log

-- changes of a directory and then more leave what the more leave of what the first left; and what all changes of a log leave is what the
-- log leaves
pub record DirectoryReplays (sockets : List ℕ) (log more : List NameChange) : Type 0 where
  pub parts : (plain : PlainDirectory) → directory_after plain (log ++ more) ≡ directory_after (directory_after plain log) more
  pub whole : directory_at sockets log (length log) ≡ directory_after (opening sockets) log
  pub front : directory_at sockets (log ++ more) (length log) ≡ directory_after (opening sockets) log

-- a change gives no name of more than 31 bytes, and none without one
abbrev pub GivesShortName : NameChange → Type 0
GivesShortName (Named index socket name) = IsZoneName name
GivesShortName (Unnamed index) = ⊤
GivesShortName (Range index addr len page) = ⊤
GivesShortName (RangeGone index addr) = ⊤

-- each heap that has a name has one of 1 to 31 bytes
abbrev pub HasShortNames : PlainDirectory → Type 0
HasShortNames plain = (index : ℕ) (heap : HeapName) → IsNamed plain index heap → IsZoneName heap.name

-- where each name that was given has 1 to 31 bytes, each name of the directory has, also those of sockets. That a directory may have
-- been opened with its sockets is a field of `IsDirectory`
abbrev pub NamesStayShort : List ℕ → List NameChange → Type 0
NamesStayShort sockets log = MayOpen sockets → All GivesShortName log → HasShortNames (directory_after (opening sockets) log)
