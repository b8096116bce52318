-- How a directory is kept. No public clause cites this module.
use Rattle.std.specs.Prelude.{ℕ, ◌+◌, ◌*◌, ◌≤◌, Bool, true, false, List, length, Option, Some, None, count_by}
use Rattle.std.specs.Str.{bytes_eq}
use Rattle.hp_zone.specs.Directory.{DirectoryView, IsDirectory}
use Rattle.hp_zone.specs.declared.heap_name.HeapName.{HeapName}
use Rattle.hp_zone.specs.declared.heap_name.HeapRange.{HeapRange}
use Rattle.hp_zone.specs.declared.name_change.NameChange.{NameChange}

-- whether a heap has no name
abbrev pub is_unnamed : Option HeapName → Bool
is_unnamed None = true
is_unnamed (Some heap) = false

-- whether a heap has a name
abbrev pub is_heap : Option HeapName → Bool
is_heap None = false
is_heap (Some heap) = true

-- whether a heap has that name
abbrev pub is_named : List ℕ → Option HeapName → Bool
is_named text None = false
is_named text (Some heap) = bytes_eq heap.name text

-- the directory that is kept so
abbrev pub directory_of : List ℕ → List (Option HeapName) → List HeapRange → ℕ → List NameChange → ℕ → DirectoryView
directory_of sockets heaps ranges next log spare = record {
  sockets = sockets;
  plain = record { heaps = heaps; ranges = ranges; next = next };
  log = log;
  room = spare;
}

-- memory is set aside for the names or ranges that there is room for, and for the removal of each name and each range
pub record HasRoom (view : DirectoryView) (ranges_room log_room : ℕ) : Type 0 where
  pub one : view.room ≤ 1
  pub ranges : length view.plain.ranges + view.room ≤ ranges_room
  pub log : length view.log + (2 * view.room + (count_by is_heap view.plain.heaps + length view.plain.ranges)) ≤ log_room

-- what holds of a directory at all times, and its room
pub record IsKept (view : DirectoryView) (ranges_room log_room : ℕ) : Type 0 where
  pub sound : IsDirectory view
  pub room : HasRoom view ranges_room log_room
