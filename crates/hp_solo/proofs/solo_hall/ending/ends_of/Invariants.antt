use Rattle.std.proofs.Common.{◌≡◌, ℕ, ◌+◌, ◌≤◌, drop, length, Some, vec_capacity, vec_len}
use Rattle.std.specs.List.{slice_get}
use Rattle.hp_events.specs.Watchers.{WatchersView}
use Rattle.hp_maps.specs.declared.table.Table.{Table}
use Rattle.hp_solo.specs.Ending.{LeavesListeners, LeavesThere}
use Rattle.hp_solo.specs.Solo.{party_at}
use Rattle.hp_solo.proofs.solo_hall.ending.ends_of.Given as goal

-- those below a number have left, each its table and its watchers
abbrev pub invariant-loop-number : goal.invariant-loop-number
invariant-loop-number g l = record {
  left : l.servers.items ≡ drop l._number l.fn.servers.items;
  rest : l._number + vec_len l.servers ≡ length l.fn.servers.items;
  count : length l.tables.items ≡ l._number;
  room : length l.fn.servers.items ≤ vec_capacity l.tables;
  more : length l.fn.servers.items ≤ vec_capacity l.watchers;
  each : (who : ℕ) (table : Table) → slice_get l.tables.items who ≡ Some table → LeavesThere (party_at l.fn.servers.items who) table;
  told : length l.watchers.items ≡ l._number;
  heard : (who : ℕ) (own : WatchersView) → slice_get l.watchers.items who ≡ Some own
      → LeavesListeners (party_at l.fn.servers.items who) own.listeners;
}
