-- What is left to drop leads to the same table.
use Rattle.std.proofs.Common.{◌≡◌, ◌≤◌, false, drop, length}
use Rattle.std.specs.List.{All}
use Rattle.hp_segs.specs.Lists.{lists_of}
use Rattle.hp_segs.specs.SegsView.{rows_in}
use Rattle.hp_segs.specs.SoundRows.{AreHeld}
use Rattle.hp_segs.specs.TableCalls.{AllCount}
use Rattle.hp_segs.specs.TableLayout.{removed_all}
use Rattle.hp_segs.proofs.table.Table.remove_all.Given as goal

abbrev pub invariant-loop-run : goal.invariant-loop-run
invariant-loop-run l = record {
  rest : removed_all l.runs l.initial.self ≡ removed_all (drop l.run-index l.runs) l.self;
  uncounted : All (λ run. AllCount false run l.self.segments) (drop l.run-index l.runs);
  held : AreHeld (lists_of l.self.pools) (rows_in l.self.segments) (drop l.run-index l.runs);
  room : length (drop l.run-index l.runs) ≤ l.self.room;
}
