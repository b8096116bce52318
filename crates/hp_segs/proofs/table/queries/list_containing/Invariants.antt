-- The lists so far do not contain the address.
use Rattle.std.proofs.Common.{◌≡◌, ◌<◌, ℕ, false, get_or}
use Rattle.hp_segs.specs.TableLayout.{list_contains}
use Rattle.hp_segs.specs.declared.list_info.ListInfo.{ListInfo}
use Rattle.hp_segs.proofs.table.queries.list_containing.Given as goal

abbrev pub invariant-loop-list : goal.invariant-loop-list
invariant-loop-list l = (k : ℕ) (d : ListInfo) → k < l.list → list_contains l.addr (get_or l.lists k d) ≡ false
