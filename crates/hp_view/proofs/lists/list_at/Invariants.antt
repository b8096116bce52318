use Rattle.std.proofs.Common.{◌≡◌, drop}
use Rattle.hp_view.specs.Lists.{list_at}
use Rattle.hp_view.proofs.lists.list_at.Given as goal

-- none of the lists so far holds the address
abbrev pub invariant-loop-list : goal.invariant-loop-list
invariant-loop-list l = list_at l.addr (drop l.list-index l.lists) ≡ list_at l.addr l.lists
