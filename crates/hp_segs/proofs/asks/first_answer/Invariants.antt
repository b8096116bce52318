-- The answer is among the entries that are left.
use Rattle.std.proofs.Common.{◌≡◌, drop}
use Rattle.std.specs.List.{find}
use Rattle.hp_segs.specs.SegsView.{grants_or_refuses}
use Rattle.hp_segs.proofs.asks.first_answer.Given as goal

abbrev pub invariant-loop-entry : goal.invariant-loop-entry
invariant-loop-entry l =
    find (grants_or_refuses l.from l.number) l.entries
    ≡ find (grants_or_refuses l.from l.number) (drop l.entry-index l.entries)
