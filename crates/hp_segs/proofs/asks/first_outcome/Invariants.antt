-- The outcome is among the entries that are left.
use Rattle.std.proofs.Common.{◌≡◌, drop}
use Rattle.std.specs.List.{find}
use Rattle.hp_segs.specs.SegsView.{is_outcome_for}
use Rattle.hp_segs.proofs.asks.first_outcome.Given as goal

abbrev pub invariant-loop-entry : goal.invariant-loop-entry
invariant-loop-entry l =
    find (is_outcome_for l.from l.number) l.entries
    ≡ find (is_outcome_for l.from l.number) (drop l.entry-index l.entries)
