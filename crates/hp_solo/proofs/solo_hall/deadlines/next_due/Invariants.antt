use Rattle.std.proofs.Common.{◌≡◌, ℕ, ◌<◌, ◌≤◌, ◌⊎◌, Some}
use Rattle.hp_solo.specs.Solo.{IsPendingDue, due_at, party_at}
use Rattle.hp_solo.proofs.solo_hall.deadlines.next_due.Given as goal

abbrev pub invariant-loop-number : goal.invariant-loop-number
invariant-loop-number g l = record {
  later : l.clock < l.next;
  within : l.next ≤ l.until;
  whose : (l.next ≡ l.until) ⊎ IsPendingDue l.clock l.servers l.next;
  least : (who due : ℕ) → who < l.number → due_at (party_at l.servers who) ≡ Some due → l.clock < due → l.next ≤ due;
}
