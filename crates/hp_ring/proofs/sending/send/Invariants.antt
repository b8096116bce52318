-- The words so far were put.
use Rattle.std.proofs.Common.{◌≡◌, ◌≤◌, ◌-◌, length, take}
use Rattle.hp_ring.proofs.SentLemmas.{AreSentSoFar}
use Rattle.hp_ring.proofs.sending.send.Given as goal

abbrev pub invariant-loop-at : goal.invariant-loop-at
invariant-loop-at g l = record {
  ring : l.pass.ring ≡ l.initial.pass.ring;
  who : l.pass.who ≡ l.initial.pass.who;
  within : l.at ≤ length l.words;
  sent : AreSentSoFar (take l.at l.words) l.pass.sent;
}

abbrev pub decreases-loop-at : goal.decreases-loop-at
decreases-loop-at g l = length l.words - l.at
