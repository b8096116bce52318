use Rattle.std.proofs.Common.{◌≡◌, ℕ, ◌<◌, drop, map}
use Rattle.hp_threads.specs.Meeting.{HasMet}
use Rattle.hp_threads.proofs.meeting.meet_all.Given as goal

-- each has the passes left to the mailboxes that are left, and at the others all have met
abbrev pub invariant-loop-owner : goal.invariant-loop-owner
invariant-loop-owner l = record {
  left : l.left.items ≡ map (drop l.owner) l.fn.all_passes.items;
  met : (one : ℕ) → one < l.owner → HasMet one l.fn.all_passes.items;
}
