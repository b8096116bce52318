use Rattle.std.proofs.Common.{◌≡◌, ℕ, ◌<◌, Some}
use Rattle.std.specs.List.{slice_get}
use Rattle.hp_stats.specs.Pairs.{AreAmong}
use Rattle.hp_stats.specs.StatViews.{PenView, seen_of}
use Rattle.hp_threads.proofs.counting.meet_pens.Given as goal

-- pens and pass stay, and at the heaps so far they have met
abbrev pub invariant-loop-heap : goal.invariant-loop-heap
invariant-loop-heap g l = record {
  pens : l.pens.items ≡ l.initial.pens.items;
  pass : l.pass ≡ l.initial.pass;
  met : (one : ℕ) (pen : PenView) → one < l.heap → slice_get l.initial.pens.items one ≡ Some pen
      → AreAmong pen.published (seen_of one l.initial.pass);
}
