use Rattle.std.proofs.Common.{◌≡◌, ℕ, ◌<◌, ◌≤◌, true, false, length}
use Rattle.hp_freelist.specs.Lists.{is_listed}
use Rattle.bench_freelist.proofs.work.fill.Given as goal

abbrev pub invariant-loop-key : goal.invariant-loop-key
invariant-loop-key l = record {
  room : 20000 ≤ l.lists.room;
  count : length l.lists.lists ≡ 13;
  listed : (k : ℕ) → k < l.key → is_listed k l.lists.lists ≡ true;
  unlisted : (k : ℕ) → l.key ≤ k → is_listed k l.lists.lists ≡ false;
}
