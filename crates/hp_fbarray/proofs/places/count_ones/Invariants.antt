use Rattle.std.proofs.Common.{◌≡◌, ◌*◌, ◌≤◌, sum_by, take}
use Rattle.std.specs.Int.RustNames.{count_ones}
use Rattle.hp_fbarray.proofs.places.count_ones.Given as goal

abbrev pub invariant-loop-word : goal.invariant-loop-word
invariant-loop-word l =
    record { counted : l.ones ≡ sum_by count_ones (take l.word-index l.words); few : l.ones ≤ 64 * l.word-index }
