-- The bytes of the words so far were added.
use Rattle.std.proofs.Common.{◌≡◌, ◌++◌, take}
use Rattle.hp_ring.specs.Gathering.{bytes_of}
use Rattle.hp_ring.proofs.gathering.add_bytes.Given as goal

abbrev pub invariant-loop-word : goal.invariant-loop-word
invariant-loop-word l = l.bytes.items ≡ l.initial.bytes.items ++ bytes_of (take l.word-index l.words)
