-- With what is to come, the words are those of every other line.
use Rattle.std.proofs.Common.{◌≡◌, ◌≤◌, ◌++◌, drop, length, vec_capacity, vec_len}
use Rattle.hp_ring.specs.Weave.{every_other, lines_of}
use Rattle.hp_ring.proofs.lines.every_other.Given as goal

abbrev pub invariant-loop-byte : goal.invariant-loop-byte
invariant-loop-byte l = record {
  so_far : l.words.items ++ every_other l.own (lines_of (drop l.byte-index l.text)) ≡ every_other l.initial.own (lines_of l.text);
  few : vec_len l.words ≤ l.byte-index;
  room : length l.text ≤ vec_capacity l.words;
}
