use Rattle.std.proofs.Common.{◌≡◌, ◌+◌, drop, map}
use Rattle.std.specs.Prelude.{string_bytes}
use Rattle.hp_command.specs.Words.{dashes_at}
use Rattle.hp_command.proofs.values.dashes_at.Given as goal

abbrev pub invariant-loop-word : goal.invariant-loop-word
invariant-loop-word l = record {
  at_is : l.at ≡ l.word-index;
  on : l.at + dashes_at (map string_bytes (drop l.word-index l.words)) ≡ dashes_at (map string_bytes l.words);
}
