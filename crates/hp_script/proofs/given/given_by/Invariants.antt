use Rattle.std.proofs.Common.{◌≡◌, drop}
use Rattle.hp_script.specs.ShapeWords.Options.{given_by, nothing_given}
use Rattle.hp_script.proofs.given.given_by.Given as goal

abbrev pub invariant-loop-word : goal.invariant-loop-word
invariant-loop-word l = given_by l.given (drop l.word-index l.words) ≡ given_by nothing_given l.words
