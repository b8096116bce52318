-- The rows so far are answered.
use Rattle.std.proofs.Common.{◌≡◌, ◌++◌, map, take}
use Rattle.hp_base.specs.Mapping.{own_place}
use Rattle.hp_base.proofs.answers.Answers.add_own.Given as goal

abbrev pub invariant-loop-row : goal.invariant-loop-row
invariant-loop-row l = l.self ≡ l.initial.self ++ map own_place (take l.row-index l.rows)
