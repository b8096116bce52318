use Rattle.std.proofs.Common.{◌≡◌, length}
use Rattle.hp_plain.specs.Opening.{AreHome}
use Rattle.test_solo.proofs.plain.steps.do_steps.Given as goal

abbrev pub invariant-loop-place : goal.invariant-loop-place
invariant-loop-place l = (length l.hall.owns ≡ 2) × AreHome l.hall
