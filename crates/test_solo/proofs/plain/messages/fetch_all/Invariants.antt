use Rattle.std.proofs.Common.{◌≡◌, ◌<◌, length}
use Rattle.hp_plain.specs.Opening.{AreHome}
use Rattle.test_solo.proofs.plain.messages.fetch_all.Given as goal

abbrev pub invariant-loop-place : goal.invariant-loop-place
invariant-loop-place l = (l.me < length l.hall.owns) × (length l.hall.owns ≡ length l.initial.hall.owns) × AreHome l.hall
