use Rattle.std.proofs.Common.{◌≡◌, ◌-◌, length}
use Rattle.hp_script.specs.Noted.{found_from}
use Rattle.hp_script.proofs.first_lines.find_from.Given as goal

-- what is found from here on
abbrev pub invariant-loop-step : goal.invariant-loop-step
invariant-loop-step l = found_from l.noted (length l.noted - l._step) l.last l.name ≡ found_from l.noted (length l.noted) l.fn.last l.name
