-- Which calls of a segment value give up a run.
use Rattle.std.specs.Prelude.{◌≡◌, ℕ, List, [], ◌∷◌, ◌++◌}
use Rattle.hp_base.specs.declared.row.Run.{Run}
use Rattle.hp_segs.specs.Moved.{SegsCall, Retire, after}
use Rattle.hp_segs.specs.SegsView.{SegsView}

-- the run that a call gives up, with its heap
abbrev pub given_by : SegsCall → List (ℕ × Run)
given_by (Retire heap run) = (heap, run) ∷ []
given_by _ = []

-- each call leaves what was given up before it, and puts its own run after that
abbrev pub CallsGiveUp : Type 0
CallsGiveUp = (call : SegsCall) (segs : SegsView) → (after call segs).retired ≡ segs.retired ++ given_by call
