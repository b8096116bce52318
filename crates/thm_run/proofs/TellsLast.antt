-- A line that gives up a run does so at last, and has not asked for pages or looked at the log.
use Rattle.std.proofs.Common.{◌≡◌, Bool, false, true, List, [], ◌∷◌, refl, map}
use Rattle.std.specs.Prelude.{⊤}
use Rattle.hp_script.specs.declared.answer.Answer.{Answer}
use Rattle.hp_script.specs.declared.line.Act.{Act}
use Rattle.hp_script.specs.declared.line.Line.{Line}
use Rattle.hp_proc.specs.LineTrees.{doing_of}
use Rattle.hp_proc.specs.Doing.{Doing, Done, Leads}
use Rattle.hp_proc.specs.Doing.Done.{Asked, CaughtUp, GaveUp, Looked, NamesChanged}
use Rattle.hp_proc.specs.Lines.{Facts}
use Rattle.hp_proc.specs.SharedNames.{NamesChange}
use Rattle.thm_run.proofs.TracesTold.OrderlyLines.{line_in_order}
use Rattle.thm_run.proofs.TracesTold.OrderlyTraces.{IsOrderly, LeavesAll, asked_behind, ends, goes_on, is_granted, tells}

-- along a trace, before which something was asked for or looked at, or nothing: a run is given up at last, and only where nothing was
abbrev pub TellsLast : Bool → List Done → Type 0
TellsLast asked [] = ⊤
TellsLast asked (Asked pages run ∷ trace) = TellsLast true trace
TellsLast asked (GaveUp heap run ∷ trace) = (asked ≡ false) × (trace ≡ [])
TellsLast asked (Looked records ∷ trace) = TellsLast true trace
TellsLast asked (CaughtUp to caught ∷ trace) = TellsLast true trace
TellsLast asked (_ ∷ trace) = TellsLast asked trace

-- what leaves all gives up nothing
tells_on : (asked : Bool) (done : Done) (trace : List Done) → LeavesAll true done → TellsLast (asked_behind asked done) trace
    → TellsLast asked (done ∷ trace)
tells_on asked (GaveUp heap run) trace leaves rest = absurd leaves
tells_on asked _ trace leaves rest = rest

-- nor do changes of the names
changes_tell : (asked : Bool) (changes : List NamesChange) → TellsLast asked (map NamesChanged changes)
changes_tell asked [] = tt
changes_tell asked (change ∷ changes) = changes_tell asked changes

-- so does an orderly trace
orderly_tells : (given : Answer) (asked : Bool) (trace : List Done) → IsOrderly true given asked trace → TellsLast asked trace
orderly_tells given _ _ (ends asked) = tt
orderly_tells given _ _ (goes_on asked done trace leaves rest) =
    tells_on asked done trace leaves (orderly_tells given (asked_behind asked done) trace rest)
orderly_tells given _ _ (tells heap address run ended) = (refl, refl)
orderly_tells given _ _ (is_granted asked pages run tag grown found changes allows last only) = changes_tell true changes

pub line_tells : (line : Line) (does : Act) (facts : Facts) (trace : List Done) (given : Answer)
    → Leads (doing_of line does facts) trace (Doing.Ended given) → TellsLast false trace
line_tells line does facts trace given leads = orderly_tells given false trace (line_in_order line does facts trace given leads)
