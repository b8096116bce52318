-- Statistics that were published are read by lines that ask for them alone: no other line leaves a trace with such a reading.
use Rattle.std.proofs.Common.{◌≡◌, ℕ, Bool, true, false, List, [], ◌∷◌, map, sym, subst}
use Rattle.std.specs.List.{AllByRecursion}
use Rattle.std.specs.Prelude.{⊤}
use Rattle.hp_script.specs.declared.answer.Answer.{Answer}
use Rattle.hp_script.specs.declared.line.Act.{Act}
use Rattle.hp_script.specs.declared.line.Act.TheVariants as act
use Rattle.hp_script.specs.declared.line.Line.{Line}
use Rattle.hp_proc.specs.LineTrees.{doing_of}
use Rattle.hp_proc.specs.Doing.{Doing, Done, Leads}
use Rattle.hp_proc.specs.Doing.Done.{NamesChanged, StatsRead}
use Rattle.hp_proc.specs.Lines.{Facts}
use Rattle.hp_proc.specs.SharedNames.{NamesChange}
use Rattle.thm_run.proofs.LineSteps.LineTries.{IsAttachTrace, attach_trace}
use Rattle.thm_run.proofs.TracesTold.OrderlyLines.{line_orderly}
use Rattle.thm_run.proofs.TracesTold.OrderlyTraces.{IsOrderly, LeavesAll, asked_behind, ends, goes_on, is_granted, tells}

-- no published statistics were read
abbrev pub IsReadless : Done → Type 0
IsReadless (StatsRead heap counted) = ⊥
IsReadless _ = ⊤

readless : (done : Done) → LeavesAll false done → IsReadless done
readless (StatsRead heap counted) leaves = cc
readless _ leaves = tt

changes_read : (changes : List NamesChange) → AllByRecursion IsReadless (map NamesChanged changes)
changes_read [] = tt
changes_read (change ∷ changes) = (tt, changes_read changes)

orderly_reads : (given : Answer) (asked : Bool) (trace : List Done) → IsOrderly false given asked trace → AllByRecursion IsReadless trace
orderly_reads given _ _ (ends asked) = tt
orderly_reads given _ _ (goes_on asked done trace leaves rest) =
    (readless done leaves, orderly_reads given (asked_behind asked done) trace rest)
orderly_reads given _ _ (tells heap address run ended) = (tt, (tt, tt))
orderly_reads given _ _ (is_granted asked pages run tag grown found changes allows last only) =
    (tt, (tt, (tt, changes_read changes)))

attach_reads : (attached : Bool) (given : Answer) (trace : List Done) → IsAttachTrace attached given trace → AllByRecursion IsReadless trace
attach_reads attached given trace (IsAttachTrace.already is was) = subst (AllByRecursion IsReadless) (sym is) tt
attach_reads attached given trace (IsAttachTrace.tried records ended out is last) =
    subst (AllByRecursion IsReadless) (sym is) (tt, (tt, tt))

-- a line asks for no statistics that were published
abbrev pub AsksNoStats : Act → Type 0
AsksNoStats (act.Stats heap) = ⊥
AsksNoStats _ = ⊤

-- such a line reads none
pub line_readless : (line : Line) (does : Act) (facts : Facts) → AsksNoStats does → (trace : List Done) (given : Answer)
    → Leads (doing_of line does facts) trace (Doing.Ended given) → AllByRecursion IsReadless trace
unfolding doing_of
line_readless line act.Attach facts asks trace given leads =
    attach_reads facts.attached given trace (attach_trace facts.attached given trace leads)
line_readless line (act.Stats heap) facts asks trace given leads = absurd asks
line_readless line does facts asks trace given leads =
    orderly_reads given false trace (line_orderly false line does facts tt trace given leads)
