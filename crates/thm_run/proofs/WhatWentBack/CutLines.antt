-- What a line gives up it has cut before.
use Rattle.std.proofs.Common.{Bool, false, true, List, [], ◌∷◌, ◌++◌, map}
use Rattle.std.proofs.lemmas.List.Elements.{Contains-push}
use Rattle.hp_heap.specs.declared.entry.HeapAnswer.TheVariants as gives
use Rattle.hp_heap.specs.declared.entry.HeapCall.TheVariants as call
use Rattle.hp_script.specs.declared.answer.Answer.{Answer}
use Rattle.hp_script.specs.declared.line.Line.{Line}
use Rattle.hp_script.specs.declared.workload.Workload.{Workload}
use Rattle.hp_proc.specs.LineTrees.{doing_of}
use Rattle.hp_proc.specs.Courses.{Standing, after_line}
use Rattle.hp_proc.specs.Doing.{Doing, Done, Leads}
use Rattle.hp_proc.specs.Doing.Done.{Called, GaveUp, NamesChanged}
use Rattle.hp_proc.specs.Lines.{Facts}
use Rattle.hp_proc.specs.LinesDone.{AreDone, Course, trace_of}
use Rattle.hp_proc.specs.SharedNames.{NamesChange}
use Rattle.thm_run.proofs.WhatWentBack.CutFirst.{CutsFirst, IsCutFirst, IsCutNow, cut_first_joins}
use Rattle.thm_run.proofs.TracesTold.OrderlyLines.{line_in_order}
use Rattle.thm_run.proofs.TracesTold.OrderlyTraces.{IsOrderly, LeavesAll, asked_behind, ends, goes_on, is_granted, tells}

-- what leaves all gives up nothing
cut_now : (before : List Done) (done : Done) → LeavesAll true done → IsCutNow before done
cut_now before (GaveUp heap run) leaves = absurd leaves
cut_now before _ leaves = tt

-- nor do changes of the names
changes_cut : (before : List Done) (changes : List NamesChange) → CutsFirst before (map NamesChanged changes)
changes_cut before [] = tt
changes_cut before (change ∷ changes) = (tt, changes_cut (before ++ NamesChanged change ∷ []) changes)

-- an orderly trace gives up what it has cut, whatever was done before
orderly_cuts : (given : Answer) (asked : Bool) (trace : List Done) → IsOrderly true given asked trace → (before : List Done)
    → CutsFirst before trace
orderly_cuts given _ _ (ends asked) before = tt
orderly_cuts given _ _ (goes_on asked done trace leaves rest) before =
    (cut_now before done leaves, orderly_cuts given (asked_behind asked done) trace rest (before ++ done ∷ []))
orderly_cuts given _ _ (tells heap address run ended) before = (
  tt,
  (record { addr = address; called = Contains-push before (Called heap (call.Cut address) (gives.Pages run)) }, tt),
)
orderly_cuts given _ _ (is_granted asked pages run tag grown found changes allows last only) before = (tt, (tt, (tt, changes_cut _ changes)))

-- a line gives up what it has cut
pub cut_first_line : (line : Line) (facts : Facts) (trace : List Done) (given : Answer)
    → Leads (doing_of line line.act facts) trace (Doing.Ended given) → IsCutFirst trace
cut_first_line line facts trace given leads = orderly_cuts given false trace (line_in_order line line.act facts trace given leads) []

-- so do lines one after another
pub cut_first_lines : (workload : Workload) (standing : Standing) (courses : List Course) → AreDone workload standing courses
    → IsCutFirst (trace_of courses)
cut_first_lines workload standing [] done = tt
cut_first_lines workload standing (course ∷ courses) done =
    cut_first_joins course.trace (trace_of courses) (cut_first_line course.line done.0.facts course.trace course.answer done.0.does)
    (cut_first_lines workload (after_line course.line course.answer course.trace standing) courses done.1)
