-- A line gives word of each run that it cuts before it asks for pages, and before it ends.
use Rattle.std.proofs.Common.{◌≡◌, Bool, true, false, List, [], ◌∷◌, map, refl, sym, subst}
use Rattle.hp_heap.specs.declared.entry.HeapAnswer.{HeapAnswer}
use Rattle.hp_heap.specs.declared.entry.HeapAnswer.TheVariants as gives
use Rattle.hp_heap.specs.declared.entry.HeapCall.{HeapCall}
use Rattle.hp_heap.specs.declared.entry.HeapCall.TheVariants as call
use Rattle.hp_script.specs.declared.answer.Answer.{Answer}
use Rattle.hp_proc.specs.Doing.{Done}
use Rattle.hp_proc.specs.Doing.Done.{Asked, Called, GaveUp, NamesChanged}
use Rattle.hp_proc.specs.SharedNames.{NamesChange}
use Rattle.thm_run.proofs.TracesTold.OrderlyLines.{line_in_order}
use Rattle.thm_run.proofs.TracesTold.OrderlyTraces.{CutsNone, IsOrderly, LeavesAll, asked_behind, ends, goes_on, is_granted, tells}
use Rattle.thm_causes.specs.Lines.{LinesOweNothing, Owes, is_cut}

-- a call that cut no run owes no word
not_cutting : (step : HeapCall) (found : HeapAnswer) → CutsNone step found → is_cut step found ≡ false
not_cutting (call.Cut address) (gives.Pages run) none = absurd none
not_cutting (call.Cut address) _ none = refl
not_cutting _ _ none = refl

-- nor does what else leaves all
owes_on : (done : Done) (trace : List Done) → LeavesAll true done → Owes false trace false → Owes false (done ∷ trace) false
unfolding Owes
owes_on (Called heap step found) trace leaves rest =
    (tt, subst (λ (owes : Bool). Owes owes trace false) (sym (not_cutting step found leaves.1)) rest)
owes_on (Asked pages run) trace leaves rest = (refl, rest)
owes_on (GaveUp heap run) trace leaves rest = absurd leaves
owes_on _ trace leaves rest = (tt, rest)

changes_owe : (changes : List NamesChange) → Owes false (map NamesChanged changes) false
unfolding Owes
changes_owe [] = refl
changes_owe (change ∷ changes) = (tt, changes_owe changes)

-- along an orderly trace word is given before pages are asked for, and before the end
orderly_owes : (given : Answer) (asked : Bool) (trace : List Done) → IsOrderly true given asked trace → Owes false trace false
unfolding Owes
orderly_owes given _ _ (ends asked) = refl
orderly_owes given _ _ (goes_on asked done trace leaves rest) =
    owes_on done trace leaves (orderly_owes given (asked_behind asked done) trace rest)
orderly_owes given _ _ (tells heap address run ended) = (tt, (tt, refl))
orderly_owes given _ _ (is_granted asked pages run tag grown found changes allows last only) = (refl, (tt, (tt, changes_owe changes)))

-- so each line owes nothing after its end
pub lines_owe_nothing : LinesOweNothing
lines_owe_nothing line facts trace given leads = orderly_owes given false trace (line_in_order line line.act facts trace given leads)
