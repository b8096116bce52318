-- No line but one that attaches looks at the segment value, or catches up with the log.
use Rattle.std.proofs.Common.{◌≡◌, ℕ, Bool, true, false, List, [], ◌∷◌, map, Option, Some, None, find, refl, sym, subst}
use Rattle.std.specs.Prelude.{⊤}
use Rattle.std.specs.List.{All}
use Rattle.std.proofs.lemmas.List.Elements.{All-cons, All-nil}
use Rattle.hp_heap.specs.declared.entry.HeapAnswer.TheVariants as gives
use Rattle.hp_heap.specs.declared.entry.HeapCall.TheVariants as call
use Rattle.hp_script.specs.declared.answer.Answer.{Answer}
use Rattle.hp_script.specs.declared.answer.Answer.TheVariants as answer
use Rattle.hp_script.specs.declared.line.Act.{Act}
use Rattle.hp_script.specs.declared.line.Act.TheVariants as act
use Rattle.hp_script.specs.declared.line.Line.{Line}
use Rattle.hp_proc.specs.LineTrees.{doing_of}
use Rattle.hp_proc.specs.Doing.{Doing, Done, Goes, Leads}
use Rattle.hp_proc.specs.Doing.Done.{Asked, Called, CaughtUp, GaveUp, Looked, NamesChanged, NamesRead, StatsRead}
use Rattle.hp_proc.specs.Heaps.{NamedHeap, has_name}
use Rattle.hp_proc.specs.Lines.{Facts, by_heaps, if_attached, reading_stats}
use Rattle.hp_proc.specs.SharedNames.{NamesChange, directory_in, heaps_in}
use Rattle.thm_run.proofs.TracesTold.OrderlyLines.{line_orderly}
use Rattle.thm_run.proofs.TracesTold.OrderlyTraces.{IsOrderly, LeavesAll, asked_behind, ends, goes_on, is_granted, tells}

-- what was done is no look, and no catching up
abbrev pub IsNoLook : Done → Type 0
IsNoLook (Looked records) = ⊥
IsNoLook (CaughtUp to caught) = ⊥
IsNoLook _ = ⊤

no_look : (done : Done) → LeavesAll false done → IsNoLook done
no_look (Looked records) leaves = cc
no_look (CaughtUp to caught) leaves = cc
no_look _ leaves = tt

-- nor does a change of the names
changes_look : (changes : List NamesChange) → All IsNoLook (map NamesChanged changes)
changes_look [] = All-nil IsNoLook
changes_look (change ∷ changes) = All-cons IsNoLook (NamesChanged change) (map NamesChanged changes) tt (changes_look changes)

-- along an orderly trace that may not look nothing does
orderly_looks : (given : Answer) (asked : Bool) (trace : List Done) → IsOrderly false given asked trace → All IsNoLook trace
orderly_looks given _ _ (ends asked) = All-nil IsNoLook
orderly_looks given _ _ (goes_on asked done trace leaves rest) =
    All-cons IsNoLook done trace (no_look done leaves) (orderly_looks given (asked_behind asked done) trace rest)
orderly_looks given _ _ (tells heap address run ended) =
    All-cons IsNoLook (Called heap (call.Cut address) (gives.Pages run)) (GaveUp heap run ∷ []) tt
    (All-cons IsNoLook (GaveUp heap run) [] tt (All-nil IsNoLook))
orderly_looks given _ _ (is_granted asked pages run tag grown found changes allows last only) =
    let more : List Done = map NamesChanged changes in
    let searched : Done = Called pages.heap (call.Alloc pages.request tag) found in
    let came : Done = Called pages.heap (call.Grow run) grown in
    All-cons IsNoLook (Asked pages (Some run)) (came ∷ searched ∷ more) tt
    (All-cons IsNoLook came (searched ∷ more) tt (All-cons IsNoLook searched more tt (changes_look changes)))

-- a line that asks for statistics reads the names and what was published
published_looks : (heap : Option NamedHeap) (trace : List Done) (given : Answer) → Leads (reading_stats heap) trace (Doing.Ended given)
    → All IsNoLook trace
unfolding Leads Goes
published_looks None [] given leads = All-nil IsNoLook
published_looks None (done ∷ trace) given leads = elim leads [ ]
published_looks (Some heap) [] given leads = All-nil IsNoLook
published_looks (Some heap) (done ∷ []) given (counted, is, left) =
    subst (λ (done : Done). All IsNoLook (done ∷ [])) (sym is) (All-cons IsNoLook (StatsRead heap.index counted) [] tt (All-nil IsNoLook))
published_looks (Some heap) (done ∷ (next ∷ trace)) given (counted, is, left) = elim left [ ]

stats_look : (facts : Facts) (name : List ℕ) (trace : List Done) (given : Answer)
    → Leads (by_heaps facts (λ named. reading_stats (find (has_name name) named))) trace (Doing.Ended given) → All IsNoLook trace
unfolding Leads Goes
stats_look facts name [] given leads = All-nil IsNoLook
stats_look facts name (done ∷ trace) given (names, is, left) =
    subst (λ (done : Done). All IsNoLook (done ∷ trace)) (sym is)
    (All-cons IsNoLook (NamesRead names) trace tt
    (published_looks (find (has_name name) (heaps_in (directory_in facts.pools names))) trace given left))

detached_looks : (last : Answer) (trace : List Done) (given : Answer) → Leads (Doing.Ended last) trace (Doing.Ended given) → All IsNoLook trace
unfolding Leads Goes
detached_looks last [] given leads = All-nil IsNoLook
detached_looks last (done ∷ trace) given leads = elim leads [ ]

attached_looks : (facts : Facts) (name : List ℕ) (attached : Bool) (trace : List Done) (given : Answer)
    → Leads (if_attached attached (by_heaps facts (λ named. reading_stats (find (has_name name) named)))) trace (Doing.Ended given)
    → All IsNoLook trace
attached_looks facts name true trace given leads = stats_look facts name trace given leads
attached_looks facts name false trace given leads = detached_looks answer.Detached trace given leads

-- a line looks nowhere, unless it attaches a participant that is out
abbrev pub LooksNowhere : Act → Bool → Type 0
LooksNowhere act.Attach attached = attached ≡ false → ⊥
LooksNowhere _ attached = ⊤

never_looks : (attached : Bool) → (attached ≡ false → ⊥) → attached ≡ false → false ≡ true
never_looks attached never out = absurd (never out)

pub none_looked : (line : Line) (does : Act) (facts : Facts) (trace : List Done) (given : Answer) → LooksNowhere does facts.attached
    → Leads (doing_of line does facts) trace (Doing.Ended given) → All IsNoLook trace
unfolding doing_of
none_looked line act.Attach facts trace given may leads =
    orderly_looks given false trace (line_orderly false line act.Attach facts (never_looks facts.attached may) trace given leads)
none_looked line (act.Stats heap) facts trace given may leads = attached_looks facts heap.text facts.attached trace given leads
none_looked line does facts trace given may leads = orderly_looks given false trace (line_orderly false line does facts tt trace given leads)

-- the line does not attach
abbrev pub IsLookless : Act → Type 0
IsLookless act.Attach = ⊥
IsLookless _ = ⊤

pub lookless : (does : Act) (attached : Bool) → IsLookless does → LooksNowhere does attached
lookless act.Attach attached is = absurd is
lookless _ attached is = tt
