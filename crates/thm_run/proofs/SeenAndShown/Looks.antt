-- What a line looks at: nothing, but for one that attaches, which looks at the log and catches up with it.
use Rattle.std.proofs.Common.{◌≡◌, ℕ, Bool, true, false, List, [], ◌∷◌, sym, subst, refl}
use Rattle.std.specs.List.{All}
use Rattle.std.proofs.lemmas.List.Elements.{All-nil}
use Rattle.hp_base.specs.declared.caught.Caught.{Caught}
use Rattle.hp_base.specs.declared.caught.Caught.TheVariants as caught
use Rattle.hp_script.specs.declared.answer.Answer.{Answer}
use Rattle.hp_script.specs.declared.line.Act.{Act}
use Rattle.hp_script.specs.declared.line.Act.TheVariants as act
use Rattle.hp_script.specs.declared.line.Line.{Line}
use Rattle.hp_proc.specs.LineTrees.{doing_of}
use Rattle.hp_proc.specs.Doing.{Done, Goes, Leads}
use Rattle.hp_proc.specs.Doing.Deed.{CatchUp}
use Rattle.hp_proc.specs.Doing.Doing.{Ended, Then}
use Rattle.hp_proc.specs.Doing.Done.{CaughtUp, Looked}
use Rattle.hp_proc.specs.Lines.{Facts, attached_with, attaching}
use Rattle.hp_proc.specs.Progress.{MayComeAndGo}
use Rattle.thm_run.proofs.SeenAndShown.NoLooks.{IsLookless, IsNoLook, lookless, none_looked}

-- what a line's trace looks at: nothing, or the log, with which it catches up at once
pub data LineLooks : List Done → Type 0 where
  nowhere : (trace : List Done) → All IsNoLook trace → LineLooks trace
  at_log : (records : ℕ) (ended : Caught) → LineLooks (Looked records ∷ CaughtUp records ended ∷ [])

-- an attach looks and catches up, unless its participant is attached already
caught_ends : (records : ℕ) (ended : Caught) (trace : List Done) (given : Answer) → Leads (attached_with records ended) trace (Ended given)
    → trace ≡ []
unfolding Leads Goes
caught_ends records ended [] given leads = refl
caught_ends records caught.Done (done ∷ trace) given leads = elim leads [ ]
caught_ends records (caught.Refused row call) (done ∷ trace) given leads = elim leads [ ]
caught_ends records (caught.Elsewhere row call got) (done ∷ trace) given leads = elim leads [ ]

catching_looks : (records : ℕ) (trace : List Done) (given : Answer)
    → Leads (Then (CatchUp records) (attached_with records)) trace (Ended given) → LineLooks (Looked records ∷ trace)
unfolding Leads Goes
catching_looks records [] given leads = cc
catching_looks records (done ∷ trace) given (ended, is, left) =
    let none : trace ≡ [] = caught_ends records ended trace given left in
    subst (λ done. LineLooks (Looked records ∷ done ∷ trace)) (sym is)
    (subst (λ rest. LineLooks (Looked records ∷ CaughtUp records ended ∷ rest)) (sym none) (at_log records ended))

pub attach_looks : (attached : Bool) (trace : List Done) (given : Answer) → Leads (attaching attached) trace (Ended given) → LineLooks trace
unfolding Leads Goes
attach_looks true [] given leads = nowhere [] (All-nil IsNoLook)
attach_looks true (done ∷ trace) given leads = elim leads [ ]
attach_looks false [] given leads = cc
attach_looks false (done ∷ trace) given (records, is, left) =
    subst (λ done. LineLooks (done ∷ trace)) (sym is) (catching_looks records trace given left)

other_looks : (line : Line) (does : Act) (facts : Facts) (trace : List Done) (given : Answer) → IsLookless does
    → Leads (doing_of line does facts) trace (Ended given) → LineLooks trace
other_looks line does facts trace given is leads =
    nowhere trace (none_looked line does facts trace given (lookless does facts.attached is) leads)

-- so does each line
pub line_looks : (who : ℕ) (line : Line) (does : Act) (facts : Facts) (trace : List Done) (given : Answer) → MayComeAndGo who does
    → Leads (doing_of line does facts) trace (Ended given) → LineLooks trace
unfolding doing_of
line_looks who line act.Attach facts trace given is leads = attach_looks facts.attached trace given leads
line_looks who line does facts trace given is leads = other_looks line does facts trace given tt leads
