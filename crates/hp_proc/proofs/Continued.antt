-- A tree that goes on where another one ends is led through by what leads through that one.
use Rattle.std.proofs.Common.{◌≡◌, ◌∙◌, ℕ, List, [], ◌∷◌, Option, Some, None, refl, ap, sym, subst}
use Rattle.hp_script.specs.declared.answer.Answer.{Answer}
use Rattle.hp_proc.specs.Courses.{OwnCall, calls_in, last_heap}
use Rattle.hp_proc.specs.Doing.{Deed, Doing, Done, Given, Goes, Leads, gave}
use Rattle.hp_proc.specs.Doing.Deed.{Ask, Call, CatchUp, ChangeNames, GiveUp, Look, MapChunk, PlanRange, ReadNames, ReadStats, SeeHeap}
use Rattle.hp_proc.specs.Doing.Doing.{Ended, Then}
use Rattle.hp_proc.specs.VerbLaws.{GoesOnFrom}
use Rattle.hp_proc.specs.ZoneLines.{continued, last_called}

-- the heap of the last of some calls, or another one before them
abbrev last_from : Option ℕ → List OwnCall → Option ℕ
last_from last [] = last
last_from last (own ∷ calls) = last_from (Some own.heap) calls

last_of_some : (last : Option ℕ) (own : OwnCall) (calls : List OwnCall) → last_from last (own ∷ calls) ≡ last_heap (own ∷ calls)
last_of_some last own [] = refl
last_of_some last own (next ∷ calls) = last_of_some (Some own.heap) next calls

last_is : (calls : List OwnCall) → last_from None calls ≡ last_heap calls
last_is [] = refl
last_is (own ∷ calls) = last_of_some None own calls

last_behind : (deed : Deed) (found : Given deed) (last : Option ℕ) (trace : List Done)
    → last_from last (calls_in (gave deed found ∷ trace)) ≡ last_from (last_called last deed) (calls_in trace)
last_behind (Call heap call) found last trace = refl
last_behind (Ask asked) found last trace = refl
last_behind (GiveUp heap run) found last trace = refl
last_behind Look found last trace = refl
last_behind (CatchUp to) found last trace = refl
last_behind ReadNames found last trace = refl
last_behind (ChangeNames change) found last trace = refl
last_behind (SeeHeap heap) found last trace = refl
last_behind (PlanRange addr len page) found last trace = refl
last_behind (MapChunk chunk) found last trace = refl
last_behind (ReadStats heap) found last trace = refl

module _ (more : Option ℕ → Answer → Doing) (given : Answer) where
  goes_on : (doing : Doing) (trace : List Done) (last : Option ℕ) → Leads doing trace (Ended given)
      → Leads (continued more last doing) trace (more (last_from last (calls_in trace)) given)
  unfolding Leads Goes continued
  goes_on doing [] last is = ap (continued more last) is
  goes_on (Ended other) (done ∷ trace) last leads = elim leads [ ]
  goes_on (Then deed next) (done ∷ trace) last (found, is, leads) =
      let rest = goes_on (next found) trace (last_called last deed) leads in
      let same : last_from (last_called last deed) (calls_in trace) ≡ last_from last (calls_in (done ∷ trace)) =
      sym (last_behind deed found last trace) ∙ ap (λ (first : Done). last_from last (calls_in (first ∷ trace))) (sym is) in
      (found, is, subst (λ (heap : Option ℕ). Leads (continued more (last_called last deed) (next found)) trace (more heap given)) same rest)

-- so it is with what leads to a rest that is not the end
module _ (more : Option ℕ → Answer → Doing) where
  pub continues : (doing : Doing) (trace : List Done) (last : Option ℕ) (rest : Doing) → Leads doing trace rest
      → (heap : Option ℕ) × Leads (continued more last doing) trace (continued more heap rest)
  unfolding Leads Goes continued
  continues doing [] last rest is = (last, ap (continued more last) is)
  continues (Ended other) (done ∷ trace) last rest leads = elim leads [ ]
  continues (Then deed next) (done ∷ trace) last rest (found, is, leads) =
      let on = continues (next found) trace (last_called last deed) rest leads in
      (on.0, (found, is, on.1))

pub goes_on_from : GoesOnFrom
goes_on_from more doing trace given leads =
    subst (λ (heap : Option ℕ). Leads (continued more None doing) trace (more heap given)) (last_is (calls_in trace))
    (goes_on more given doing trace None leads)
