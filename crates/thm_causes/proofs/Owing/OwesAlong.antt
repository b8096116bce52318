-- Whether a participant owes word of a run that it gave up, along what it did.
use Rattle.std.proofs.Common.{◌≡◌, ◌∙◌, ℕ, Bool, true, false, ◌||◌, List, [], ◌∷◌, ◌++◌, refl, ap}
use Rattle.std.specs.List.{AllByRecursion}
use Rattle.std.specs.Prelude.{⊤}
use Rattle.std.proofs.Math.Bool.{or-false, or-true}
use Rattle.hp_base.specs.declared.caught.Caught.{Caught}
use Rattle.hp_base.specs.declared.row.Run.{Run}
use Rattle.hp_heap.specs.declared.entry.HeapAnswer.{HeapAnswer}
use Rattle.hp_heap.specs.declared.entry.HeapAnswer.TheVariants as gives
use Rattle.hp_heap.specs.declared.entry.HeapCall.{HeapCall}
use Rattle.hp_heap.specs.declared.entry.HeapCall.TheVariants as call
use Rattle.hp_proc.specs.Doing.{Done}
use Rattle.hp_proc.specs.Doing.Done.{Asked, Called, CaughtUp, GaveUp, Looked}
use Rattle.hp_heap.specs.HistoryLaws.{run_cut}
use Rattle.thm_causes.specs.Lines.{MayDoOwing, Owes, is_cut, owes_after}

-- nothing was done
pub owes_still : (owes left : Bool) → Owes owes [] left → left ≡ owes
unfolding Owes
owes_still owes left is = is

-- one thing was done, and it might be
pub record OwesOnce (owes : Bool) (done : Done) (left : Bool) : Type 0 where
  pub may : MayDoOwing owes done
  pub left_is : left ≡ owes_after owes done

pub owes_once : (owes left : Bool) (done : Done) → Owes owes (done ∷ []) left → OwesOnce owes done left
unfolding Owes
owes_once owes left done does = record { may = does.0; left_is = does.1 }

-- one thing after another
pub record OwesBoth (owes : Bool) (first rest : List Done) (left : Bool) : Type 0 where
  pub mid : Bool
  pub begins : Owes owes first mid
  pub ends : Owes mid rest left

pub owes_both : (owes left : Bool) (first rest : List Done) → Owes owes (first ++ rest) left → OwesBoth owes first rest left
unfolding Owes
owes_both owes left [] rest all = record { mid = owes; begins = refl; ends = all }
owes_both owes left (done ∷ first) rest all =
    let behind = owes_both (owes_after owes done) left first rest all.1 in
    record { mid = behind.mid; begins = (all.0, behind.begins); ends = behind.ends }

-- a call that cut no run leaves it as it was
not_cut : (call : HeapCall) (answer : HeapAnswer) → run_cut answer ≡ [] → is_cut call answer ≡ false
not_cut (call.Cut address) (gives.Pages run) none = cc
not_cut (call.Cut address) _ none = refl
not_cut _ _ none = refl

pub owes_no_more : (owes left : Bool) (heap : ℕ) (call : HeapCall) (answer : HeapAnswer) → run_cut answer ≡ []
    → Owes owes (Called heap call answer ∷ []) left → left ≡ owes
owes_no_more owes left heap call answer none does =
    (owes_once owes left (Called heap call answer) does).left_is
    ∙ ap (λ (cut : Bool). owes || cut) (not_cut call answer none)
    ∙ or-false owes

-- a call that cut one does
pub owes_cut : (owes left : Bool) (heap address : ℕ) (run : Run) → Owes owes (Called heap (call.Cut address) (gives.Pages run) ∷ []) left
    → left ≡ true
owes_cut owes left heap address run does =
    (owes_once owes left (Called heap (call.Cut address) (gives.Pages run)) does).left_is ∙ or-true owes

-- it attached, or tried to
pub owes_tried : (owes left : Bool) (records : ℕ) (ended : Caught) → Owes owes (Looked records ∷ CaughtUp records ended ∷ []) left
    → left ≡ owes
unfolding Owes
owes_tried owes left records ended does = does.1.1

-- nothing was done by which word of a run is owed, or for which none may be
abbrev pub IsOweless : Done → Type 0
IsOweless (Called heap call answer) = is_cut call answer ≡ false
IsOweless (Asked asked run) = ⊥
IsOweless (GaveUp heap run) = ⊥
IsOweless _ = ⊤

oweless : (owes : Bool) (done : Done) → IsOweless done → owes_after owes done ≡ owes
oweless owes (Called heap call answer) is = ap (λ (cut : Bool). owes || cut) is ∙ or-false owes
oweless owes (Asked asked run) is = absurd is
oweless owes (GaveUp heap run) is = absurd is
oweless owes _ is = refl

pub owes_as_before : (owes left : Bool) (trace : List Done) → AllByRecursion IsOweless trace → Owes owes trace left → left ≡ owes
unfolding Owes
owes_as_before owes left [] all is = is
owes_as_before owes left (done ∷ trace) all does = owes_as_before (owes_after owes done) left trace all.1 does.1 ∙ oweless owes done all.0
