-- What is given up was cut before.
use Rattle.std.proofs.Common.{◌≡◌, ℕ, zero, suc, List, [], ◌∷◌, ◌++◌, Some, sym, subst, append-nil, append_assoc}
use Rattle.std.specs.Prelude.{Contains, slice_get}
use Rattle.std.proofs.lemmas.List.Elements.{Contains-append_left, Contains-append_right}
use Rattle.hp_base.specs.declared.row.Run.{Run}
use Rattle.hp_heap.specs.declared.entry.HeapAnswer.TheVariants as gives
use Rattle.hp_heap.specs.declared.entry.HeapCall.TheVariants as call
use Rattle.hp_proc.specs.Courses.{numbered_in}
use Rattle.hp_proc.specs.Doing.{Done}
use Rattle.hp_proc.specs.Doing.Done.{Asked, Called, GaveUp}

-- the run was cut from the heap
pub record WasCut (before : List Done) (heap : ℕ) (run : Run) : Type 0 where
  pub addr : ℕ
  pub called : Contains before (Called heap (call.Cut addr) (gives.Pages run))

-- a run that is given up now was cut before
abbrev pub IsCutNow : List Done → Done → Type 0
IsCutNow before (GaveUp heap run) = WasCut before heap run
IsCutNow before _ = Unit {0}

-- each run that a trace gives up was cut before, in the trace or before it
abbrev pub CutsFirst : List Done → List Done → Type 0
CutsFirst before [] = Unit {0}
CutsFirst before (done ∷ trace) = IsCutNow before done × CutsFirst (before ++ done ∷ []) trace

-- each run that a trace gives up was cut before that in the trace
abbrev pub IsCutFirst : List Done → Type 0
IsCutFirst trace = CutsFirst [] trace

-- more was done before all
cut_later : (more before : List Done) (heap : ℕ) (run : Run) → WasCut before heap run → WasCut (more ++ before) heap run
cut_later more before heap run was = record {
  addr = was.addr;
  called = Contains-append_right more before (Called heap (call.Cut was.addr) (gives.Pages run)) was.called;
}

now_later : (more before : List Done) (done : Done) → IsCutNow before done → IsCutNow (more ++ before) done
now_later more before (GaveUp heap run) was = cut_later more before heap run was
now_later more before _ was = tt

pub cuts_later : (more before trace : List Done) → CutsFirst before trace → CutsFirst (more ++ before) trace
cuts_later more before [] cuts = tt
cuts_later more before (done ∷ trace) cuts = (
  now_later more before done cuts.0,
  subst (λ (before : List Done). CutsFirst before trace) (sym (append_assoc more before (done ∷ [])))
      (cuts_later more (before ++ done ∷ []) trace cuts.1),
)

-- two traces one after the other
pub cuts_join : (before first rest : List Done) → CutsFirst before first → CutsFirst (before ++ first) rest
    → CutsFirst before (first ++ rest)
cuts_join before [] rest cuts more = subst (λ (before : List Done). CutsFirst before rest) (append-nil before) more
cuts_join before (done ∷ first) rest cuts more = (
  cuts.0,
  cuts_join (before ++ done ∷ []) first rest cuts.1
      (subst (λ (before : List Done). CutsFirst before rest) (sym (append_assoc before (done ∷ []) first)) more),
)

pub record AreBothCut (before first rest : List Done) : Type 0 where
  pub front : CutsFirst before first
  pub back : CutsFirst (before ++ first) rest

pub cuts_split : (before first rest : List Done) → CutsFirst before (first ++ rest) → AreBothCut before first rest
cuts_split before [] rest cuts =
    record { front = tt; back = subst (λ (before : List Done). CutsFirst before rest) (sym (append-nil before)) cuts }
cuts_split before (done ∷ first) rest cuts =
    let more = cuts_split (before ++ done ∷ []) first rest cuts.1 in
    record {
      front = (cuts.0, more.front);
      back = subst (λ (before : List Done). CutsFirst before rest) (append_assoc before (done ∷ []) first) more.back;
    }

pub cut_first_joins : (first rest : List Done) → IsCutFirst first → IsCutFirst rest → IsCutFirst (first ++ rest)
cut_first_joins first rest cuts more =
    cuts_join [] first rest cuts
    (subst (λ (before : List Done). CutsFirst before rest) (append-nil first) (cuts_later first [] rest more))

-- what a trace numbers as given up was cut in it, or before it
cut_ahead : (before : List Done) (done : Done) (trace : List Done) (heap : ℕ) (run : Run) → WasCut ((before ++ done ∷ []) ++ trace) heap run
    → WasCut (before ++ done ∷ trace) heap run
cut_ahead before done trace heap run was =
    subst (λ (all : List Done). WasCut all heap run) (append_assoc before (done ∷ []) trace) was

cut_behind : (before trace : List Done) (heap : ℕ) (run : Run) → WasCut before heap run → WasCut (before ++ trace) heap run
cut_behind before trace heap run was = record {
  addr = was.addr;
  called = Contains-append_left before trace (Called heap (call.Cut was.addr) (gives.Pages run)) was.called;
}

same_run : (before all : List Done) (heap its_heap : ℕ) (run its_run : Run) → Some (GaveUp heap run) ≡ Some (GaveUp its_heap its_run)
    → WasCut all heap run → WasCut all its_heap its_run
same_run before all heap its_heap run its_run is was =
    let heaps : heap ≡ its_heap = cc in
    let runs : run ≡ its_run = cc in
    subst (λ heap. WasCut all heap its_run) heaps (subst (WasCut all heap) runs was)

numbered_cut : (before trace : List Done) (place heap : ℕ) (run : Run) → CutsFirst before trace
    → slice_get (numbered_in trace) place ≡ Some (GaveUp heap run) → WasCut (before ++ trace) heap run
numbered_cut before [] place heap run cuts is = cc
numbered_cut before (Asked asked its_run ∷ trace) zero heap run cuts is = cc
numbered_cut before (Asked asked its_run ∷ trace) (suc place) heap run cuts is =
    cut_ahead before (Asked asked its_run) trace heap run
    (numbered_cut (before ++ Asked asked its_run ∷ []) trace place heap run cuts.1 is)
numbered_cut before (GaveUp its_heap its_run ∷ trace) zero heap run cuts is =
    cut_behind before (GaveUp its_heap its_run ∷ trace) heap run (same_run before before its_heap heap its_run run is cuts.0)
numbered_cut before (GaveUp its_heap its_run ∷ trace) (suc place) heap run cuts is =
    cut_ahead before (GaveUp its_heap its_run) trace heap run
    (numbered_cut (before ++ GaveUp its_heap its_run ∷ []) trace place heap run cuts.1 is)
numbered_cut before (done ∷ trace) place heap run cuts is =
    cut_ahead before done trace heap run (numbered_cut (before ++ done ∷ []) trace place heap run cuts.1 is)

pub given_up_cut : (trace : List Done) (place heap : ℕ) (run : Run) → IsCutFirst trace
    → slice_get (numbered_in trace) place ≡ Some (GaveUp heap run) → WasCut trace heap run
given_up_cut trace place heap run cuts is = numbered_cut [] trace place heap run cuts is
