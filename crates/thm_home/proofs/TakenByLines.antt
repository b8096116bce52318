-- What lines are handed of heaps and of the names they take by their steps.
use Rattle.std.proofs.Common.{◌≡◌, ◌∙◌, ℕ, List, [], ◌∷◌, ◌++◌, append_assoc, Contains, None, ⊎_elim, ◌⊎◌, inl, inr, ap, sym, subst}
use Rattle.std.proofs.lemmas.List.Elements.{Contains-append_left, Contains-append_right}
use Rattle.hp_board.specs.declared.view.Move.TheVariants.{Took}
use Rattle.hp_chair.specs.FoundEmptyLaws.{nothing_among, split_at, tail_of}
use Rattle.hp_chair.specs.Steps.{move_in, moves_in}
use Rattle.hp_hall.specs.Mail.{Fetches, Gives, MailStep, Notes, Posts, Takes}
use Rattle.hp_hall.specs.declared.kept.Kept.{Kept}
use Rattle.hp_hall.specs.declared.kept.Kept.TheVariants.{Heap, Names, Segments}
use Rattle.hp_hall.specs.declared.slot.TheConstants.{NAMES_SLOT}
use Rattle.hp_heap.proofs.AllocFacts.ChoiceLaw.{Contains-cases, Contains-here, Contains-none, Contains-there}
use Rattle.hp_heap.specs.History.{HeapView}
use Rattle.hp_heap.specs.declared.entry.Entry.{Entry}
use Rattle.hp_proc.specs.Acting.{Acts}
use Rattle.hp_proc.specs.Doing.{Done}
use Rattle.hp_proc.specs.Doing.Done.{HeapSeen, NamesRead}
use Rattle.hp_proc.specs.Handing.{shared_of}
use Rattle.hp_proc.specs.NamesOfLines.{NamesOfLine, names_read, steps_of_names}
use Rattle.hp_proc.specs.ParticipantView.{ParticipantView}
use Rattle.hp_proc.specs.Progress.{AreOnce}
use Rattle.hp_proc.specs.SharedNames.{SharedNames}
use Rattle.hp_stats.specs.StatViews.{PenView}
use Rattle.hp_zone.specs.declared.names.Names.{Names as NamesView}
use Rattle.thm_home.proofs.ActsApart.{none_of}
use Rattle.thm_home.proofs.SeenStates.{IsTakenIn, acts_seen, taken_further}

-- by these steps it took such names
abbrev pub AreTakenIn : SharedNames → List MailStep → Type 0
AreTakenIn shown steps = (view : NamesView) × (shared_of view ≡ shown) × Contains steps (Takes NAMES_SLOT (Names view))

-- each state of a heap and all names that a trace has were taken by these steps
pub record AreTakenBy (trace : List Done) (steps : List MailStep) : Type 0 where
  pub states : (index : ℕ) (history : List Entry) (first rest : List Done) → trace ≡ first ++ HeapSeen index history ∷ rest
      → IsTakenIn index history steps
  pub names : (shown : SharedNames) (first rest : List Done) → trace ≡ first ++ NamesRead shown ∷ rest → AreTakenIn shown steps

pub taken_none : (trace : List Done) (steps : List MailStep) → trace ≡ [] → AreTakenBy trace steps
taken_none trace steps none = record {
  states = λ index history first rest is. absurd (nothing_among first rest (HeapSeen index history) (sym none ∙ is));
  names = λ shown first rest is. absurd (nothing_among first rest (NamesRead shown) (sym none ∙ is));
}

taken_behind : (index : ℕ) (history : List Entry) (more steps : List MailStep) → IsTakenIn index history steps
    → IsTakenIn index history (more ++ steps)
taken_behind index history more steps taken = record {
  heap = taken.heap;
  pen = taken.pen;
  index_is = taken.index_is;
  history_is = taken.history_is;
  before = more ++ taken.before;
  behind = taken.behind;
  steps_are = ap (λ (l : List MailStep). more ++ l) taken.steps_are
      ∙ sym (append_assoc more taken.before (Takes taken.heap.plain.index (Heap taken.heap taken.pen) ∷ taken.behind));
}

pub taken_both : (one two : List Done) (steps more : List MailStep) → AreTakenBy one steps → AreTakenBy two more
    → AreTakenBy (one ++ two) (steps ++ more)
taken_both one two steps more first then = record {
  states = λ index history front rest is.
      ⊎_elim
      (λ (early : (left : List Done) × (one ≡ front ++ HeapSeen index history ∷ left)).
      taken_further index history steps more (first.states index history front early.0 early.1))
      (λ (late : (left : List Done) × (front ≡ one ++ left) × (two ≡ left ++ HeapSeen index history ∷ rest)).
      taken_behind index history steps more (then.states index history late.0 rest late.2))
      (split_at one two front rest (HeapSeen index history) is);
  names = λ shown front rest is.
      ⊎_elim
      (λ (early : (left : List Done) × (one ≡ front ++ NamesRead shown ∷ left)).
      let its = first.names shown front early.0 early.1 in
      (its.0, its.1, Contains-append_left steps more (Takes NAMES_SLOT (Names its.0)) its.2))
      (λ (late : (left : List Done) × (front ≡ one ++ left) × (two ≡ left ++ NamesRead shown ∷ rest)).
      let its = then.names shown late.0 rest late.2 in
      (its.0, its.1, Contains-append_right steps more (Takes NAMES_SLOT (Names its.0)) its.2))
      (split_at one two front rest (NamesRead shown) is);
}

pub taken_on : (trace : List Done) (steps more : List MailStep) → AreTakenBy trace steps → AreTakenBy trace (steps ++ more)
taken_on trace steps more taken = record {
  states = λ index history first rest is. taken_further index history steps more (taken.states index history first rest is);
  names = λ shown first rest is.
      let its = taken.names shown first rest is in
      (its.0, its.1, Contains-append_left steps more (Takes NAMES_SLOT (Names its.0)) its.2);
}

-- A LINE

-- the steps of the names are among all
among_steps : (steps : List MailStep) (step : MailStep) → Contains (steps_of_names steps) step → Contains steps step
among_steps [] step has = absurd (Contains-none step has)
among_steps (Posts to frame action posted ∷ steps) step has =
    Contains-there (Posts to frame action posted) step steps (among_steps steps step has)
among_steps (Fetches frame ∷ steps) step has = Contains-there (Fetches frame) step steps (among_steps steps step has)
among_steps (Notes note ∷ steps) step has = Contains-there (Notes note) step steps (among_steps steps step has)
among_steps (Takes slot (Heap heap pen) ∷ steps) step has =
    Contains-there (Takes slot (Heap heap pen)) step steps (among_steps steps step has)
among_steps (Takes slot (Segments segs) ∷ steps) step has =
    Contains-there (Takes slot (Segments segs)) step steps (among_steps steps step has)
among_steps (Takes slot (Names names) ∷ steps) step has = elim (Contains-cases (Takes slot (Names names)) step (steps_of_names steps) has) [
  | inl is ↦ subst (Contains (Takes slot (Names names) ∷ steps)) is (Contains-here (Takes slot (Names names)) steps)
  | inr later ↦ Contains-there (Takes slot (Names names)) step steps (among_steps steps step later)
]
among_steps (Gives slot (Heap heap pen) ∷ steps) step has =
    Contains-there (Gives slot (Heap heap pen)) step steps (among_steps steps step has)
among_steps (Gives slot (Segments segs) ∷ steps) step has =
    Contains-there (Gives slot (Segments segs)) step steps (among_steps steps step has)
among_steps (Gives slot (Names names) ∷ steps) step has = elim (Contains-cases (Gives slot (Names names)) step (steps_of_names steps) has) [
  | inl is ↦ subst (Contains (Gives slot (Names names) ∷ steps)) is (Contains-here (Gives slot (Names names)) steps)
  | inr later ↦ Contains-there (Gives slot (Names names)) step steps (among_steps steps step later)
]

-- a trace that reads no names has none
unread_among : (shown : SharedNames) (trace first rest : List Done) → names_read trace ≡ [] → trace ≡ first ++ NamesRead shown ∷ rest → ⊥
unread_among shown trace first rest none is = later first (sym (ap names_read is) ∙ none)
  where
    later : (first : List Done) → names_read (first ++ NamesRead shown ∷ rest) ≡ [] → ⊥
    later [] none = cc
    later (NamesRead names ∷ first) none = cc
    later (_ ∷ first) none = later first none

names_of_line : (trace : List Done) (steps : List MailStep) → NamesOfLine trace steps → (shown : SharedNames) (first rest : List Done)
    → trace ≡ first ++ NamesRead shown ∷ rest → AreTakenIn shown steps
names_of_line trace steps (NamesOfLine.none aside unread unchanged) shown first rest is = absurd (unread_among shown trace first rest unread is)
names_of_line trace steps (NamesOfLine.once taken given left both reads unread leaves) shown [] rest is =
    let same : NamesRead (shared_of taken) ∷ left ≡ NamesRead shown ∷ rest = sym reads ∙ is in
    let names : shared_of taken ≡ shown = cc in (
      taken,
      names,
      among_steps steps (Takes NAMES_SLOT (Names taken))
          (subst (λ (l : List MailStep). Contains l (Takes NAMES_SLOT (Names taken))) (sym both)
          (Contains-here (Takes NAMES_SLOT (Names taken)) (Gives NAMES_SLOT (Names given) ∷ []))),
    )
names_of_line trace steps (NamesOfLine.once taken given left both reads unread leaves) shown (done ∷ first) rest is =
    absurd (unread_among shown left first rest unread (ap tail_of (sym reads ∙ is)))

pub taken_line : {count : ℕ} {held : List ℕ} {doer mid : ParticipantView} {trace : List Done} {steps : List MailStep}
    → Acts count None None held doer mid trace steps → AreOnce held → NamesOfLine trace steps → AreTakenBy trace steps
taken_line {count} {held} {doer} {mid} {trace} {steps} acts once names = record {
  states = λ index history first rest is.
      let seen = acts_seen acts index first rest history is (none_of index) (once index) in
      record {
        heap = seen.heap;
        pen = seen.pen;
        index_is = seen.index_is;
        history_is = seen.history_is;
        before = seen.before;
        behind = seen.behind;
        steps_are = seen.steps_are;
      };
  names = λ shown first rest is. names_of_line trace steps names shown first rest is;
}

-- AMONG THE MOVES

-- what is taken among steps is among their moves
pub taken_move : (steps : List MailStep) (slot : ℕ) (kept : Kept) → Contains steps (Takes slot kept) → Contains (moves_in steps) (Took slot kept)
taken_move [] slot kept has = absurd (Contains-none (Takes slot kept) has)
taken_move (step ∷ steps) slot kept has = elim (Contains-cases step (Takes slot kept) steps has) [
  | inl is ↦ subst (λ (one : MailStep). Contains (moves_in (one ∷ steps)) (Took slot kept)) (sym is)
      (Contains-here (Took slot kept) (moves_in steps))
  | inr later ↦ Contains-append_right (move_in step) (moves_in steps) (Took slot kept) (taken_move steps slot kept later)
]

-- so is a heap
pub taken_state : (index : ℕ) (history : List Entry) (steps : List MailStep) → IsTakenIn index history steps
    → (view : HeapView) × (pen : PenView) × (view.history ≡ history) × Contains (moves_in steps) (Took index (Heap view pen))
taken_state index history steps taken = (
  taken.heap,
  taken.pen,
  taken.history_is,
  subst (λ (slot : ℕ). Contains (moves_in steps) (Took slot (Heap taken.heap taken.pen))) taken.index_is
      (taken_move steps taken.heap.plain.index (Heap taken.heap taken.pen)
      (subst (λ (l : List MailStep). Contains l (Takes taken.heap.plain.index (Heap taken.heap taken.pen))) (sym taken.steps_are)
      (Contains-append_right taken.before (Takes taken.heap.plain.index (Heap taken.heap taken.pen) ∷ taken.behind)
      (Takes taken.heap.plain.index (Heap taken.heap taken.pen))
      (Contains-here (Takes taken.heap.plain.index (Heap taken.heap taken.pen)) taken.behind)))),
)
