-- What a seat knows of lines that its participant told to be done and of those that it looked up, by the steps that it made there.
use Rattle.std.proofs.Common.{◌≡◌, ◌∙◌, ℕ, ◌≤◌, List, [], ◌∷◌, ◌++◌, append-nil, append_assoc, Contains, drop, length, take, Option, None, inl, inr, refl, ap, sym, subst}
use Rattle.std.proofs.lemmas.Grind.{flat_map-append}
use Rattle.std.proofs.lemmas.List.{drop_at, take_at}
use Rattle.std.proofs.lemmas.List.Elements.{Contains-append_cases}
use Rattle.hp_board.specs.Lines.{made_by_then}
use Rattle.hp_board.specs.Views.{newcomer, none_done, values_of}
use Rattle.hp_board.specs.declared.opening.Opening.{Opening}
use Rattle.hp_board.specs.declared.view.LinesDone.{LinesDone}
use Rattle.hp_board.specs.declared.view.Mine.{Mine}
use Rattle.hp_board.specs.declared.view.Move.{Move}
use Rattle.hp_board.specs.declared.view.Move.TheVariants.{Took}
use Rattle.hp_chair.proofs.LooksKept.{look_kept}
use Rattle.hp_chair.specs.DoneBy.{IsDoneBy, entries_by, look_then, mark_then, marks_at, marks_by}
use Rattle.hp_chair.specs.DoneLaws.{entries_by-append}
use Rattle.hp_chair.specs.Steps.{in_hand, move_in, moves_in}
use Rattle.hp_hall.specs.Mail.{MailStep, Notes}
use Rattle.hp_hall.specs.declared.kept.Kept.{Kept}
use Rattle.hp_hall.specs.declared.kept.Kept.TheVariants.{Heap, Names}
use Rattle.hp_hall.specs.declared.note.Note.TheVariants.{LoadedDone, Stored}
use Rattle.hp_hall.specs.declared.slot.TheConstants.{NAMES_SLOT}
use Rattle.hp_heap.proofs.AllocFacts.ChoiceLaw.{Contains-cases, Contains-none}
use Rattle.hp_zone.specs.declared.name_change.NameChange.{NameChange}
use Rattle.hp_zone.specs.declared.zone.ZoneChange.{ZoneChange}
use Rattle.hp_proc.specs.Courses.{calls_in}
use Rattle.hp_proc.specs.Histories.{entries_for}
use Rattle.hp_proc.specs.LinesDone.{Course, trace_of}
use Rattle.thm_moved.specs.AtBoard.{HasLooked, HasTold}
use Rattle.thm_home.proofs.BesideHeap.{added}
use Rattle.thm_home.proofs.FirstLines.{HasDoneFirst}
use Rattle.thm_home.proofs.TakenByLines.{AreTakenBy, taken_move, taken_state}
use Rattle.thm_home.proofs.WaysOfWorks.{AddsAmong}

-- WHERE A MARK WAS MADE

-- a mark was made where its step told so many lines
record IsMarkAt (mine : Mine) (so_far steps : List MailStep) (mark : LinesDone) : Type 0 where
  before : List MailStep
  lines : ℕ
  after : List MailStep
  is : steps ≡ before ++ Notes (Stored lines) ∷ after
  mark_is : mark ≡ mark_then mine (so_far ++ before) lines

mark_further : (mine : Mine) (so_far : List MailStep) (step : MailStep) (steps : List MailStep) (mark : LinesDone)
    → IsMarkAt mine (so_far ++ step ∷ []) steps mark → IsMarkAt mine so_far (step ∷ steps) mark
mark_further mine so_far step steps mark at = record {
  before = step ∷ at.before;
  lines = at.lines;
  after = at.after;
  is = ap (λ (l : List MailStep). step ∷ l) at.is;
  mark_is = at.mark_is ∙ ap (λ (l : List MailStep). mark_then mine l at.lines) (append_assoc so_far (step ∷ []) at.before);
}

mark_here : (mine : Mine) (so_far : List MailStep) (step : MailStep) (steps : List MailStep) (mark : LinesDone)
    → Contains (marks_at mine so_far step) mark → IsMarkAt mine so_far (step ∷ steps) mark
mark_here mine so_far (Notes (Stored lines)) steps mark has = elim (Contains-cases (mark_then mine so_far lines) mark [] has) [
  | inl is ↦ record {
    before = [];
    lines = lines;
    after = steps;
    is = refl;
    mark_is = sym is ∙ ap (λ (l : List MailStep). mark_then mine l lines) (sym (append-nil so_far));
  }
  | inr none ↦ absurd (Contains-none mark none)
]
mark_here mine so_far _ steps mark has = absurd (Contains-none mark has)

mark_at : (mine : Mine) (so_far steps : List MailStep) (mark : LinesDone) → Contains (marks_by mine so_far steps) mark
    → IsMarkAt mine so_far steps mark
mark_at mine so_far [] mark has = absurd (Contains-none mark has)
mark_at mine so_far (step ∷ steps) mark has =
    elim (Contains-append_cases (marks_by mine (so_far ++ step ∷ []) steps) (marks_at mine so_far step) mark has) [
      | inl later ↦ mark_further mine so_far step steps mark (mark_at mine (so_far ++ step ∷ []) steps mark later)
      | inr here ↦ mark_here mine so_far step steps mark here
    ]

-- WHAT WAS MADE BY THEN

-- nothing is in hand
abbrev empty_hand : ℕ → Option Kept
empty_hand slot = None

module _ (opening : Opening) (who : ℕ) (mine : Mine) (steps : List MailStep) (did : IsDoneBy (newcomer opening who) mine steps)
    (adds : AddsAmong who steps) where
  -- the entries of some first steps are the first ones that the participant made
  first_made : (before rest : List MailStep) → steps ≡ before ++ rest → take (length (entries_by empty_hand before)) mine.made ≡ entries_by empty_hand before
  first_made before rest is =
      ap (take (length (entries_by empty_hand before)))
      (did.made ∙ (ap (entries_by empty_hand) is ∙ entries_by-append empty_hand before rest))
      ∙ take_at (entries_by empty_hand before) (entries_by (λ slot. in_hand slot (empty_hand slot) before) rest)
      (length (entries_by empty_hand before)) refl

  -- of a heap they are what came to it in the holds of these steps
  heap_made : (before rest : List MailStep) → steps ≡ before ++ rest → (heap : ℕ)
      → values_of heap (take (length (entries_by empty_hand before)) mine.made) ≡ added who heap None before
  heap_made before rest is heap = ap (values_of heap) (first_made before rest is) ∙ sym (adds [] before rest is heap).are

  -- so a mark has what was made by then, and what was seen of the names
  pub marked_so : (courses : List Course)
      → ((before after : List MailStep) (lines : ℕ) → steps ≡ before ++ Notes (Stored lines) ∷ after → HasDoneFirst who courses lines before)
      → (mark : LinesDone) → Contains mine.done mark → HasTold who courses mine mark
  marked_so courses gone mark has =
      elim (Contains-append_cases (marks_by (newcomer opening who) [] steps) (none_done ∷ []) mark
      (subst (λ (marks : List LinesDone). Contains marks mark) did.told has)) [
        | inl among ↦ at (mark_at (newcomer opening who) [] steps mark among)
        | inr first ↦ elim (Contains-cases none_done mark [] first) [
          | inl is ↦ subst (HasTold who courses mine) is (record {
            early = [];
            late = courses;
            are = refl;
            many = refl;
            made = λ heap. refl;
            zones = refl;
            names = refl;
          })
          | inr none ↦ absurd (Contains-none mark none)
        ]
      ]
    where
      at : IsMarkAt (newcomer opening who) [] steps mark → HasTold who courses mine mark
      at is =
          let done = gone is.before is.after is.lines is.is in
          record {
            early = done.early;
            late = done.late;
            are = done.are;
            many = done.many ∙ sym (ap (λ (mark : LinesDone). mark.lines) is.mark_is);
            made = λ heap.
                ap (λ (mark : LinesDone). made_by_then heap mark mine) is.mark_is
                ∙ (heap_made is.before (Notes (Stored is.lines) ∷ is.after) is.is heap ∙ done.made heap);
            zones = ap (λ (mark : LinesDone). mark.zones) is.mark_is ∙ ap (λ (zones : List ZoneChange). length zones) done.seen.zones;
            names = ap (λ (mark : LinesDone). mark.names) is.mark_is ∙ ap (λ (changes : List NameChange). length changes) done.seen.names;
          }

  -- what it took after some steps, it took since it had made as many moves
  moves_since : (before after : List MailStep) (other found : ℕ) → steps ≡ before ++ Notes (LoadedDone other found) ∷ after
      → drop (length (moves_in before)) mine.moves ≡ moves_in after
  moves_since before after other found is =
      ap (drop (length (moves_in before)))
      (did.moves ∙ (ap moves_in is ∙ flat_map-append move_in before (Notes (LoadedDone other found) ∷ after)))
      ∙ drop_at (moves_in before) (moves_in after) (length (moves_in before)) refl

  -- and what it looked up stands in its view
  pub looked_so : (place other lines found : ℕ) (courses : List Course) (before after : List MailStep) → lines ≤ found
      → steps ≡ before ++ Notes (LoadedDone other found) ∷ after
      → ((heap : ℕ) → added who heap None before ≡ entries_for who heap 1 (calls_in (trace_of (take place courses))))
      → AreTakenBy (trace_of (drop place courses)) after → HasLooked who place other lines courses mine
  looked_so place other lines found courses before after enough is made taken = record {
    awaited = look_then (newcomer opening who) before found;
    there = look_kept (newcomer opening who) mine before after other found
        (subst (IsDoneBy (newcomer opening who) mine) is did);
    enough = enough;
    made = λ heap. heap_made before (Notes (LoadedDone other found) ∷ after) is heap ∙ made heap;
    states = λ heap history first rest comes.
        let its = taken_state heap history after (taken.states heap history first rest comes) in (
          its.0,
          its.1,
          its.2,
          subst (λ (moves : List Move). Contains moves (Took heap (Heap its.0 its.1))) (sym (moves_since before after other found is)) its.3,
        );
    names = λ shown first rest comes.
        let its = taken.names shown first rest comes in (
          its.0,
          its.1,
          subst (λ (moves : List Move). Contains moves (Took NAMES_SLOT (Names its.0))) (sym (moves_since before after other found is))
              (taken_move after NAMES_SLOT (Names its.0) its.2),
        );
  }
