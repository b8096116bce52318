-- Each look among steps is one that the seat keeps, and so is each time that lines were told, with what stood then.
use Rattle.std.proofs.Common.{ℕ, List, [], ◌∷◌, ◌++◌, length, refl, sym, subst, arith}
use Rattle.std.specs.List.{Contains}
use Rattle.std.proofs.lemmas.List.{append-nil, append_assoc}
use Rattle.std.proofs.lemmas.List.Elements.{Contains-append_left, Contains-append_right}
use Rattle.hp_hall.specs.Mail.{MailStep, Notes}
use Rattle.hp_hall.specs.declared.note.Note.TheVariants.{LoadedDone, Stored}
use Rattle.hp_board.specs.declared.view.Awaited.{Awaited}
use Rattle.hp_board.specs.declared.view.LinesDone.{LinesDone}
use Rattle.hp_board.specs.declared.view.Mine.{Mine}
use Rattle.hp_chair.specs.DoneBy.{IsDoneBy, look_then, looks_at, looks_by, mark_then, marks_at, marks_by}

alone : {X : Type 0} (x : X) → Contains (x ∷ []) x
alone x = (0, omega arith, refl)

look_among : (mine : Mine) (first before after : List MailStep) (from lines : ℕ)
    → Contains (looks_by mine first (before ++ Notes (LoadedDone from lines) ∷ after)) (from, look_then mine (first ++ before) lines)
look_among mine first [] after from lines =
    Contains-append_right (looks_by mine (first ++ Notes (LoadedDone from lines) ∷ []) after) (looks_at mine first (Notes (LoadedDone from lines)))
    (from, look_then mine (first ++ []) lines)
    (subst (λ (l : List MailStep). Contains (looks_at mine first (Notes (LoadedDone from lines))) (from, look_then mine l lines)) (sym (append-nil first))
    (alone (from, look_then mine first lines)))
look_among mine first (step ∷ before) after from lines =
    Contains-append_left (looks_by mine (first ++ step ∷ []) (before ++ Notes (LoadedDone from lines) ∷ after)) (looks_at mine first step)
    (from, look_then mine (first ++ step ∷ before) lines)
    (subst (λ (l : List MailStep).
    Contains (looks_by mine (first ++ step ∷ []) (before ++ Notes (LoadedDone from lines) ∷ after)) (from, look_then mine l lines))
    (append_assoc first (step ∷ []) before) (look_among mine (first ++ step ∷ []) before after from lines))

mark_among : (mine : Mine) (first before after : List MailStep) (lines : ℕ)
    → Contains (marks_by mine first (before ++ Notes (Stored lines) ∷ after)) (mark_then mine (first ++ before) lines)
mark_among mine first [] after lines =
    Contains-append_right (marks_by mine (first ++ Notes (Stored lines) ∷ []) after) (marks_at mine first (Notes (Stored lines)))
    (mark_then mine (first ++ []) lines)
    (subst (λ (l : List MailStep). Contains (marks_at mine first (Notes (Stored lines))) (mark_then mine l lines)) (sym (append-nil first))
    (alone (mark_then mine first lines)))
mark_among mine first (step ∷ before) after lines =
    Contains-append_left (marks_by mine (first ++ step ∷ []) (before ++ Notes (Stored lines) ∷ after)) (marks_at mine first step)
    (mark_then mine (first ++ step ∷ before) lines)
    (subst (λ (l : List MailStep).
    Contains (marks_by mine (first ++ step ∷ []) (before ++ Notes (Stored lines) ∷ after)) (mark_then mine l lines))
    (append_assoc first (step ∷ []) before) (mark_among mine (first ++ step ∷ []) before after lines))

-- a look among the steps is one that the seat keeps, so that close speaks of it; and so is a time when lines were told
module _ (old new : Mine) (before after : List MailStep) where
  pub look_kept : (from lines : ℕ) → IsDoneBy old new (before ++ Notes (LoadedDone from lines) ∷ after)
      → Contains new.awaited (from, look_then old before lines)
  look_kept from lines done =
      let all = looks_by old [] (before ++ Notes (LoadedDone from lines) ∷ after) in
      subst (λ (l : List (ℕ × Awaited)). Contains l (from, look_then old before lines)) (sym done.looked)
      (Contains-append_left all old.awaited (from, look_then old before lines) (look_among old [] before after from lines))

  pub mark_kept : (lines : ℕ) → IsDoneBy old new (before ++ Notes (Stored lines) ∷ after) → Contains new.done (mark_then old before lines)
  mark_kept lines done =
      let all = marks_by old [] (before ++ Notes (Stored lines) ∷ after) in
      subst (λ (l : List LinesDone). Contains l (mark_then old before lines)) (sym done.told)
      (Contains-append_left all old.done (mark_then old before lines) (mark_among old [] before after lines))
