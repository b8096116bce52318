-- By the moves of a board a heap that a participant took has the entries that this one had added to it, and is a front of the last one.
use Rattle.std.proofs.Common.{◌≡◌, ◌≢◌, ◌∙◌, ℕ, List, [], ◌∷◌, ◌++◌, ⊎_elim, refl, ap, sym, subst}
use Rattle.std.proofs.lemmas.Bool.{cases_eq}
use Rattle.hp_board.specs.MovesKept.{IsMove, Replays, Slotted, slots_after}
use Rattle.hp_board.specs.Views.{values_of}
use Rattle.hp_board.specs.declared.view.Move.{Move}
use Rattle.hp_board.specs.declared.view.Move.TheVariants.{Took}
use Rattle.hp_chair.specs.FoundEmptyLaws.{nothing_among, tail_of}
use Rattle.hp_hall.specs.declared.kept.Kept.{Kept}
use Rattle.thm_moved.proofs.MovesHeld.{other_first, own_first}

-- the slots were those by the moves before, of which these were the participant's; it took that value of a free slot; and the moves after that lead on
pub record IsTakenAt (who slot : ℕ) (kept : Kept) (before rest : List Move) (first end : Slotted) : Type 0 where
  pub early : List (ℕ × Move)
  pub now : Slotted
  pub until : Replays first early now
  pub own_before : values_of who early ≡ before
  pub takes : IsMove who (Took slot kept) now
  pub left : List (ℕ × Move)
  pub replay : Replays (slots_after who (Took slot kept) now) left end
  pub own_behind : values_of who left ≡ rest

head_or : {A : Type 0} → A → List A → A
head_or other [] = other
head_or other (x ∷ xs) = x

module _ (who slot : ℕ) (kept : Kept) (end : Slotted) where
  -- the next move is that, or it comes later
  taken_first : (slots : Slotted) (move : Move) (moves : List (ℕ × Move)) (rest : List Move) → move ≡ Took slot kept → IsMove who move slots
      → Replays (slots_after who move slots) moves end → values_of who moves ≡ rest → IsTakenAt who slot kept [] rest slots end
  taken_first slots move moves rest is may replay own = record {
    early = [];
    now = slots;
    until = record { value = λ other low. refl; word = λ other low. refl };
    own_before = refl;
    takes = subst (λ (move : Move). IsMove who move slots) is may;
    left = moves;
    replay = subst (λ (move : Move). Replays (slots_after who move slots) moves end) is replay;
    own_behind = own;
  }

  taken_later : (slots : Slotted) (w : ℕ) (move : Move) (before later rest : List Move) → IsMove w move slots
      → ((early : List (ℕ × Move)) → values_of who early ≡ later → values_of who ((w, move) ∷ early) ≡ before)
      → IsTakenAt who slot kept later rest (slots_after w move slots) end → IsTakenAt who slot kept before rest slots end
  taken_later slots w move before later rest may own at = record {
    early = (w, move) ∷ at.early;
    now = at.now;
    until = (may, at.until);
    own_before = own at.early at.own_before;
    takes = at.takes;
    left = at.left;
    replay = at.replay;
    own_behind = at.own_behind;
  }

  taken_own : (slots : Slotted) (w : ℕ) (move : Move) (moves : List (ℕ × Move)) (before rest : List Move) → w ≡ who → IsMove w move slots
      → Replays (slots_after w move slots) moves end → move ∷ values_of who moves ≡ before ++ Took slot kept ∷ rest
      → ((later : List Move) → values_of who moves ≡ later ++ Took slot kept ∷ rest
      → IsTakenAt who slot kept later rest (slots_after w move slots) end)
      → IsTakenAt who slot kept before rest slots end
  unfolding head_or
  taken_own slots w move moves [] rest same may replay is on =
      taken_first slots move moves rest (ap (head_or move) is) (subst (λ (w : ℕ). IsMove w move slots) same may)
      (subst (λ (w : ℕ). Replays (slots_after w move slots) moves end) same replay) (ap tail_of is)
  taken_own slots w move moves (first ∷ later) rest same may replay is on =
      let here : move ≡ first = ap (head_or move) is in
      taken_later slots w move (first ∷ later) later rest may
      (λ early own.
      ap (λ (w : ℕ). values_of who ((w, move) ∷ early)) same
      ∙ (own_first who move early ∙ (ap (λ (one : Move). one ∷ values_of who early) here ∙ ap (λ (l : List Move). first ∷ l) own)))
      (on later (ap tail_of is))

  pub taken_at : (moves : List (ℕ × Move)) (slots : Slotted) → Replays slots moves end → (before rest : List Move)
      → values_of who moves ≡ before ++ Took slot kept ∷ rest → IsTakenAt who slot kept before rest slots end
  taken_at [] slots replay before rest is = absurd (nothing_among before rest (Took slot kept) is)
  taken_at ((w, move) ∷ moves) slots replay before rest is =
      ⊎_elim
      (λ (same : w ≡ who).
      taken_own slots w move moves before rest same replay.0 replay.1
      (sym (ap (λ (w : ℕ). values_of who ((w, move) ∷ moves)) same ∙ own_first who move moves) ∙ is)
      (λ later there. taken_at moves (slots_after w move slots) replay.1 later rest there))
      (λ (apart : w ≢ who).
      let others : (list : List (ℕ × Move)) → values_of who ((w, move) ∷ list) ≡ values_of who list =
      λ list. other_first w who move list (λ same. apart (sym same)) in
      taken_later slots w move before before rest replay.0 (λ early own. others early ∙ own)
      (taken_at moves (slots_after w move slots) replay.1 before rest (sym (others moves) ∙ is)))
      (cases_eq w who)
