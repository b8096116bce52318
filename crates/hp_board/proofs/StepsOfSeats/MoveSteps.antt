-- All that was taken and given stays told in one order.
use Rattle.std.proofs.Common.{◌≡◌, ◌≢◌, ◌∙◌, ℕ, ◌+◌, ◌<◌, cond, eqb, eq-eqb, ne_eqb, List, [], ◌∷◌, ◌++◌, length, get_or, set, refl, sym, ap, subst, arith}
use Rattle.std.proofs.lemmas.Bool.{cond-true, cond-false}
use Rattle.std.proofs.lemmas.List.{append-nil}
use Rattle.hp_hall.specs.Later.{IsLaterKept}
use Rattle.hp_hall.specs.declared.kept.Kept.{Kept}
use Rattle.hp_board.specs.declared.words.TheConstants.{SLOTS}
use Rattle.hp_board.specs.declared.view.Move.{Move}
use Rattle.hp_board.specs.declared.view.Move.TheVariants.{Took, Gave}
use Rattle.hp_board.specs.MovesKept.{AreAlike, AreMoved, HasAdded, IsMove, Replays, Slotted, all_free, slots_after, slots_by}
use Rattle.hp_board.specs.Views.{under, values_of}
use Rattle.hp_board.specs.declared.opening.Opening.{Opening}
use Rattle.hp_board.specs.declared.view.Mine.{Mine}
use Rattle.hp_board.proofs.EndingFacts.GoodMoves.{good_alike}
use Rattle.hp_board.proofs.Pairs.{values_of-append, values_of-under, values_of-under_else}
use Rattle.hp_board.proofs.Updates.{with_at, each, each_word}

-- slots that are alike may be moved alike, and are alike afterwards
move_alike : (who : ℕ) (move : Move) (slots other : Slotted) → AreAlike slots other → IsMove who move other → IsMove who move slots
move_alike who (Took slot kept) slots other alike (within, free, is, good) =
    (within, sym (alike.word slot within) ∙ free, is ∙ alike.value slot within, good_alike slots other alike slot kept good)
move_alike who (Gave slot kept) slots other alike (within, held, good, adds, later) = (
  within,
  sym (alike.word slot within) ∙ held,
  good_alike slots other alike slot kept good,
  subst (λ (was : Kept). HasAdded who was kept) (alike.value slot within) adds,
  subst (λ (was : Kept). IsLaterKept was kept) (alike.value slot within) later,
)

alike_after : (who : ℕ) (move : Move) (slots other : Slotted) → AreAlike slots other → AreAlike (slots_after who move slots) (slots_after who move other)
alike_after who (Took slot kept) slots other alike = record {
  value = alike.value;
  word = λ k within. ap (λ (w : ℕ). cond (eqb k slot) (who + 1) w) (alike.word k within);
}
alike_after who (Gave slot kept) slots other alike = record {
  value = λ k within. ap (λ (v : Kept). cond (eqb k slot) kept v) (alike.value k within);
  word = λ k within. ap (λ (w : ℕ). cond (eqb k slot) 0 w) (alike.word k within);
}

alike_then : (first next last : Slotted) → AreAlike first next → AreAlike next last → AreAlike first last
alike_then first next last one two = record {
  value = λ slot within. two.value slot within ∙ one.value slot within;
  word = λ slot within. two.word slot within ∙ one.word slot within;
}

-- one move more
pub replay-push : (first last next : Slotted) (who : ℕ) (move : Move) (moves : List (ℕ × Move)) → Replays first moves last → IsMove who move last
    → AreAlike (slots_after who move last) next → Replays first (moves ++ (who, move) ∷ []) next
replay-push first last next who move [] same is ends =
    (move_alike who move first last same is, alike_then (slots_after who move first) (slots_after who move last) next (alike_after who move first last same) ends)
replay-push first last next who move (one ∷ moves) replay is ends =
    (replay.0, replay-push (slots_after one.0 one.1 first) last next who move moves replay.1 is ends)

-- slots that are alike at the end
pub replay-alike : (first last next : Slotted) (moves : List (ℕ × Move)) → Replays first moves last → AreAlike last next → Replays first moves next
replay-alike first last next [] same ends = alike_then first last next same ends
replay-alike first last next (one ∷ moves) replay ends = (replay.0, replay-alike (slots_after one.0 one.1 first) last next moves replay.1 ends)

-- the slots once one was taken or given
pub taken_slots : (who slot : ℕ) (value : Kept) (kept : ℕ → Kept) (words : List ℕ) → slot < length words
    → AreAlike (slots_after who (Took slot value) (slots_by kept words)) (slots_by kept (set words slot (who + 1)))
taken_slots who slot value kept words inside = record {
  value = λ k within. refl;
  word = λ k _.
      each_word (λ j w. w ≡ cond (eqb j slot) (who + 1) (get_or words j 0)) words slot (who + 1) inside
      (sym (cond-true (eqb slot slot) (who + 1) (get_or words slot 0) (eq-eqb slot slot refl)))
      (λ j apart. sym (cond-false (eqb j slot) (who + 1) (get_or words j 0) (ne_eqb j slot apart))) k;
}

pub given_slots : (who slot : ℕ) (value : Kept) (kept : ℕ → Kept) (words : List ℕ) → slot < length words
    → AreAlike (slots_after who (Gave slot value) (slots_by kept words)) (slots_by (with_at slot value kept) (set words slot 0))
given_slots who slot value kept words inside = record {
  value = λ k within. refl;
  word = λ k _.
      each_word (λ j w. w ≡ cond (eqb j slot) 0 (get_or words j 0)) words slot 0 inside
      (sym (cond-true (eqb slot slot) 0 (get_or words slot 0) (eq-eqb slot slot refl)))
      (λ j apart. sym (cond-false (eqb j slot) 0 (get_or words j 0) (ne_eqb j slot apart))) k;
}

module _ (opening : Opening) (words : List ℕ) (kept : ℕ → Kept) (mine : ℕ → Mine) (moved : AreMoved opening words kept mine) (part : Mine) (known : part ≡ mine part.who) where
  -- nothing is taken or given
  pub moved_same : (words' : List ℕ) (new : Mine) → new.moves ≡ part.moves → ((slot : ℕ) → slot < SLOTS → get_or words' slot 0 ≡ get_or words slot 0)
      → AreMoved opening words' kept (with_at part.who new mine)
  moved_same words' new same still = record {
    first = moved.first;
    moves = moved.moves;
    opened = moved.opened;
    replay = replay-alike (all_free moved.first) (slots_by kept words) (slots_by kept words') moved.moves moved.replay (record { value = λ slot within. refl; word = still });
    own = each (λ w m. w < opening.participants → values_of w moved.moves ≡ m.moves) part.who new mine
        (λ may. moved.own part.who may ∙ sym (same ∙ ap (λ (m : Mine). m.moves) known)) (λ w apart. moved.own w);
    strange = moved.strange;
  }

  -- a value is taken or given
  pub moved_one : part.who < opening.participants → (move : Move) (words' : List ℕ) (kept' : ℕ → Kept) (new : Mine) → new.moves ≡ part.moves ++ move ∷ []
      → IsMove part.who move (slots_by kept words) → AreAlike (slots_after part.who move (slots_by kept words)) (slots_by kept' words')
      → AreMoved opening words' kept' (with_at part.who new mine)
  moved_one declared move words' kept' new made is ends =
      let others : (w : ℕ) → w ≢ part.who → values_of w (moved.moves ++ (part.who, move) ∷ []) ≡ values_of w moved.moves =
      λ w apart.
      values_of-append w moved.moves (under part.who (move ∷ []))
      ∙ (ap (λ r. values_of w moved.moves ++ r) (values_of-under_else part.who w (move ∷ []) apart) ∙ append-nil (values_of w moved.moves)) in
      record {
        first = moved.first;
        moves = moved.moves ++ (part.who, move) ∷ [];
        opened = moved.opened;
        replay = replay-push (all_free moved.first) (slots_by kept words) (slots_by kept' words') part.who move moved.moves moved.replay is ends;
        own = each (λ w m. w < opening.participants → values_of w (moved.moves ++ (part.who, move) ∷ []) ≡ m.moves) part.who new mine
            (λ may.
            values_of-append part.who moved.moves (under part.who (move ∷ []))
            ∙ (ap (λ r. values_of part.who moved.moves ++ r) (values_of-under part.who (move ∷ []))
            ∙ (ap (λ f. f ++ move ∷ []) (moved.own part.who may ∙ ap (λ (m : Mine). m.moves) (sym known)) ∙ sym made)))
            (λ w apart may. others w apart ∙ moved.own w may);
        strange = λ who strange. others who (λ same. omega (arith, same, strange, declared)) ∙ moved.strange who strange;
      }
