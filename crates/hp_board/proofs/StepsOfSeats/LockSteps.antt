-- The lock words and their holders stay in step when a slot is taken and when it is given back.
use Rattle.std.proofs.Common.{◌≡◌, ◌≢◌, ℕ, ◌+◌, ◌<◌, ◌≤◌, eqb, eq-eqb, ne_eqb, List, ◌∷◌, length, get_or, set, get_or-set_other, Option, Some, None, refl, sym, ap, ◌∙◌, arith}
use Rattle.std.proofs.lemmas.Bool.{cond-true, cond-false}
use mathlib.Core.Logic.{dite}
use mathlib.Core.Option.{some, none}
use mathlib.Core.Option as maybe
use native.Mathlib.Decide.{ℕ_discrete}
use lib.ListN.{get_elem?}
use Rattle.atomic_table.proofs.Lists.{set_here, set_else}
use Rattle.hp_hall.specs.declared.kept.Kept.{Kept}
use Rattle.hp_board.specs.declared.words.TheConstants.{SLOTS, WORDS}
use Rattle.hp_board.specs.declared.view.Mine.{Mine}
use Rattle.hp_board.specs.Locks.{held_by, AreLocked}
use Rattle.hp_board.specs.Views.{Learned, value_of, without, after_take, after_give}
use Rattle.hp_board.proofs.Pairs.{value_of-here, value_of-else, value_of-without, value_of-without_else}
use Rattle.hp_board.proofs.Updates.{with_at, with_at-here, with_at-else, each, each_word}

pub held_yes : (who word : ℕ) (kept : Kept) → word ≡ who + 1 → held_by who word kept ≡ Some kept
held_yes who word kept same = cond-true (eqb word (who + 1)) (Some kept) None (eq-eqb word (who + 1) same)

pub held_no : (who word : ℕ) (kept : Kept) → word ≢ who + 1 → held_by who word kept ≡ None
held_no who word kept apart = cond-false (eqb word (who + 1)) (Some kept) None (ne_eqb word (who + 1) apart)

-- who holds a value by a word has the word, and the slot's value
pub held_means : (who word : ℕ) (kept taken : Kept) → held_by who word kept ≡ Some taken → (word ≡ who + 1) × (kept ≡ taken)
held_means who word kept taken is =
    dite (ℕ_discrete word (who + 1))
    (λ same. let yes = held_yes who word kept same in (same, cc))
    (λ apart. let no-one = held_no who word kept apart in absurd (cc))

module _ (participants : ℕ) (words : List ℕ) (homes : List (maybe.Option (Option Kept))) (kept : ℕ → Kept) (mine : ℕ → Mine)
    (locked : AreLocked participants words homes kept mine) (wide : length words ≡ WORDS) (slot : ℕ) (inside : slot < SLOTS)
    (part : Mine) (known : part ≡ mine part.who) (declared : part.who < participants) where
  in_words : slot < length words
  in_words = omega arith

  -- a slot whose word was 0 is taken
  pub locked_take : (learned : Learned) → get_or words slot 0 ≡ 0
      → AreLocked participants (set words slot (part.who + 1)) (set homes slot none) kept (with_at part.who (after_take slot (kept slot) learned part) mine)
  locked_take learned free = record {
    low = each_word (λ k w. k < SLOTS → w ≤ participants) words slot (part.who + 1) in_words (λ _. omega arith) (λ k apart within. locked.low k within);
    home = each_word (λ k w. k < SLOTS → w ≡ 0 → get_elem? (set homes slot none) k ≡ some (some (Some (kept k)))) words slot (part.who + 1) in_words
        (λ _ zero-now. absurd (omega arith))
        (λ k apart within zero-now. set_else homes slot k none apart ∙ locked.home k within zero-now);
    held = λ who k. each (λ w m. w < participants → k < SLOTS → value_of k m.held ≡ held_by w (get_or (set words slot (part.who + 1)) k 0) (kept k))
        part.who (after_take slot (kept slot) learned part) mine (own k) (others k) who;
  }
    where
      own : (k : ℕ) → part.who < participants → k < SLOTS → value_of k ((slot, kept slot) ∷ part.held) ≡ held_by part.who (get_or (set words slot (part.who + 1)) k 0) (kept k)
      own = each_word (λ k w. part.who < participants → k < SLOTS → value_of k ((slot, kept slot) ∷ part.held) ≡ held_by part.who w (kept k)) words slot (part.who + 1) in_words
          (λ _ _. value_of-here slot (kept slot) part.held ∙ sym (held_yes part.who (part.who + 1) (kept slot) refl))
          (λ k apart may within. value_of-else slot k (kept slot) part.held apart ∙ ap (λ (m : Mine). value_of k m.held) known ∙ locked.held part.who k may within)

      others : (k who : ℕ) → who ≢ part.who → who < participants → k < SLOTS → value_of k (mine who).held ≡ held_by who (get_or (set words slot (part.who + 1)) k 0) (kept k)
      others k who apart = each_word (λ j w. who < participants → j < SLOTS → value_of j (mine who).held ≡ held_by who w (kept j)) words slot (part.who + 1) in_words
          (λ may within. locked.held who slot may within ∙ held_no who (get_or words slot 0) (kept slot) (λ same. omega arith)
          ∙ sym (held_no who (part.who + 1) (kept slot) (λ same. apart (omega arith))))
          (λ j _ may within. locked.held who j may within) k

  -- a slot that the participant holds is given
  pub locked_give : (taken given : Kept) → value_of slot part.held ≡ Some taken → length homes ≡ SLOTS
      → AreLocked participants (set words slot 0) (set homes slot (some (Some given))) (with_at slot given kept) (with_at part.who (after_give slot given part) mine)
  locked_give taken given holds homes-wide = record {
    low = each_word (λ k w. k < SLOTS → w ≤ participants) words slot 0 in_words (λ _. omega arith) (λ k apart within. locked.low k within);
    home = each_word (λ k w. k < SLOTS → w ≡ 0 → get_elem? (set homes slot (some (Some given))) k ≡ some (some (Some (with_at slot given kept k)))) words slot 0 in_words
        (λ _ _. set_here homes slot (some (Some given)) (omega arith) ∙ ap (λ (x : Kept). some (some (Some x))) (sym (with_at-here slot given kept)))
        (λ k apart within zero-now. set_else homes slot k (some (Some given)) apart ∙ locked.home k within zero-now
        ∙ ap (λ (x : Kept). some (some (Some x))) (sym (with_at-else slot given kept k apart)));
    held = λ who k. each (λ w m. w < participants → k < SLOTS → value_of k m.held ≡ held_by w (get_or (set words slot 0) k 0) (with_at slot given kept k))
        part.who (after_give slot given part) mine (own k) (others k) who;
  }
    where
      word_is : get_or words slot 0 ≡ part.who + 1
      word_is = (held_means part.who (get_or words slot 0) (kept slot) taken
          (sym (locked.held part.who slot declared inside) ∙ ap (λ (m : Mine). value_of slot m.held) (sym known) ∙ holds)).0

      own : (k : ℕ) → part.who < participants → k < SLOTS → value_of k (without slot part.held) ≡ held_by part.who (get_or (set words slot 0) k 0) (with_at slot given kept k)
      own = each_word (λ k w. part.who < participants → k < SLOTS → value_of k (without slot part.held) ≡ held_by part.who w (with_at slot given kept k)) words slot 0 in_words
          (λ _ _. value_of-without slot part.held ∙ sym (held_no part.who 0 (with_at slot given kept slot) (λ same. omega arith)))
          (λ k apart may within. value_of-without_else slot k part.held apart ∙ ap (λ (m : Mine). value_of k m.held) known ∙ locked.held part.who k may within
          ∙ ap (held_by part.who (get_or words k 0)) (sym (with_at-else slot given kept k apart)))

      others : (k who : ℕ) → who ≢ part.who → who < participants → k < SLOTS → value_of k (mine who).held ≡ held_by who (get_or (set words slot 0) k 0) (with_at slot given kept k)
      others k who apart = each_word (λ j w. who < participants → j < SLOTS → value_of j (mine who).held ≡ held_by who w (with_at slot given kept j)) words slot 0 in_words
          (λ may within. locked.held who slot may within
          ∙ held_no who (get_or words slot 0) (kept slot) (λ same. apart (let word = word_is in omega arith))
          ∙ sym (held_no who 0 (with_at slot given kept slot) (λ same. omega arith)))
          (λ j elsewhere may within. locked.held who j may within ∙ ap (held_by who (get_or words j 0)) (sym (with_at-else slot given kept j elsewhere))) k

  -- the slot of a value that the participant holds has that value
  pub kept_taken : (taken : Kept) → value_of slot part.held ≡ Some taken → kept slot ≡ taken
  kept_taken taken holds = (held_means part.who (get_or words slot 0) (kept slot) taken
      (sym (locked.held part.who slot declared inside) ∙ ap (λ (m : Mine). value_of slot m.held) (sym known) ∙ holds)).1

  -- and its word is the participant's
  pub word_taken : (taken : Kept) → value_of slot part.held ≡ Some taken → get_or words slot 0 ≡ part.who + 1
  word_taken taken holds = (held_means part.who (get_or words slot 0) (kept slot) taken
      (sym (locked.held part.who slot declared inside) ∙ ap (λ (m : Mine). value_of slot m.held) (sym known) ∙ holds)).0

  -- a word after the lock words changes, or a view whose slots stay
  pub locked_else : (at word : ℕ) → SLOTS ≤ at → (new : Mine) → new.held ≡ part.held → AreLocked participants (set words at word) homes kept (with_at part.who new mine)
  locked_else at word behind new same = record {
    low = λ k within. let is = get_or-set_other words at k word 0 (λ one. omega arith) in let low = locked.low k within in omega (arith, is, low);
    home = λ k within zero-now. locked.home k within (sym (get_or-set_other words at k word 0 (λ one. omega arith)) ∙ zero-now);
    held = λ who k. each (λ w m. w < participants → k < SLOTS → value_of k m.held ≡ held_by w (get_or (set words at word) k 0) (kept k)) part.who new mine
        (λ may within. ap (value_of k) same ∙ ap (λ (m : Mine). value_of k m.held) known ∙ locked.held part.who k may within ∙ stays part.who k within)
        (λ w apart may within. locked.held w k may within ∙ stays w k within) who;
  }
    where
      stays : (w k : ℕ) → k < SLOTS → held_by w (get_or words k 0) (kept k) ≡ held_by w (get_or (set words at word) k 0) (kept k)
      stays w k within = ap (λ (n : ℕ). held_by w n (kept k)) (sym (get_or-set_other words at k word 0 (λ one. omega arith)))
