-- Of all moves in one order, those of one slot make a chain of holds.
use Rattle.std.proofs.Common.{◌≡◌, ◌≢◌, ◌∙◌, ℕ, ◌+◌, ◌<◌, cond, eqb, eq-eqb, ne_eqb, List, [], ◌∷◌, ◌++◌, Option, Some, None, refl, sym, ap, subst, arith}
use Rattle.std.proofs.lemmas.Bool.{cond-true, cond-false}
use mathlib.Core.Logic.{dite}
use native.Mathlib.Decide.{ℕ_discrete}
use Rattle.hp_hall.specs.declared.kept.Kept.{Kept}
use Rattle.hp_board.specs.declared.words.TheConstants.{SLOTS}
use Rattle.hp_board.specs.declared.view.Move.{Move}
use Rattle.hp_board.specs.declared.view.Move.TheVariants.{Took, Gave}
use Rattle.hp_board.specs.MovesKept.{Replays, Slotted, all_free, hold_of, holds_in, slots_after}
use Rattle.hp_board.specs.Views.{values_of}
use Rattle.hp_weave.specs.Holds.{Chain, Hold, holds_of}

-- what a participant has taken out of the slot and not given back
abbrev pub pending : ℕ → Slotted → ℕ → Option Kept
pending slot slots who = cond (eqb (slots.word slot) (who + 1)) (Some (slots.value slot)) None

pending_yes : (slot : ℕ) (slots : Slotted) (who : ℕ) → slots.word slot ≡ who + 1 → pending slot slots who ≡ Some (slots.value slot)
pending_yes slot slots who is = cond-true (eqb (slots.word slot) (who + 1)) (Some (slots.value slot)) None (eq-eqb (slots.word slot) (who + 1) is)

pending_no : (slot : ℕ) (slots : Slotted) (who : ℕ) → slots.word slot ≢ who + 1 → pending slot slots who ≡ None
pending_no slot slots who is = cond-false (eqb (slots.word slot) (who + 1)) (Some (slots.value slot)) None (ne_eqb (slots.word slot) (who + 1) is)

-- where the slot is free nobody has it
pub pending_free : (slot : ℕ) (values : ℕ → Kept) (who : ℕ) → pending slot (all_free values) who ≡ None
pending_free slot values who = cond-false (eqb 0 (who + 1)) (Some (values slot)) None (ne_eqb 0 (who + 1) (λ wrong. omega (arith, wrong)))

own-first : {A : Type 0} (who : ℕ) (x : A) (xs : List (ℕ × A)) → values_of who ((who, x) ∷ xs) ≡ x ∷ values_of who xs
own-first who x xs = cond-true (eqb who who) (x ∷ values_of who xs) (values_of who xs) (eq-eqb who who refl)

other-first : {A : Type 0} (who w : ℕ) (x : A) (xs : List (ℕ × A)) → w ≢ who → values_of w ((who, x) ∷ xs) ≡ values_of w xs
other-first who w x xs apart = cond-false (eqb who w) (x ∷ values_of w xs) (values_of w xs) (ne_eqb who w (λ same. apart (sym same)))

hold_first : (who : ℕ) (taken given : Kept) (holds : List (Hold Kept))
    → holds_of who (record { who = who; taken = taken; given = given } ∷ holds) ≡ record { who = who; taken = taken; given = given } ∷ holds_of who holds
hold_first who taken given holds =
    cond-true (eqb who who) (record { who = who; taken = taken; given = given } ∷ holds_of who holds) (holds_of who holds) (eq-eqb who who refl)

hold_other : (who w : ℕ) (taken given : Kept) (holds : List (Hold Kept)) → w ≢ who
    → holds_of w (record { who = who; taken = taken; given = given } ∷ holds) ≡ holds_of w holds
hold_other who w taken given holds apart =
    cond-false (eqb who w) (record { who = who; taken = taken; given = given } ∷ holds_of w holds) (holds_of w holds) (ne_eqb who w (λ same. apart (sym same)))

-- the holds of a slot, from some slots on
pub record HasHolds (slot : ℕ) (slots last : Slotted) (moves : List (ℕ × Move)) : Type 0 where
  pub holds : List (Hold Kept)
  pub chain : Chain (slots.value slot) holds (last.value slot)
  pub own : (who : ℕ) → holds_of who holds ≡ holds_in who slot (pending slot slots who) (values_of who moves)

module _ (slot : ℕ) (inside : slot < SLOTS) (last : Slotted) where
  -- a move of another slot changes nothing
  else_move : (slots next : Slotted) (who : ℕ) (move : Move) (moves : List (ℕ × Move)) → next.value slot ≡ slots.value slot → next.word slot ≡ slots.word slot
      → ((p : Option Kept) (ms : List Move) → holds_in who slot p (move ∷ ms) ≡ holds_in who slot p ms) → HasHolds slot next last moves → HasHolds slot slots last ((who, move) ∷ moves)
  else_move slots next who move moves value word skips has = record {
    holds = has.holds;
    chain = subst (λ (v : Kept). Chain v has.holds (last.value slot)) value has.chain;
    own = λ w.
        let now : Option Kept = pending slot slots w in
        let same : pending slot next w ≡ now =
        ap (λ (n : ℕ). cond (eqb n (w + 1)) (Some (next.value slot)) None) word ∙ ap (λ (v : Kept). cond (eqb (slots.word slot) (w + 1)) (Some v) None) value in
        has.own w
        ∙ (ap (λ p. holds_in w slot p (values_of w moves)) same
        ∙ dite (ℕ_discrete w who)
        (λ is.
        sym (ap (λ (k : ℕ). holds_in k slot now (values_of k ((who, move) ∷ moves))) is
        ∙ (ap (holds_in who slot now) (own-first who move moves)
        ∙ (skips now (values_of who moves) ∙ ap (λ (k : ℕ). holds_in k slot now (values_of k moves)) (sym is)))))
        (λ apart. sym (ap (holds_in w slot now) (other-first who w move moves apart))));
  }

  -- the slot is taken
  taken_move : (slots next : Slotted) (who : ℕ) (move : Move) (value : Kept) (moves : List (ℕ × Move)) → slots.word slot ≡ 0 → next.word slot ≡ who + 1
      → next.value slot ≡ slots.value slot → value ≡ slots.value slot → ((p : Option Kept) (ms : List Move) → holds_in who slot p (move ∷ ms) ≡ holds_in who slot (Some value) ms)
      → HasHolds slot next last moves → HasHolds slot slots last ((who, move) ∷ moves)
  taken_move slots next who move value moves free held stays is takes has = record {
    holds = has.holds;
    chain = subst (λ (v : Kept). Chain v has.holds (last.value slot)) stays has.chain;
    own = λ w.
        let none : pending slot slots w ≡ None = pending_no slot slots w (λ same. omega (arith, same, free)) in
        dite (ℕ_discrete w who)
        (λ same.
        has.own w
        ∙ (ap (λ p. holds_in w slot p (values_of w moves)) (pending_yes slot next w (held ∙ ap (λ (k : ℕ). k + 1) (sym same)) ∙ ap (λ (v : Kept). Some v) (stays ∙ sym is))
        ∙ sym (ap (λ (k : ℕ). holds_in k slot (pending slot slots w) (values_of k ((who, move) ∷ moves))) same
        ∙ (ap (holds_in who slot (pending slot slots w)) (own-first who move moves)
        ∙ (takes (pending slot slots w) (values_of who moves) ∙ ap (λ (k : ℕ). holds_in k slot (Some value) (values_of k moves)) (sym same))))))
        (λ apart.
        has.own w
        ∙ (ap (λ p. holds_in w slot p (values_of w moves)) (pending_no slot next w (λ same. apart (omega (arith, same, held))) ∙ sym none)
        ∙ sym (ap (holds_in w slot (pending slot slots w)) (other-first who w move moves apart))));
  }

  -- it is given
  given_move : (slots next : Slotted) (who : ℕ) (move : Move) (value : Kept) (moves : List (ℕ × Move)) → slots.word slot ≡ who + 1 → next.word slot ≡ 0
      → next.value slot ≡ value → ((p : Option Kept) (ms : List Move) → holds_in who slot p (move ∷ ms) ≡ hold_of who p value ++ holds_in who slot None ms)
      → HasHolds slot next last moves → HasHolds slot slots last ((who, move) ∷ moves)
  given_move slots next who move value moves held free is gives has = record {
    holds = record { who = who; taken = slots.value slot; given = value } ∷ has.holds;
    chain = (refl, subst (λ (v : Kept). Chain v has.holds (last.value slot)) is has.chain);
    own = λ w.
        let none : pending slot next w ≡ None = pending_no slot next w (λ same. omega (arith, same, free)) in
        dite (ℕ_discrete w who)
        (λ same.
        let was : pending slot slots w ≡ Some (slots.value slot) = pending_yes slot slots w (held ∙ ap (λ (k : ℕ). k + 1) (sym same)) in
        ap (λ (k : ℕ). holds_of k (record { who = who; taken = slots.value slot; given = value } ∷ has.holds)) same
        ∙ (hold_first who (slots.value slot) value has.holds
        ∙ (ap (λ l. record { who = who; taken = slots.value slot; given = value } ∷ l) (ap (λ (k : ℕ). holds_of k has.holds) (sym same) ∙ (has.own w ∙ ap (λ p. holds_in w slot p (values_of w moves)) none))
        ∙ sym (ap (λ (k : ℕ). holds_in k slot (pending slot slots w) (values_of k ((who, move) ∷ moves))) same
        ∙ (ap (holds_in who slot (pending slot slots w)) (own-first who move moves)
        ∙ (gives (pending slot slots w) (values_of who moves)
        ∙ (ap (λ p. hold_of who p value ++ holds_in who slot None (values_of who moves)) was
        ∙ ap (λ (k : ℕ). record { who = who; taken = slots.value slot; given = value } ∷ holds_in k slot None (values_of k moves)) (sym same))))))))
        (λ apart.
        hold_other who w (slots.value slot) value has.holds apart
        ∙ (has.own w
        ∙ (ap (λ p. holds_in w slot p (values_of w moves)) (none ∙ sym (pending_no slot slots w (λ same. apart (omega (arith, same, held)))))
        ∙ sym (ap (holds_in w slot (pending slot slots w)) (other-first who w move moves apart)))));
  }

  pub chained : (moves : List (ℕ × Move)) (slots : Slotted) → Replays slots moves last → HasHolds slot slots last moves
  chained [] slots same = record { holds = []; chain = same.value slot inside; own = λ who. refl }
  chained ((who, Took other value) ∷ moves) slots replay =
      let move = replay.0 in
      let next = slots_after who (Took other value) slots in
      let has = chained moves next replay.1 in
      dite (ℕ_discrete slot other)
      (λ is.
      taken_move slots next who (Took other value) value moves (ap slots.word is ∙ move.1)
      (cond-true (eqb slot other) (who + 1) (slots.word slot) (eq-eqb slot other is)) refl (move.2 ∙ ap slots.value (sym is))
      (λ p ms. cond-true (eqb other slot) (holds_in who slot (Some value) ms) (holds_in who slot p ms) (eq-eqb other slot (sym is))) has)
      (λ apart.
      else_move slots next who (Took other value) moves refl (cond-false (eqb slot other) (who + 1) (slots.word slot) (ne_eqb slot other apart))
      (λ p ms. cond-false (eqb other slot) (holds_in who slot (Some value) ms) (holds_in who slot p ms) (ne_eqb other slot (λ same. apart (sym same)))) has)
  chained ((who, Gave other value) ∷ moves) slots replay =
      let move = replay.0 in
      let next = slots_after who (Gave other value) slots in
      let has = chained moves next replay.1 in
      dite (ℕ_discrete slot other)
      (λ is.
      given_move slots next who (Gave other value) value moves (ap slots.word is ∙ move.1)
      (cond-true (eqb slot other) 0 (slots.word slot) (eq-eqb slot other is)) (cond-true (eqb slot other) value (slots.value slot) (eq-eqb slot other is))
      (λ p ms. cond-true (eqb other slot) (hold_of who p value ++ holds_in who slot None ms) (holds_in who slot p ms) (eq-eqb other slot (sym is))) has)
      (λ apart.
      else_move slots next who (Gave other value) moves (cond-false (eqb slot other) value (slots.value slot) (ne_eqb slot other apart))
      (cond-false (eqb slot other) 0 (slots.word slot) (ne_eqb slot other apart))
      (λ p ms. cond-false (eqb other slot) (hold_of who p value ++ holds_in who slot None ms) (holds_in who slot p ms) (ne_eqb other slot (λ same. apart (sym same)))) has)
