-- Of all moves of a board those of the names make a chain of holds: each takes what the one before it gave back, and gives that back later on.
use Rattle.std.proofs.Common.{◌≡◌, ◌≢◌, ◌∙◌, ℕ, ◌+◌, cond, eqb, eq-eqb, ne_eqb, List, [], ◌∷◌, ◌++◌, Option, Some, None, ⊎_elim, refl, sym, ap, subst, arith}
use Rattle.std.specs.List.{AllByRecursion}
use Rattle.std.proofs.lemmas.Bool.{cases_eq, cond-false, cond-true}
use Rattle.hp_board.specs.MovesKept.{IsMove, Replays, Slotted, all_free, slots_after}
use Rattle.hp_board.specs.Views.{values_of}
use Rattle.hp_board.specs.declared.view.Move.{Move}
use Rattle.hp_board.specs.declared.view.Move.TheVariants.{Gave, Took}
use Rattle.hp_hall.specs.Later.{AreLaterNames, IsLaterKept}
use Rattle.hp_hall.specs.declared.kept.Kept.{Kept}
use Rattle.hp_hall.specs.declared.kept.Kept.TheVariants.{Heap, Names, Segments}
use Rattle.hp_hall.specs.declared.slot.TheConstants.{NAMES_SLOT}
use Rattle.hp_weave.specs.Holds.{Chain, Hold, holds_of}
use Rattle.hp_zone.specs.declared.names.Names.{Names as NamesView}
use Rattle.thm_moved.proofs.MovesHeld.{good_given, good_taken, later_given, other_first, own_first}

-- the hold that ends when these are given back, where names were taken before
abbrev pub hold_given : ℕ → Option NamesView → NamesView → List (Hold NamesView)
hold_given who None given = []
hold_given who (Some taken) given = record { who = who; taken = taken; given = given } ∷ []

-- the holds of the names among a participant's moves, before which it had taken them and not given them back, or not
abbrev pub names_by : ℕ → Option NamesView → List Move → List (Hold NamesView)
names_by who taken [] = []
names_by who taken (Took slot (Heap heap pen) ∷ moves) = names_by who taken moves
names_by who taken (Took slot (Segments segs) ∷ moves) = names_by who taken moves
names_by who taken (Took slot (Names names) ∷ moves) = names_by who (Some names) moves
names_by who taken (Gave slot (Heap heap pen) ∷ moves) = names_by who taken moves
names_by who taken (Gave slot (Segments segs) ∷ moves) = names_by who taken moves
names_by who taken (Gave slot (Names names) ∷ moves) = hold_given who taken names ++ names_by who None moves

-- a hold gives the names back later on
abbrev pub GoesOn : Hold NamesView → Type 0
GoesOn hold = AreLaterNames hold.taken hold.given

-- the names that a participant has in hand, where they are these
abbrev in_hand_of : Slotted → NamesView → ℕ → Option NamesView
in_hand_of slots now who = cond (eqb (slots.word NAMES_SLOT) (who + 1)) (Some now) None

hand_yes : (slots : Slotted) (now : NamesView) (who : ℕ) → slots.word NAMES_SLOT ≡ who + 1 → in_hand_of slots now who ≡ Some now
hand_yes slots now who is = cond-true (eqb (slots.word NAMES_SLOT) (who + 1)) (Some now) None (eq-eqb (slots.word NAMES_SLOT) (who + 1) is)

hand_no : (slots : Slotted) (now : NamesView) (who : ℕ) → slots.word NAMES_SLOT ≢ who + 1 → in_hand_of slots now who ≡ None
hand_no slots now who apart =
    cond-false (eqb (slots.word NAMES_SLOT) (who + 1)) (Some now) None (ne_eqb (slots.word NAMES_SLOT) (who + 1) apart)

-- the holds of the names by moves, from these slots on
pub record AreNamesHeld (slots : Slotted) (now last : NamesView) (moves : List (ℕ × Move)) : Type 0 where
  pub holds : List (Hold NamesView)
  pub chain : Chain now holds last
  pub own : (who : ℕ) → holds_of who holds ≡ names_by who (in_hand_of slots now who) (values_of who moves)
  pub goes_on : AllByRecursion GoesOn holds

names_same : (one other : NamesView) → Names one ≡ Names other → one ≡ other
names_same one other is = cc

-- names that are given go on from those in place of which they come
later_names : (who slot : ℕ) (given now : NamesView) (slots : Slotted) → IsMove who (Gave slot (Names given)) slots
    → slots.value slot ≡ Names now → AreLaterNames now given
later_names who slot given now slots move is =
    subst (λ (taken : Kept). IsLaterKept taken (Names given)) is (later_given who slot (Names given) slots move)

module _ (end : Slotted) (last : NamesView) (left : end.value NAMES_SLOT ≡ Names last) where
  -- a move of another slot changes nothing of them
  past : (slots next : Slotted) (now : NamesView) (who : ℕ) (move : Move) (moves : List (ℕ × Move))
      → next.word NAMES_SLOT ≡ slots.word NAMES_SLOT
      → ((taken : Option NamesView) (rest : List Move) → names_by who taken (move ∷ rest) ≡ names_by who taken rest)
      → AreNamesHeld next now last moves → AreNamesHeld slots now last ((who, move) ∷ moves)
  past slots next now who move moves word skips has = record {
    holds = has.holds;
    chain = has.chain;
    own = λ other.
        has.own other
        ∙ (ap (λ (n : ℕ). names_by other (cond (eqb n (other + 1)) (Some now) None) (values_of other moves)) word
        ∙ ⊎_elim
        (λ (same : other ≡ who).
        sym (ap (names_by other (in_hand_of slots now other)) (ap (λ w. values_of w ((who, move) ∷ moves)) same ∙ own_first who move moves)
        ∙ (subst (λ w. (taken : Option NamesView) (rest : List Move) → names_by w taken (move ∷ rest) ≡ names_by w taken rest) (sym same)
        skips (in_hand_of slots now other) (values_of who moves)
        ∙ ap (λ w. names_by other (in_hand_of slots now other) (values_of w moves)) (sym same))))
        (λ (apart : other ≢ who). sym (ap (names_by other (in_hand_of slots now other)) (other_first who other move moves apart)))
        (cases_eq other who));
    goes_on = has.goes_on;
  }

  -- they are taken
  taken_now : (slots next : Slotted) (now : NamesView) (who slot : ℕ) (names : NamesView) (moves : List (ℕ × Move))
      → slots.word NAMES_SLOT ≡ 0 → next.word NAMES_SLOT ≡ who + 1 → names ≡ now → AreNamesHeld next now last moves
      → AreNamesHeld slots now last ((who, Took slot (Names names)) ∷ moves)
  taken_now slots next now who slot names moves free held is has = record {
    holds = has.holds;
    chain = has.chain;
    own = λ other.
        has.own other
        ∙ ⊎_elim
        (λ (same : other ≡ who).
        ap (λ taken. names_by other taken (values_of other moves))
        (hand_yes next now other (held ∙ ap (λ w. w + 1) (sym same)) ∙ ap (λ (s : NamesView). Some s) (sym is))
        ∙ (ap (λ w. names_by other (Some names) (values_of w moves)) same
        ∙ sym (ap (names_by other (in_hand_of slots now other))
        (ap (λ w. values_of w ((who, Took slot (Names names)) ∷ moves)) same ∙ own_first who (Took slot (Names names)) moves))))
        (λ (apart : other ≢ who).
        ap (λ taken. names_by other taken (values_of other moves))
        (hand_no next now other (λ same. apart (omega (arith, same, held)))
        ∙ sym (hand_no slots now other (λ same. omega (arith, same, free))))
        ∙ sym (ap (names_by other (in_hand_of slots now other)) (other_first who other (Took slot (Names names)) moves apart)))
        (cases_eq other who);
    goes_on = has.goes_on;
  }

  -- they are given
  given_now : (slots next : Slotted) (now : NamesView) (who slot : ℕ) (given : NamesView) (moves : List (ℕ × Move))
      → slots.word NAMES_SLOT ≡ who + 1 → next.word NAMES_SLOT ≡ 0 → AreLaterNames now given → AreNamesHeld next given last moves
      → AreNamesHeld slots now last ((who, Gave slot (Names given)) ∷ moves)
  given_now slots next now who slot given moves held free later has =
      let hold : Hold NamesView = record { who = who; taken = now; given = given } in
      record {
        holds = hold ∷ has.holds;
        chain = (refl, has.chain);
        own = λ other.
            ⊎_elim
            (λ (same : other ≡ who).
            cond-true (eqb who other) (hold ∷ holds_of other has.holds) (holds_of other has.holds) (eq-eqb who other (sym same))
            ∙ (ap (λ holds. hold ∷ holds)
            (has.own other ∙ ap (λ taken. names_by other taken (values_of other moves)) (hand_no next given other (λ is. omega (arith, is, free))))
            ∙ (ap (λ w. record { who = w; taken = now; given = given } ∷ names_by other None (values_of other moves)) (sym same)
            ∙ (ap (λ w. record { who = other; taken = now; given = given } ∷ names_by other None (values_of w moves)) same
            ∙ sym (ap (λ taken. names_by other taken (values_of other ((who, Gave slot (Names given)) ∷ moves)))
            (hand_yes slots now other (held ∙ ap (λ w. w + 1) (sym same)))
            ∙ ap (names_by other (Some now))
            (ap (λ w. values_of w ((who, Gave slot (Names given)) ∷ moves)) same ∙ own_first who (Gave slot (Names given)) moves))))))
            (λ (apart : other ≢ who).
            cond-false (eqb who other) (hold ∷ holds_of other has.holds) (holds_of other has.holds)
            (ne_eqb who other (λ same. apart (sym same)))
            ∙ (has.own other
            ∙ (ap (λ taken. names_by other taken (values_of other moves))
            (hand_no next given other (λ is. omega (arith, is, free))
            ∙ sym (hand_no slots now other (λ is. apart (omega (arith, is, held)))))
            ∙ sym (ap (names_by other (in_hand_of slots now other)) (other_first who other (Gave slot (Names given)) moves apart)))))
            (cases_eq other who);
        goes_on = (later, has.goes_on);
      }

  -- the lock word of a slot after a move of another one, and of that
  elsewhere : (slots : Slotted) (word slot : ℕ) → NAMES_SLOT ≢ slot
      → cond (eqb NAMES_SLOT slot) word (slots.word NAMES_SLOT) ≡ slots.word NAMES_SLOT
  elsewhere slots word slot apart = cond-false (eqb NAMES_SLOT slot) word (slots.word NAMES_SLOT) (ne_eqb NAMES_SLOT slot apart)

  here : (slots : Slotted) (word slot : ℕ) → slot ≡ NAMES_SLOT → cond (eqb NAMES_SLOT slot) word (slots.word NAMES_SLOT) ≡ word
  here slots word slot is = cond-true (eqb NAMES_SLOT slot) word (slots.word NAMES_SLOT) (eq-eqb NAMES_SLOT slot (sym is))

  same_value : (slots : Slotted) (given : Kept) (slot : ℕ) → NAMES_SLOT ≢ slot
      → cond (eqb NAMES_SLOT slot) given (slots.value NAMES_SLOT) ≡ slots.value NAMES_SLOT
  same_value slots given slot apart = cond-false (eqb NAMES_SLOT slot) given (slots.value NAMES_SLOT) (ne_eqb NAMES_SLOT slot apart)

  pub names_held_on : (moves : List (ℕ × Move)) (slots : Slotted) (now : NamesView) → slots.value NAMES_SLOT ≡ Names now
      → Replays slots moves end → AreNamesHeld slots now last moves
  names_held_on [] slots now its same = record {
    holds = [];
    chain = names_same last now (sym left ∙ (same.value NAMES_SLOT (omega arith) ∙ its));
    own = λ who. refl;
    goes_on = tt;
  }
  names_held_on ((who, Took slot (Heap heap pen)) ∷ moves) slots now its replay =
      let below = (good_taken who slot (Heap heap pen) slots replay.0).0 in
      let next = slots_after who (Took slot (Heap heap pen)) slots in
      past slots next now who (Took slot (Heap heap pen)) moves (elsewhere slots (who + 1) slot (λ same. omega (arith, same, below)))
      (λ taken rest. refl) (names_held_on moves next now its replay.1)
  names_held_on ((who, Took slot (Segments segs)) ∷ moves) slots now its replay =
      let segs_slot = (good_taken who slot (Segments segs) slots replay.0).0 in
      let next = slots_after who (Took slot (Segments segs)) slots in
      past slots next now who (Took slot (Segments segs)) moves (elsewhere slots (who + 1) slot (λ same. omega (arith, same, segs_slot)))
      (λ taken rest. refl) (names_held_on moves next now its replay.1)
  names_held_on ((who, Took slot (Names names)) ∷ moves) slots now its replay =
      let last_slot : slot ≡ NAMES_SLOT = (good_taken who slot (Names names) slots replay.0).0 in
      let next = slots_after who (Took slot (Names names)) slots in
      taken_now slots next now who slot names moves (sym (ap slots.word last_slot) ∙ replay.0.1) (here slots (who + 1) slot last_slot)
      (names_same names now (replay.0.2 ∙ (ap slots.value last_slot ∙ its))) (names_held_on moves next now its replay.1)
  names_held_on ((who, Gave slot (Heap heap pen)) ∷ moves) slots now its replay =
      let below = (good_given who slot (Heap heap pen) slots replay.0).0 in
      let apart : NAMES_SLOT ≢ slot = λ same. omega (arith, same, below) in
      let next = slots_after who (Gave slot (Heap heap pen)) slots in
      past slots next now who (Gave slot (Heap heap pen)) moves (elsewhere slots 0 slot apart) (λ taken rest. refl)
      (names_held_on moves next now (same_value slots (Heap heap pen) slot apart ∙ its) replay.1)
  names_held_on ((who, Gave slot (Segments segs)) ∷ moves) slots now its replay =
      let segs_slot = (good_given who slot (Segments segs) slots replay.0).0 in
      let apart : NAMES_SLOT ≢ slot = λ same. omega (arith, same, segs_slot) in
      let next = slots_after who (Gave slot (Segments segs)) slots in
      past slots next now who (Gave slot (Segments segs)) moves (elsewhere slots 0 slot apart) (λ taken rest. refl)
      (names_held_on moves next now (same_value slots (Segments segs) slot apart ∙ its) replay.1)
  names_held_on ((who, Gave slot (Names given)) ∷ moves) slots now its replay =
      let last_slot : slot ≡ NAMES_SLOT = (good_given who slot (Names given) slots replay.0).0 in
      let next = slots_after who (Gave slot (Names given)) slots in
      given_now slots next now who slot given moves (sym (ap slots.word last_slot) ∙ replay.0.1) (here slots 0 slot last_slot)
      (later_names who slot given now slots replay.0 (ap slots.value last_slot ∙ its))
      (names_held_on moves next given
      (cond-true (eqb NAMES_SLOT slot) (Names given) (slots.value NAMES_SLOT) (eq-eqb NAMES_SLOT slot (sym last_slot))) replay.1)

-- the value of that slot stays names
pub names_stay : (moves : List (ℕ × Move)) (slots end : Slotted) → Replays slots moves end → (now : NamesView)
    → slots.value NAMES_SLOT ≡ Names now → (last : NamesView) × (end.value NAMES_SLOT ≡ Names last)
names_stay [] slots end same now its = (now, same.value NAMES_SLOT (omega arith) ∙ its)
names_stay ((who, Took slot kept) ∷ moves) slots end replay now its =
    names_stay moves (slots_after who (Took slot kept) slots) end replay.1 now its
names_stay ((who, Gave slot (Heap heap pen)) ∷ moves) slots end replay now its =
    let below = (good_given who slot (Heap heap pen) slots replay.0).0 in
    names_stay moves (slots_after who (Gave slot (Heap heap pen)) slots) end replay.1 now
    (cond-false (eqb NAMES_SLOT slot) (Heap heap pen) (slots.value NAMES_SLOT) (ne_eqb NAMES_SLOT slot (λ same. omega (arith, same, below)))
    ∙ its)
names_stay ((who, Gave slot (Segments segs)) ∷ moves) slots end replay now its =
    let segs_slot = (good_given who slot (Segments segs) slots replay.0).0 in
    names_stay moves (slots_after who (Gave slot (Segments segs)) slots) end replay.1 now
    (cond-false (eqb NAMES_SLOT slot) (Segments segs) (slots.value NAMES_SLOT)
    (ne_eqb NAMES_SLOT slot (λ same. omega (arith, same, segs_slot))) ∙ its)
names_stay ((who, Gave slot (Names names)) ∷ moves) slots end replay now its =
    let last_slot = (good_given who slot (Names names) slots replay.0).0 in
    names_stay moves (slots_after who (Gave slot (Names names)) slots) end replay.1 names
    (cond-true (eqb NAMES_SLOT slot) (Names names) (slots.value NAMES_SLOT) (eq-eqb NAMES_SLOT slot (sym last_slot)))

-- where all slots were free at first, nobody has them in hand
pub names_held_from_free : (moves : List (ℕ × Move)) (first : ℕ → Kept) (end : Slotted) (opened last : NamesView)
    → first NAMES_SLOT ≡ Names opened → end.value NAMES_SLOT ≡ Names last → Replays (all_free first) moves end
    → (holds : List (Hold NamesView)) × Chain opened holds last × ((who : ℕ) → holds_of who holds ≡ names_by who None (values_of who moves))
    × AllByRecursion GoesOn holds
names_held_from_free moves first end opened last its left replay =
    let held = names_held_on end last left moves (all_free first) opened its replay in (
      held.holds,
      held.chain,
      λ who.
          held.own who
          ∙ ap (λ (taken : Option NamesView). names_by who taken (values_of who moves))
          (hand_no (all_free first) opened who (λ is. let none : 0 ≡ who + 1 = is in omega (arith, none))),
      held.goes_on,
    )
