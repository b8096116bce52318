-- Of all moves of a board those of the segment value make a chain of good holds.
use Rattle.std.proofs.Common.{◌≡◌, ◌≢◌, ◌∙◌, ℕ, ◌+◌, cond, eqb, eq-eqb, ne_eqb, List, [], ◌∷◌, Option, Some, None, ⊎_elim, refl, sym, ap, subst, arith}
use Rattle.std.specs.List.{All}
use Rattle.std.proofs.lemmas.Bool.{cases_eq, cond-false, cond-true}
use Rattle.std.proofs.lemmas.List.Elements.{All-cons, All-nil}
use Rattle.hp_base.specs.declared.limits.TheConstants.{MAX_HEAPS}
use Rattle.hp_board.specs.MovesKept.{IsGoodThen, IsMove, Replays, Slotted, slots_after}
use Rattle.hp_board.specs.Views.{values_of}
use Rattle.hp_board.specs.declared.view.Move.{Move}
use Rattle.hp_board.specs.declared.view.Move.TheVariants.{Gave, Took}
use Rattle.hp_chair.specs.Steps.{moves_in}
use Rattle.hp_hall.specs.Later.{IsLaterKept, IsLaterSegs}
use Rattle.hp_hall.specs.Mail.{Fetches, Gives, MailStep, Notes, Posts, Takes}
use Rattle.hp_hall.specs.declared.kept.Kept.{Kept}
use Rattle.hp_hall.specs.declared.kept.Kept.TheVariants.{Heap, Names, Segments}
use Rattle.hp_segs.specs.SegsView.{SegsView}
use Rattle.hp_weave.specs.Holds.{Chain, Hold, holds_of}
use Rattle.thm_run.specs.Apart.{holds_from}
use Rattle.thm_run.specs.ByRuns.{GivesGood}
use Rattle.thm_together.specs.CameHome.{IsLed}

-- the holds of the segment value among a participant's moves, before which it had taken the value and not given it back, or not
abbrev pub held_by : ℕ → Option SegsView → List Move → List (Hold SegsView)
held_by who taken [] = []
held_by who taken (Took slot (Heap heap pen) ∷ moves) = held_by who taken moves
held_by who taken (Took slot (Names names) ∷ moves) = held_by who taken moves
held_by who taken (Took slot (Segments segs) ∷ moves) = held_by who (Some segs) moves
held_by who taken (Gave slot (Heap heap pen) ∷ moves) = held_by who taken moves
held_by who taken (Gave slot (Names names) ∷ moves) = held_by who taken moves
held_by who None (Gave slot (Segments segs) ∷ moves) = held_by who None moves
held_by who (Some taken) (Gave slot (Segments given) ∷ moves) =
    record { who = who; taken = taken; given = given } ∷ held_by who None moves

-- they are those among its steps
pub steps_held : (who : ℕ) (taken : Option SegsView) (steps : List MailStep) → held_by who taken (moves_in steps) ≡ holds_from who taken steps
steps_held who taken [] = refl
steps_held who None (Posts to frame action posted ∷ steps) = steps_held who None steps
steps_held who (Some taken) (Posts to frame action posted ∷ steps) = steps_held who (Some taken) steps
steps_held who None (Fetches frame ∷ steps) = steps_held who None steps
steps_held who (Some taken) (Fetches frame ∷ steps) = steps_held who (Some taken) steps
steps_held who None (Notes note ∷ steps) = steps_held who None steps
steps_held who (Some taken) (Notes note ∷ steps) = steps_held who (Some taken) steps
steps_held who None (Takes slot (Heap heap pen) ∷ steps) = steps_held who None steps
steps_held who (Some taken) (Takes slot (Heap heap pen) ∷ steps) = steps_held who (Some taken) steps
steps_held who None (Takes slot (Names names) ∷ steps) = steps_held who None steps
steps_held who (Some taken) (Takes slot (Names names) ∷ steps) = steps_held who (Some taken) steps
steps_held who None (Takes slot (Segments segs) ∷ steps) = steps_held who (Some segs) steps
steps_held who (Some taken) (Takes slot (Segments segs) ∷ steps) = steps_held who (Some segs) steps
steps_held who None (Gives slot (Heap heap pen) ∷ steps) = steps_held who None steps
steps_held who (Some taken) (Gives slot (Heap heap pen) ∷ steps) = steps_held who (Some taken) steps
steps_held who None (Gives slot (Names names) ∷ steps) = steps_held who None steps
steps_held who (Some taken) (Gives slot (Names names) ∷ steps) = steps_held who (Some taken) steps
steps_held who None (Gives slot (Segments segs) ∷ steps) = steps_held who None steps
steps_held who (Some taken) (Gives slot (Segments given) ∷ steps) =
    ap (λ holds. record { who = who; taken = taken; given = given } ∷ holds) (steps_held who None steps)

-- what a participant has taken of the segment value and not given back, where that is this
abbrev pub taken_by : Slotted → SegsView → ℕ → Option SegsView
taken_by slots now who = cond (eqb (slots.word MAX_HEAPS) (who + 1)) (Some now) None

taken_yes : (slots : Slotted) (now : SegsView) (who : ℕ) → slots.word MAX_HEAPS ≡ who + 1 → taken_by slots now who ≡ Some now
taken_yes slots now who is =
    cond-true (eqb (slots.word MAX_HEAPS) (who + 1)) (Some now) None (eq-eqb (slots.word MAX_HEAPS) (who + 1) is)

pub taken_no : (slots : Slotted) (now : SegsView) (who : ℕ) → slots.word MAX_HEAPS ≢ who + 1 → taken_by slots now who ≡ None
taken_no slots now who apart =
    cond-false (eqb (slots.word MAX_HEAPS) (who + 1)) (Some now) None (ne_eqb (slots.word MAX_HEAPS) (who + 1) apart)

pub own_first : {A : Type 0} (who : ℕ) (x : A) (xs : List (ℕ × A)) → values_of who ((who, x) ∷ xs) ≡ x ∷ values_of who xs
own_first who x xs = cond-true (eqb who who) (x ∷ values_of who xs) (values_of who xs) (eq-eqb who who refl)

pub other_first : {A : Type 0} (who w : ℕ) (x : A) (xs : List (ℕ × A)) → w ≢ who → values_of w ((who, x) ∷ xs) ≡ values_of w xs
other_first who w x xs apart =
    cond-false (eqb who w) (x ∷ values_of w xs) (values_of w xs) (ne_eqb who w (λ same. apart (sym same)))

-- what is taken is good then
pub good_taken : (who slot : ℕ) (kept : Kept) (slots : Slotted) → IsMove who (Took slot kept) slots → IsGoodThen slots.word slot kept
good_taken who slot kept slots (within, free, is, good) = good

pub good_given : (who slot : ℕ) (kept : Kept) (slots : Slotted) → IsMove who (Gave slot kept) slots → IsGoodThen slots.word slot kept
good_given who slot kept slots (within, held, good, adds, later) = good

-- and it is the value in place of which it comes, later on
pub later_given : (who slot : ℕ) (kept : Kept) (slots : Slotted) → IsMove who (Gave slot kept) slots → IsLaterKept (slots.value slot) kept
later_given who slot kept slots (within, held, good, adds, later) = later

-- so a segment value that is given is one to which that led by calls
led_given : (who slot : ℕ) (given now : SegsView) (slots : Slotted) → IsMove who (Gave slot (Segments given)) slots
    → slots.value slot ≡ Segments now → IsLed (record { who = who; taken = now; given = given })
led_given who slot given now slots move is =
    let later : IsLaterSegs now given =
    subst (λ (taken : Kept). IsLaterKept taken (Segments given)) is (later_given who slot (Segments given) slots move) in
    (later.calls, later.leads)

-- the holds of the segment value by moves, from these slots on
pub record AreHeld (slots : Slotted) (now last : SegsView) (moves : List (ℕ × Move)) : Type 0 where
  pub holds : List (Hold SegsView)
  pub chain : Chain now holds last
  pub own : (who : ℕ) → holds_of who holds ≡ held_by who (taken_by slots now who) (values_of who moves)
  pub good : All GivesGood holds
  pub led : All IsLed holds

module _ (end : Slotted) (last : SegsView) (left : end.value MAX_HEAPS ≡ Segments last) where
  -- a move of another slot changes nothing of it
  past : (slots next : Slotted) (now : SegsView) (who : ℕ) (move : Move) (moves : List (ℕ × Move))
      → next.word MAX_HEAPS ≡ slots.word MAX_HEAPS
      → ((taken : Option SegsView) (rest : List Move) → held_by who taken (move ∷ rest) ≡ held_by who taken rest)
      → AreHeld next now last moves → AreHeld slots now last ((who, move) ∷ moves)
  past slots next now who move moves word skips has = record {
    holds = has.holds;
    chain = has.chain;
    own = λ other.
        has.own other
        ∙ (ap (λ (n : ℕ). held_by other (cond (eqb n (other + 1)) (Some now) None) (values_of other moves)) word
        ∙ ⊎_elim
        (λ (same : other ≡ who).
        sym (ap (held_by other (taken_by slots now other)) (ap (λ w. values_of w ((who, move) ∷ moves)) same ∙ own_first who move moves)
        ∙ (subst (λ w. (taken : Option SegsView) (rest : List Move) → held_by w taken (move ∷ rest) ≡ held_by w taken rest) (sym same) skips
        (taken_by slots now other) (values_of who moves)
        ∙ ap (λ w. held_by other (taken_by slots now other) (values_of w moves)) (sym same))))
        (λ (apart : other ≢ who). sym (ap (held_by other (taken_by slots now other)) (other_first who other move moves apart)))
        (cases_eq other who));
    good = has.good;
    led = has.led;
  }

  -- it is taken
  taken_now : (slots next : Slotted) (now : SegsView) (who slot : ℕ) (segs : SegsView) (moves : List (ℕ × Move)) → slots.word MAX_HEAPS ≡ 0
      → next.word MAX_HEAPS ≡ who + 1 → segs ≡ now → AreHeld next now last moves
      → AreHeld slots now last ((who, Took slot (Segments segs)) ∷ moves)
  taken_now slots next now who slot segs moves free held is has = record {
    holds = has.holds;
    chain = has.chain;
    own = λ other.
        has.own other
        ∙ ⊎_elim
        (λ (same : other ≡ who).
        ap (λ taken. held_by other taken (values_of other moves))
        (taken_yes next now other (held ∙ ap (λ w. w + 1) (sym same)) ∙ ap (λ (s : SegsView). Some s) (sym is))
        ∙ (ap (λ w. held_by other (Some segs) (values_of w moves)) same
        ∙ sym (ap (held_by other (taken_by slots now other))
        (ap (λ w. values_of w ((who, Took slot (Segments segs)) ∷ moves)) same ∙ own_first who (Took slot (Segments segs)) moves))))
        (λ (apart : other ≢ who).
        ap (λ taken. held_by other taken (values_of other moves))
        (taken_no next now other (λ same. apart (omega (arith, same, held)))
        ∙ sym (taken_no slots now other (λ same. omega (arith, same, free))))
        ∙ sym (ap (held_by other (taken_by slots now other)) (other_first who other (Took slot (Segments segs)) moves apart)))
        (cases_eq other who);
    good = has.good;
    led = has.led;
  }

  -- it is given
  given_now : (slots next : Slotted) (now : SegsView) (who slot : ℕ) (given : SegsView) (moves : List (ℕ × Move))
      → slots.word MAX_HEAPS ≡ who + 1 → next.word MAX_HEAPS ≡ 0 → GivesGood (record { who = who; taken = now; given = given })
      → IsLed (record { who = who; taken = now; given = given }) → AreHeld next given last moves → AreHeld slots now last ((who, Gave slot (Segments given)) ∷ moves)
  given_now slots next now who slot given moves held free good led has =
      let hold : Hold SegsView = record { who = who; taken = now; given = given } in
      record {
        holds = hold ∷ has.holds;
        chain = (refl, has.chain);
        own = λ other.
            ⊎_elim
            (λ (same : other ≡ who).
            cond-true (eqb who other) (hold ∷ holds_of other has.holds) (holds_of other has.holds) (eq-eqb who other (sym same))
            ∙ (ap (λ holds. hold ∷ holds)
            (has.own other ∙ ap (λ taken. held_by other taken (values_of other moves)) (taken_no next given other (λ is. omega (arith, is, free))))
            ∙ (ap (λ w. record { who = w; taken = now; given = given } ∷ held_by other None (values_of other moves)) (sym same)
            ∙ (ap (λ w. record { who = other; taken = now; given = given } ∷ held_by other None (values_of w moves)) same
            ∙ sym (ap (λ taken. held_by other taken (values_of other ((who, Gave slot (Segments given)) ∷ moves)))
            (taken_yes slots now other (held ∙ ap (λ w. w + 1) (sym same)))
            ∙ ap (held_by other (Some now))
            (ap (λ w. values_of w ((who, Gave slot (Segments given)) ∷ moves)) same ∙ own_first who (Gave slot (Segments given)) moves))))))
            (λ (apart : other ≢ who).
            cond-false (eqb who other) (hold ∷ holds_of other has.holds) (holds_of other has.holds)
            (ne_eqb who other (λ same. apart (sym same)))
            ∙ (has.own other
            ∙ (ap (λ taken. held_by other taken (values_of other moves))
            (taken_no next given other (λ is. omega (arith, is, free))
            ∙ sym (taken_no slots now other (λ is. apart (omega (arith, is, held)))))
            ∙ sym (ap (held_by other (taken_by slots now other)) (other_first who other (Gave slot (Segments given)) moves apart)))))
            (cases_eq other who);
        good = All-cons GivesGood hold has.holds good has.good;
        led = All-cons IsLed hold has.holds led has.led;
      }

  -- the lock word of a slot after a move of another one, and of that
  elsewhere : (slots : Slotted) (word slot : ℕ) → MAX_HEAPS ≢ slot → cond (eqb MAX_HEAPS slot) word (slots.word MAX_HEAPS) ≡ slots.word MAX_HEAPS
  elsewhere slots word slot apart = cond-false (eqb MAX_HEAPS slot) word (slots.word MAX_HEAPS) (ne_eqb MAX_HEAPS slot apart)

  here : (slots : Slotted) (word slot : ℕ) → slot ≡ MAX_HEAPS → cond (eqb MAX_HEAPS slot) word (slots.word MAX_HEAPS) ≡ word
  here slots word slot is = cond-true (eqb MAX_HEAPS slot) word (slots.word MAX_HEAPS) (eq-eqb MAX_HEAPS slot (sym is))

  same_value : (slots : Slotted) (given : Kept) (slot : ℕ) → MAX_HEAPS ≢ slot
      → cond (eqb MAX_HEAPS slot) given (slots.value MAX_HEAPS) ≡ slots.value MAX_HEAPS
  same_value slots given slot apart = cond-false (eqb MAX_HEAPS slot) given (slots.value MAX_HEAPS) (ne_eqb MAX_HEAPS slot apart)

  segments_same : (one other : SegsView) → Segments one ≡ Segments other → one ≡ other
  segments_same one other is = cc

  pub held_on : (moves : List (ℕ × Move)) (slots : Slotted) (now : SegsView) → slots.value MAX_HEAPS ≡ Segments now → Replays slots moves end
      → AreHeld slots now last moves
  held_on [] slots now its same = record {
    holds = [];
    chain = segments_same last now (sym left ∙ (same.value MAX_HEAPS (omega arith) ∙ its));
    own = λ who. refl;
    good = All-nil GivesGood;
    led = All-nil IsLed;
  }
  held_on ((who, Took slot (Heap heap pen)) ∷ moves) slots now its replay =
      let below = (good_taken who slot (Heap heap pen) slots replay.0).0 in
      let next = slots_after who (Took slot (Heap heap pen)) slots in
      past slots next now who (Took slot (Heap heap pen)) moves (elsewhere slots (who + 1) slot (λ same. omega (arith, same, below)))
      (λ taken rest. refl) (held_on moves next now its replay.1)
  held_on ((who, Took slot (Names names)) ∷ moves) slots now its replay =
      let names_slot = (good_taken who slot (Names names) slots replay.0).0 in
      let next = slots_after who (Took slot (Names names)) slots in
      past slots next now who (Took slot (Names names)) moves (elsewhere slots (who + 1) slot (λ same. omega (arith, same, names_slot)))
      (λ taken rest. refl) (held_on moves next now its replay.1)
  held_on ((who, Took slot (Segments segs)) ∷ moves) slots now its replay =
      let last_slot : slot ≡ MAX_HEAPS = (good_taken who slot (Segments segs) slots replay.0).0 in
      let next = slots_after who (Took slot (Segments segs)) slots in
      taken_now slots next now who slot segs moves (sym (ap slots.word last_slot) ∙ replay.0.1) (here slots (who + 1) slot last_slot)
      (segments_same segs now (replay.0.2 ∙ (ap slots.value last_slot ∙ its))) (held_on moves next now its replay.1)
  held_on ((who, Gave slot (Heap heap pen)) ∷ moves) slots now its replay =
      let below = (good_given who slot (Heap heap pen) slots replay.0).0 in
      let apart : MAX_HEAPS ≢ slot = λ same. omega (arith, same, below) in
      let next = slots_after who (Gave slot (Heap heap pen)) slots in
      past slots next now who (Gave slot (Heap heap pen)) moves (elsewhere slots 0 slot apart) (λ taken rest. refl)
      (held_on moves next now (same_value slots (Heap heap pen) slot apart ∙ its) replay.1)
  held_on ((who, Gave slot (Names names)) ∷ moves) slots now its replay =
      let names_slot = (good_given who slot (Names names) slots replay.0).0 in
      let apart : MAX_HEAPS ≢ slot = λ same. omega (arith, same, names_slot) in
      let next = slots_after who (Gave slot (Names names)) slots in
      past slots next now who (Gave slot (Names names)) moves (elsewhere slots 0 slot apart) (λ taken rest. refl)
      (held_on moves next now (same_value slots (Names names) slot apart ∙ its) replay.1)
  held_on ((who, Gave slot (Segments given)) ∷ moves) slots now its replay =
      let last_slot : slot ≡ MAX_HEAPS = (good_given who slot (Segments given) slots replay.0).0 in
      let stands = (good_given who slot (Segments given) slots replay.0).1 in
      let next = slots_after who (Gave slot (Segments given)) slots in
      given_now slots next now who slot given moves (sym (ap slots.word last_slot) ∙ replay.0.1) (here slots 0 slot last_slot)
      (record { sound = stands.sound; armed = stands.armed })
      (led_given who slot given now slots replay.0 (ap slots.value last_slot ∙ its))
      (held_on moves next given
      (cond-true (eqb MAX_HEAPS slot) (Segments given) (slots.value MAX_HEAPS) (eq-eqb MAX_HEAPS slot (sym last_slot))) replay.1)

-- the value of that slot stays a segment value
pub segs_stay : (moves : List (ℕ × Move)) (slots end : Slotted) → Replays slots moves end → (now : SegsView)
    → slots.value MAX_HEAPS ≡ Segments now → (last : SegsView) × (end.value MAX_HEAPS ≡ Segments last)
segs_stay [] slots end same now its = (now, same.value MAX_HEAPS (omega arith) ∙ its)
segs_stay ((who, Took slot kept) ∷ moves) slots end replay now its =
    segs_stay moves (slots_after who (Took slot kept) slots) end replay.1 now its
segs_stay ((who, Gave slot (Heap heap pen)) ∷ moves) slots end replay now its =
    let below = (good_given who slot (Heap heap pen) slots replay.0).0 in
    segs_stay moves (slots_after who (Gave slot (Heap heap pen)) slots) end replay.1 now
    (cond-false (eqb MAX_HEAPS slot) (Heap heap pen) (slots.value MAX_HEAPS) (ne_eqb MAX_HEAPS slot (λ same. omega (arith, same, below))) ∙ its)
segs_stay ((who, Gave slot (Names names)) ∷ moves) slots end replay now its =
    let last = (good_given who slot (Names names) slots replay.0).0 in
    segs_stay moves (slots_after who (Gave slot (Names names)) slots) end replay.1 now
    (cond-false (eqb MAX_HEAPS slot) (Names names) (slots.value MAX_HEAPS) (ne_eqb MAX_HEAPS slot (λ same. omega (arith, same, last))) ∙ its)
segs_stay ((who, Gave slot (Segments segs)) ∷ moves) slots end replay now its =
    let last = (good_given who slot (Segments segs) slots replay.0).0 in
    segs_stay moves (slots_after who (Gave slot (Segments segs)) slots) end replay.1 segs
    (cond-true (eqb MAX_HEAPS slot) (Segments segs) (slots.value MAX_HEAPS) (eq-eqb MAX_HEAPS slot (sym last)))
