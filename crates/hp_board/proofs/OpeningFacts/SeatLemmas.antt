-- A seat is kept whole when it is new, when its participant has taken a slot, found one held, or given one back.
use Rattle.std.proofs.Common.{◌≡◌, ◌≢◌, ℕ, zero, suc, ◌+◌, ◌-◌, ◌<◌, ◌≤◌, Bool, true, false, cond, eqb, eq-eqb, ne_eqb, eqb-true, ◌||◌, inl, inr, List, [], ◌∷◌, ◌++◌, map, length, take, drop, get_or, Option, Some, None, refl, sym, ap, subst, ◌∙◌, arith, vec_capacity}
use Rattle.std.specs.List.{AllByRecursion, IsDistinct, Contains, list_any}
use Rattle.std.specs.Option.{is_some}
use Rattle.std.proofs.lemmas.Bool.{cond-true, cond-false, or_cases}
use Rattle.std.proofs.lemmas.Map.Keys.{IsDistinct-cons}
use Rattle.std.proofs.lemmas.Map.Steps.{length-le_from_distinct_below}
use Rattle.std.proofs.lemmas.Map.Made.{IsDistinct-keys_filter}
use Rattle.atomic_table.specs.Table.{rest}
use Rattle.hp_hall.specs.declared.kept.Kept.{Kept}
use Rattle.hp_board.specs.declared.seat.Seat.TheInside.{Inside}
use Rattle.hp_base.specs.declared.limits.TheConstants.{MAX_PARTICIPANTS}
use Rattle.hp_board.specs.declared.words.TheConstants.{SLOTS}
use Rattle.hp_board.specs.declared.view.View.{View}
use Rattle.hp_board.specs.SeatInside.{emptied, numbers_of, IsSeat}
use Rattle.hp_board.specs.Turns.{turned_by}
use Rattle.hp_board.specs.Handed.{HasTakenOut}
use Rattle.hp_board.specs.Views.{value_of, without, after_take, after_give, after_look}
use Rattle.hp_board.specs.Parts.{one_part, part_of}
use Rattle.hp_board.proofs.Pairs.{numbers-without, All-without}
use Rattle.hp_board.proofs.Turning.{front_after_turns, order_after_turns}

module _ {A : Type 0} where
  apart_by : (number : ℕ) (pair : ℕ × A) (later : Option A) (b : Bool) → eqb pair.0 number ≡ b → cond b (Some pair.1) later ≡ None → (eqb number pair.0 ≡ false) × (later ≡ None)
  apart_by number pair later true is none = absurd (cc)
  apart_by number pair later false is none = (ne_eqb number pair.0 (λ same. Rattle.std.proofs.lemmas.Bool.eqb-false pair.0 number is (sym same)), none)

  -- a number without a value is not among the numbers
  pub apart_from_all : (number : ℕ) (pairs : List (ℕ × A)) → value_of number pairs ≡ None → AllByRecursion (λ other. eqb number other ≡ false) (numbers_of pairs)
  apart_from_all number [] none = tt
  apart_from_all number (pair ∷ pairs) none =
      let parts = apart_by number pair (value_of number pairs) (eqb pair.0 number) refl none in
      (parts.0, apart_from_all number pairs parts.1)

  there_by : (number : ℕ) (pair : ℕ × A) (pairs : List (ℕ × A)) (value : A) (b : Bool) → eqb pair.0 number ≡ b → cond b (Some pair.1) (value_of number pairs) ≡ Some value
      → (value_of number pairs ≡ Some value → Contains (numbers_of pairs) number) → Contains (pair.0 ∷ numbers_of pairs) number
  there_by number pair pairs value true is has later = (0, omega arith, eqb-true pair.0 number is)
  there_by number pair pairs value false is has later = let there = later has in let inside = there.1 in (suc there.0, omega arith, there.2)

  -- and one with a value is
  pub Contains-numbers : (number : ℕ) (pairs : List (ℕ × A)) (value : A) → value_of number pairs ≡ Some value → Contains (numbers_of pairs) number
  Contains-numbers number [] value has = absurd (cc)
  Contains-numbers number (pair ∷ pairs) value has = there_by number pair pairs value (eqb pair.0 number) refl has (Contains-numbers number pairs value)

  some_by : (b : Bool) (value : A) (later : Option A) → is_some (cond b (Some value) later) ≡ (b || is_some later)
  some_by true value later = refl
  some_by false value later = refl

  pub list_any-numbers : (number : ℕ) (pairs : List (ℕ × A)) → list_any (λ other. eqb other number) (numbers_of pairs) ≡ is_some (value_of number pairs)
  list_any-numbers number [] = refl
  list_any-numbers number (pair ∷ pairs) =
      ap (λ b. eqb pair.0 number || b) (list_any-numbers number pairs) ∙ sym (some_by (eqb pair.0 number) pair.1 (value_of number pairs))

below_any : (xs : List ℕ) (limit q : ℕ) → AllByRecursion (λ x. x < limit) xs → list_any (eqb q) xs ≡ true → q < limit
below_any [] limit q all has = absurd (Rattle.std.proofs.lemmas.Bool.false≢true has)
below_any (x ∷ xs) limit q all has = elim (or_cases (eqb q x) (list_any (eqb q) xs) has) [
  | inl here ↦ let first = all.0 in let same = eqb-true q x here in omega arith
  | inr later ↦ below_any xs limit q all.1 later
]

-- a new seat
pub seat_new : (a : Inside) → a.token.me.0 ≡ one_part (part_of a.token.me.0) → a.who ≡ (part_of a.token.me.0).who → a.who < (part_of a.token.me.0).opening.participants
    → (part_of a.token.me.0).opening.participants ≤ MAX_PARTICIPANTS → (part_of a.token.me.0).held ≡ [] → a.token.me.1 ≡ []
    → a.order.items ≡ [] → SLOTS ≤ vec_capacity a.order → IsSeat a
unfolding IsDistinct
seat_new a one who declared few free out order room = record {
  one = one;
  who = who;
  declared = subst (λ (n : ℕ). n < (part_of a.token.me.0).opening.participants) who declared;
  few = few;
  out = out ∙ ap (map emptied) (sym order);
  held = ap numbers_of free ∙ sym order;
  distinct = subst (IsDistinct eqb) (sym order) tt;
  slots = subst (AllByRecursion (λ slot. slot < SLOTS)) (sym order) tt;
  room = room;
}

-- there is room for one slot more than the seat holds, where that is another one
pub room_for : (a : Inside) (slot : ℕ) → IsSeat a → slot < SLOTS → value_of slot (part_of a.token.me.0).held ≡ None → length a.order.items < SLOTS
room_for a slot seat inside free =
    let apart = subst (AllByRecursion (λ other. eqb slot other ≡ false)) seat.held (apart_from_all slot (part_of a.token.me.0).held free) in
    length-le_from_distinct_below (slot ∷ a.order.items) SLOTS (IsDistinct-cons eqb slot a.order.items apart seat.distinct)
    (λ q has. below_any (slot ∷ a.order.items) SLOTS q (inside, seat.slots) has)

-- what a view of one part has
one_is : (view new : View) → view ≡ one_part (part_of new) → view ≡ one_part (part_of view)
one_is view new is = is ∙ ap (λ (v : View). one_part (part_of v)) (sym is)

module _ (a b : Inside) (seat : IsSeat a) (who : b.who ≡ a.who) where
  -- its participant has taken a slot
  pub seat_taken : (slot : ℕ) (kept : Kept) → slot < SLOTS → value_of slot (part_of a.token.me.0).held ≡ None
      → HasTakenOut slot kept (part_of a.token.me.0) (part_of b.token.me.0) → b.token.me ≡ (one_part (part_of b.token.me.0), (slot, None) ∷ a.token.me.1)
      → b.order.items ≡ slot ∷ a.order.items → vec_capacity a.order ≤ vec_capacity b.order → IsSeat b
  seat_taken slot kept inside free taken me order room =
      let view : b.token.me.0 ≡ one_part (after_take slot kept taken.learned (part_of a.token.me.0)) = ap (λ m. m.0) me ∙ ap one_part taken.view in
      let apart = subst (AllByRecursion (λ other. eqb slot other ≡ false)) seat.held (apart_from_all slot (part_of a.token.me.0).held free) in
      record {
        one = one_is b.token.me.0 (one_part (after_take slot kept taken.learned (part_of a.token.me.0))) view;
        who = who ∙ seat.who ∙ ap (λ (v : View). (part_of v).who) (sym view);
        declared = subst (λ (v : View). (part_of v).who < (part_of v).opening.participants) (sym view) seat.declared;
        few = subst (λ (v : View). (part_of v).opening.participants ≤ MAX_PARTICIPANTS) (sym view) seat.few;
        out = ap (λ m. m.1) me ∙ ap (λ l. (slot, None) ∷ l) seat.out ∙ ap (map emptied) (sym order);
        held = ap (λ (v : View). numbers_of (part_of v).held) view ∙ ap (λ (l : List ℕ). slot ∷ l) seat.held ∙ sym order;
        distinct = subst (IsDistinct eqb) (sym order) (IsDistinct-cons eqb slot a.order.items apart seat.distinct);
        slots = subst (AllByRecursion (λ s. s < SLOTS)) (sym order) (inside, seat.slots);
        room = let had = seat.room in omega arith;
      }

  -- its participant has found a word held
  pub seat_looked : (slot word : ℕ) → b.token.me ≡ (one_part (after_look slot word (part_of a.token.me.0)), a.token.me.1) → b.order ≡ a.order → IsSeat b
  seat_looked slot word me order =
      let view : b.token.me.0 ≡ one_part (after_look slot word (part_of a.token.me.0)) = ap (λ m. m.0) me in
      let items : b.order.items ≡ a.order.items = ap (λ o. o.items) order in
      record {
        one = one_is b.token.me.0 (one_part (after_look slot word (part_of a.token.me.0))) view;
        who = who ∙ seat.who ∙ ap (λ (v : View). (part_of v).who) (sym view);
        declared = subst (λ (v : View). (part_of v).who < (part_of v).opening.participants) (sym view) seat.declared;
        few = subst (λ (v : View). (part_of v).opening.participants ≤ MAX_PARTICIPANTS) (sym view) seat.few;
        out = ap (λ m. m.1) me ∙ seat.out ∙ ap (map emptied) (sym items);
        held = ap (λ (v : View). numbers_of (part_of v).held) view ∙ seat.held ∙ sym items;
        distinct = subst (IsDistinct eqb) (sym items) seat.distinct;
        slots = subst (AllByRecursion (λ s. s < SLOTS)) (sym items) seat.slots;
        room = let had = seat.room in let same = ap vec_capacity order in omega arith;
      }

  -- its participant has given a slot
  pub seat_given : (slot place times : ℕ) (given : Kept) → place < length a.order.items → get_or a.order.items place 0 ≡ slot → times + place + 1 ≡ length a.order.items
      → b.token.me ≡ (one_part (after_give slot given (part_of a.token.me.0)), turned_by times (rest (turned_by place a.token.me.1)))
      → b.order.items ≡ take place a.order.items ++ drop (suc place) a.order.items → vec_capacity b.order ≡ vec_capacity a.order → IsSeat b
  seat_given slot place times given inside here all me order room =
      let view : b.token.me.0 ≡ one_part (after_give slot given (part_of a.token.me.0)) = ap (λ m. m.0) me in
      let held = (part_of a.token.me.0).held in
      let in_held : place < length (numbers_of held) = let same = ap length seat.held in omega arith in
      let at_held : get_or (numbers_of held) place 0 ≡ slot = ap (λ (l : List ℕ). get_or l place 0) seat.held ∙ here in
      let distinct : IsDistinct eqb (numbers_of held) = subst (IsDistinct eqb) (sym seat.held) seat.distinct in
      let numbers : numbers_of (without slot held) ≡ b.order.items =
      numbers-without slot held place distinct in_held at_held ∙ ap (λ (l : List ℕ). take place l ++ drop (suc place) l) seat.held ∙ sym order in
      record {
        one = one_is b.token.me.0 (one_part (after_give slot given (part_of a.token.me.0))) view;
        who = who ∙ seat.who ∙ ap (λ (v : View). (part_of v).who) (sym view);
        declared = subst (λ (v : View). (part_of v).who < (part_of v).opening.participants) (sym view) seat.declared;
        few = subst (λ (v : View). (part_of v).opening.participants ≤ MAX_PARTICIPANTS) (sym view) seat.few;
        out =
            ap (λ m. m.1) me
            ∙ ap (λ l. turned_by times (rest (turned_by place l))) seat.out
            ∙ ap (λ l. turned_by times (rest l)) (front_after_turns a.order.items place slot inside here)
            ∙ order_after_turns a.order.items place times inside all
            ∙ ap (map emptied) (sym order);
        held = ap (λ (v : View). numbers_of (part_of v).held) view ∙ numbers;
        distinct = subst (IsDistinct eqb) numbers (IsDistinct-keys_filter eqb (λ (pair : ℕ × Kept). Rattle.std.proofs.Common.not (eqb pair.0 slot)) held distinct);
        slots = subst (AllByRecursion (λ s. s < SLOTS)) numbers (All-without (λ s. s < SLOTS) slot held (subst (AllByRecursion (λ s. s < SLOTS)) (sym seat.held) seat.slots));
        room = let had = seat.room in omega arith;
      }

-- the slot that is to be given is in front once the token has been turned
pub given_front : (a : Inside) (slot place : ℕ) → IsSeat a → place < length a.order.items → get_or a.order.items place 0 ≡ slot
    → turned_by place a.token.me.1 ≡ (slot, None) ∷ rest (turned_by place a.token.me.1)
given_front a slot place seat inside here =
    let front = ap (turned_by place) seat.out ∙ front_after_turns a.order.items place slot inside here in
    front ∙ ap (λ l. (slot, None) ∷ rest l) (sym front)

-- a slot that the participant holds is among those that are out with the seat
pub held_place : (a : Inside) (slot : ℕ) (taken : Kept) → IsSeat a → value_of slot (part_of a.token.me.0).held ≡ Some taken → Contains a.order.items slot
held_place a slot taken seat holds =
    subst (λ (l : List ℕ). Contains l slot) seat.held (Contains-numbers slot (part_of a.token.me.0).held taken holds)
