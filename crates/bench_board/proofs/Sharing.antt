-- What the sessions rest on: the heaps that a board opens with, its seats, and those that come back.
use Rattle.std.proofs.Common.{◌≡◌, ℕ, zero, suc, ◌+◌, ◌<◌, ◌⊎◌, inl, inr, List, [], ◌∷◌, ◌++◌, map, length, get_or, Option, Some, refl, sym, ap, subst, ◌∙◌, ⊎_elim, arith, lit<}
use Rattle.std.specs.List.{slice_get, range_with_len}
use Rattle.std.proofs.lemmas.List.{length_push}
use Rattle.std.proofs.lemmas.List.Elements.{All-nil}
use Rattle.hp_heap.specs.History.{HeapView}
use Rattle.hp_heap.specs.declared.entry.Entry.{Entry}
use Rattle.hp_board.specs.declared.words.TheConstants.{SLOTS}
use Rattle.hp_zone.specs.Directory as names
use Rattle.hp_board.specs.BoardView.{BoardView}
use Rattle.hp_board.specs.Closing.{IsFreeSeat, IsAmong}
use Rattle.hp_board.specs.SeatView.{SeatView, new_seat, new_seats}
use Rattle.hp_board.specs.Served.{AreOpeningHeaps, HasNamesOf, IsNamedIn, serves_of}
use Rattle.bench_board.specs.Rounds.{IsBack, IsWorking}

get_push : {A : Type 0} (xs : List A) (x y : A) (k : ℕ) → slice_get (xs ++ x ∷ []) k ≡ Some y → (slice_get xs k ≡ Some y) ⊎ ((k ≡ length xs) × (x ≡ y))
get_push [] x y zero is = inr (refl, cc)
get_push [] x y (suc k) is = absurd (cc)
get_push (z ∷ zs) x y zero is = inl is
get_push (z ∷ zs) x y (suc k) is = ⊎_elim (λ e. inl e) (λ e. inr (ap suc e.0, e.1)) (get_push zs x y k is)

-- the heaps of a board, as far as they have been made
pub record AreOpened (heaps : List HeapView) (count : ℕ) : Type 0 where
  pub long : length heaps ≡ count
  pub index : (slot : ℕ) (heap : HeapView) → slice_get heaps slot ≡ Some heap → heap.plain.index ≡ slot
  pub empty : (slot : ℕ) (heap : HeapView) → slice_get heaps slot ≡ Some heap → heap.history ≡ []
  pub named : HasNamesOf (names.opening (0 ∷ [])) heaps
  pub first : 0 < count → slice_get (map serves_of heaps) 0 ≡ Some (Some 0)

pub opened_none : AreOpened [] 0
opened_none = record { long = refl; index = λ slot heap is. absurd (cc); empty = λ slot heap is. absurd (cc); named = λ slot heap is. absurd (cc); first = λ some. absurd (omega arith) }

first_push : (heaps : List HeapView) (heap : HeapView) → (0 < length heaps → slice_get (map serves_of heaps) 0 ≡ Some (Some 0)) → (length heaps ≡ 0 → heap.plain.serves ≡ Some 0)
    → slice_get (map serves_of (heaps ++ heap ∷ [])) 0 ≡ Some (Some 0)
first_push [] heap before here = ap (λ (s : Option ℕ). Some s) (here refl)
first_push (h ∷ heaps) heap before here = before (omega arith)

pub opened_push : (heaps : List HeapView) (count : ℕ) (heap : HeapView) → AreOpened heaps count → heap.plain.index ≡ count → heap.history ≡ [] → IsNamedIn (names.opening (0 ∷ [])) heap.plain.index heap → (count ≡ 0 → heap.plain.serves ≡ Some 0)
    → AreOpened (heaps ++ heap ∷ []) (count + 1)
opened_push heaps count heap before index empty named serves = record {
  long = omega (arith, length_push heaps heap, before.long);
  index = λ slot other is. elim (get_push heaps heap other slot is) [
    | inl old ↦ before.index slot other old
    | inr new ↦ ap (λ (h : HeapView). h.plain.index) (sym new.1) ∙ index ∙ sym before.long ∙ sym new.0
  ];
  empty = λ slot other is. elim (get_push heaps heap other slot is) [
    | inl old ↦ before.empty slot other old
    | inr new ↦ ap (λ (h : HeapView). h.history) (sym new.1) ∙ empty
  ];
  named = λ slot other is. elim (get_push heaps heap other slot is) [
    | inl old ↦ before.named slot other old
    | inr new ↦ subst (IsNamedIn (names.opening (0 ∷ [])) slot) new.1 (subst (λ (k : ℕ). IsNamedIn (names.opening (0 ∷ [])) k heap) (index ∙ sym before.long ∙ sym new.0) named)
  ];
  first = λ _. first_push heaps heap (λ some. before.first (let long = before.long in omega arith)) (λ none. serves (sym before.long ∙ none));
}

pub opened_all : (heaps : List HeapView) → AreOpened heaps 32 → AreOpeningHeaps heaps
opened_all heaps are = record { count = are.long; index = are.index; empty = are.empty }

-- three seats are those of the participants 0, 1 and 2
pub record AreThree (board : BoardView) (first second third : SeatView) : Type 0 where
  pub first_is : first ≡ new_seat board 0
  pub second_is : second ≡ new_seat board 1
  pub third_is : third ≡ new_seat board 2

pub three_seats : (board : BoardView) (first second third : SeatView) → board.opening.participants ≡ 3 → new_seats board ≡ first ∷ second ∷ third ∷ [] → AreThree board first second third
three_seats board first second third three is =
    let all : map (new_seat board) (range_with_len 0 3) ≡ first ∷ second ∷ third ∷ [] = ap (λ (n : ℕ). map (new_seat board) (range_with_len 0 n)) (sym three) ∙ is in
    record {
      first_is = sym (ap (λ (l : List SeatView). get_or l 0 first) all);
      second_is = sym (ap (λ (l : List SeatView). get_or l 1 second) all);
      third_is = sym (ap (λ (l : List SeatView). get_or l 2 third) all);
    }

-- a new seat is ready for the first round
pub new_working : (board : BoardView) (who : ℕ) (seat : SeatView) → seat ≡ new_seat board who → IsWorking board.id seat.mine.who 0 seat
new_working board who seat is =
    subst (λ (s : SeatView). IsWorking board.id s.mine.who 0 s) (sym is)
    (record { board_is = refl; who_is = refl; free = refl; unarmed = refl; untold = refl; placed = All-nil (λ (pair : ℕ × Entry). pair.0 < SLOTS); count = refl })

-- and one that has come back is its participant's
pub seat_back : (board : BoardView) (who : ℕ) (old new : SeatView) → old ≡ new_seat board who → IsBack board.id old.mine.who new → IsBack board.id who new
seat_back board who old new is back = record {
  board_is = back.board_is;
  who_is = back.who_is ∙ ap (λ (s : SeatView). s.mine.who) is;
  holds = back.holds;
}

-- the seats that come back are everybody's, and hold nothing
pub all_free : (board : BoardView) (first second third : SeatView) → IsBack board.id 0 first → IsBack board.id 1 second → IsBack board.id 2 third
    → (k : ℕ) (d : SeatView) → k < length (first ∷ second ∷ third ∷ []) → IsFreeSeat board (get_or (first ∷ second ∷ third ∷ []) k d)
all_free board first second third a b c zero d inside = record { board_is = a.board_is; holds = a.holds }
all_free board first second third a b c (suc zero) d inside = record { board_is = b.board_is; holds = b.holds }
all_free board first second third a b c (suc (suc zero)) d inside = record { board_is = c.board_is; holds = c.holds }
all_free board first second third a b c (suc (suc (suc k))) d inside = absurd (omega arith)

pub everyone : (board : BoardView) (first second third : SeatView) → board.opening.participants ≡ 3 → IsBack board.id 0 first → IsBack board.id 1 second → IsBack board.id 2 third
    → (who : ℕ) → who < board.opening.participants → IsAmong (first ∷ second ∷ third ∷ []) who
everyone board first second third three a b c zero may = record { seat = first; there = (0, lit< tt, refl); who_is = a.who_is }
everyone board first second third three a b c (suc zero) may = record { seat = second; there = (1, lit< tt, refl); who_is = b.who_is }
everyone board first second third three a b c (suc (suc zero)) may = record { seat = third; there = (2, lit< tt, refl); who_is = c.who_is }
everyone board first second third three a b c (suc (suc (suc k))) may = absurd (omega arith)
