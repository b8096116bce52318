-- What the board of two opens with, and their seats.
use Rattle.std.proofs.Common.{◌≡◌, ◌∙◌, ◌⊎◌, inl, inr, ⊎_elim, ℕ, zero, suc, ◌+◌, ◌<◌, true, false, Option, Some, None}
use Rattle.std.proofs.Common.{List, [], ◌∷◌, ◌++◌, map, length, get_or, replicate, refl, sym, ap, subst, arith, lit<}
use Rattle.std.specs.Prelude.{IfOk, Result, Ok, Err}
use Rattle.std.specs.List.{slice_get, range_with_len}
use Rattle.std.proofs.lemmas.Bool.{false≢true}
use Rattle.std.proofs.lemmas.List.{length_push}
use Rattle.hp_base.specs.declared.pool_line.PoolLine.{PoolLine}
use Rattle.hp_heap.specs.History.{HeapView}
use Rattle.hp_segs.specs.Opening.{opening}
use Rattle.hp_segs.specs.SegsView.{SegsView, is_member}
use Rattle.hp_segs.specs.declared.ask.Ask.{Ask}
use Rattle.hp_zone.specs.Directory as names
use Rattle.hp_board.specs.BoardView.{BoardView}
use Rattle.hp_board.specs.SeatView.{SeatView, new_seat, new_seats}
use Rattle.hp_board.specs.Served.{AreOpeningHeaps, HasNamesOf, IsNamedIn, AreOpeningSegs}
use Rattle.test_board.specs.Seating.{IsForTwo}
use Rattle.test_board.proofs.Opened.{all_out, nobody_armed}

-- THE SEGMENT VALUE

first_two : (pools : List PoolLine) (who : ℕ) → is_member (opening pools 2 0).roster who ≡ true → who < 2
first_two pools zero is = lit< tt
first_two pools (suc zero) is = lit< tt
first_two pools (suc (suc who)) is = absurd (false≢true (sym (all_out 14 who) ∙ is))

each_in : (pools : List PoolLine) (who : ℕ) → who < 2 → is_member (opening pools 2 0).roster who ≡ true
each_in pools zero low = refl
each_in pools (suc zero) low = refl
each_in pools (suc (suc who)) low = absurd (omega (arith, low))

pub opens_ok : {E : Type 0} (pools : List PoolLine) (made : Result SegsView E) → IfOk made (λ segs. segs ≡ opening pools 2 0)
    → IfOk made (AreOpeningSegs 2)
opens_ok pools (Ok segs) is =
    subst (AreOpeningSegs 2) (sym is) (record { log = refl; asks = refl; ranges = refl; armed = nobody_armed 16; roster = first_two pools })
opens_ok pools (Err e) is = tt

pub members_ok : {E : Type 0} (pools : List PoolLine) (made : Result SegsView E) → IfOk made (λ segs. segs ≡ opening pools 2 0)
    → IfOk made (λ segs. (who : ℕ) → who < 2 → is_member segs.roster who ≡ true)
members_ok pools (Ok segs) is = λ who low. ap (λ (s : SegsView). is_member s.roster who) is ∙ each_in pools who low
members_ok pools (Err e) is = tt

-- THE BOARD AND ITS SEATS

pub for_two : (board : BoardView) (segs : SegsView) → board.opening.participants ≡ 2 → board.opening.segs.value ≡ segs
    → ((who : ℕ) → who < 2 → is_member segs.roster who ≡ true) → IsForTwo board
for_two board segs two is each = record {
  two = two;
  roster = λ who low. ap (λ (s : SegsView). is_member s.roster who) is ∙ each who low;
}

-- two seats are those of the participants 0 and 1
pub record AreTwo (board : BoardView) (first second : SeatView) : Type 0 where
  pub first_is : first ≡ new_seat board 0
  pub second_is : second ≡ new_seat board 1

pub two_seats : (board : BoardView) (first second : SeatView) → board.opening.participants ≡ 2 → new_seats board ≡ first ∷ second ∷ []
    → AreTwo board first second
two_seats board first second two is =
    let all : map (new_seat board) (range_with_len 0 2) ≡ first ∷ second ∷ [] =
    ap (λ (n : ℕ). map (new_seat board) (range_with_len 0 n)) (sym two) ∙ is in
    record {
      first_is = sym (ap (λ (l : List SeatView). get_or l 0 first) all);
      second_is = sym (ap (λ (l : List SeatView). get_or l 1 second) all);
    }
