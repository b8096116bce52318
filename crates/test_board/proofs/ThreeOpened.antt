-- What the board of three opens with, and its participants before their first turn.
use Rattle.std.proofs.Common.{◌≡◌, ◌∙◌, ◌⊎◌, inl, inr, ⊎_elim, ℕ, zero, suc, ◌+◌, ◌<◌, true, false, List, [], ◌∷◌, ◌++◌, map, length, get_or, Option, Some, None, replicate, refl, sym, ap, subst, arith, lit<}
use Rattle.std.specs.Prelude.{IfOk, Result, Ok, Err}
use Rattle.std.specs.List.{slice_get, range_with_len}
use Rattle.std.proofs.lemmas.Bool.{false≢true}
use Rattle.std.proofs.lemmas.List.{length_push}
use Rattle.hp_base.specs.declared.pool_line.PoolLine.{PoolLine}
use Rattle.hp_heap.specs.History.{HeapView}
use Rattle.hp_segs.specs.Opening.{opening}
use Rattle.hp_segs.specs.SegsView.{SegsView, is_member}
use Rattle.hp_segs.specs.declared.ask.Ask.{Ask}
use Rattle.hp_maps.specs.MapsView.{MapsView, chunk_rows, table_in}
use Rattle.hp_serve.proofs.Attached.{nothing_marked}
use Rattle.hp_serve.specs.Tied.{HasChunks, IsTied, no_chunks, nothing_yet}
use Rattle.hp_zone.specs.Directory as names
use Rattle.hp_board.specs.BoardView.{BoardView}
use Rattle.hp_board.specs.Closing.{IsFreeSeat, IsAmong}
use Rattle.hp_board.specs.SeatView.{SeatView, new_seat, new_seats}
use Rattle.atomic_table.specs.Seated.{TableId}
use Rattle.hp_board.specs.Views.{after_load}
use Rattle.hp_board.specs.declared.view.Mine.{Mine}
use Rattle.hp_board.specs.Served.{AreOpeningHeaps, HasNamesOf, IsNamedIn, AreOpeningSegs}
use Rattle.test_board.specs.Playing.{IsBack, IsEmptyTable, IsNewcomer}
use Rattle.test_board.proofs.Opened.{all_out, nobody_armed}

-- THE SEGMENT VALUE

first_three : (pools : List PoolLine) (who : ℕ) → is_member (opening pools 3 0).roster who ≡ true → who < 3
first_three pools zero is = lit< tt
first_three pools (suc zero) is = lit< tt
first_three pools (suc (suc zero)) is = lit< tt
first_three pools (suc (suc (suc who))) is = absurd (false≢true (sym (all_out 13 who) ∙ is))

each_in : (pools : List PoolLine) (who : ℕ) → who < 3 → is_member (opening pools 3 0).roster who ≡ true
each_in pools zero low = refl
each_in pools (suc zero) low = refl
each_in pools (suc (suc zero)) low = refl
each_in pools (suc (suc (suc who))) low = absurd (omega (arith, low))

pub opens_ok : {E : Type 0} (pools : List PoolLine) (made : Result SegsView E) → IfOk made (λ segs. segs ≡ opening pools 3 0) → IfOk made (AreOpeningSegs 3)
opens_ok pools (Ok segs) is =
    subst (AreOpeningSegs 3) (sym is) (record { log = refl; asks = refl; ranges = refl; armed = nobody_armed 16; roster = first_three pools })
opens_ok pools (Err e) is = tt

pub members_ok : {E : Type 0} (pools : List PoolLine) (made : Result SegsView E) → IfOk made (λ segs. segs ≡ opening pools 3 0)
    → IfOk made (λ segs. (who : ℕ) → who < 3 → is_member segs.roster who ≡ true)
members_ok pools (Ok segs) is = λ who low. ap (λ (s : SegsView). is_member s.roster who) is ∙ each_in pools who low
members_ok pools (Err e) is = tt

-- SEATS

-- a table that has taken in nothing is that of a participant that has acknowledged nothing
nothing_tied : (maps : MapsView) → IsEmptyTable maps → IsTied [] nothing_yet no_chunks true maps
nothing_tied maps empty = record {
  within = omega arith;
  table = record {
    number = empty.number;
    rows = ap table_in empty.rows;
    behind = omega arith;
    seen = omega arith;
    chunks = subst (HasChunks no_chunks) (sym (ap chunk_rows empty.rows)) nothing_marked;
    room = empty.room;
  };
}

pub newcomer_plays : (board : BoardView) (who : ℕ) (seat : SeatView) (maps : MapsView) → board.opening.participants ≡ 3 → is_member board.opening.segs.value.roster who ≡ true
    → seat ≡ new_seat board who → IsEmptyTable maps → IsNewcomer board.id who seat maps
newcomer_plays board who seat maps three member is empty =
    subst (λ (s : SeatView). IsNewcomer board.id who s maps) (sym is)
    (record {
      playing = record { board_is = refl; three = three; joined = member; tied = nothing_tied maps empty };
      who_is = refl;
      held = refl;
      holdings = refl;
      unclaimed = refl;
      armed = refl;
      made = refl;
    })

-- three seats are those of the participants 0, 1 and 2
pub record AreThree (board : BoardView) (first second third : SeatView) : Type 0 where
  pub first_is : first ≡ new_seat board 0
  pub second_is : second ≡ new_seat board 1
  pub third_is : third ≡ new_seat board 2

pub three_seats : (board : BoardView) (first second third : SeatView) → board.opening.participants ≡ 3 → new_seats board ≡ first ∷ second ∷ third ∷ [] → AreThree board first second third
three_seats board first second third three is =
    let all : map (new_seat board) (range_with_len 0 3) ≡ first ∷ second ∷ third ∷ [] = ap (λ (n : ℕ). map (new_seat board) (range_with_len 0 n)) (sym three) ∙ is in
    record {
      first_is = sym (ap (λ (l : List SeatView). get_or l 0 first) all);
      second_is = sym (ap (λ (l : List SeatView). get_or l 1 second) all);
      third_is = sym (ap (λ (l : List SeatView). get_or l 2 third) all);
    }

-- the seats that come back are everybody's, and hold nothing
pub all_free : (board : BoardView) (first second third : SeatView) → IsBack board.id 0 first → IsBack board.id 1 second → IsBack board.id 2 third
    → (k : ℕ) (d : SeatView) → k < length (first ∷ second ∷ third ∷ []) → IsFreeSeat board (get_or (first ∷ second ∷ third ∷ []) k d)
all_free board first second third a b c zero d inside = record { board_is = a.board_is; holds = a.held }
all_free board first second third a b c (suc zero) d inside = record { board_is = b.board_is; holds = b.held }
all_free board first second third a b c (suc (suc zero)) d inside = record { board_is = c.board_is; holds = c.held }
all_free board first second third a b c (suc (suc (suc k))) d inside = absurd (omega arith)

pub everyone : (board : BoardView) (first second third : SeatView) → board.opening.participants ≡ 3 → IsBack board.id 0 first → IsBack board.id 1 second → IsBack board.id 2 third
    → (who : ℕ) → who < board.opening.participants → IsAmong (first ∷ second ∷ third ∷ []) who
everyone board first second third three a b c zero may = record { seat = first; there = (0, lit< tt, refl); who_is = a.who_is }
everyone board first second third three a b c (suc zero) may = record { seat = second; there = (1, lit< tt, refl); who_is = b.who_is }
everyone board first second third three a b c (suc (suc zero)) may = record { seat = third; there = (2, lit< tt, refl); who_is = c.who_is }
everyone board first second third three a b c (suc (suc (suc k))) may = absurd (omega arith)

-- a seat from which a number was loaded
pub back_loaded : (board : TableId) (who other number : ℕ) (old new : SeatView) → IsBack board who old → new.board ≡ old.board → new.mine ≡ after_load other number old.mine → IsBack board who new
back_loaded board who other number old new back here loaded = record {
  board_is = here ∙ back.board_is;
  three = ap (λ (m : Mine). m.opening.participants) loaded ∙ back.three;
  who_is = ap (λ (m : Mine). m.who) loaded ∙ back.who_is;
  held = ap (λ (m : Mine). m.held) loaded ∙ back.held;
}

-- a table that was made
pub table_ok : {E : Type 0} (made : Result MapsView E) (first : MapsView) → IfOk made (λ maps. maps ≡ first) → IsEmptyTable first → IfOk made IsEmptyTable
table_ok (Ok maps) first is empty = subst IsEmptyTable (sym is) empty
table_ok (Err e) first is empty = tt

-- a participant of the opening's roster
pub member_of : (board : BoardView) (segs : SegsView) (who : ℕ) → board.opening.segs.value ≡ segs → ((k : ℕ) → k < 3 → is_member segs.roster k ≡ true) → who < 3
    → is_member board.opening.segs.value.roster who ≡ true
member_of board segs who is each low = ap (λ (s : SegsView). is_member s.roster who) is ∙ each who low
