-- Heaps move into slots one by one, and each participant's part goes to a seat of its own.
use Rattle.std.proofs.Common.{◌≡◌, ℕ, zero, suc, ◌+◌, ◌-◌, ◌<◌, ◌≤◌, List, [], ◌∷◌, ◌++◌, map, length, get_or, Option, Some, sym, ap, ◌∙◌, arith}
use Rattle.std.specs.Prelude.{zip}
use Rattle.std.specs.List.{Contains, range_with_len, remove}
use Rattle.std.proofs.lemmas.List.{append_assoc, map-append, length-map, get_or-map}
use Rattle.std.proofs.lemmas.List.FromFn.{length-range_with_len, get_or-range_with_len}
use Rattle.atomic_table.specs.Table.{Splits}
use Rattle.atomic_table.specs.Seated.{TableId}
use Rattle.hp_heap.specs.History.{HeapView}
use Rattle.hp_stats.specs.StatViews.{PenView}
use Rattle.hp_hall.specs.declared.kept.Kept.{Kept}
use Rattle.hp_hall.specs.declared.kept.Kept.TheVariants.{Heap}
use Rattle.hp_board.specs.declared.opening.Opening.{Opening}
use Rattle.hp_board.specs.declared.view.Mine.{Mine}
use Rattle.hp_board.specs.declared.view.View.{View}
use Rattle.hp_board.specs.BoardRule.{IsBoard}
use Rattle.hp_board.specs.Dealt.{dealt_seat}
use Rattle.hp_board.specs.Moved.{slot_of}
use Rattle.hp_board.specs.SeatView.{SeatView}
use Rattle.hp_board.specs.Views.{newcomer}
use Rattle.hp_board.specs.Parts.{parts_from, one_part, part_of, first_part, other_parts}
use Rattle.hp_board.proofs.StepsOfSeats.DealSteps.{splits}

-- the first heap moves after the slots, with the first pen
pub moved_one : (slots : List (Option Kept)) (heaps rest : List HeapView) (heap : HeapView) (pens left : List PenView) (pen : PenView) (whole : List (Option Kept))
    → 0 < length heaps → heap ≡ get_or heaps 0 heap → rest ≡ remove heaps 0 → 0 < length pens → pen ≡ get_or pens 0 pen → left ≡ remove pens 0
    → slots ++ map slot_of (zip heaps pens) ≡ whole → (slots ++ Some (Heap heap pen) ∷ []) ++ map slot_of (zip rest left) ≡ whole
moved_one slots [] rest heap pens left pen whole some first others some_pen first_pen other_pens is = absurd (omega arith)
moved_one slots (h ∷ heaps) rest heap [] left pen whole some first others some_pen first_pen other_pens is = absurd (omega (arith, some_pen))
moved_one slots (h ∷ heaps) rest heap (p ∷ pens) left pen whole some first others some_pen first_pen other_pens is =
    append_assoc slots (Some (Heap heap pen) ∷ []) (map slot_of (zip rest left))
    ∙ ap (λ (x : HeapView). slots ++ (slot_of (x, pen) ∷ map slot_of (zip rest left))) first
    ∙ ap (λ (x : PenView). slots ++ (slot_of (h, x) ∷ map slot_of (zip rest left))) first_pen
    ∙ ap (λ (l : List HeapView). slots ++ (slot_of (h, p) ∷ map slot_of (zip l left))) others
    ∙ ap (λ (l : List PenView). slots ++ (slot_of (h, p) ∷ map slot_of (zip heaps l))) other_pens
    ∙ is

-- one number more
pub range-push : (from count : ℕ) → range_with_len from (count + 1) ≡ range_with_len from count ++ (from + count) ∷ []
range-push from zero = let same : from ≡ from + 0 = omega arith in ap (λ (n : ℕ). n ∷ []) same
range-push from (suc count) =
    let one : suc count + 1 ≡ suc (count + 1) = omega arith in
    let last : (from + 1) + count ≡ from + suc count = omega arith in
    ap (range_with_len from) one
    ∙ ap (λ (l : List ℕ). from ∷ l) (range-push (from + 1) count)
    ∙ ap (λ (n : ℕ). from ∷ (range_with_len (from + 1) count ++ n ∷ [])) last

pub dealt-push : (id : TableId) (o : Opening) (who : ℕ) → map (dealt_seat id o) (range_with_len 0 (who + 1)) ≡ map (dealt_seat id o) (range_with_len 0 who) ++ dealt_seat id o who ∷ []
dealt-push id o who =
    let same : 0 + who ≡ who = omega arith in
    ap (map (dealt_seat id o)) (range-push 0 who ∙ ap (λ (n : ℕ). range_with_len 0 who ++ n ∷ []) same) ∙ map-append (dealt_seat id o) (range_with_len 0 who) (who ∷ [])

later : (o : Opening) (from count : ℕ) (part : Mine) → Contains (parts_from o from count) part → from ≤ part.who
later o from count part (k, inside, is) =
    let long : k < count = omega (arith, length-map (range_with_len from count) (newcomer o), length-range_with_len from count) in
    let place : newcomer o (from + k) ≡ part =
    ap (newcomer o) (sym (get_or-range_with_len from count k 0 long)) ∙ sym (get_or-map (newcomer o) (range_with_len from count) k 0 part (omega (arith, length-range_with_len from count))) ∙ is in
    let number : from + k ≡ part.who = ap (λ (m : Mine). m.who) place in
    omega arith

-- what is left of a view from whose parts the first ones went
pub record IsLeft (o : Opening) (who participants : ℕ) (view : View) : Type 0 where
  pub parts : view ≡ record { parts = parts_from o who (participants - who) }

cut : (o : Opening) (who participants : ℕ) (view : View) → who < participants → IsLeft o who participants view → view ≡ record { parts = newcomer o who ∷ parts_from o (who + 1) (participants - (who + 1)) }
cut o who participants view more left =
    let count : participants - who ≡ suc (participants - (who + 1)) = omega arith in
    left.parts ∙ ap (λ (n : ℕ). record { parts = parts_from o who n }) count

pub deals : (o : Opening) (id who participants : ℕ) (view : View) → who < participants → IsLeft o who participants view → Splits (IsBoard o) id view (other_parts view) (first_part view)
deals o id who participants view more left =
    splits o id (newcomer o who) (parts_from o (who + 1) (participants - (who + 1))) view (cut o who participants view more left)
    (λ p has same. let low = later o (who + 1) (participants - (who + 1)) p has in omega arith)

pub dealt_first : (o : Opening) (who participants : ℕ) (view : View) → who < participants → IsLeft o who participants view → first_part view ≡ one_part (newcomer o who)
dealt_first o who participants view more left = ap first_part (cut o who participants view more left)

pub dealt_others : (o : Opening) (who participants : ℕ) (view : View) → who < participants → IsLeft o who participants view → IsLeft o (who + 1) participants (other_parts view)
dealt_others o who participants view more left = record { parts = ap other_parts (cut o who participants view more left) }

-- a view of one part
pub one_of : (view : View) (part : Mine) → view ≡ one_part part → view ≡ one_part (part_of view)
one_of view part is = is ∙ ap (λ (v : View). one_part (part_of v)) (sym is)

-- a seat of this board and of this participant's part
pub same_seat : (seat : SeatView) (board : TableId) (mine : Mine) → seat.board ≡ board → seat.mine ≡ mine → seat ≡ record { board = board; mine = mine }
same_seat seat board mine is own = λ i. record { board = is i; mine = own i }
