use Rattle.std.proofs.Common.{◌≡◌, ◌+◌, ◌-◌, ◌<◌, ℕ, List, ◌∷◌, Some, None, Contains, length, get_or, refl, sym, ap, subst, ◌∙◌, arith}
use Rattle.atomic_table.specs.Table.{rest}
use Rattle.hp_board.specs.SeatView.{SeatView}
use Rattle.hp_hall.specs.Slots.{slot_number}
use Rattle.hp_board.specs.Steps.{Sat}
use Rattle.hp_board.specs.Knowing.{HasMappedHeld}
use Rattle.hp_board.specs.Turns.{turned_by}
use Rattle.hp_board.specs.Parts.{part_of, one_part}
use Rattle.hp_board.specs.Views.{value_of, after_give}
use Rattle.hp_board.proofs.OwnershipFacts.GivenTaken.{gives_taken}
use Rattle.hp_board.proofs.OpeningFacts.SeatLemmas.{held_place, given_front, seat_given}
use Rattle.hp_board.proofs.board.Board.unlock.Goals as goal

pub place_of-before-requires : goal.place_of-before-requires
place_of-before-requires c =
    let number : ℕ = c.number-number.result in
    let gives = gives_taken c.args.seat.now.mine (slot_number c.args.slot) c.args.kept c.requires.gives in
    let holds : value_of number (part_of c.seat.inside.token.me.0).held ≡ Some gives.taken =
    ap (λ (n : ℕ). value_of n (part_of c.seat.inside.token.me.0).held) c.number-number.ensures
    ∙ ap (λ (v : SeatView). value_of (slot_number c.args.slot) v.mine.held) c.seat.view_is
    ∙ gives.holds in
    subst (λ (l : List ℕ). Contains l number) (sym c.deref.ensures.value) (held_place c.seat.inside number gives.taken c.seat.invariant holds)

pub unlock_word-requires-clause-front : goal.unlock_word-requires-clause-front
unlock_word-requires-clause-front c =
    let number : ℕ = c.number-number.result in
    let place : ℕ = c.place_of-before.result in
    let inside : place < length c.seat.inside.order.items = omega (arith, ap length c.deref.ensures.value, c.place_of-before.ensures.inside) in
    let here : get_or c.seat.inside.order.items place 0 ≡ number = ap (λ (l : List ℕ). get_or l place 0) (sym c.deref.ensures.value) ∙ c.place_of-before.ensures.here in
    let front = ap (λ (m : Sat). m.1) c.turn.ensures.me ∙ given_front c.seat.inside number place c.seat.invariant inside here in
    (None, front ∙ ap (λ l. (number, None) ∷ rest l) (sym (ap (λ (m : Sat). m.1) c.turn.ensures.me)))

pub invariant_of-seat : goal.invariant_of-seat
invariant_of-seat c =
    let number : ℕ = c.number-number.result in
    let place : ℕ = c.place_of-before.result in
    let times : ℕ = c.len.result - place in
    let inside : place < length c.seat.inside.order.items = omega (arith, ap length c.deref.ensures.value, c.place_of-before.ensures.inside) in
    let here : get_or c.seat.inside.order.items place 0 ≡ number = ap (λ (l : List ℕ). get_or l place 0) (sym c.deref.ensures.value) ∙ c.place_of-before.ensures.here in
    let all : times + place + 1 ≡ length c.seat.inside.order.items = omega (arith, c.len.ensures, c.remove.ensures.len, c.seat.inside.order.ok.0) in
    seat_given c.seat.inside _ c.seat.invariant refl number place times c.args.kept inside here all
    (c.turn-2.ensures.me
    ∙ ap (λ (m : Sat). (m.0, turned_by times m.1)) c.unlock_word.ensures.given
    ∙ ap (λ (m : Sat). (one_part (after_give number c.args.kept (part_of m.0)), turned_by times (rest m.1))) c.turn.ensures.me)
    c.remove.ensures.items c.remove.ensures.capacity

pub returns-clause-mapped : goal.returns-clause-mapped
returns-clause-mapped c =
    subst HasMappedHeld (sym (ap (λ (m : Sat). part_of m.0) c.turn-2.ensures.me ∙ ap (λ (m : Sat). part_of m.0) c.unlock_word.ensures.given))
    c.unlock_word.ensures.mapped
