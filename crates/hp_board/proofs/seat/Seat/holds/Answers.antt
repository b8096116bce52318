use Rattle.std.proofs.Common.{ℕ, eqb, sym, ap, ◌∙◌}
use Rattle.std.specs.List.{list_any}
use Rattle.std.specs.Option.{is_some}
use Rattle.hp_board.specs.SeatView.{SeatView}
use Rattle.hp_hall.specs.Slots.{slot_number}
use Rattle.hp_board.specs.Parts.{part_of}
use Rattle.hp_board.specs.Views.{value_of}
use Rattle.hp_board.proofs.OpeningFacts.SeatLemmas.{list_any-numbers}
use Rattle.hp_board.proofs.seat.Seat.holds.Goals as goal

pub returns : goal.returns
returns c =
    let number : ℕ = slot_number c.args.slot in
    c.has_number.ensures
    ∙ ap (list_any (λ other. eqb other c.number.result)) c.deref.ensures.value
    ∙ ap (λ (n : ℕ). list_any (λ other. eqb other n) c.self.inside.order.items) c.number.ensures
    ∙ ap (list_any (λ other. eqb other number)) (sym c.self.invariant.held)
    ∙ list_any-numbers number (part_of c.self.inside.token.me.0).held
    ∙ ap (λ (v : SeatView). is_some (value_of number v.mine.held)) c.self.view_is
