use Rattle.std.proofs.Common.{◌≡◌, ℕ, ◌+◌, ◌-◌, List, length, get_or, take, Some, sym, ap, subst, ◌∙◌, arith, vec_len}
use Rattle.std.specs.List.{Contains}
use Rattle.std.proofs.lemmas.List.{take-take}
use Rattle.hp_board.specs.Gathered.{IsSeatOf}
use Rattle.hp_board.specs.SeatView.{SeatView}
use Rattle.hp_board.specs.Steps.{Sat}
use Rattle.hp_board.specs.Parts.{both_parts}
use Rattle.hp_board.proofs.StepsOfSeats.DealSteps.{joins}
use Rattle.hp_board.proofs.EndingFacts.Gatherings.{within, popped_is, more_parts}
use Rattle.hp_board.proofs.closing.gather.Goals as goal

pub join_seat-requires : goal.join_seat-requires
join_seat-requires c =
    let all : List SeatView = c.args.seats.items in
    let now : List SeatView = c.loop-seat.seats.items in
    let left : ℕ = vec_len c.pop-in-loop-seat.new.self in
    let more : left + 1 ≡ vec_len c.loop-seat.seats = c.in-Some-pop.ensures.cases in
    let front : now ≡ take (left + 1) all = c.loop-seat.invariant.left ∙ ap (λ (n : ℕ). take n all) (sym more) in
    let count : length now ≡ left + 1 = omega (arith, more, c.loop-seat.seats.ok.0) in
    let seat : SeatView = c.in-Some-pop.seat in
    let last : vec_len c.loop-seat.seats - 1 ≡ left = omega (arith, more) in
    let popped = popped_is all now left front count seat (c.in-Some-pop.ensures.value seat (omega (arith, more)) ∙ ap (λ (n : ℕ). Some (get_or now n seat)) last) in
    let of : IsSeatOf c.args.shared.now.table_id seat = subst (IsSeatOf c.args.shared.now.table_id) (popped seat) (c.requires.seats left seat (within all now left front count)) in (
      c.loop-seat.invariant.table,
      c.into_token.ensures.table ∙ of.board,
      ap (λ (m : Sat). m.1) c.into_token.ensures.me,
      omega (arith, c.requires.words),
      joins c.args.shared.now.key c.loop-seat.token.id c.loop-seat.token.me.0 c.into_token.result.id c.into_token.result.me.0,
    )

pub loop-seat-preserved : goal.loop-seat-preserved
loop-seat-preserved c =
    let all : List SeatView = c.args.seats.items in
    let now : List SeatView = c.loop-seat.seats.items in
    let left : ℕ = vec_len c.pop-in-loop-seat.new.self in
    let more : left + 1 ≡ vec_len c.loop-seat.seats = c.in-Some-pop.ensures.cases in
    let front : now ≡ take (left + 1) all = c.loop-seat.invariant.left ∙ ap (λ (n : ℕ). take n all) (sym more) in
    let count : length now ≡ left + 1 = omega (arith, more, c.loop-seat.seats.ok.0) in
    let seat : SeatView = c.in-Some-pop.seat in
    let last : vec_len c.loop-seat.seats - 1 ≡ left = omega (arith, more) in
    let popped = popped_is all now left front count seat (c.in-Some-pop.ensures.value seat (omega (arith, more)) ∙ ap (λ (n : ℕ). Some (get_or now n seat)) last) in
    let view : c.join_seat.new.seat.me.0 ≡ both_parts c.loop-seat.token.me.0 c.into_token.result.me.0 = ap (λ (m : Sat). m.0) c.join_seat.ensures.2 in
    record {
      table = c.join_seat.ensures.0 ∙ c.loop-seat.invariant.table;
      left = c.in-Some-pop.ensures.rest ∙ ap (λ (n : ℕ). take n now) last ∙ ap (take left) front ∙ take-take left (left + 1) all (omega arith);
      parts = more_parts all c.loop-seat.token.me.0 c.join_seat.new.seat.me.0 left seat
          (view ∙ ap (λ (m : Sat). both_parts c.loop-seat.token.me.0 m.0) c.into_token.ensures.me) popped
          (λ k d above inside. c.loop-seat.invariant.parts k d (omega (arith, more)) inside);
    }

pub returns-clause-parts : goal.returns-clause-parts
returns-clause-parts c seat there =
    let none : vec_len c.loop-seat.seats ≡ 0 = c.in_default-pop.ensures.cases.0 in
    subst (λ (s : SeatView). Contains c.loop-seat.token.me.0.parts s.mine) there.2 (c.loop-seat.invariant.parts there.0 seat (omega (arith, none)) there.1)
