use Rattle.std.proofs.Common.{◌≡◌, ℕ, ◌≤◌, List, All, arith, length, map, replicate, refl, sym, ap, subst, ◌∙◌}
use Rattle.atomic_table.specs.Table.{opening}
use Rattle.atomic_table.specs.Seated.{TableId}
use Rattle.hp_heap.specs.History.{IsSound}
use Rattle.std.specs.List.{range_with_len}
use Rattle.hp_board.specs.declared.opening.Opening.{Opening}
use Rattle.hp_board.specs.Dealt.{dealt_seat}
use Rattle.hp_board.specs.BoardRule.{IsBoard}
use Rattle.hp_board.specs.Served.{serves_of, AreOpeningPens, AreOpeningSegs}
use Rattle.hp_board.specs.Parts.{whole_view}
use Rattle.hp_board.proofs.OpeningFacts.Openings.{as_many, count_slots, starts, zeros}
use Rattle.hp_board.proofs.board.Board.new.Goals as goal

pub new-requires : goal.new-requires
new-requires c =
    let o = c.of-opening.result in
    let none : ℕ = 0 in
    subst (λ items. IsBoard o (opening (replicate 66 none) items (whole_view o))) (sym c.in_ok-slots.ensures.slots)
    (starts (replicate 66 none) c.args.heaps.items c.args.pens.items c.args.segs c.args.names o refl (zeros 66) c.requires.heaps
    (subst (λ (cells : List TableId). AreOpeningPens cells c.args.pens.items) (sym c.of-opening.ensures.cells) c.requires.pens) (subst (All IsSound) c.deref.ensures.value c.of-opening.ensures.sound)
    (c.of-opening.ensures.serves ∙ ap (map serves_of) c.deref.ensures.value)
    (subst (λ (n : ℕ). n ≤ 16) (sym c.of-opening.ensures.participants) c.requires.few)
    (subst (λ (n : ℕ). AreOpeningSegs n c.args.segs) (sym c.of-opening.ensures.participants) c.requires.segs)
    c.records-records.ensures.sound c.of-opening.ensures.segs c.requires.names (c.log-zones.ensures.sound, c.log-changes.ensures.sound) c.of-opening.ensures.names)

pub invariant_of-result : goal.invariant_of-result
invariant_of-result c =
    let made = c.in_ok-slots.ensures in
    let count = c.requires.heaps.count in
    let many = as_many c.args.heaps.items c.args.pens.items c.args.cells.now c.requires.heaps c.requires.pens in
    let slots = count_slots c.args.heaps.items c.args.pens.items c.args.segs c.args.names many in
    let participants = ap (λ (o : Opening). o.participants) c.in-Ok.ensures.ok.5 ∙ c.of-opening.ensures.participants in
    record {
      words = c.in-Ok.ensures.ok.0;
      slots = c.in-Ok.ensures.ok.1 ∙ omega (arith, ap length made.slots, slots, count);
      some = omega (arith, participants, c.requires.some);
      empty = made.emptied.0;
      room = omega (arith, made.room.0, count, c.args.heaps.ok.0, c.args.heaps.ok.1);
    }

pub returns-clause-seats : goal.returns-clause-seats
returns-clause-seats c =
    let key : c.in-Ok.made.0.shared.key ≡ c.of-opening.result = c.in-Ok.ensures.ok.5 in
    let count : c.args.participants ≡ c.in-Ok.made.0.shared.key.participants = sym c.of-opening.ensures.participants ∙ ap (λ (o : Opening). o.participants) (sym key) in
    c.in_ok-seats.ensures ∙ ap (λ (n : ℕ). map (dealt_seat c.in-Ok.made.0.shared.table_id c.in-Ok.made.0.shared.key) (range_with_len 0 n)) count
