use Rattle.std.proofs.Common.{ap, arith, subst, sym, Some, ◌∙◌, ◌<◌}
use mathlib.Core.Option.{some}
use Rattle.std.specs.Slots.{slots_items}
use Rattle.std.proofs.lemmas.List.Elements.{All-contains}
use Rattle.hp_board.specs.declared.opening.Opening.{Opening}
use Rattle.hp_board.specs.BoardView.{BoardView}
use Rattle.hp_board.specs.Closing.{AreHeaps, AreLeftNames, AreLeftSegs, HaveMoved, IsFreeSeat, handed_out}
use Rattle.hp_board.proofs.EndingFacts.Endings.{IsTold, has_all, ends, heaps_are, calls_are, segs_are, tables_are, noted_are, owned_are, names_are, moved_are}
use Rattle.hp_board.proofs.KeptAt.{heap_kept, names_kept, segs_kept}
use Rattle.hp_board.proofs.board.Board.close.Goals as goal
use Rattle.hp_board.proofs.board.Board.close.Goals.{After-close_with}

told : (c : After-close_with) → IsTold c.self.inside.table.shared.key c.gather-token.result.me.0 (slots_items c.close_with.result.slots)
told c =
    let o = c.self.inside.table.shared.key in
    let view = c.gather-token.result.me.0 in
    ends o c.gather-token.result.id view _ (slots_items c.close_with.result.slots)
    (has_all o view c.args.self c.args.seats.items (sym (ap (λ (v : BoardView). v.opening) c.self.view_is)) c.requires.free c.requires.everyone c.gather-token.ensures.parts)
    c.close_with.ensures.values.2

pub fill-segs-requires-clause-values : goal.fill-segs-requires-clause-values
fill-segs-requires-clause-values c =
    let is = told c in
    let o = c.self.inside.table.shared.key in record {
      heap = λ slot below. let heap = heap_kept o slot (is.kept slot) below (is.at slot (omega arith)) in (heap.0, is.values slot (omega arith) ∙ ap (λ k. some (Some k)) heap.1);
      segs = let segs = segs_kept o (is.kept 32) (is.at 32 (omega arith)) in (segs.0, is.values 32 (omega arith) ∙ ap (λ k. some (Some k)) segs.1);
      names = let names = names_kept o (is.kept 33) (is.at 33 (omega arith)) in (names.0, is.values 33 (omega arith) ∙ ap (λ k. some (Some k)) names.1);
    }

pub returns-clause-heaps : goal.returns-clause-heaps
returns-clause-heaps c =
    let o = c.self.inside.table.shared.key in
    let view = c.gather-token.result.me.0 in
    let items = slots_items c.close_with.result.slots in
    let out = handed_out c.fill-segs.new.heaps.items c.fill-segs.new.pens.items c.fill-segs.result.0 c.fill-segs.result.1 in
    subst (λ (p : Opening). AreHeaps p c.fill-segs.new.heaps.items c.fill-segs.new.pens.items) (ap (λ (v : BoardView). v.opening) c.self.view_is)
    (heaps_are o view items (told c.before) out c.fill-segs.ensures)

pub returns-clause-calls : goal.returns-clause-calls
returns-clause-calls c seat there =
    let o = c.self.inside.table.shared.key in
    let view = c.gather-token.result.me.0 in
    let items = slots_items c.close_with.result.slots in
    let out = handed_out c.fill-segs.new.heaps.items c.fill-segs.new.pens.items c.fill-segs.result.0 c.fill-segs.result.1 in
    calls_are o view items (told c.before) out c.fill-segs.ensures seat.mine (c.gather-token.ensures.parts seat there)

pub returns-clause-segs : goal.returns-clause-segs
returns-clause-segs c =
    let o = c.self.inside.table.shared.key in
    let view = c.gather-token.result.me.0 in
    let items = slots_items c.close_with.result.slots in
    let out = handed_out c.fill-segs.new.heaps.items c.fill-segs.new.pens.items c.fill-segs.result.0 c.fill-segs.result.1 in
    let opened = ap (λ (v : BoardView). v.opening) c.self.view_is in
    subst (λ (p : Opening). AreLeftSegs p c.args.seats.items c.fill-segs.result.0) opened
    (segs_are o view items (told c.before) out c.fill-segs.ensures c.args.seats.items
    (λ who may. c.requires.everyone who (subst (λ (p : Opening). who < p.participants) opened may)) c.gather-token.ensures.parts)

pub returns-clause-tables : goal.returns-clause-tables
returns-clause-tables c seat there =
    let o = c.self.inside.table.shared.key in
    let view = c.gather-token.result.me.0 in
    let items = slots_items c.close_with.result.slots in
    let out = handed_out c.fill-segs.new.heaps.items c.fill-segs.new.pens.items c.fill-segs.result.0 c.fill-segs.result.1 in
    tables_are o view items (told c.before) out c.fill-segs.ensures seat.mine (c.gather-token.ensures.parts seat there)
    (All-contains (IsFreeSeat c.args.self) c.args.seats.items seat c.requires.free there).holds

pub returns-clause-noted : goal.returns-clause-noted
returns-clause-noted c seat other there there-other =
    let o = c.self.inside.table.shared.key in
    let view = c.gather-token.result.me.0 in
    let items = slots_items c.close_with.result.slots in
    let out = handed_out c.fill-segs.new.heaps.items c.fill-segs.new.pens.items c.fill-segs.result.0 c.fill-segs.result.1 in
    noted_are o view items (told c.before) out c.fill-segs.ensures seat.mine other.mine (c.gather-token.ensures.parts seat there) (c.gather-token.ensures.parts other there-other)

pub returns-clause-owned : goal.returns-clause-owned
returns-clause-owned c =
    let o = c.self.inside.table.shared.key in
    let view = c.gather-token.result.me.0 in
    let items = slots_items c.close_with.result.slots in
    let out = handed_out c.fill-segs.new.heaps.items c.fill-segs.new.pens.items c.fill-segs.result.0 c.fill-segs.result.1 in
    owned_are o view items (told c.before) out c.fill-segs.ensures c.args.seats.items c.gather-token.ensures.parts

pub returns-clause-names : goal.returns-clause-names
returns-clause-names c =
    let o = c.self.inside.table.shared.key in
    let view = c.gather-token.result.me.0 in
    let items = slots_items c.close_with.result.slots in
    let out = handed_out c.fill-segs.new.heaps.items c.fill-segs.new.pens.items c.fill-segs.result.0 c.fill-segs.result.1 in
    subst (λ (p : Opening). AreLeftNames p c.args.seats.items c.fill-segs.new.heaps.items c.fill-segs.result.0 c.fill-segs.result.1) (ap (λ (v : BoardView). v.opening) c.self.view_is)
    (names_are o view items (told c.before) out c.fill-segs.ensures c.args.seats.items c.gather-token.ensures.parts)

pub returns-clause-moved : goal.returns-clause-moved
returns-clause-moved c =
    let o = c.self.inside.table.shared.key in
    let view = c.gather-token.result.me.0 in
    let items = slots_items c.close_with.result.slots in
    let out = handed_out c.fill-segs.new.heaps.items c.fill-segs.new.pens.items c.fill-segs.result.0 c.fill-segs.result.1 in
    subst (λ (p : Opening). HaveMoved p c.args.seats.items (handed_out c.fill-segs.new.heaps.items c.fill-segs.new.pens.items c.fill-segs.result.0 c.fill-segs.result.1)) (ap (λ (v : BoardView). v.opening) c.self.view_is)
    (moved_are o view items (told c.before) out c.fill-segs.ensures c.args.seats.items c.gather-token.ensures.parts)
