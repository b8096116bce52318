use Rattle.std.proofs.Common.{◌≡◌, ◌∙◌, ◌<◌, Some, refl, sym, ap, subst}
use Rattle.std.specs.List.{slice_get}
use Rattle.std.specs.Option.{is_some, option_copied}
use Rattle.hp_base.specs.declared.tag.Caller.{Caller}
use Rattle.test_board.proofs.ZoneCalls.{is_external, marked, may_mark}
use Rattle.test_board.proofs.tests.turn.attached.marked.Goals as goal

pub share-requires-clause-allowed : goal.share-requires-clause-allowed
share-requires-clause-allowed c =
    let first : slice_get c.reserve.new.self.plain.chunks 0 ≡ Some c.in-Some.chunk.now =
    ap (λ l. slice_get l 0) (sym c.chunks.ensures.chunks) ∙ (sym c.first.ensures.value ∙ ap option_copied c.in-Some.is) in
    may_mark c.call.result.participant c.reserve.new.self.plain c.in-Some.chunk.now first
    (is_external c.reserve.new.self.plain.serves c.is_some.result (c.is_some.ensures ∙ ap is_some c.serves.ensures) c.if-is_some.false)
    (subst (λ (k : Caller). k.participant < 16) (sym c.call.ensures) c.requires.participant)

pub returns : goal.returns
returns c = λ _.
    let first : slice_get c.reserve.new.self.plain.chunks 0 ≡ Some c.in-Some.chunk.now =
    ap (λ l. slice_get l 0) (sym c.chunks.ensures.chunks) ∙ (sym c.first.ensures.value ∙ ap option_copied c.in-Some.is) in
    marked c.args.who c.args.heap.now c.reserve.new.self c.share.new.self c.call.result c.in-Some.chunk.now c.reserve.ensures.same c.call.ensures c.stands.ensures.tiled c.stands.ensures.order first c.share.ensures
