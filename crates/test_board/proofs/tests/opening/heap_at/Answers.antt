use Rattle.std.proofs.Common.{◌∙◌, ℕ, List, [], ◌∷◌, sym, ap, arith}
use Rattle.std.specs.List.{slice_get}
use Rattle.std.proofs.lemmas.Option.{slice_get_past}
use Rattle.hp_heap.specs.PlainHeap.{opening_heap}
use Rattle.hp_board.proofs.NamesFacts.NamesOpened.{opening_named}
use Rattle.test_board.proofs.tests.opening.heap_at.Goals as goal

abbrev sockets : List ℕ
sockets = 0 ∷ []

pub returns-then-index-eq0-clause-named : goal.returns-then-index-eq0-clause-named
returns-then-index-eq0-clause-named c =
    opening_named sockets c.args.index c.socket.result
    (c.socket.ensures.plain ∙ ap (λ (k : ℕ). opening_heap c.args.index (slice_get sockets k)) (sym c.if-index-eq0.true))

pub returns-else-index-eq0-clause-named : goal.returns-else-index-eq0-clause-named
returns-else-index-eq0-clause-named c =
    opening_named sockets c.args.index c.vacant.result
    (c.vacant.ensures.plain ∙ ap (opening_heap c.args.index) (sym (slice_get_past sockets c.args.index (omega (arith, c.if-index-eq0.false)))))
