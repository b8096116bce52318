-- The heap of socket 0 has the first index, and the others serve no socket.
use Rattle.std.proofs.Common.{◌∙◌, ℕ, List, [], ◌∷◌, sym, ap, arith}
use Rattle.std.specs.List.{slice_get}
use Rattle.std.proofs.lemmas.Option.{slice_get_past}
use Rattle.hp_heap.specs.PlainHeap.{opening_heap}
use Rattle.test_solo.proofs.tests.empty_heap.Goals as goal

abbrev sockets : List ℕ
sockets = 0 ∷ []

pub returns-then-index-eq0-clause-opened : goal.returns-then-index-eq0-clause-opened
returns-then-index-eq0-clause-opened c =
    c.socket.ensures.plain ∙ ap (λ (k : ℕ). opening_heap c.args.index (slice_get sockets k)) (sym c.if-index-eq0.true)

pub returns-else-index-eq0-clause-opened : goal.returns-else-index-eq0-clause-opened
returns-else-index-eq0-clause-opened c =
    c.vacant.ensures.plain ∙ ap (opening_heap c.args.index) (sym (slice_get_past sockets c.args.index (omega (arith, c.if-index-eq0.false))))
