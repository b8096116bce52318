use Rattle.std.proofs.Common.{sym, ◌∙◌, arith}
use Rattle.hp_heap.proofs.FindingLemmas.{own_space}
use Rattle.hp_heap.proofs.FreeFacts.HeadLemmas.{held_by}
use Rattle.hp_heap.proofs.finding.latest_at.Goals as goal

pub contains-requires : goal.contains-requires
contains-requires c = omega (arith, (own_space c.args.headers.now c.in-Some.key c.get.result.now c.requires c.get.ensures.stands).end)

pub returns-then-contains : goal.returns-then-contains
returns-then-contains c =
    held_by c.args.headers.now c.args.addr c.in-Some.key c.get.result.now c.requires c.get.ensures.stands (sym c.contains.ensures ∙ c.if-contains.true)
