use Rattle.std.proofs.Common.{◌∙◌}
use Rattle.hp_heap.specs.Cutting.{CanCutBehind}
use Rattle.hp_heap.proofs.CutFacts.CutLemmas.{behind_none, behind_busy, behind_done}
use Rattle.hp_heap.proofs.pieces.cut_behind.Goals as goal

pub returns-then-not-some-clause-items : goal.returns-then-not-some-clause-items
returns-then-not-some-clause-items c =
    behind_none (CanCutBehind c.args.some c.args.at) c.args.some c.args.at c.args.key _ c.args.key c.args.headers.now.items c.if-not-some.true c.requires.apart c.requires.busy

pub insert-requires-clause-busy : goal.insert-requires-clause-busy
insert-requires-clause-busy c =
    behind_busy c.args.headers.now.items c.split-rest.new.self.items c.args.some c.args.at c.split-rest.result c.args.key c.if-not-some.false c.requires.apart c.split-rest.ensures.apart c.split-rest.ensures.items c.requires.busy

pub returns-clause-items : goal.returns-clause-items
returns-clause-items c =
    rw (← c.split-rest.ensures.insertions) (c.insert.ensures.items
    ∙ behind_done c.args.headers.now.items c.split-rest.new.self.items c.args.some c.args.at c.split-rest.result c.args.key c.if-not-some.false c.requires.apart c.split-rest.ensures.apart c.split-rest.ensures.items c.requires.busy _)
