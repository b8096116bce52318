-- What is found is a grant or a refusal.
use Rattle.hp_segs.proofs.AskFacts.Answered.{answer_settles}
use Rattle.hp_segs.proofs.segs.Segs.grant_or_refusal.Goals as goal

pub returns-clause-settles : goal.returns-clause-settles
returns-clause-settles c =
    answer_settles c.self.inside.parts.value.asks.entries c.args.from c.args.number c.grant_or_refusal.result (rw c.deref.ensures at c.grant_or_refusal.ensures)
