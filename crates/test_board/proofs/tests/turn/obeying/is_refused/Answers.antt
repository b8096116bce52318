use Rattle.std.proofs.Common.{ap, sym, ◌∙◌}
use Rattle.test_board.specs.Asking.{refuses}
use Rattle.test_board.proofs.AskLemmas.{refused_when}
use Rattle.test_board.proofs.tests.turn.obeying.is_refused.Goals as goal

pub returns : goal.returns
returns c = λ is.
    refused_when c.args.segs.now c.args.who c.args.number c.records-records.ensures.sound (ap refuses (sym c.grant_or_refusal.ensures.first) ∙ (sym c.refuses.ensures ∙ is))
