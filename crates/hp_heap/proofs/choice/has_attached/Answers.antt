use Rattle.std.proofs.Common.{sym, ◌∙◌, arith}
use Rattle.std.proofs.lemmas.Bool.{le-ltb}
use Rattle.hp_heap.proofs.AllocFacts.ChoiceLemmas.{no_bit}
use Rattle.hp_heap.proofs.choice.has_attached.Goals as goal

pub returns-else-participant-lt16 : goal.returns-else-participant-lt16
returns-else-participant-lt16 c =
    le-ltb c.args.participant 16 (omega (arith, c.if-participant-lt16.false)) ∙ sym (no_bit c.args.attached c.args.participant c.ranges.attached.fits (omega (arith, c.if-participant-lt16.false)))
