-- What stands after an answer is a law of the definition.
use Rattle.hp_core.proofs.DeniedSteps.{steps_by_judge}
use Rattle.hp_core.proofs.OutLemmas.{out_right}
use Rattle.hp_core.proofs.coordinator.Coordinator.step.Goals as goal

pub returns-clause-answers : goal.returns-clause-answers
returns-clause-answers g c =
    out_right (λ _ _. c.take.ensures.step.0) c.args.event c.args.self.now c.take.new.self c.args.segs.now c.take.new.segs c.take.result
    c.take.ensures.step.2

pub returns-clause-judged : goal.returns-clause-judged
returns-clause-judged g c =
    steps_by_judge (g.J.Judge.denies c.args.judge.now) (g.met.J.Judge.limits c.args.judge.now) c.args.event c.args.self.now c.take.new.self
    c.args.segs.now c.take.new.segs c.take.result c.records-records.ensures.sound c.take.ensures.step
