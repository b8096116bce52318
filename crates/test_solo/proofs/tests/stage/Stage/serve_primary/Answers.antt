-- One of the two serves, and the other stays as it was.
use Rattle.std.proofs.Common.{arith}
use Rattle.test_solo.proofs.Callers.{stage_can, stage_served}
use Rattle.test_solo.proofs.StageLemmas.{staged_primary}
use Rattle.test_solo.proofs.tests.stage.Stage.serve_primary.Goals as goal

pub serve-requires : goal.serve-requires
serve-requires c =
    let is = c.self.invariant.0 in
    record { may_ask = tt; can = stage_can c.self.inside.hall 0 c.self.inside.primary is.0 (omega arith) is.1 is.2 }

pub invariant_of-self : goal.invariant_of-self
invariant_of-self c =
    staged_primary c.self.inside.hall c.serve.new.hall c.self.inside.primary c.serve.new.self c.self.inside.secondary
    (stage_served c.self.inside.hall c.serve.new.hall c.self.inside.primary c.serve.new.self c.serve.ensures.goes_on c.serve.ensures.alone)
    c.self.invariant
