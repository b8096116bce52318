-- One of the two serves, and the other stays as it was.
use Rattle.std.proofs.Common.{arith}
use Rattle.test_solo.proofs.Callers.{stage_can, stage_served}
use Rattle.test_solo.proofs.StageLemmas.{staged_secondary}
use Rattle.test_solo.proofs.tests.stage.Stage.serve_secondary.Goals as goal

pub serve-requires : goal.serve-requires
serve-requires c =
    let is = c.self.invariant.0 in
    record { can = stage_can c.self.inside.hall 1 c.self.inside.secondary.party is.0 (omega arith) is.1 is.3 }

pub invariant_of-self : goal.invariant_of-self
invariant_of-self c =
    staged_secondary c.self.inside.hall c.serve.new.hall c.self.inside.primary c.self.inside.secondary c.serve.new.self
    (stage_served c.self.inside.hall c.serve.new.hall c.self.inside.secondary.party c.serve.new.self.party c.serve.ensures.goes_on c.serve.ensures.alone)
    c.serve.ensures.context c.self.invariant
