-- What was taken is a segment value.
use Rattle.std.proofs.Common.{subst}
use Rattle.hp_base.specs.declared.limits.TheConstants.{MAX_HEAPS}
use Rattle.hp_hall.specs.HallCalls.{HasTaken}
use Rattle.hp_serve.proofs.calls.take_segments.Goals as goal

pub returns-clause-took : goal.returns-clause-took
returns-clause-took g c =
    subst (λ kept. HasTaken c.args.me MAX_HEAPS kept (g.H.Hall.state c.args.hall.now) (g.H.Hall.state c.take.new.self)) c.into_segments.ensures
    c.take.ensures.took
