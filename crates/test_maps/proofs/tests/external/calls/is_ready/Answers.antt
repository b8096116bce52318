-- There is room for a call, and the heap was looked at.
use Rattle.std.proofs.Common.{◌<◌, arith, rules}
use Rattle.test_maps.proofs.tests.external.calls.is_ready.Goals as goal

pub returns-clause-ready : goal.returns-clause-ready
returns-clause-ready c is =
    let room : 0 < c.reserve.new.self.spare = grind arith in
    record { room = room; that = c.is_that.ensures is }
