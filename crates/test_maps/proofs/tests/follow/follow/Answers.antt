-- Both conditions are what a participant knows, and it still knows them after.
use Rattle.std.proofs.Common.{arith}
use Rattle.hp_base.specs.declared.caught.Caught.TheVariants as caught
use Rattle.hp_maps.proofs.ReadyLemmas.{ready_to_catch_up, tells_one_a_record}
use Rattle.test_maps.proofs.KnownLemmas.{ready_again}
use Rattle.test_maps.proofs.tests.follow.follow.Goals as goal

pub catch_up-requires-clause-can : goal.catch_up-requires-clause-can
catch_up-requires-clause-can g c = ready_to_catch_up c.requires.ready.0 c.args.maps.now c.args.records.now c.args.to c.requires.ready.1

pub catch_up-requires-clause-spare : goal.catch_up-requires-clause-spare
catch_up-requires-clause-spare g c =
    omega (
      arith,
      tells_one_a_record c.requires.ready.0 c.args.maps.now c.args.records.now c.args.to caught.Done c.requires.ready.1,
      c.requires.spare,
    )

pub returns-clause-ready : goal.returns-clause-ready
returns-clause-ready g c lists ready calls =
    ready_again lists c.args.maps.now c.catch_up.new.self c.args.records.now c.args.to c.catch_up.result ready c.catch_up.ensures.number
    c.catch_up.ensures.capacity c.catch_up.ensures.lags c.catch_up.ensures.chunks calls
