-- It is ready for the records up to the new number, and then again.
use Rattle.std.proofs.Common.{◌∙◌, rules}
use Rattle.test_maps.specs.Known.{worked_lists}
use Rattle.test_maps.proofs.KnownLemmas.{ready_for_more}
use Rattle.test_maps.proofs.tests.steps.catch.Goals as goal

pub returns : goal.returns
returns g c = record {
  capacity = c.follow.ensures.capacity ∙ c.requires.capacity;
  ready = λ calls.
      c.follow.ensures.ready worked_lists
      (ready_for_more c.args.maps.now c.args.records.now c.args.reached.now c.args.to (c.requires.ready (search rules)) (search rules)
      (search rules)) calls;
}
