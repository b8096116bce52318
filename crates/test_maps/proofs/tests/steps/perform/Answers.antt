-- What is known of the table stays known.
use Rattle.test_maps.proofs.tests.steps.perform.Goals as goal

pub returns-in-Attach : goal.returns-in-Attach
returns-in-Attach g c = c.attach.ensures c.args.records.now c.args.reached.now c.requires

pub returns-in-Detach : goal.returns-in-Detach
returns-in-Detach g c = c.detach.ensures c.args.records.now c.args.reached.now c.requires

pub returns-in-Leave : goal.returns-in-Leave
returns-in-Leave g c = c.leave.ensures c.args.records.now c.args.reached.now c.requires
