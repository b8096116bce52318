use Rattle.test_solo.proofs.Callers.{can_idle}
use Rattle.test_solo.proofs.solo_hall.steps.pause_before.Goals as goal

pub returns-then-read-until : goal.returns-then-read-until
returns-then-read-until g c = record { can = can_idle c.args.party.now c.number.ensures c.pause.ensures.idles c.read.ensures.can }
