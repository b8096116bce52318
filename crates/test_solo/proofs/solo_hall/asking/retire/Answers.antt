use Rattle.hp_serve.proofs.SegmentSlots.{may_hold}
use Rattle.test_solo.proofs.Callers.{can_parts}
use Rattle.test_solo.proofs.solo_hall.asking.retire.Goals as goal

pub retire-requires-clause-may : goal.retire-requires-clause-may
retire-requires-clause-may g c = may_hold c.requires.can.may

pub returns : goal.returns
returns g c = record { can = can_parts c.args.party.now c.retire.ensures.stays c.requires.can }
