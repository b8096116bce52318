use Rattle.hp_ring.specs.Asked.{asked_of}
use Rattle.hp_ring.proofs.FaultOrder.{has_slots}
use Rattle.hp_ring.proofs.ring.Ring.new.Goals as goal

pub made-requires : goal.made-requires
made-requires c = has_slots (asked_of c.args.slots c.args.senders c.args.zone.now.len) c.in_ok-judge.ensures.ok
