-- The table is as it was, and the log has grown.
use Rattle.std.proofs.Common.{refl}
use Rattle.hp_serve.proofs.InHalls.{alone_with}
use Rattle.hp_serve.proofs.SegmentSlots.{may_hold}
use Rattle.hp_serve.proofs.server.Server.hand_event.Goals as goal

pub take_and_hand-requires-clause-may : goal.take_and_hand-requires-clause-may
take_and_hand-requires-clause-may g c = may_hold c.requires.can.may

pub returns-clause-alone : goal.returns-clause-alone
returns-clause-alone g c =
    alone_with c.self.view_is (record { me = refl; socket = refl; plan = refl; deadline = refl }) refl refl
    c.take_and_hand.ensures.stays c.requires.can.tied
