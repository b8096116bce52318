use Rattle.std.proofs.Common.{sym, subst}
use Rattle.hp_ring.specs.PassViews.{AreSenders}
use Rattle.hp_ring.proofs.PassLaws.{last_ring, new_are, still_are}
use Rattle.test_shared.proofs.tests.ring.plays.Goals as goal

pub do_steps-does-requires-clause-sender : goal.do_steps-does-requires-clause-sender
do_steps-does-requires-clause-sender g c =
    last_ring c.in-Ok.ring c.in-Ok.senders.items c.pop.new.self.items c.in-Some.sender
    (subst (AreSenders c.in-Ok.ring) (sym c.in-Ok.ensures.senders) (new_are c.in-Ok.ring)) c.in-Some.ensures.items

pub close-left-requires-clause-senders : goal.close-left-requires-clause-senders
close-left-requires-clause-senders g c =
    let ring = c.in-Ok.ring in
    let all = subst (AreSenders ring) (sym c.in-Ok.ensures.senders) (new_are ring) in
    subst (AreSenders ring) (sym c.in_ok-push.ensures.items)
    (still_are ring c.pop.new.self.items c.in-Some.sender c.do_steps-does.new.sender (subst (AreSenders ring) c.in-Some.ensures.items all)
    c.do_steps-does.ensures.sender.0 c.do_steps-does.ensures.sender.1)
