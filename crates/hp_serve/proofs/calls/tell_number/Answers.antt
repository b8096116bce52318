-- What is acknowledged is told by what became of the catching up.
use Rattle.std.proofs.Common.{inr, sym, subst}
use Rattle.hp_base.specs.declared.caught.Caught.{Caught}
use Rattle.hp_hall.specs.HallCalls.{HasComeTo}
use Rattle.hp_serve.specs.Serving.{tells_after_catching}
use Rattle.hp_serve.specs.Tied.{own_after}
use Rattle.hp_serve.proofs.calls.tell_number.Goals as goal

-- the segment value is in hand
pub ack-requires-clause-may : goal.ack-requires-clause-may
ack-requires-clause-may g c = inr c.requires.hand

pub returns-in-Done-clause-own : goal.returns-in-Done-clause-own
returns-in-Done-clause-own g c =
    let old = g.H.Hall.state c.args.hall.now in
    subst
    (λ (caught : Caught). HasComeTo c.args.me (own_after caught c.args.records (old.own c.args.me)) (tells_after_catching caught c.args.records) old
    (g.H.Hall.state c.ack.new.self))
    (sym c.in-Done.is) c.ack.ensures.own
