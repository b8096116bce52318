-- The segment value was taken and put back.
use Rattle.std.proofs.Common.{ℕ, sym, subst}
use Rattle.hp_serve.proofs.SegmentSlots.{Took, may_hold, put_stays, took_has}
use Rattle.hp_serve.specs.SegmentSlot.{MayHold}
use Rattle.test_solo.proofs.Callers.{can_stay}
use Rattle.test_solo.proofs.solo_hall.steps.look.Goals as goal

pub take_segments-segs-requires-clause-serves : goal.take_segments-segs-requires-clause-serves
take_segments-segs-requires-clause-serves g c = subst (λ (n : ℕ). (g.H.Hall.state c.args.hall.now).serves n) (sym c.number-me.ensures) c.requires.can.may.serves

pub put_back-requires : goal.put_back-requires
put_back-requires g c =
    let old = g.H.Hall.state c.args.hall.now in
    let is : Took c.number-me.result c.take_segments-segs.result old (g.H.Hall.state c.take_segments-segs.new.hall) = record {
      may = subst (λ (n : ℕ). MayHold n old) (sym c.number-me.ensures) (may_hold c.requires.can.may);
      took = c.take_segments-segs.ensures.took;
      slots = c.take_segments-segs.ensures.slots;
      others = c.take_segments-segs.ensures.others;
      measure = c.take_segments-segs.ensures.measure;
    } in
    record { has = took_has is }

pub returns : goal.returns
returns g c =
    let old = g.H.Hall.state c.args.hall.now in
    let is : Took c.number-me.result c.take_segments-segs.result old (g.H.Hall.state c.take_segments-segs.new.hall) = record {
      may = subst (λ (n : ℕ). MayHold n old) (sym c.number-me.ensures) (may_hold c.requires.can.may);
      took = c.take_segments-segs.ensures.took;
      slots = c.take_segments-segs.ensures.slots;
      others = c.take_segments-segs.ensures.others;
      measure = c.take_segments-segs.ensures.measure;
    } in
    record { can = can_stay c.args.party.now c.number-me.ensures (put_stays is c.put_back.ensures.back) c.requires.can }
