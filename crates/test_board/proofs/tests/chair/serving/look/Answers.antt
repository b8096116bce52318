-- What was taken comes back as it was.
use Rattle.std.proofs.Common.{ℕ, sym, subst}
use Rattle.hp_serve.specs.SegmentSlot.{MayHold}
use Rattle.hp_serve.proofs.SegmentSlots.{Took, may_hold, took_has}
use Rattle.test_board.proofs.tests.chair.serving.look.Goals as goal

pub take_segments-segs-requires-clause-serves : goal.take_segments-segs-requires-clause-serves
take_segments-segs-requires-clause-serves g c =
    subst (λ (n : ℕ). (g.H.Hall.state c.args.hall.now).serves n) (sym c.number-me.ensures) c.requires.can.may.serves

pub put_back-requires : goal.put_back-requires
put_back-requires g c =
    let old = g.H.Hall.state c.args.hall.now in
    let is : Took c.number-me.result c.take_segments-segs.result old (g.H.Hall.state c.take_segments-segs.new.hall) = record {
      may = subst (λ (n : ℕ). MayHold n old) (sym c.number-me.ensures) (may_hold c.requires.can.may);
      took = c.take_segments-segs.ensures.took;
      slots = c.take_segments-segs.ensures.slots;
      others = c.take_segments-segs.ensures.others;
      measure = c.take_segments-segs.ensures.measure;
    } in
    record { has = took_has is }
