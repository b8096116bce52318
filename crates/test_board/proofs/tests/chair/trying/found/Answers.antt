-- The first has the segment value, and the second may try again.
use Rattle.hp_serve.proofs.SegmentSlots.{Took, took_has}
use Rattle.test_board.proofs.tests.chair.trying.found.Goals as goal

pub put_back-requires : goal.put_back-requires
put_back-requires g c =
    let is : Took 0 c.take_segments-segs.result (g.H.Hall.state c.args.first.now) (g.H.Hall.state c.take_segments-segs.new.hall) = record {
      may = c.requires.first;
      took = c.take_segments-segs.ensures.took;
      slots = c.take_segments-segs.ensures.slots;
      others = c.take_segments-segs.ensures.others;
      measure = c.take_segments-segs.ensures.measure;
    } in
    record { has = took_has is }
