-- An allocation leaves the tie.
use Rattle.std.proofs.Common.{refl}
use Rattle.hp_external.proofs.TieSteps.{tied_by}
use Rattle.test_maps.proofs.WorldLemmas.{tied_alloc}
use Rattle.test_maps.proofs.tests.external.calls.alloc_for.Goals as goal

pub returns : goal.returns
returns c =
    let all = c.args.all.now in
    let ranges = all.names.heaps.plain.ranges in
    let room = c.reserve.new.self.plain in
    let same = c.reserve.ensures.same.plain in
    let given = c.alloc.new.self.plain in
    record {
      first =
          tied_alloc ranges all.segs.ranges 0 all.first.rows room given _ _ _ c.alloc.ensures.step.heap
          (tied_by ranges ranges all.segs.ranges all.segs.ranges 0 all.first.rows all.first.rows all.heap.plain room refl refl refl same c.requires.first);
      second =
          tied_alloc ranges all.segs.ranges 1 all.second.rows room given _ _ _ c.alloc.ensures.step.heap
          (tied_by ranges ranges all.segs.ranges all.segs.ranges 1 all.second.rows all.second.rows all.heap.plain room refl refl refl same c.requires.second);
      first_room = c.requires.first_room;
      second_room = c.requires.second_room;
    }
