use Rattle.test_solo.proofs.SoloOpened.{cut_grown}
use Rattle.test_solo.proofs.solo_hall.asking.grow_and_cut.Goals as goal

pub returns : goal.returns
returns c =
    cut_grown c.args.me c.args.run.now.addr c.args.run.now c.args.heap.now.plain c.add_run.new.self.plain c.cut_pages.result c.add_run.ensures.heap
    c.cut_pages.ensures.pages
