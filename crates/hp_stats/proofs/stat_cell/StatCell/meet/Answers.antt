use Rattle.std.proofs.Common.{subst}
use Rattle.hp_stats.specs.Pairs.{AreAmong}
use Rattle.hp_stats.specs.PenInside.{pen_view}
use Rattle.hp_stats.specs.StatViews.{PenView, ReaderView}
use Rattle.hp_stats.proofs.stat_cell.StatCell.meet.Goals as goal

pub returns-clause-among : goal.returns-clause-among
returns-clause-among g c =
    subst (λ (p : PenView). AreAmong p.published c.args.reader.now.seen) c.pen.view_is
    (subst (λ (r : ReaderView). AreAmong (pen_view c.pen.inside).published r.seen) c.reader.view_is c.compare.ensures.among)
