use Rattle.std.proofs.Common.{subst}
use Rattle.hp_stats.specs.Pairs.{IsNotBelow}
use Rattle.hp_stats.specs.StatViews.{ReaderView}
use Rattle.hp_stats.proofs.stat_cell.StatCell.read.Goals as goal

pub returns-clause-not_below : goal.returns-clause-not_below
returns-clause-not_below g c = subst (λ (r : ReaderView). IsNotBelow r.seen c.read.result.entries) c.reader.view_is c.read.ensures.not_below
