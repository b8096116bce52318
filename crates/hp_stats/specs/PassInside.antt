-- How a pass is kept. No public clause cites this module.
use Rattle.std.specs.Prelude.{map}
use Rattle.hp_stats.specs.declared.stat_pass.StatPass.TheInside.{Inside}
use Rattle.hp_stats.specs.StatViews.{PassView}

-- it has a reader for each heap
abbrev pub pass_view : Inside → PassView
pass_view a = record { cells = map (λ r. r.cell) a.readers.items; seen = map (λ r. r.seen) a.readers.items }
