-- How a pen is kept. No public clause cites this module.
use Rattle.std.specs.Prelude.{◌≡◌, [], true}
use Rattle.crossbeam_utils.specs.Seq.{cell_view}
use Rattle.hp_stats.specs.declared.stat_pen.StatPen.TheInside.{Inside}
use Rattle.hp_stats.specs.StatViews.{PenView}

abbrev pub pen_view : Inside → PenView
pen_view a = record { cell = a.token.table_id; published = (cell_view a.token).published }

-- it may publish, and has seen nothing
pub record IsPen (a : Inside) : Type 0 where
  pub pen : (cell_view a.token).pen ≡ true
  pub seen : (cell_view a.token).seen ≡ []
