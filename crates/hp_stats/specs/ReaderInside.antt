-- How a reader is kept. No public clause cites this module.
use Rattle.crossbeam_utils.specs.Seq.{cell_view}
use Rattle.hp_stats.specs.declared.reader.Reader.TheInside.{Inside}
use Rattle.hp_stats.specs.StatViews.{ReaderView}

abbrev pub reader_view : Inside → ReaderView
reader_view a = record { cell = a.token.table_id; seen = (cell_view a.token).seen }
