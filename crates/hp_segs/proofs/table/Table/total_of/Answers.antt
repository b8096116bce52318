-- The number of the socket, which is small; other sockets have no row.
use Rattle.std.proofs.Common.{sym, arith}
use Rattle.hp_log.specs.Log.{table_of}
use Rattle.hp_segs.specs.Slots.{kept_segments}
use Rattle.hp_segs.proofs.RowTables.KeptSlots.{rows_kept}
use Rattle.hp_segs.proofs.RowTables.KeptTable.{no_bytes}
use Rattle.hp_segs.proofs.QueryLemmas.{total_fits}
use Rattle.hp_segs.proofs.TotalLemmas.{total_at}
use Rattle.hp_segs.proofs.table.Table.total_of.Goals as goal

pub returns-then-socket-lt-MAX_SOCKETS-clause-total : goal.returns-then-socket-lt-MAX_SOCKETS-clause-total
returns-then-socket-lt-MAX_SOCKETS-clause-total c =
    rw (← c.self.view_is, c.deref.ensures)
    (total_at (kept_segments c.self.inside.kept.items (table_of c.self.inside.log.items)) c.self.inside.totals.value c.args.socket c.self.invariant.counted
    c.if-socket-lt-MAX_SOCKETS.true)

pub returns-then-socket-lt-MAX_SOCKETS-clause-fits : goal.returns-then-socket-lt-MAX_SOCKETS-clause-fits
returns-then-socket-lt-MAX_SOCKETS-clause-fits c =
    let rows = table_of c.self.inside.log.items in
    let at =
    total_at (kept_segments c.self.inside.kept.items rows) c.self.inside.totals.value c.args.socket c.self.invariant.counted c.if-socket-lt-MAX_SOCKETS.true in
    let fits = total_fits c.self.invariant.laid (kept_segments c.self.inside.kept.items rows) c.args.socket (rows_kept c.self.inside.kept.items rows) in
    rw c.deref.ensures (omega (arith, at, fits))

pub returns-else-socket-lt-MAX_SOCKETS-clause-total : goal.returns-else-socket-lt-MAX_SOCKETS-clause-total
returns-else-socket-lt-MAX_SOCKETS-clause-total c =
    rw (← c.self.view_is) (sym (no_bytes c.self.invariant c.args.socket c.if-socket-lt-MAX_SOCKETS.false))
