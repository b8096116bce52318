-- All of the table goes, and a slice has few rows.
use Rattle.std.proofs.Common.{arith, ap, length}
use Rattle.hp_serve.proofs.attaching.empty.Goals as goal

pub unmap_all-requires-clause-spare : goal.unmap_all-requires-clause-spare
unmap_all-requires-clause-spare g c = omega (arith, c.rows-rows.type_inv.1, ap length c.rows-rows.ensures.rows)
