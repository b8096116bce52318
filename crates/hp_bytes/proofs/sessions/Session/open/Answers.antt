-- The store is not too large, and all of its memory is free.
use Rattle.std.proofs.Common.{ap, ◌∙◌, arith}
use Rattle.std.specs.Prelude.{Err}
use Rattle.hp_bytes.proofs.OpeningLemmas.{opening_is, opening_plain, zeros_base, zeros_long}
use Rattle.hp_bytes.proofs.sessions.Session.open.Goals as goal

pub unreachable-requires : goal.unreachable-requires
unreachable-requires c =
    let is = (c.new.ensures.too_large c.in-Err-TooLarge.field-0-0).0 (c.in-Err-TooLarge.is ∙ ap Err c.in-Err-TooLarge.field-0-is) in
    omega (arith, is.0)

pub returns-clause-plain : goal.returns-clause-plain
returns-clause-plain c =
    opening_plain (record { heap = c.in_ok-heap.heap; store = c.in-Ok.store; labels = c.new-2.result }) c.in_ok-heap.ensures.plain (zeros_base c.in-Ok.store 0x100000000 0x800000 c.in-Ok.ensures.zeros) (zeros_long c.in-Ok.store 0x100000000 0x800000 c.in-Ok.ensures.zeros) c.new-2.ensures

pub returns-clause-session : goal.returns-clause-session
returns-clause-session c =
    opening_is (record { heap = c.in_ok-heap.heap; store = c.in-Ok.store; labels = c.new-2.result }) c.in_ok-heap.ensures.plain (zeros_base c.in-Ok.store 0x100000000 0x800000 c.in-Ok.ensures.zeros) (zeros_long c.in-Ok.store 0x100000000 0x800000 c.in-Ok.ensures.zeros) c.new-2.ensures
