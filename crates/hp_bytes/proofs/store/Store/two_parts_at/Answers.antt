-- Two elements are one, or either is refused, or their data are apart.
use Rattle.std.proofs.Common.{sym}
use Rattle.std.specs.Prelude.{Some, None}
use Rattle.hp_bytes.proofs.StoreLemmas.{parts_apart, two_first, two_same, two_second}
use Rattle.hp_bytes.proofs.store.Store.two_parts_at.Goals as goal

pub returns-then-a-b-clause-refused : goal.returns-then-a-b-clause-refused
returns-then-a-b-clause-refused c = two_same c.args.a c.args.b c.args.self.now c.args.heap.now.plain c.if-a-b.true

pub returns-in-Err-clause-refused : goal.returns-in-Err-clause-refused
returns-in-Err-clause-refused c = two_first c.args.a c.args.b c.args.self.now c.args.heap.now.plain c.in-Err.fault c.if-a-b.false c.in-Err.ensures.refused

pub returns-in-Err-part_at-clause-refused : goal.returns-in-Err-part_at-clause-refused
returns-in-Err-part_at-clause-refused c =
    two_second c.args.a c.args.b c.args.self.now c.args.heap.now.plain (Some c.in-Err-part_at.fault) c.if-a-b.false c.in-Ok.ensures.refused c.in-Err-part_at.ensures.refused

pub returns-in-Ok-part_at-clause-refused : goal.returns-in-Ok-part_at-clause-refused
returns-in-Ok-part_at-clause-refused c =
    two_second c.args.a c.args.b c.args.self.now c.args.heap.now.plain None c.if-a-b.false c.in-Ok.ensures.refused c.in-Ok-part_at.ensures.refused

pub returns-in-Ok-part_at-clause-apart : goal.returns-in-Ok-part_at-clause-apart
returns-in-Ok-part_at-clause-apart c =
    parts_apart c.args.a c.args.b c.args.self.now c.args.heap.now.plain c.in-Ok.first c.in-Ok-part_at.second c.sound.ensures.tiled c.if-a-b.false
    (sym c.in-Ok.ensures.refused) (sym c.in-Ok-part_at.ensures.refused) c.in-Ok.ensures.part c.in-Ok-part_at.ensures.part
