use Rattle.std.proofs.Common.{◌≡◌, ℕ, ◌+◌, ◌++◌, length, take, drop, List, Some, subst, ap, arith}
use Rattle.hp_base.specs.Streams.{GivesBytes}
use Rattle.hp_base.specs.MemStreams.{SourceState}
use Rattle.hp_base.proofs.StreamLemmas.{GivesBytes-next, slice_next}
use Rattle.hp_base.proofs.source.MemSourceSource.read.Goals as goal

pub returns-clause-bytes : goal.returns-clause-bytes
returns-clause-bytes c =
    let here : drop c.self.inside.at c.self.inside.bytes.items ≡ c.args.self.now.left = ap (λ (state : SourceState). state.left) c.self.view_is in
    let next : c.copy_from_slice.new.self ≡ take c.min-n.result (drop c.self.inside.at c.self.inside.bytes.items) =
    slice_next c.self.inside.bytes.items c.deref.result.now c.copy_from_slice.new.self c.self.inside.at c.min-n.result c.deref.ensures.value c.copy_from_slice.ensures.after in
    let given : GivesBytes (Some (drop c.self.inside.at c.self.inside.bytes.items)) (Some (drop (c.self.inside.at + c.min-n.result) c.self.inside.bytes.items))
    (length c.args.buf.now) (c.copy_from_slice.new.self ++ c.split_at_mut-front.result.1.now) c.min-n.result =
    GivesBytes-next c.self.inside.bytes.items c.copy_from_slice.new.self c.split_at_mut-front.result.1.now c.self.inside.at c.min-n.result (length c.args.buf.now)
    (omega arith) (omega (arith, c.min-n.ensures, c.min.ensures)) (omega (arith, c.min-n.ensures, c.len.ensures, c.self.invariant.within)) next in
    subst (λ (left : List ℕ). GivesBytes (Some left) (Some (drop (c.self.inside.at + c.min-n.result) c.self.inside.bytes.items))
    (length c.args.buf.now) (c.copy_from_slice.new.self ++ c.split_at_mut-front.result.1.now) c.min-n.result) here given
