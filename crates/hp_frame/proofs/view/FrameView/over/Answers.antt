use Rattle.std.proofs.Common.{◌+◌, length, get_or, refl, sym, ◌∙◌, arith}
use Rattle.hp_frame.proofs.FaultLemmas.{range-to_end}
use Rattle.hp_frame.proofs.FrameLemmas.{is_frame}
use Rattle.hp_frame.proofs.view.FrameView.over.Goals as goal

pub invariant_of-result : goal.invariant_of-result
invariant_of-result c =
    let bytes = c.args.bytes.now in
    let behind = sym (range-to_end bytes (4 + get_or bytes 1 0) (length bytes) refl) ∙ c.body_of-body.ensures.param in
    is_frame bytes c.args.kind c.body_of-body.result (λ i. omega (arith, c.type_inv.bytes i)) c.requires behind c.body_of-body.ensures.kind c.body_of-body.ensures.widths

pub returns-clause-spelled : goal.returns-clause-spelled
returns-clause-spelled c = (invariant_of-result c).spelled
