use Rattle.std.proofs.Common.{◌≡◌, Some, None, ◌∙◌}
use Rattle.hp_frame.proofs.SpellingLemmas.{same_message}
use Rattle.hp_frame.proofs.FrameLemmas.{frame_no_fault}
use Rattle.hp_frame.proofs.reading.read.Goals as goal

pub returns-in_err-kind-clause-only : goal.returns-in_err-kind-clause-only
returns-in_err-kind-clause-only c = λ m s.
    let none : Some c.in_err-kind.field-0.0 ≡ None = c.in_err-kind.ensures.fault ∙ frame_no_fault c.args.bytes.now m s in
    absurd cc

pub returns-clause-only : goal.returns-clause-only
returns-clause-only c = λ m s. same_message c.args.bytes.now c.over.result.message m c.over.ensures.spelled s
