use Rattle.std.proofs.Common.{◌+◌, length, refl, ◌∙◌}
use Rattle.hp_frame.proofs.FaultLemmas.{range-to_end}
use Rattle.hp_frame.proofs.FrameLemmas.{param_behind}
use Rattle.hp_frame.proofs.view.FrameView.param.Goals as goal

pub returns-clause-text : goal.returns-clause-text
returns-clause-text c =
    let bytes = c.self.inside.bytes.now in
    rw (← c.self.view_is) (range-to_end bytes (4 + c.self.inside.name_len) (length bytes) refl ∙ param_behind bytes c.self.inside.name_len c.self.inside.body c.self.invariant)
