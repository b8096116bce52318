use Rattle.hp_frame.proofs.FrameLemmas.{frame_no_fault}
use Rattle.hp_frame.proofs.laws.frames_have_no_fault.Goals as goal

pub returns : goal.returns
returns c = frame_no_fault
