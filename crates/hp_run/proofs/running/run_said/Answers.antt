use Rattle.std.proofs.Common.{sym, subst}
use Rattle.hp_script.specs.Limits.{AreParticipantLines}
use Rattle.hp_run.proofs.running.run_said.Goals as goal

pub of-requires : goal.of-requires
of-requires g c = subst AreParticipantLines (sym c.deref-2.ensures.value) c.requires.runnable.lines
