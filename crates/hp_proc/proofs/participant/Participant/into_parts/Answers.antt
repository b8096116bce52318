-- What it knows of its lines has no watchers and no validators.
use Rattle.std.proofs.Common.{◌∙◌, [], ap, sym}
use Rattle.hp_proc.specs.ParticipantView.{ParticipantView, knowing}
use Rattle.hp_proc.proofs.participant.Participant.into_parts.Goals as goal

pub returns-clause-context : goal.returns-clause-context
returns-clause-context g c = sym c.sound.ensures ∙ ap (λ (doer : ParticipantView). knowing [] [] doer.context) c.self.view_is
