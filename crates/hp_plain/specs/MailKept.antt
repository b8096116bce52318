-- What was done in a hall, kept one after another. No public clause cites this module.
use Rattle.std.specs.Prelude.{ℕ, List, [], ◌∷◌, ◌++◌, slice_get}
use Rattle.hp_plain.specs.declared.mail_log.MailPast.{MailPast}
use Rattle.hp_plain.specs.declared.mail_log.MailPast.TheVariants.{Nothing, Post, Fetch, Take, Give, Other}
use Rattle.hp_hall.specs.Mail.{MailStep, Posts, Fetches, Takes, Gives, Notes}

-- all steps, in their order
abbrev pub steps_in : MailPast → List (ℕ × MailStep)
steps_in Nothing = []
steps_in (Post before who to frame action posted) =
    before.value ++ (who.value, Posts to.value frame.value action.value posted.value) ∷ []
steps_in (Fetch before who mailbox) = before.value ++ (who.value, Fetches (slice_get mailbox.value 0)) ∷ []
steps_in (Take before who number kept) = before.value ++ (who.value, Takes number.value kept.value) ∷ []
steps_in (Give before who number kept) = before.value ++ (who.value, Gives number.value kept.value) ∷ []
steps_in (Other before who note) = before.value ++ (who.value, Notes note.value) ∷ []
