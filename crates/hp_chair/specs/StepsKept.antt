-- What was done by one participant, kept one step after another. No public clause cites this module.
use Rattle.std.specs.Prelude.{List, [], ◌∷◌, ◌++◌}
use Rattle.hp_chair.specs.declared.step_log.StepPast.{StepPast}
use Rattle.hp_chair.specs.declared.step_log.StepPast.TheVariants.{Nothing, Post, Fetch, Take, Give, Other}
use Rattle.hp_hall.specs.Mail.{MailStep, Posts, Fetches, Takes, Gives, Notes}

-- all steps, in their order
abbrev pub steps_in : StepPast → List MailStep
steps_in Nothing = []
steps_in (Post before to frame action posted) = before.value ++ Posts to frame.value action posted ∷ []
steps_in (Fetch before frame) = before.value ++ Fetches frame.value ∷ []
steps_in (Take before number kept) = before.value ++ Takes number kept.value ∷ []
steps_in (Give before number kept) = before.value ++ Gives number kept.value ∷ []
steps_in (Other before note) = before.value ++ Notes note ∷ []
