use Rattle.std.proofs.Common.{ap, ◌∙◌}
use Rattle.hp_fbarray.specs.FreeRuns.{longest_free_run}
use Rattle.hp_fbarray.proofs.AnswerLemmas.{longest_if_short}
use Rattle.hp_fbarray.proofs.mask.Mask.longest_free.Goals as goal

pub returns-in-TooShort-clause-value : goal.returns-in-TooShort-clause-value
returns-in-TooShort-clause-value c =
    longest_if_short c.self.inside.places _ c.in-TooShort.longest c.in-TooShort.ensures.short
    ∙ ap longest_free_run c.self.view_is
