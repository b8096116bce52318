use Rattle.std.proofs.Common.{Some, ap, ◌∙◌}
use Rattle.hp_fbarray.specs.FreeRuns.{first_free_run}
use Rattle.hp_fbarray.proofs.AnswerLemmas.{none_if_short}
use Rattle.hp_fbarray.proofs.RunValues.{is_first_free_run}
use Rattle.hp_fbarray.proofs.mask.Mask.find_n_free.Goals as goal

pub returns-in-Found-clause-value : goal.returns-in-Found-clause-value
returns-in-Found-clause-value c =
    is_first_free_run c.self.inside.places c.args.from c.args.n (Some c.in-Found.start) c.in-Found.ensures.found tt
    ∙ ap (λ mask. first_free_run mask c.args.from c.args.n) c.self.view_is

pub returns-in-TooShort-clause-value : goal.returns-in-TooShort-clause-value
returns-in-TooShort-clause-value c =
    none_if_short c.self.inside.places c.args.from c.args.n c.in-TooShort.longest c.in-TooShort.ensures.short
    ∙ ap (λ mask. first_free_run mask c.args.from c.args.n) c.self.view_is
