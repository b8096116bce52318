use Rattle.std.proofs.Common.{ap, ◌∙◌}
use Rattle.hp_fbarray.specs.Answers.{free_run}
use Rattle.hp_fbarray.proofs.AnswerLemmas.{is_free_run}
use Rattle.hp_fbarray.proofs.mask.Mask.find_run.Goals as goal

pub returns-clause-value : goal.returns-clause-value
returns-clause-value c =
    is_free_run c.self.inside.places c.args.n c.search.result c.search.ensures.found c.search.ensures.short
    ∙ ap (λ mask. free_run mask c.args.n) c.self.view_is
