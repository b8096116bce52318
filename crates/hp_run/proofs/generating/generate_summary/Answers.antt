use Rattle.std.proofs.Common.{◌≡◌, ℕ, List, length, map, ap, ◌∙◌, subst, refl, rules, arith}
use Rattle.hp_script.specs.DrawnWords.GeneratedText.{generated_text}
use Rattle.hp_run.specs.Making.{IsSummaryFor}
use Rattle.hp_run.specs.Making.IsMade.{wrote_nothing}
use Rattle.hp_run.specs.Refusals.{refusal_of}
use Rattle.hp_run.proofs.CheckedLemmas.{generated_done}
use Rattle.hp_run.proofs.MadeLemmas.{made_more}
use Rattle.hp_run.proofs.generating.generate_summary.Goals as goal

pub summed-requires : goal.summed-requires
summed-requires g c =
    let text : c.as_slice.result.now ≡ generated_text c.args.start c.args.lines = search rules in
    let few = c.requires.few in
    let short = c.generated_law.ensures.short c.args.start c.args.lines few in
    record {
      short = omega (arith, ap (λ (text : List ℕ). length text) text, short, few);
      accepted = ap refusal_of text ∙ generated_done c.args.start c.args.lines (c.generated_law.ensures.read c.args.start c.args.lines few);
      count = c.requires.count;
      unused = c.requires.unused;
    }

pub returns-in-Ok-clause-outcome : goal.returns-in-Ok-clause-outcome
returns-in-Ok-clause-outcome g c =
    let text : c.as_slice.result.now ≡ generated_text c.args.start c.args.lines = search rules in
    made_more _ _ _ _ _ _ (λ summary is. subst (λ (input : List ℕ). IsSummaryFor (map g.M.Mapper.may_fail c.args.mappers.items) input summary) text is)
    c.summed.ensures.outcome

pub returns-in-Err-clause-outcome : goal.returns-in-Err-clause-outcome
returns-in-Err-clause-outcome g c = wrote_nothing refl
