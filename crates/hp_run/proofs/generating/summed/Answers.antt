use Rattle.std.proofs.Common.{◌≡◌, Some, ap, refl, sym, ◌∙◌}
use Rattle.std.proofs.lemmas.Option.{none-some}
use Rattle.hp_run.specs.Making.IsMade.{wrote_nothing}
use Rattle.hp_run.specs.Refusals.{refusal_of}
use Rattle.hp_run.specs.Summary.{numbers_of, numbers_text}
use Rattle.hp_run.specs.declared.summary.Counts.{Counts}
use Rattle.hp_run.proofs.MadeLemmas.{made_more}
use Rattle.hp_run.proofs.generating.summed.Goals as goal

pub returns-in-Ok-clause-outcome : goal.returns-in-Ok-clause-outcome
returns-in-Ok-clause-outcome g c =
    let counted = c.in-Ok.counted in
    let end = c.in-Ok.ensures in
    made_more _ _ _ _ _ _
    (λ text is. record {
      ended = end.ended;
      answers = end.answers;
      heaps = counted.heaps.items;
      segs = counted.segs;
      names = end.names;
      tables = end.tables;
      watchers = end.watchers;
      end = end.end;
      is = is ∙ ap (λ (counts : Counts). numbers_text (numbers_of counts counted.heaps.items counted.segs)) end.counts;
    }) c.told.ensures.outcome

-- the workload is not refused
pub returns-in-Err-Refused-clause-outcome : goal.returns-in-Err-Refused-clause-outcome
returns-in-Err-Refused-clause-outcome g c =
    let due : refusal_of c.args.bytes.now ≡ Some c.in-Err-Refused.refusal = rw c.in-Err-Refused.field-0-is at c.in-Err-Refused.ensures in
    absurd (none-some _ (sym c.requires.accepted ∙ due))

pub returns-in-Err-OutOfMemory-clause-outcome : goal.returns-in-Err-OutOfMemory-clause-outcome
returns-in-Err-OutOfMemory-clause-outcome g c = wrote_nothing refl
