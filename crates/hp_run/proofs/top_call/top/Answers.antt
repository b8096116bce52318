use Rattle.std.proofs.Common.{Some, None, rules, refl}
use Rattle.hp_words.specs.declared.form.Form.TheVariants.{Solo, Run, Check, Text, Summary}
use Rattle.hp_run.specs.Program.Ends.{by_form}
use Rattle.hp_run.proofs.FaultLemmas.{made_reads, put_reads, unread}
use Rattle.hp_run.proofs.ProgramLemmas.{settled_by_end, usage_written}
use Rattle.hp_run.proofs.top_call.top.Goals as goal

pub returns-in-Ok-Some-Solo-clause-outcome : goal.returns-in-Ok-Some-Solo-clause-outcome
returns-in-Ok-Some-Solo-clause-outcome g c = by_form (Some Solo) (search rules) c.solo_by_kits.ensures.outcome

pub returns-in-Ok-Some-Run-clause-outcome : goal.returns-in-Ok-Some-Run-clause-outcome
returns-in-Ok-Some-Run-clause-outcome g c = by_form (Some Run) (search rules) c.run_and_report.ensures.outcome

pub returns-in-Ok-Some-Check-clause-outcome : goal.returns-in-Ok-Some-Check-clause-outcome
returns-in-Ok-Some-Check-clause-outcome g c = by_form (Some Check) (search rules) c.check.ensures.outcome

pub returns-in-Ok-Some-Text-clause-outcome : goal.returns-in-Ok-Some-Text-clause-outcome
returns-in-Ok-Some-Text-clause-outcome g c =
    by_form (Some (Text c.in-Ok-Some-Text.start c.in-Ok-Some-Text.lines)) (search rules) (refl, c.generate_text.ensures.outcome)

pub returns-in-Ok-Some-Summary-clause-outcome : goal.returns-in-Ok-Some-Summary-clause-outcome
returns-in-Ok-Some-Summary-clause-outcome g c =
    by_form (Some (Summary c.in-Ok-Some-Summary.start c.in-Ok-Some-Summary.lines)) (search rules) (refl, c.summary_by_kits.ensures.outcome)

pub returns-in-Ok-Some-Summary-clause-settled : goal.returns-in-Ok-Some-Summary-clause-settled
returns-in-Ok-Some-Summary-clause-settled g c =
    settled_by_end _ _ _ _ _ _ _ _ _ (returns-in-Ok-Some-Summary-clause-outcome g c)

pub returns-in-Ok-Some-Summary-clause-source_faults : goal.returns-in-Ok-Some-Summary-clause-source_faults
returns-in-Ok-Some-Summary-clause-source_faults g c = unread _ _ (made_reads _ _ _ _ _ c.summary_by_kits.ensures.outcome)

pub returns-in-Ok-Some-Text-clause-settled : goal.returns-in-Ok-Some-Text-clause-settled
returns-in-Ok-Some-Text-clause-settled g c = settled_by_end _ _ _ _ _ _ _ _ _ (returns-in-Ok-Some-Text-clause-outcome g c)

pub returns-in-Ok-Some-Text-clause-source_faults : goal.returns-in-Ok-Some-Text-clause-source_faults
returns-in-Ok-Some-Text-clause-source_faults g c = unread _ _ (made_reads _ _ _ _ _ c.generate_text.ensures.outcome)

pub returns-in-Ok-None-clause-outcome : goal.returns-in-Ok-None-clause-outcome
returns-in-Ok-None-clause-outcome g c = by_form None (search rules) (usage_written _ _ _ _ _ c.written.ensures.written)

pub returns-in-Ok-None-clause-settled : goal.returns-in-Ok-None-clause-settled
returns-in-Ok-None-clause-settled g c = settled_by_end _ _ _ _ _ _ _ _ _ (returns-in-Ok-None-clause-outcome g c)

pub returns-in-Ok-None-clause-source_faults : goal.returns-in-Ok-None-clause-source_faults
returns-in-Ok-None-clause-source_faults g c = unread _ _ (put_reads _ _ _ _ _ _ c.written.ensures.written refl)
