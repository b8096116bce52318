use Rattle.thm_run.proofs.WhatWentBack.DropsOn.{drops_open}
use Rattle.thm_run.proofs.LineSteps.Onward.{drops_line}
use Rattle.thm_run.proofs.LineSteps.Resting.{drops_rest}
use Rattle.thm_run.proofs.laws.drops_law.Goals as goal

pub returns-clause-opens : goal.returns-clause-opens
returns-clause-opens c = drops_open

pub returns-clause-goes_on : goal.returns-clause-goes_on
returns-clause-goes_on c = drops_line

pub returns-clause-rests : goal.returns-clause-rests
returns-clause-rests c = drops_rest
