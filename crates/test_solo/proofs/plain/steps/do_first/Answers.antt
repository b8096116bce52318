use Rattle.test_solo.proofs.plain.steps.do_first.Goals as goal

pub call_across-requires-clause-first : goal.call_across-requires-clause-first
call_across-requires-clause-first c = c.requires.first 0
