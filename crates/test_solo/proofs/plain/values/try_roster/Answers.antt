use Rattle.std.proofs.Common.{Some, ap, ◌∙◌}
use Rattle.hp_base.specs.declared.limits.TheConstants.{MAX_HEAPS}
use Rattle.hp_plain.proofs.Given.{known}
use Rattle.hp_hall.proofs.Gives.{gives_same}
use Rattle.hp_hall.proofs.HallStates.{others_then}
use Rattle.test_solo.proofs.plain.values.try_roster.Goals as goal

pub give-requires-clause-gives : goal.give-requires-clause-gives
give-requires-clause-gives c =
    gives_same (known c.try_take.new.self c.args.me) MAX_HEAPS c.into_segments-segs.result
    (c.in_ok-try_take.ensures.took.taken ∙ ap Some c.into_segments-segs.ensures)

pub returns-clause-others : goal.returns-clause-others
returns-clause-others c = others_then c.try_take.ensures.others c.give.ensures.others
