use Rattle.std.proofs.Common.{ap, ◌∙◌}
use Rattle.hp_segs.specs.SegsView.{is_member}
use Rattle.test_board.proofs.PlayLemmas.{come_none, noted_none}
use Rattle.test_board.proofs.tests.turn.obeying.taken_in.Goals as goal

pub returns-then-not-fresh-clause-comes : goal.returns-then-not-fresh-clause-comes
returns-then-not-fresh-clause-comes c = come_none c.args.seat.now.mine

pub returns-then-not-fresh-clause-noted : goal.returns-then-not-fresh-clause-noted
returns-then-not-fresh-clause-noted c = noted_none c.args.segs

pub note-requires : goal.note-requires
note-requires c = record { member = ap (is_member c.args.segs.roster) c.requires.who ∙ c.requires.holds.member }
