use Rattle.std.proofs.Common.{◌≡◌, refl, sym, ◌∙◌}
use Rattle.hp_segs.specs.LaterSteps.{after_arm}
use Rattle.hp_segs.specs.declared.ask.Ask.{Ask}
use Rattle.test_board.proofs.AskLemmas.{may_be_armed}
use Rattle.test_board.proofs.PlayLemmas.{where_err, where_ok}
use Rattle.test_board.proofs.tests.turn.asker.armed.Goals as goal

pub arm-requires : goal.arm-requires
arm-requires c =
    let ask : Ask = record { from = 1; number = c.in-Some.number; heap = 0; socket = 0; page = 2097152; request = c.args.request.now } in
    record { may = may_be_armed c.args.segs.now ask c.requires.asks c.requires.unarmed refl }

pub returns-then-is_err-clause-none : goal.returns-then-is_err-clause-none
returns-then-is_err-clause-none c = where_err c.arm.result (c.arm.new.self ≡ c.args.segs.now) (sym c.is_err.ensures.value ∙ c.if-is_err.true) c.arm.ensures.err

pub returns-clause-some : goal.returns-clause-some
returns-clause-some c =
    let ask : Ask = record { from = 1; number = c.in-Some.number; heap = 0; socket = 0; page = 2097152; request = c.args.request.now } in
    record {
      from = refl;
      heap = refl;
      above = c.in-Some.ensures;
      may = may_be_armed c.args.segs.now ask c.requires.asks c.requires.unarmed refl;
      step = where_ok c.arm.result (c.arm.new.self ≡ after_arm ask c.args.segs.now) (sym c.is_err.ensures.value ∙ c.if-is_err.false) c.arm.ensures.ok;
    }
