use Rattle.std.proofs.Common.{ℕ, subst, ◌∙◌}
use Rattle.bench_board.specs.Visits.{Changes}
use Rattle.bench_board.proofs.VisitLemmas.{gives_changed, may_give_all, ready_again}
use Rattle.bench_board.proofs.members.change.Goals as goal

pub give-requires-clause-gives : goal.give-requires-clause-gives
give-requires-clause-gives g c =
    may_give_all c.args.seat.now.mine c.take_all-segs.new.seat.mine c.take_all-segs.result c.changed-segs.result c.take_all-segs.ensures.holds
    (gives_changed c.args.seat.now.mine c.take_all-segs.new.seat.mine c.take_all-segs.result c.changed-segs.result c.take_all-segs.ensures.holds
    (subst (λ (who : ℕ). Changes who c.take_all-segs.result c.changed-segs.result) c.participant.ensures c.changed-segs.ensures))

pub returns : goal.returns
returns g c =
    record {
      ready =
          ready_again c.args.board.now.id c.args.seat.now c.give.new.seat c.take_all-segs.new.seat.mine c.take_all-segs.result c.changed-segs.result c.requires.ready
          (c.give.ensures.board ∙ c.take_all-segs.ensures.board ∙ c.requires.ready.board_is) c.take_all-segs.ensures.holds
          (gives_changed c.args.seat.now.mine c.take_all-segs.new.seat.mine c.take_all-segs.result c.changed-segs.result c.take_all-segs.ensures.holds
          (subst (λ (who : ℕ). Changes who c.take_all-segs.result c.changed-segs.result) c.participant.ensures c.changed-segs.ensures))
          c.give.ensures.given;
    }
