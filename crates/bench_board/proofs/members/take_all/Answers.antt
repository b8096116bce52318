use Rattle.std.proofs.Common.{length, inr, ap}
use Rattle.hp_board.proofs.KeptAt.{is_segments}
use Rattle.bench_board.proofs.VisitLemmas.{hand, holds_all, rises, within}
use Rattle.bench_board.proofs.members.take_all.Goals as goal

pub into_segments-segs-requires : goal.into_segments-segs-requires
into_segments-segs-requires g c = record { segments = is_segments c.args.seat.now.mine.opening c.take.result c.take.ensures.handed.at }

pub ack-requires-clause-hand : goal.ack-requires-clause-hand
ack-requires-clause-hand g c =
    inr (hand c.args.seat.now.mine c.take.new.seat.mine c.take.result c.into_segments-segs.result c.take.ensures.taken c.into_segments-segs.ensures c.requires.ready.free)

pub ack-requires-clause-rises : goal.ack-requires-clause-rises
ack-requires-clause-rises g c =
    rises c.args.seat.now.mine c.take.new.seat.mine c.take.result c.into_segments-segs.result c.take.ensures.taken c.into_segments-segs.ensures c.requires.ready.free
    (length c.records.result.now) c.take.ensures.handed c.requires.ready.seen (ap length c.records.ensures.records)

pub ack-requires-clause-seen : goal.ack-requires-clause-seen
ack-requires-clause-seen g c =
    within c.args.seat.now.mine c.take.new.seat.mine c.take.result c.into_segments-segs.result c.take.ensures.taken c.into_segments-segs.ensures c.requires.ready.free
    (length c.records.result.now) (ap length c.records.ensures.records)

pub returns-clause-holds : goal.returns-clause-holds
returns-clause-holds g c =
    holds_all c.args.seat.now.mine c.take.new.seat.mine c.take.result c.into_segments-segs.result c.take.ensures.taken c.into_segments-segs.ensures c.requires.ready.free
    (length c.records.result.now) c.ack.new.seat.mine c.records.ensures.sound c.take.ensures.handed (ap length c.records.ensures.records) c.ack.ensures.acked
