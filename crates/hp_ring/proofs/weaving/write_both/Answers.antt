use Rattle.std.proofs.Common.{◌++◌}
use Rattle.hp_command.specs.Writing.{HoldsFront}
use Rattle.hp_ring.proofs.WriteLemmas.{at_error, error_then, front_of_both, front_of_first}
use Rattle.hp_ring.proofs.weaving.write_both.Goals as goal

pub returns-in_err-write_whole-clause-err : goal.returns-in_err-write_whole-clause-err
returns-in_err-write_whole-clause-err g c =
    at_error c.from_residual.result
    (HoldsFront (g.K.Sink.held c.args.sink.now) (g.K.Sink.held c.write_whole.new.sink) (c.args.first.now ++ c.args.second.now))
    (front_of_first (g.K.Sink.held c.args.sink.now) (g.K.Sink.held c.write_whole.new.sink) c.args.first.now c.args.second.now c.in_err-write_whole.ensures.err)

pub returns-clause-err : goal.returns-clause-err
returns-clause-err g c =
    error_then c.write_whole-2.result
    (HoldsFront (g.K.Sink.held c.write_whole.new.sink) (g.K.Sink.held c.write_whole-2.new.sink) c.args.second.now)
    (HoldsFront (g.K.Sink.held c.args.sink.now) (g.K.Sink.held c.write_whole-2.new.sink) (c.args.first.now ++ c.args.second.now))
    (front_of_both (g.K.Sink.held c.args.sink.now) (g.K.Sink.held c.write_whole.new.sink) (g.K.Sink.held c.write_whole-2.new.sink)
    c.args.first.now c.args.second.now c.in_ok-write_whole.ensures.ok)
    c.write_whole-2.ensures.err
