-- It served on, or the gate lets it.
use Rattle.std.proofs.lemmas.Result.{err_from_is_err_and}
use Rattle.hp_threads.proofs.WorkSteps.{again_ready, goes_then, still_same, still_then, unless_ok}
use Rattle.hp_threads.proofs.serving.await_gate.Goals as goal

pub loop-init : goal.loop-init
loop-init g c = record {
  still = still_same c.args.participant.now c.requires.ready;
  goes = λ workload me courses first was. was;
  goes_on = g.met.H.Hall.goes_on_same _;
}

pub serve_all-requires : goal.serve_all-requires
serve_all-requires g c = record { ready = again_ready c.args.participant.now c.loop.participant c.loop.invariant.still.again }

pub loop-preserved : goal.loop-preserved
loop-preserved g c =
    let was = c.loop.invariant in
    let is = c.serve_all.ensures in
    record {
      still = still_then c.args.participant.now c.loop.participant c.serve_all.new.participant was.still is.still;
      goes = goes_then c.args.participant.now c.loop.participant c.serve_all.new.participant was.goes c.in_ok-serve_all.ensures.goes;
      goes_on = g.met.H.Hall.goes_on_then _ _ _ was.goes_on is.goes_on;
    }

pub returns-then-ready : goal.returns-then-ready
returns-then-ready g c =
    let was = c.loop.invariant in
    let is = c.serve_all.ensures in
    record {
      still = still_then c.args.participant.now c.loop.participant c.serve_all.new.participant was.still is.still;
      goes = goes_then c.args.participant.now c.loop.participant c.serve_all.new.participant was.goes c.in_ok-serve_all.ensures.goes;
      goes_on = g.met.H.Hall.goes_on_then _ _ _ was.goes_on is.goes_on;
    }

pub returns-in_err-serve_all : goal.returns-in_err-serve_all
returns-in_err-serve_all g c =
    let was = c.loop.invariant in
    let is = c.serve_all.ensures in
    let stopped = err_from_is_err_and c.from_residual.result c.from_residual.ensures.1 in
    record {
      still = still_then c.args.participant.now c.loop.participant c.serve_all.new.participant was.still is.still;
      goes = unless_ok c.from_residual.result stopped.0 _ stopped.1;
      goes_on = g.met.H.Hall.goes_on_then _ _ _ was.goes_on is.goes_on;
    }
