-- One serving more, or the last.
use Rattle.hp_threads.proofs.WorkSteps.{again_ready, goes_then, still_same, still_then}
use Rattle.hp_threads.proofs.serving.serve_rest.Goals as goal

pub loop-init : goal.loop-init
loop-init g c = record {
  still = still_same c.args.participant.now c.requires.ready;
  goes = λ going workload me courses first was. was;
  goes_on = g.met.H.Hall.goes_on_same _;
}

pub serve_on-served-requires : goal.serve_on-served-requires
serve_on-served-requires g c = record { ready = again_ready c.args.participant.now c.loop.participant c.loop.invariant.still.again }

pub loop-preserved : goal.loop-preserved
loop-preserved g c =
    let was = c.loop.invariant in
    let is = c.serve_on-served.ensures in
    record {
      still = still_then c.args.participant.now c.loop.participant c.serve_on-served.new.participant was.still is.still;
      goes = λ going. goes_then c.args.participant.now c.loop.participant c.serve_on-served.new.participant (was.goes (is.going going)) (is.goes going);
      goes_on = g.met.H.Hall.goes_on_then _ _ _ was.goes_on is.goes_on;
    }

pub returns-then-not-served-clause-goes_on : goal.returns-then-not-served-clause-goes_on
returns-then-not-served-clause-goes_on g c =
    g.met.H.Hall.goes_on_then _ _ _ c.loop.invariant.goes_on c.serve_on-served.ensures.goes_on
