-- Its lines are done, and it serves on.
use Rattle.std.proofs.lemmas.Result.{err_from_is_err_and}
use Rattle.hp_serve.proofs.Waits.{if_no_ok}
use Rattle.hp_threads.proofs.OwnLines.{own_later, was_ok}
use Rattle.hp_threads.proofs.WorkSteps.{again_ready, again_then}
use Rattle.hp_threads.proofs.working.do_all.Goals as goal

pub serve_rest-stopped-requires : goal.serve_rest-stopped-requires
serve_rest-stopped-requires g c = record {
  ready = again_ready c.args.participant.now c.do_lines-done.new.participant c.do_lines-done.ensures.again;
}

pub returns : goal.returns
returns g c =
    let first = c.args.participant.now in
    let mid = c.do_lines-done.new.participant in
    let last = c.serve_rest-stopped.new.participant in
    record {
      again = again_then first mid last c.do_lines-done.ensures.again c.serve_rest-stopped.ensures.still.again;
      done = own_later c.args.workload.now first.party.me first c.args.workload.now.lines.items _ mid last
          (was_ok c.do_lines-done.result c.in_ok-done.field-0 _ c.in_ok-done.was c.do_lines-done.ensures.done)
          (c.serve_rest-stopped.ensures.goes c.if-stopped.false);
      goes_on = g.met.H.Hall.goes_on_then _ _ _ c.do_lines-done.ensures.goes_on c.serve_rest-stopped.ensures.goes_on;
    }

pub returns-then-stopped : goal.returns-then-stopped
returns-then-stopped g c =
    let first = c.args.participant.now in
    let mid = c.do_lines-done.new.participant in
    let last = c.serve_rest-stopped.new.participant in
    record {
      again = again_then first mid last c.do_lines-done.ensures.again c.serve_rest-stopped.ensures.still.again;
      done = tt;
      goes_on = g.met.H.Hall.goes_on_then _ _ _ c.do_lines-done.ensures.goes_on c.serve_rest-stopped.ensures.goes_on;
    }

pub returns-in_err-done : goal.returns-in_err-done
returns-in_err-done g c =
    let first = c.args.participant.now in
    let mid = c.do_lines-done.new.participant in
    let last = c.serve_rest-stopped.new.participant in
    let stopped = err_from_is_err_and c.from_residual.result c.from_residual.ensures.1 in
    record {
      again = again_then first mid last c.do_lines-done.ensures.again c.serve_rest-stopped.ensures.still.again;
      done = if_no_ok c.from_residual.result stopped.0 _ stopped.1;
      goes_on = g.met.H.Hall.goes_on_then _ _ _ c.do_lines-done.ensures.goes_on c.serve_rest-stopped.ensures.goes_on;
    }
