-- A poll that is due is made.
use Rattle.std.proofs.Common.{◌*◌, refl, ap, arith}
use Rattle.std.specs.Prelude.{ℕ, true, false}
use Rattle.std.specs.Result.{result_ok}
use Rattle.std.proofs.lemmas.Result.{err_from_is_err_and}
use Rattle.hp_serve.specs.Falling.{served_of}
use Rattle.hp_serve.proofs.Carrying.{done_differs, stop_differs}
use Rattle.hp_serve.proofs.server.Server.poll_due.Goals as goal

pub returns-clause-polled : goal.returns-clause-polled
returns-clause-polled g c =
    let polled = c.in_ok-poll.ensures.polled in
    (true, polled.0, polled.1, polled.2, refl)

pub returns-clause-measure : goal.returns-clause-measure
returns-clause-measure g c = c.in_ok-poll.ensures.due c.requires.due

pub returns-clause-moves : goal.returns-clause-moves
returns-clause-moves g c = done_differs _ refl

pub returns-in_err-poll-clause-polled : goal.returns-in_err-poll-clause-polled
returns-in_err-poll-clause-polled g c =
    let stopped = err_from_is_err_and c.from_residual.result c.from_residual.ensures.1 in
    let polled = c.in_err-poll.ensures.polled in
    (false, polled.0, polled.1, polled.2, ap result_ok stopped.1)

pub returns-in_err-poll-clause-measure : goal.returns-in_err-poll-clause-measure
returns-in_err-poll-clause-measure g c =
    let falls = c.in_err-poll.ensures.measure in
    let stopped = err_from_is_err_and c.from_residual.result c.from_residual.ensures.1 in
    let served = ap (λ (n : ℕ). g.H.Hall.scale * n) (ap served_of stopped.1) in
    omega (arith, falls, served)

pub returns-in_err-poll-clause-moves : goal.returns-in_err-poll-clause-moves
returns-in_err-poll-clause-moves g c =
    let stopped = err_from_is_err_and c.from_residual.result c.from_residual.ensures.1 in
    stop_differs c.from_residual.result (ap result_ok stopped.1)
