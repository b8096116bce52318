-- It goes on after the frame, or stops.
use Rattle.std.proofs.Common.{◌*◌, refl, ap, arith}
use Rattle.std.specs.Prelude.{ℕ, true, false}
use Rattle.std.specs.Result.{result_ok}
use Rattle.std.proofs.lemmas.Result.{err_from_is_err_and}
use Rattle.hp_serve.specs.Falling.{served_of}
use Rattle.hp_serve.proofs.Carrying.{done_differs, stop_differs}
use Rattle.hp_serve.proofs.server.Server.dispatch_frame.Goals as goal

pub returns-clause-obeyed : goal.returns-clause-obeyed
returns-clause-obeyed g c =
    let obeyed = c.in_ok-handle_frame.ensures.obeyed in
    (true, obeyed.0, obeyed.1, obeyed.2, refl)

pub returns-clause-moves : goal.returns-clause-moves
returns-clause-moves g c = done_differs _ refl

pub returns-in_err-handle_frame-clause-obeyed : goal.returns-in_err-handle_frame-clause-obeyed
returns-in_err-handle_frame-clause-obeyed g c =
    let stopped = err_from_is_err_and c.from_residual.result c.from_residual.ensures.1 in
    let obeyed = c.in_err-handle_frame.ensures.obeyed in
    (false, obeyed.0, obeyed.1, obeyed.2, ap result_ok stopped.1)

pub returns-in_err-handle_frame-clause-measure : goal.returns-in_err-handle_frame-clause-measure
returns-in_err-handle_frame-clause-measure g c =
    let falls = c.in_err-handle_frame.ensures.measure in
    let stopped = err_from_is_err_and c.from_residual.result c.from_residual.ensures.1 in
    let served = ap (λ (n : ℕ). g.H.Hall.scale * n) (ap served_of stopped.1) in
    omega (arith, falls, served)

pub returns-in_err-handle_frame-clause-moves : goal.returns-in_err-handle_frame-clause-moves
returns-in_err-handle_frame-clause-moves g c =
    let stopped = err_from_is_err_and c.from_residual.result c.from_residual.ensures.1 in
    stop_differs c.from_residual.result (ap result_ok stopped.1)
