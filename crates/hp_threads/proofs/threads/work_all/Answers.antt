-- Each participant goes to a thread of its own, and keeps its promise.
use denote.Param.Send.{sendable}
use Rattle.std.proofs.Common.{ℕ, get_or, sym, subst}
use Rattle.std.proofs.Crossing.{crosses}
use Rattle.hp_script.proofs.workload.Workload.TheSendSync as Workload
use Rattle.hp_threads.specs.Leaving.{HasWorked}
use Rattle.hp_threads.specs.Workers.{IsWorker, WorkerView}
use Rattle.hp_threads.specs.declared.working.Worked.{Worked}
use Rattle.hp_threads.proofs.Crossing.{shared_sync, worked_send, worker_send}
use Rattle.hp_threads.proofs.OwnLines.{all_ok}
use Rattle.hp_threads.proofs.threads.work_all.Goals as goal

pub map_vec-requires-send-J : goal.map_vec-requires-send-J
map_vec-requires-send-J g c κs within =
    let mapper = c.type_bounds.send-M in
    let clock = c.type_bounds.send-C in
    let decides = c.type_bounds.send-F in
    search (sendable, crosses, worker_send) depth 60

pub map_vec-requires-send-X : goal.map_vec-requires-send-X
map_vec-requires-send-X g c κs within = search (sendable, worked_send) depth 60

pub map_vec-requires-sync-F : goal.map_vec-requires-sync-F
map_vec-requires-sync-F g c κs within =
    let runtime = c.type_bounds.sync-R in
    let gate = c.type_bounds.sync-G in
    search (sendable, crosses, shared_sync, Workload.the_sync) depth 60 fits 100000

pub map_vec-requires-after_bounds : goal.map_vec-requires-after_bounds
map_vec-requires-after_bounds g c κs within = λ place worker below is. (
  c.requires.opened,
  subst
      (λ (one : WorkerView). (who : ℕ) × IsWorker c.args.workload.now c.args.shared.board.now c.args.shared.boxes.now c.args.shared.cells.now who one)
      (sym is) (c.requires.workers place worker below),
  c.requires.lines,
  c.requires.few,
)

pub returns-clause-each : goal.returns-clause-each
returns-clause-each g c =
    all_ok _ _ c.map_vec.result
    (λ out gives place worker worked below.
    let one = (gives place worked below).1 in
    let home : Worked = get_or out.items place worked in
    subst (λ (before : WorkerView). HasWorked c.args.workload.now before home) (sym (one.job_is worker)) one.call.met)
    c.map_vec.ensures.each
