-- All come home with their promises, and their passes meet.
use Rattle.std.proofs.Common.{◌≡◌, length, arith}
use Rattle.hp_threads.proofs.Promises.{all_promised, can_meet}
use Rattle.hp_threads.proofs.Seating.{all_workers}
use Rattle.hp_threads.proofs.running.all_home.Goals as goal

pub work_all-requires-clause-workers : goal.work_all-requires-clause-workers
work_all-requires-clause-workers g c κs lives =
    all_workers c.args.workload.now c.args.board.now c.args.boxes.now c.args.cells.now c.args.workers.items c.requires.workers

pub meet_all-requires : goal.meet_all-requires
meet_all-requires g c =
    let apart = c.in_ok-apart.apart in
    can_meet c.args.workload.now c.args.board.now c.args.boxes.now c.args.cells.now c.args.workers.items c.in_ok-worked.worked.items
    c.requires.workers (omega (arith, c.in_ok-worked.ensures.count, c.in_ok-worked.worked.ok.0, c.args.workers.ok.0))
    c.in_ok-worked.ensures.each apart.all_passes.items apart.home.seats.items apart.home.answers.items apart.home.tables.items
    apart.home.watchers.items apart.home.stats.items c.in_ok-apart.ensures c.requires.boxed

pub returns : goal.returns
returns g c =
    let apart = c.in_ok-apart.apart in
    let long : length c.in_ok-worked.worked.items ≡ length c.args.workers.items =
    omega (arith, c.in_ok-worked.ensures.count, c.in_ok-worked.worked.ok.0, c.args.workers.ok.0) in
    all_promised c.args.workload.now c.args.board.now c.args.boxes.now c.args.cells.now c.args.workers.items
    c.in_ok-worked.worked.items c.requires.workers long c.in_ok-worked.ensures.each apart.all_passes.items apart.home.seats.items
    apart.home.answers.items apart.home.tables.items apart.home.watchers.items apart.home.stats.items c.in_ok-apart.ensures
    c.in_ok-meet_all.ensures
