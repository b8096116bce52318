-- A participant opens its hall, does its lines there, and comes home.
use Rattle.std.proofs.Common.{◌≡◌, ◌∙◌, List, map, sym, ap, subst}
use Rattle.std.specs.Result.{result_ok}
use Rattle.hp_board.specs.SeatView.{SeatView}
use Rattle.hp_chair.specs.ChairView.{ChairView}
use Rattle.hp_mail.specs.PassView.{PassView}
use Rattle.hp_proc.specs.ParticipantView.{ParticipantView}
use Rattle.hp_stats.specs.StatViews as stats
use Rattle.hp_threads.specs.Leaving.{CameHome, HasDoneUnlessStopped}
use Rattle.hp_threads.specs.Workers.{IsNewcomer, IsWorker, WorkerView}
use Rattle.hp_threads.specs.declared.working.Done.{Done}
use Rattle.hp_threads.proofs.Homes.{comes_home, has_unless, same_boxes}
use Rattle.hp_threads.proofs.OwnLines.{own_left}
use Rattle.hp_threads.proofs.Opened.{boxed, declared, few, opens_worked, placed, sits, unread, unused}
use Rattle.hp_threads.proofs.working.work.Goals as goal

pub new-hall-requires : goal.new-hall-requires
new-hall-requires g c =
    let workload = c.args.workload.now in
    let who = c.requires.worker.0 in
    let board = c.args.shared.board.now in
    let boxes = c.args.shared.boxes.now in
    let cells = c.args.shared.cells.now in
    let inside = c.worker.inside in
    let is : IsWorker workload board boxes cells who _ =
    subst (λ (worker : WorkerView). IsWorker workload board boxes cells who worker) (sym c.worker.view_is) c.requires.worker.1 in
    let opens = c.requires.opened in
    record {
      board = sits workload who board boxes cells inside.seat inside.passes.items inside.stats is.seated opens;
      declared = declared workload who board boxes cells inside.seat inside.passes.items inside.stats is.seated opens;
      few = few workload who board boxes cells inside.seat inside.passes.items inside.stats is.seated opens;
      count = boxed workload who board boxes cells inside.seat inside.passes.items inside.stats is.seated opens;
      unused = unused workload who board boxes cells inside.seat inside.passes.items inside.stats is.seated opens;
      places = placed workload who board boxes cells inside.seat inside.passes.items inside.stats is.seated opens;
      unread = unread workload who board boxes cells inside.seat inside.passes.items inside.stats is.seated opens;
    }

pub do_all-answers-requires-clause-first : goal.do_all-answers-requires-clause-first
do_all-answers-requires-clause-first g c =
    let workload = c.args.workload.now in
    let who = c.requires.worker.0 in
    let board = c.args.shared.board.now in
    let boxes = c.args.shared.boxes.now in
    let cells = c.args.shared.cells.now in
    let inside = c.worker.inside in
    let is : IsWorker workload board boxes cells who _ =
    subst (λ (worker : WorkerView). IsWorker workload board boxes cells who worker) (sym c.worker.view_is) c.requires.worker.1 in
    let brings : IsNewcomer workload who c.new-participant.result =
    subst (IsNewcomer workload who) (sym (c.new-participant.ensures ∙ c.newcomer.view_is)) is.newcomer in
    opens_worked workload who board boxes cells inside.seat inside.passes.items inside.stats is.seated c.requires.opened
    c.new-participant.result brings c.new-hall.result c.new-hall.ensures

pub returns : goal.returns
returns g c =
    let workload = c.args.workload.now in
    let worker : WorkerView = c.args.worker in
    let doer : ParticipantView = c.new-participant.result in
    let doer_is : doer ≡ worker.doer =
    c.new-participant.ensures ∙ c.newcomer.view_is ∙ ap (λ (w : WorkerView). w.doer) c.worker.view_is in
    let old : ChairView = c.new-hall.result in
    let new : ChairView = c.do_all-answers.new.hall in
    let last : ParticipantView = c.do_all-answers.new.participant in
    let seat : SeatView = c.into_parts-seat.result.0 in
    let passes : List PassView = c.into_parts-seat.result.1.items in
    let parts = c.into_parts-seat.ensures in
    let did = c.do_all-answers.ensures in
    let left = c.brought_home.ensures in
    let seat_was : old.seat ≡ worker.seat =
    ap (λ (chair : ChairView). chair.seat) c.new-hall.ensures ∙ ap (λ (w : WorkerView). w.seat) c.worker.view_is in
    let passes_were : old.passes ≡ worker.passes =
    ap (λ (chair : ChairView). chair.passes) c.new-hall.ensures ∙ ap (λ (w : WorkerView). w.passes) c.worker.view_is in
    let home : CameHome old.seat seat passes new.steps =
    comes_home old new did.goes_on doer.party.me last did.again.ready seat passes parts.seat parts.passes
    (ap (λ (chair : ChairView). chair.steps) c.new-hall.ensures) parts.mail in
    record {
      steps = new.steps;
      home = subst (λ (before : SeatView). CameHome before seat passes new.steps) seat_was home;
      mailboxes =
          same_boxes old new did.goes_on doer.party.me last did.again.ready passes parts.passes
          ∙ ap (map (λ (pass : PassView). pass.mailbox)) passes_were;
      cells = ap (λ (pass : stats.PassView). pass.cells) parts.stats ∙ did.goes_on.cells
          ∙ ap (λ (chair : ChairView). chair.stats.cells) c.new-hall.ensures ∙ ap (λ (w : WorkerView). w.stats.cells) c.worker.view_is;
      read = parts.read;
      has = subst (HasDoneUnlessStopped workload worker.doer seat new.steps) (sym c.ok-done.ensures.value)
          (subst (λ (first : ParticipantView). HasDoneUnlessStopped workload first seat new.steps (result_ok c.brought_home.result)) doer_is
          (has_unless old new did.goes_on doer.party.me last did.again.ready c.brought_home.result workload doer seat parts.seat
          (own_left (λ (done : Done). done.answers) _ c.do_all-answers.result c.brought_home.result left.answers did.done) left.table
          left.watchers));
    }
