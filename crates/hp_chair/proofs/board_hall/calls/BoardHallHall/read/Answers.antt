use Rattle.std.proofs.Common.{List, sym, subst}
use Rattle.hp_stats.specs.Pairs.{pair}
use Rattle.hp_stats.specs.declared.stat_pair.StatPair.{StatPair}
use Rattle.hp_hall.specs.Mail.{MailStep}
use Rattle.hp_chair.specs.ChairInside.{IsChair}
use Rattle.hp_chair.specs.ChairView.{ChairView}
use Rattle.hp_chair.proofs.ChairSteps.{chair_of, its_own}
use Rattle.hp_chair.proofs.ChairStats.{HasRead, chair_read, read_here, with_stats}
use Rattle.hp_chair.proofs.board_hall.calls.BoardHallHall.read.Goals as goal

pub invariant_of-self : goal.invariant_of-self
invariant_of-self g c =
    let found : StatPair = pair c.read-entries.result.0 c.read-entries.result.1 in
    let pass = c.read-entries.new.pass in
    let inside = c.self.inside in
    let before = chair_of inside.seat inside.boxes.now inside.passes.items inside.stats inside.log inside.full_mailboxes inside.stopped inside.turns in
    let its = its_own c.args.me c.self.view_is c.requires.serves in
    subst (λ (steps : List MailStep). IsChair inside.board.now inside.boxes.now inside.cells.now (with_stats pass steps before))
    (sym c.with_note.ensures)
    (chair_read c.args.me c.args.heap found before pass inside.board.now inside.boxes.now inside.cells.now its c.self.invariant
    c.read-entries.ensures.read c.requires.heap c.read-entries.ensures.not_below)

pub returns : goal.returns
returns g c =
    let found : StatPair = pair c.read-entries.result.0 c.read-entries.result.1 in
    let pass = c.read-entries.new.pass in
    let inside = c.self.inside in
    let before = chair_of inside.seat inside.boxes.now inside.passes.items inside.stats inside.log inside.full_mailboxes inside.stopped inside.turns in
    let its = its_own c.args.me c.self.view_is c.requires.serves in
    let after : ChairView = with_stats pass c.with_note.result before in
    let here : HasRead c.args.me c.args.heap found before after =
    subst (λ (steps : List MailStep). HasRead c.args.me c.args.heap found before (with_stats pass steps before)) (sym c.with_note.ensures)
    (read_here c.args.me c.args.heap found before pass inside.board.now inside.boxes.now inside.cells.now its c.self.invariant
    c.read-entries.ensures.read c.requires.heap c.read-entries.ensures.not_below) in
    let is : HasRead c.args.me c.args.heap found c.args.self.now after =
    subst (λ (chair : ChairView). HasRead c.args.me c.args.heap found chair after) c.self.view_is here in
    record { read = is.read; measure = is.measure; goes_on = is.goes_on }
