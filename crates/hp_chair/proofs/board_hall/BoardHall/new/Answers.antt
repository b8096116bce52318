use Rattle.std.proofs.Common.{List, sym, ap, subst}
use Rattle.hp_hall.specs.Mail.{MailStep}
use Rattle.hp_chair.specs.ChairInside.{IsChair}
use Rattle.hp_chair.specs.ChairView.{opening_chair}
use Rattle.hp_chair.proofs.ChairOpens.{chair_opens}
use Rattle.hp_chair.proofs.board_hall.BoardHall.new.Goals as goal

pub invariant_of-result : goal.invariant_of-result
invariant_of-result g c =
    let args = c.args in
    let opening = opening_chair args.seat args.boxes.now args.passes.items args.stats in
    subst (λ (steps : List MailStep). IsChair args.board.now args.boxes.now args.cells.now (record opening { steps = steps })) (sym c.new.ensures)
    (chair_opens args.board.now args.boxes.now args.cells.now args.seat args.passes.items args.stats c.requires.board c.requires.declared
    c.requires.few c.requires.count c.requires.unused.0 c.requires.unused.1 c.requires.places c.requires.unread)

pub returns : goal.returns
returns g c = ap (λ (steps : List MailStep). record (opening_chair c.args.seat c.args.boxes.now c.args.passes.items c.args.stats) { steps = steps }) c.new.ensures
