use Rattle.std.proofs.Common.{◌≡◌, List, [], ◌∷◌, ◌++◌, sym, ap, subst, ◌∙◌}
use Rattle.hp_stats.specs.declared.stat_pair.StatPair.{StatPair}
use Rattle.hp_hall.specs.Mail.{MailStep, Notes}
use Rattle.hp_hall.specs.Values.{pair_in}
use Rattle.hp_hall.specs.declared.note.Note.TheVariants.{Published}
use Rattle.hp_chair.specs.ChairInside.{IsChair}
use Rattle.hp_chair.specs.ChairView.{ChairView}
use Rattle.hp_chair.proofs.ChairSteps.{chair_of, its_own}
use Rattle.hp_chair.proofs.ChairStats.{HasTold, chair_told, publish_here, with_stats}
use Rattle.hp_chair.proofs.ChairTells.{tells_by}
use Rattle.hp_chair.proofs.board_hall.calls.BoardHallHall.publish.Goals as goal

pub publish_by-pair-requires : goal.publish_by-pair-requires
publish_by-pair-requires g c =
    let inside = c.self.inside in
    let before = chair_of inside.seat inside.boxes.now inside.passes.items inside.stats inside.log inside.full_mailboxes inside.stopped inside.turns in
    let tells = tells_by c.args.me c.args.heap inside.board.now inside.boxes.now inside.cells.now before c.self.invariant c.args.self.now
    c.self.view_is c.args.kept.now c.requires.may in
    record { may = tells.may; pass = c.self.invariant.reads.its }

pub invariant_of-self : goal.invariant_of-self
invariant_of-self g c =
    let kept = c.args.kept.now in
    let after = c.publish_by-pair.new.kept in
    let pass = c.publish_by-pair.new.pass in
    let inside = c.self.inside in
    let before = chair_of inside.seat inside.boxes.now inside.passes.items inside.stats inside.log inside.full_mailboxes inside.stopped inside.turns in
    let its = its_own c.args.me c.self.view_is c.requires.serves in
    let tells = tells_by c.args.me c.args.heap inside.board.now inside.boxes.now inside.cells.now before c.self.invariant c.args.self.now
    c.self.view_is kept c.requires.may in
    let made : c.with_note.result ≡ before.steps ++ Notes (Published c.args.heap (pair_in kept)) ∷ [] =
    c.with_note.ensures ∙ ap (λ (p : StatPair). before.steps ++ Notes (Published c.args.heap p) ∷ []) c.publish_by-pair.ensures.pair in
    subst (λ (steps : List MailStep). IsChair inside.board.now inside.boxes.now inside.cells.now (with_stats pass steps before)) (sym made)
    (chair_told c.args.me c.args.heap kept after before pass inside.board.now inside.boxes.now inside.cells.now its c.self.invariant
    c.publish_by-pair.ensures.told tells.below)

pub returns : goal.returns
returns g c =
    let kept = c.args.kept.now in
    let after = c.publish_by-pair.new.kept in
    let pass = c.publish_by-pair.new.pass in
    let inside = c.self.inside in
    let before = chair_of inside.seat inside.boxes.now inside.passes.items inside.stats inside.log inside.full_mailboxes inside.stopped inside.turns in
    let its = its_own c.args.me c.self.view_is c.requires.serves in
    let tells = tells_by c.args.me c.args.heap inside.board.now inside.boxes.now inside.cells.now before c.self.invariant c.args.self.now
    c.self.view_is kept c.requires.may in
    let made : c.with_note.result ≡ before.steps ++ Notes (Published c.args.heap (pair_in kept)) ∷ [] =
    c.with_note.ensures ∙ ap (λ (p : StatPair). before.steps ++ Notes (Published c.args.heap p) ∷ []) c.publish_by-pair.ensures.pair in
    let here : HasTold c.args.me c.args.heap kept after before (with_stats pass c.with_note.result before) =
    subst (λ (steps : List MailStep). HasTold c.args.me c.args.heap kept after before (with_stats pass steps before)) (sym made)
    (publish_here c.args.me c.args.heap kept after before pass inside.board.now inside.boxes.now inside.cells.now its c.self.invariant
    c.publish_by-pair.ensures.told tells.below c.publish_by-pair.ensures.kept) in
    let is : HasTold c.args.me c.args.heap kept after c.args.self.now (with_stats pass c.with_note.result before) =
    subst (λ (chair : ChairView). HasTold c.args.me c.args.heap kept after chair (with_stats pass c.with_note.result before)) c.self.view_is
    here in
    record { published = is.published; measure = is.measure; goes_on = is.goes_on }
