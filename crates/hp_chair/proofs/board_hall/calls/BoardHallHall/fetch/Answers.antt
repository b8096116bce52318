use Rattle.std.proofs.Common.{ℕ, refl, sym, subst, arith}
use Rattle.hp_hall.specs.Mail.{Fetches, MailStep}
use Rattle.hp_chair.specs.ChairView.{ChairView}
use Rattle.hp_chair.specs.Places.{ArePlaces}
use Rattle.hp_chair.proofs.ChairPosts.{chair_fetched, fetches_one, with_mail}
use Rattle.hp_chair.proofs.ChairSteps.{DoesOne, chair_of, its_own}
use Rattle.hp_chair.proofs.board_hall.calls.BoardHallHall.fetch.Goals as goal

pub fetch_by-frame-requires-clause-places : goal.fetch_by-frame-requires-clause-places
fetch_by-frame-requires-clause-places g c =
    let inside = c.self.inside in
    let before = chair_of inside.seat inside.boxes.now inside.passes.items inside.stats inside.log inside.full_mailboxes inside.stopped inside.turns in
    let its = its_own c.args.me c.self.view_is c.requires.serves in
    (before.steps, subst (λ (who : ℕ). ArePlaces who before.steps c.self.inside.boxes.now before.passes) (sym its) c.self.invariant.places)

pub fetch_by-frame-requires-clause-declared : goal.fetch_by-frame-requires-clause-declared
fetch_by-frame-requires-clause-declared g c =
    let inside = c.self.inside in
    let before = chair_of inside.seat inside.boxes.now inside.passes.items inside.stats inside.log inside.full_mailboxes inside.stopped inside.turns in
    let its = its_own c.args.me c.self.view_is c.requires.serves in
    let count = c.self.invariant.count in
    let declared = c.self.invariant.declared in
    omega (arith, its, count, declared)

pub invariant_of-self : goal.invariant_of-self
invariant_of-self g c =
    let inside = c.self.inside in
    let before = chair_of inside.seat inside.boxes.now inside.passes.items inside.stats inside.log inside.full_mailboxes inside.stopped inside.turns in
    let its = its_own c.args.me c.self.view_is c.requires.serves in
    chair_fetched c.args.me before inside.board.now inside.boxes.now inside.cells.now its c.self.invariant
    c.fetch_by-frame.new.passes.items c.with_fetch.result before.full_mailboxes
    c.fetch_by-frame.result c.with_fetch.ensures c.fetch_by-frame.ensures

pub returns : goal.returns
returns g c =
    let step : MailStep = Fetches c.fetch_by-frame.result in
    let inside = c.self.inside in
    let before = chair_of inside.seat inside.boxes.now inside.passes.items inside.stats inside.log inside.full_mailboxes inside.stopped inside.turns in
    let its = its_own c.args.me c.self.view_is c.requires.serves in
    let after : ChairView = with_mail c.fetch_by-frame.new.passes.items c.with_fetch.result before.full_mailboxes before in
    let is : DoesOne c.args.me step c.args.self.now after =
    subst (λ (chair : ChairView). DoesOne c.args.me step chair after) c.self.view_is
    (fetches_one c.args.me before inside.board.now inside.boxes.now inside.cells.now its c.self.invariant c.fetch_by-frame.new.passes.items
    c.with_fetch.result before.full_mailboxes
    c.fetch_by-frame.result c.with_fetch.ensures refl c.fetch_by-frame.ensures) in
    record { did = is.did; stays = is.stays; measure = omega (arith, is.measure); goes_on = is.goes_on }
