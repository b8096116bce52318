use Rattle.std.proofs.Common.{◌<◌, sym, subst, arith}
use Rattle.hp_hall.specs.Mail.{MailStep, Posts}
use Rattle.hp_chair.specs.ChairView.{ChairView}
use Rattle.hp_chair.proofs.ChairPosts.{chair_posted, posts_one, with_mail}
use Rattle.hp_chair.proofs.ChairSteps.{DoesOne, chair_of, its_own}
use Rattle.hp_chair.proofs.board_hall.calls.BoardHallHall.post.Goals as goal

pub post_by-posted-requires-clause-places : goal.post_by-posted-requires-clause-places
post_by-posted-requires-clause-places g c = (c.self.inside.seat.mine.who, c.self.inside.log, c.self.invariant.places)

pub post_by-posted-requires-clause-declared : goal.post_by-posted-requires-clause-declared
post_by-posted-requires-clause-declared g c =
    let count = c.self.invariant.count in
    let below = subst (λ (chair : ChairView). c.args.to < chair.seat.mine.opening.participants) (sym c.self.view_is) c.requires.declared in
    omega (arith, count, below)

pub invariant_of-self : goal.invariant_of-self
invariant_of-self g c =
    let is = c.post_by-posted.ensures in
    let inside = c.self.inside in
    let before = chair_of inside.seat inside.boxes.now inside.passes.items inside.stats inside.log inside.full_mailboxes inside.stopped inside.turns in
    let its = its_own c.args.me c.self.view_is c.requires.serves in
    let count = c.self.invariant.count in
    let below = subst (λ (chair : ChairView). c.args.to < chair.seat.mine.opening.participants) (sym c.self.view_is) c.requires.declared in
    chair_posted c.args.me before inside.board.now inside.boxes.now inside.cells.now its c.self.invariant c.post_by-posted.new.passes.items
    c.with_post.result c.counted-self-inside.result
    c.args.to c.args.frame c.args.action c.post_by-posted.result c.with_post.ensures (omega (arith, count, below)) is.passes

pub returns : goal.returns
returns g c =
    let posted = c.post_by-posted.result in
    let step : MailStep = Posts c.args.to c.args.frame c.args.action posted in
    let inside = c.self.inside in
    let before = chair_of inside.seat inside.boxes.now inside.passes.items inside.stats inside.log inside.full_mailboxes inside.stopped inside.turns in
    let its = its_own c.args.me c.self.view_is c.requires.serves in
    let count = c.self.invariant.count in
    let below = subst (λ (chair : ChairView). c.args.to < chair.seat.mine.opening.participants) (sym c.self.view_is) c.requires.declared in
    let after : ChairView = with_mail c.post_by-posted.new.passes.items c.with_post.result c.counted-self-inside.result before in
    let is : DoesOne c.args.me step c.args.self.now after =
    subst (λ (chair : ChairView). DoesOne c.args.me step chair after) c.self.view_is
    (posts_one c.args.me before inside.board.now inside.boxes.now inside.cells.now its c.self.invariant c.post_by-posted.new.passes.items
    c.with_post.result c.counted-self-inside.result
    c.args.to c.args.frame c.args.action posted c.with_post.ensures c.post_by-posted.ensures.lost c.counted-self-inside.ensures
    (omega (arith, count, below)) c.post_by-posted.ensures.room c.post_by-posted.ensures.passes) in
    record { did = is.did; stays = is.stays; measure = omega (arith, is.measure); goes_on = is.goes_on }
