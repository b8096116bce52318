use Rattle.std.proofs.Common.{◌≡◌, ◌<◌, length, set, refl, sym, ap, subst, ◌∙◌, arith}
use Rattle.std.proofs.lemmas.Option.{same_Some, slice_get_read}
use Rattle.hp_mail.specs.PassView.{MailboxView, PassView, after_post}
use Rattle.hp_chair.specs.Posts.{FindsRoom}
use Rattle.hp_chair.proofs.board_hall.mail.post_by.Goals as goal

-- the pass at the mailbox's place is for that mailbox
pub post-requires : goal.post-requires
post-requires g c =
    let boxes = c.args.boxes.now in
    let passes = c.args.passes.now.items in
    let place = c.args.to in
    let mailbox : MailboxView = c.index-boxes-place.result in
    let found : PassView = c.index_mut.result.now in
    let places = c.requires.places.2 in
    let below : place < length passes = omega (arith, places.count, c.requires.declared) in
    let box = slice_get_read boxes (length boxes) place mailbox refl c.requires.declared c.index-boxes-place.is in
    let there = slice_get_read passes (length passes) place found refl below c.index_mut.ensures.value in
    record { mailbox = (places.each place mailbox found box there).its }

pub returns-clause-passes : goal.returns-clause-passes
returns-clause-passes g c = λ pass there.
    let passes = c.args.passes.now.items in
    let found : PassView = c.index_mut.result.now in
    let below : c.args.to < length passes = omega (arith, c.requires.places.2.count, c.requires.declared) in
    let at = slice_get_read passes (length passes) c.args.to found refl below c.index_mut.ensures.value in
    let it : found ≡ pass = same_Some found pass (sym at ∙ there) in
    ap (set passes c.args.to) (c.post.ensures.posted ∙ ap (after_post c.args.frame c.post.result) it)

pub returns-clause-room : goal.returns-clause-room
returns-clause-room g c = λ mailbox pass box there.
    let boxes = c.args.boxes.now in
    let passes = c.args.passes.now.items in
    let its : MailboxView = c.index-boxes-place.result in
    let found : PassView = c.index_mut.result.now in
    let below : c.args.to < length passes = omega (arith, c.requires.places.2.count, c.requires.declared) in
    let its_at = slice_get_read boxes (length boxes) c.args.to its refl c.requires.declared c.index-boxes-place.is in
    let at = slice_get_read passes (length passes) c.args.to found refl below c.index_mut.ensures.value in
    subst (λ (m : MailboxView). FindsRoom c.args.frame c.args.action c.post.result m pass) (same_Some its mailbox (sym its_at ∙ box))
    (subst (λ (p : PassView). FindsRoom c.args.frame c.args.action c.post.result its p) (same_Some found pass (sym at ∙ there))
    (record { full = c.post.ensures.full; twice = c.post.ensures.twice; once = c.post.ensures.once }))
