use Rattle.std.proofs.Common.{◌≡◌, ◌<◌, length, refl, sym, subst, ◌∙◌, arith}
use Rattle.std.proofs.lemmas.Option.{same_Some, slice_get_read}
use Rattle.hp_mail.specs.PassView.{MailboxView, PassView}
use Rattle.hp_chair.specs.Posts.{IsFetchedBy}
use Rattle.hp_chair.proofs.ChairMail.{fetched_as}
use Rattle.hp_chair.proofs.board_hall.mail.fetch_by.Goals as goal

pub fetch-requires-clause-mailbox : goal.fetch-requires-clause-mailbox
fetch-requires-clause-mailbox g c =
    let boxes = c.args.boxes.now in
    let passes = c.args.passes.now.items in
    let me = c.args.me in
    let mailbox : MailboxView = c.index-boxes-place.result in
    let found : PassView = c.index_mut.result.now in
    let places = c.requires.places.1 in
    let below : me < length passes = omega (arith, places.count, c.requires.declared) in
    let box = slice_get_read boxes (length boxes) me mailbox refl c.requires.declared c.index-boxes-place.is in
    let there = slice_get_read passes (length passes) me found refl below c.index_mut.ensures.value in
    (places.each me mailbox found box there).its

pub fetch-requires-clause-owner : goal.fetch-requires-clause-owner
fetch-requires-clause-owner g c =
    let boxes = c.args.boxes.now in
    let passes = c.args.passes.now.items in
    let me = c.args.me in
    let mailbox : MailboxView = c.index-boxes-place.result in
    let found : PassView = c.index_mut.result.now in
    let places = c.requires.places.1 in
    let below : me < length passes = omega (arith, places.count, c.requires.declared) in
    let box = slice_get_read boxes (length boxes) me mailbox refl c.requires.declared c.index-boxes-place.is in
    let there = slice_get_read passes (length passes) me found refl below c.index_mut.ensures.value in
    (places.each me mailbox found box there).owner refl

pub returns : goal.returns
returns g c = λ pass there.
    let passes = c.args.passes.now.items in
    let found : PassView = c.index_mut.result.now in
    let below : c.args.me < length passes = omega (arith, c.requires.places.1.count, c.requires.declared) in
    let at = slice_get_read passes (length passes) c.args.me found refl below c.index_mut.ensures.value in
    let it : found ≡ pass = same_Some found pass (sym at ∙ there) in
    record {
      later = c.fetch.new.pass;
      fetched = subst (λ (p : PassView). IsFetchedBy c.fetch.result p c.fetch.new.pass) it
          (fetched_as c.fetch.result found c.fetch.new.pass c.fetch.ensures.some c.fetch.ensures.none);
      passes = refl;
    }
