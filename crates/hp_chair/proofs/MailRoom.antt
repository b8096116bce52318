-- A frame was posted, and went by the room that the mailbox had.
use Rattle.std.proofs.Common.{◌≡◌, ℕ, ◌<◌, List, length, Some, ap, ◌∙◌, arith}
use Rattle.std.specs.List.{slice_get}
use Rattle.hp_base.specs.declared.plan.Action.{Action}
use Rattle.hp_frame.specs.declared.frame.Frame.{Frame}
use Rattle.hp_mail.specs.PassView.{MailboxView, PassView, after_post}
use Rattle.hp_mail.specs.declared.posted.Posted.{Posted}
use Rattle.hp_hall.specs.Mail.{MailStep, Posts}
use Rattle.hp_chair.specs.FoundFull.{WentByRoom}
use Rattle.hp_chair.specs.Places.{ArePlaces, IsPlace}
use Rattle.hp_chair.specs.Posts.{FindsRoom, HasFoundRoom}
use Rattle.hp_chair.proofs.ChairMail.{place_posted, there_is}

module _ (who to : ℕ) (steps : List MailStep) (frame : Frame) (action : Action) (posted : Posted) (boxes rooms : List MailboxView)
    (passes : List PassView) (places : ArePlaces who steps boxes passes) (same : rooms ≡ boxes) (below : to < length boxes)
    (found : HasFoundRoom to frame action posted boxes passes) where
  pub went_posted : WentByRoom who rooms steps (Posts to frame action posted)
  went_posted =
      let box = there_is boxes to below in
      let pass = there_is passes to (omega (arith, below, places.count)) in
      let its : IsPlace who to steps box.0 pass.0 = places.each to box.0 pass.0 box.1 pass.1 in
      let finds : FindsRoom frame action posted box.0 pass.0 = found box.0 pass.0 box.1 pass.1 in
      let there : slice_get rooms to ≡ Some box.0 = ap (λ (l : List MailboxView). slice_get l to) same ∙ box.1 in
      record {
        full = λ is. record { mailbox = box.0; pass = pass.0; there = there; its = its; full = finds.full is };
        twice = finds.twice;
        once = λ line planned sent. record {
          mailbox = box.0;
          pass = after_post frame posted pass.0;
          there = there;
          its = place_posted who to steps frame action posted boxes passes pass.0 box.0 its;
          full = finds.once line planned sent;
        };
      }
