-- A hall posts a frame, or fetches one.
use Rattle.std.proofs.Common.{◌≡◌, ℕ, ◌<◌, ◌≤◌, List, [], ◌∷◌, ◌++◌, length, map, Option, Some, refl, sym, ap, subst, ◌∙◌, arith}
use Rattle.std.specs.List.{slice_get}
use Rattle.hp_base.specs.declared.plan.Action.{Action}
use Rattle.hp_frame.specs.declared.frame.Frame.{Frame}
use Rattle.hp_stats.specs.StatViews.{seen_of}
use Rattle.atomic_table.specs.Seated.{TableId}
use Rattle.hp_mail.specs.PassView.{MailboxView, PassView, after_post}
use Rattle.hp_mail.specs.declared.posted.Posted.{Posted}
use Rattle.hp_hall.specs.Mail.{Fetches, IsAsPlanned, MailStep, Posts, counted_on, full_of, full_post}
use Rattle.hp_hall.specs.Telling.{acked_after, acked_since_take}
use Rattle.hp_board.specs.BoardView.{BoardView}
use Rattle.hp_board.proofs.Fronts.{front_itself}
use Rattle.hp_chair.specs.ChairInside.{IsAckedBy, IsChair, IsTiedTo}
use Rattle.hp_chair.specs.ChairView.{ChairView}
use Rattle.hp_chair.specs.Places.{ArePlaces}
use Rattle.hp_chair.specs.Posts.{HasFoundRoom, HaveFetchedBy, HavePostedBy}
use Rattle.hp_chair.proofs.ChairKept.{acked_step, chair_after, reader_step}
use Rattle.hp_chair.proofs.ChairMail.{mailbox_still, mailboxes_set, places_fetched, places_posted, there_is}
use Rattle.hp_chair.proofs.ChairSteps.{DoesOne, MailGoesOn, does_one}
use Rattle.hp_chair.proofs.MailFetched.{mail_fetched, mail_posted, passes_placed}
use Rattle.hp_chair.proofs.MailRoom.{went_posted}
use Rattle.hp_chair.proofs.SeatGoes.{goes_same, leaves_same}
use Rattle.hp_chair.proofs.StepsDone.{IsBeside, before_same, beside_fetch, beside_post, done_beside}
use Rattle.hp_chair.proofs.PairsRead.{ShowsNothing}
use Rattle.hp_chair.proofs.StepsOn.{LeavesTold, tells_none, tied_still}

-- the hall after a step that mailboxes show
abbrev pub with_mail : List PassView → List MailStep → ℕ → ChairView → ChairView
with_mail passes steps full_mailboxes chair = record chair { passes = passes; steps = steps; full_mailboxes = full_mailboxes }

-- the pass by which a frame was fetched, at its place
record IsFetchedHere (place : ℕ) (frame : Option Frame) (old new : List PassView) : Type 0 where
  pub pass : PassView
  pub within : place < length old
  pub there : slice_get old place ≡ Some pass
  pub by : HaveFetchedBy place frame old new pass

module _ (me : ℕ) (old : ChairView) (board : BoardView) (boxes : List MailboxView) (cells : List TableId) (its : me ≡ old.seat.mine.who)
    (was : IsChair board boxes cells old)
    (passes : List PassView) (steps : List MailStep) (full_mailboxes : ℕ) where
  abbrev new : ChairView
  new = with_mail passes steps full_mailboxes old

  -- what a mail step leaves to its caller
  mails : (step : MailStep) → IsBeside step → LeavesTold step → steps ≡ old.steps ++ step ∷ [] → IsAsPlanned step → full_mailboxes ≡ counted_on (full_post step) old.full_mailboxes
      → map (λ pass. pass.mailbox) passes ≡ map (λ pass. pass.mailbox) old.passes → MailGoesOn step old new → DoesOne me step old new
  mails step beside untold made planned count same mail = does_one me step old new its was.declared (record {
    board = refl;
    boxes = same;
    cells = refl;
    goes = goes_same old.seat.mine;
    shown = λ heap. front_itself (seen_of heap old.stats);
    made = made;
    done = done_beside old.seat.mine old.seat.mine step beside (before_same old.seat.mine);
    mail = mail;
    planned = planned;
    full_mailboxes = count;
    turns = omega arith;
    stopped = λ has. has;
  }) (leaves_same old.seat.mine) untold refl

  kept : (step : MailStep) → LeavesTold step → ShowsNothing step → steps ≡ old.steps ++ step ∷ [] → IsTiedTo (old.steps ++ step ∷ []) old.seat.mine
      → IsAckedBy (acked_after (acked_since_take old.steps) step) old.seat.mine
      → ArePlaces old.seat.mine.who (old.steps ++ step ∷ []) boxes passes → IsChair board boxes cells new
  kept step untold none made tied acked places =
      chair_after board boxes cells old new was refl (goes_same old.seat.mine) refl was.held
      (subst (λ (l : List MailStep). IsTiedTo l old.seat.mine) (sym made) tied)
      (subst (λ (l : List MailStep). IsAckedBy (acked_since_take l) old.seat.mine) (sym made) (acked_step old.steps step old.seat.mine acked))
      (subst (λ (l : List MailStep). ArePlaces old.seat.mine.who l boxes passes) (sym made) places)
      (reader_step cells old new was.reads refl refl step made (tells_none step untold) none)

  module _ (to : ℕ) (frame : Frame) (action : Action) (posted : Posted) (made : steps ≡ old.steps ++ Posts to frame action posted ∷ []) where
    pub posts_one : IsAsPlanned (Posts to frame action posted) → full_mailboxes ≡ counted_on (full_of posted) old.full_mailboxes → to < length boxes
        → HasFoundRoom to frame action posted boxes old.passes → HavePostedBy to frame posted old.passes passes
        → DoesOne me (Posts to frame action posted) old new
    posts_one planned count below found by =
        let within : to < length old.passes = omega (arith, below, was.places.count) in
        let there = there_is old.passes to within in
        mails (Posts to frame action posted) (beside_post to frame action posted) (λ heap told. refl) made planned count
        (ap (map (λ (pass : PassView). pass.mailbox)) (by there.0 there.1) ∙ mailboxes_set old.passes to there.0 (after_post frame posted there.0) there.1 refl)
        (mail_posted old new refl refl to frame action posted within by
        (went_posted old.seat.mine.who to old.steps frame action posted boxes old.boxes old.passes was.places was.rooms below found))

    pub chair_posted : to < length boxes → HavePostedBy to frame posted old.passes passes → IsChair board boxes cells new
    chair_posted below by =
        kept (Posts to frame action posted) (λ heap told. refl) (λ heap. refl) made
        (tied_still old.steps (Posts to frame action posted) old.seat.mine old.seat.mine was.tied refl (λ slot value. refl) (λ naming. refl) refl refl)
        was.acked
        (places_posted old.seat.mine.who to old.steps frame action posted boxes old.passes passes was.places below by)

  module _ (frame : Option Frame) (made : steps ≡ old.steps ++ Fetches frame ∷ []) where
    -- the pass by which it was fetched
    fetched : ((pass : PassView) → slice_get old.passes me ≡ Some pass → HaveFetchedBy me frame old.passes passes pass)
        → IsFetchedHere old.seat.mine.who frame old.passes passes
    fetched by =
        let within : old.seat.mine.who < length old.passes = omega (arith, was.declared, was.count, was.places.count) in
        let there = there_is old.passes old.seat.mine.who within in
        record {
          pass = there.0;
          within = within;
          there = there.1;
          by = subst (λ (n : ℕ). HaveFetchedBy n frame old.passes passes there.0) its (by there.0 (ap (slice_get old.passes) its ∙ there.1));
        }

    pub fetches_one : full_mailboxes ≡ old.full_mailboxes → ((pass : PassView) → slice_get old.passes me ≡ Some pass → HaveFetchedBy me frame old.passes passes pass)
        → DoesOne me (Fetches frame) old new
    fetches_one count by =
        let here = fetched by in
        mails (Fetches frame) (beside_fetch frame) (λ heap told. refl) made tt (omega (arith, count))
        (ap (map (λ (pass : PassView). pass.mailbox)) here.by.passes
        ∙ mailboxes_set old.passes old.seat.mine.who here.pass here.by.later here.there (mailbox_still frame here.pass here.by.later here.by.fetched))
        (mail_fetched old new refl refl here.pass here.within here.there
        ((passes_placed old.seat.mine.who old.steps boxes old.passes was.places).each old.seat.mine.who here.pass here.there) frame here.by)

    pub chair_fetched : ((pass : PassView) → slice_get old.passes me ≡ Some pass → HaveFetchedBy me frame old.passes passes pass) → IsChair board boxes cells new
    chair_fetched by =
        let here = fetched by in
        kept (Fetches frame) (λ heap told. refl) (λ heap. refl) made
        (tied_still old.steps (Fetches frame) old.seat.mine old.seat.mine was.tied refl (λ slot value. refl) (λ naming. refl) refl refl)
        was.acked
        (places_fetched old.seat.mine.who old.steps frame boxes old.passes passes here.pass was.places here.within here.there here.by)
