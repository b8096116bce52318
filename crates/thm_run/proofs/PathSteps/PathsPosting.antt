-- What participant 0 posts for its coordinator is a path.
use Rattle.std.proofs.Common.{◌≡◌, ℕ, zero, suc, Bool, List, [], ◌++◌, refl}
use Rattle.hp_base.specs.declared.plan_entry.PlanEntry.{PlanEntry}
use Rattle.hp_core.specs.declared.out.Out.{Out}
use Rattle.hp_frame.specs.declared.frame.Frame.{Frame}
use Rattle.hp_frame.specs.declared.message.Body.{Body}
use Rattle.hp_frame.specs.declared.message.Body.TheVariants.{Sync}
use Rattle.hp_hall.specs.Mail.{MailStep}
use Rattle.hp_serve.specs.Frames.{Says}
use Rattle.hp_serve.specs.Party.{Party}
use Rattle.hp_serve.specs.Posting.{AreTold, IsPosted, IsToldOne, after_answer, after_syncs, is_told, result_body, syncs_after}
use Rattle.thm_run.specs.Seats.{AsksNothing, Mails, SeatTrace, Quietly, Seat, seated}
use Rattle.thm_run.proofs.PathSteps.Paths.{Serves, ServesFrom, path_by, path_mail, path_quietly, path_then, serves_here, serves_to}

module _ (count who : ℕ) (frame : Frame) (body : Body) (nothing : AsksNothing body) (says : Says frame body) where
  -- a message to one, or none
  told_one : (plan : List PlanEntry) (counts : List ℕ) (to : ℕ) (told : Bool) (steps : List MailStep)
      → IsToldOne plan frame counts to told steps
      → (seat : Seat) → SeatTrace count who seat seat steps
  told_one plan counts to told steps (IsToldOne.tells posted is did) seat =
      path_by count who seat seat _ steps did (path_mail count who seat seat _ (Mails.speaks seat to frame body _ posted nothing says))
  told_one plan counts to told steps (IsToldOne.passes is did) seat = path_by count who seat seat [] steps did (SeatTrace.ends seat)

  -- to each of so many that is to be told
  told_path : (plan : List PlanEntry) (counts : List ℕ) (told : ℕ → Bool) (n : ℕ) (steps : List MailStep)
      → AreTold plan counts frame told n steps → (seat : Seat) → SeatTrace count who seat seat steps
  unfolding AreTold
  told_path plan counts told zero steps are seat = path_by count who seat seat [] steps are (SeatTrace.ends seat)
  told_path plan counts told (suc n) steps are seat =
      path_by count who seat seat (are.0 ++ are.1) steps are.4
      (path_then count who seat seat seat are.0 are.1 (told_path plan counts told n are.0 are.2 seat)
      (told_one plan (syncs_after told counts n) (suc n) (told (suc n)) are.1 are.3 seat))

module _ (count who : ℕ) where
  -- it posted this, and counted that
  posts_counted : (party : Party) (after : Party) (steps : List MailStep) (seat : Seat) → after.me ≡ party.me
      → after.deadline ≡ party.deadline
      → after.asked ≡ party.asked → SeatTrace count who (seated party seat) (seated party seat) steps
      → Quietly (seated party seat) (seated after seat) → Serves count who party after steps seat
  posts_counted party after steps seat me deadline asked path quiet = record {
    behind = seat;
    me = me;
    deadline = deadline;
    asked = asked;
    standing = refl;
    lines = refl;
    trace = refl;
    path = path_quietly count who (seated party seat) (seated party seat) (seated after seat) steps path quiet;
  }

  pub posted_path : (party after : Party) (answer : Out) (steps : List MailStep) → IsPosted count party after answer steps
      → ServesFrom count who party after steps
  posted_path party after answer steps (IsPosted.nothing is did after_is) seat = serves_here count who party after steps after_is did seat
  posted_path party after answer steps (IsPosted.syncs generation round members frame is says told after_is) seat =
      let new : Party = after_syncs (is_told count members) party in
      serves_to count who party new after steps steps seat after_is refl
      (posts_counted party new steps seat refl refl refl
      (told_path count who frame (Sync generation round) tt says party.plan party.sent.syncs (is_told count members) 15 steps told
      (seated party seat))
      (Quietly.counts (seated party seat) new.sent))
  posted_path party after answer steps (IsPosted.answers to number what good frame posted is asker says did after_is) seat =
      let new : Party = after_answer to party in
      serves_to count who party new after _ steps seat after_is did
      (posts_counted party new _ seat refl refl refl
      (path_mail count who (seated party seat) (seated party seat) _
      (Mails.speaks (seated party seat) to frame (result_body number what good) _ posted tt says))
      (Quietly.counts (seated party seat) new.sent))
  posted_path party after answer steps (IsPosted.nobody to number what good is asker did after_is) seat =
      serves_here count who party after steps after_is did seat
