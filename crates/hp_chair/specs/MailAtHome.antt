-- What the passes of all participants say together of the frames that one of them fetched, once all have come home: the rule "A seat at the
-- board" of docs/HALLS.md.
use Rattle.std.specs.Prelude.{◌≡◌, ℕ, ◌<◌, ◌≤◌, List, [], Contains, length, map, take, Some, slice_get}
use Rattle.hp_frame.specs.declared.frame.Frame.{Frame}
use Rattle.hp_mail.specs.PassView.{HasNoStrangers, PassView, WasInOrder}
use Rattle.hp_mail.specs.Views.{frames_of}
use Rattle.hp_mail.specs.declared.letter.Letter.{Letter}
use Rattle.hp_hall.specs.Mail.{Fetches, MailStep}
use Rattle.hp_chair.specs.Places.{HasPasses}
use Rattle.hp_chair.specs.Steps.{fetched_by, posted_to}

-- participants that have made these steps came home with these passes, and at the mailbox of one its own pass has met itself and those of
-- all the others
pub record HaveMetAt (owner participants : ℕ) (steps : ℕ → List MailStep) (rows : ℕ → List PassView) (own : PassView) : Type 0 where
  pub declared : owner < participants
  pub home : (who : ℕ) → who < participants → HasPasses who participants (steps who) (rows who)
  pub its : slice_get (rows owner) owner ≡ Some own
  pub met : (who : ℕ) (pass : PassView) → who < participants → slice_get (rows who) owner ≡ Some pass → WasInOrder own pass
  pub strangers : HasNoStrangers own

-- what one fetched, each frame with its sender: the first ones that each participant posted to it, in the order of that one, and none of
-- anybody else
pub record CameFromThem (owner participants : ℕ) (steps : ℕ → List MailStep) : Type 0 where
  pub letters : List Letter
  pub fetched : map (λ letter. letter.frame) letters ≡ fetched_by (steps owner)
  pub in_order : (who : ℕ) → who < participants
      → frames_of who letters ≡ take (length (frames_of who letters)) (posted_to owner (steps who))
  pub strangers : (who : ℕ) → participants ≤ who → frames_of who letters ≡ []

abbrev pub FramesCameInOrder : Type 0
FramesCameInOrder = (owner participants : ℕ) (steps : ℕ → List MailStep) (rows : ℕ → List PassView) (own : PassView)
    → HaveMetAt owner participants steps rows own → CameFromThem owner participants steps

-- so each frame that it fetched one of them posted to it
abbrev pub EachFrameWasPosted : Type 0
EachFrameWasPosted = (owner participants : ℕ) (steps : ℕ → List MailStep) (rows : ℕ → List PassView) (own : PassView)
    → HaveMetAt owner participants steps rows own → (frame : Frame) → Contains (steps owner) (Fetches (Some frame))
    → (from : ℕ) × (from < participants) × Contains (posted_to owner (steps from)) frame
