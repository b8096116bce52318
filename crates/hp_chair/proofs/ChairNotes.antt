-- A hall notes what its participant did, whether its seat made a step that leaves the slots, or none.
use Rattle.std.proofs.Common.{◌≡◌, ◌⊎◌, inl, inr, ⊎_elim, ℕ, ◌<◌, ◌≤◌, true, not, List, [], ◌∷◌, ◌++◌, Option, Some, refl, sym, ap, subst, ◌∙◌, arith}
use Rattle.std.proofs.lemmas.Option.{same_Some}
use Rattle.hp_base.specs.declared.limits.TheConstants.{MAX_HEAPS}
use Rattle.hp_stats.specs.StatViews.{seen_of}
use Rattle.atomic_table.specs.Seated.{TableId}
use Rattle.hp_mail.specs.PassView.{MailboxView}
use Rattle.hp_hall.specs.Mail.{HasInHand, Notes}
use Rattle.hp_hall.specs.Own.{Own}
use Rattle.hp_hall.specs.Telling.{acked_after, acked_since_take}
use Rattle.hp_hall.specs.declared.note.Note.{Note}
use Rattle.hp_board.specs.BoardView.{BoardView}
use Rattle.hp_board.specs.SeatView.{SeatView}
use Rattle.hp_board.specs.Views.{after_acking, after_load, after_unmapping, holds_segments, own_of}
use Rattle.hp_board.specs.declared.view.Mine.{Mine}
use Rattle.hp_board.proofs.Fronts.{front_itself}
use Rattle.hp_chair.specs.ChairInside.{IsAckedBy, IsChair}
use Rattle.hp_chair.specs.ChairView.{ChairView, chair_state}
use Rattle.hp_chair.specs.DoneBy.{IsDoneBy}
use Rattle.hp_chair.proofs.ChairKept.{LeavesHand, chair_quiet, reader_step}
use Rattle.hp_chair.proofs.ChairSteps.{ComesTo, DoesOne, GoesOn, LeavesSlots, MakesStep, comes_to, does_one, done_old, joined_old, mail_still}
use Rattle.hp_chair.proofs.ChairTakes.{with_seat}
use Rattle.hp_chair.proofs.PairsRead.{ShowsNothing}
use Rattle.hp_chair.proofs.StepsOn.{LeavesTold, hand_held, quiet_note, tells_none}

-- a seat that made no step, or one that leaves what it has in hand and what it has seen
pub hand_same : (mine : Mine) → LeavesHand mine mine
hand_same mine = record { who = refl; opening = refl; joined = refl; held = refl; moves = refl; log = refl; heard = refl; named = refl; holdings = refl }

pub hand_acked : (mine after : Mine) (number : ℕ) → after ≡ after_acking number mine → LeavesHand mine after
hand_acked mine after number is = subst (LeavesHand mine) (sym is) (record { who = refl; opening = refl; joined = refl; held = refl; moves = refl; log = refl; heard = refl; named = refl; holdings = refl })

pub hand_unmapped : (mine after : Mine) → after ≡ after_unmapping mine → LeavesHand mine after
hand_unmapped mine after is = subst (LeavesHand mine) (sym is) (record { who = refl; opening = refl; joined = refl; held = refl; moves = refl; log = refl; heard = refl; named = refl; holdings = refl })

pub hand_loaded : (mine after : Mine) (from number : ℕ) → after ≡ after_load from number mine → LeavesHand mine after
hand_loaded mine after from number is = subst (LeavesHand mine) (sym is) (record { who = refl; opening = refl; joined = refl; held = refl; moves = refl; log = refl; heard = refl; named = refl; holdings = refl })

-- what it has acknowledged is its number, and stays so where that does
pub acked_here : (mine after : Mine) (number : ℕ) → after ≡ after_acking number mine → IsAckedBy (Some number) after
acked_here mine after number is = subst (IsAckedBy (Some number)) (sym is)
    (λ other same. record { its = same_Some number other same; joins = λ out. ap not out })

pub acked_unmapped : (acked : Option ℕ) (mine after : Mine) → after ≡ after_unmapping mine → IsAckedBy acked mine → IsAckedBy acked after
acked_unmapped acked mine after is was = subst (IsAckedBy acked) (sym is)
    (λ number some. record { its = (was number some).its; joins = (was number some).joins })

pub acked_loaded : (acked : Option ℕ) (mine after : Mine) (from number : ℕ) → after ≡ after_load from number mine → IsAckedBy acked mine
    → IsAckedBy acked after
acked_loaded acked mine after from number is was = subst (IsAckedBy acked) (sym is)
    (λ other some. record { its = (was other some).its; joins = (was other some).joins })

module _ (me : ℕ) (note : Note) (untold : LeavesTold (Notes note)) (old : ChairView) (seat : SeatView) (its : me ≡ old.seat.mine.who) (declared : old.seat.mine.who < old.seat.mine.opening.participants)
    (goes : GoesOn old.seat.mine seat.mine) (leaves : LeavesSlots old.seat.mine seat.mine)
    (sits : seat.board ≡ old.seat.board) where
  abbrev new : ChairView
  new = with_seat seat (old.steps ++ Notes note ∷ []) old

  makes : IsDoneBy old.seat.mine seat.mine (Notes note ∷ []) → MakesStep (Notes note) old new
  makes done = record {
    board = sits;
    boxes = refl;
    cells = refl;
    goes = goes;
    shown = λ heap. front_itself (seen_of heap old.stats);
    made = refl;
    done = done;
    mail = mail_still (Notes note) old new refl tt refl refl goes.who;
    planned = tt;
    full_mailboxes = omega arith;
    turns = omega arith;
    stopped = λ has. has;
  }

  pub note_one : IsDoneBy old.seat.mine seat.mine (Notes note ∷ []) → own_of seat.mine ≡ own_of old.seat.mine → DoesOne me (Notes note) old new
  note_one done own = does_one me (Notes note) old new its declared (makes done) leaves untold own

  pub note_come : IsDoneBy old.seat.mine seat.mine (Notes note ∷ []) → (part : Own) → own_of seat.mine ≡ part
      → ComesTo me part (Notes note) old new
  note_come done part own = comes_to me (Notes note) old new its declared (makes done) leaves untold part own

  pub chair_noted : (board : BoardView) (boxes : List MailboxView) (cells : List TableId) → IsChair board boxes cells old
      → LeavesHand old.seat.mine seat.mine → IsAckedBy (acked_after (acked_since_take old.steps) (Notes note)) seat.mine
      → ShowsNothing (Notes note) → IsChair board boxes cells new
  chair_noted board boxes cells was hand acked none =
      chair_quiet board boxes cells old new was sits goes refl (Notes note) (quiet_note note) refl refl hand acked
      (reader_step cells old new was.reads goes.opening refl (Notes note) refl (tells_none (Notes note) untold) none)

-- who has the segment value in hand by its steps holds its slot at the board
pub may_ack : (me : ℕ) (board : BoardView) (boxes : List MailboxView) (cells : List TableId) (chair : ChairView) → me ≡ chair.seat.mine.who
    → IsChair board boxes cells chair
    → ((chair_state chair).joined me ≡ true) ⊎ HasInHand MAX_HEAPS ((chair_state chair).done me)
    → (chair.seat.mine.joined ≡ true) ⊎ (holds_segments chair.seat.mine ≡ true)
may_ack me board boxes cells chair its is may =
    ⊎_elim
    (λ (joined : (chair_state chair).joined me ≡ true). inl (sym (joined_old me chair chair its refl) ∙ joined))
    (λ (hand : HasInHand MAX_HEAPS ((chair_state chair).done me)).
    inr (hand_held MAX_HEAPS chair.steps chair.seat.mine is.tied (subst (HasInHand MAX_HEAPS) (done_old me chair chair its refl) hand)))
    may
