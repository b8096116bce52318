-- Each step of a participant keeps what frames tell of the numbers that all took: what is posted is an ask that was made, a notice of a run
-- that was given up, or asks for nothing.
use Rattle.std.proofs.Common.{◌≡◌, ℕ, List, [], ◌∷◌, ◌++◌, Some, refl, sym, subst, append-nil}
use Rattle.std.specs.Prelude.{slice_get, slice_set}
use Rattle.std.specs.List.{All}
use Rattle.std.proofs.lemmas.List.Elements.{All-push}
use Rattle.hp_frame.specs.declared.frame.Frame.{Frame}
use Rattle.hp_hall.specs.Mail.{MailStep}
use Rattle.hp_plain.specs.Boxes.{IsMailStep, after_step}
use Rattle.hp_segs.specs.SegsView.{SegsView}
use Rattle.hp_proc.specs.Doing.{Done}
use Rattle.hp_proc.specs.Doing.Done.{GaveUp}
use Rattle.thm_run.proofs.Boxes.{fetched_post, posts_fetched, posts_posted}
use Rattle.thm_run.proofs.WhatWentBack.GoneSeats.{handles_going}
use Rattle.thm_run.proofs.Made.{IsPost, asking, asks_nothing, made_asked, telling}
use Rattle.thm_run.proofs.TracesTold.Numbers.{AreLater, numbers_later, numbers_of}
use Rattle.thm_run.proofs.SeatFacts.Seating.{IsSeatAfter, apart, its, seat_behind}
use Rattle.thm_run.proofs.TracesTold.Traced.{ArePosts, AreTold, AreTraced, posts_later}
use Rattle.thm_run.proofs.TracesTold.TracedAsks.{was_told}
use Rattle.thm_run.proofs.TracesTold.TracedSeats.{asking_on}
use Rattle.thm_run.specs.Seats.{Handles, Mails, Quietly, Seat}
use Rattle.thm_run.specs.Together.{IsByMail, GlobalState, Steps, with_seat}

-- ONE PARTICIPANT DOES MORE

module _ (at : GlobalState) (told : AreTold at) (who : ℕ) (old new : Seat) (there : slice_get at.seats who ≡ Some old) (more : List Done)
    (grows : new.trace ≡ old.trace ++ more) where
  abbrev behind : ℕ → List Done
  behind = numbers_of (slice_set at.seats who new)

  later : AreLater (numbers_of at.seats) behind
  later = numbers_later at.seats who old new there more grows

  -- what it has fetched stays, and so do the mailboxes
  fetched_on : All (IsPost behind) old.fetched
  fetched_on = posts_later (numbers_of at.seats) behind later old.fetched (told.fetched who old there)

  boxes_on : ArePosts behind at.boxes
  boxes_on one = posts_later (numbers_of at.seats) behind later _ (told.boxes one)

  each_fetched : All (IsPost behind) new.fetched → (other : ℕ) (seat : Seat) → IsSeatAfter at.seats who new other seat
      → All (IsPost behind) seat.fetched
  each_fetched now other seat (its same is) = subst (λ (seat : Seat). All (IsPost behind) seat.fetched) (sym is) now
  each_fetched now other seat (apart beside stood) =
      posts_later (numbers_of at.seats) behind later seat.fetched (told.fetched other seat stood)

  told_with : (segs : SegsView) (boxes : List (List Frame)) → All (IsPost behind) new.fetched → ArePosts behind boxes
      → AreTold (record { seats = slice_set at.seats who new; segs = segs; boxes = boxes })
  told_with segs boxes now posts =
      record { fetched = λ other seat is. each_fetched now other seat (seat_behind at.seats who old new there other seat is); boxes = posts }

  told_on : (segs : SegsView) (boxes : List (List Frame)) → new.fetched ≡ old.fetched → ArePosts behind boxes
      → AreTold (record { seats = slice_set at.seats who new; segs = segs; boxes = boxes })
  told_on segs boxes same posts = told_with segs boxes (subst (All (IsPost behind)) (sym same) fetched_on) posts

still : (seat : Seat) → seat.trace ≡ seat.trace ++ []
still seat = sym (append-nil seat.trace)

-- EACH STEP

told_quietly : (at : GlobalState) (who : ℕ) (old new : Seat) → AreTold at → slice_get at.seats who ≡ Some old → Quietly old new
    → AreTold (with_seat who new at)
told_quietly at who old new told there (Quietly.hears seat answered) =
    told_on at told who old new there [] (still old) at.segs at.boxes refl (boxes_on at told who old new there [] (still old))
told_quietly at who old new told there (Quietly.counts seat sent) =
    told_on at told who old new there [] (still old) at.segs at.boxes refl (boxes_on at told who old new there [] (still old))
told_quietly at who old new told there (Quietly.calls seat heap call answer none) =
    told_on at told who old new there (Done.Called heap call answer ∷ []) refl at.segs at.boxes refl
    (boxes_on at told who old new there (Done.Called heap call answer ∷ []) refl)
told_quietly at who old new told there (Quietly.notes seat elements chunks) =
    told_on at told who old new there [] (still old) at.segs at.boxes refl (boxes_on at told who old new there [] (still old))
told_quietly at who old new told there (Quietly.reads_names seat names) =
    told_on at told who old new there (Done.NamesRead names ∷ []) refl at.segs at.boxes refl
    (boxes_on at told who old new there (Done.NamesRead names ∷ []) refl)
told_quietly at who old new told there (Quietly.reads_stats seat heap counted) =
    told_on at told who old new there (Done.StatsRead heap counted ∷ []) refl at.segs at.boxes refl
    (boxes_on at told who old new there (Done.StatsRead heap counted ∷ []) refl)
told_quietly at who old new told there (Quietly.changes_names seat change) =
    told_on at told who old new there (Done.NamesChanged change ∷ []) refl at.segs at.boxes refl
    (boxes_on at told who old new there (Done.NamesChanged change ∷ []) refl)
told_quietly at who old new told there (Quietly.sees_heap seat heap history) =
    told_on at told who old new there (Done.HeapSeen heap history ∷ []) refl at.segs at.boxes refl
    (boxes_on at told who old new there (Done.HeapSeen heap history ∷ []) refl)
told_quietly at who old new told there (Quietly.plans_range seat addr len page plan) =
    told_on at told who old new there (Done.RangePlanned addr len page plan ∷ []) refl at.segs at.boxes refl
    (boxes_on at told who old new there (Done.RangePlanned addr len page plan ∷ []) refl)
told_quietly at who old new told there (Quietly.maps_chunk seat chunk maps ended is) =
    told_on at told who old new there (Done.ChunkMapped chunk ended ∷ []) refl at.segs at.boxes refl
    (boxes_on at told who old new there (Done.ChunkMapped chunk ended ∷ []) refl)
told_quietly at who old new told there (Quietly.leaves_chunk seat chunk maps is) =
    told_on at told who old new there [] (still old) at.segs at.boxes refl (boxes_on at told who old new there [] (still old))
told_quietly at who old new told there (Quietly.ends_line seat deed given) =
    told_on at told who old new there [] (still old) at.segs at.boxes refl (boxes_on at told who old new there [] (still old))

told_mails : (at : GlobalState) (who : ℕ) (old new : Seat) (step : MailStep) → AreTraced at → AreTold at → slice_get at.seats who ≡ Some old
    → IsMailStep who step at.boxes → Mails who old new step
    → AreTold (record { seats = slice_set at.seats who new; segs = at.segs; boxes = after_step who step at.boxes })
told_mails at who old new step was told there is (Mails.notes seat note) =
    told_on at told who old new there [] (still old) at.segs at.boxes refl (boxes_on at told who old new there [] (still old))
told_mails at who old new step was told there is (Mails.finds_nothing seat) =
    told_on at told who old new there [] (still old) at.segs _ refl
    (posts_fetched _ at.boxes (boxes_on at told who old new there [] (still old)) who)
told_mails at who old new step was told there is (Mails.fetches seat frame) =
    let boxes = boxes_on at told who old new there [] (still old) in
    told_with at told who old new there [] (still old) at.segs _
    (All-push (IsPost (numbers_of (slice_set at.seats who new))) old.fetched frame (fetched_on at told who old new there [] (still old))
    (fetched_post (numbers_of (slice_set at.seats who new)) at.boxes boxes who frame is))
    (posts_fetched _ at.boxes boxes who)
told_mails at who old new step was told there is (Mails.asks seat ask frame action posted armed says) =
    let boxes = boxes_on at told who old new there [] (still old) in
    let made = (asking_on at was who old new there [] (still old) ask armed).made in
    told_on at told who old new there [] (still old) at.segs _ refl
    (posts_posted _ at.boxes boxes 0 frame posted (asking ask says (made_asked _ ask made)))
told_mails at who old new step was told there is (Mails.tells seat heap run frame action posted says) =
    let boxes = boxes_on at told who old new there (GaveUp heap run ∷ []) refl in
    told_on at told who old new there (GaveUp heap run ∷ []) refl at.segs _ refl
    (posts_posted _ at.boxes boxes 0 frame posted (telling who _ heap run says (was_told at was who old there heap run)))
told_mails at who old new step was told there is (Mails.speaks seat to frame body action posted nothing says) =
    let boxes = boxes_on at told who old new there [] (still old) in
    told_on at told who old new there [] (still old) at.segs _ refl
    (posts_posted _ at.boxes boxes to frame posted (asks_nothing body nothing says))

-- with the segment value nobody fetches
pub none_fetched : {count who : ℕ} {old new : Seat} {taken given : SegsView} → Handles count who old new taken given → new.fetched ≡ old.fetched
none_fetched (Handles.looks seat segs) = refl
none_fetched (Handles.moves_ranges seat segs ranges moves) = refl
none_fetched (Handles.steps seat segs event core zero has knows denied may) = refl
none_fetched (Handles.maps seat segs caught table now core zero has up) = refl
none_fetched (Handles.follows seat segs caught table member up) = refl
none_fetched (Handles.arms seat segs asked run number is) = refl
none_fetched (Handles.claims seat segs) = refl
none_fetched (Handles.settles seat segs since now late) = refl
none_fetched (Handles.cuts seat segs heap addr run) = refl
none_fetched (Handles.attaches seat segs caught after does) = refl
none_fetched (Handles.detaches seat segs told other none heard) = refl

pub told_step : (count : ℕ) (at new : GlobalState) (step : Steps count at new) → IsByMail step → AreTraced at → AreTold at → AreTold new
told_step count at new (Steps.quietly before who old now there does) by was told = told_quietly at who old now told there does
told_step count at new (Steps.mails before who old now step there does) is was told =
    told_mails at who old now step was told there is does
told_step count at new (Steps.handles before who old now given there does good armed) by was told =
    let going = handles_going 0 does in
    told_on at told who old now there going.more going.trace given at.boxes (none_fetched does)
    (boxes_on at told who old now there going.more going.trace)
