-- What a call that makes one step leaves of a hall with one seat, as its callers see it.
use Rattle.std.proofs.Common.{◌≡◌, ◌≢◌, inr, ℕ, ◌+◌, ◌<◌, ◌≤◌, Bool, true, false, List, [], ◌∷◌, ◌++◌, map, Option, refl, sym, ap, ap₂, subst, ◌∙◌, arith}
use Rattle.std.specs.List.{slice_get}
use Rattle.std.proofs.lemmas.List.Sums.{sum_by-cons}
use Rattle.hp_mail.specs.PassView.{MailboxView, PassView}
use Rattle.hp_hall.specs.HallCalls.{HasComeTo}
use Rattle.hp_hall.specs.HallState.{Did, MineStay, OthersStay, PartsStay, SlotsStay, Stays}
use Rattle.hp_hall.specs.Holding.{HeapPart}
use Rattle.hp_hall.specs.Mail.{IsAsPlanned, MailStep, counted_on, full_post, full_posts}
use Rattle.hp_hall.specs.Named.{NamesGoOn}
use Rattle.hp_hall.specs.Own.{Own, after_ack}
use Rattle.hp_hall.specs.declared.kept.Kept.{Kept}
use Rattle.hp_board.specs.Knowing.{heap_part}
use Rattle.hp_board.specs.SeatView.{SeatView}
use Rattle.hp_stats.specs.StatViews as stats
use Rattle.hp_stats.specs.StatViews.{seen_of}
use Rattle.hp_stats.specs.declared.stat_pair.StatPair.{StatPair}
use Rattle.hp_board.specs.Views.{BeginsWith, lines_known, named_of, noted_of, own_of, value_of}
use Rattle.hp_board.specs.declared.opening.Opening.{Opening}
use Rattle.hp_board.specs.declared.view.Mine.{Mine}
use Rattle.hp_chair.specs.ChairCourse.{IsChairCourse}
use Rattle.hp_chair.specs.ChairLaws.{chair_later}
use Rattle.hp_chair.specs.ChairView.{ChairView, chair_part, chair_state, lines_of, no_part, of_one}
use Rattle.hp_chair.specs.DoneBy.{IsDoneBy}
use Rattle.hp_chair.specs.FoundEmpty.{FoundItsMailboxEmpty, fetched_with, letters_of}
use Rattle.hp_chair.specs.FoundEmptyLaws.{is_vain, not_vain, same_rest}
use Rattle.hp_chair.specs.FoundFull.{AllWentByRoom, WentByRoom}
use Rattle.hp_chair.specs.FoundFullLaws.{one_went}
use Rattle.hp_board.proofs.Fronts.{front_same}
use Rattle.hp_chair.specs.Steps.{told_in}
use Rattle.hp_chair.proofs.OneOf.{one_elsewhere, one_here}
use Rattle.hp_chair.proofs.StepsOn.{LeavesTold, told_still}

-- a hall as contracts see it, of what it keeps
abbrev pub chair_of : SeatView → List MailboxView → List PassView → stats.PassView → List MailStep → ℕ → Bool → ℕ → ChairView
chair_of seat boxes passes pass steps full_mailboxes stopped turns = record {
  seat = seat;
  boxes = boxes;
  passes = passes;
  stats = pass;
  steps = steps;
  full_mailboxes = full_mailboxes;
  stopped = stopped;
  turns = turns;
}

-- who may call the hall as its callers see it is the seat's participant
pub its_own : {before value : ChairView} (me : ℕ) → before ≡ value → me ≡ value.seat.mine.who → me ≡ before.seat.mine.who
its_own me is serves = subst (λ (chair : ChairView). me ≡ chair.seat.mine.who) (sym is) serves

-- parts of which the rest is alike, and what was told
pub told_alike : (one other : HeapPart) (told more : Option StatPair) → one ≡ other → told ≡ more → record one { told = told } ≡ record other { told = more }
told_alike one other told more same alike =
    ap (λ (p : HeapPart). record p { told = told }) same ∙ ap (λ (o : Option StatPair). record other { told = o }) alike

-- a seat goes on: the same participant at the same board, which knows no less
pub record GoesOn (old new : Mine) : Type 0 where
  pub who : new.who ≡ old.who
  pub opening : new.opening ≡ old.opening
  pub seen : BeginsWith new.log old.log
  pub heard : BeginsWith new.heard old.heard
  pub zones : BeginsWith new.zones old.zones
  pub names : BeginsWith new.names old.names
  pub noted : (other : ℕ) → noted_of other old ≤ noted_of other new
  pub lines : (other : ℕ) → lines_known other old ≤ lines_known other new

pub count_on : (old new : Mine) → GoesOn old new → new.opening.participants ≡ old.opening.participants
count_on old new goes = ap (λ (o : Opening). o.participants) goes.opening

pub named_on : (old new : Mine) → GoesOn old new → NamesGoOn (named_of old) (named_of new)
named_on old new goes = record {
  sockets = ap (λ (o : Opening). o.names.value.heaps.sockets) goes.opening;
  more_zones = goes.zones.0;
  zones = goes.zones.1;
  more_heaps = goes.names.0;
  heaps = goes.names.1;
}

-- over the same mailboxes what it has fetched goes on by a step; where that fetched nothing the mailbox was empty, and where that was a
-- post this went by the room that it found
pub record MailGoesOn (step : MailStep) (old new : ChairView) : Type 0 where
  pub boxes : new.boxes ≡ old.boxes
  pub fetched : BeginsWith (letters_of new) (letters_of old)
  pub vain : FoundItsMailboxEmpty old.seat.mine.who (letters_of new) old.steps (step ∷ [])
  pub room : AllWentByRoom old.seat.mine.who old.boxes old.steps (step ∷ [])

-- it has fetched the same by the same passes
pub letters_same : (old new : ChairView) → new.passes ≡ old.passes → new.seat.mine.who ≡ old.seat.mine.who
    → BeginsWith (letters_of new) (letters_of old)
letters_same old new passes who =
    front_same (letters_of old) (letters_of new)
    (ap₂ (λ (l : List PassView) (n : ℕ). fetched_with (slice_get l n)) passes who)

pub mail_still : (step : MailStep) (old new : ChairView) → is_vain step ≡ false → WentByRoom old.seat.mine.who old.boxes old.steps step
    → new.boxes ≡ old.boxes → new.passes ≡ old.passes → new.seat.mine.who ≡ old.seat.mine.who → MailGoesOn step old new
mail_still step old new other went boxes passes who = record {
  boxes = boxes;
  fetched = letters_same old new passes who;
  vain = not_vain old.seat.mine.who (letters_of new) old.steps step other;
  room = one_went old.seat.mine.who old.boxes old.steps step went;
}

-- one step more stands in the log of the hall, with what becomes of the counts
pub record MakesStep (step : MailStep) (old new : ChairView) : Type 0 where
  pub board : new.seat.board ≡ old.seat.board
  pub boxes : map (λ pass. pass.mailbox) new.passes ≡ map (λ pass. pass.mailbox) old.passes
  pub cells : new.stats.cells ≡ old.stats.cells
  pub goes : GoesOn old.seat.mine new.seat.mine
  pub shown : (heap : ℕ) → BeginsWith (seen_of heap new.stats) (seen_of heap old.stats)
  pub made : new.steps ≡ old.steps ++ step ∷ []
  pub done : IsDoneBy old.seat.mine new.seat.mine (step ∷ [])
  pub mail : MailGoesOn step old new
  pub planned : IsAsPlanned step
  pub full_mailboxes : new.full_mailboxes ≡ counted_on (full_post step) old.full_mailboxes
  pub turns : new.turns ≤ old.turns
  pub stopped : old.stopped ≡ true → new.stopped ≡ true

plus_none : (n : ℕ) → n + 0 ≡ n
plus_none n = omega arith

full_posts-one : (step : MailStep) → full_posts (step ∷ []) ≡ full_post step
full_posts-one step = sum_by-cons full_post step [] ∙ plus_none (full_post step)

pub course_step : (step : MailStep) (old new : ChairView) → old.seat.mine.who < old.seat.mine.opening.participants → MakesStep step old new
    → IsChairCourse old new
course_step step old new declared makes = record {
  board = makes.board;
  mailboxes = makes.mail.boxes;
  boxes = makes.boxes;
  cells = makes.cells;
  who = makes.goes.who;
  opening = makes.goes.opening;
  seen = makes.goes.seen;
  heard = makes.goes.heard;
  named = named_on old.seat.mine new.seat.mine makes.goes;
  noted = makes.goes.noted;
  shown = makes.shown;
  known = makes.goes.lines;
  steps = step ∷ [];
  made = makes.made;
  done = makes.done;
  fetched = makes.mail.fetched;
  vain = makes.mail.vain;
  room = makes.mail.room;
  declared = inr declared;
  planned = (makes.planned, tt);
  full_mailboxes = makes.full_mailboxes ∙ ap (λ (n : ℕ). counted_on n old.full_mailboxes) (sym (full_posts-one step));
  turns = makes.turns;
  stopped = makes.stopped;
}

module _ (me : ℕ) (old new : ChairView) (its : me ≡ old.seat.mine.who) (same : new.seat.mine.who ≡ old.seat.mine.who) where
  now : me ≡ new.seat.mine.who
  now = its ∙ sym same

  -- what the caller knows of itself
  pub part_old : (chair_state old).part me ≡ chair_part old
  part_old = one_here {A = ℕ → HeapPart} old.seat.mine.who me (chair_part old) (λ heap. no_part) its

  pub part_new : (chair_state new).part me ≡ chair_part new
  part_new = one_here {A = ℕ → HeapPart} new.seat.mine.who me (chair_part new) (λ heap. no_part) now

  pub lines_old : (chair_state old).lines me ≡ lines_of old.seat.mine.who old
  lines_old = one_here old.seat.mine.who me (lines_of old.seat.mine.who old) 0 its

  pub lines_new : (chair_state new).lines me ≡ lines_of new.seat.mine.who new
  lines_new = one_here new.seat.mine.who me (lines_of new.seat.mine.who new) 0 now

  pub joined_old : (chair_state old).joined me ≡ old.seat.mine.joined
  joined_old = one_here old.seat.mine.who me old.seat.mine.joined false its

  pub joined_new : (chair_state new).joined me ≡ new.seat.mine.joined
  joined_new = one_here new.seat.mine.who me new.seat.mine.joined false now

  pub own_old : (chair_state old).own me ≡ own_of old.seat.mine
  own_old = one_here old.seat.mine.who me (own_of old.seat.mine) (after_ack 0) its

  pub own_new : (chair_state new).own me ≡ own_of new.seat.mine
  own_new = one_here new.seat.mine.who me (own_of new.seat.mine) (after_ack 0) now

  pub done_old : (chair_state old).done me ≡ old.steps
  done_old = one_here {A = List MailStep} old.seat.mine.who me old.steps [] its

  pub done_new : (chair_state new).done me ≡ new.steps
  done_new = one_here {A = List MailStep} new.seat.mine.who me new.steps [] now

  -- of the others nothing is known, before and after
  elsewhere : {A : Type 0} (first second none : A) (who : ℕ) → who ≢ me → of_one new.seat.mine.who second none who ≡ of_one old.seat.mine.who first none who
  elsewhere first second none who apart =
      one_elsewhere new.seat.mine.who who second none (λ is. apart (is ∙ sym now))
      ∙ sym (one_elsewhere old.seat.mine.who who first none (λ is. apart (is ∙ sym its)))

  pub did_steps : (steps : List MailStep) → new.steps ≡ old.steps ++ steps → Did me steps (chair_state old) (chair_state new)
  did_steps steps made = record { made = done_new ∙ made ∙ ap (λ (l : List MailStep). l ++ steps) (sym done_old) }

  pub others_stay : IsChairCourse old new → OthersStay me (chair_state old) (chair_state new)
  others_stay course = record {
    part = λ who heap apart.
        ap (λ (p : ℕ → HeapPart). p heap) (elsewhere {A = ℕ → HeapPart} (chair_part old) (chair_part new) (λ h. no_part) who apart);
    joined = λ who apart. elsewhere old.seat.mine.joined new.seat.mine.joined false who apart;
    own = λ who apart. elsewhere (own_of old.seat.mine) (own_of new.seat.mine) (after_ack 0) who apart;
    lines = λ who apart. elsewhere (lines_of old.seat.mine.who old) (lines_of new.seat.mine.who new) 0 who apart;
    done = λ who apart. elsewhere {A = List MailStep} old.steps new.steps [] who apart;
    clock = refl;
    later = chair_later old new course;
  }

  pub slots_stay : new.seat.mine.held ≡ old.seat.mine.held → SlotsStay (chair_state old) (chair_state new)
  slots_stay held = record {
    taken = λ number. ap (λ (l : List (ℕ × Kept)). value_of number l) held;
    home = λ number may. may;
  }

  -- it is known to itself to have told as many lines
  pub lines_stay : lines_of old.seat.mine.who new ≡ lines_of old.seat.mine.who old → (chair_state new).lines me ≡ (chair_state old).lines me
  lines_stay lines = lines_new ∙ ap (λ (n : ℕ). lines_of n new) same ∙ lines ∙ sym lines_old

  -- and has published of a heap what it had
  pub part_stays : (heap : ℕ) → heap_part new.seat.mine heap ≡ heap_part old.seat.mine heap → told_in heap new.steps ≡ told_in heap old.steps
      → (chair_state new).part me heap ≡ (chair_state old).part me heap
  part_stays heap part told =
      ap (λ (p : ℕ → HeapPart). p heap) part_new
      ∙ told_alike (heap_part new.seat.mine heap) (heap_part old.seat.mine heap) (told_in heap new.steps) (told_in heap old.steps) part told
      ∙ sym (ap (λ (p : ℕ → HeapPart). p heap) part_old)

  pub parts_stay : ((heap : ℕ) → heap_part new.seat.mine heap ≡ heap_part old.seat.mine heap) → ((heap : ℕ) → told_in heap new.steps ≡ told_in heap old.steps)
      → new.seat.mine.joined ≡ old.seat.mine.joined → lines_of old.seat.mine.who new ≡ lines_of old.seat.mine.who old
      → PartsStay me (chair_state old) (chair_state new)
  parts_stay part told joined lines = record {
    part = λ heap. part_stays heap (part heap) (told heap);
    joined = joined_new ∙ joined ∙ sym joined_old;
    lines = lines_stay lines;
  }

  pub mine_stay : PartsStay me (chair_state old) (chair_state new) → own_of new.seat.mine ≡ own_of old.seat.mine
      → MineStay me (chair_state old) (chair_state new)
  mine_stay parts own = record { parts = parts; own = own_new ∙ own ∙ sym own_old }

-- what its participant did in a call is what the course says
pub did_these : (old new : ChairView) (steps : List MailStep) (course : IsChairCourse old new)
    → Did old.seat.mine.who steps (chair_state old) (chair_state new) → course.steps ≡ steps
did_these old new steps course did =
    let me : ℕ = old.seat.mine.who in
    same_rest old.steps course.steps steps
    (sym course.made ∙ sym (done_new me old new refl course.who) ∙ did.made
    ∙ ap (λ (l : List MailStep). l ++ steps) (done_old me old new refl course.who))

-- what a step leaves that changes nothing but numbers and what was seen
pub record LeavesSlots (old new : Mine) : Type 0 where
  pub held : new.held ≡ old.held
  pub part : (heap : ℕ) → heap_part new heap ≡ heap_part old heap
  pub joined : new.joined ≡ old.joined
  pub lines : lines_known old.who new ≡ lines_known old.who old

-- a call that is one step of the caller and leaves the rest
pub record DoesOne (me : ℕ) (step : MailStep) (old new : ChairView) : Type 0 where
  pub did : Did me (step ∷ []) (chair_state old) (chair_state new)
  pub stays : Stays me (chair_state old) (chair_state new)
  pub measure : new.turns ≤ old.turns
  pub goes_on : IsChairCourse old new

-- and one by which its own part comes to another
pub record ComesTo (me : ℕ) (part : Own) (step : MailStep) (old new : ChairView) : Type 0 where
  pub own : HasComeTo me part (step ∷ []) (chair_state old) (chair_state new)
  pub measure : new.turns ≤ old.turns
  pub goes_on : IsChairCourse old new

module _ (me : ℕ) (step : MailStep) (old new : ChairView) (its : me ≡ old.seat.mine.who) (declared : old.seat.mine.who < old.seat.mine.opening.participants)
    (makes : MakesStep step old new) (leaves : LeavesSlots old.seat.mine new.seat.mine) (untold : LeavesTold step) where
  course : IsChairCourse old new
  course = course_step step old new declared makes

  parts : PartsStay me (chair_state old) (chair_state new)
  parts = parts_stay me old new its makes.goes.who leaves.part
      (λ heap. ap (told_in heap) makes.made ∙ told_still heap old.steps step untold) leaves.joined leaves.lines

  pub does_one : own_of new.seat.mine ≡ own_of old.seat.mine → DoesOne me step old new
  does_one own = record {
    did = did_steps me old new its makes.goes.who (step ∷ []) makes.made;
    stays = record {
      slots = slots_stay me old new its makes.goes.who leaves.held;
      mine = mine_stay me old new its makes.goes.who parts own;
      others = others_stay me old new its makes.goes.who course;
    };
    measure = makes.turns;
    goes_on = course;
  }

  pub comes_to : (part : Own) → own_of new.seat.mine ≡ part → ComesTo me part step old new
  comes_to part own = record {
    own = record {
      own = own_new me old new its makes.goes.who ∙ own;
      parts = parts;
      slots = slots_stay me old new its makes.goes.who leaves.held;
      others = others_stay me old new its makes.goes.who course;
      did = did_steps me old new its makes.goes.who (step ∷ []) makes.made;
    };
    measure = makes.turns;
    goes_on = course;
  }
