-- A hall tells how many lines of its participant are done, or looks up how many of another's are, by its seat.
use Rattle.std.proofs.Common.{◌≡◌, ◌≢◌, ⊎_elim, ℕ, ◌<◌, ◌≤◌, true, false, List, [], ◌∷◌, ◌++◌, Option, Some, None, refl, sym, ap, subst, ◌∙◌, arith}
use Rattle.std.specs.Option.{is_some}
use Rattle.std.proofs.lemmas.Bool.{cases_eq}
use Rattle.hp_base.specs.declared.limits.TheConstants.{MAX_HEAPS}
use Rattle.atomic_table.specs.Seated.{TableId}
use Rattle.hp_mail.specs.PassView.{MailboxView}
use Rattle.hp_segs.specs.Standing.{Holding}
use Rattle.hp_stats.specs.StatViews.{seen_of}
use Rattle.hp_hall.specs.HallCalls.{HasLoadedLines, HasStored, MayStore}
use Rattle.hp_hall.specs.Holding.{HeapPart}
use Rattle.hp_hall.specs.Mail.{Notes}
use Rattle.hp_hall.specs.Telling.{acked_since_take}
use Rattle.hp_hall.specs.declared.kept.Kept.{Kept}
use Rattle.hp_hall.specs.declared.note.Note.TheVariants.{LoadedDone, Stored}
use Rattle.hp_board.specs.BoardView.{BoardView}
use Rattle.hp_board.specs.Knowing.{heap_part}
use Rattle.hp_board.specs.Lines.{HasAllHome}
use Rattle.hp_board.specs.SeatView.{SeatView}
use Rattle.hp_board.specs.Views.{after_lookup, after_telling, lines_told, own_of, value_of}
use Rattle.hp_board.specs.declared.view.Mine.{Mine}
use Rattle.hp_board.proofs.Fronts.{front_itself}
use Rattle.hp_chair.specs.ChairCourse.{IsChairCourse}
use Rattle.hp_chair.specs.ChairInside.{AreHeld, IsChair}
use Rattle.hp_chair.specs.ChairView.{ChairView, chair_state, lines_of}
use Rattle.hp_chair.proofs.ChairKept.{chair_quiet, reader_step}
use Rattle.hp_chair.proofs.ChairNotes.{chair_noted, note_one}
use Rattle.hp_chair.proofs.ChairSteps.{DoesOne, GoesOn, course_step, did_steps, joined_new, joined_old, lines_new, lines_old, mail_still, others_stay, own_new, own_old, part_old, part_stays, slots_stay}
use Rattle.hp_chair.proofs.ChairTakes.{with_seat}
use Rattle.hp_chair.proofs.LinesKnown.{acked_found, acked_told, found_now, goes_found, goes_told, hand_found, hand_told, known_own, leaves_found, own_found, told_now}
use Rattle.hp_chair.proofs.OneOf.{one_elsewhere, one_here}
use Rattle.hp_chair.proofs.StepsDone.{done_found, done_told}
use Rattle.hp_chair.proofs.StepsOn.{quiet_note, tells_none, told_still}

at_most : (n : ℕ) → n ≤ n
at_most n = omega arith

-- who tells lines to be done has told no more by its seat
pub told_least : (me count : ℕ) (chair value : ChairView) → chair ≡ value → me ≡ chair.seat.mine.who → (chair_state value).lines me ≤ count
    → lines_told chair.seat.mine ≤ count
told_least me count chair value is its least =
    subst (λ (n : ℕ). n ≤ count) (lines_old me chair chair its refl ∙ known_own chair.seat.mine chair.seat.mine.who refl)
    (subst (λ (v : ChairView). (chair_state v).lines me ≤ count) (sym is) least)

-- a heap of which nothing is known is not in hand
none_out : (mine : Mine) (heap : ℕ) → AreHeld mine → heap < MAX_HEAPS → value_of heap mine.holdings ≡ None → (out : Option Kept)
    → value_of heap mine.held ≡ out → out ≡ None
none_out mine heap held below none None there = refl
none_out mine heap held below none (Some kept) there =
    let no : false ≡ true = sym (ap (λ (o : Option Holding). is_some o) none) ∙ (held heap kept there).known below in
    absurd (cc)

-- who holds no heap as the hall says it, and not the names, has all home by its seat
module _ (me count : ℕ) (board : BoardView) (boxes : List MailboxView) (cells : List TableId) (chair value : ChairView) (is : chair ≡ value)
    (its : me ≡ chair.seat.mine.who) (was : IsChair board boxes cells chair) where
  pub all_home : MayStore me count (chair_state value) → HasAllHome chair.seat.mine
  all_home may =
      let here : MayStore me count (chair_state chair) = subst (λ (v : ChairView). MayStore me count (chair_state v)) (sym is) may in
      record {
        heaps = λ heap below.
            none_out chair.seat.mine heap was.held below
            (sym (ap (λ (p : ℕ → HeapPart). (p heap).holding) (part_old me chair chair its refl)) ∙ here.free heap)
            (value_of heap chair.seat.mine.held) refl;
        names = here.names;
      }

-- what a hall has told
pub record StoresLines (me count : ℕ) (old new : ChairView) : Type 0 where
  pub stored : HasStored me count (chair_state old) (chair_state new)
  pub measure : new.turns ≤ old.turns
  pub goes_on : IsChairCourse old new

-- and what it has looked up
pub record LoadsLines (me from count : ℕ) (old new : ChairView) : Type 0 where
  pub loaded : HasLoadedLines me from count (chair_state old) (chair_state new)
  pub measure : new.turns ≤ old.turns
  pub goes_on : IsChairCourse old new

-- the participant told that so many of its lines are done
module _ (me count : ℕ) (old : ChairView) (seat : SeatView) (its : me ≡ old.seat.mine.who)
    (declared : old.seat.mine.who < old.seat.mine.opening.participants) (rises : lines_told old.seat.mine ≤ count)
    (is : seat.mine ≡ after_telling count old.seat.mine) (sits : seat.board ≡ old.seat.board) where
  abbrev stored : ChairView
  stored = with_seat seat (old.steps ++ Notes (Stored count) ∷ []) old

  same : seat.mine.who ≡ old.seat.mine.who
  same = ap (λ (m : Mine). m.who) is

  goes : GoesOn old.seat.mine seat.mine
  goes = goes_told old.seat.mine seat.mine count is rises

  course : IsChairCourse old stored
  course = course_step (Notes (Stored count)) old stored declared (record {
    board = sits;
    boxes = refl;
    cells = refl;
    goes = goes;
    shown = λ heap. front_itself (seen_of heap old.stats);
    made = refl;
    done = done_told old.seat.mine seat.mine count is;
    mail = mail_still (Notes (Stored count)) old stored refl tt refl refl goes.who;
    planned = tt;
    full_mailboxes = omega arith;
    turns = omega arith;
    stopped = λ has. has;
  })

  pub store_here : StoresLines me count old stored
  store_here = record {
    stored = record {
      lines_are = lines_new me old stored its same ∙ told_now old.seat.mine seat.mine count is;
      part = λ heap.
          part_stays me old stored its same heap (ap (λ (m : Mine). heap_part m heap) is)
          (told_still heap old.steps (Notes (Stored count)) (λ heap told. refl));
      joined = joined_new me old stored its same ∙ ap (λ (m : Mine). m.joined) is ∙ sym (joined_old me old stored its same);
      own = own_new me old stored its same ∙ ap own_of is ∙ sym (own_old me old stored its same);
      slots = slots_stay me old stored its same (ap (λ (m : Mine). m.held) is);
      others = others_stay me old stored its same course;
      did = did_steps me old stored its same (Notes (Stored count) ∷ []) refl;
    };
    measure = at_most _;
    goes_on = course;
  }

  pub chair_stored : (board : BoardView) (boxes : List MailboxView) (cells : List TableId) → IsChair board boxes cells old
      → IsChair board boxes cells stored
  chair_stored board boxes cells was =
      chair_quiet board boxes cells old stored was sits goes refl (Notes (Stored count)) (quiet_note (Stored count)) refl refl
      (hand_told old.seat.mine seat.mine count is)
      (acked_told old.seat.mine seat.mine count is (acked_since_take old.steps) was.acked)
      (reader_step cells old stored was.reads goes.opening refl (Notes (Stored count)) refl
      (tells_none (Notes (Stored count)) (λ heap told. refl)) (λ heap. refl))

-- it looked up how many lines a participant has told to be done
module _ (me from count : ℕ) (old : ChairView) (seat : SeatView) (its : me ≡ old.seat.mine.who)
    (declared : old.seat.mine.who < old.seat.mine.opening.participants) (rises : lines_of from old ≤ count)
    (own : from ≡ old.seat.mine.who → count ≡ lines_told old.seat.mine) (is : seat.mine ≡ after_lookup from count old.seat.mine)
    (sits : seat.board ≡ old.seat.board) where
  abbrev loaded : ChairView
  loaded = with_seat seat (old.steps ++ Notes (LoadedDone from count) ∷ []) old

  known_of : (chair_state old).lines from ≤ count
  known_of =
      let mine : ℕ = old.seat.mine.who in
      ⊎_elim
      (λ (same : from ≡ mine).
      subst (λ (n : ℕ). n ≤ count) (sym (one_here mine from (lines_of mine old) 0 same)) (subst (λ (n : ℕ). lines_of n old ≤ count) same rises))
      (λ (apart : from ≢ mine). subst (λ (n : ℕ). n ≤ count) (sym (one_elsewhere mine from (lines_of mine old) 0 apart)) (omega arith))
      (cases_eq from mine)

  pub load_here : LoadsLines me from count old loaded
  load_here =
      let one : DoesOne me (Notes (LoadedDone from count)) old loaded =
      note_one me (LoadedDone from count) (λ heap told. refl) old seat its declared
      (goes_found old.seat.mine seat.mine from count is own rises) (leaves_found old.seat.mine seat.mine from count is own) sits
      (done_found old.seat.mine seat.mine from count is) (own_found old.seat.mine seat.mine from count is own) in
      record {
        loaded = record {
          known = known_of;
          noted = found_now old.seat.mine seat.mine from count is own;
          mine = λ same.
              own (same ∙ its) ∙ sym (known_own old.seat.mine old.seat.mine.who refl) ∙ sym (lines_old me old old its refl);
          did = one.did;
          stays = one.stays;
        };
        measure = one.measure;
        goes_on = one.goes_on;
      }

  pub chair_loaded : (board : BoardView) (boxes : List MailboxView) (cells : List TableId) → IsChair board boxes cells old
      → IsChair board boxes cells loaded
  chair_loaded board boxes cells was =
      chair_noted me (LoadedDone from count) (λ heap told. refl) old seat its declared
      (goes_found old.seat.mine seat.mine from count is own rises) (leaves_found old.seat.mine seat.mine from count is own) sits
      board boxes cells was (hand_found old.seat.mine seat.mine from count is own)
      (acked_found old.seat.mine seat.mine from count is own (acked_since_take old.steps) was.acked) (λ heap. refl)
