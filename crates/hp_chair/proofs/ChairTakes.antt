-- A value is taken by the seat of a hall.
use Rattle.std.proofs.Common.{◌≡◌, ◌≢◌, ⊎_elim, ℕ, ◌<◌, ◌≤◌, Bool, true, ◌||◌, eqb, eq-eqb, ne_eqb, List, [], ◌∷◌, ◌++◌, Option, Some, None, refl, sym, ap, subst, ◌∙◌, arith}
use Rattle.std.specs.List.{Contains}
use Rattle.std.specs.Option.{is_some}
use Rattle.std.proofs.lemmas.Bool.{cases_eq, cond-false, cond-true}
use Rattle.std.proofs.lemmas.Option.{same_Some}
use Rattle.hp_base.specs.declared.limits.TheConstants.{MAX_HEAPS}
use Rattle.hp_base.specs.declared.row.Row.{Row}
use Rattle.hp_heap.specs.History.{entries_of}
use Rattle.hp_log.specs.declared.log_record.LogRecord.{LogRecord}
use Rattle.hp_segs.specs.Standing.{Holding}
use Rattle.hp_segs.specs.declared.outcome.AskLog.{AskLog}
use Rattle.hp_stats.specs.StatViews.{seen_of}
use Rattle.atomic_table.specs.Seated.{TableId}
use Rattle.hp_mail.specs.PassView.{MailboxView}
use Rattle.hp_hall.specs.HallCalls.{HasTaken}
use Rattle.hp_hall.specs.HallState.{HasMapped, OthersStay, SlotsStayBut}
use Rattle.hp_hall.specs.Holding.{HeapPart, IsTakenAs, StandsFor}
use Rattle.hp_hall.specs.Mail.{MailStep, Takes}
use Rattle.hp_hall.specs.Own.{Own, rows_known}
use Rattle.hp_hall.specs.Telling.{acked_after, acked_since_take, names_after}
use Rattle.hp_hall.specs.Values.{Fits, HasAsks, HasClaimed, HasEntries, HasLog, HasMarks, HasMember, HasNames, HasPairs, IsSoundKept, history_of, marks_of}
use Rattle.hp_hall.specs.declared.kept.Kept.{Kept}
use Rattle.hp_hall.specs.declared.kept.Kept.TheVariants.{Heap, Names, Segments}
use Rattle.hp_hall.specs.declared.slot.TheConstants.{NAMES_SLOT, SLOTS}
use Rattle.hp_board.specs.BoardView.{BoardView}
use Rattle.hp_board.specs.Handed.{GoesOnFrom, HasTakenLater, HasTakenOut, IsHanded}
use Rattle.hp_board.specs.KeptValues.{IsKeptAt}
use Rattle.hp_board.specs.Knowing.{HasMappedHeld, heap_part}
use Rattle.hp_board.specs.SeatView.{SeatView}
use Rattle.hp_board.specs.Views.{BeginsWith, after_take, asks_heard, has_table, holdings_taken, holds_names, lines_known, log_seen, made_in, marked_in, named_of, names_seen, own_of, table_of, value_of, zones_seen}
use Rattle.hp_board.specs.declared.opening.Opening.{Opening}
use Rattle.hp_board.specs.declared.view.Mine.{Mine}
use Rattle.hp_board.proofs.Fronts.{front_itself}
use Rattle.hp_board.proofs.Pairs.{value_of-else, value_of-here}
use Rattle.hp_board.proofs.OpeningFacts.SeatParts.{parts_taken}
use Rattle.hp_chair.specs.ChairCourse.{IsChairCourse}
use Rattle.hp_chair.specs.ChairInside.{AreHeld, IsAckedBy, IsChair, IsHeldAs}
use Rattle.hp_chair.specs.ChairView.{ChairView, chair_part, chair_state}
use Rattle.hp_chair.specs.Steps.{told_after, told_in}
use Rattle.hp_chair.proofs.ChairKept.{acked_step, acked_taken, asks_beside, chair_after, log_beside, names_beside, reader_step}
use Rattle.hp_chair.proofs.ChairSteps.{GoesOn, MakesStep, course_step, did_steps, joined_new, joined_old, lines_stay, mail_still, others_stay, own_new, own_old, part_new, part_old, told_alike}
use Rattle.hp_chair.proofs.StepsDone.{done_taken}
use Rattle.hp_chair.proofs.StepsOn.{places_still, take_tells, tied_step, told_push}

-- the hall after a step of its seat that moved a value
abbrev pub with_seat : SeatView → List MailStep → ChairView → ChairView
with_seat seat steps chair = record chair { seat = seat; steps = steps }

pub fits_at : (opening : Opening) (slot : ℕ) (kept : Kept) → IsKeptAt opening slot kept → Fits slot kept
fits_at opening slot (Heap heap pen) at = (at.heap.index, at.heap.below)
fits_at opening slot (Segments segs) at = at.last
fits_at opening slot (Names names) at = at.last

-- the board has that slot
pub slot_at : (opening : Opening) (slot : ℕ) (kept : Kept) → IsKeptAt opening slot kept → slot < SLOTS
slot_at opening slot (Heap heap pen) at = let below = at.heap.below in omega (arith, below)
slot_at opening slot (Segments segs) at = let last = at.last in omega (arith, last)
slot_at opening slot (Names names) at = let last = at.last in omega (arith, last)

pairs_at : (opening : Opening) (slot : ℕ) (kept : Kept) → IsKeptAt opening slot kept → HasPairs kept
pairs_at opening slot (Heap heap pen) at = at.pen.pairs
pairs_at opening slot (Segments segs) at = tt
pairs_at opening slot (Names names) at = tt

-- names have the logs that are seen once they were seen
pub names_at : (mine : Mine) (slot : ℕ) (kept : Kept) → IsKeptAt mine.opening slot kept
    → HasNames (record (named_of mine) { zones = zones_seen kept mine.zones; heaps = names_seen kept mine.names }) kept
names_at mine slot (Heap heap pen) at = tt
names_at mine slot (Segments segs) at = tt
names_at mine slot (Names names) at = ap (λ (l : List ℕ). record { sockets = l; zones = names.zones.log; heaps = names.heaps.log }) at.sockets

-- whether the names are in hand after a take
naming_taken : (slot : ℕ) (kept : Kept) (mine : Mine) → Fits slot kept → is_some (value_of NAMES_SLOT ((slot, kept) ∷ mine.held)) ≡ names_after (holds_names mine) (Takes slot kept)
naming_taken slot (Heap heap pen) mine fits =
    let below = fits.1 in ap is_some (value_of-else slot NAMES_SLOT (Heap heap pen) mine.held (λ same. omega (arith, same, below)))
naming_taken slot (Segments segs) mine fits =
    let last : slot ≡ MAX_HEAPS = fits in ap is_some (value_of-else slot NAMES_SLOT (Segments segs) mine.held (λ same. omega (arith, same, last)))
naming_taken slot (Names names) mine fits =
    ap (λ (k : ℕ). is_some (value_of k ((slot, Names names) ∷ mine.held))) (sym fits) ∙ ap is_some (value_of-here slot (Names names) mine.held)

pub sound_at : (opening : Opening) (slot : ℕ) (kept : Kept) → IsKeptAt opening slot kept → IsSoundKept kept
sound_at opening slot (Heap heap pen) at = at.heap.sound
sound_at opening slot (Segments segs) at = at.sound
sound_at opening slot (Names names) at = (at.zones, at.heaps)

entries_at : (chair : ChairView) (slot : ℕ) (kept : Kept) → Fits slot kept
    → entries_of chair.seat.mine.who (history_of kept) ≡ made_in slot chair.seat.mine → HasEntries chair.seat.mine.who (chair_part chair) kept
entries_at chair slot (Heap heap pen) fits own = own ∙ ap (λ (k : ℕ). made_in k chair.seat.mine) (sym fits.0)
entries_at chair slot (Segments segs) fits own = tt
entries_at chair slot (Names names) fits own = tt

marks_at : (chair : ChairView) (slot : ℕ) (kept : Kept) → Fits slot kept
    → marks_of chair.seat.mine.who kept ≡ marked_in slot chair.seat.mine → HasMarks chair.seat.mine.who (chair_part chair) kept
marks_at chair slot (Heap heap pen) fits own = own ∙ ap (λ (k : ℕ). marked_in k chair.seat.mine) (sym fits.0)
marks_at chair slot (Segments segs) fits own = tt
marks_at chair slot (Names names) fits own = tt

-- what a taker learns does not say what it has published
stands_at : (who : ℕ) (chair : ChairView) (kept : Kept) → StandsFor who (heap_part chair.seat.mine) kept → StandsFor who (chair_part chair) kept
stands_at who chair (Heap heap pen) stands = record {
  serves = stands.serves;
  held = stands.held;
  named = stands.named;
  claimed = stands.claimed;
}
stands_at who chair (Segments segs) stands =
    record {
      held = stands.held;
      armed = stands.armed;
      asking = stands.asking;
      sound = stands.sound;
      pending = stands.pending;
      claims = stands.claims;
      marked = stands.marked;
      named = stands.named;
    }
stands_at who chair (Names names) stands = record {
  namings = stands.namings;
  claims = stands.claims;
  known = stands.known;
  claimed = stands.claimed;
  agreed = stands.agreed;
}

claimed_at : (heard : List AskLog) (chair : ChairView) (kept : Kept) → HasClaimed heard (heap_part chair.seat.mine) kept
    → HasClaimed heard (chair_part chair) kept
claimed_at heard chair (Heap heap pen) claimed = claimed
claimed_at heard chair (Segments segs) claimed = tt
claimed_at heard chair (Names names) claimed = tt

-- once a value was taken, nothing of a heap is published yet, and of others what was
module _ (old new : ChairView) (slot : ℕ) (kept : Kept) (made : new.steps ≡ old.steps ++ Takes slot kept ∷ []) where
  told_now : (heap : ℕ) → told_in heap new.steps ≡ told_after heap (told_in heap old.steps) (Takes slot kept)
  told_now heap = ap (told_in heap) made ∙ told_push heap old.steps (Takes slot kept)

taken_parts : (old new : ChairView) (slot : ℕ) (kept : Kept) → new.steps ≡ old.steps ++ Takes slot kept ∷ [] → Fits slot kept
    → IsTakenAs kept (heap_part old.seat.mine) (heap_part new.seat.mine) → IsTakenAs kept (chair_part old) (chair_part new)
taken_parts old new slot (Heap heap pen) made fits is =
    let index : ℕ = heap.plain.index in
    let now = told_now old new slot (Heap heap pen) made in (
      record {
        entries = is.0.entries;
        marked = is.0.marked;
        serves = is.0.serves;
        untold = now index ∙ cond-true (eqb slot index) None (told_in index old.steps) (eq-eqb slot index (sym fits.0));
        naming = is.0.naming;
        armed = is.0.armed;
        claims = is.0.claims;
      },
      λ other apart.
          told_alike (heap_part new.seat.mine other) (heap_part old.seat.mine other) (told_in other new.steps) (told_in other old.steps)
          (is.1 other apart)
          (now other ∙ cond-false (eqb slot other) None (told_in other old.steps) (ne_eqb slot other (λ same. apart (sym same ∙ sym fits.0)))),
    )
taken_parts old new slot (Segments segs) made fits is = λ heap.
    told_alike (heap_part new.seat.mine heap) (heap_part old.seat.mine heap) (told_in heap new.steps) (told_in heap old.steps) (is heap)
    (told_now old new slot (Segments segs) made heap)
taken_parts old new slot (Names names) made fits is = λ heap. record {
  entries = (is heap).entries;
  marked = (is heap).marked;
  serves = (is heap).serves;
  holding = (is heap).holding;
  told = told_now old new slot (Names names) made heap;
  armed = (is heap).armed;
}

seen_on : (mine : Mine) (kept : Kept) → GoesOnFrom mine kept → BeginsWith (log_seen kept mine.log) mine.log
seen_on mine (Heap heap pen) front = front_itself mine.log
seen_on mine (Names names) front = front_itself mine.log
seen_on mine (Segments segs) front = front.0

heard_on : (mine : Mine) (kept : Kept) → GoesOnFrom mine kept → BeginsWith (asks_heard kept mine.heard) mine.heard
heard_on mine (Heap heap pen) front = front_itself mine.heard
heard_on mine (Names names) front = front_itself mine.heard
heard_on mine (Segments segs) front = front.1

zones_on : (mine : Mine) (kept : Kept) → GoesOnFrom mine kept → BeginsWith (zones_seen kept mine.zones) mine.zones
zones_on mine (Heap heap pen) front = front_itself mine.zones
zones_on mine (Segments segs) front = front_itself mine.zones
zones_on mine (Names names) front = front.0

names_on : (mine : Mine) (kept : Kept) → GoesOnFrom mine kept → BeginsWith (names_seen kept mine.names) mine.names
names_on mine (Heap heap pen) front = front_itself mine.names
names_on mine (Segments segs) front = front_itself mine.names
names_on mine (Names names) front = front.1

-- what has been seen once a value was seen, it has
pub log_itself : (kept : Kept) (log : List LogRecord) → HasLog (log_seen kept log) kept
log_itself (Heap heap pen) log = tt
log_itself (Names names) log = tt
log_itself (Segments segs) log = refl

pub asks_itself : (mine : Mine) (kept : Kept) → HasAsks (asks_heard kept mine.heard) kept
asks_itself mine (Heap heap pen) = tt
asks_itself mine (Names names) = tt
asks_itself mine (Segments segs) = refl

at_most : (n : ℕ) → n ≤ n
at_most n = omega arith

-- where the participant is in the roster, its table has the pages of the heaps in hand
pub mapped_here : (me : ℕ) (chair : ChairView) → me ≡ chair.seat.mine.who → HasMappedHeld chair.seat.mine → HasMapped me (chair_state chair)
mapped_here me chair its held is_in heap holding segment there among =
    let mine = chair.seat.mine in
    let joined : mine.joined ≡ true = sym (joined_old me chair chair its refl) ∙ is_in in
    let known : value_of heap mine.holdings ≡ Some holding = sym (ap (λ (p : ℕ → HeapPart). (p heap).holding) (part_old me chair chair its refl)) ∙ there in
    let has : has_table mine ≡ true = ap (λ (b : Bool). b || mine.joining) joined in
    let table : table_of mine ≡ rows_known mine.log (own_of mine) = cond-true (has_table mine) (rows_known mine.log (own_of mine)) [] has in
    subst (λ (own : Own). Contains (rows_known mine.log own) segment.row) (sym (own_old me chair chair its refl))
    (subst (λ (rows : List Row). Contains rows segment.row) table (held joined heap holding segment known among))

-- of a heap that was taken it is known what the segment value has for it, and of the others in hand what was
known_here : (slot : ℕ) (kept : Kept) (holding : Holding) (holdings : List (ℕ × Holding)) → Fits slot kept → slot < MAX_HEAPS
    → is_some (value_of slot (holdings_taken slot kept holding holdings)) ≡ true
known_here slot (Heap heap pen) holding holdings fits below = ap is_some (value_of-here slot holding holdings)
known_here slot (Segments segs) holding holdings fits below = let last : slot ≡ MAX_HEAPS = fits in absurd (omega (arith, below, last))
known_here slot (Names names) holding holdings fits below = let last : slot ≡ NAMES_SLOT = fits in absurd (omega (arith, below, last))

known_else : (slot other : ℕ) (kept : Kept) (holding : Holding) (holdings : List (ℕ × Holding)) → other ≢ slot
    → is_some (value_of other (holdings_taken slot kept holding holdings)) ≡ is_some (value_of other holdings)
known_else slot other (Heap heap pen) holding holdings apart = ap is_some (value_of-else slot other holding holdings apart)
known_else slot other (Segments segs) holding holdings apart = refl
known_else slot other (Names names) holding holdings apart = refl

-- what a hall has taken
pub record HasTook (me slot : ℕ) (kept : Kept) (old new : ChairView) : Type 0 where
  pub took : HasTaken me slot kept (chair_state old) (chair_state new)
  pub slots : SlotsStayBut slot (chair_state old) (chair_state new)
  pub others : OthersStay me (chair_state old) (chair_state new)
  pub measure : new.turns ≤ old.turns
  pub goes_on : IsChairCourse old new

module _ (me slot : ℕ) (kept : Kept) (old : ChairView) (seat : SeatView) (its : me ≡ old.seat.mine.who) (declared : old.seat.mine.who < old.seat.mine.opening.participants)
    (handed : IsHanded old.seat.mine slot kept seat.mine) (taken : HasTakenLater slot kept old.seat.mine seat.mine)
    (sits : seat.board ≡ old.seat.board) where
  abbrev mine : Mine
  mine = old.seat.mine

  abbrev after : Mine
  after = seat.mine

  abbrev late : Mine
  late = record (after_take slot kept taken.learned mine) { found = mine.found ++ taken.view.0 }

  abbrev new : ChairView
  new = with_seat seat (old.steps ++ Takes slot kept ∷ []) old

  view : after ≡ late
  view = taken.view.1

  fits : Fits slot kept
  fits = fits_at mine.opening slot kept handed.at

  same : after.who ≡ mine.who
  same = ap (λ (m : Mine). m.who) view

  pub goes_taken : GoesOn mine after
  goes_taken = subst (GoesOn mine) (sym view) (record {
    who = refl;
    opening = refl;
    seen = seen_on mine kept handed.front;
    heard = heard_on mine kept handed.front;
    zones = zones_on mine kept handed.front;
    names = names_on mine kept handed.front;
    noted = λ other. at_most _;
    lines = λ other. at_most _;
  })

  makes : MakesStep (Takes slot kept) old new
  makes = record {
    board = sits;
    boxes = refl;
    cells = refl;
    goes = goes_taken;
    shown = λ heap. front_itself (seen_of heap old.stats);
    made = refl;
    done = done_taken mine after slot kept taken.learned taken.view.0 view;
    mail = mail_still (Takes slot kept) old new refl tt refl refl goes_taken.who;
    planned = tt;
    full_mailboxes = omega arith;
    turns = omega arith;
    stopped = λ is. is;
  }

  course : IsChairCourse old new
  course = course_step (Takes slot kept) old new declared makes

  taken_as : IsTakenAs kept (chair_part old) (chair_part new)
  taken_as =
      let out : HasTakenOut slot kept mine (after_take slot kept taken.learned mine) = record { learned = taken.learned; view = refl } in
      taken_parts old new slot kept refl fits
      (subst (λ (m : Mine). IsTakenAs kept (heap_part mine) (heap_part m)) (sym view)
      (parts_taken mine (after_take slot kept taken.learned mine) slot kept fits out))

  part_was : (chair_state old).part me ≡ chair_part old
  part_was = part_old me old new its same

  part_is : (chair_state new).part me ≡ chair_part new
  part_is = part_new me old new its same

  pub took_value : HasTaken me slot kept (chair_state old) (chair_state new)
  took_value = record {
    fits = fits;
    sound = sound_at mine.opening slot kept handed.at;
    pairs = pairs_at mine.opening slot kept handed.at;
    entries = subst (λ (p : ℕ → HeapPart). HasEntries me p kept) (sym part_was)
        (subst (λ (n : ℕ). HasEntries n (chair_part old) kept) (sym its) (entries_at old slot kept fits handed.own));
    marks = subst (λ (p : ℕ → HeapPart). HasMarks me p kept) (sym part_was)
        (subst (λ (n : ℕ). HasMarks n (chair_part old) kept) (sym its) (marks_at old slot kept fits handed.marks));
    log = subst (λ (m : Mine). HasLog m.log kept) (sym view) (log_itself kept mine.log);
    asks = subst (λ (m : Mine). HasAsks m.heard kept) (sym view) (asks_itself mine kept);
    names = subst (λ (m : Mine). HasNames (named_of m) kept) (sym view) (names_at mine slot kept handed.at);
    roster = subst (λ (b : Bool). HasMember me b kept) (sym (joined_old me old new its same))
        (subst (λ (n : ℕ). HasMember n mine.joined kept) (sym its) handed.roster);
    stands = subst (λ (p : ℕ → HeapPart). StandsFor me p kept) (sym part_is)
        (subst (λ (n : ℕ). StandsFor n (chair_part new) kept) (sym its) (stands_at mine.who new kept handed.stands));
    claimed = subst (λ (p : ℕ → HeapPart). HasClaimed after.heard p kept) (sym part_is) (claimed_at after.heard new kept handed.claimed);
    mapped = mapped_here me new (its ∙ sym same) handed.mapped;
    part = subst (λ (p : ℕ → HeapPart). IsTakenAs kept p ((chair_state new).part me)) (sym part_was)
        (subst (λ (p : ℕ → HeapPart). IsTakenAs kept (chair_part old) p) (sym part_is) taken_as);
    joined = joined_new me old new its same ∙ ap (λ (m : Mine). m.joined) view ∙ sym (joined_old me old new its same);
    own = own_new me old new its same ∙ ap own_of view ∙ sym (own_old me old new its same);
    lines = lines_stay me old new its same (ap (lines_known mine.who) view);
    taken = ap (λ (m : Mine). value_of slot m.held) view ∙ value_of-here slot kept mine.held;
    did = did_steps me old new its same (Takes slot kept ∷ []) refl;
  }

  pub taken_here : HasTook me slot kept old new
  taken_here = record {
    took = took_value;
    slots = record {
      taken = λ number apart. ap (λ (m : Mine). value_of number m.held) view ∙ value_of-else slot number kept mine.held apart;
      home = λ number apart may. may;
    };
    others = others_stay me old new its same course;
    measure = omega arith;
    goes_on = course;
  }

  -- what is kept of values in hand
  held_taken : AreHeld mine → AreHeld late
  held_taken was other value there =
      ⊎_elim
      (λ (is : other ≡ slot).
      let it : kept ≡ value =
      same_Some kept value (sym (value_of-here slot kept mine.held) ∙ ap (λ (k : ℕ). value_of k ((slot, kept) ∷ mine.held)) (sym is) ∙ there) in
      subst (λ (v : Kept). IsHeldAs late other v) it
      (subst (λ (k : ℕ). IsHeldAs late k kept) (sym is) (record {
        at = handed.at;
        log = log_itself kept mine.log;
        asks = asks_itself mine kept;
        names = names_at mine slot kept handed.at;
        roster = handed.roster;
        known = known_here slot kept taken.learned.holding mine.holdings fits;
      })))
      (λ (apart : other ≢ slot).
      let before = was other value (sym (value_of-else slot other kept mine.held apart) ∙ there) in
      record {
        at = before.at;
        log = log_beside slot other kept value mine.log fits (fits_at mine.opening other value before.at) apart before.log;
        asks = asks_beside slot other kept value mine.heard fits (fits_at mine.opening other value before.at) apart before.asks;
        names = names_beside slot other kept value mine fits (fits_at mine.opening other value before.at) apart before.names;
        roster = before.roster;
        known = λ below. known_else slot other kept taken.learned.holding mine.holdings apart ∙ before.known below;
      })
      (cases_eq other slot)

  acked_late : (acked : Option ℕ) → IsAckedBy acked mine → IsAckedBy acked late
  acked_late acked was number some = record { its = (was number some).its; joins = (was number some).joins }

  pub chair_taken : (board : BoardView) (boxes : List MailboxView) (cells : List TableId) → IsChair board boxes cells old → IsChair board boxes cells new
  chair_taken board boxes cells was =
      chair_after board boxes cells old new was sits goes_taken refl
      (subst AreHeld (sym view) (held_taken was.held))
      (tied_step old.steps (Takes slot kept) mine after was.tied (ap (λ (m : Mine). m.moves) view)
      (λ number. ap (λ (m : Mine). value_of number m.held) view)
      (ap (λ (m : Mine). is_some (value_of NAMES_SLOT m.held)) view ∙ naming_taken slot kept mine fits))
      (acked_step old.steps (Takes slot kept) after (subst (IsAckedBy (acked_after (acked_since_take old.steps) (Takes slot kept))) (sym view)
      (acked_late (acked_after (acked_since_take old.steps) (Takes slot kept))
      (acked_taken slot kept (acked_since_take old.steps) mine was.acked))))
      (places_still mine.who old.steps (Takes slot kept) boxes old.passes was.places (λ place. refl) refl)
      (reader_step cells old new was.reads goes_taken.opening refl (Takes slot kept) refl (take_tells slot kept) (λ heap. refl))
