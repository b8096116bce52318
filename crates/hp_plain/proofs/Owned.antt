-- What a changed own part leaves of a hall, and what a note does that comes with such a change, or with the clock's.
use Rattle.std.proofs.Common.{◌≡◌, ◌≢◌, ℕ, ◌<◌, ◌≤◌, Bool, List, [], ◌∷◌, length, map, set, Option, Some, refl, sym, ap, subst, ◌∙◌, ⊎_elim, arith}
use Rattle.std.specs.List.{slice_get, slice_index_or}
use Rattle.std.specs.Option.{option_map}
use Rattle.std.proofs.Math.ListN.{get_or-map}
use Rattle.std.proofs.Math.Seq.{map-set_same}
use Rattle.std.proofs.lemmas.Bool.{cases_eq}
use Rattle.std.proofs.lemmas.List.{length-set, map-set, get_or-set_same, get_or-set_other}
use Rattle.std.proofs.lemmas.Option.{slice_get-get_or, slice_get-map}
use Rattle.hp_hall.specs.declared.note.Note.{Note}
use Rattle.hp_hall.specs.declared.note.Note.TheVariants.{Acked, Paused, Stored, Unmapped}
use Rattle.hp_plain.specs.Course.{IsCourse, slot_same}
use Rattle.hp_plain.specs.HallSteps.{after_acking, after_storing, after_unmapping, with_note, with_own}
use Rattle.hp_plain.specs.Told.{ShowsTold, told_after, told_of}
use Rattle.hp_plain.specs.HallView.{HallView, lines_at, own_at, seen_in, slot_at}
use Rattle.hp_hall.specs.Mail.{Notes}
use Rattle.hp_plain.specs.Meters.{GoesOnTo, IsNoted, meters_in}
use Rattle.hp_hall.specs.Own.{Own, after_ack, after_partial}
use Rattle.hp_plain.proofs.Slotted.{agreed_alike}

-- the number that an own part has
abbrev number_of : Own → ℕ
number_of own = own.number

-- a participant's number is the one at its place
number_at : (hall : HallView) (who : ℕ) → slice_index_or (map number_of hall.owns) who 0 ≡ (own_at hall who).number
number_at hall who = get_or-map number_of hall.owns who (after_ack 0)

-- and is what looking it up shows
pub number_shown : (hall : HallView) (who number : ℕ) → who < length hall.owns → number ≡ (own_at hall who).number
    → slice_get (map number_of hall.owns) who ≡ Some number
number_shown hall who number below is =
    slice_get-map number_of hall.owns who ∙ ap (option_map number_of) (slice_get-get_or hall.owns who (after_ack 0) below)
    ∙ ap Some (sym is)

pub own_here : (hall : HallView) (who : ℕ) (own : Own) → who < length hall.owns → own_at (with_own who own hall) who ≡ own
own_here hall who own below = get_or-set_same hall.owns who own (after_ack 0) below

pub own_elsewhere : (hall : HallView) (who other : ℕ) (own : Own) → other ≢ who → own_at (with_own who own hall) other ≡ own_at hall other
own_elsewhere hall who other own apart = get_or-set_other hall.owns who other own (after_ack 0) apart

pub numbers_rise : (hall : HallView) (who : ℕ) (own : Own) → who < length hall.owns → (own_at hall who).number ≤ own.number → (other : ℕ)
    → (own_at hall other).number ≤ (own_at (with_own who own hall) other).number
numbers_rise hall who own below rises other =
    ⊎_elim
    (λ (same : other ≡ who).
    let now : own_at (with_own who own hall) other ≡ own = ap (own_at (with_own who own hall)) same ∙ own_here hall who own below in
    let before : own_at hall other ≡ own_at hall who = ap (own_at hall) same in
    omega (arith, ap (λ (o : Own). o.number) now, ap (λ (o : Own). o.number) before))
    (λ (apart : other ≢ who). omega (arith, ap (λ (o : Own). o.number) (own_elsewhere hall who other own apart)))
    (cases_eq other who)

-- a note is made, with which the own parts and the clock come to these
module _ (hall : HallView) (who : ℕ) (note : Note) (owns : List Own) (clock : ℕ) where
  abbrev noted : HallView
  noted = record (with_note who note hall) { owns = owns; clock = clock }

  pub course_note : who < length hall.owns → length owns ≡ length hall.owns
      → ((other : ℕ) → (own_at hall other).number ≤ (own_at noted other).number) → hall.clock ≤ clock
      → IsNoted who note (meters_in hall) (meters_in noted) → ShowsTold who (Notes note) (told_of hall)
      → told_after who (Notes note) (told_of hall) ≡ told_of hall → IsCourse hall noted
  course_note declared count rises later is shows_told still_told = record {
    count = count;
    slots = λ number. slot_same (slot_at hall number);
    numbers = rises;
    clock = later;
    steps = (who, Notes note) ∷ [];
    mail = refl;
    full_mailboxes = omega arith;
    boxes = (tt, refl);
    kept = (record { declared = declared; shows = tt }, refl);
    ranges = (tt, tt);
    turns = (tt, refl);
    meters = (meters_in noted, is, refl);
    told = (shows_told, sym still_told);
    agreed = agreed_alike hall noted refl rises;
  }

-- an acknowledgement
pub course_acking : (hall : HallView) (who number : ℕ) → who < length hall.owns → (own_at hall who).number ≤ number
    → IsCourse hall (after_acking who number hall)
course_acking hall who number declared rises =
    let own : Own = after_ack number in
    course_note hall who (Acked number) (set hall.owns who own) hall.clock declared (length-set hall.owns who own)
    (numbers_rise hall who own declared rises) (omega arith) (record {
      shows = omega (arith, rises, number_at hall who);
      clock = refl;
      numbers = map-set number_of hall.owns who own;
    }) tt refl

-- what the records drop was unmapped, with the number as it was
pub course_unmapping : (hall : HallView) (who : ℕ) → who < length hall.owns → IsCourse hall (after_unmapping who hall)
course_unmapping hall who declared =
    let own : Own = after_partial (length (seen_in hall)) (own_at hall who) in
    course_note hall who Unmapped (set hall.owns who own) hall.clock declared (length-set hall.owns who own)
    (numbers_rise hall who own declared (omega arith)) (omega arith) (record {
      shows = tt;
      clock = refl;
      numbers = map-set_same number_of hall.owns who own (after_ack 0) refl;
    }) tt refl

-- lines were told to be done
pub course_storing : (hall : HallView) (who lines : ℕ) → who < length hall.owns → lines_at hall who ≤ lines
    → IsCourse hall (after_storing who lines hall)
course_storing hall who lines declared rises = record {
  count = refl;
  slots = λ number. slot_same (slot_at hall number);
  numbers = λ other. omega arith;
  clock = omega arith;
  steps = (who, Notes (Stored lines)) ∷ [];
  mail = refl;
  full_mailboxes = omega arith;
  boxes = (tt, refl);
  kept = (record { declared = declared; shows = tt }, refl);
  ranges = (tt, tt);
  turns = (tt, refl);
  meters = (meters_in hall, record { shows = tt; clock = refl; numbers = refl }, refl);
  told = (rises, refl);
  agreed = λ agreed. agreed;
}

goes_later : (moved : Bool) (until : Option ℕ) (old new : ℕ) → GoesOnTo moved until old new → old ≤ new
goes_later moved until old new goes = ⊎_elim (λ (still : new ≡ old). omega (arith, still)) (λ gone. gone.1) goes

-- the end of a turn, noted in a hall whose clock then goes on
pub course_pause : (old mid : HallView) (who : ℕ) (moved : Bool) (until : Option ℕ) (reading : ℕ)
    → mid ≡ with_note who (Paused moved until) old → who < length old.owns → GoesOnTo moved until old.clock reading
    → IsCourse old (record mid { clock = reading })
course_pause old mid who moved until reading noted declared goes =
    subst (λ (h : HallView). IsCourse old (record h { clock = reading })) (sym noted)
    (course_note old who (Paused moved until) old.owns reading declared refl (λ other. omega arith)
    (goes_later moved until old.clock reading goes) (record { shows = tt; clock = goes; numbers = refl }) tt refl)
