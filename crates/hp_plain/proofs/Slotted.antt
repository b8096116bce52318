-- What a changed slot leaves of a hall.
use Rattle.std.proofs.Common.{◌≡◌, ◌≢◌, ℕ, zero, suc, ◌<◌, ◌≤◌, List, [], ◌∷◌, length, map, set, Option, Some, None, is_none, false, refl, sym, ap, subst, ◌∙◌, ⊎_elim, arith}
use Rattle.std.specs.List.{slice_get}
use Rattle.std.specs.Option.{option_map}
use Rattle.std.proofs.lemmas.Bool.{cases_eq}
use Rattle.std.proofs.lemmas.List.{map-set}
use Rattle.std.proofs.lemmas.Option.{slice_get-map, slice_get_within, same_Some}
use Rattle.hp_base.specs.declared.limits.TheConstants.{MAX_HEAPS}
use Rattle.hp_segs.specs.SegsView.{SegsView}
use Rattle.hp_hall.specs.declared.kept.Kept.{Kept}
use Rattle.hp_hall.specs.declared.kept.Kept.TheVariants.{Heap, Names, Segments}
use Rattle.hp_hall.specs.declared.note.Note.TheVariants.{Published}
use Rattle.hp_hall.specs.Views.{HeldHeap, held_of}
use Rattle.hp_stats.specs.declared.stat_pair.StatPair.{StatPair}
use Rattle.hp_zone.specs.declared.names.Names.{Names as NamesView}
use Rattle.hp_hall.specs.Later.{IsLaterKept}
use Rattle.hp_hall.proofs.LaterKept.{kept_same}
use Rattle.hp_plain.specs.Course.{IsCourse, IsLater, slot_same}
use Rattle.hp_plain.specs.HallSteps.{after_give, after_publishing, after_take, heap_slot, home_slot, out_slot, telling_slot, with_mail, with_slot}
use Rattle.hp_plain.specs.HallView.{HallView, IsHome, SlotView, is_held_heap, newest_by, newest_of, own_at, segs_in, slot_at, taken_from}
use Rattle.hp_plain.specs.Told.{IsNewest, ShowsTold, told_after, told_of}
use Rattle.hp_plain.specs.InTurn.{ShowsHome, homes_after, homes_in}
use Rattle.hp_plain.specs.UnderNames.{ShowsRanges}
use Rattle.hp_hall.specs.Telling.{has_names}
use Rattle.hp_plain.specs.Keeping.{AreAgreed, AreAllocatedBy, IsGivenBy, ShowsValues, values_after, values_in}
use Rattle.hp_hall.specs.Mail.{MailStep, Gives, Notes, Takes, full_post, steps_of}
use Rattle.hp_plain.specs.Boxes.{IsMailStep, after_step}
use Rattle.hp_plain.specs.Meters.{IsMetered, meters_in}
use Rattle.hp_hall.specs.Values.{IsHeap, IsSoundKept, pair_in}
use Rattle.hp_plain.proofs.Stepped.{MakesStep, makes_step}

pub slice_get-set_same : {X : Type 0} (xs : List X) (i : ℕ) (y : X) → i < length xs → slice_get (set xs i y) i ≡ Some y
slice_get-set_same [] i y below = absurd (omega arith)
slice_get-set_same (x ∷ xs) zero y below = refl
slice_get-set_same (x ∷ xs) (suc i) y below = slice_get-set_same xs i y (omega arith)

pub slice_get-set_other : {X : Type 0} (xs : List X) (i k : ℕ) (y : X) → k ≢ i → slice_get (set xs i y) k ≡ slice_get xs k
slice_get-set_other [] i k y apart = refl
slice_get-set_other (x ∷ xs) zero zero y apart = absurd (apart refl)
slice_get-set_other (x ∷ xs) zero (suc k) y apart = refl
slice_get-set_other (x ∷ xs) (suc i) zero y apart = refl
slice_get-set_other (x ∷ xs) (suc i) (suc k) y apart = slice_get-set_other xs i k y (λ same. apart (ap suc same))

-- what slots tell apart
pub heap_same : (a b : HeldHeap) → heap_slot a ≡ heap_slot b → a ≡ b
heap_same a b same = same_Some a b (ap (λ (s : SlotView). held_of s.kept) same)

pub segs_not_heap : (heap : HeldHeap) (segs : SegsView) → heap_slot heap ≢ home_slot (Segments segs)
segs_not_heap heap segs same =
    let held : Some heap ≡ None = ap (λ (s : SlotView). held_of s.kept) same in
    cc

pub names_not_heap : (heap : HeldHeap) (names : NamesView) → heap_slot heap ≢ home_slot (Names names)
names_not_heap heap names same =
    let held : Some heap ≡ None = ap (λ (s : SlotView). held_of s.kept) same in
    cc

pub out_not_home : (who : ℕ) (kept home : Kept) → out_slot who kept ≢ home_slot home
out_not_home who kept home same =
    let holder : Some who ≡ None = ap (λ (s : SlotView). s.holder) same in
    cc

-- nobody holds a heap at home
pub unheld_heap : (who : ℕ) (kept : Kept) → is_held_heap who kept None ≡ false
unheld_heap who (Heap heap pen) = refl
unheld_heap who (Segments segs) = refl
unheld_heap who (Names names) = refl

-- a slot has come to this by a step, and nothing else of the values has changed
pub record MovesSlot (number : ℕ) (slot : SlotView) (who : ℕ) (step : MailStep) (old new : HallView) : Type 0 where
  pub here : slot_at new number ≡ Some slot
  pub elsewhere : (other : ℕ) → other ≢ number → slot_at new other ≡ slot_at old other
  pub taken : (other : ℕ) → other ≢ number → taken_from (slot_at new other) ≡ taken_from (slot_at old other)
  pub home : (other : ℕ) → other ≢ number → IsHome (slot_at old other) → IsHome (slot_at new other)
  pub boxes : new.boxes ≡ old.boxes
  pub makes : MakesStep who step old new

module _ (hall : HallView) (number : ℕ) (before slot : SlotView) (there : slot_at hall number ≡ Some before) (later : IsLaterKept before.kept slot.kept) where
  later_slots : (k : ℕ) → IsLater (slot_at hall k) (slot_at (with_slot number slot hall) k)
  later_slots k =
      let now : List SlotView = set hall.slots number slot in
      ⊎_elim
      (λ (same : k ≡ number).
      let old : slice_get hall.slots k ≡ Some before = ap (slice_get hall.slots) same ∙ there in
      let below : number < length hall.slots = slice_get_within hall.slots number before there in
      let new : slice_get now k ≡ Some slot = ap (slice_get now) same ∙ slice_get-set_same hall.slots number slot below in
      subst (λ (o : Option SlotView). IsLater o (slice_get now k)) (sym old) (subst (λ (n : Option SlotView). IsLater (Some before) n) (sym new) later))
      (λ (apart : k ≢ number).
      subst (λ (n : Option SlotView). IsLater (slice_get hall.slots k) n) (sym (slice_get-set_other hall.slots number k slot apart)) (slot_same (slice_get hall.slots k)))
      (cases_eq k number)

  -- a step by which the slot came to this is one on the hall's course
  course_slot : (who : ℕ) (step : MailStep) → who < length hall.owns → IsMailStep who step hall.boxes → ShowsValues who step (values_in hall)
      → values_in (with_slot number slot hall) ≡ values_after step (values_in hall) → ShowsHome step (homes_in hall)
      → homes_in (with_slot number slot hall) ≡ homes_after step (homes_in hall) → IsMetered who step (meters_in hall) (meters_in hall)
      → ShowsTold who step (told_of hall) → told_of (with_slot number slot hall) ≡ told_after who step (told_of hall)
      → (AreAgreed hall → AreAgreed (with_slot number slot hall)) → full_post step ≡ 0
      → ShowsRanges (has_names (steps_of who hall.mail)) step (values_in hall)
      → IsCourse hall (with_mail who step hall.full_mailboxes (with_slot number slot hall))
  course_slot who step declared mailed shows values shows_home homes metered shows_told told agreed unfull ranges = record {
    count = refl;
    slots = later_slots;
    numbers = λ other. omega arith;
    clock = omega arith;
    steps = (who, step) ∷ [];
    mail = refl;
    full_mailboxes = omega (arith, unfull);
    boxes = (mailed, refl);
    kept = (record { declared = declared; shows = shows }, values);
    ranges = (ranges, tt);
    turns = (shows_home, homes);
    meters = (meters_in hall, metered, refl);
    told = (shows_told, told);
    agreed = agreed;
  }

moves_slot : (old new : HallView) (who number : ℕ) (slot : SlotView) (step : MailStep) → number < length old.slots
    → new ≡ with_mail who step old.full_mailboxes (with_slot number slot old) → after_step who step old.boxes ≡ old.boxes
    → IsCourse old (with_mail who step old.full_mailboxes (with_slot number slot old)) → MovesSlot number slot who step old new
moves_slot old new who number slot step below is still course =
    let elsewhere : (other : ℕ) → other ≢ number → slot_at new other ≡ slot_at old other =
    λ other apart. ap (λ (h : HallView). slot_at h other) is ∙ slice_get-set_other old.slots number other slot apart in
    record {
      here = ap (λ (h : HallView). slot_at h number) is ∙ slice_get-set_same old.slots number slot below;
      elsewhere = elsewhere;
      taken = λ other apart. ap taken_from (elsewhere other apart);
      home = λ other apart home. subst IsHome (sym (elsewhere other apart)) home;
      boxes = ap (λ (h : HallView). h.boxes) is ∙ still;
      makes = makes_step old new who step (ap (λ (h : HallView). h.mail) is) (ap (λ (h : HallView). h.owns) is)
          (ap (λ (h : HallView). h.lines) is) (ap (λ (h : HallView). h.clock) is) (subst (IsCourse old) (sym is) course);
    }

-- what is read of a slot stays everywhere if it stays at the slot that changed
pub read_alike : {X : Type 0} (read : Option SlotView → X) (number : ℕ) (slot : SlotView) (old new : HallView) → slot_at new number ≡ Some slot
    → ((other : ℕ) → other ≢ number → slot_at new other ≡ slot_at old other) → read (Some slot) ≡ read (slot_at old number)
    → (k : ℕ) → read (slot_at new k) ≡ read (slot_at old k)
read_alike read number slot old new here elsewhere alike k =
    ⊎_elim
    (λ (same : k ≡ number). ap (λ (n : ℕ). read (slot_at new n)) same ∙ ap read here ∙ alike ∙ ap (λ (n : ℕ). read (slot_at old n)) (sym same))
    (λ (apart : k ≢ number). ap read (elsewhere k apart))
    (cases_eq k number)

-- granted records that all members have taken in stay so while the segment value stays and numbers do not fall
pub agreed_alike : (old new : HallView) → segs_in (slot_at new MAX_HEAPS) ≡ segs_in (slot_at old MAX_HEAPS)
    → ((who : ℕ) → (own_at old who).number ≤ (own_at new who).number) → AreAgreed old → AreAgreed new
agreed_alike old new same rises agreed segs there entry generation member has grants is =
    omega (arith, rises member, agreed segs (sym same ∙ there) entry generation member has grants is)

set_same : {X : Type 0} (xs : List X) (i : ℕ) (x : X) → slice_get xs i ≡ Some x → set xs i x ≡ xs
set_same {X} [] i x is = refl
set_same {X} (y ∷ xs) zero x is = ap (λ (z : X). z ∷ xs) (same_Some x y (sym is))
set_same {X} (y ∷ xs) (suc i) x is = ap (λ (l : List X). y ∷ l) (set_same xs i x is)

-- the value of a slot, by number
pub value_at : (hall : HallView) (number : ℕ) (slot : SlotView) → slot_at hall number ≡ Some slot → slice_get (values_in hall) number ≡ Some slot.kept
value_at hall number slot there =
    slice_get-map (λ (s : SlotView). s.kept) hall.slots number ∙ ap (option_map (λ (s : SlotView). s.kept)) there

-- whether it is there, by number
home_at : (hall : HallView) (number : ℕ) (slot : SlotView) → slot_at hall number ≡ Some slot
    → slice_get (homes_in hall) number ≡ Some (is_none slot.holder)
home_at hall number slot there =
    slice_get-map (λ (s : SlotView). is_none s.holder) hall.slots number ∙ ap (option_map (λ (s : SlotView). is_none s.holder)) there

-- and the newest pair of its heap
pub newest_there : (hall : HallView) (number : ℕ) (slot : SlotView) → slot_at hall number ≡ Some slot
    → slice_get (map newest_of hall.slots) number ≡ Some (newest_of slot)
newest_there hall number slot there = slice_get-map newest_of hall.slots number ∙ ap (option_map newest_of) there

is_newest : (number : ℕ) (kept : Kept) (newest : List StatPair) → slice_get newest number ≡ Some (pair_in kept) → IsNewest number kept newest
is_newest number (Heap heap pen) newest there = there
is_newest number (Segments segs) newest there = tt
is_newest number (Names names) newest there = tt

own_pair : (kept : Kept) → newest_by kept None ≡ pair_in kept
own_pair (Heap heap pen) = refl
own_pair (Segments segs) = refl
own_pair (Names names) = refl

pub told_pair : (kept : Kept) (pair : StatPair) → IsHeap kept → newest_by kept (Some pair) ≡ pair
told_pair (Heap heap pen) pair is = refl
told_pair (Segments segs) pair is = absurd is
told_pair (Names names) pair is = absurd is

-- where a slot changes, the newest pairs are those with its own at its place
newest_set : (hall : HallView) (number : ℕ) (slot : SlotView) (pair : StatPair) → newest_of slot ≡ pair
    → told_of (with_slot number slot hall) ≡ record (told_of hall) { newest = set (map newest_of hall.slots) number pair }
newest_set hall number slot pair is =
    ap (λ (l : List StatPair). record (told_of hall) { newest = l })
    (map-set newest_of hall.slots number slot ∙ ap (set (map newest_of hall.slots) number) is)

-- and where its own stays, they all do
newest_still : (hall : HallView) (number : ℕ) (before slot : SlotView) → slot_at hall number ≡ Some before → newest_of slot ≡ newest_of before
    → told_of (with_slot number slot hall) ≡ told_of hall
newest_still hall number before slot there is =
    newest_set hall number slot (newest_of before) is
    ∙ ap (λ (l : List StatPair). record (told_of hall) { newest = l })
    (set_same (map newest_of hall.slots) number (newest_of before) (newest_there hall number before there))

module _ (old new : HallView) (who number : ℕ) (declared : who < length old.owns) where
  -- what a take leaves
  pub took : (kept : Kept) → slot_at old number ≡ Some (home_slot kept) → new ≡ after_take who number kept old
      → MovesSlot number (out_slot who kept) who (Takes number kept) old new
  took kept there is =
      let below = slice_get_within old.slots number (home_slot kept) there in
      let out : SlotView = out_slot who kept in
      let slotted : HallView = with_slot number out old in
      let value = value_at old number (home_slot kept) there in
      moves_slot old new who number out (Takes number kept) below is refl
      (course_slot old number (home_slot kept) out there (kept_same kept) who (Takes number kept) declared tt value
      (map-set (λ (s : SlotView). s.kept) old.slots number out ∙ set_same (values_in old) number kept value)
      (home_at old number (home_slot kept) there) (map-set (λ (s : SlotView). is_none s.holder) old.slots number out) refl
      (is_newest number kept (map newest_of old.slots) (newest_there old number (home_slot kept) there ∙ ap Some (own_pair kept)))
      (newest_still old number (home_slot kept) out there refl)
      (agreed_alike old slotted
      (read_alike segs_in number out old slotted (slice_get-set_same old.slots number out below)
      (λ other apart. slice_get-set_other old.slots number other out apart) (ap segs_in (sym there)) MAX_HEAPS)
      (λ other. omega arith)) refl tt)

  -- and what a give does
  pub gave : (before : SlotView) (kept : Kept) → slot_at old number ≡ Some before → is_none before.holder ≡ false
      → IsLaterKept before.kept kept → IsGivenBy who before.kept kept → AreAllocatedBy who (values_in old) before.kept kept → IsSoundKept kept
      → newest_of before ≡ pair_in kept → (AreAgreed old → AreAgreed (with_slot number (home_slot kept) old))
      → ShowsRanges (has_names (steps_of who old.mail)) (Gives number kept) (values_in old)
      → new ≡ after_give who number kept old → MovesSlot number (home_slot kept) who (Gives number kept) old new
  gave before kept there out later by allocated sound told agreed ranges is =
      moves_slot old new who number (home_slot kept) (Gives number kept) (slice_get_within old.slots number before there) is refl
      (course_slot old number before (home_slot kept) there later who (Gives number kept) declared tt
      (record { before = before.kept; there = value_at old number before there; by = by; allocated = allocated; sound = sound })
      (map-set (λ (s : SlotView). s.kept) old.slots number (home_slot kept)) (home_at old number before there ∙ ap Some out)
      (map-set (λ (s : SlotView). is_none s.holder) old.slots number (home_slot kept)) refl
      (is_newest number kept (map newest_of old.slots) (newest_there old number before there ∙ ap Some told))
      (newest_still old number before (home_slot kept) there (own_pair kept ∙ sym told)) agreed refl ranges)

  -- and what a holder does that publishes a pair
  pub published : (before : SlotView) (pair : StatPair) → slot_at old number ≡ Some before → IsHeap before.kept
      → (newest_of before).entries ≤ pair.entries → new ≡ after_publishing who number pair before old
      → MovesSlot number (telling_slot pair before) who (Notes (Published number pair)) old new
  published before pair there heap rises is =
      let slot : SlotView = telling_slot pair before in
      let below = slice_get_within old.slots number before there in
      let slotted : HallView = with_slot number slot old in
      moves_slot old new who number slot (Notes (Published number pair)) below is refl
      (course_slot old number before slot there (kept_same before.kept) who (Notes (Published number pair)) declared tt tt
      (map-set (λ (s : SlotView). s.kept) old.slots number slot ∙ set_same (values_in old) number before.kept (value_at old number before there))
      tt
      (map-set (λ (s : SlotView). is_none s.holder) old.slots number slot
      ∙ set_same (homes_in old) number (is_none before.holder) (home_at old number before there))
      (record { shows = tt; clock = refl; numbers = refl })
      (record { before = newest_of before; there = newest_there old number before there; rises = rises })
      (newest_set old number slot pair (told_pair before.kept pair heap))
      (agreed_alike old slotted
      (read_alike segs_in number slot old slotted (slice_get-set_same old.slots number slot below)
      (λ other apart. slice_get-set_other old.slots number other slot apart) (ap segs_in (sym there)) MAX_HEAPS)
      (λ other. omega arith)) refl tt)
