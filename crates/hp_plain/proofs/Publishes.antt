-- What the trait says of a pair that is published or read, over what that leaves.
use Rattle.std.proofs.Common.{◌≡◌, ◌≢◌, ℕ, zero, suc, ◌<◌, ◌≤◌, Bool, true, false, List, [], ◌∷◌, length, map, Option, Some, None, refl, sym, ap, subst, ◌∙◌, ⊎_elim, arith}
use Rattle.std.specs.List.{slice_get}
use Rattle.std.specs.Option.{IsSome, option_map}
use Rattle.std.proofs.lemmas.Bool.{cases_eq, false≢true}
use Rattle.std.proofs.lemmas.List.{append-nil, length-append}
use Rattle.std.proofs.lemmas.Option.{same_Some}
use Rattle.hp_base.specs.declared.chunk.Chunk.{Chunk}
use Rattle.hp_base.specs.declared.limits.TheConstants.{MAX_HEAPS}
use Rattle.hp_heap.specs.declared.entry.Entry.{Entry}
use Rattle.hp_heap.specs.History.{HeapView, entries_of}
use Rattle.hp_segs.specs.SegsView.{SegsView}
use Rattle.hp_segs.specs.declared.external_range.ExternalRange.{ExternalRange}
use Rattle.hp_stats.specs.StatViews.{PenView}
use Rattle.hp_stats.specs.declared.stat_pair.StatPair.{StatPair}
use Rattle.hp_hall.specs.declared.kept.Kept.{Kept}
use Rattle.hp_hall.specs.declared.kept.Kept.TheVariants.{Heap, Names, Segments}
use Rattle.hp_hall.specs.declared.note.Note.TheVariants.{Published}
use Rattle.hp_hall.specs.declared.slot.TheConstants.{NAMES_SLOT}
use Rattle.hp_hall.specs.HallCalls.{HasPublished, IsPublishable, MayPublish}
use Rattle.hp_hall.specs.HallState.{SlotsStay}
use Rattle.hp_hall.specs.HeapPairs.{pair_of}
use Rattle.hp_hall.specs.Holding.{part_told}
use Rattle.hp_hall.specs.Mail.{MailStep, Notes}
use Rattle.hp_hall.specs.Naming.{Naming}
use Rattle.hp_hall.specs.Values.{IsHeap, history_of, marks_of, pair_in}
use Rattle.hp_hall.proofs.Gives.{has_nothing}
use Rattle.hp_plain.specs.Course.{IsCourse}
use Rattle.hp_plain.specs.HallSteps.{telling_slot}
use Rattle.hp_plain.specs.HallView.{HallView, IsHall, IsHome, SlotView, asks_in, has_names_by, is_held_by, is_joined, log_in, naming_in, newest_by, newest_in, newest_of, part_in, part_of, segs_in, serves_of, slot_at, taken_from, told_in}
use Rattle.hp_plain.specs.PlainState.{plain_state}
use Rattle.hp_plain.specs.Publishing.{IsPublished, MayTell}
use Rattle.hp_plain.proofs.Given.{known}
use Rattle.hp_plain.proofs.Held.{claims_if, held_apart, holding_held, naming_if, part_by}
use Rattle.hp_plain.proofs.PlainStates.{did_one, others_one}
use Rattle.hp_plain.proofs.Slotted.{MovesSlot, published, read_alike, told_pair}
use Rattle.hp_plain.proofs.Taking.{hands_still, part_apart, parts_still, segs_still}

-- the newest pair of a slot is the one at its number
pub newest_listed : (slots : List SlotView) (number : ℕ) (pair : StatPair) → number < length slots → pair ≡ newest_in (slice_get slots number)
    → slice_get (map newest_of slots) number ≡ Some pair
newest_listed [] number pair below is = absurd (omega arith)
newest_listed (slot ∷ slots) zero pair below is = ap Some (sym is)
newest_listed (slot ∷ slots) (suc number) pair below is = newest_listed slots number pair (omega (arith, below)) is

-- a value that is out was taken, and has a holder
pub record IsOutAs (kept : Kept) (slot : SlotView) : Type 0 where
  pub kept_is : slot.kept ≡ kept
  pub out : IsSome slot.holder

out_as : (kept : Kept) (slot : SlotView) (holder : Option ℕ) → slot.holder ≡ holder → taken_from (Some slot) ≡ Some kept → IsOutAs kept slot
out_as kept slot None at is =
    let none : None ≡ Some kept = sym (ap (λ (h : Option ℕ). option_map (λ who. slot.kept) h) at) ∙ is in
    cc
out_as kept slot (Some who) at is = record {
  kept_is = same_Some slot.kept kept (sym (ap (λ (h : Option ℕ). option_map (λ who. slot.kept) h) at) ∙ is);
  out = subst IsSome (sym at) refl;
}

is_heap : (kept : Kept) (heap : HeapView) (pen : PenView) → kept ≡ Heap heap pen → IsHeap kept
is_heap kept heap pen is = subst IsHeap (sym is) tt

pub may_tell : (slot : Option SlotView) (heap : HeapView) (pen : PenView) → taken_from slot ≡ Some (Heap heap pen) → MayTell slot
may_tell None heap pen is = cc
may_tell (Some slot) heap pen is =
    let out = out_as (Heap heap pen) slot slot.holder refl is in
    (is_heap slot.kept heap pen out.kept_is, out.out)

told_part : (naming : Option Naming) (claims : Option (List ExternalRange)) (who heap : ℕ) (entries : List Entry) (marked : List Chunk)
    (serves : Option ℕ) (pair : StatPair) (told : Option StatPair) (segs : Option SegsView) (held : Bool) → held ≡ true
    → part_by naming claims who heap entries marked serves (Some pair) segs held
    ≡ part_told pair (part_by naming claims who heap entries marked serves told segs held)
told_part naming claims who heap entries marked serves pair told segs true is = refl
told_part naming claims who heap entries marked serves pair told segs false is = absurd (false≢true is)

told_if : (held : Bool) (told : Option StatPair) → held ≡ true → (part_by None None 0 0 [] [] None told None held).told ≡ told
told_if true told is = refl
told_if false told is = absurd (false≢true is)

-- what a heap's newest pair counts, no more than the heap has entries
counts_at_most : (kept : Kept) (told : Option StatPair) (taken : HeapView) (pen : PenView) (most : ℕ) → kept ≡ Heap taken pen
    → length taken.history ≤ most → ((pair : StatPair) → told ≡ Some pair → pair.entries ≤ most) → (newest_by kept told).entries ≤ most
counts_at_most kept None taken pen most is longer each =
    omega (arith, longer, ap (λ (k : Kept). (newest_by k None).entries) is)
counts_at_most kept (Some pair) taken pen most is longer each =
    omega (arith, each pair refl, ap (λ (k : Kept). (newest_by k (Some pair)).entries) is)

module _ (me index : ℕ) (heap : HeapView) (pen : PenView) (old new : HallView) (hall : IsHall old) (declared : me < length old.owns)
    (may : IsPublishable (known old me) index heap pen) (is : IsPublished me index (pair_of heap) old new) where
  abbrev before : SlotView
  before = is.before

  abbrev slot : SlotView
  slot = telling_slot (pair_of heap) before

  abbrev step : MailStep
  step = Notes (Published index (pair_of heap))

  out : IsOutAs (Heap may.taken.heap may.taken.pen) before
  out = out_as (Heap may.taken.heap may.taken.pen) before before.holder refl (sym (ap taken_from is.there) ∙ may.out)

  heap_here : IsHeap before.kept
  heap_here = is_heap before.kept may.taken.heap may.taken.pen out.kept_is

  held_old : is_held_by me (slot_at old index) ≡ true
  held_old = holding_held old me index may.held

  held_here : is_held_by me (Some before) ≡ true
  held_here = sym (ap (is_held_by me) is.there) ∙ held_old

  rises : (newest_of before).entries ≤ (pair_of heap).entries
  rises =
      counts_at_most before.kept before.told may.taken.heap may.taken.pen (length heap.history) out.kept_is
      (omega (arith, ap length may.history, length-append may.taken.heap.history may.more)) (λ pair told.
      may.told pair (told_if (is_held_by me (slot_at old index)) (told_in (slot_at old index)) held_old ∙ ap told_in is.there ∙ told))

  moves : MovesSlot index slot me step old new
  moves = published old new me index declared before (pair_of heap) is.there heap_here rises is.hall

  segs : segs_in (slot_at new MAX_HEAPS) ≡ segs_in (slot_at old MAX_HEAPS)
  segs = segs_still index slot me step old new moves (sym (ap segs_in is.there))

  -- the holder of a slot stays, so who has the names in hand has them still
  hands : (who : ℕ) → has_names_by who (slot_at new NAMES_SLOT) ≡ has_names_by who (slot_at old NAMES_SLOT)
  hands who = hands_still index slot me step old new moves who (sym (ap (has_names_by who) is.there))

  told_mine : part_in new me index ≡ part_told (pair_of heap) (part_in old me index)
  told_mine =
      let last : Option SegsView = segs_in (slot_at old MAX_HEAPS) in
      let has : Bool = has_names_by me (slot_at old NAMES_SLOT) in
      ap (λ (b : Bool). part_of me index b (slot_at new index) (segs_in (slot_at new MAX_HEAPS))) (hands me)
      ∙ ap (λ (s : Option SlotView). part_of me index has s (segs_in (slot_at new MAX_HEAPS))) moves.here
      ∙ ap (part_of me index has (Some slot)) segs
      ∙ told_part (naming_if has (naming_in (Some before))) (claims_if has last) me index (entries_of me (history_of before.kept))
      (marks_of me before.kept) (serves_of before.kept) (pair_of heap) before.told last
      (is_held_by me (Some before)) held_here
      ∙ ap (λ (s : Option SlotView). part_told (pair_of heap) (part_of me index has s last)) (sym is.there)

  others_alike : (who other : ℕ) (has : Bool) (s : Option SegsView) → who ≢ me
      → part_of who other has (Some slot) s ≡ part_of who other has (slot_at old index) s
  others_alike who other has s apart =
      let naming : Option Naming = naming_if has (naming_in (Some before)) in
      let claims = claims_if has s in
      let entries : List Entry = entries_of who (history_of before.kept) in
      let not_held : is_held_by who (Some before) ≡ false = held_apart me who (Some before) apart held_here in
      ap (part_by naming claims who other entries (marks_of who before.kept) (serves_of before.kept) (Some (pair_of heap)) s) not_held
      ∙ sym (ap (part_by naming claims who other entries (marks_of who before.kept) (serves_of before.kept) before.told s) not_held)
      ∙ ap (λ (o : Option SlotView). part_of who other has o s) (sym is.there)

  slots_stay : SlotsStay (plain_state old) (plain_state new)
  slots_stay = record {
    taken = read_alike taken_from index slot old new moves.here moves.elsewhere (sym (ap taken_from is.there));
    home = λ number home.
        ⊎_elim
        (λ (same : number ≡ index).
        let was : IsHome (Some before) = subst IsHome (ap (slot_at old) same ∙ is.there) home in
        subst IsHome (sym (ap (slot_at new) same ∙ moves.here)) was)
        (λ (apart : number ≢ index). moves.home number apart home)
        (cases_eq number index);
  }

  pub heap_published : HasPublished me index (Heap heap pen) (Heap heap pen) (plain_state old) (plain_state new)
  heap_published = record {
    kept_after = record {
      pen_after = pen;
      kept = refl;
      goes = record {
        cell = refl;
        more = [];
        published = sym (append-nil pen.published);
        only = λ other has. absurd (has_nothing other has);
      };
    };
    told = told_mine;
    apart = λ other apart. part_apart index slot me step old new moves me segs (hands me) other apart;
    shown = omega (
      arith,
      ap (λ (s : Option SlotView). (newest_in s).entries) moves.here,
      ap (λ (p : StatPair). p.entries) (told_pair before.kept (pair_of heap) heap_here),
    );
    joined = ap (is_joined me) segs;
    own = moves.makes.own me;
    lines = moves.makes.lines me;
    seen = read_alike log_in index slot old new moves.here moves.elsewhere (sym (ap log_in is.there)) MAX_HEAPS;
    heard = read_alike asks_in index slot old new moves.here moves.elsewhere (sym (ap asks_in is.there)) MAX_HEAPS;
    slots = slots_stay;
    others = others_one me step old new moves.makes
        (λ who other apart.
        parts_still index slot me step old new moves who segs (hands who)
        (λ other s. others_alike who other (has_names_by who (slot_at old NAMES_SLOT)) s apart) other)
        (λ who apart. ap (is_joined who) segs);
    did = did_one me step old new moves.makes;
  }

  pub heap_course : IsCourse old new
  heap_course = moves.makes.course

  pub heap_boxes : new.boxes ≡ old.boxes
  heap_boxes = moves.boxes

-- what a participant publishes of a heap that it holds
pub record AsPublished (me index : ℕ) (kept : Kept) (old new : HallView) : Type 0 where
  pub publishes : HasPublished me index kept kept (plain_state old) (plain_state new)
  pub course : IsCourse old new
  pub boxes : new.boxes ≡ old.boxes

pub as_published : (me index : ℕ) (kept : Kept) (old new : HallView) → IsHall old → me < length old.owns → MayPublish (known old me) index kept
    → IsPublished me index (pair_in kept) old new → AsPublished me index kept old new
as_published me index (Heap heap pen) old new hall declared may is = record {
  publishes = heap_published me index heap pen old new hall declared may is;
  course = heap_course me index heap pen old new hall declared may is;
  boxes = heap_boxes me index heap pen old new hall declared may is;
}
as_published me index (Segments value) old new hall declared may is = absurd may
as_published me index (Names names) old new hall declared may is = absurd may

-- a heap that may be published of is out
pub may_publish_tells : (old : HallView) (me index : ℕ) (kept : Kept) → MayPublish (known old me) index kept → MayTell (slot_at old index)
may_publish_tells old me index (Heap heap pen) may = may_tell (slot_at old index) may.taken.heap may.taken.pen may.out
may_publish_tells old me index (Segments value) may = absurd may
may_publish_tells old me index (Names names) may = absurd may
