-- A hall of two in one thread as tests open it, and one that comes to ask for pages for heap 0 there, and to give them up.
use Rattle.std.proofs.Common.{◌≡◌, ◌≢◌, ◌∙◌, ◌==◌, ◌&&◌, ℕ, zero, suc, ◌<◌, Bool, true, false, List, [], ◌∷◌, length, replicate, Option, Some, None, refl, sym, ap, subst, ⊎_elim, arith, IfSome, IsSome}
use Rattle.std.specs.Prelude.{MatchOption}
use Rattle.std.specs.List.{slice_get}
use Rattle.std.specs.Option.{option_and_then}
use Rattle.std.specs.Int.{bit_at}
use Rattle.std.proofs.lemmas.Bool.{cases_eq, lt-ltb}
use Rattle.std.proofs.lemmas.List.{length-map, length-replicate}
use Rattle.std.proofs.lemmas.List.FromFn.{get_or-map-range_with_len}
use Rattle.std.proofs.lemmas.Nat.Bits.{bit_at-zero}
use Rattle.hp_base.specs.declared.limits.TheConstants.{MAX_HEAPS}
use Rattle.hp_base.specs.declared.row.Run.{Run}
use Rattle.hp_heap.specs.Growing.{after_grow}
use Rattle.hp_heap.specs.History.{HeapView}
use Rattle.hp_heap.specs.Joining.{after_insertion}
use Rattle.hp_heap.specs.Laws.{HasNoPagesAt, IsRunCut}
use Rattle.hp_heap.specs.Step.{after}
use Rattle.hp_heap.specs.declared.entry.HeapCall.TheVariants as call
use Rattle.hp_heap.specs.PlainHeap.{PlainHeap, opening_heap}
use Rattle.hp_heap.specs.Cut.{after_cut}
use Rattle.hp_heap.proofs.GrowLaw.{no_chunks}
use Rattle.hp_segs.specs.LaterSteps.{armed_ask}
use Rattle.hp_segs.specs.Opening.{is_present, opening_roster}
use Rattle.hp_segs.specs.SegsView.{SegsView, is_member}
use Rattle.hp_segs.specs.declared.ask.Ask.{Ask}
use Rattle.hp_segs.specs.declared.outcome.AskLog.{AskLog}
use Rattle.hp_plain.specs.HallSteps.{slots_of}
use Rattle.hp_plain.specs.HallView.{HallView, is_joined, joined_in, marks_in, own_at, part_in, serves_in}
use Rattle.hp_hall.specs.HallCalls.{HasTaken}
use Rattle.hp_hall.specs.HallState.{HallState}
use Rattle.hp_hall.specs.Holding.{HasPages, HeapPart, IsAsPart, IsHeldWith, IsPartTaken, IsTakenAs, StandsFor}
use Rattle.hp_segs.specs.Standing.{Holding}
use Rattle.hp_plain.specs.Opening.{AreHome, OpensWith, heaps_in}
use Rattle.hp_hall.specs.Naming.{marked_by}
use Rattle.hp_hall.specs.Own.{after_ack}
use Rattle.hp_hall.specs.Values.{Fits, IsHeap, IsSoundKept}
use Rattle.hp_hall.specs.Views.{HeldHeap}
use Rattle.hp_stats.specs.StatViews.{PenView}
use Rattle.hp_zone.specs.declared.names.Names.{Names as NamesView}
use Rattle.hp_hall.specs.declared.kept.Kept.{Kept}
use Rattle.hp_hall.specs.declared.kept.Kept.TheVariants.{Heap, Names, Segments}
use Rattle.hp_plain.proofs.Opened.{opened_home, opened_segs}
use Rattle.hp_serve.specs.Asking.{GrowsHeld, HasSettledAsks}
use Rattle.hp_serve.specs.Party.{Party}
use Rattle.hp_serve.specs.Tied.{nothing_yet}
use Rattle.hp_proc.proofs.Unarmed.{all_alike, unarmed_new}
use Rattle.hp_serve.specs.InHall.{CanServe}
use Rattle.hp_solo.specs.Solo.{marked_at}
use Rattle.hp_solo.specs.SoloAsks.{IsInHand, IsOpening, MayBeginToAsk, MayGiveUp}
use Rattle.test_solo.specs.Asking.{MayAsk}

first_serves : (held : List HeldHeap) (segs : SegsView) (names : NamesView) → 0 < length held
    → ((heap : HeapView) → slice_get (heaps_in held) 0 ≡ Some heap → IsSome heap.plain.serves)
    → IsSome (serves_in (slice_get (slots_of held segs names) 0))
first_serves [] segs names some serves = absurd (omega arith)
first_serves (one ∷ held) segs names some serves = serves one.heap refl

-- a heap that opened for a socket serves that
pub serves_first : (heap : HeapView) → heap.plain ≡ opening_heap 0 (Some 0) → IsSome heap.plain.serves
serves_first heap is = subst (λ (plain : PlainHeap). IsSome plain.serves) (sym is) refl

-- a heap that opens has no chunk
opening_unmarked : (who : ℕ) (heap : HeapView) (index : ℕ) (serves : Option ℕ) → heap.plain ≡ opening_heap index serves
    → marked_by who heap.plain ≡ []
unfolding marked_by
opening_unmarked who heap index serves is = ap (marked_by who) is

-- nor is one marked in a hall that opens with such
opened_unmarked : (segs : SegsView) (names : NamesView) (who : ℕ) (heaps : List HeldHeap) (number : ℕ)
    → ((place : ℕ) (heap : HeapView) → slice_get (heaps_in heaps) place ≡ Some heap → marked_by who heap.plain ≡ [])
    → marks_in who (slice_get (slots_of heaps segs names) number) ≡ []
opened_unmarked segs names who [] zero none = refl
opened_unmarked segs names who [] (suc zero) none = refl
opened_unmarked segs names who [] (suc (suc number)) none = refl
opened_unmarked segs names who (heap ∷ heaps) zero none = none 0 heap.heap refl
opened_unmarked segs names who (heap ∷ heaps) (suc number) none =
    opened_unmarked segs names who heaps number (λ place one at. none (suc place) one at)

-- of two of whom nobody is absent both are in the roster at first
present_two : (who : ℕ) → who < 2 → is_member (opening_roster 2 0) who ≡ true
present_two who below =
    get_or-map-range_with_len (is_present 2 0) 0 16 who who false (omega (arith, below)) (omega arith)
    ∙ (ap (λ (declared : Bool). declared && (bit_at 0 who == 0)) (lt-ltb who 2 below) ∙ ap (λ (bit : ℕ). bit == 0) (bit_at-zero who))

-- a hall opens over a segment value of which nobody is armed and both are in the roster, and heaps, the first of which is a socket's
pub opens : (heaps : List HeapView) (segs : SegsView) (names : NamesView) (hall : HallView) → OpensWith 2 heaps segs names hall
    → length heaps ≡ MAX_HEAPS → segs.armed ≡ replicate 16 None → segs.roster ≡ opening_roster 2 0
    → ((heap : HeapView) → slice_get heaps 0 ≡ Some heap → IsSome heap.plain.serves)
    → IsOpening hall
opens heaps segs names hall opened count armed roster serves =
    let many : length opened.held ≡ MAX_HEAPS =
    sym (length-map opened.held (λ (one : HeldHeap). one.heap)) ∙ (ap length opened.heaps_are ∙ count) in
    record {
      two = ap (λ (h : HallView). length h.owns) opened.hall_is ∙ length-replicate 2 (after_ack 0);
      home = subst AreHome (sym opened.hall_is) (opened_home segs names 2 opened.held many);
      nothing_yet = λ who. ap (λ (h : HallView). own_at h who) opened.hall_is ∙ all_alike nothing_yet 2 who;
      joined = λ who below.
          ap (λ (h : HallView). joined_in h who) opened.hall_is
          ∙ (ap (is_joined who) (opened_segs segs names opened.held MAX_HEAPS many)
          ∙ (ap (λ (roster : List Bool). is_member roster who) roster ∙ present_two who below));
      unarmed = λ who heap.
          ap (λ (h : HallView). (part_in h who heap).armed) opened.hall_is
          ∙ ap (option_and_then (λ (s : SegsView). armed_ask s who)) (opened_segs segs names opened.held MAX_HEAPS many)
          ∙ unarmed_new segs who armed;
      serves = λ who.
          subst (λ (h : HallView). IsSome (part_in h who 0).serves) (sym opened.hall_is)
          (first_serves opened.held segs names (omega (arith, many)) (λ heap there.
          serves heap (ap (λ (l : List HeapView). slice_get l 0) (sym opened.heaps_are) ∙ there)));
    }

-- and nobody has a mark there
pub opens_unmarked : (heaps : List HeapView) (segs : SegsView) (names : NamesView) (hall : HallView) → OpensWith 2 heaps segs names hall
    → ((place : ℕ) (heap : HeapView) → slice_get heaps place ≡ Some heap → (serves : Option ℕ) × (heap.plain ≡ opening_heap place serves))
    → (who heap : ℕ) → marked_at hall who heap ≡ []
opens_unmarked heaps segs names hall opened plain who heap =
    ap (λ (h : HallView). marked_at h who heap) opened.hall_is
    ∙ opened_unmarked segs names who opened.held heap (λ place one there.
    let is = plain place one (ap (λ (l : List HeapView). slice_get l place) (sym opened.heaps_are) ∙ there) in
    opening_unmarked who one place is.0 is.1)

-- there each may begin to ask
pub may_begin : (hall : HallView) (who : ℕ) → IsOpening hall → MayBeginToAsk hall who
may_begin hall who is = record {
  home = is.home 0 (omega arith);
  serves = is.serves who;
  unarmed = is.unarmed who;
}

none_armed : (o : Option Ask) (ask : Ask) → o ≡ None → o ≡ Some ask → ⊥
none_armed o ask none some = cc

held_is : (heap : HeapView) (holding : Option Holding) → IsHeldWith heap holding
    → (held : Holding) × (holding ≡ Some held) × HasPages heap.plain.pages held.owned
held_is heap None held = absurd held
held_is heap (Some holding) held = (holding, refl, held.pages)

-- what a participant learns that takes a value out of the slot of heap 0, and what that makes of its parts
pub record IsTakenFirst (old new : ℕ → HeapPart) (who : ℕ) (kept : Kept) : Type 0 where
  pub fits : Fits 0 kept
  pub sound : IsSoundKept kept
  pub stands : StandsFor who new kept
  pub part : IsTakenAs kept old new

pub heap_of_first : (kept : Kept) → Fits 0 kept → IsHeap kept
heap_of_first (Heap heap pen) fits = tt
heap_of_first (Segments segs) fits = absurd (omega (arith, fits))
heap_of_first (Names names) fits = absurd (omega (arith, fits))

pub first_taken : (me : ℕ) {who : ℕ} (old mid : HallState) (kept : Kept) (heap : HeapView) (pen : PenView) → who ≡ me → kept ≡ Heap heap pen
    → HasTaken who 0 kept old mid → IsTakenFirst (old.part me) (mid.part me) me (Heap heap pen)
first_taken me {who} old mid kept heap pen number is took =
    subst (λ (n : ℕ). IsTakenFirst (old.part n) (mid.part n) n (Heap heap pen)) number
    (subst (λ (k : Kept). IsTakenFirst (old.part who) (mid.part who) who k) is
    (record { fits = took.fits; sound = took.sound; stands = took.stands; part = took.part }))

module _ (old new : ℕ → HeapPart) (who : ℕ) (heap : HeapView) (pen : PenView) (is : IsTakenFirst old new who (Heap heap pen))
    (was_serving : IsSome (old 0).serves) (was_unarmed : (other : ℕ) → (old other).armed ≡ None) where
  index : heap.plain.index ≡ 0
  index = is.fits.0

  taken : IsPartTaken (old 0) (new 0)
  taken = subst (λ (n : ℕ). IsPartTaken (old n) (new n)) index is.part.0

  stands : IsAsPart (new 0) heap
  stands = subst (λ (n : ℕ). IsAsPart (new n) heap) index is.stands

  -- it has the heap in its hand
  pub in_hand : IsInHand new heap.plain
  in_hand =
      let held = held_is heap (new 0).holding stands.held in
      let serves : IsSome heap.plain.serves =
      subst (λ (o : Option ℕ). IsSome o) (sym (stands.serves ∙ taken.serves)) was_serving in
      record {
        index = index;
        serves = serves;
        chunks = no_chunks heap.plain serves is.sound.tiled.kind;
        holding = held.0;
        held = held.1;
        pages = held.2;
      }

  unarmed_still : (other : ℕ) → (new other).armed ≡ None
  unarmed_still other =
      ⊎_elim
      (λ (same : other ≡ 0). ap (λ (n : ℕ). (new n).armed) same ∙ taken.armed ∙ was_unarmed 0)
      (λ (apart : other ≢ 0).
      ap (λ (part : HeapPart). part.armed) (is.part.1 other (λ (same : other ≡ heap.plain.index). apart (same ∙ index))) ∙ was_unarmed other)
      (cases_eq other 0)

  -- and no ask that is not settled
  pub settled_first : (heard : List AskLog) → HasSettledAsks new heard
  settled_first heard other ask armed = absurd (none_armed (new other).armed ask (unarmed_still other) armed)

-- one that holds heap 0 and may serve may ask
pub may_ask : (party : Party) (state : HallState) (heap : PlainHeap) → CanServe party.me party state → IsInHand (state.part party.me) heap
    → HasSettledAsks (state.part party.me) (state.heard party.me) → MayAsk party state
may_ask party state heap can hand settled = record {
  can = can;
  holds = subst (λ (o : Option Holding). IsSome o) (sym hand.held) refl;
  settled = settled;
}

-- a growth leaves the index of a heap
index_grown : (heap : PlainHeap) (run : Run) → (after_grow run heap).index ≡ heap.index
unfolding after_grow after_insertion
index_grown heap run = refl

same_holding : (o : Option Holding) (a b : Holding) → o ≡ Some a → o ≡ Some b → a ≡ b
same_holding o a b first second = cc

module _ (old new : ℕ → HeapPart) (heap : PlainHeap) (run : Run) (hand : IsInHand old heap) (grows : GrowsHeld 0 (Some run) (old 0) (new 0)) where
  pages_before : HasPages heap.pages grows.before.owned
  pages_before =
      subst (λ (holding : Holding). HasPages heap.pages holding.owned)
      (same_holding (old 0).holding hand.holding grows.before hand.held grows.held) hand.pages

  -- what is cut from a heap in hand, to which a run came that was granted, may be given up
  cut_may : (address : ℕ) (cut : Run) → IsRunCut address (after_grow run heap) cut → MayGiveUp new cut
  cut_may address cut is = (
    grows.behind,
    after_cut address (after_grow run heap),
    grows.holds,
    record {
      whole = after_grow run heap;
      address = address;
      its_index = index_grown heap run ∙ hand.index;
      pages = grows.grows.pages heap hand.index pages_before;
      cut = is;
      left_is = refl;
    },
  )

  -- and so what is, where something is cut
  pub cuts_may : (address : ℕ) (cut : Option Run) → IfSome cut (IsRunCut address (after_grow run heap)) → IfSome cut (MayGiveUp new)
  cuts_may address None is = tt
  cuts_may address (Some cut) is = cut_may address cut is

-- a call that brings a run to a heap is its growth
grown_is : (who : ℕ) (run : Run) (heap : PlainHeap) → after who (call.Grow run) heap ≡ after_grow run heap
unfolding after
grown_is who run heap = refl

-- what is cut from a heap after that
pub cut_grown : (who address : ℕ) (run : Run) (heap grown : PlainHeap) (cut : Option Run) → grown ≡ after who (call.Grow run) heap
    → MatchOption cut (HasNoPagesAt address grown) (IsRunCut address grown) → IfSome cut (IsRunCut address (after_grow run heap))
cut_grown who address run heap grown None is found = tt
cut_grown who address run heap grown (Some cut) is found = subst (λ (h : PlainHeap). IsRunCut address h cut) (is ∙ grown_is who run heap) found
