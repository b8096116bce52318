-- A hall of which a slot has changed is one: of which a value was taken, or in which a holder has published a pair.
use Rattle.std.proofs.Common.{◌≡◌, ◌≢◌, ℕ, ◌<◌, true, List, [], ◌∷◌, ◌++◌, length, set, Option, Some, None, inl, inr, refl, sym, ap, subst, ◌∙◌, ⊎_elim, arith, length-set}
use Rattle.std.specs.List.{slice_get, slice_index_or}
use Rattle.std.specs.Option.{IsSome}
use Rattle.std.proofs.lemmas.Bool.{cases_eq, false≢true}
use Rattle.std.proofs.lemmas.Option.{same_Some}
use Rattle.hp_base.specs.declared.limits.TheConstants.{MAX_HEAPS}
use Rattle.hp_segs.specs.LaterSteps.{armed_ask}
use Rattle.hp_segs.specs.PendingRuns.{ArePending}
use Rattle.hp_segs.specs.SegsView.{SegsView}
use Rattle.hp_segs.specs.SettledAsks.{IsSettled}
use Rattle.hp_segs.specs.Sound.{IsSound}
use Rattle.hp_segs.specs.Standing.{IsArmed, standing_of}
use Rattle.hp_segs.specs.declared.ask.Ask.{Ask}
use Rattle.hp_hall.specs.declared.kept.Kept.{Kept}
use Rattle.hp_hall.specs.declared.kept.Kept.TheVariants.{Heap, Names, Segments}
use Rattle.hp_hall.specs.Mail.{MailStep, Notes, Takes}
use Rattle.hp_hall.specs.Views.{HeldHeap}
use Rattle.hp_hall.specs.declared.note.Note.{Note}
use Rattle.hp_hall.specs.declared.slot.TheConstants.{NAMES_SLOT}
use Rattle.hp_stats.specs.declared.stat_pair.StatPair.{StatPair}
use Rattle.hp_hall.specs.Holding.{HasHolding}
use Rattle.hp_hall.specs.Own.{Own, after_ack}
use Rattle.hp_hall.specs.Values.{Fits, HasPairs, IsHeap}
use Rattle.hp_plain.specs.HallSteps.{heap_slot, home_slot, out_slot, telling_slot}
use Rattle.hp_plain.specs.HallView.{AreChunksClaimed, AreNamed, HallView, IsAskHeld, IsHall, IsHeapAtHome, IsHome, SlotView, chunks_in, has_names_by, is_held_by, naming_in, own_at, segs_in, slot_at}
use Rattle.hp_hall.specs.TakenIn.{AreTakenIn, IsOwnOf}
use Rattle.hp_plain.proofs.ChunksKept.{chunks_still}
use Rattle.hp_plain.proofs.Held.{home_unheld}
use Rattle.hp_plain.proofs.NamesKept.{LeavesHands, hands_as_before, home_unhanded, names_beside, names_out, naming_alike}
use Rattle.hp_plain.proofs.Slotted.{out_not_home, read_alike, slice_get-set_other, slice_get-set_same}

-- a slot has come to this by a participant's step, and beside it nothing of the values, mailboxes and own parts has changed
pub record IsChanged (number : ℕ) (slot : SlotView) (who : ℕ) (step : MailStep) (old new : HallView) : Type 0 where
  pub below : number < length old.slots
  pub slots : new.slots ≡ set old.slots number slot
  pub boxes : new.boxes ≡ old.boxes
  pub owns : new.owns ≡ old.owns
  pub lines : new.lines ≡ old.lines
  pub mail : new.mail ≡ old.mail ++ (who, step) ∷ []

-- a slot is one that a hall may have: who holds its value alone has published anything, and what was published of a heap are its pairs
pub record IsHallSlot (slot : SlotView) : Type 0 where
  pub untold : slot.holder ≡ None → slot.told ≡ None
  pub pairs : HasPairs slot.kept

-- a segment value that a hall may have
pub record IsHallSegs (hall : HallView) (segs : SegsView) : Type 0 where
  pub there : segs_in (slot_at hall MAX_HEAPS) ≡ Some segs
  pub sound : IsSound segs
  pub armed : IsArmed segs
  pub asking : (who : ℕ) (ask : Ask) → armed_ask segs who ≡ Some ask → IsAskHeld hall segs who ask
  pub pending : ArePending segs
  pub owned : (who : ℕ) → who < length hall.owns → IsOwnOf (length segs.log) (own_at hall who)
  pub agreed : AreTakenIn (λ who. (own_at hall who).number) segs

module _ (number : ℕ) (slot : SlotView) (who : ℕ) (step : MailStep) (old new : HallView) (changed : IsChanged number slot who step old new) where
  pub now_here : slot_at new number ≡ Some slot
  now_here = ap (λ (l : List SlotView). slice_get l number) changed.slots ∙ slice_get-set_same old.slots number slot changed.below

  pub now_elsewhere : (other : ℕ) → other ≢ number → slot_at new other ≡ slot_at old other
  now_elsewhere other apart =
      ap (λ (l : List SlotView). slice_get l other) changed.slots ∙ slice_get-set_other old.slots number other slot apart

  -- what holds of the slot that changed, and held of the others, holds of each
  each_now : (P : ℕ → SlotView → Type 0) → P number slot → ((k : ℕ) (s : SlotView) → k ≢ number → slot_at old k ≡ Some s → P k s)
      → (k : ℕ) (s : SlotView) → slot_at new k ≡ Some s → P k s
  each_now P here elsewhere k s there =
      ⊎_elim
      (λ (same : k ≡ number).
      let read : slot ≡ s = same_Some slot s (sym now_here ∙ ap (slot_at new) (sym same) ∙ there) in
      subst (λ (n : ℕ). P n s) (sym same) (subst (P number) read here))
      (λ (apart : k ≢ number). elsewhere k s apart (sym (now_elsewhere k apart) ∙ there))
      (cases_eq k number)

  pub owns_still : (other : ℕ) → own_at new other ≡ own_at old other
  owns_still other = ap (λ (l : List Own). slice_index_or l other (after_ack 0)) changed.owns

  -- names are as they were where the slot is another and is to them as it was, and the external memory is as it was
  names_same : (segs : SegsView) → number ≢ NAMES_SLOT → LeavesHands step → naming_in (Some slot) ≡ naming_in (slot_at old number)
      → AreNamed old segs → AreNamed new segs
  names_same segs apart leaves alike named =
      names_beside number slot old new now_here now_elsewhere segs segs apart (hands_as_before who step old new changed.mail leaves)
      (λ home. (naming_alike number slot old new now_here now_elsewhere alike, refl)) named

  -- so the hall is one, where its segment value is one that a hall may have, and each heap at home has what that has for it
  pub hall_changed : (segs : SegsView) → IsHall old → Fits number slot.kept → IsHallSlot slot → IsHallSegs new segs → AreNamed new segs
      → AreChunksClaimed new segs
      → ((heap : HeldHeap) → slot ≡ heap_slot heap → HasHolding heap.heap (standing_of number segs))
      → ((k : ℕ) (heap : HeldHeap) → k ≢ number → IsHeapAtHome old k heap → HasHolding heap.heap (standing_of k segs)) → IsHall new
  hall_changed segs hall fits own is named chunks here elsewhere = record {
    slots = ap length changed.slots ∙ length-set old.slots number slot ∙ hall.slots;
    fits = each_now (λ k s. Fits k s.kept) fits (λ k s apart there. hall.fits k s there);
    untold = each_now (λ k s. s.holder ≡ None → s.told ≡ None) own.untold (λ k s apart there. hall.untold k s there);
    pairs = each_now (λ k s. HasPairs s.kept) own.pairs (λ k s apart there. hall.pairs k s there);
    boxes = ap length changed.boxes ∙ hall.boxes ∙ sym (ap length changed.owns);
    lines = ap length changed.lines ∙ hall.lines ∙ sym (ap length changed.owns);
    few = omega (arith, hall.few, ap length changed.owns);
    segs = segs;
    there = is.there;
    sound = is.sound;
    armed = is.armed;
    home = λ k heap home.
        each_now (λ n s. (h : HeldHeap) → s ≡ heap_slot h → HasHolding h.heap (standing_of n segs)) here
        (λ n s apart there h same. elsewhere n h apart (there ∙ ap Some same)) k (heap_slot heap) home heap refl;
    asking = is.asking;
    pending = is.pending;
    named = named;
    chunks = chunks;
    owned = is.owned;
    agreed = is.agreed;
  }

  -- where the segment value stays, it is still one that a hall may have
  pub same_segs : (hall : IsHall old) → segs_in (Some slot) ≡ segs_in (slot_at old number)
      → ((asker : ℕ) (ask : Ask) → armed_ask hall.segs asker ≡ Some ask → is_held_by asker (slot_at old ask.heap) ≡ true
      → IsAskHeld new hall.segs asker ask)
      → IsHallSegs new hall.segs
  same_segs hall still held = record {
    there = read_alike segs_in number slot old new now_here now_elsewhere still MAX_HEAPS ∙ hall.there;
    sound = hall.sound;
    armed = hall.armed;
    asking = λ asker ask is.
        ⊎_elim (λ (settled : IsSettled ask.from ask.number hall.segs). inl settled)
        (λ (holds : is_held_by asker (slot_at old ask.heap) ≡ true). held asker ask is holds) (hall.asking asker ask is);
    pending = hall.pending;
    owned = λ other below.
        subst (IsOwnOf (length hall.segs.log)) (sym (owns_still other)) (hall.owned other (omega (arith, below, ap length changed.owns)));
    agreed = λ entry generation member has grants is.
        omega (arith, hall.agreed entry generation member has grants is, ap (λ (own : Own). own.number) (owns_still member));
  }

-- of which a value was taken, the names are as they were, or its taker has them in hand
names_taken : (me number : ℕ) (kept : Kept) (old new : HallView) (hall : IsHall old) → slot_at old number ≡ Some (home_slot kept)
    → IsChanged number (out_slot me kept) me (Takes number kept) old new → (value : Kept) → kept ≡ value → Fits number value → AreNamed new hall.segs
names_taken me number kept old new hall there changed (Heap heap pen) is fits =
    names_same number (out_slot me kept) me (Takes number kept) old new changed hall.segs (λ same. omega (arith, fits.1, same))
    (subst (λ (k : Kept). LeavesHands (Takes number k)) (sym is) (record { has = refl; none = refl })) (sym (ap naming_in there)) hall.named
names_taken me number kept old new hall there changed (Segments segs) is fits =
    names_same number (out_slot me kept) me (Takes number kept) old new changed hall.segs (λ same. omega (arith, fits, same))
    (subst (λ (k : Kept). LeavesHands (Takes number k)) (sym is) (record { has = refl; none = refl })) (sym (ap naming_in there)) hall.named
names_taken me number kept old new hall there changed (Names names) is fits =
    names_out me names hall.segs old new (ap (slot_at old) (sym fits) ∙ there ∙ ap (λ (k : Kept). Some (home_slot k)) is)
    (ap (slot_at new) (sym fits) ∙ now_here number (out_slot me kept) me (Takes number kept) old new changed
    ∙ ap (λ (k : Kept). Some (out_slot me k)) is)
    number (changed.mail ∙ ap (λ (k : Kept). old.mail ++ (me, Takes number k) ∷ []) is) hall.named

-- a hall of which a value was taken is one
pub hall_taken : (me number : ℕ) (kept : Kept) (old new : HallView) → IsHall old → slot_at old number ≡ Some (home_slot kept)
    → IsChanged number (out_slot me kept) me (Takes number kept) old new → IsHall new
hall_taken me number kept old new hall there changed =
    let slot : SlotView = out_slot me kept in
    let step : MailStep = Takes number kept in
    hall_changed number slot me step old new changed hall.segs hall (hall.fits number (home_slot kept) there)
    (record { untold = λ home. refl; pairs = hall.pairs number (home_slot kept) there })
    (same_segs number slot me step old new changed hall (ap segs_in (sym there)) (λ who ask is held.
    ⊎_elim
    (λ (same : ask.heap ≡ number).
    absurd (home_unheld who kept (slot_at old number) there (ap (λ (n : ℕ). is_held_by who (slot_at old n)) (sym same) ∙ held)))
    (λ (apart : ask.heap ≢ number). inr (ap (is_held_by who) (now_elsewhere number slot me step old new changed ask.heap apart) ∙ held))
    (cases_eq ask.heap number)))
    (names_taken me number kept old new hall there changed kept refl (hall.fits number (home_slot kept) there))
    (chunks_still number slot old new hall.segs (now_here number slot me step old new changed) (now_elsewhere number slot me step old new changed)
    (ap chunks_in (sym there)) (λ who held. absurd (home_unheld who kept (slot_at old number) there held))
    (λ who has. absurd (false≢true (sym (home_unhanded who (slot_at old number) (subst IsHome (sym there) refl)) ∙ has))) hall.chunks)
    (λ heap same. absurd (out_not_home me kept (Heap heap.heap heap.pen) same)) (λ k heap apart home. hall.home k heap home)

-- a hall in which a holder has published a pair is one
pub hall_told : (me : ℕ) (note : Note) (number : ℕ) (pair : StatPair) (before : SlotView) (old new : HallView) → IsHall old
    → slot_at old number ≡ Some before → IsHeap before.kept → IsSome before.holder → IsChanged number (telling_slot pair before) me (Notes note) old new → IsHall new
hall_told me note number pair before old new hall there heap out changed =
    let slot : SlotView = telling_slot pair before in
    let step : MailStep = Notes note in
    hall_changed number slot me step old new changed hall.segs hall (hall.fits number before there)
    (record { untold = λ home. absurd (not_both before.holder out home); pairs = hall.pairs number before there })
    (same_segs number slot me step old new changed hall (ap segs_in (sym there)) (λ who ask is held.
    inr (read_alike (is_held_by who) number slot old new (now_here number slot me step old new changed)
    (now_elsewhere number slot me step old new changed)
    (ap (is_held_by who) (sym there)) ask.heap ∙ held)))
    (names_same number slot me step old new changed hall.segs
    (λ same. omega (arith, heap_below before.kept (hall.fits number before there) heap, same)) (record { has = refl; none = refl })
    (sym (ap naming_in there)) hall.named)
    (chunks_still number slot old new hall.segs (now_here number slot me step old new changed) (now_elsewhere number slot me step old new changed)
    (ap chunks_in (sym there)) (λ who held. sym (ap (is_held_by who) there) ∙ held) (λ who has. sym (ap (has_names_by who) there) ∙ has) hall.chunks)
    (λ heap same. absurd (not_both before.holder out (ap (λ (s : SlotView). s.holder) same)))
    (λ k heap apart home. hall.home k heap home)
  where
    not_both : (holder : Option ℕ) → IsSome holder → holder ≡ None → ⊥
    not_both None out home = absurd (false≢true out)
    not_both (Some who) out home = cc

    heap_below : (kept : Kept) → Fits number kept → IsHeap kept → number < MAX_HEAPS
    heap_below (Heap heap pen) fits is = fits.1
    heap_below (Segments segs) fits is = absurd is
    heap_below (Names names) fits is = absurd is
