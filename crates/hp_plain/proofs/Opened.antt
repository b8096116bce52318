-- The slots of a hall as it opens and as it ends.
use Rattle.std.proofs.Common.{◌≡◌, ℕ, zero, suc, ◌+◌, ◌<◌, ◌⊎◌, Bool, false, List, [], ◌∷◌, length, map, Option, Some, None, refl, sym, ap, subst, ◌∙◌, inl, inr, ⊎_elim, arith, length-append, if◌then◌else◌}
use Rattle.std.specs.Option.{option_map, option_map_or}
use Rattle.std.specs.Prelude.{Contains, replicate, unwrap_or}
use Rattle.std.specs.List.{slice_get, slice_index_or}
use Rattle.std.proofs.lemmas.List.{get_or-replicate, length-map, length-replicate}
use Rattle.std.proofs.lemmas.Option.{same_Some, slice_get-map, slice_get_within}
use Rattle.hp_base.specs.declared.limits.TheConstants.{MAX_HEAPS}
use Rattle.hp_frame.specs.declared.frame.Frame.{Frame}
use Rattle.hp_hall.specs.AgreedNames.{AreAgreedNames, AreClaimedOr}
use Rattle.hp_hall.specs.Mail.{MailStep, steps_of}
use Rattle.hp_hall.specs.Naming.{Naming, naming_of}
use Rattle.hp_hall.specs.Telling.{has_names}
use Rattle.hp_hall.proofs.AgreedAlike.{agree_alike}
use Rattle.hp_heap.specs.PlainHeap.{opening_heap}
use Rattle.hp_heap.specs.History.{HeapView, entries_of}
use Rattle.hp_segs.specs.SegsView.{SegsView, granted_by}
use Rattle.hp_hall.specs.declared.kept.Kept.TheVariants.{Names, Segments}
use Rattle.hp_hall.specs.declared.slot.TheConstants.{NAMES_SLOT, SLOTS}
use Rattle.hp_hall.specs.Views.{HeldHeap}
use Rattle.hp_plain.specs.HallSteps.{heap_slot, home_slot, opening_hall, slots_of}
use Rattle.hp_plain.specs.HallView.{AreNamed, HallView, IsHome, IsWithNames, SlotView, chunks_in, has_names_by, history_in, is_held_by, is_held_heap, log_in, names_of_slot, naming_at, naming_in, part_in, segs_in, slot_at}
use Rattle.hp_hall.specs.Holding.{HasHolding}
use Rattle.hp_hall.specs.Own.{Own, after_ack}
use Rattle.hp_segs.specs.PendingRuns.{ArePending}
use Rattle.hp_segs.specs.Standing.{standing_of}
use Rattle.hp_segs.specs.declared.outcome.AskLog.{AskLog}
use Rattle.atomic_table.specs.Seated.{TableId}
use Rattle.hp_stats.specs.StatViews.{PenView, new_pen}
use Rattle.hp_stats.specs.declared.stat_pair.StatPair.{StatPair}
use Rattle.hp_zone.specs.declared.names.Names.{Names as NamesView}
use Rattle.hp_hall.specs.TakenIn.{IsOwnOf}
use Rattle.hp_plain.specs.Opening.{AreHome, AreInOrder, AreUnpublished, AreUnused, MayOpenWith, heaps_in, namings_of}
use Rattle.hp_plain.specs.Publishing.{AreFirstPens}
use Rattle.hp_hall.specs.Values.{Fits, HasPairs, history_of}
use Rattle.hp_hall.proofs.Gives.{has_nothing}
use Rattle.hp_plain.proofs.ChunksKept.{agreed_slot}
use Rattle.hp_plain.proofs.Slotted.{heap_same, names_not_heap, segs_not_heap, unheld_heap}

-- a heap at its number
abbrev IsHeapOf : List HeldHeap → ℕ → SlotView → Type 0
IsHeapOf heaps number slot = (one : HeldHeap) × (slice_get heaps number ≡ Some one) × (slot ≡ heap_slot one)

entries_of-nil : (who : ℕ) → entries_of who [] ≡ []
unfolding entries_of
entries_of-nil who = refl

module _ (segs : SegsView) (names : NamesView) where
  -- which slot a number has
  abbrev IsOpened : List HeldHeap → ℕ → SlotView → Type 0
  IsOpened heaps number slot = IsHeapOf heaps number slot ⊎ (((number ≡ length heaps) × (slot ≡ home_slot (Segments segs)))
      ⊎ ((number ≡ length heaps + 1) × (slot ≡ home_slot (Names names))))

  opened_at : (heaps : List HeldHeap) (number : ℕ) (slot : SlotView) → slice_get (slots_of heaps segs names) number ≡ Some slot
      → IsOpened heaps number slot
  opened_at [] zero slot there = inr (inl (refl, cc))
  opened_at [] (suc zero) slot there = inr (inr (refl, cc))
  opened_at [] (suc (suc number)) slot there = cc
  opened_at (heap ∷ heaps) zero slot there = inl (heap, refl, cc)
  opened_at (heap ∷ heaps) (suc number) slot there =
      ⊎_elim (λ (at : IsHeapOf heaps number slot). inl (at.0, at.1, at.2))
      (λ rest.
      ⊎_elim (λ (at : (number ≡ length heaps) × (slot ≡ home_slot (Segments segs))). inr (inl (ap suc at.0, at.1)))
      (λ (at : (number ≡ length heaps + 1) × (slot ≡ home_slot (Names names))). inr (inr (omega (arith, at.0), at.1))) rest)
      (opened_at heaps number slot there)

  pub opened_length : (heaps : List HeldHeap) → length heaps ≡ MAX_HEAPS → length (slots_of heaps segs names) ≡ SLOTS
  opened_length heaps count =
      omega (
        arith,
        count,
        length-append (map heap_slot heaps) (home_slot (Segments segs) ∷ home_slot (Names names) ∷ []),
        length-map heaps heap_slot,
      )

  -- what holds of each value holds of each slot
  each_opened : (P : ℕ → SlotView → Type 0) (heaps : List HeldHeap)
      → ((number : ℕ) (one : HeldHeap) → slice_get heaps number ≡ Some one → P number (heap_slot one))
      → P (length heaps) (home_slot (Segments segs)) → P (length heaps + 1) (home_slot (Names names)) → (number : ℕ) (slot : SlotView)
      → slice_get (slots_of heaps segs names) number ≡ Some slot → P number slot
  each_opened P heaps each its their number slot there =
      ⊎_elim (λ (at : IsHeapOf heaps number slot). subst (P number) (sym at.2) (each number at.0 at.1))
      (λ rest.
      ⊎_elim
      (λ (at : (number ≡ length heaps) × (slot ≡ home_slot (Segments segs))).
      subst (P number) (sym at.1) (subst (λ (n : ℕ). P n (home_slot (Segments segs))) (sym at.0) its))
      (λ (at : (number ≡ length heaps + 1) × (slot ≡ home_slot (Names names))).
      subst (P number) (sym at.1) (subst (λ (n : ℕ). P n (home_slot (Names names))) (sym at.0) their)) rest)
      (opened_at heaps number slot there)

  -- each value is there, and one of its slot
  pub opened_fits : (heaps : List HeldHeap) → AreInOrder (heaps_in heaps) → (number : ℕ) (slot : SlotView)
      → slice_get (slots_of heaps segs names) number ≡ Some slot → Fits number slot.kept
  opened_fits heaps order number slot there =
      let count : length heaps ≡ MAX_HEAPS = sym (length-map heaps (λ (one : HeldHeap). one.heap)) ∙ order.count in
      each_opened (λ number slot. Fits number slot.kept) heaps
      (λ number one at. (
        order.index number one.heap (slice_get-map (λ (one : HeldHeap). one.heap) heaps number ∙ ap (option_map (λ (one : HeldHeap). one.heap)) at),
        omega (arith, count, slice_get_within heaps number one at),
      ))
      count (omega (arith, count)) number slot there

  pub opened_untold : (heaps : List HeldHeap) (number : ℕ) (slot : SlotView) → slice_get (slots_of heaps segs names) number ≡ Some slot
      → slot.holder ≡ None → slot.told ≡ None
  opened_untold heaps =
      each_opened (λ number slot. slot.holder ≡ None → slot.told ≡ None) heaps (λ number one at home. refl) (λ home. refl) (λ home. refl)

  pub opened_pairs : (heaps : List HeldHeap) → AreUnpublished heaps → (number : ℕ) (slot : SlotView)
      → slice_get (slots_of heaps segs names) number ≡ Some slot → HasPairs slot.kept
  opened_pairs heaps unpublished =
      each_opened (λ number slot. HasPairs slot.kept) heaps
      (λ number one at p has. absurd (has_nothing p (subst (λ (l : List StatPair). Contains l p) (unpublished number one at) has))) tt tt

  no_history : (slot : Option SlotView) → ((there : SlotView) → slot ≡ Some there → history_of there.kept ≡ []) → history_in slot ≡ []
  no_history None none = refl
  no_history (Some slot) none = none slot refl

  pub opened_unused : (heaps : List HeldHeap) (participants : ℕ) → AreUnused (heaps_in heaps) → (who number : ℕ)
      → (part_in (opening_hall participants heaps segs names) who number).entries ≡ []
  opened_unused heaps participants unused who number =
      ap (entries_of who) (no_history (slice_get (slots_of heaps segs names) number)
      (each_opened (λ number slot. history_of slot.kept ≡ []) heaps
      (λ number one at.
      unused number one.heap (slice_get-map (λ (one : HeldHeap). one.heap) heaps number ∙ ap (option_map (λ (one : HeldHeap). one.heap)) at)) refl refl
      number))
      ∙ entries_of-nil who

  -- where the segment value stands
  pub opened_segs : (heaps : List HeldHeap) (number : ℕ) → length heaps ≡ number → segs_in (slice_get (slots_of heaps segs names) number) ≡ Some segs
  opened_segs [] zero count = refl
  opened_segs [] (suc number) count = cc
  opened_segs (heap ∷ heaps) zero count = cc
  opened_segs (heap ∷ heaps) (suc number) count = opened_segs heaps number (omega (arith, count))

  -- where the names stand
  opened_names : (heaps : List HeldHeap) (number : ℕ) → length heaps + 1 ≡ number
      → slice_get (slots_of heaps segs names) number ≡ Some (home_slot (Names names))
  opened_names [] zero count = absurd (omega (arith, count))
  opened_names [] (suc zero) count = refl
  opened_names [] (suc (suc number)) count = absurd (omega (arith, count))
  opened_names (heap ∷ heaps) zero count = absurd (omega (arith, count))
  opened_names (heap ∷ heaps) (suc number) count = opened_names heaps number (omega (arith, count))

  -- and what they speak of, of each heap
  opened_naming : (heaps : List HeldHeap) (number : ℕ) (other : Naming) → number < length heaps
      → unwrap_or (naming_in (slice_get (slots_of heaps segs names) number)) other
      ≡ option_map_or (λ (heap : HeapView). naming_of heap.plain) (slice_get (heaps_in heaps) number) other
  opened_naming [] number other below = absurd (omega arith)
  opened_naming (heap ∷ heaps) zero other below = refl
  opened_naming (heap ∷ heaps) (suc number) other below = opened_naming heaps number other (omega arith)

  -- the names of a hall that opens are at home, and agree with what stands
  pub opened_named : (heaps : List HeldHeap) → length heaps ≡ MAX_HEAPS → MayOpenWith (heaps_in heaps) segs names → (hall : HallView)
      → hall.slots ≡ slots_of heaps segs names → hall.mail ≡ [] → AreNamed hall segs
  opened_named heaps count opens hall slots mail =
      let at : slot_at hall NAMES_SLOT ≡ Some (home_slot (Names names)) =
      ap (λ (l : List SlotView). slice_get l NAMES_SLOT) slots ∙ opened_names heaps NAMES_SLOT (omega (arith, count)) in
      record {
        names = names;
        there = ap names_of_slot at;
        agrees = λ home.
            agree_alike names (namings_of (heaps_in heaps)) (naming_at hall) segs.ranges
            (λ index below.
            ap (λ (l : List SlotView). unwrap_or (naming_in (slice_get l index)) (naming_of (opening_heap index None))) slots
            ∙ opened_naming heaps index (naming_of (opening_heap index None)) (omega (arith, below, count)))
            opens.agrees;
        holder = λ who. ap (λ (l : List (ℕ × MailStep)). has_names (steps_of who l)) mail ∙ sym (ap (has_names_by who) at);
      }

  -- with the names at home the memory of all chunks is claimed
  opened_there : (heaps : List HeldHeap) (number : ℕ) (other : Naming) → number < length heaps
      → naming_in (slice_get (slots_of heaps segs names) number) ≡ Some (unwrap_or (naming_in (slice_get (slots_of heaps segs names) number)) other)
  opened_there [] number other below = absurd (omega arith)
  opened_there (heap ∷ heaps) zero other below = refl
  opened_there (heap ∷ heaps) (suc number) other below = opened_there heaps number other (omega arith)

  pub opened_chunks : (heaps : List HeldHeap) → length heaps ≡ MAX_HEAPS → MayOpenWith (heaps_in heaps) segs names → (slots : List SlotView)
      → slots ≡ slots_of heaps segs names → (heap : ℕ) → heap < MAX_HEAPS
      → AreClaimedOr (IsWithNames (slice_get slots heap) (slice_get slots NAMES_SLOT)) segs.ranges (chunks_in (slice_get slots heap))
  opened_chunks heaps count opens slots is heap below =
      let other : ℕ → Naming = λ index. naming_of (opening_heap index None) in
      let namings : ℕ → Naming = λ index. unwrap_or (naming_in (slice_get slots index)) (other index) in
      let agreed : AreAgreedNames names namings segs.ranges =
      agree_alike names (namings_of (heaps_in heaps)) namings segs.ranges
      (λ index low.
      ap (λ (l : List SlotView). unwrap_or (naming_in (slice_get l index)) (other index)) is
      ∙ opened_naming heaps index (other index) (omega (arith, low, count)))
      opens.agrees in
      agreed_slot (IsWithNames (slice_get slots heap) (slice_get slots NAMES_SLOT)) names namings segs.ranges agreed heap (slice_get slots heap) below
      (subst (λ (l : List SlotView). naming_in (slice_get l heap) ≡ Some (unwrap_or (naming_in (slice_get l heap)) (other heap))) (sym is)
      (opened_there heaps heap (other heap) (omega (arith, below, count))))

  -- and its log, which everybody sees
  pub opened_log : (heaps : List HeldHeap) (number : ℕ) → length heaps ≡ number → log_in (slice_get (slots_of heaps segs names) number) ≡ segs.log
  opened_log [] zero count = refl
  opened_log [] (suc number) count = cc
  opened_log (heap ∷ heaps) zero count = cc
  opened_log (heap ∷ heaps) (suc number) count = opened_log heaps number (omega (arith, count))

  -- each heap of a hall that opens has what the segment value has for it
  pub opened_holds : (heaps : List HeldHeap) → MayOpenWith (heaps_in heaps) segs names → (number : ℕ) (heap : HeldHeap)
      → slice_get (slots_of heaps segs names) number ≡ Some (heap_slot heap) → HasHolding heap.heap (standing_of number segs)
  opened_holds heaps opens number heap there =
      each_opened (λ number slot. (h : HeldHeap) → slot ≡ heap_slot h → HasHolding h.heap (standing_of number segs)) heaps
      (λ number one at h same.
      subst (λ (h : HeldHeap). HasHolding h.heap (standing_of number segs)) (heap_same one h same)
      (opens.held number one.heap
      (slice_get-map (λ (one : HeldHeap). one.heap) heaps number ∙ ap (option_map (λ (one : HeldHeap). one.heap)) at)))
      (λ h same. absurd (segs_not_heap h segs (sym same))) (λ h same. absurd (names_not_heap h names (sym same)))
      number (heap_slot heap) there heap refl

  -- nobody holds a heap of a hall that opens
  unheld : (who : ℕ) (slot : Option SlotView) → ((there : SlotView) → slot ≡ Some there → there.holder ≡ None) → is_held_by who slot ≡ false
  unheld who None none = refl
  unheld who (Some slot) none = ap (is_held_heap who slot.kept) (none slot refl) ∙ unheld_heap who slot.kept

  pub opened_unheld : (heaps : List HeldHeap) (participants who number : ℕ)
      → (part_in (opening_hall participants heaps segs names) who number).holding ≡ None
  opened_unheld heaps participants who number =
      ap (λ (held : Bool). if held then option_map (standing_of number) (segs_in (slice_get (slots_of heaps segs names) MAX_HEAPS)) else None)
      (unheld who (slice_get (slots_of heaps segs names) number)
      (each_opened (λ number slot. slot.holder ≡ None) heaps (λ number one at. refl) refl refl number))

  home_in : (heaps : List HeldHeap) (number : ℕ) → number < length heaps + 2 → IsHome (slice_get (slots_of heaps segs names) number)
  home_in [] zero below = refl
  home_in [] (suc zero) below = refl
  home_in [] (suc (suc number)) below = absurd (omega arith)
  home_in (heap ∷ heaps) zero below = refl
  home_in (heap ∷ heaps) (suc number) below = home_in heaps number (omega arith)

  -- every value of a hall that opens is there
  pub opened_home : (participants : ℕ) (heaps : List HeldHeap) → length heaps ≡ MAX_HEAPS → AreHome (opening_hall participants heaps segs names)
  opened_home participants heaps count number below = home_in heaps number (omega (arith, count, below))

-- the pens of new cells are the first pens
pub first_pens : (cells : List TableId) (pens : List PenView) → length cells ≡ MAX_HEAPS → pens ≡ map new_pen cells → AreFirstPens pens
first_pens cells pens count are = record {
  count = ap length are ∙ length-map cells new_pen ∙ count;
  unpublished = λ number pen at. new_unpublished (slice_get cells number) pen (sym (slice_get-map new_pen cells number)
      ∙ ap (λ (l : List PenView). slice_get l number) (sym are) ∙ at);
}
  where
    new_unpublished : (cell : Option TableId) (pen : PenView) → option_map new_pen cell ≡ Some pen → pen.published ≡ []
    new_unpublished None pen is = cc
    new_unpublished (Some cell) pen is = ap (λ (p : PenView). p.published) (sym (same_Some (new_pen cell) pen is))

-- heaps of which each has one of these pens were published by none
pub first_unpublished : (held : List HeldHeap) (pens : List PenView) → map (λ (one : HeldHeap). one.pen) held ≡ pens → AreFirstPens pens
    → AreUnpublished held
first_unpublished held pens are first number one at =
    first.unpublished number one.pen (ap (λ (l : List PenView). slice_get l number) (sym are)
    ∙ slice_get-map (λ (one : HeldHeap). one.pen) held number ∙ ap (option_map (λ (one : HeldHeap). one.pen)) at)

-- where nothing was granted, nothing is pending, and all members have taken in what was
pub none_granted : (heaps : List HeapView) (segs : SegsView) (names : NamesView) → MayOpenWith heaps segs names → (entry : AskLog) (generation : ℕ)
    → Contains segs.asks entry → granted_by entry.outcome ≡ Some generation → ⊥
none_granted heaps segs names opens entry generation has granted =
    let wrong : None ≡ Some generation = sym (opens.ungranted entry has) ∙ granted in
    cc

pub none_pending : (heaps : List HeapView) (segs : SegsView) (names : NamesView) → MayOpenWith heaps segs names → ArePending segs
none_pending heaps segs names opens = record {
  of_armed = λ entry ask generation pending. absurd (none_granted heaps segs names opens entry generation pending.logged pending.granted);
  alone = λ entry ask generation growth pending. absurd (none_granted heaps segs names opens entry generation pending.logged pending.granted);
  last = λ entry other ask asked generation number pending. absurd (none_granted heaps segs names opens entry generation pending.logged pending.granted);
}

-- nobody has acknowledged a record
pub opened_own : (participants who records : ℕ) (owns : List Own) → owns ≡ replicate participants (after_ack 0) → who < length owns
    → IsOwnOf records (slice_index_or owns who (after_ack 0))
opened_own participants who records owns are below =
    let own : slice_index_or owns who (after_ack 0) ≡ after_ack 0 =
    ap (λ (l : List Own). slice_index_or l who (after_ack 0)) are
    ∙ get_or-replicate participants who (after_ack 0) (after_ack 0)
    (omega (arith, below, ap length are ∙ length-replicate participants (after_ack 0))) in
    subst (IsOwnOf records) (sym own) (record { behind = omega arith; within = omega arith })

-- a hall with these slots, empty mailboxes, first parts and lines, in which nothing was done, is one that opens
pub opening_is : (participants : ℕ) (heaps : List HeldHeap) (segs : SegsView) (names : NamesView) {slots : List SlotView} {boxes : List (List Frame)}
    {owns : List Own} {lines : List ℕ} {mail : List (ℕ × MailStep)} → slots ≡ slots_of heaps segs names → boxes ≡ replicate participants []
    → owns ≡ replicate participants (after_ack 0) → lines ≡ replicate participants 0 → mail ≡ []
    → ◌≡◌ {A = HallView} (record { slots = slots; boxes = boxes; owns = owns; lines = lines; clock = 0; full_mailboxes = 0; mail = mail })
    (opening_hall participants heaps segs names)
opening_is participants heaps segs names {slots} {boxes} {owns} {lines} {mail} slots_are boxes_are owns_are lines_are mail_is =
    let first : HallView = record { slots = slots; boxes = boxes; owns = owns; lines = lines; clock = 0; full_mailboxes = 0; mail = mail } in
    let opened : HallView = opening_hall participants heaps segs names in
    ap (λ (l : List SlotView). record first { slots = l }) slots_are
    ∙ ap (λ (l : List (List Frame)). record first { slots = opened.slots; boxes = l }) boxes_are
    ∙ ap (λ (l : List Own). record first { slots = opened.slots; boxes = opened.boxes; owns = l }) owns_are
    ∙ ap (λ (l : List ℕ). record opened { lines = l; mail = mail }) lines_are
    ∙ ap (λ (l : List (ℕ × MailStep)). record opened { mail = l }) mail_is
