-- What the trait says of a give, over what it leaves: the giver's part and the parts of the others.
use Rattle.std.proofs.Common.{◌≡◌, ◌≢◌, ℕ, Bool, true, false, List, [], Option, Some, None, refl, sym, ap, subst, ◌∙◌, arith, if◌then◌else◌}
use Rattle.std.specs.Option.{option_map}
use Rattle.std.proofs.lemmas.Option.{same_Some}
use Rattle.hp_base.specs.declared.chunk.Chunk.{Chunk}
use Rattle.hp_base.specs.declared.limits.TheConstants.{MAX_HEAPS}
use Rattle.hp_heap.specs.declared.entry.Entry.{Entry}
use Rattle.hp_heap.specs.History.{HeapView, entries_of}
use Rattle.hp_segs.specs.LaterSteps.{armed_ask}
use Rattle.hp_segs.specs.SegsView.{SegsView}
use Rattle.hp_segs.specs.Sound.{IsSound}
use Rattle.hp_segs.specs.declared.ask.Ask.{Ask}
use Rattle.hp_segs.specs.declared.external_range.ExternalRange.{ExternalRange}
use Rattle.hp_hall.specs.declared.kept.Kept.{Kept}
use Rattle.hp_hall.specs.declared.kept.Kept.TheVariants.{Heap, Names, Segments}
use Rattle.hp_hall.specs.Giving.{GivesFor, GivesHeld, GivesSegments}
use Rattle.hp_hall.specs.Views.{HeldHeap, held_of, segs_of}
use Rattle.hp_hall.specs.declared.slot.TheConstants.{NAMES_SLOT}
use Rattle.hp_zone.specs.declared.names.Names.{Names as NamesView}
use Rattle.hp_plain.specs.HallSteps.{heap_slot, home_slot}
use Rattle.hp_plain.specs.HallView.{HallView, IsHall, SlotView, has_names_by, history_in, is_held_by, is_held_heap, is_joined, joined_in, log_in, marks_in, naming_in, part_in, part_of, seen_in, segs_in, serves_in, serves_of, slot_at, told_in}
use Rattle.hp_hall.specs.Holding.{AgreeWith, HeapPart, IsGivenAs, IsHeldWith, IsPartUnnamed, part_after}
use Rattle.hp_segs.specs.Standing.{Holding, standing_of}
use Rattle.hp_hall.specs.Mail.{MailStep}
use Rattle.hp_hall.specs.Naming.{Naming, marked_by, naming_of}
use Rattle.hp_hall.specs.Values.{Fits, SeesAsBefore, history_of, joined_after, log_of, marks_of}
use Rattle.hp_hall.proofs.Formed.{asks_given, members_given, ranges_given, standing_given}
use Rattle.hp_plain.proofs.Given.{by_give, known, same_for_others, same_marks}
use Rattle.hp_plain.proofs.Held.{claims_if, held_apart, naming_if, part_by}
use Rattle.hp_plain.proofs.NamesKept.{agreeing_held, hands_once}
use Rattle.hp_plain.proofs.Slotted.{MovesSlot, read_alike}
use Rattle.hp_plain.proofs.Taking.{hands_apart, hands_still, part_apart, part_beside, parts_still, segs_still, slots_still}

-- who gives a heap with what it holds has it in hand
is_held : (heap : HeapView) (holding : Option Holding) (held : Bool) → IsHeldWith heap (if held then holding else None) → held ≡ true
is_held heap holding true is = refl
is_held heap holding false is = absurd is

-- who has the names in hand knows what they speak of, of a heap that it gives
naming_behind : (hands : Bool) (stood : Option Naming) (was given : Naming) → stood ≡ Some was
    → naming_if hands (Some given) ≡ option_map (λ (naming : Naming). given) (naming_if hands stood)
naming_behind true stood was given is = sym (ap (option_map (λ (naming : Naming). given)) is)
naming_behind false stood was given is = refl

-- and nobody else does
naming_beside : (hands : Bool) (stood : Option Naming) (was given : Naming) → stood ≡ Some was → (hands ≡ true → given ≡ was)
    → naming_if hands (Some given) ≡ naming_if hands stood
naming_beside true stood was given is same = ap (λ (n : Naming). Some n) (same refl) ∙ sym is
naming_beside false stood was given is same = refl

module _ (me number : ℕ) (before : SlotView) (step : MailStep) (old new : HallView) (hall : IsHall old) (there : slot_at old number ≡ Some before) where
  module _ (was kept : HeldHeap) (is : before.kept ≡ Heap was.heap was.pen) (fits : Fits number (Heap kept.heap kept.pen))
      (gives : GivesHeld (known old me) was kept) (moves : MovesSlot number (heap_slot kept) me step old new) where
    same_segs : segs_in (slot_at new MAX_HEAPS) ≡ segs_in (slot_at old MAX_HEAPS)
    same_segs = segs_still number (heap_slot kept) me step old new moves (sym (ap segs_in there ∙ ap segs_of is))

    same_hands : (who : ℕ) → has_names_by who (slot_at new NAMES_SLOT) ≡ has_names_by who (slot_at old NAMES_SLOT)
    same_hands who = hands_apart number (heap_slot kept) me step old new moves who (λ same. omega (arith, fits.1, same))

    -- what the names spoke of, of the heap
    naming_was : naming_in (Some before) ≡ Some (naming_of was.heap.plain)
    naming_was = ap (λ (k : Kept). option_map (λ (held : HeldHeap). naming_of held.heap.plain) (held_of k)) is

    heap_part : IsGivenAs me (Heap kept.heap kept.pen) (part_in old me) (part_in new me)
    heap_part =
        let index = kept.heap.plain.index in
        let hands : Bool = has_names_by me (slot_at old NAMES_SLOT) in
        let last : Option SegsView = segs_in (slot_at old MAX_HEAPS) in
        let at : slot_at new index ≡ Some (heap_slot kept) = ap (slot_at new) fits.0 ∙ moves.here in (
          ap (λ (b : Bool). part_of me index b (slot_at new index) (segs_in (slot_at new MAX_HEAPS))) (same_hands me)
              ∙ ap (λ (s : Option SlotView). part_of me index hands s (segs_in (slot_at new MAX_HEAPS))) at
              ∙ ap (part_of me index hands (Some (heap_slot kept))) same_segs
              ∙ ap (λ (serves : Option ℕ).
              part_by (naming_if hands (Some (naming_of kept.heap.plain))) (claims_if hands last) me index (entries_of me kept.heap.history)
              (marked_by me kept.heap.plain) serves None last false)
              (gives.heap.serves ∙ sym (ap (λ (n : ℕ). serves_in (slot_at old n)) fits.0 ∙ ap serves_in there ∙ ap serves_of is))
              ∙ ap (λ (naming : Option Naming).
              part_by naming (claims_if hands last) me index (entries_of me kept.heap.history) (marked_by me kept.heap.plain)
              (serves_in (slot_at old index)) None last false)
              (naming_behind hands (naming_in (slot_at old index)) (naming_of was.heap.plain) (naming_of kept.heap.plain)
              (ap (λ (n : ℕ). naming_in (slot_at old n)) fits.0 ∙ ap naming_in there ∙ naming_was)),
          λ other apart.
              part_apart number (heap_slot kept) me step old new moves me same_segs (same_hands me) other (λ same. apart (same ∙ sym fits.0)),
        )

    -- the slot's heap was held by the giver
    held_here : is_held_by me (Some before) ≡ true
    held_here =
        let index = kept.heap.plain.index in
        sym (ap (is_held_by me) (ap (slot_at old) fits.0 ∙ there))
        ∙ is_held kept.heap (option_map (standing_of index) (segs_in (slot_at old MAX_HEAPS))) (is_held_by me (slot_at old index)) gives.heap.held

    -- another that has the names in hand knows of the heap what it knew, since the giver has not
    naming_known : (who : ℕ) → who ≢ me → has_names_by who (slot_at old NAMES_SLOT) ≡ true → naming_of kept.heap.plain ≡ naming_of was.heap.plain
    naming_known who apart has =
        gives.heap.named (hall.named.holder me ∙ hands_once who me (slot_at old NAMES_SLOT) (λ same. apart (sym same)) has)

    heap_alike : (who heap : ℕ) (segs : Option SegsView) → who ≢ me
        → part_of who heap (has_names_by who (slot_at old NAMES_SLOT)) (Some (heap_slot kept)) segs
        ≡ part_of who heap (has_names_by who (slot_at old NAMES_SLOT)) (slot_at old number) segs
    heap_alike who heap segs apart =
        let hands : Bool = has_names_by who (slot_at old NAMES_SLOT) in
        let claims = claims_if hands segs in
        let given : Option Naming = naming_if hands (Some (naming_of kept.heap.plain)) in
        let entries : List Entry = entries_of who (history_of before.kept) in
        let marked : List Chunk = marks_of who before.kept in
        ap (λ (entries : List Entry). part_by given claims who heap entries (marked_by who kept.heap.plain) kept.heap.plain.serves before.told segs false)
        (same_for_others (known old me) (Heap was.heap was.pen) (Heap kept.heap kept.pen) who apart gives
        ∙ ap (λ (k : Kept). entries_of who (history_of k)) (sym is))
        ∙ ap (λ (marked : List Chunk). part_by given claims who heap entries marked kept.heap.plain.serves before.told segs false)
        (same_marks (known old me) (Heap was.heap was.pen) (Heap kept.heap kept.pen) who apart gives ∙ ap (marks_of who) (sym is))
        ∙ ap (λ (serves : Option ℕ). part_by given claims who heap entries marked serves before.told segs false)
        (gives.heap.serves ∙ sym (ap serves_of is))
        ∙ ap (part_by given claims who heap entries marked (serves_of before.kept) before.told segs) (sym (held_apart me who (Some before) apart held_here))
        ∙ ap (λ (naming : Option Naming).
        part_by naming claims who heap entries marked (serves_of before.kept) before.told segs (is_held_by who (Some before)))
        (naming_beside hands (naming_in (Some before)) (naming_of was.heap.plain) (naming_of kept.heap.plain) naming_was (naming_known who apart))
        ∙ ap (λ (s : Option SlotView). part_of who heap hands s segs) (sym there)

    heap_others : (who heap : ℕ) → who ≢ me → part_in new who heap ≡ part_in old who heap
    heap_others who heap apart =
        parts_still number (heap_slot kept) me step old new moves who same_segs (same_hands who) (λ heap segs. heap_alike who heap segs apart) heap

  module _ (was kept : SegsView) (is : before.kept ≡ Segments was) (fits : Fits number (Segments kept))
      (gives : GivesSegments (known old me) was kept) (moves : MovesSlot number (home_slot (Segments kept)) me step old new) where
    segs_were : segs_in (slot_at old MAX_HEAPS) ≡ Some was
    segs_were = ap (λ (n : ℕ). segs_in (slot_at old n)) (sym fits) ∙ ap segs_in there ∙ ap segs_of is

    segs_are : segs_in (slot_at new MAX_HEAPS) ≡ Some kept
    segs_are = ap (λ (n : ℕ). segs_in (slot_at new n)) (sym fits) ∙ ap segs_in moves.here

    -- the slots are as they were, as far as a part reads them
    alike : (who heap : ℕ) (hands : Bool) (segs : Option SegsView)
        → part_of who heap hands (Some (home_slot (Segments kept))) segs ≡ part_of who heap hands (Some before) segs
    alike who heap hands segs =
        sym (ap (λ (k : Kept).
        part_by (naming_if hands (option_map (λ (held : HeldHeap). naming_of held.heap.plain) (held_of k))) (claims_if hands segs) who heap
        (entries_of who (history_of k)) (marks_of who k) (serves_of k) before.told segs (is_held_heap who k before.holder)) is)

    segs_hands : (who : ℕ) → has_names_by who (slot_at new NAMES_SLOT) ≡ has_names_by who (slot_at old NAMES_SLOT)
    segs_hands who = hands_apart number (home_slot (Segments kept)) me step old new moves who (λ same. omega (arith, fits, same))

    part_now : (who heap : ℕ) → part_in new who heap ≡ part_of who heap (has_names_by who (slot_at old NAMES_SLOT)) (slot_at old heap) (Some kept)
    part_now who heap =
        let hands : Bool = has_names_by who (slot_at old NAMES_SLOT) in
        ap (λ (b : Bool). part_of who heap b (slot_at new heap) (segs_in (slot_at new MAX_HEAPS))) (segs_hands who)
        ∙ ap (part_of who heap hands (slot_at new heap)) segs_are
        ∙ read_alike (λ (s : Option SlotView). part_of who heap hands s (Some kept)) number (home_slot (Segments kept)) old new moves.here moves.elsewhere
        (alike who heap hands (Some kept) ∙ ap (λ (s : Option SlotView). part_of who heap hands s (Some kept)) (sym there)) heap

    -- a part over a segment value, by whether its participant has the names in hand, and the heap
    abbrev over : SegsView → ℕ → ℕ → Option SlotView → Bool → Bool → HeapPart
    over segs who heap slot hands held =
        part_by (naming_if hands (naming_in slot)) (claims_if hands (Some segs)) who heap (entries_of who (history_in slot)) (marks_in who slot)
        (serves_in slot) (told_in slot) (Some segs) held

    behind_by : (who heap : ℕ) (slot : Option SlotView) (hands held : Bool)
        → over kept who heap slot hands held ≡ part_after who kept heap (over was who heap slot hands held)
    behind_by who heap slot true true = refl
    behind_by who heap slot true false = refl
    behind_by who heap slot false true = refl
    behind_by who heap slot false false = refl

    segs_part : IsGivenAs me (Segments kept) (part_in old me) (part_in new me)
    segs_part heap =
        let hands : Bool = has_names_by me (slot_at old NAMES_SLOT) in
        part_now me heap ∙ behind_by me heap (slot_at old heap) hands (is_held_by me (slot_at old heap))
        ∙ ap (λ (s : Option SegsView). part_after me kept heap (part_of me heap hands (slot_at old heap) s)) (sym segs_were)

    -- what is known for the names stays where the external memory does
    claims_stay : (hands : Bool) → (hands ≡ true → kept.ranges ≡ was.ranges) → claims_if hands (Some kept) ≡ claims_if hands (Some was)
    claims_stay true same = ap (λ l. Some l) (same refl)
    claims_stay false same = refl

    -- what nobody but a holder knows stays
    stays_by : (who heap : ℕ) (slot : Option SlotView) (hands held : Bool) → armed_ask kept who ≡ armed_ask was who
        → (hands ≡ true → kept.ranges ≡ was.ranges) → (held ≡ true → standing_of heap kept ≡ standing_of heap was)
        → over kept who heap slot hands held ≡ over was who heap slot hands held
    stays_by who heap slot hands true armed ranges stays =
        ap (λ (holding : Holding). record (over kept who heap slot hands true) { holding = Some holding }) (stays refl)
        ∙ ap (λ (ask : Option Ask). record (over was who heap slot hands true) { armed = ask; claims = claims_if hands (Some kept) }) armed
        ∙ ap (λ (claims : Option (List ExternalRange)). record (over was who heap slot hands true) { claims = claims }) (claims_stay hands ranges)
    stays_by who heap slot hands false armed ranges stays =
        ap (λ (ask : Option Ask). record (over was who heap slot hands false) { armed = ask; claims = claims_if hands (Some kept) }) armed
        ∙ ap (λ (claims : Option (List ExternalRange)). record (over was who heap slot hands false) { claims = claims }) (claims_stay hands ranges)

    segs_others : (who heap : ℕ) → who ≢ me → part_in new who heap ≡ part_in old who heap
    segs_others who heap apart =
        let sound : IsSound was = subst IsSound (same_Some hall.segs was (sym hall.there ∙ segs_were)) hall.sound in
        let hands : Bool = has_names_by who (slot_at old NAMES_SLOT) in
        part_now who heap
        ∙ stays_by who heap (slot_at old heap) hands (is_held_by who (slot_at old heap)) (asks_given (known old me) was kept gives.form who apart)
        (λ has.
        ranges_given (known old me) was kept gives.form
        (hall.named.holder me ∙ hands_once who me (slot_at old NAMES_SLOT) (λ same. apart (sym same)) has))
        (λ held.
        standing_given (known old me) was kept sound gives.form heap
        (ap (λ (b : Bool). (part_by None None me heap [] [] None None (segs_in (slot_at old MAX_HEAPS)) b).holding)
        (held_apart who me (slot_at old heap) (λ same. apart (sym same)) held)))
        ∙ ap (part_of who heap hands (slot_at old heap)) (sym segs_were)

  module _ (was kept : NamesView) (is : before.kept ≡ Names was) (fits : Fits number (Names kept)) (agree : AgreeWith (part_in old me) kept)
      (moves : MovesSlot number (home_slot (Names kept)) me step old new) where
    names_segs : segs_in (slot_at new MAX_HEAPS) ≡ segs_in (slot_at old MAX_HEAPS)
    names_segs = segs_still number (home_slot (Names kept)) me step old new moves (sym (ap segs_in there ∙ ap segs_of is))

    names_alike : (who : ℕ) (hands : Bool) (heap : ℕ) (segs : Option SegsView)
        → part_of who heap hands (Some (home_slot (Names kept))) segs ≡ part_of who heap hands (slot_at old number) segs
    names_alike who hands heap segs =
        sym (ap (λ (s : Option SlotView). part_of who heap hands s segs) there
        ∙ ap (λ (k : Kept).
        part_by (naming_if hands (option_map (λ (held : HeldHeap). naming_of held.heap.plain) (held_of k))) (claims_if hands segs) who heap
        (entries_of who (history_of k)) (marks_of who k) (serves_of k) before.told segs (is_held_heap who k before.holder)) is)

    -- the giver had the names in hand, and nobody else
    gave_hands : (who : ℕ) → who ≢ me → has_names_by who (slot_at new NAMES_SLOT) ≡ has_names_by who (slot_at old NAMES_SLOT)
    gave_hands who apart =
        hands_still number (home_slot (Names kept)) me step old new moves who
        (sym (ap (λ (n : ℕ). has_names_by who (slot_at old n)) fits
        ∙ hands_once me who (slot_at old NAMES_SLOT) apart (agreeing_held old me hall.segs kept hall.there agree)))

    -- the parts of the others are as they were
    names_others : (who heap : ℕ) → who ≢ me → part_in new who heap ≡ part_in old who heap
    names_others who heap apart =
        parts_still number (home_slot (Names kept)) me step old new moves who names_segs (gave_hands who apart)
        (names_alike who (has_names_by who (slot_at old NAMES_SLOT))) heap

    -- and the giver's but for what it knew for the names
    names_part : (heap : ℕ) → IsPartUnnamed (part_in old me heap) (part_in new me heap)
    names_part heap =
        let none : has_names_by me (slot_at new NAMES_SLOT) ≡ false =
        ap (λ (n : ℕ). has_names_by me (slot_at new n)) (sym fits) ∙ ap (has_names_by me) moves.here in
        record {
          beside = part_beside me heap old new
              (slots_still number (home_slot (Names kept)) me step old new moves me names_segs false (names_alike me false) heap);
          naming = ap (λ (b : Bool). naming_if b (naming_in (slot_at new heap))) none;
          claims = ap (λ (b : Bool). claims_if b (segs_in (slot_at new MAX_HEAPS))) none;
        }

  module _ (kept : Kept) (fits : Fits number kept) (moves : MovesSlot number (home_slot kept) me step old new)
      (gives : GivesFor (known old me) (Some before.kept) kept) where
    -- what a give makes of parts and of the roster, as far as participants know it, and leaves of the log that they have seen
    record IsGiven (value : Kept) : Type 0 where
      part : IsGivenAs me value (part_in old me) (part_in new me)
      others : (who heap : ℕ) → who ≢ me → part_in new who heap ≡ part_in old who heap
      joined : joined_in new me ≡ joined_after me value (joined_in old me)
      apart : (who : ℕ) → who ≢ me → joined_in new who ≡ joined_in old who
      sees : SeesAsBefore value (seen_in old) (seen_in new)

    -- what is no segment value leaves the log
    log_still : (was : Kept) → was ≡ before.kept → log_of was ≡ [] → log_of kept ≡ [] → seen_in new ≡ seen_in old
    log_still was is none still =
        read_alike log_in number (home_slot kept) old new moves.here moves.elsewhere
        (still ∙ sym (ap log_in there ∙ ap log_of (sym is) ∙ none)) MAX_HEAPS

    heap_given : (was value : HeldHeap) → Heap was.heap was.pen ≡ before.kept → kept ≡ Heap value.heap value.pen
        → GivesHeld (known old me) was value → IsGiven (Heap value.heap value.pen)
    heap_given was value is same gives =
        let fit = subst (Fits number) same fits in
        let move = subst (λ (k : Kept). MovesSlot number (home_slot k) me step old new) same moves in
        let segs = same_segs was value (sym is) fit gives move in
        record {
          part = heap_part was value (sym is) fit gives move;
          others = heap_others was value (sym is) fit gives move;
          joined = ap (is_joined me) segs;
          apart = λ who apart. ap (is_joined who) segs;
          sees = log_still (Heap was.heap was.pen) is refl (ap log_of same);
        }

    segs_given : (was value : SegsView) → Segments was ≡ before.kept → kept ≡ Segments value → GivesSegments (known old me) was value
        → IsGiven (Segments value)
    segs_given was value is same gives =
        let fit = subst (Fits number) same fits in
        let move = subst (λ (k : Kept). MovesSlot number (home_slot k) me step old new) same moves in
        let now = segs_are was value (sym is) fit gives move in
        let early = segs_were was value (sym is) fit gives move in
        record {
          part = segs_part was value (sym is) fit gives move;
          others = segs_others was value (sym is) fit gives move;
          joined = ap (is_joined me) now;
          apart = λ who apart.
              ap (is_joined who) now ∙ members_given (known old me) was value gives.form who apart ∙ sym (ap (is_joined who) early);
          sees = tt;
        }

    names_given : (was value : NamesView) → Names was ≡ before.kept → kept ≡ Names value → AgreeWith (part_in old me) value → IsGiven (Names value)
    names_given was value is same agree =
        let fit = subst (Fits number) same fits in
        let move = subst (λ (k : Kept). MovesSlot number (home_slot k) me step old new) same moves in
        let segs = names_segs was value (sym is) fit agree move in
        record {
          part = names_part was value (sym is) fit agree move;
          others = names_others was value (sym is) fit agree move;
          joined = ap (is_joined me) segs;
          apart = λ who apart. ap (is_joined who) segs;
          sees = log_still (Names was) is refl (ap log_of same);
        }

    is_given : IsGiven kept
    is_given =
        by_give (known old me) (λ was value. was ≡ before.kept → kept ≡ value → IsGiven value)
        (λ was value gives is same. heap_given was value is same gives) (λ was value gives is same. segs_given was value is same gives)
        (λ was value gives is same. names_given was value is same gives.agrees) before.kept kept gives refl refl

    pub part_given : IsGivenAs me kept (part_in old me) (part_in new me)
    part_given = is_given.part

    pub others_given : (who heap : ℕ) → who ≢ me → part_in new who heap ≡ part_in old who heap
    others_given = is_given.others

    -- the giver is in the roster as the value says, and the others as they were
    pub joined_given : joined_in new me ≡ joined_after me kept (joined_in old me)
    joined_given = is_given.joined

    pub others_joined : (who : ℕ) → who ≢ me → joined_in new who ≡ joined_in old who
    others_joined = is_given.apart

    -- what was seen of the log stays where no segment value is given
    pub sees_given : SeesAsBefore kept (seen_in old) (seen_in new)
    sees_given = is_given.sees
