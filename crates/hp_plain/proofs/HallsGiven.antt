-- A hall to which a value was given back is one.
use Rattle.std.proofs.Common.{◌≡◌, ◌≢◌, ℕ, Bool, true, false, List, [], length, Option, Some, None, inl, inr, refl, sym, ap, subst, ◌∙◌, ⊎_elim, arith, length-append, if◌then◌else◌}
use Rattle.std.specs.Prelude.{unwrap_or}
use Rattle.std.specs.Option.{option_map}
use Rattle.std.proofs.lemmas.Bool.{cases_eq, false≢true}
use Rattle.std.proofs.lemmas.List.{append-nil}
use Rattle.std.proofs.lemmas.Option.{same_Some}
use Rattle.hp_base.specs.declared.limits.TheConstants.{MAX_HEAPS}
use Rattle.hp_heap.specs.History.{HeapView}
use Rattle.hp_heap.specs.PlainHeap.{opening_heap}
use Rattle.hp_segs.specs.LaterSteps.{armed_ask}
use Rattle.hp_segs.specs.PendingRuns.{ArePending}
use Rattle.hp_segs.specs.SegsView.{SegsView}
use Rattle.hp_segs.specs.SettledAsks.{IsSettled}
use Rattle.hp_segs.specs.Sound.{IsSound}
use Rattle.hp_segs.specs.Standing.{Holding, IsArmed, standing_of}
use Rattle.hp_segs.specs.declared.ask.Ask.{Ask}
use Rattle.hp_segs.specs.declared.outcome.AskLog.{AskLog}
use Rattle.hp_hall.specs.AgreedNames.{AreClaimedOr}
use Rattle.hp_hall.specs.AskLaws.{LeavesSettled}
use Rattle.hp_hall.specs.Asks.{IsKnownSettled}
use Rattle.hp_hall.specs.declared.kept.Kept.{Kept}
use Rattle.hp_hall.specs.declared.kept.Kept.TheVariants.{Heap, Names, Segments}
use Rattle.hp_hall.specs.Giving.{GivesFor, GivesHeld, GivesSegments}
use Rattle.hp_hall.specs.Mail.{MailStep, Gives}
use Rattle.hp_hall.specs.Naming.{Naming, naming_of}
use Rattle.hp_hall.specs.Views.{HeldHeap, held_of, segs_of}
use Rattle.hp_hall.specs.declared.slot.TheConstants.{NAMES_SLOT}
use Rattle.hp_zone.specs.declared.names.Names.{Names as NamesView}
use Rattle.hp_hall.specs.Holding.{AgreeWith, HasHolding, HeapPart, IsHeldWith}
use Rattle.hp_hall.specs.Own.{Own}
use Rattle.hp_hall.specs.Values.{Fits, IsSoundKept, chunks_of}
use Rattle.hp_hall.proofs.ClaimedChunks.{claimed_alike}
use Rattle.hp_hall.proofs.Formed.{armed_given, ranges_given, standing_given}
use Rattle.hp_hall.proofs.AsksOfHalls.GivenAsks.{ArmsForHeld, armed_by_give, pending_given, settled_given}
use Rattle.hp_hall.proofs.AsksOfHalls.KnownAsks.{known_is_settled}
use Rattle.hp_plain.specs.HallSteps.{heap_slot, home_slot}
use Rattle.hp_plain.specs.HallView.{AreChunksClaimed, AreNamed, HallView, IsAskHeld, IsHall, IsWithNames, SlotView, chunks_in, has_names_by, heard_in, is_held_by, is_held_heap, naming_at, naming_in, part_in, part_of, segs_in, slot_at}
use Rattle.hp_hall.specs.TakenIn.{AreTakenIn, IsOwnOf}
use Rattle.hp_plain.proofs.Agreeing.{taken_in_by}
use Rattle.hp_plain.proofs.ChunksKept.{AreClaimedIn, agreed_slot, chunks_by_form, chunks_given}
use Rattle.hp_plain.proofs.Given.{by_give, known}
use Rattle.hp_plain.proofs.Held.{asks_there, claims_if, held_holding, held_once, holding_held, segs_unheld}
use Rattle.hp_plain.proofs.NamesKept.{agreed_by, agreeing_held, hands_as_before, home_unhanded, names_beside, names_home, naming_alike, naming_there}
use Rattle.hp_plain.proofs.Slotted.{heap_same, names_not_heap, read_alike, segs_not_heap, unheld_heap}
use Rattle.hp_plain.proofs.Halls.{IsChanged, IsHallSegs, hall_changed, now_elsewhere, now_here, owns_still, same_segs}

-- a heap that was held has what its holding names
held_home : (heap : HeapView) (number : ℕ) (held : Bool) (segs : SegsView)
    → IsHeldWith heap (if held then option_map (standing_of number) (Some segs) else None) → HasHolding heap (standing_of number segs)
held_home heap number true segs is = is
held_home heap number false segs is = absurd is

-- who gives a heap with what it holds has it in hand
given_held : (heap : HeapView) (holding : Option Holding) (held : Bool) → IsHeldWith heap (if held then holding else None) → held ≡ true
given_held heap holding true is = refl
given_held heap holding false is = absurd is

-- nobody holds a heap at home
pub unheld_at_home : (hall : HallView) (who number : ℕ) (kept : Kept) → slot_at hall number ≡ Some (home_slot kept)
    → (part_in hall who number).holding ≡ None
unheld_at_home hall who number kept there =
    let segs : Option SegsView = segs_in (slot_at hall MAX_HEAPS) in
    ap (λ (s : Option SlotView). (part_of who number false s segs).holding) there
    ∙ ap (λ (held : Bool). if held then option_map (standing_of number) segs else None) (unheld_heap who kept)

module _ (me number : ℕ) (old new : HallView) (hall : IsHall old) where
  -- a heap that comes in
  module _ (before : SlotView) (was kept : HeldHeap) (is : before.kept ≡ Heap was.heap was.pen) (there : slot_at old number ≡ Some before)
      (fits : Fits number (Heap kept.heap kept.pen)) (gives : GivesHeld (known old me) was kept) where
    held_here : is_held_by me (slot_at old number) ≡ true
    held_here =
        let index = kept.heap.plain.index in
        ap (λ (n : ℕ). is_held_by me (slot_at old n)) (sym fits.0)
        ∙ given_held kept.heap (option_map (standing_of index) (segs_in (slot_at old MAX_HEAPS))) (is_held_by me (slot_at old index))
        gives.heap.held

    has_held : HasHolding kept.heap (standing_of number hall.segs)
    has_held =
        let index = kept.heap.plain.index in
        let held =
        subst (λ (s : Option SegsView). IsHeldWith kept.heap (part_of me index false (slot_at old index) s).holding) hall.there gives.heap.held in
        subst (λ (n : ℕ). HasHolding kept.heap (standing_of n hall.segs)) fits.0
        (held_home kept.heap index (is_held_by me (slot_at old index)) hall.segs held)

    -- the giver's ask for it is settled
    settled_here : (ask : Ask) → armed_ask hall.segs me ≡ Some ask → ask.heap ≡ number → IsSettled ask.from ask.number hall.segs
    settled_here ask armed same =
        let index = kept.heap.plain.index in
        let part : HeapPart = part_in old me index in
        let its : part.armed ≡ Some ask = ap (λ (s : Option SegsView). (part_of me index false (slot_at old index) s).armed) hall.there ∙ armed in
        let at : ask.heap ≡ index = same ∙ sym fits.0 in
        let holding : part.holding ≡ Some (standing_of ask.heap hall.segs) =
        held_holding old hall.segs hall.there me index (ap (λ (n : ℕ). is_held_by me (slot_at old n)) fits.0 ∙ held_here)
        ∙ ap (λ (n : ℕ). Some (standing_of n hall.segs)) (sym at) in
        let known_of : IsKnownSettled (heard_in old) part.holding ask = gives.heap.settled ask its at in
        let heard : heard_in old ≡ hall.segs.asks = asks_there (slot_at old MAX_HEAPS) hall.segs hall.there in
        known_is_settled hall.segs hall.segs.asks [] ask hall.sound (sym (append-nil hall.segs.asks))
        (subst (λ (l : List AskLog). IsKnownSettled l (Some (standing_of ask.heap hall.segs)) ask) heard
        (subst (λ (h : Option Holding). IsKnownSettled (heard_in old) h ask) holding known_of))

    -- its naming is as it was, or its giver has the names in hand
    heap_names : IsChanged number (heap_slot kept) me (Gives number (Heap kept.heap kept.pen)) old new → AreNamed new hall.segs
    heap_names changed =
        let slot : SlotView = heap_slot kept in
        let step : MailStep = Gives number (Heap kept.heap kept.pen) in
        let at = now_here number slot me step old new changed in
        let off = now_elsewhere number slot me step old new changed in
        names_beside number slot old new at off hall.segs hall.segs (λ same. omega (arith, fits.1, same))
        (hands_as_before me step old new changed.mail (record { has = refl; none = refl })) (λ home. (
          naming_alike number slot old new at off
              (ap (λ (n : Naming). Some n) (gives.heap.named (hall.named.holder me ∙ home_unhanded me (slot_at old NAMES_SLOT) home))
              ∙ sym (ap naming_in there ∙ ap (λ (k : Kept). option_map (λ (held : HeldHeap). naming_of held.heap.plain) (held_of k)) is)),
          refl,
        )) hall.named

    -- the memory of its chunks is claimed, by what its giver knows that has the names in hand, and else as it was
    its_memory : AreClaimedIn hall.segs.ranges (slot_at old NAMES_SLOT) (Some (heap_slot kept))
    its_memory = by (has_names_by me (slot_at old NAMES_SLOT)) refl
      where
        by : (hands : Bool) → has_names_by me (slot_at old NAMES_SLOT) ≡ hands → AreClaimedIn hall.segs.ranges (slot_at old NAMES_SLOT) (Some (heap_slot kept))
        by true has = λ chunk its.
            inl (gives.heap.claimed (hall.named.holder me ∙ has) hall.segs.ranges chunk
            (ap (λ (b : Bool). claims_if b (segs_in (slot_at old MAX_HEAPS))) has ∙ ap (option_map (λ (s : SegsView). s.ranges)) hall.there) its)
        by false none =
            let was_claimed : AreClaimedOr (IsWithNames (slot_at old number) (slot_at old NAMES_SLOT)) hall.segs.ranges was.heap.plain.chunks =
            subst (AreClaimedOr (IsWithNames (slot_at old number) (slot_at old NAMES_SLOT)) hall.segs.ranges)
            (ap chunks_in there ∙ ap chunks_of is) (hall.chunks number fits.1) in
            claimed_alike (IsWithNames (slot_at old number) (slot_at old NAMES_SLOT))
            (IsWithNames (Some (heap_slot kept)) (slot_at old NAMES_SLOT)) hall.segs.ranges was.heap.plain kept.heap.plain
            (λ hand.
            (let mine : hand.0 ≡ me = held_once hand.0 me (slot_at old number) hand.1 held_here in
            false≢true (sym none ∙ ap (λ (who : ℕ). has_names_by who (slot_at old NAMES_SLOT)) (sym mine) ∙ hand.2)))
            (gives.heap.named (hall.named.holder me ∙ none)) was_claimed

    heap_given : IsChanged number (heap_slot kept) me (Gives number (Heap kept.heap kept.pen)) old new → IsHall new
    heap_given changed =
        let slot : SlotView = heap_slot kept in
        let step : MailStep = Gives number (Heap kept.heap kept.pen) in
        hall_changed number slot me step old new changed hall.segs hall fits (record { untold = λ home. refl; pairs = gives.pen.pairs })
        (same_segs number slot me step old new changed hall (sym (ap segs_in there ∙ ap segs_of is)) (λ who ask armed held.
        ⊎_elim
        (λ (same : ask.heap ≡ number).
        let holds : is_held_by who (slot_at old number) ≡ true = ap (λ (n : ℕ). is_held_by who (slot_at old n)) (sym same) ∙ held in
        let own : who ≡ me = held_once who me (slot_at old number) holds held_here in
        inl (settled_here ask (ap (armed_ask hall.segs) (sym own) ∙ armed) same))
        (λ (apart : ask.heap ≢ number). inr (ap (is_held_by who) (now_elsewhere number slot me step old new changed ask.heap apart) ∙ held))
        (cases_eq ask.heap number)))
        (heap_names changed)
        (chunks_given number slot old new hall.segs (now_here number slot me step old new changed) (now_elsewhere number slot me step old new changed)
        (λ same. omega (arith, fits.1, same)) its_memory hall.chunks)
        (λ heap same. subst (λ (h : HeldHeap). HasHolding h.heap (standing_of number hall.segs)) (heap_same kept heap same) has_held)
        (λ k heap apart home. hall.home k heap home)

  -- a segment value that comes in
  module _ (before : SlotView) (was kept : SegsView) (is : before.kept ≡ Segments was) (there : slot_at old number ≡ Some before)
      (fits : Fits number (Segments kept)) (gives : GivesSegments (known old me) was kept) (sound : IsSound kept)
      (changed : IsChanged number (home_slot (Segments kept)) me (Gives number (Segments kept)) old new) where
    abbrev slot_now : SlotView
    slot_now = home_slot (Segments kept)

    abbrev step_now : MailStep
    step_now = Gives number (Segments kept)

    same_was : hall.segs ≡ was
    same_was = same_Some hall.segs was (sym hall.there ∙ ap (λ (n : ℕ). segs_in (slot_at old n)) (sym fits) ∙ ap segs_in there ∙ ap segs_of is)

    sound_was : IsSound was
    sound_was = subst IsSound same_was hall.sound

    armed_was : IsArmed was
    armed_was = subst IsArmed same_was hall.armed

    -- heaps are held as they were
    still_held : (who heap : ℕ) → is_held_by who (slot_at old heap) ≡ true → is_held_by who (slot_at new heap) ≡ true
    still_held who heap held =
        ⊎_elim
        (λ (same : heap ≡ number).
        absurd (segs_unheld who was (slot_at old number) (ap segs_in there ∙ ap segs_of is)
        (ap (λ (n : ℕ). is_held_by who (slot_at old n)) (sym same) ∙ held)))
        (λ (apart : heap ≢ number). ap (is_held_by who) (now_elsewhere number slot_now me step_now old new changed heap apart) ∙ held)
        (cases_eq heap number)

    asking_given : (who : ℕ) (ask : Ask) → armed_ask kept who ≡ Some ask → IsAskHeld new kept who ask
    asking_given who ask armed =
        let settles : LeavesSettled was kept = settled_given (known old me) was kept sound_was sound armed_was gives.form in
        let old_asking : (who : ℕ) (ask : Ask) → armed_ask was who ≡ Some ask → IsAskHeld old was who ask =
        subst (λ (s : SegsView). (who : ℕ) (ask : Ask) → armed_ask s who ≡ Some ask → IsAskHeld old s who ask) same_was hall.asking in
        ⊎_elim
        (λ (before : armed_ask was who ≡ Some ask).
        ⊎_elim (λ (settled : IsSettled ask.from ask.number was). inl (settles ask.from ask.number settled))
        (λ (held : is_held_by who (slot_at old ask.heap) ≡ true). inr (still_held who ask.heap held)) (old_asking who ask before))
        (λ (arms : ArmsForHeld (known old me) who ask).
        inr (still_held who ask.heap
        (ap (λ (n : ℕ). is_held_by n (slot_at old ask.heap)) arms.0 ∙ holding_held old me ask.heap arms.1)))
        (armed_by_give (known old me) was kept gives.form who ask armed)

    segs_kept : IsHallSegs new kept
    segs_kept = record {
      there = ap (λ (n : ℕ). segs_in (slot_at new n)) (sym fits) ∙ ap segs_in (now_here number slot_now me step_now old new changed);
      sound = sound;
      armed = armed_given (known old me) was kept gives.form armed_was;
      asking = asking_given;
      pending =
          pending_given (known old me) was kept sound_was sound armed_was gives.form (λ who heap. is_held_by who (slot_at new heap)) asking_given
          (λ who other heap held also. held_once who other (slot_at new heap) held also) (subst ArePending same_was hall.pending);
      owned = λ who below.
          let same = ap (λ (s : SegsView). length s.log) same_was in
          let own = hall.owned who (omega (arith, below, ap length changed.owns)) in
          subst (IsOwnOf (length kept.log)) (sym (owns_still number slot_now me step_now old new changed who)) (record {
            behind = own.behind;
            within = omega (arith, own.within, same, ap length gives.log, length-append was.log gives.more);
          });
      agreed = λ entry generation member has grants is.
          omega (
            arith,
            taken_in_by (known old me) was kept sound_was refl gives.form
                (subst (AreTakenIn (known old me).noted) same_was hall.agreed) entry generation member has grants is,
            ap (λ (own : Own). own.number) (owns_still number slot_now me step_now old new changed member),
          );
    }

    -- the external memory is as it was, or the giver has the names in hand
    segs_names : AreNamed new kept
    segs_names =
        let at = now_here number slot_now me step_now old new changed in
        let off = now_elsewhere number slot_now me step_now old new changed in
        names_beside number slot_now old new at off hall.segs kept (λ same. omega (arith, fits, same))
        (hands_as_before me step_now old new changed.mail (record { has = refl; none = refl })) (λ home. (
          naming_alike number slot_now old new at off
              (sym (ap naming_in there ∙ ap (λ (k : Kept). option_map (λ (held : HeldHeap). naming_of held.heap.plain) (held_of k)) is)),
          ranges_given (known old me) was kept gives.form (hall.named.holder me ∙ home_unhanded me (slot_at old NAMES_SLOT) home)
              ∙ ap (λ (s : SegsView). s.ranges) (sym same_was),
        )) hall.named

    -- and memory of chunks is claimed as it was, or released as it may be
    segs_chunks : AreChunksClaimed new kept
    segs_chunks heap below =
        let off = now_elsewhere number slot_now me step_now old new changed in
        subst (λ (names : Option SlotView). AreClaimedIn kept.ranges names (slot_at new heap)) (sym (off NAMES_SLOT (λ same. omega (arith, fits, same))))
        (subst (AreClaimedIn kept.ranges (slot_at old NAMES_SLOT)) (sym (off heap (λ same. omega (arith, below, same, fits))))
        (chunks_by_form me old was kept gives.form (hall.named.holder me) heap below
        (subst (λ (s : SegsView). AreClaimedIn s.ranges (slot_at old NAMES_SLOT) (slot_at old heap)) same_was (hall.chunks heap below))))

    segs_given : IsHall new
    segs_given =
        hall_changed number slot_now me step_now old new changed kept hall fits (record { untold = λ home. refl; pairs = tt }) segs_kept segs_names segs_chunks
        (λ heap other. absurd (segs_not_heap heap kept (sym other)))
        (λ k heap apart home.
        let stays = standing_given (known old me) was kept sound_was gives.form k (unheld_at_home old me k (Heap heap.heap heap.pen) home) in
        subst (HasHolding heap.heap) (ap (standing_of k) same_was ∙ sym stays) (hall.home k heap home))

  -- names that come in
  names_given : (before : SlotView) (was kept : NamesView) → before.kept ≡ Names was → slot_at old number ≡ Some before
      → Fits number (Names kept) → AgreeWith (part_in old me) kept
      → IsChanged number (home_slot (Names kept)) me (Gives number (Names kept)) old new → IsHall new
  names_given before was kept is there fits agree changed =
      let slot : SlotView = home_slot (Names kept) in
      let step : MailStep = Gives number (Names kept) in
      let off = now_elsewhere number slot me step old new changed in
      hall_changed number slot me step old new changed hall.segs hall fits (record { untold = λ home. refl; pairs = tt })
      (same_segs number slot me step old new changed hall (sym (ap segs_in there ∙ ap segs_of is)) (λ who ask armed held.
      inr (read_alike (is_held_by who) number slot old new (now_here number slot me step old new changed) off
      (sym (ap (is_held_by who) there ∙ ap (λ (k : Kept). is_held_heap who k before.holder) is)) ask.heap ∙ held)))
      (names_home me kept hall.segs old new (agreeing_held old me hall.segs kept hall.there agree)
      (ap (slot_at new) (sym fits) ∙ now_here number slot me step old new changed)
      (λ heap below.
      ap (λ (s : Option SlotView). unwrap_or (naming_in s) (naming_of (opening_heap heap None))) (off heap (λ at. omega (arith, below, at, fits))))
      number changed.mail (agreed_by old me hall.segs kept hall.there agree) hall.named)
      (λ heap below.
      subst (λ (s : Option SlotView). AreClaimedIn hall.segs.ranges (slot_at new NAMES_SLOT) s) (sym (off heap (λ at. omega (arith, below, at, fits))))
      (agreed_slot (IsWithNames (slot_at old heap) (slot_at new NAMES_SLOT)) kept (naming_at old) hall.segs.ranges
      (agreed_by old me hall.segs kept hall.there agree) heap (slot_at old heap) below (naming_there old hall heap below)))
      (λ heap other. absurd (names_not_heap heap kept (sym other))) (λ k heap apart home. hall.home k heap home)

  -- a hall to which a value was given is one
  pub hall_given : (before : SlotView) (kept : Kept) → slot_at old number ≡ Some before → Fits number kept
      → GivesFor (known old me) (Some before.kept) kept → IsSoundKept kept
      → IsChanged number (home_slot kept) me (Gives number kept) old new → IsHall new
  hall_given before kept there fits gives sound changed =
      by_give (known old me)
      (λ was kept.
      was ≡ before.kept → Fits number kept → IsSoundKept kept → IsChanged number (home_slot kept) me (Gives number kept) old new → IsHall new)
      (λ was kept gives is fits sound changed. heap_given before was kept (sym is) there fits gives changed)
      (λ was kept gives is fits sound changed. segs_given before was kept (sym is) there fits gives sound changed)
      (λ was kept gives is fits sound changed. names_given before was kept (sym is) there fits gives.agrees changed)
      before.kept kept gives refl fits sound changed
