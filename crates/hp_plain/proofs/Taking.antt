-- What the trait says of a take, over what it leaves; and participants' parts where a slot changed.
use Rattle.std.proofs.Common.{◌≡◌, ◌≢◌, ℕ, Bool, true, false, ne_eqb, List, Contains, Option, Some, None, inl, inr, refl, sym, ap, subst, ◌∙◌, ⊎_elim, arith, if◌then◌else◌}
use Rattle.std.specs.Option.{is_some, option_and_then, option_map}
use Rattle.std.proofs.lemmas.Bool.{cases_eq, eq-eqb}
use Rattle.std.proofs.lemmas.Option.{same_Some}
use Rattle.hp_base.specs.declared.limits.TheConstants.{MAX_HEAPS}
use Rattle.hp_heap.specs.History.{HeapView, entries_of}
use Rattle.hp_segs.specs.LaterSteps.{armed_ask}
use Rattle.hp_segs.specs.PendingRuns.{ArePending}
use Rattle.hp_segs.specs.SegsView.{SegsView}
use Rattle.hp_segs.specs.SettledAsks.{IsSettled}
use Rattle.hp_segs.specs.Standing.{Holding, IsArmed, standing_of}
use Rattle.hp_segs.specs.declared.ask.Ask.{Ask}
use Rattle.hp_segs.specs.declared.external_range.ExternalRange.{ExternalRange}
use Rattle.hp_segs.specs.declared.outcome.AskLog.{AskLog}
use Rattle.hp_zone.specs.declared.names.Names.{Names as NamesView}
use Rattle.hp_hall.specs.AgreedNames.{AreAgreedNames, AreClaimedOr, chunk_memory}
use Rattle.hp_hall.specs.Asks.{ClaimsGrants}
use Rattle.hp_hall.specs.declared.kept.Kept.{Kept}
use Rattle.hp_hall.specs.declared.kept.Kept.TheVariants.{Heap, Names, Segments}
use Rattle.hp_hall.specs.declared.slot.TheConstants.{NAMES_SLOT}
use Rattle.hp_hall.specs.Holding.{HasHolding, HeapPart, IsClaimedFor, IsHeldWith, IsPartBeside, IsTakenAs, StandsFor}
use Rattle.hp_hall.specs.Mail.{MailStep}
use Rattle.hp_hall.specs.Naming.{Naming, marked_by, naming_of}
use Rattle.hp_hall.specs.Views.{held_of}
use Rattle.hp_stats.specs.StatViews.{PenView}
use Rattle.hp_stats.specs.declared.stat_pair.StatPair.{StatPair}
use Rattle.hp_hall.specs.Values.{Fits, HasClaimed, chunks_of}
use Rattle.hp_hall.proofs.ClaimedChunks.{claimed_all}
use Rattle.hp_hall.proofs.AsksOfHalls.GivenAsks.{asker_is}
use Rattle.hp_hall.proofs.AsksOfHalls.KnownAsks.{settled_is_claimed}
use Rattle.hp_plain.specs.HallSteps.{home_slot, out_slot}
use Rattle.hp_plain.specs.HallView.{HallView, IsAskHeld, IsHall, IsHome, IsWithNames, SlotView, chunks_in, has_names_by, heard_in, history_in, is_held_by, is_joined, joined_in, marks_in, names_of_slot, naming_at, naming_in, part_in, part_of, segs_in, serves_in, slot_at}
use Rattle.hp_plain.proofs.ChunksKept.{AreClaimedIn, marks_in_claimed, marks_in_named}
use Rattle.hp_plain.proofs.Held.{asks_there, claims_if, held_holding, holding_is, home_unheld, naming_if, part_by}
use Rattle.hp_plain.proofs.NamesKept.{naming_there}
use Rattle.hp_plain.proofs.Slotted.{MovesSlot, read_alike}

module _ (number : ℕ) (slot : SlotView) (me : ℕ) (step : MailStep) (old new : HallView) (moves : MovesSlot number slot me step old new) where
  -- who has the names in hand has them still, where their slot is another or has the holder that it had
  pub hands_apart : (who : ℕ) → number ≢ NAMES_SLOT → has_names_by who (slot_at new NAMES_SLOT) ≡ has_names_by who (slot_at old NAMES_SLOT)
  hands_apart who apart = ap (has_names_by who) (moves.elsewhere NAMES_SLOT (λ same. apart (sym same)))

  pub hands_still : (who : ℕ) → has_names_by who (Some slot) ≡ has_names_by who (slot_at old number)
      → has_names_by who (slot_at new NAMES_SLOT) ≡ has_names_by who (slot_at old NAMES_SLOT)
  hands_still who alike = read_alike (has_names_by who) number slot old new moves.here moves.elsewhere alike NAMES_SLOT

  -- the segment value stays where the changed slot has the one that it had
  pub segs_still : segs_in (Some slot) ≡ segs_in (slot_at old number) → segs_in (slot_at new MAX_HEAPS) ≡ segs_in (slot_at old MAX_HEAPS)
  segs_still alike = read_alike segs_in number slot old new moves.here moves.elsewhere alike MAX_HEAPS

  module _ (who : ℕ) (segs : segs_in (slot_at new MAX_HEAPS) ≡ segs_in (slot_at old MAX_HEAPS)) where
    -- then the parts stay but for what is known for the names, where they do at the slot that changed
    pub slots_still : (hands : Bool)
        → ((heap : ℕ) (s : Option SegsView) → part_of who heap hands (Some slot) s ≡ part_of who heap hands (slot_at old number) s)
        → (heap : ℕ) → part_of who heap hands (slot_at new heap) (segs_in (slot_at new MAX_HEAPS))
        ≡ part_of who heap hands (slot_at old heap) (segs_in (slot_at old MAX_HEAPS))
    slots_still hands alike heap =
        let last : Option SegsView = segs_in (slot_at old MAX_HEAPS) in
        ap (part_of who heap hands (slot_at new heap)) segs
        ∙ read_alike (λ (s : Option SlotView). part_of who heap hands s last) number slot old new moves.here moves.elsewhere (alike heap last) heap

    module _ (hands : has_names_by who (slot_at new NAMES_SLOT) ≡ has_names_by who (slot_at old NAMES_SLOT)) where
      -- the parts in the other heaps stay
      pub part_apart : (heap : ℕ) → heap ≢ number → part_in new who heap ≡ part_in old who heap
      part_apart heap apart =
          ap (λ (b : Bool). part_of who heap b (slot_at new heap) (segs_in (slot_at new MAX_HEAPS))) hands
          ∙ ap (part_of who heap (has_names_by who (slot_at old NAMES_SLOT)) (slot_at new heap)) segs
          ∙ ap (λ (s : Option SlotView). part_of who heap (has_names_by who (slot_at old NAMES_SLOT)) s (segs_in (slot_at old MAX_HEAPS)))
          (moves.elsewhere heap apart)

      -- and all do, where they stay at the slot that changed
      pub parts_still : ((heap : ℕ) (s : Option SegsView) → part_of who heap (has_names_by who (slot_at old NAMES_SLOT)) (Some slot) s
          ≡ part_of who heap (has_names_by who (slot_at old NAMES_SLOT)) (slot_at old number) s) → (heap : ℕ)
          → part_in new who heap ≡ part_in old who heap
      parts_still alike heap =
          ap (λ (b : Bool). part_of who heap b (slot_at new heap) (segs_in (slot_at new MAX_HEAPS))) hands
          ∙ slots_still (has_names_by who (slot_at old NAMES_SLOT)) alike heap

-- nobody but the taker's part is another
out_alike : (me who heap : ℕ) (hands : Bool) (kept : Kept) (segs : Option SegsView) → who ≢ me
    → part_of who heap hands (Some (out_slot me kept)) segs ≡ part_of who heap hands (Some (home_slot kept)) segs
out_alike me who heap hands (Heap h pen) segs apart =
    ap (part_by (naming_if hands (Some (naming_of h.plain))) (claims_if hands segs) who heap (entries_of who h.history) (marked_by who h.plain)
    h.plain.serves None segs) (ne_eqb me who (λ same. apart (sym same)))
out_alike me who heap hands (Segments value) segs apart = refl
out_alike me who heap hands (Names names) segs apart = refl

-- of a value that is no heap the taker's part is no other either
out_same : (me who heap : ℕ) (hands : Bool) (kept : Kept) (segs : Option SegsView) → held_of kept ≡ None
    → part_of who heap hands (Some (out_slot me kept)) segs ≡ part_of who heap hands (Some (home_slot kept)) segs
out_same me who heap hands (Heap h pen) segs none = cc
out_same me who heap hands (Segments value) segs none = refl
out_same me who heap hands (Names names) segs none = refl

-- a part that is as it was, but for what is known for the names, is so in all that is beside these
pub part_beside : (who heap : ℕ) (old new : HallView)
    → part_of who heap false (slot_at new heap) (segs_in (slot_at new MAX_HEAPS))
    ≡ part_of who heap false (slot_at old heap) (segs_in (slot_at old MAX_HEAPS))
    → IsPartBeside (part_in old who heap) (part_in new who heap)
part_beside who heap old new same = record {
  entries = ap (λ (part : HeapPart). part.entries) same;
  marked = ap (λ (part : HeapPart). part.marked) same;
  serves = ap (λ (part : HeapPart). part.serves) same;
  holding = ap (λ (part : HeapPart). part.holding) same;
  told = ap (λ (part : HeapPart). part.told) same;
  armed = ap (λ (part : HeapPart). part.armed) same;
}

-- what is known for the names, where something is, is what stands
known_naming : (hands : Bool) (stands naming : Naming) → naming_if hands (Some stands) ≡ Some naming → stands ≡ naming
known_naming true stands naming is = same_Some stands naming is
known_naming false stands naming is = cc

known_claims : (hands : Bool) (segs : SegsView) (claims : List ExternalRange) → claims_if hands (Some segs) ≡ Some claims → segs.ranges ≡ claims
known_claims true segs claims is = same_Some segs.ranges claims is
known_claims false segs claims is = cc

none_told : (held : Bool) → ◌≡◌ {A = Option StatPair} (if held then None else None) None
none_told true = refl
none_told false = refl

module _ (me number : ℕ) (kept : Kept) (step : MailStep) (old new : HallView) (hall : IsHall old) (there : slot_at old number ≡ Some (home_slot kept))
    (moves : MovesSlot number (out_slot me kept) me step old new) where
  still : segs_in (slot_at new MAX_HEAPS) ≡ segs_in (slot_at old MAX_HEAPS)
  still = segs_still number (out_slot me kept) me step old new moves (ap segs_in (sym there))

  -- nobody joins or leaves
  pub joined_taken : (who : ℕ) → joined_in new who ≡ joined_in old who
  joined_taken who = ap (is_joined who) still

  pub others_taken : (who heap : ℕ) → who ≢ me → part_in new who heap ≡ part_in old who heap
  others_taken who heap apart =
      let hands : Bool = has_names_by who (slot_at old NAMES_SLOT) in
      parts_still number (out_slot me kept) me step old new moves who still
      (hands_still number (out_slot me kept) me step old new moves who
      (ne_eqb me who (λ same. apart (sym same)) ∙ ap (has_names_by who) (sym there)))
      (λ heap segs. out_alike me who heap hands kept segs apart ∙ ap (λ (s : Option SlotView). part_of who heap hands s segs) (sym there)) heap

  -- what is no heap leaves the taker's parts, but for what is known for the names
  alike_none : (hands : Bool) → held_of kept ≡ None → (heap : ℕ) (value : Option SegsView)
      → part_of me heap hands (Some (out_slot me kept)) value ≡ part_of me heap hands (slot_at old number) value
  alike_none hands none heap value =
      out_same me me heap hands kept value none ∙ ap (λ (s : Option SlotView). part_of me heap hands s value) (sym there)

  -- who takes a heap or the segment value has the names in hand where it had
  hands_mine : number ≢ NAMES_SLOT → has_names_by me (slot_at new NAMES_SLOT) ≡ has_names_by me (slot_at old NAMES_SLOT)
  hands_mine apart = hands_apart number (out_slot me kept) me step old new moves me apart

  pub part_taken : (value : Kept) → kept ≡ value → Fits number value → IsTakenAs value (part_in old me) (part_in new me)
  part_taken (Heap heap pen) is fits = (
    record {
      entries = read_alike (λ (s : Option SlotView). entries_of me (history_in s)) number (out_slot me kept) old new moves.here moves.elsewhere
          (ap (λ (s : Option SlotView). entries_of me (history_in s)) (sym there)) heap.plain.index;
      marked = read_alike (marks_in me) number (out_slot me kept) old new moves.here moves.elsewhere (ap (marks_in me) (sym there)) heap.plain.index;
      serves = read_alike serves_in number (out_slot me kept) old new moves.here moves.elsewhere (ap serves_in (sym there)) heap.plain.index;
      untold =
          let at : slot_at new heap.plain.index ≡ Some (out_slot me kept) = ap (slot_at new) fits.0 ∙ moves.here in
          ap (λ (s : Option SlotView). (part_of me heap.plain.index false s (segs_in (slot_at new MAX_HEAPS))).told) at
          ∙ none_told (is_held_by me (Some (out_slot me kept)));
      naming = ap (λ (b : Bool). naming_if b (naming_in (slot_at new heap.plain.index))) (hands_mine (λ same. omega (arith, fits.1, same)))
          ∙ ap (naming_if (has_names_by me (slot_at old NAMES_SLOT)))
          (read_alike naming_in number (out_slot me kept) old new moves.here moves.elsewhere (ap naming_in (sym there)) heap.plain.index);
      armed = ap (option_and_then (λ segs. armed_ask segs me)) still;
      claims = ap (λ (b : Bool). claims_if b (segs_in (slot_at new MAX_HEAPS))) (hands_mine (λ same. omega (arith, fits.1, same)))
          ∙ ap (claims_if (has_names_by me (slot_at old NAMES_SLOT))) still;
    },
    λ other apart.
        part_apart number (out_slot me kept) me step old new moves me still (hands_mine (λ same. omega (arith, fits.1, same))) other
        (λ same. apart (same ∙ sym fits.0)),
  )
  part_taken (Segments segs) is fits =
      parts_still number (out_slot me kept) me step old new moves me still (hands_mine (λ same. omega (arith, fits, same)))
      (alike_none (has_names_by me (slot_at old NAMES_SLOT)) (ap held_of is))
  part_taken (Names names) is fits =
      λ heap.
      part_beside me heap old new (slots_still number (out_slot me kept) me step old new moves me still false (alike_none false (ap held_of is)) heap)

  -- what the taker held it holds still
  still_held : (heap : ℕ) → is_held_by me (slot_at old heap) ≡ true → is_held_by me (slot_at new heap) ≡ true
  still_held heap held =
      ⊎_elim
      (λ (same : heap ≡ number).
      absurd (home_unheld me kept (slot_at old number) there (ap (λ (n : ℕ). is_held_by me (slot_at old n)) (sym same) ∙ held)))
      (λ (apart : heap ≢ number). ap (is_held_by me) (moves.elsewhere heap apart) ∙ held)
      (cases_eq heap number)

  heap_held : (heap : HeapView) (pen : PenView) → kept ≡ Heap heap pen → Fits number (Heap heap pen)
      → (part_in new me heap.plain.index).holding ≡ Some (standing_of heap.plain.index hall.segs)
  heap_held heap pen is fits =
      let index = heap.plain.index in
      let at : slot_at new index ≡ Some (out_slot me (Heap heap pen)) =
      ap (slot_at new) fits.0 ∙ moves.here ∙ ap (λ (k : Kept). Some (out_slot me k)) is in
      held_holding new hall.segs (still ∙ hall.there) me index (ap (is_held_by me) at ∙ eq-eqb me me refl)

  heap_stands : (heap : HeapView) (pen : PenView) → kept ≡ Heap heap pen → Fits number (Heap heap pen)
      → StandsFor me (part_in new me) (Heap heap pen)
  heap_stands heap pen is fits =
      let index = heap.plain.index in
      let at : slot_at new index ≡ Some (out_slot me (Heap heap pen)) =
      ap (slot_at new) fits.0 ∙ moves.here ∙ ap (λ (k : Kept). Some (out_slot me k)) is in
      let held = heap_held heap pen is fits in
      let holds : HasHolding heap (standing_of number hall.segs) =
      hall.home number (record { heap = heap; pen = pen }) (there ∙ ap (λ (k : Kept). Some (home_slot k)) is) in
      record {
        serves = sym (ap serves_in at);
        held = subst (IsHeldWith heap) (sym held) (subst (λ (n : ℕ). HasHolding heap (standing_of n hall.segs)) (sym fits.0) holds);
        named = λ naming knows.
            known_naming (has_names_by me (slot_at new NAMES_SLOT)) (naming_of heap.plain) naming
            (ap (λ (s : Option SlotView). naming_if (has_names_by me (slot_at new NAMES_SLOT)) (naming_in s)) (sym at) ∙ knows);
        claimed = λ claims chunk knows has.
            let hand : Type 0 = IsWithNames (slot_at old number) (slot_at old NAMES_SLOT) in
            let same : hall.segs.ranges ≡ claims =
            known_claims (has_names_by me (slot_at new NAMES_SLOT)) hall.segs claims
            (ap (claims_if (has_names_by me (slot_at new NAMES_SLOT))) (sym (still ∙ hall.there)) ∙ knows) in
            subst (λ (l : List ExternalRange). Contains l (chunk_memory chunk)) same
            (claimed_all hand hall.segs.ranges heap.plain.chunks (λ holds. home_unheld holds.0 kept (slot_at old number) there holds.1)
            (subst (AreClaimedOr hand hall.segs.ranges) (ap chunks_in there ∙ ap chunks_of is) (hall.chunks number fits.1)) chunk has);
      }

  segs_stand : (segs : SegsView) → kept ≡ Segments segs → Fits number (Segments segs) → StandsFor me (part_in new me) (Segments segs)
  segs_stand segs is fits =
      let now : segs_in (slot_at new MAX_HEAPS) ≡ Some segs =
      ap (λ (n : ℕ). segs_in (slot_at new n)) (sym fits) ∙ ap segs_in moves.here ∙ ap (λ (k : Kept). segs_in (Some (out_slot me k))) is in
      let same : hall.segs ≡ segs = same_Some hall.segs segs (sym hall.there ∙ sym still ∙ now) in
      let asking : (ask : Ask) → armed_ask segs me ≡ Some ask → IsAskHeld old segs me ask =
      subst (λ (s : SegsView). (ask : Ask) → armed_ask s me ≡ Some ask → IsAskHeld old s me ask) same (hall.asking me) in
      record {
        held = λ heap holding held. holding_is new segs now me heap holding held;
        armed = λ heap. ap (option_and_then (λ segs. armed_ask segs me)) now;
        asking = λ ask armed.
            ⊎_elim (λ (settled : IsSettled ask.from ask.number segs). inl settled)
            (λ (held : is_held_by me (slot_at old ask.heap) ≡ true).
            inr (ap is_some (held_holding new segs now me ask.heap (still_held ask.heap held)))) (asking ask armed);
        sound = subst IsArmed same hall.armed;
        pending = subst ArePending same hall.pending;
        claims = λ heap claims knows.
            known_claims (has_names_by me (slot_at new NAMES_SLOT)) segs claims
            (ap (claims_if (has_names_by me (slot_at new NAMES_SLOT))) (sym now) ∙ knows);
        marked = λ heap chunk below has.
            marks_in_claimed (IsWithNames (slot_at old heap) (slot_at old NAMES_SLOT)) segs.ranges me (slot_at old heap)
            (subst (λ (s : SegsView). AreClaimedIn s.ranges (slot_at old NAMES_SLOT) (slot_at old heap)) same (hall.chunks heap below)) chunk
            (subst (λ (s : Option SlotView). Contains (marks_in me s) chunk) (moves.elsewhere heap (λ at. omega (arith, below, at, fits))) has);
        named = λ heap naming chunk below.
            marks_in_named me (has_names_by me (slot_at new NAMES_SLOT)) (slot_at new heap) naming chunk;
      }

  -- names at home agree with what their taker then knows
  names_stand : (names : NamesView) → kept ≡ Names names → Fits number (Names names) → StandsFor me (part_in new me) (Names names)
  names_stand names is fits =
      let home : slot_at old NAMES_SLOT ≡ Some (home_slot (Names names)) =
      ap (slot_at old) (sym fits) ∙ there ∙ ap (λ (k : Kept). Some (home_slot k)) is in
      let hands : has_names_by me (slot_at new NAMES_SLOT) ≡ true =
      ap (λ (n : ℕ). has_names_by me (slot_at new n)) (sym fits) ∙ ap (has_names_by me) moves.here ∙ eq-eqb me me refl in
      let same : hall.named.names ≡ names = same_Some hall.named.names names (sym hall.named.there ∙ ap names_of_slot home) in
      let agrees : AreAgreedNames names (naming_at old) hall.segs.ranges =
      subst (λ (n : NamesView). AreAgreedNames n (naming_at old) hall.segs.ranges) same (hall.named.agrees (subst IsHome (sym home) refl)) in
      record {
        namings = naming_at old;
        claims = hall.segs.ranges;
        known = λ heap below.
            ap (λ (b : Bool). naming_if b (naming_in (slot_at new heap))) hands
            ∙ ap naming_in (moves.elsewhere heap (λ at. omega (arith, below, at, fits))) ∙ naming_there old hall heap below;
        claimed = λ heap.
            ap (λ (b : Bool). claims_if b (segs_in (slot_at new MAX_HEAPS))) hands
            ∙ ap (option_map (λ (s : SegsView). s.ranges)) (still ∙ hall.there);
        agreed = agrees;
      }

  pub stands_taken : (value : Kept) → kept ≡ value → Fits number value → StandsFor me (part_in new me) value
  stands_taken (Heap heap pen) is fits = heap_stands heap pen is fits
  stands_taken (Segments segs) is fits = segs_stand segs is fits
  stands_taken (Names names) is fits = names_stand names is fits

  -- what was granted to the taker's ask for the heap that it took, the heap has claimed
  heap_claimed : (heap : HeapView) (pen : PenView) → kept ≡ Heap heap pen → Fits number (Heap heap pen)
      → IsClaimedFor heap.plain.index (heard_in new) (part_in new me heap.plain.index)
  heap_claimed heap pen is fits ask armed its =
      let segs = hall.segs in
      let now : segs_in (slot_at new MAX_HEAPS) ≡ Some segs = still ∙ hall.there in
      let its_ask : armed_ask segs me ≡ Some ask = sym (ap (option_and_then (λ s. armed_ask s me)) now) ∙ armed in
      let settled : IsSettled ask.from ask.number segs =
      ⊎_elim (λ (settled : IsSettled ask.from ask.number segs). settled)
      (λ (held : is_held_by me (slot_at old ask.heap) ≡ true).
      absurd (home_unheld me kept (slot_at old number) there (ap (λ (n : ℕ). is_held_by me (slot_at old n)) (sym (its ∙ fits.0)) ∙ held)))
      (hall.asking me ask its_ask) in
      let who : ask.from ≡ me = asker_is segs me ask hall.sound its_ask in
      let claims : ClaimsGrants segs.asks (Some (standing_of ask.heap segs)) ask =
      settled_is_claimed segs ask hall.sound hall.armed.kept (ap (armed_ask segs) who ∙ its_ask) settled in
      let held : Some (standing_of ask.heap segs) ≡ (part_in new me heap.plain.index).holding =
      ap (λ (n : ℕ). Some (standing_of n segs)) its ∙ sym (heap_held heap pen is fits) in
      subst (λ (h : Option Holding). ClaimsGrants (heard_in new) h ask) held
      (subst (λ (l : List AskLog). ClaimsGrants l (Some (standing_of ask.heap segs)) ask) (sym (asks_there (slot_at new MAX_HEAPS) segs now)) claims)

  pub claimed_taken : (value : Kept) → kept ≡ value → Fits number value → HasClaimed (heard_in new) (part_in new me) value
  claimed_taken (Heap heap pen) is fits = heap_claimed heap pen is fits
  claimed_taken (Segments segs) is fits = tt
  claimed_taken (Names names) is fits = tt
