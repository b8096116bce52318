-- A hall whose slots stay is one, whatever of its own a participant has noted.
use Rattle.std.proofs.Common.{◌≡◌, ◌≢◌, ℕ, ◌<◌, ◌≤◌, true, false, List, [], ◌∷◌, ◌++◌, length, set, Option, Some, None, inl, inr, sym, ap, subst, ◌∙◌, ⊎_elim, arith, length-set}
use Rattle.std.specs.List.{slice_get, slice_index_or}
use Rattle.std.specs.Prelude.{unwrap_or}
use Rattle.std.proofs.lemmas.Bool.{cases_eq}
use Rattle.std.proofs.lemmas.Option.{slice_get-get_or}
use Rattle.hp_base.specs.declared.limits.TheConstants.{MAX_HEAPS}
use Rattle.hp_heap.specs.PlainHeap.{opening_heap}
use Rattle.hp_segs.specs.SegsView.{SegsView}
use Rattle.hp_segs.specs.SettledAsks.{IsSettled}
use Rattle.hp_hall.specs.Mail.{MailStep}
use Rattle.hp_hall.specs.Naming.{naming_of}
use Rattle.hp_hall.specs.Telling.{names_after}
use Rattle.hp_hall.specs.declared.slot.TheConstants.{NAMES_SLOT}
use Rattle.hp_hall.specs.Own.{Own, after_ack, after_partial}
use Rattle.hp_hall.proofs.AgreedAlike.{agree_alike}
use Rattle.hp_plain.specs.HallSteps.{with_own}
use Rattle.hp_plain.specs.HallView.{AreNamed, HallView, IsHall, IsHome, SlotView, has_names_by, is_held_by, names_of_slot, log_in, naming_at, naming_in, own_at, seen_in, segs_in, slot_at}
use Rattle.hp_hall.specs.TakenIn.{IsOwnOf}
use Rattle.hp_hall.specs.Values.{log_of}
use Rattle.hp_plain.proofs.ChunksKept.{chunks_same}
use Rattle.hp_plain.proofs.Held.{log_there}
use Rattle.hp_plain.proofs.NamesKept.{hands_as_before}
use Rattle.hp_plain.proofs.Owned.{numbers_rise, own_elsewhere, own_here}

-- where no slot has changed, the names are as they were
pub names_noted : (me : ℕ) (step : MailStep) (old new : HallView) (segs : SegsView) → AreNamed old segs → new.slots ≡ old.slots
    → new.mail ≡ old.mail ++ (me, step) ∷ [] → names_after true step ≡ true → names_after false step ≡ false → AreNamed new segs
names_noted me step old new segs named slots mail has none =
    let at : (number : ℕ) → slot_at new number ≡ slot_at old number = λ number. ap (λ (l : List SlotView). slice_get l number) slots in
    let naming : (heap : ℕ) → naming_at new heap ≡ naming_at old heap =
    λ heap. ap (λ (s : Option SlotView). unwrap_or (naming_in s) (naming_of (opening_heap heap None))) (at heap) in
    record {
      names = named.names;
      there = ap names_of_slot (at NAMES_SLOT) ∙ named.there;
      agrees = λ home.
          agree_alike named.names (naming_at old) (naming_at new) segs.ranges (λ heap below. naming heap)
          (named.agrees (subst IsHome (at NAMES_SLOT) home));
      holder = λ who.
          hands_as_before me step old new mail (record { has = has; none = none }) who ∙ named.holder who
          ∙ ap (has_names_by who) (sym (at NAMES_SLOT));
    }

-- a hall whose participant's own part has come to another of the log, with a number that has not fallen, is one
pub hall_own : (old new : HallView) (who : ℕ) (own : Own) (me : ℕ) (step : MailStep) → IsHall old → new.slots ≡ old.slots → new.boxes ≡ old.boxes
    → new.mail ≡ old.mail ++ (me, step) ∷ [] → names_after true step ≡ true → names_after false step ≡ false
    → new.lines ≡ old.lines → new.owns ≡ set old.owns who own → who < length old.owns → (own_at old who).number ≤ own.number
    → ((segs : SegsView) → segs_in (slot_at old MAX_HEAPS) ≡ Some segs → IsOwnOf (length segs.log) own) → IsHall new
hall_own old new who own me step hall slots boxes mail has none lines owns below rises of =
    let at : (number : ℕ) → slot_at new number ≡ slot_at old number = λ number. ap (λ (l : List SlotView). slice_get l number) slots in
    let many : length new.owns ≡ length old.owns = ap length owns ∙ length-set old.owns who own in
    let now : (other : ℕ) → own_at new other ≡ own_at (with_own who own old) other =
    λ other. ap (λ (l : List Own). slice_index_or l other (after_ack 0)) owns in
    record {
      slots = ap length slots ∙ hall.slots;
      fits = λ number slot there. hall.fits number slot (sym (at number) ∙ there);
      untold = λ number slot there. hall.untold number slot (sym (at number) ∙ there);
      pairs = λ number slot there. hall.pairs number slot (sym (at number) ∙ there);
      boxes = ap length boxes ∙ hall.boxes ∙ sym many;
      lines = ap length lines ∙ hall.lines ∙ sym many;
      few = omega (arith, hall.few, many);
      segs = hall.segs;
      there = ap segs_in (at MAX_HEAPS) ∙ hall.there;
      sound = hall.sound;
      armed = hall.armed;
      home = λ number heap home. hall.home number heap (sym (at number) ∙ home);
      asking = λ asker ask is.
          ⊎_elim (λ (settled : IsSettled ask.from ask.number hall.segs). inl settled)
          (λ (held : is_held_by asker (slot_at old ask.heap) ≡ true). inr (ap (is_held_by asker) (at ask.heap) ∙ held)) (hall.asking asker ask is);
      pending = hall.pending;
      named = names_noted me step old new hall.segs hall.named slots mail has none;
      chunks = chunks_same old new hall.segs at hall.chunks;
      owned = λ other inside.
          subst (IsOwnOf (length hall.segs.log)) (sym (now other))
          (⊎_elim
          (λ (same : other ≡ who).
          subst (IsOwnOf (length hall.segs.log)) (sym (ap (own_at (with_own who own old)) same ∙ own_here old who own below)) (of hall.segs hall.there))
          (λ (apart : other ≢ who).
          subst (IsOwnOf (length hall.segs.log)) (sym (own_elsewhere old who other own apart)) (hall.owned other (omega (arith, inside, many))))
          (cases_eq other who));
      agreed = λ entry generation member has grants is.
          omega (
            arith,
            hall.agreed entry generation member has grants is,
            numbers_rise old who own below rises member,
            ap (λ (own : Own). own.number) (now member),
          );
    }

-- the own part of a participant that has acknowledged records, as far as it has seen them, or that has unmapped what these drop, is one of the log
pub own_acked : (hall : HallView) (number : ℕ) → number ≤ length (seen_in hall) → (segs : SegsView) → segs_in (slot_at hall MAX_HEAPS) ≡ Some segs
    → IsOwnOf (length segs.log) (after_ack number)
own_acked hall number seen segs there = record {
  behind = omega arith;
  within = omega (arith, seen, ap length (log_there (slot_at hall MAX_HEAPS) segs there));
}

pub own_unmapped : (hall : HallView) (who : ℕ) → IsHall hall → who < length hall.owns → (segs : SegsView) → segs_in (slot_at hall MAX_HEAPS) ≡ Some segs
    → IsOwnOf (length segs.log) (after_partial (length (seen_in hall)) (own_at hall who))
own_unmapped hall who is below segs there =
    let own = is.owned who below in
    let log = ap length (log_there (slot_at hall MAX_HEAPS) segs there) in
    let its = ap length (log_there (slot_at hall MAX_HEAPS) is.segs is.there) in
    record { behind = omega (arith, own.behind, own.within, log, its); within = omega (arith, log) }

-- what the slot of the segment value has of the log is what was seen
pub seen_of : (hall : HallView) (slot : SlotView) → IsHall hall → slot ≡ slice_index_or hall.slots MAX_HEAPS slot → log_of slot.kept ≡ seen_in hall
seen_of hall slot is at =
    sym (ap log_in (slice_get-get_or hall.slots MAX_HEAPS slot (omega (arith, is.slots)) ∙ ap (λ (s : SlotView). Some s) (sym at)))

-- a hall in which lines were told to be done is one
pub hall_lines : (old new : HallView) (me : ℕ) (step : MailStep) → IsHall old → new.slots ≡ old.slots → length new.boxes ≡ length old.boxes
    → new.mail ≡ old.mail ++ (me, step) ∷ [] → names_after true step ≡ true → names_after false step ≡ false → new.owns ≡ old.owns
    → length new.lines ≡ length old.lines → IsHall new
hall_lines old new me step hall slots boxes mail has none owns lines =
    let at : (number : ℕ) → slot_at new number ≡ slot_at old number = λ number. ap (λ (l : List SlotView). slice_get l number) slots in
    let own : (who : ℕ) → own_at new who ≡ own_at old who = λ who. ap (λ (l : List Own). slice_index_or l who (after_ack 0)) owns in
    record {
      slots = ap length slots ∙ hall.slots;
      fits = λ number slot there. hall.fits number slot (sym (at number) ∙ there);
      untold = λ number slot there. hall.untold number slot (sym (at number) ∙ there);
      pairs = λ number slot there. hall.pairs number slot (sym (at number) ∙ there);
      boxes = boxes ∙ hall.boxes ∙ sym (ap length owns);
      lines = lines ∙ hall.lines ∙ sym (ap length owns);
      few = omega (arith, hall.few, ap length owns);
      segs = hall.segs;
      there = ap segs_in (at MAX_HEAPS) ∙ hall.there;
      sound = hall.sound;
      armed = hall.armed;
      home = λ number heap home. hall.home number heap (sym (at number) ∙ home);
      asking = λ asker ask is.
          ⊎_elim (λ (settled : IsSettled ask.from ask.number hall.segs). inl settled)
          (λ (held : is_held_by asker (slot_at old ask.heap) ≡ true). inr (ap (is_held_by asker) (at ask.heap) ∙ held)) (hall.asking asker ask is);
      pending = hall.pending;
      named = names_noted me step old new hall.segs hall.named slots mail has none;
      chunks = chunks_same old new hall.segs at hall.chunks;
      owned = λ who below.
          subst (IsOwnOf (length hall.segs.log)) (sym (own who)) (hall.owned who (omega (arith, below, ap length owns)));
      agreed = λ entry generation member has grants is.
          omega (arith, hall.agreed entry generation member has grants is, ap (λ (o : Own). o.number) (own member));
    }
