-- Names of a hall that agree with what stands, and who has them in hand, where a slot has changed.
use Rattle.std.proofs.Common.{◌≡◌, ◌≢◌, ℕ, zero, suc, ◌<◌, Bool, true, false, List, [], ◌∷◌, ◌++◌, length, eqb, ne_eqb, Option, Some, None, refl, sym, ap, subst, ◌∙◌, ⊎_elim, arith}
use Rattle.std.specs.Prelude.{unwrap_or}
use Rattle.std.specs.List.{slice_get}
use Rattle.std.specs.Option.{option_map, option_map_or}
use Rattle.std.proofs.lemmas.Bool.{cases_eq, eq-eqb, eqb-true}
use Rattle.std.proofs.lemmas.List.{append-nil}
use Rattle.std.proofs.lemmas.List.Sums.{fold-append}
use Rattle.std.proofs.lemmas.Option.{same_Some}
use Rattle.hp_base.specs.declared.limits.TheConstants.{MAX_HEAPS}
use Rattle.hp_heap.specs.PlainHeap.{opening_heap}
use Rattle.hp_segs.specs.SegsView.{SegsView}
use Rattle.hp_segs.specs.declared.external_range.ExternalRange.{ExternalRange}
use Rattle.hp_zone.specs.declared.names.Names.{Names as NamesView}
use Rattle.hp_hall.specs.AgreedNames.{AreAgreedNames}
use Rattle.hp_hall.specs.Holding.{AgreeWith}
use Rattle.hp_hall.specs.Mail.{MailStep, Gives, Takes, steps_of}
use Rattle.hp_hall.specs.Naming.{Naming, naming_of}
use Rattle.hp_hall.specs.Telling.{has_names, names_after}
use Rattle.hp_hall.specs.Values.{Fits}
use Rattle.hp_hall.specs.Views.{HeldHeap, held_of}
use Rattle.hp_hall.specs.declared.kept.Kept.{Kept}
use Rattle.hp_hall.specs.declared.kept.Kept.TheVariants.{Heap, Names, Segments}
use Rattle.hp_hall.specs.declared.slot.TheConstants.{NAMES_SLOT}
use Rattle.hp_hall.proofs.AgreedAlike.{agree_alike}
use Rattle.hp_hall.proofs.Doing.{other_step, own_step}
use Rattle.hp_plain.specs.HallSteps.{home_slot, out_slot}
use Rattle.hp_plain.specs.HallView.{AreNamed, HallView, IsHall, IsHome, SlotView, has_names_by, names_of_slot, naming_at, naming_in, part_in, segs_in, slot_at}
use Rattle.hp_plain.proofs.Held.{claims_if, naming_if}
use Rattle.hp_plain.proofs.Mailed.{noted_last}
use Rattle.hp_plain.proofs.Slotted.{read_alike}

-- a step with which nobody takes or gives names
pub record LeavesHands (step : MailStep) : Type 0 where
  pub has : names_after true step ≡ true
  pub none : names_after false step ≡ false

hands_by : (step : MailStep) → LeavesHands step → (hands : Bool) → names_after hands step ≡ hands
hands_by step leaves true = leaves.has
hands_by step leaves false = leaves.none

module _ (me : ℕ) (step : MailStep) (old new : HallView) (mail : new.mail ≡ old.mail ++ (me, step) ∷ []) where
  -- who has the names in hand after a step: its maker by the step, the others as before
  pub hands_own : has_names (steps_of me new.mail) ≡ names_after (has_names (steps_of me old.mail)) step
  hands_own =
      ap has_names (noted_last old new me step mail me ∙ ap (λ (l : List MailStep). steps_of me old.mail ++ l) (own_step me step))
      ∙ fold-append names_after false (steps_of me old.mail) (step ∷ [])

  pub hands_other : (who : ℕ) → who ≢ me → has_names (steps_of who new.mail) ≡ has_names (steps_of who old.mail)
  hands_other who apart =
      ap has_names (noted_last old new me step mail who ∙ ap (λ (l : List MailStep). steps_of who old.mail ++ l) (other_step who me step apart)
      ∙ append-nil (steps_of who old.mail))

  pub hands_as_before : LeavesHands step → (who : ℕ) → has_names (steps_of who new.mail) ≡ has_names (steps_of who old.mail)
  hands_as_before leaves who =
      ⊎_elim
      (λ (same : who ≡ me).
      ap (λ (n : ℕ). has_names (steps_of n new.mail)) same ∙ hands_own ∙ hands_by step leaves (has_names (steps_of me old.mail))
      ∙ ap (λ (n : ℕ). has_names (steps_of n old.mail)) (sym same))
      (λ (apart : who ≢ me). hands_other who apart)
      (cases_eq who me)

-- nobody has names in hand that are at home, and one at most those that are out
pub home_unhanded : (who : ℕ) (slot : Option SlotView) → IsHome slot → has_names_by who slot ≡ false
home_unhanded who None home = refl
home_unhanded who (Some slot) home = ap (λ (holder : Option ℕ). option_map_or (λ (h : ℕ). eqb h who) holder false) home

pub hands_once : (me who : ℕ) (slot : Option SlotView) → who ≢ me → has_names_by me slot ≡ true → has_names_by who slot ≡ false
hands_once me who None apart has = refl
hands_once me who (Some slot) apart has = by slot.holder has
  where
    by : (holder : Option ℕ) → option_map_or (λ (h : ℕ). eqb h me) holder false ≡ true → option_map_or (λ (h : ℕ). eqb h who) holder false ≡ false
    by None has = refl
    by (Some holder) has = ne_eqb holder who (λ same. apart (sym same ∙ eqb-true holder me has))

-- the slot of each heap has one, of which the names speak
slot_there : (slots : List SlotView) (number : ℕ) → number < length slots → (slot : SlotView) × (slice_get slots number ≡ Some slot)
slot_there [] number below = absurd (omega arith)
slot_there (slot ∷ slots) zero below = (slot, refl)
slot_there (slot ∷ slots) (suc number) below = slot_there slots number (omega arith)

heap_named : (number : ℕ) (kept : Kept) (other : Naming) → Fits number kept → number < MAX_HEAPS
    → option_map (λ (held : HeldHeap). naming_of held.heap.plain) (held_of kept)
    ≡ Some (unwrap_or (option_map (λ (held : HeldHeap). naming_of held.heap.plain) (held_of kept)) other)
heap_named number (Heap heap pen) other fits below = refl
heap_named number (Segments segs) other fits below = absurd (omega (arith, below, fits))
heap_named number (Names names) other fits below = absurd (omega (arith, below, fits))

pub naming_there : (hall : HallView) → IsHall hall → (heap : ℕ) → heap < MAX_HEAPS → naming_in (slot_at hall heap) ≡ Some (naming_at hall heap)
naming_there hall is heap below =
    let at = slot_there hall.slots heap (omega (arith, below, is.slots)) in
    let other : Naming = naming_of (opening_heap heap None) in
    subst (λ (s : Option SlotView). naming_in s ≡ Some (unwrap_or (naming_in s) other)) (sym at.1)
    (heap_named heap at.0.kept other (is.fits heap at.0 at.1) below)

-- who knows something for the names has them in hand, and knows what stands
pub claims_held : (hands : Bool) (segs : Option SegsView) (claims : List ExternalRange) → claims_if hands segs ≡ Some claims → hands ≡ true
claims_held true segs claims is = refl
claims_held false segs claims is = cc

module _ (hall : HallView) (me : ℕ) (segs : SegsView) (names : NamesView) (there : segs_in (slot_at hall MAX_HEAPS) ≡ Some segs)
    (agree : AgreeWith (part_in hall me) names) where
  pub agreeing_held : has_names_by me (slot_at hall NAMES_SLOT) ≡ true
  agreeing_held = claims_held (has_names_by me (slot_at hall NAMES_SLOT)) (segs_in (slot_at hall MAX_HEAPS)) agree.claims (agree.claimed 0)

  known_there : (heap : ℕ) → heap < MAX_HEAPS → naming_at hall heap ≡ agree.namings heap
  known_there heap below =
      let known : naming_in (slot_at hall heap) ≡ Some (agree.namings heap) =
      ap (λ (b : Bool). naming_if b (naming_in (slot_at hall heap))) (sym agreeing_held) ∙ agree.known heap below in
      ap (λ (n : Option Naming). unwrap_or n (naming_of (opening_heap heap None))) known

  -- names that agree with what their holder knows agree with what stands
  pub agreed_by : AreAgreedNames names (naming_at hall) segs.ranges
  agreed_by =
      let claimed : claims_if true (Some segs) ≡ Some agree.claims =
      ap (claims_if true) (sym there) ∙ ap (λ (b : Bool). claims_if b (segs_in (slot_at hall MAX_HEAPS))) (sym agreeing_held) ∙ agree.claimed 0 in
      let same : segs.ranges ≡ agree.claims = same_Some segs.ranges agree.claims claimed in
      subst (AreAgreedNames names (naming_at hall)) (sym same)
      (agree_alike names agree.namings (naming_at hall) agree.claims known_there agree.agreed)

module _ (number : ℕ) (slot : SlotView) (old new : HallView) (here : slot_at new number ≡ Some slot)
    (elsewhere : (other : ℕ) → other ≢ number → slot_at new other ≡ slot_at old other) where
  -- a slot has changed that is to the names as it was
  pub naming_alike : naming_in (Some slot) ≡ naming_in (slot_at old number) → (heap : ℕ) → naming_at new heap ≡ naming_at old heap
  naming_alike alike heap =
      ap (λ (n : Option Naming). unwrap_or n (naming_of (opening_heap heap None)))
      (read_alike naming_in number slot old new here elsewhere alike heap)

  -- beside the slot of the names: who has these in hand has them still, and where they are at home, what they speak of is as it was
  pub names_beside : (segs given : SegsView) → number ≢ NAMES_SLOT
      → ((who : ℕ) → has_names (steps_of who new.mail) ≡ has_names (steps_of who old.mail))
      → (IsHome (slot_at old NAMES_SLOT) → ((heap : ℕ) → naming_at new heap ≡ naming_at old heap) × (given.ranges ≡ segs.ranges))
      → AreNamed old segs → AreNamed new given
  names_beside segs given apart hands stays named =
      let at : slot_at new NAMES_SLOT ≡ slot_at old NAMES_SLOT = elsewhere NAMES_SLOT (λ same. apart (sym same)) in
      record {
        names = named.names;
        there = ap names_of_slot at ∙ named.there;
        agrees = λ home.
            let was : IsHome (slot_at old NAMES_SLOT) = subst IsHome at home in
            let both = stays was in
            subst (AreAgreedNames named.names (naming_at new)) (sym both.1)
            (agree_alike named.names (naming_at old) (naming_at new) segs.ranges (λ heap below. both.0 heap) (named.agrees was));
        holder = λ who. hands who ∙ named.holder who ∙ ap (has_names_by who) (sym at);
      }

-- the names are taken
pub names_out : (me : ℕ) (names : NamesView) (segs : SegsView) (old new : HallView) → slot_at old NAMES_SLOT ≡ Some (home_slot (Names names))
    → slot_at new NAMES_SLOT ≡ Some (out_slot me (Names names)) → (number : ℕ) → new.mail ≡ old.mail ++ (me, Takes number (Names names)) ∷ []
    → AreNamed old segs → AreNamed new segs
names_out me names segs old new was now number mail named = record {
  names = names;
  there = ap names_of_slot now;
  agrees = λ home. absurd (not_home (subst IsHome now home));
  holder = λ who.
      ⊎_elim
      (λ (same : who ≡ me).
      ap (λ (n : ℕ). has_names (steps_of n new.mail)) same ∙ hands_own me (Takes number (Names names)) old new mail
      ∙ sym (ap (λ (n : ℕ). has_names_by n (slot_at new NAMES_SLOT)) same ∙ ap (has_names_by me) now ∙ eq-eqb me me refl))
      (λ (apart : who ≢ me).
      hands_other me (Takes number (Names names)) old new mail who apart ∙ named.holder who ∙ ap (has_names_by who) was
      ∙ sym (ap (has_names_by who) now ∙ ne_eqb me who (λ same. apart (sym same))))
      (cases_eq who me);
}
  where
    not_home : Some me ≡ None → ⊥
    not_home home = cc

-- the names are given, by who has them in hand
pub names_home : (me : ℕ) (given : NamesView) (segs : SegsView) (old new : HallView) → has_names_by me (slot_at old NAMES_SLOT) ≡ true
    → slot_at new NAMES_SLOT ≡ Some (home_slot (Names given))
    → ((heap : ℕ) → heap < MAX_HEAPS → naming_at new heap ≡ naming_at old heap) → (number : ℕ)
    → new.mail ≡ old.mail ++ (me, Gives number (Names given)) ∷ [] → AreAgreedNames given (naming_at old) segs.ranges → AreNamed old segs
    → AreNamed new segs
names_home me given segs old new has now same number mail agrees named = record {
  names = given;
  there = ap names_of_slot now;
  agrees = λ home. agree_alike given (naming_at old) (naming_at new) segs.ranges same agrees;
  holder = λ who.
      ⊎_elim
      (λ (is : who ≡ me).
      ap (λ (n : ℕ). has_names (steps_of n new.mail)) is ∙ hands_own me (Gives number (Names given)) old new mail ∙ sym (ap (has_names_by who) now))
      (λ (apart : who ≢ me).
      hands_other me (Gives number (Names given)) old new mail who apart ∙ named.holder who ∙ hands_once me who (slot_at old NAMES_SLOT) apart has
      ∙ sym (ap (has_names_by who) now))
      (cases_eq who me);
}
