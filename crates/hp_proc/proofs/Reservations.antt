-- A reservation line is refused as the call of the memzones refuses it.
use Rattle.std.proofs.Common.{◌≡◌, ◌≢◌, ◌∙◌, ℕ, Bool, true, false, List, [], ◌∷◌, length, Some, None, inl, inr, refl, ap, sym, arith}
use Rattle.std.specs.Prelude.{nat_le}
use Rattle.std.specs.List.{list_any}
use Rattle.std.proofs.lemmas.Bool.{and_from, and_parts, false_from_ne_true, true_from_ne_false, true≢false, leb-true, le-leb, or_cases, or_parts}
use Rattle.std.proofs.lemmas.List.Elements.{All-cons, All-head, All-nil, All-tail}
use Rattle.std.proofs.lemmas.Slice.Eq.{bytes_eq-Decides}
use Rattle.hp_base.specs.Requests.{is_align}
use Rattle.hp_script.specs.declared.options.Options.{Options}
use Rattle.hp_zone.specs.Checking.{IsAcceptable, IsFirstFault, StandsAgainst}
use Rattle.hp_zone.specs.Zones.{IsNotFound, IsZoneName, has_name}
use Rattle.hp_zone.specs.declared.fault.ZoneFault.{ZoneFault}
use Rattle.hp_zone.specs.declared.fault.ZoneFault.TheVariants as fault
use Rattle.hp_zone.specs.declared.limits.TheConstants.{MAX_ZONES, MAX_ZONE_NAME}
use Rattle.hp_zone.specs.declared.zone.Zone.{Zone}
use Rattle.hp_proc.specs.SharedNames.{is_short_name}
use Rattle.hp_proc.specs.VerbLaws.{ReservationsAgree, asked_for}
use Rattle.hp_proc.specs.ZoneLines.{zone_fault}

-- a name has 1 to 31 bytes where the test says so
pub short_from : (text : List ℕ) → IsZoneName text → is_short_name text ≡ true
short_from text is =
    and_from (nat_le 1 (length text)) (nat_le (length text) MAX_ZONE_NAME) (le-leb 1 (length text) is.some)
    (le-leb (length text) MAX_ZONE_NAME is.short)

pub short_to : (text : List ℕ) → is_short_name text ≡ true → IsZoneName text
short_to text passes =
    let both = and_parts (nat_le 1 (length text)) (nat_le (length text) MAX_ZONE_NAME) passes in
    record { some = leb-true 1 (length text) both.0; short = leb-true (length text) MAX_ZONE_NAME both.1 }

abbrev HasOtherName : List ℕ → Zone → Type 0
HasOtherName text zone = zone.name ≢ text

-- a name is found where a memzone has it
found_not : (text : List ℕ) (zones : List Zone) → list_any (has_name text) zones ≡ true → IsNotFound zones text → ⊥
found_not text [] any none = cc
found_not text (zone ∷ zones) any none =
    elim (or_cases (has_name text zone) (list_any (has_name text) zones) any) [
      | inl named ↦ All-head (HasOtherName text) zone zones none ((bytes_eq-Decides zone.name text).0 named)
      | inr more ↦ found_not text zones more (All-tail (HasOtherName text) zone zones none)
    ]

not_found : (text : List ℕ) (zones : List Zone) → list_any (has_name text) zones ≡ false → IsNotFound zones text
not_found text [] none = All-nil (HasOtherName text)
not_found text (zone ∷ zones) none =
    let both = or_parts (has_name text zone) (list_any (has_name text) zones) none in
    let other : zone.name ≢ text = λ same. true≢false (sym ((bytes_eq-Decides zone.name text).1 same) ∙ both.0) in
    All-cons (HasOtherName text) zone zones other (not_found text zones both.1)

module _ (zones : List Zone) (text : List ℕ) (len : ℕ) (options : Options) where
  abbrev short : Bool
  short = is_short_name text

  abbrev taken : Bool
  taken = list_any (has_name text) zones

  abbrev full : Bool
  full = nat_le MAX_ZONES (length zones)

  abbrev Stands : ZoneFault → Type 0
  Stands = StandsAgainst zones (asked_for text len options)

  -- where one does not stand, its test is passed
  is_short : (Stands fault.NameLong → ⊥) → short ≡ true
  is_short passes = true_from_ne_false short (λ fails. passes (λ is. true≢false (sym (short_from text is) ∙ fails)))

  is_free : (Stands fault.Exists → ⊥) → taken ≡ false
  is_free passes = false_from_ne_true taken (λ any. passes (found_not text zones any))

  has_place : ((limit : ℕ) → Stands (fault.NoSpace limit) → ⊥) → full ≡ false
  has_place passes = false_from_ne_true full (λ none. passes MAX_ZONES (refl, leb-true MAX_ZONES (length zones) none))

  is_aligned : (Stands fault.BadAlign → ⊥) → is_align options.align ≡ true
  is_aligned passes = true_from_ne_false (is_align options.align) passes

  refused : (given : ZoneFault) → IsFirstFault zones (asked_for text len options) given → zone_fault zones text len options ≡ Some given
  refused fault.NameLong is =
      let long : short ≡ false = false_from_ne_true short (λ passes. is.stands (short_to text passes)) in
      rw long refl
  refused fault.Exists is =
      let named = is_short (is.first fault.NameLong (omega arith)) in
      let any : taken ≡ true = true_from_ne_false taken (λ none. is.stands (not_found text zones none)) in
      rw named (rw any refl)
  refused (fault.NoSpace limit) is =
      let named = is_short (is.first fault.NameLong (omega arith)) in
      let free = is_free (is.first fault.Exists (omega arith)) in
      let none : full ≡ true = le-leb MAX_ZONES (length zones) is.stands.1 in
      let its_limit = is.stands.0 in
      rw named (rw free (rw none (ap (λ (n : ℕ). Some (fault.NoSpace n)) (sym its_limit))))
  refused fault.BadAlign is =
      let named = is_short (is.first fault.NameLong (omega arith)) in
      let free = is_free (is.first fault.Exists (omega arith)) in
      let place = has_place (λ limit. is.first (fault.NoSpace limit) (omega arith)) in
      rw named (rw free (rw place (rw is.stands refl)))
  refused fault.BadBound is =
      let named = is_short (is.first fault.NameLong (omega arith)) in
      let free = is_free (is.first fault.Exists (omega arith)) in
      let place = has_place (λ limit. is.first (fault.NoSpace limit) (omega arith)) in
      let aligned = is_aligned (is.first fault.BadAlign (omega arith)) in
      rw named (rw free (rw place (rw aligned (rw is.stands refl))))

  accepted : IsAcceptable zones (asked_for text len options) → zone_fault zones text len options ≡ None
  accepted is =
      let named = short_from text is.name in
      let free : taken ≡ false = false_from_ne_true taken (λ any. found_not text zones any is.fresh) in
      let place : full ≡ false = false_from_ne_true full (λ none. absurd (omega (arith, leb-true MAX_ZONES (length zones) none, is.place))) in
      rw named (rw free (rw place (rw is.aligned (rw is.bounded refl))))

  pub reservations_agree : ReservationsAgree zones text len options
  reservations_agree = record { refused = refused; accepted = accepted }
