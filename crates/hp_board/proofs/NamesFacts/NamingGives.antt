-- Takes and gives of slots keep what the names agree with.
use Rattle.std.proofs.Common.{◌≡◌, ◌≢◌, ◌∙◌, ℕ, ◌+◌, ◌<◌, false, List, length, get_or, set, Option, Some, refl, sym, ap, subst, arith, get_or-set_other, get_or-set_same}
use Rattle.std.specs.Option.{is_some, option_map}
use mathlib.Core.Option as maybe
use Rattle.hp_base.specs.declared.limits.TheConstants.{MAX_HEAPS}
use Rattle.hp_segs.specs.SegsView.{SegsView}
use Rattle.hp_segs.specs.Standing.{Holding}
use Rattle.hp_segs.specs.declared.external_range.ExternalRange.{ExternalRange}
use Rattle.hp_hall.specs.Giving.{GivesSegments, GivesTheNames}
use Rattle.hp_hall.specs.Naming.{Naming, naming_of}
use Rattle.hp_hall.specs.Views.{HeldHeap}
use Rattle.hp_hall.specs.declared.kept.Kept.{Kept}
use Rattle.hp_hall.specs.declared.kept.Kept.TheVariants.{Heap, Names, Segments}
use Rattle.hp_hall.specs.declared.slot.TheConstants.{NAMES_SLOT}
use Rattle.hp_hall.proofs.Formed.{ranges_given}
use Rattle.hp_zone.specs.declared.names.Names.{Names as NamesView}
use Rattle.hp_board.specs.Agreed.{AreNamesAgreed, naming_in}
use Rattle.hp_board.specs.Giving.{GivesAt, GivesHeldAt}
use Rattle.hp_board.specs.KeptValues.{IsKeptAt}
use Rattle.hp_board.specs.Knowing.{knows_of}
use Rattle.hp_board.specs.Locks.{AreLocked}
use Rattle.hp_board.specs.Views.{after_give, after_take, claims_taken, holds_names, namings_taken, value_of}
use Rattle.hp_board.specs.declared.opening.Opening.{Opening}
use Rattle.hp_board.specs.declared.view.Mine.{Mine}
use Rattle.hp_board.specs.declared.words.TheConstants.{SLOTS, WORDS}
use Rattle.hp_board.proofs.OwnershipFacts.GivenTaken.{by_gives}
use Rattle.hp_board.proofs.StepsOfSeats.LockSteps.{held_no, kept_taken, word_taken}
use Rattle.hp_board.proofs.StepsOfSeats.NamingSteps.{agreed_else, agreed_given, agreed_same, agreed_taken, learns, namings_at}
use Rattle.hp_board.proofs.NamesFacts.Renamed.{renamed_else, renamed_here}
use Rattle.hp_board.proofs.Updates.{each, with_at, with_at-else, with_at-here}

module _ (opening : Opening) (participants : ℕ) (words : List ℕ) (kept : ℕ → Kept) (mine : ℕ → Mine) (agreed : AreNamesAgreed participants words kept mine)
    (part : Mine) (known : part ≡ mine part.who) (declared : part.who < participants) (wide : length words ≡ WORDS) (slot : ℕ) (inside : slot < SLOTS) where
  -- a slot is taken
  pub agreed_take : (holding : Holding) → get_or words slot 0 ≡ 0 → IsKeptAt opening slot (kept slot)
      → AreNamesAgreed participants (set words slot (part.who + 1)) kept
      (with_at part.who (after_take slot (kept slot) (learns holding (namings_at kept) agreed.segs.ranges) part) mine)
  agreed_take holding free at = by (kept slot) refl at
    where
      new : Mine
      new = after_take slot (kept slot) (learns holding (namings_at kept) agreed.segs.ranges) part

      beside : slot ≢ NAMES_SLOT → new.namings ≡ part.namings → new.claims ≡ part.claims
          → AreNamesAgreed participants (set words slot (part.who + 1)) kept (with_at part.who new mine)
      beside apart namings claims =
          agreed_same participants words kept mine agreed part known declared (set words slot (part.who + 1)) new
          (get_or-set_other words slot NAMES_SLOT (part.who + 1) 0 (λ same. apart (sym same))) namings claims

      by : (value : Kept) → kept slot ≡ value → IsKeptAt opening slot value → AreNamesAgreed participants (set words slot (part.who + 1)) kept (with_at part.who new mine)
      by (Heap heap pen) is at =
          let below = at.heap.below in
          beside (λ same. omega (arith, same, below))
          (ap (λ (v : Kept). namings_taken v (learns holding (namings_at kept) agreed.segs.ranges) part.namings) is)
          (ap (λ (v : Kept). claims_taken v (learns holding (namings_at kept) agreed.segs.ranges) part.claims) is)
      by (Segments segs) is at =
          let last = at.last in
          beside (λ same. omega (arith, same, last))
          (ap (λ (v : Kept). namings_taken v (learns holding (namings_at kept) agreed.segs.ranges) part.namings) is)
          (ap (λ (v : Kept). claims_taken v (learns holding (namings_at kept) agreed.segs.ranges) part.claims) is)
      by (Names names) is at =
          agreed_taken participants words kept mine agreed part known declared (set words slot (part.who + 1)) new
          (ap (λ (k : ℕ). get_or words k 0) (sym at.last) ∙ free)
          (ap (λ (k : ℕ). get_or (set words slot (part.who + 1)) k 0) (sym at.last) ∙ get_or-set_same words slot (part.who + 1) 0 (omega (arith, wide, inside)))
          (ap (λ (v : Kept). namings_taken v (learns holding (namings_at kept) agreed.segs.ranges) part.namings) is)
          (ap (λ (v : Kept). claims_taken v (learns holding (namings_at kept) agreed.segs.ranges) part.claims) is)

  module _ (homes : List (maybe.Option (Option Kept))) (locked : AreLocked participants words homes kept mine) where
    -- who has not the names' word has not the names in hand
    pub unnamed : get_or words NAMES_SLOT 0 ≢ part.who + 1 → holds_names part ≡ false
    unnamed apart =
        ap is_some (ap (λ (m : Mine). value_of NAMES_SLOT m.held) known ∙ locked.held part.who NAMES_SLOT declared (omega arith)
        ∙ held_no part.who (get_or words NAMES_SLOT 0) (kept NAMES_SLOT) apart)

    stood : (taken : Kept) → value_of slot part.held ≡ Some taken → kept slot ≡ taken
    stood = kept_taken participants words homes kept mine locked wide slot inside part known declared

    heap_given : (taken given : HeldHeap) → GivesHeldAt (knows_of part) taken given → value_of slot part.held ≡ Some (Heap taken.heap taken.pen) → slot < MAX_HEAPS
        → AreNamesAgreed participants (set words slot 0) (with_at slot (Heap given.heap given.pen) kept)
        (with_at part.who (after_give slot (Heap given.heap given.pen) part) mine)
    heap_given taken given gives held below =
        let value : Kept = Heap given.heap given.pen in
        let naming : Naming = naming_of given.heap.plain in
        agreed_else participants words kept mine agreed part known declared (set words slot 0)
        (get_or-set_other words slot NAMES_SLOT 0 0 (λ same. omega (arith, same, below))) (with_at slot value kept) agreed.segs
        (with_at-else slot value kept NAMES_SLOT (λ same. omega (arith, same, below)) ∙ agreed.there)
        (with_at-else slot value kept MAX_HEAPS (λ same. omega (arith, same, below)) ∙ agreed.segs_there) (after_give slot value part)
        (λ has was. record {
          namings = each (λ j v. j < MAX_HEAPS → value_of j (after_give slot value part).namings ≡ Some (naming_in v)) slot value kept
              (λ low. renamed_here slot naming part.namings ∙ ap (option_map (λ (n : Naming). naming)) (was.namings slot low))
              (λ j apart low. renamed_else slot j naming part.namings apart ∙ was.namings j low);
          claims = was.claims;
        })
        (λ none. record {
          namings = ap (λ (l : List (ℕ × Naming)). (after_give slot value (record part { namings = l })).namings) none.namings;
          claims = none.claims;
        })
        (λ apart. (
          λ j low.
              each (λ j v. naming_in v ≡ naming_in (kept j)) slot value kept
              (gives.heap.named (unnamed apart) ∙ ap naming_in (sym (stood (Heap taken.heap taken.pen) held))) (λ j other. refl) j,
          refl,
        ))

    segs_given : (taken given : SegsView) → GivesSegments (knows_of part) taken given → value_of slot part.held ≡ Some (Segments taken) → slot ≡ MAX_HEAPS
        → AreNamesAgreed participants (set words slot 0) (with_at slot (Segments given) kept) (with_at part.who (after_give slot (Segments given) part) mine)
    segs_given taken given gives held last =
        let value : Kept = Segments given in
        let was_there : kept slot ≡ Segments taken = stood (Segments taken) held in
        let alike : (j : ℕ) → naming_in (with_at slot value kept j) ≡ naming_in (kept j) =
        each (λ j v. naming_in v ≡ naming_in (kept j)) slot value kept (ap naming_in (sym was_there)) (λ j other. refl) in
        let both : Segments taken ≡ Segments agreed.segs = sym was_there ∙ (ap kept last ∙ agreed.segs_there) in
        let same : taken ≡ agreed.segs = cc in
        agreed_else participants words kept mine agreed part known declared (set words slot 0)
        (get_or-set_other words slot NAMES_SLOT 0 0 (λ same. omega (arith, same, last))) (with_at slot value kept) given
        (with_at-else slot value kept NAMES_SLOT (λ same. omega (arith, same, last)) ∙ agreed.there)
        (ap (with_at slot value kept) (sym last) ∙ with_at-here slot value kept) (after_give slot value part)
        (λ has was. record {
          namings = λ j low. was.namings j low ∙ ap (λ (n : Naming). Some n) (sym (alike j));
          claims = ap (option_map (λ (old : List ExternalRange). given.ranges)) was.claims;
        })
        (λ none. record { namings = none.namings; claims = ap (option_map (λ (old : List ExternalRange). given.ranges)) none.claims })
        (λ apart. (
          λ j low. alike j,
          ranges_given (knows_of part) taken given gives.form (unnamed apart) ∙ ap (λ (s : SegsView). s.ranges) same,
        ))

    names_given : (taken given : NamesView) → GivesTheNames (knows_of part) taken given → value_of slot part.held ≡ Some (Names taken) → slot ≡ NAMES_SLOT
        → AreNamesAgreed participants (set words slot 0) (with_at slot (Names given) kept) (with_at part.who (after_give slot (Names given) part) mine)
    names_given taken given gives held last =
        subst (λ (k : ℕ). AreNamesAgreed participants (set words slot 0) (with_at k (Names given) kept) (with_at part.who (after_give slot (Names given) part) mine)) (sym last)
        (agreed_given participants words kept mine agreed part known declared (set words slot 0) given (after_give slot (Names given) part)
        (ap (λ (k : ℕ). get_or words k 0) (sym last)
        ∙ word_taken participants words homes kept mine locked wide slot inside part known declared (Names taken) held)
        (ap (λ (k : ℕ). get_or (set words slot 0) k 0) (sym last) ∙ get_or-set_same words slot 0 0 (omega (arith, wide, inside)))
        gives.agrees refl refl)

    -- a slot is given
    pub agreed_give : (taken given : Kept) → value_of slot part.held ≡ Some taken → IsKeptAt opening slot taken → GivesAt (knows_of part) taken given
        → AreNamesAgreed participants (set words slot 0) (with_at slot given kept) (with_at part.who (after_give slot given part) mine)
    agreed_give taken given held at gives =
        by_gives (knows_of part)
        (λ taken given. value_of slot part.held ≡ Some taken → IsKeptAt opening slot taken
        → AreNamesAgreed participants (set words slot 0) (with_at slot given kept) (with_at part.who (after_give slot given part) mine))
        (λ taken given gives held at. heap_given taken given gives held at.heap.below) (λ taken given gives held at. segs_given taken given gives held at.last)
        (λ taken given gives held at. names_given taken given gives held at.last) taken given gives held at
