-- Names that agree with the heaps and with the claimed external memory still do, or their holder knows what stands, through every kind of step.
use Rattle.std.proofs.Common.{◌≡◌, ◌≢◌, ◌∙◌, ℕ, ◌+◌, ◌<◌, List, [], map, get_or, Some, None, refl, sym, ap, subst, arith}
use Rattle.std.specs.List.{range_with_len}
use Rattle.std.proofs.lemmas.Option.{same_Some}
use mathlib.Core.Logic.{dite}
use native.Mathlib.Decide.{ℕ_discrete}
use Rattle.hp_base.specs.declared.limits.TheConstants.{MAX_HEAPS}
use Rattle.hp_segs.specs.SegsView.{SegsView}
use Rattle.hp_segs.specs.Standing.{Holding}
use Rattle.hp_segs.specs.declared.external_range.ExternalRange.{ExternalRange}
use Rattle.hp_hall.specs.AgreedNames.{AreAgreedNames}
use Rattle.hp_hall.specs.Holding.{AgreeWith}
use Rattle.hp_hall.specs.Naming.{Naming}
use Rattle.hp_hall.specs.declared.kept.Kept.{Kept}
use Rattle.hp_hall.specs.declared.kept.Kept.TheVariants.{Names, Segments}
use Rattle.hp_hall.specs.declared.slot.TheConstants.{NAMES_SLOT}
use Rattle.hp_hall.proofs.AgreedAlike.{agree_alike}
use Rattle.hp_zone.specs.declared.names.Names.{Names as NamesView}
use Rattle.hp_board.specs.Agreed.{AreNamesAgreed, KnowsNaming, KnowsNoNaming, naming_in}
use Rattle.hp_board.specs.Knowing.{heap_part}
use Rattle.hp_board.specs.Views.{Learned, value_of}
use Rattle.hp_board.specs.declared.view.Mine.{Mine}
use Rattle.hp_board.proofs.NamesFacts.Renamed.{value_of-range}
use Rattle.hp_board.proofs.Updates.{with_at, with_at-else, with_at-here, each}

-- what the names speak of, of each heap, with its slot
abbrev pub namings_at : (ℕ → Kept) → List (ℕ × Naming)
namings_at kept = map (λ (slot : ℕ). (slot, naming_in (kept slot))) (range_with_len 0 MAX_HEAPS)

-- what a taker learns beside the value of a slot
abbrev pub learns : Holding → List (ℕ × Naming) → List ExternalRange → Learned
learns holding namings claims = record { holding = holding; namings = namings; claims = claims }

pub names_known : (kept : ℕ → Kept) (slot : ℕ) → slot < MAX_HEAPS → value_of slot (namings_at kept) ≡ Some (naming_in (kept slot))
names_known kept slot below = value_of-range (λ (s : ℕ). naming_in (kept s)) 0 MAX_HEAPS slot (omega arith) (omega (arith, below))

module _ (participants : ℕ) (words : List ℕ) (kept : ℕ → Kept) (mine : ℕ → Mine) (agreed : AreNamesAgreed participants words kept mine) where
  -- what somebody knows for the names, where it does, is what stands
  pub naming_known : (who slot : ℕ) (naming : Naming) → who < participants → slot < MAX_HEAPS → value_of slot (mine who).namings ≡ Some naming
      → naming_in (kept slot) ≡ naming
  naming_known who slot naming may below is =
      dite (ℕ_discrete (get_or words NAMES_SLOT 0) (who + 1))
      (λ held. same_Some (naming_in (kept slot)) naming (sym ((agreed.holder who may held).namings slot below) ∙ is))
      (λ apart.
      let none : None ≡ Some naming = ap (value_of slot) (sym (agreed.others who may apart).namings) ∙ is in
      cc)

  pub claims_known : (who : ℕ) (claims : List ExternalRange) → who < participants → (mine who).claims ≡ Some claims → agreed.segs.ranges ≡ claims
  claims_known who claims may is =
      dite (ℕ_discrete (get_or words NAMES_SLOT 0) (who + 1))
      (λ held. same_Some agreed.segs.ranges claims (sym (agreed.holder who may held).claims ∙ is))
      (λ apart.
      let none : None ≡ Some claims = sym (agreed.others who may apart).claims ∙ is in
      cc)

  module _ (part : Mine) (known : part ≡ mine part.who) (declared : part.who < participants) where
    part_knows : get_or words NAMES_SLOT 0 ≡ part.who + 1 → KnowsNaming kept agreed.segs part
    part_knows held = subst (KnowsNaming kept agreed.segs) (sym known) (agreed.holder part.who declared held)

    part_none : get_or words NAMES_SLOT 0 ≢ part.who + 1 → KnowsNoNaming part
    part_none apart = subst KnowsNoNaming (sym known) (agreed.others part.who declared apart)

    -- a step beside the names: who makes it knows what stands where it has the names in hand, and else leaves what the names speak of
    module _ (words' : List ℕ) (still : get_or words' NAMES_SLOT 0 ≡ get_or words NAMES_SLOT 0) (kept' : ℕ → Kept) (segs' : SegsView)
        (names_there : kept' NAMES_SLOT ≡ Names agreed.names) (segs_there : kept' MAX_HEAPS ≡ Segments segs') (new : Mine)
        (knows : get_or words NAMES_SLOT 0 ≡ part.who + 1 → KnowsNaming kept agreed.segs part → KnowsNaming kept' segs' new)
        (knows_none : KnowsNoNaming part → KnowsNoNaming new)
        (leaves : get_or words NAMES_SLOT 0 ≢ part.who + 1
        → ((slot : ℕ) → slot < MAX_HEAPS → naming_in (kept' slot) ≡ naming_in (kept slot)) × (segs'.ranges ≡ agreed.segs.ranges)) where
      others_know : (who : ℕ) → who ≢ part.who → get_or words NAMES_SLOT 0 ≡ who + 1 → KnowsNaming kept agreed.segs (mine who) → KnowsNaming kept' segs' (mine who)
      others_know who apart held was =
          let same = leaves (λ its. apart (omega (arith, held, its))) in
          record {
            namings = λ slot below. was.namings slot below ∙ ap (λ (n : Naming). Some n) (sym (same.0 slot below));
            claims = was.claims ∙ ap (λ (r : List ExternalRange). Some r) (sym same.1);
          }

      pub agreed_else : AreNamesAgreed participants words' kept' (with_at part.who new mine)
      agreed_else = record {
        names = agreed.names;
        there = names_there;
        segs = segs';
        segs_there = segs_there;
        home = λ free.
            let was : get_or words NAMES_SLOT 0 ≡ 0 = sym still ∙ free in
            let same = leaves (λ held. omega (arith, was, held)) in
            subst (AreAgreedNames agreed.names (λ slot. naming_in (kept' slot))) (sym same.1)
            (agree_alike agreed.names (λ slot. naming_in (kept slot)) (λ slot. naming_in (kept' slot)) agreed.segs.ranges same.0 (agreed.home was));
        holder = each (λ w m. w < participants → get_or words' NAMES_SLOT 0 ≡ w + 1 → KnowsNaming kept' segs' m) part.who new mine
            (λ may is. knows (sym still ∙ is) (part_knows (sym still ∙ is)))
            (λ w apart may is. others_know w apart (sym still ∙ is) (agreed.holder w may (sym still ∙ is)));
        others = each (λ w m. w < participants → get_or words' NAMES_SLOT 0 ≢ w + 1 → KnowsNoNaming m) part.who new mine
            (λ may is. knows_none (part_none (λ same. is (still ∙ same))))
            (λ w apart may is. agreed.others w may (λ same. is (still ∙ same)));
      }

    -- a step that changes nothing of it
    pub agreed_same : (words' : List ℕ) (new : Mine) → get_or words' NAMES_SLOT 0 ≡ get_or words NAMES_SLOT 0 → new.namings ≡ part.namings → new.claims ≡ part.claims
        → AreNamesAgreed participants words' kept (with_at part.who new mine)
    agreed_same words' new still namings claims =
        agreed_else words' still kept agreed.segs agreed.there agreed.segs_there new
        (λ held was. record { namings = λ slot below. ap (value_of slot) namings ∙ was.namings slot below; claims = claims ∙ was.claims })
        (λ none. record { namings = namings ∙ none.namings; claims = claims ∙ none.claims }) (λ apart. (λ slot below. refl, refl))

    -- the names are taken: the taker knows what stands, with which they agree
    pub agreed_taken : (words' : List ℕ) (new : Mine) → get_or words NAMES_SLOT 0 ≡ 0 → get_or words' NAMES_SLOT 0 ≡ part.who + 1 → new.namings ≡ namings_at kept
        → new.claims ≡ Some agreed.segs.ranges → AreNamesAgreed participants words' kept (with_at part.who new mine)
    agreed_taken words' new free held namings claims = record {
      names = agreed.names;
      there = agreed.there;
      segs = agreed.segs;
      segs_there = agreed.segs_there;
      home = λ none. absurd (omega (arith, held, none));
      holder = each (λ w m. w < participants → get_or words' NAMES_SLOT 0 ≡ w + 1 → KnowsNaming kept agreed.segs m) part.who new mine
          (λ may is. record { namings = λ slot below. ap (value_of slot) namings ∙ names_known kept slot below; claims = claims })
          (λ w apart may is. absurd (apart (omega (arith, held, is))));
      others = each (λ w m. w < participants → get_or words' NAMES_SLOT 0 ≢ w + 1 → KnowsNoNaming m) part.who new mine
          (λ may apart. absurd (apart held)) (λ w apart may is. agreed.others w may (λ same. omega (arith, same, free)));
    }

    -- names that agree with what their holder knows agree with what stands
    agreed_with : get_or words NAMES_SLOT 0 ≡ part.who + 1 → (given : NamesView) → AgreeWith (heap_part part) given
        → AreAgreedNames given (λ slot. naming_in (kept slot)) agreed.segs.ranges
    agreed_with held given agree =
        let was = part_knows held in
        let same : agreed.segs.ranges ≡ agree.claims = same_Some agreed.segs.ranges agree.claims (sym was.claims ∙ agree.claimed 0) in
        subst (AreAgreedNames given (λ slot. naming_in (kept slot))) (sym same)
        (agree_alike given agree.namings (λ slot. naming_in (kept slot)) agree.claims
        (λ slot below. same_Some (naming_in (kept slot)) (agree.namings slot) (sym (was.namings slot below) ∙ agree.known slot below)) agree.agreed)

    -- the names are given
    pub agreed_given : (words' : List ℕ) (given : NamesView) (new : Mine) → get_or words NAMES_SLOT 0 ≡ part.who + 1 → get_or words' NAMES_SLOT 0 ≡ 0
        → AgreeWith (heap_part part) given → new.namings ≡ [] → new.claims ≡ None
        → AreNamesAgreed participants words' (with_at NAMES_SLOT (Names given) kept) (with_at part.who new mine)
    agreed_given words' given new held free agree namings claims = record {
      names = given;
      there = with_at-here NAMES_SLOT (Names given) kept;
      segs = agreed.segs;
      segs_there = with_at-else NAMES_SLOT (Names given) kept MAX_HEAPS (λ same. omega (arith, same)) ∙ agreed.segs_there;
      home = λ _.
          agree_alike given (λ slot. naming_in (kept slot)) (λ slot. naming_in (with_at NAMES_SLOT (Names given) kept slot)) agreed.segs.ranges
          (λ slot below. ap naming_in (with_at-else NAMES_SLOT (Names given) kept slot (λ same. omega (arith, same, below)))) (agreed_with held given agree);
      holder = λ who may is. absurd (omega (arith, is, free));
      others = each (λ w m. w < participants → get_or words' NAMES_SLOT 0 ≢ w + 1 → KnowsNoNaming m) part.who new mine
          (λ may apart. record { namings = namings; claims = claims })
          (λ w apart may is. agreed.others w may (λ same. apart (omega (arith, same, held))));
    }
