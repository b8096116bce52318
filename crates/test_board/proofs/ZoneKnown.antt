-- What a participant that has the names in hand knows of the heaps and of external memory, and that the names which it gives agree with that.
use Rattle.std.proofs.Common.{◌≡◌, ◌≢◌, ◌∙◌, ℕ, ◌<◌, List, Option, Some, Contains, sym, ap, subst, lit<}
use Rattle.std.specs.Option.{option_map}
use mathlib.Core.Logic.{dite}
use native.Mathlib.Decide.{ℕ_discrete}
use Rattle.hp_base.specs.declared.limits.TheConstants.{MAX_HEAPS}
use Rattle.hp_heap.specs.History.{HeapView}
use Rattle.hp_segs.specs.SegsView.{SegsView}
use Rattle.hp_segs.specs.declared.external_range.ExternalRange.{ExternalRange}
use Rattle.hp_zone.specs.declared.names.Names.{Names as NamesView}
use Rattle.hp_stats.specs.StatViews.{PenView}
use Rattle.std.proofs.lemmas.Option.{same_Some}
use Rattle.hp_hall.specs.AgreedNames.{AreAgreedNames, chunk_memory}
use Rattle.hp_hall.specs.Holding.{AgreeWith, StandsFor}
use Rattle.hp_hall.specs.Naming.{Naming, naming_of}
use Rattle.hp_hall.specs.declared.kept.Kept.{Kept}
use Rattle.hp_hall.specs.declared.kept.Kept.TheVariants.{Heap, Names, Segments}
use Rattle.hp_board.specs.Handed.{HasTakenLater, IsHanded}
use Rattle.hp_board.specs.KeptValues.{IsKeptAt}
use Rattle.hp_board.specs.Knowing.{heap_part}
use Rattle.hp_board.specs.Views.{after_give, claims_taken, namings_taken, value_of}
use Rattle.hp_board.specs.declared.view.Mine.{Mine}
use Rattle.hp_board.proofs.NamesFacts.Renamed.{renamed_else, renamed_here}
use Rattle.test_board.specs.Zoned.{AgreeStill, HasGone, HasOneMore, HasPut, with_naming}
use Rattle.test_board.proofs.ZoneAgreed.{gone_agrees, naming_else, naming_here, put_agrees}
use Rattle.test_board.proofs.ZoneHands.{AreKnownClaimed}
use Rattle.hp_hall.proofs.ClaimedChunks.{all_claimed, claimed_all}

-- it knows this of the heaps, and this of external memory
pub record KnowsThese (namings : ℕ → Naming) (claims : List ExternalRange) (mine : Mine) : Type 0 where
  pub known : (heap : ℕ) → heap < MAX_HEAPS → value_of heap mine.namings ≡ Some (namings heap)
  pub claimed : mine.claims ≡ Some claims

-- who knows as much, with which the names agree
pub agree_with : (namings : ℕ → Naming) (claims : List ExternalRange) (mine : Mine) (names : NamesView) → KnowsThese namings claims mine
    → AreAgreedNames names namings claims → AgreeWith (heap_part mine) names
agree_with namings claims mine names knows agreed =
    record { namings = namings; claims = claims; known = knows.known; claimed = λ heap. knows.claimed; agreed = agreed }

pub known_of : (mine : Mine) (names : NamesView) (agree : AgreeWith (heap_part mine) names) → KnowsThese agree.namings agree.claims mine
known_of mine names agree = record { known = agree.known; claimed = agree.claimed 0 }

-- who takes the names learns it
pub names_agree : (old new : Mine) (kept : Kept) (names : NamesView) → IsHanded old 33 kept new → kept ≡ Names names → AgreeWith (heap_part new) names
names_agree old new kept names handed is = subst (StandsFor old.who (heap_part new)) is handed.stands

module _ (namings : ℕ → Naming) (claims : List ExternalRange) (old new : Mine) (knows : KnowsThese namings claims old) where
  known_same : new.namings ≡ old.namings → new.claims ≡ old.claims → KnowsThese namings claims new
  known_same same also = record {
    known = λ heap below. ap (value_of heap) same ∙ knows.known heap below;
    claimed = also ∙ knows.claimed;
  }

  -- it is known still once a heap is taken, and that heap is as it was known
  module _ (kept : Kept) (heap : HeapView) (pen : PenView) (is : kept ≡ Heap heap pen) (taken : HasTakenLater 1 kept old new) where
    pub known_with_heap : KnowsThese namings claims new
    known_with_heap =
        known_same
        (ap (λ (m : Mine). m.namings) taken.view.1 ∙ ap (λ (k : Kept). namings_taken k taken.learned old.namings) is)
        (ap (λ (m : Mine). m.claims) taken.view.1 ∙ ap (λ (k : Kept). claims_taken k taken.learned old.claims) is)

    pub heap_as_known : IsHanded old 1 kept new → 1 < MAX_HEAPS → namings 1 ≡ naming_of heap.plain
    heap_as_known handed low =
        let at = subst (IsKeptAt old.opening 1) is handed.at in
        let stands = subst (StandsFor old.who (heap_part new)) is handed.stands in
        sym (stands.named (namings 1) (ap (λ (k : ℕ). value_of k new.namings) at.heap.index ∙ known_with_heap.known 1 low))

  -- and once the segment value is taken, which has the memory that was known
  module _ (kept : Kept) (segs : SegsView) (is : kept ≡ Segments segs) (taken : HasTakenLater 32 kept old new) where
    pub known_with_segs : KnowsThese namings claims new
    known_with_segs =
        known_same
        (ap (λ (m : Mine). m.namings) taken.view.1 ∙ ap (λ (k : Kept). namings_taken k taken.learned old.namings) is)
        (ap (λ (m : Mine). m.claims) taken.view.1 ∙ ap (λ (k : Kept). claims_taken k taken.learned old.claims) is)

    pub segs_as_known : IsHanded old 32 kept new → segs.ranges ≡ claims
    segs_as_known handed =
        let stands = subst (StandsFor old.who (heap_part new)) is handed.stands in
        stands.claims 0 claims known_with_segs.claimed

  -- once heap 1 is given, what was given is known of it
  pub known_heap_given : (given : HeapView) (pen : PenView) → new ≡ after_give 1 (Heap given pen) old
      → KnowsThese (with_naming 1 (naming_of given.plain) namings) claims new
  known_heap_given given pen gave =
      let naming = naming_of given.plain in
      record {
        known = λ heap below.
            ap (λ (m : Mine). value_of heap m.namings) gave
            ∙ dite (ℕ_discrete heap 1)
            (λ here.
            subst (λ (k : ℕ). value_of k (after_give 1 (Heap given pen) old).namings ≡ Some (with_naming 1 naming namings k)) (sym here)
            (renamed_here 1 naming old.namings ∙ (ap (option_map (λ (n : Naming). naming)) (knows.known 1 (subst (λ (k : ℕ). k < MAX_HEAPS) here below))
            ∙ ap Some (sym (naming_here 1 naming namings)))))
            (λ apart. renamed_else 1 heap naming old.namings apart ∙ (knows.known heap below ∙ ap Some (sym (naming_else 1 naming namings heap apart))));
        claimed = ap (λ (m : Mine). m.claims) gave ∙ knows.claimed;
      }

  -- and once the segment value is given, the memory that it then has
  pub known_segs_given : (given : SegsView) → new ≡ after_give 32 (Segments given) old → KnowsThese namings given.ranges new
  known_segs_given given gave = record {
    known = λ heap below. ap (λ (m : Mine). value_of heap m.namings) gave ∙ knows.known heap below;
    claimed = ap (λ (m : Mine). m.claims) gave ∙ ap (option_map (λ (l : List ExternalRange). given.ranges)) knows.claimed;
  }

-- A ZONE IS PUT OR GONE, AND ITS ELEMENT ALLOCATED OR FREED, with the names in hand

module _ (addr : ℕ) (names given : NamesView) (before after : HeapView) (pen : PenView) (kept : Kept) (old mid new : Mine) (agree : AgreeWith (heap_part old) names)
    (is : kept ≡ Heap before pen) (taken : HasTakenLater 1 kept old mid) (handed : IsHanded old 1 kept mid) (gave : new ≡ after_give 1 (Heap after pen) mid) where
  knew : KnowsThese agree.namings agree.claims old
  knew = known_of old names agree

  own : agree.namings 1 ≡ naming_of before.plain
  own = heap_as_known agree.namings agree.claims old mid knew kept before pen is taken handed (lit< tt)

  known_then : KnowsThese (with_naming 1 (naming_of after.plain) agree.namings) agree.claims new
  known_then = known_heap_given agree.namings agree.claims mid new (known_with_heap agree.namings agree.claims old mid knew kept before pen is taken) after pen gave

  pub put_known : HasPut addr names given → HasOneMore addr (naming_of before.plain) (naming_of after.plain) → AgreeWith (heap_part new) given
  put_known put more =
      agree_with (with_naming 1 (naming_of after.plain) agree.namings) agree.claims new given known_then
      (put_agrees addr names given agree.namings agree.claims agree.agreed (naming_of after.plain) put
      (subst (λ (n : Naming). HasOneMore addr n (naming_of after.plain)) (sym own) more))

  pub gone_known : HasGone addr names given → HasOneMore addr (naming_of after.plain) (naming_of before.plain) → AgreeWith (heap_part new) given
  gone_known gone more =
      agree_with (with_naming 1 (naming_of after.plain) agree.namings) agree.claims new given known_then
      (gone_agrees addr names given agree.namings agree.claims agree.agreed (naming_of after.plain) gone (subst (HasOneMore addr (naming_of after.plain)) (sym own) more))

-- A HEAP GETS A NAME AND MEMORY, with the names, the heap and the segment value in hand

module _ (names given : NamesView) (segs claimed : SegsView) (before after : HeapView) (pen : PenView) (kept kept_segs : Kept) (old one two new : Mine)
    (agree : AgreeWith (heap_part old) names) (is : kept ≡ Heap before pen) (taken : HasTakenLater 1 kept old one) (handed : IsHanded old 1 kept one)
    (is_segs : kept_segs ≡ Segments segs) (took_segs : HasTakenLater 32 kept_segs one two) (handed_segs : IsHanded one 32 kept_segs two)
    (gave_segs : new ≡ after_give 32 (Segments claimed) two) (index : before.plain.index ≡ 1) (still : AgreeStill before after names given segs.ranges claimed.ranges) where
  abbrev f : ℕ → Naming
  f = agree.namings

  abbrev g : ℕ → Naming
  g = with_naming 1 (naming_of after.plain) agree.namings

  at_first : KnowsThese f agree.claims one
  at_first = known_with_heap f agree.claims old one (known_of old names agree) kept before pen is taken

  at_last : KnowsThese f claimed.ranges new
  at_last =
      known_segs_given f agree.claims two new (known_with_segs f agree.claims one two at_first kept_segs segs is_segs took_segs) claimed gave_segs

  agreed : AreAgreedNames given g claimed.ranges
  agreed =
      let memory : segs.ranges ≡ agree.claims = segs_as_known f agree.claims one two at_first kept_segs segs is_segs took_segs handed_segs in
      let heap_is : f 1 ≡ naming_of before.plain = heap_as_known f agree.claims old one (known_of old names agree) kept before pen is taken handed (lit< tt) in
      subst (λ (k : ℕ). AreAgreedNames given (with_naming k (naming_of after.plain) f) claimed.ranges) index
      (still f (ap f index ∙ heap_is) (subst (AreAgreedNames names f) (sym memory) agree.agreed))

  -- once the segment value is given the memory of the heap's chunks is claimed
  pub brought_claimed : AreKnownClaimed new.claims after.plain.chunks
  brought_claimed claims chunk known has =
      let same : claimed.ranges ≡ claims = same_Some claimed.ranges claims (sym at_last.claimed ∙ known) in
      subst (λ (l : List ExternalRange). Contains l (chunk_memory chunk)) same
      (claimed_all ⊥ claimed.ranges after.plain.chunks (λ no. no)
      (all_claimed ⊥ given g claimed.ranges agreed 1 after.plain (lit< tt) (naming_here 1 (naming_of after.plain) f)) chunk has)

  -- and once the heap is given the names agree with all that is known
  pub brought_known : (last : Mine) → last ≡ after_give 1 (Heap after pen) new → AgreeWith (heap_part last) given
  brought_known last gave = agree_with g claimed.ranges last given (known_heap_given f claimed.ranges new last at_last after pen gave) agreed
