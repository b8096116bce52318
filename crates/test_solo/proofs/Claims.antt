-- Who has the names in hand, and claims external memory and releases it, knows what is claimed; at the end the names agree with that again.
use Rattle.std.proofs.Common.{◌≡◌, ◌⊎◌, ◌∙◌, ℕ, ◌<◌, true, false, List, [], Contains, Option, Some, None, refl, sym, ap, subst, inl, inr, true≢false}
use Rattle.std.specs.Prelude.{◌==◌, not, IfSome, IsTrue}
use Rattle.std.specs.List.{filter, list_any}
use Rattle.std.specs.Option.{option_map}
use Rattle.std.proofs.lemmas.Bool.{cases_Bool}
use Rattle.std.proofs.lemmas.List.{append-nil}
use Rattle.hp_base.specs.declared.limits.TheConstants.{MAX_HEAPS}
use Rattle.hp_segs.proofs.Moves.{calls_move}
use Rattle.hp_segs.specs.Moved.{ReleaseRange, is_range_call}
use Rattle.hp_segs.specs.Ranges.{is_claimed}
use Rattle.hp_segs.specs.SegsView.{SegsView}
use Rattle.hp_segs.specs.declared.external_range.ExternalRange.{ExternalRange}
use Rattle.hp_hall.specs.declared.kept.Kept.{Kept}
use Rattle.hp_hall.specs.declared.kept.Kept.TheVariants.{Segments}
use Rattle.hp_hall.specs.Giving.{GivesSegments, Knows, MayRelease, claims_ranges}
use Rattle.hp_hall.specs.HallCalls.{HasTaken}
use Rattle.hp_hall.specs.HallState.{HallState}
use Rattle.hp_hall.specs.Holding.{AgreeWith, AreStanding, HeapPart, part_after}
use Rattle.hp_hall.specs.Mail.{steps_of}
use Rattle.hp_hall.specs.Naming.{Naming}
use Rattle.hp_hall.specs.Telling.{has_names}
use Rattle.hp_hall.proofs.ClaimedChunks.{agreed_claimed}
use Rattle.hp_hall.proofs.Gives.{segs_same}
use Rattle.hp_heap.proofs.AllocFacts.ChoiceLaw.{Contains-filter}
use Rattle.hp_heap.proofs.Members.{Contains-kept}
use Rattle.hp_plain.proofs.Given.{known}
use Rattle.hp_plain.specs.HallView.{HallView, IsHall, has_names_by, part_in, segs_in, slot_at}
use Rattle.hp_hall.specs.declared.slot.TheConstants.{NAMES_SLOT}
use Rattle.hp_plain.proofs.NamesKept.{claims_held}
use Rattle.test_solo.specs.Claiming.{IsClaimed, released}
use Rattle.hp_zone.specs.declared.names.Names.{Names as NamesView}

-- memory is claimed still in a value that may be given, or may be released
abbrev pub MayAllBeReleased : Knows → SegsView → SegsView → Type 0
MayAllBeReleased knows old new = (range : ExternalRange) → Contains old.ranges range → Contains new.ranges range ⊎ MayRelease knows range

-- the segment value after its giver, who has the names in hand, has released the memory of a list
pub gives_released : (knows : Knows) (segs : SegsView) (list : Option ℕ) → IfSome list (λ list. IsTrue (is_claimed segs list))
    → knows.naming ≡ true → MayAllBeReleased knows segs (released list segs) → GivesSegments knows segs (released list segs)
gives_released knows segs None claimed naming may = segs_same knows segs
gives_released knows segs (Some list) claimed naming may = record {
  more = [];
  log = sym (append-nil segs.log);
  form = claims_ranges (record {
    give = record { moved = calls_move is_range_call (ReleaseRange list) segs refl claimed };
    naming = naming;
    released = may;
  });
}

-- what a participant that has the names in hand knows for them
pub record KnowsFor (parts : ℕ → HeapPart) (namings : ℕ → Naming) (claims : List ExternalRange) : Type 0 where
  pub known : (heap : ℕ) → heap < MAX_HEAPS → (parts heap).naming ≡ Some (namings heap)
  pub claimed : (heap : ℕ) → (parts heap).claims ≡ Some claims

-- it has taken the segment value
pub record TakesSegs (me : ℕ) (segs : SegsView) (old new : ℕ → HeapPart) : Type 0 where
  pub stands : AreStanding me new segs
  pub part : (heap : ℕ) → new heap ≡ old heap

pub takes_segs : (me : ℕ) (kept : Kept) (segs : SegsView) (old new : HallState) → HasTaken me MAX_HEAPS kept old new → kept ≡ Segments segs
    → TakesSegs me segs (old.part me) (new.part me)
takes_segs me kept segs old new took is =
    let its : HasTaken me MAX_HEAPS (Segments segs) old new = subst (λ (k : Kept). HasTaken me MAX_HEAPS k old new) is took in
    record { stands = its.stands; part = its.part }

-- what it knows it finds in that value
known_taken : (me : ℕ) (segs : SegsView) (old new : ℕ → HeapPart) (namings : ℕ → Naming) (claims : List ExternalRange)
    → KnowsFor old namings claims → TakesSegs me segs old new → KnowsFor new namings claims × (segs.ranges ≡ claims)
known_taken me segs old new namings claims knows takes =
    let claimed : (heap : ℕ) → (new heap).claims ≡ Some claims =
    λ heap. ap (λ (p : HeapPart). p.claims) (takes.part heap) ∙ knows.claimed heap in (
      record { known = λ heap below. ap (λ (p : HeapPart). p.naming) (takes.part heap) ∙ knows.known heap below; claimed = claimed },
      takes.stands.claims 0 claims (claimed 0),
    )

-- and what it gives it knows
known_given : (me : ℕ) (segs : SegsView) (old new : ℕ → HeapPart) (namings : ℕ → Naming) (claims : List ExternalRange)
    → KnowsFor old namings claims → ((heap : ℕ) → new heap ≡ part_after me segs heap (old heap)) → KnowsFor new namings segs.ranges
known_given me segs old new namings claims knows gives = record {
  known = λ heap below. ap (λ (p : HeapPart). p.naming) (gives heap) ∙ knows.known heap below;
  claimed = λ heap.
      ap (λ (p : HeapPart). p.claims) (gives heap) ∙ ap (option_map (λ (claims : List ExternalRange). segs.ranges)) (knows.claimed heap);
}

-- who knows what is claimed has the names in hand, by its steps
naming_of_claims : (me : ℕ) (hall : HallView) (claims : List ExternalRange) → IsHall hall → (part_in hall me 0).claims ≡ Some claims
    → has_names (steps_of me hall.mail) ≡ true
naming_of_claims me hall claims is knows =
    is.named.holder me ∙ claims_held (has_names_by me (slot_at hall NAMES_SLOT)) (segs_in (slot_at hall MAX_HEAPS)) claims knows

-- so it is with who has names that agree with what it knows
pub naming_agreed : (me : ℕ) (hall : HallView) (names : NamesView) → IsHall hall → AgreeWith (part_in hall me) names
    → has_names (steps_of me hall.mail) ≡ true
naming_agreed me hall names is agree = naming_of_claims me hall agree.claims is (agree.claimed 0)

-- memory that was claimed is claimed in each value with the same external memory, and is no longer there once that releases it
still_claimed : (list : Option ℕ) (old claimed again : SegsView) → IsClaimed list old claimed → again.ranges ≡ claimed.ranges
    → IfSome list (λ list. IsTrue (is_claimed again list)) × ((released list again).ranges ≡ old.ranges)
still_claimed None old claimed again is same = (tt, same ∙ ap (λ (s : SegsView). s.ranges) is)
still_claimed (Some list) old claimed again is same = (
  ap (list_any (λ range. range.list == list)) same ∙ is.0,
  ap (filter (λ range. not (range.list == list))) same ∙ ap (λ (s : SegsView). s.ranges) is.1,
)

module _ (me : ℕ) (names : NamesView) (first taken : HallView) (segs : SegsView) (agree : AgreeWith (part_in first me) names)
    (takes : TakesSegs me segs (part_in first me) (part_in taken me)) where
  knows_first : KnowsFor (part_in taken me) agree.namings agree.claims × (segs.ranges ≡ agree.claims)
  knows_first =
      known_taken me segs (part_in first me) (part_in taken me) agree.namings agree.claims (record { known = agree.known; claimed = agree.claimed }) takes

  -- it has the names in hand when it gives what it has claimed
  pub naming_first : IsHall taken → has_names (steps_of me taken.mail) ≡ true
  naming_first is = naming_of_claims me taken agree.claims is (knows_first.0.claimed 0)

  module _ (between later : HallView) (list : Option ℕ) (claimed again : SegsView) (is : IsClaimed list segs claimed)
      (gives : (heap : ℕ) → part_in between me heap ≡ part_after me claimed heap (part_in taken me heap))
      (takes_again : TakesSegs me again (part_in between me) (part_in later me)) where
    knows_again : KnowsFor (part_in later me) agree.namings claimed.ranges × (again.ranges ≡ claimed.ranges)
    knows_again =
        known_taken me again (part_in between me) (part_in later me) agree.namings claimed.ranges
        (known_given me claimed (part_in taken me) (part_in between me) agree.namings agree.claims knows_first.0 gives) takes_again

    -- so it has when it has taken the value again; it may release what it has claimed, and then all is as it was
    pub naming_again : IsHall later → has_names (steps_of me later.mail) ≡ true
    naming_again is = naming_of_claims me later claimed.ranges is (knows_again.0.claimed 0)

    pub may_release : IfSome list (λ list. IsTrue (is_claimed again list))
    may_release = (still_claimed list segs claimed again is knows_again.1).0

    -- no heap has a chunk of what it has claimed
    free_of : (l : ℕ) → list ≡ Some l → (range : ExternalRange) → (range.list == l) ≡ true → MayRelease (known later me) range
    free_of l its range of_it heap naming chunk below knows has memory =
        let both : Some naming ≡ Some (agree.namings heap) = sym knows ∙ knows_again.0.known heap below in
        let same : naming ≡ agree.namings heap = cc in
        let at_first =
        agreed_claimed names agree.namings agree.claims agree.agreed heap chunk below (subst (λ (n : Naming). Contains n.chunks chunk) same has) in
        let mine : IsClaimed (Some l) segs claimed = subst (λ (o : Option ℕ). IsClaimed o segs claimed) its is in
        let left : segs.ranges ≡ filter (λ (range : ExternalRange). not (range.list == l)) claimed.ranges = sym (ap (λ (s : SegsView). s.ranges) mine.1) in
        let among : Contains (filter (λ (range : ExternalRange). not (range.list == l)) claimed.ranges) range =
        subst (λ (ranges : List ExternalRange). Contains ranges range) (sym knows_first.1 ∙ left) (subst (Contains agree.claims) memory at_first) in
        let apart = (Contains-filter (λ (range : ExternalRange). not (range.list == l)) claimed.ranges range among).0 in
        absurd (true≢false (sym apart ∙ ap not of_it))

    kept_or_free : (o : Option ℕ) → list ≡ o → MayAllBeReleased (known later me) again (released o again)
    kept_or_free None its range has = inl has
    kept_or_free (Some l) its range has = elim (cases_Bool (range.list == l)) [
      | inl of_it ↦ inr (free_of l its range of_it)
      | inr apart ↦ inl (Contains-kept (λ (range : ExternalRange). not (range.list == l)) again.ranges range (ap not apart) has)
    ]

    pub all_released : MayAllBeReleased (known later me) again (released list again)
    all_released = kept_or_free list refl

    pub agree_again : (last : HallView) → ((heap : ℕ) → part_in last me heap ≡ part_after me (released list again) heap (part_in later me heap))
        → AgreeWith (part_in last me) names
    agree_again last gives_again =
        let knows = known_given me (released list again) (part_in later me) (part_in last me) agree.namings claimed.ranges knows_again.0 gives_again in
        record {
          namings = agree.namings;
          claims = agree.claims;
          known = knows.known;
          claimed = λ heap.
              knows.claimed heap ∙ ap (λ (l : List ExternalRange). Some l) ((still_claimed list segs claimed again is knows_again.1).1 ∙ knows_first.1);
          agreed = agree.agreed;
        }
