-- What a participant has in the heaps where a segment value is given back: the rule "Holding" of docs/HALLS.md.
use Rattle.std.proofs.Common.{◌≡◌, ◌∙◌, ℕ, List, Option, Some, None, refl, ap, sym, subst, inl, inr}
use Rattle.std.specs.Prelude.{Contains, IsSome}
use Rattle.std.specs.Option.{option_map}
use Rattle.hp_segs.specs.LaterSteps.{armed_ask}
use Rattle.hp_segs.specs.SegsView.{SegsView}
use Rattle.hp_segs.specs.declared.ask.Ask.{Ask}
use Rattle.hp_segs.specs.declared.external_range.ExternalRange.{ExternalRange}
use Rattle.hp_hall.specs.Holding.{AreStanding, HeapPart, part_after}
use Rattle.hp_segs.specs.Standing.{Holding, standing_of}

-- what is held stays where the value has just that
held_same : (holding : Holding) (held : Option Holding) → ((known : Holding) → held ≡ Some known → known ≡ holding)
    → option_map (λ known. holding) held ≡ held
held_same holding None is = refl
held_same holding (Some known) is = ap Some (sym (is known refl))

-- and so does what is known of the external memory that is claimed
pub claims_same : (claims : Option (List ExternalRange)) (ranges : List ExternalRange)
    → ((known : List ExternalRange) → claims ≡ Some known → ranges ≡ known) → option_map (λ (known : List ExternalRange). ranges) claims ≡ claims
claims_same None ranges is = refl
claims_same (Some known) ranges is = ap Some (is known refl)

part_same : (part : HeapPart) (holding : Option Holding) (armed : Option Ask) (claims : Option (List ExternalRange)) → holding ≡ part.holding
    → armed ≡ part.armed → claims ≡ part.claims → record part { holding = holding; armed = armed; claims = claims } ≡ part
part_same part holding armed claims held_is armed_is claims_is =
    ap (λ holding. record part { holding = holding; armed = armed; claims = claims }) held_is
    ∙ ap (λ armed. record part { armed = armed; claims = claims }) armed_is ∙ ap (λ claims. record part { claims = claims }) claims_is

-- a part is as it was after a value that has for each heap what the taken one had, arms the giver as that did, and has its external memory
pub behind_same : (who : ℕ) (parts : ℕ → HeapPart) (taken given : SegsView) → AreStanding who parts taken
    → ((heap : ℕ) → standing_of heap given ≡ standing_of heap taken) → armed_ask given who ≡ armed_ask taken who
    → given.ranges ≡ taken.ranges → (heap : ℕ) → part_after who given heap (parts heap) ≡ parts heap
behind_same who parts taken given are leaves armed ranges heap =
    part_same (parts heap) (option_map (λ known. standing_of heap given) (parts heap).holding) (armed_ask given who)
    (option_map (λ (known : List ExternalRange). given.ranges) (parts heap).claims)
    (held_same (standing_of heap given) (parts heap).holding (λ known is. are.held heap known is ∙ sym (leaves heap)))
    (armed ∙ sym (are.armed heap)) (claims_same (parts heap).claims given.ranges (λ known is. ranges ∙ are.claims heap known is))

-- and so it is after the value that was taken
pub standing_same : (who : ℕ) (parts : ℕ → HeapPart) (taken : SegsView) → AreStanding who parts taken
    → (heap : ℕ) → part_after who taken heap (parts heap) ≡ parts heap
standing_same who parts taken are = behind_same who parts taken taken are (λ heap. refl) refl refl

-- what is known of a value stays known while the parts stay
pub standing_with : (who : ℕ) (parts later : ℕ → HeapPart) (taken : SegsView) → ((heap : ℕ) → later heap ≡ parts heap)
    → AreStanding who parts taken → AreStanding who later taken
standing_with who parts later taken same are = record {
  held = λ heap holding is. are.held heap holding (sym (ap (λ (part : HeapPart). part.holding) (same heap)) ∙ is);
  armed = λ heap. ap (λ (part : HeapPart). part.armed) (same heap) ∙ are.armed heap;
  asking = λ ask is. elim (are.asking ask is) [
    | inl settled ↦ inl settled
    | inr holds ↦ inr (subst (λ (part : HeapPart). IsSome part.holding) (sym (same ask.heap)) holds)
  ];
  sound = are.sound;
  pending = are.pending;
  claims = λ heap claims is. are.claims heap claims (sym (ap (λ (part : HeapPart). part.claims) (same heap)) ∙ is);
  marked = λ heap chunk below has. are.marked heap chunk below (subst (λ (part : HeapPart). Contains part.marked chunk) (same heap) has);
  named = λ heap naming chunk below knows has.
      are.named heap naming chunk below (sym (ap (λ (part : HeapPart). part.naming) (same heap)) ∙ knows)
      (subst (λ (part : HeapPart). Contains part.marked chunk) (same heap) has);
}
