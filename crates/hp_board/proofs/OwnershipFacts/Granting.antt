-- A growth that was granted by numbers that its giver has loaded: what may be given.
use Rattle.std.proofs.Common.{◌≡◌, ◌∙◌, ℕ, zero, suc, ◌<◌, ◌≤◌, Bool, true, false, ◌&&◌, List, [], ◌∷◌, ◌++◌, length, drop, Option, Some, None, refl, sym, ap, subst, arith}
use Rattle.std.specs.Prelude.{nat_lt, slice_index}
use Rattle.std.specs.List.{Contains, find, range_with_len}
use Rattle.std.specs.Option.{option_map}
use Rattle.std.proofs.Math.Seq.{drop-append_seam}
use Rattle.std.proofs.lemmas.Bool.{ltb-false}
use Rattle.std.proofs.lemmas.List.FromFn.{get_or-range_with_len, length-range_with_len}
use Rattle.hp_heap.proofs.AllocFacts.ChoiceLaw.{AllByRecursion-contains}
use Rattle.hp_heap.proofs.Members.{find_none}
use Rattle.hp_segs.specs.SegsView.{SegsView, granted_by, is_member}
use Rattle.hp_segs.specs.Sound.{IsSound}
use Rattle.hp_segs.specs.Steps.{after_agree, agreed_growth, granted_unless, is_below, lowest_member_below}
use Rattle.hp_segs.specs.declared.fault.NotAll.{NotAll}
use Rattle.hp_segs.specs.declared.growth.Growth.{Growth}
use Rattle.hp_segs.specs.declared.outcome.AskLog.{AskLog}
use Rattle.hp_hall.specs.SegsGives.{AgreesBy}
use Rattle.hp_board.proofs.Gives.{agrees_same}

-- what agrees by some numbers agrees by greater ones
pub agrees_higher : (low high : ℕ → ℕ) (taken given : SegsView) → ((who : ℕ) → low who ≤ high who) → AgreesBy low taken given → AgreesBy high taken given
agrees_higher low high taken given rises agrees entry generation member among granted its =
    let known = agrees entry generation member among granted its in
    let more = rises member in
    omega (arith, known, more)

-- a member's number is one of the roster's places
member_within : (roster : List Bool) (member : ℕ) → is_member roster member ≡ true → member < length roster
member_within [] member is = cc
member_within (here ∷ roster) zero is = omega arith
member_within (here ∷ roster) (suc member) is = omega (arith, member_within roster member is)

not_found : {X Y : Type 0} (f : X → Y) (found : Option X) → option_map f found ≡ None → found ≡ None
not_found f None none = refl
not_found f (Some x) none = cc

in_range : (n k : ℕ) → k < n → Contains (range_with_len 0 n) k
in_range n k within = (k, omega (arith, within, length-range_with_len 0 n), get_or-range_with_len 0 n k k within ∙ omega arith)

not_below : (member : Bool) (acked generation : ℕ) → (member && nat_lt acked generation) ≡ false → member ≡ true → generation ≤ acked
not_below true acked generation fails is = ltb-false acked generation fails
not_below false acked generation fails is = cc

-- where no member is below a generation, each has acknowledged it
all_acknowledged : (roster : List Bool) (acks : List ℕ) (generation member : ℕ) → length roster ≡ 16 → lowest_member_below roster acks generation ≡ None
    → is_member roster member ≡ true → generation ≤ slice_index acks member
all_acknowledged roster acks generation member places none is =
    let below = is_below roster acks generation in
    not_below (is_member roster member) (slice_index acks member) generation
    (AllByRecursion-contains (λ who. below who ≡ false) (range_with_len 0 16) member
    (find_none below (range_with_len 0 16) (not_found _ (find below (range_with_len 0 16)) none))
    (in_range 16 member (omega (arith, places, member_within roster member is)))) is

module _ (acks : List ℕ) (segs : SegsView) (sound : IsSound segs) where
  abbrev pub acked : ℕ → ℕ
  acked who = slice_index acks who

  one_outcome : (growth : Growth) (outcome entry : AskLog) (generation : ℕ) → granted_by outcome.outcome ≡ Some growth.generation
      → Contains (drop (length segs.asks) (segs.asks ++ outcome ∷ [])) entry → granted_by entry.outcome ≡ Some generation → generation ≡ growth.generation
  one_outcome growth outcome entry generation stamp among granted =
      let one : Contains (outcome ∷ []) entry = subst (λ (l : List AskLog). Contains l entry) (drop-append_seam segs.asks (outcome ∷ [])) among in
      let same : outcome ≡ entry = first_of one in
      let both : Some generation ≡ Some growth.generation = sym granted ∙ (ap (λ (e : AskLog). granted_by e.outcome) (sym same) ∙ stamp) in
      cc
    where
      first_of : Contains (outcome ∷ []) entry → outcome ≡ entry
      first_of (zero, inside, is) = is
      first_of (suc k, inside, is) = absurd (omega (arith, inside))

  by_member : (growth : Growth) (low : Option NotAll) → lowest_member_below segs.roster acks growth.generation ≡ low → AgreesBy acked segs (granted_unless growth segs low)
  by_member growth None none = λ entry generation member among granted its.
      subst (λ (n : ℕ). n ≤ acked member) (sym (one_outcome growth _ entry generation refl among granted))
      (all_acknowledged segs.roster acks growth.generation member sound.places.roster_places none its)
  by_member growth (Some member) some = agrees_same acked segs segs refl

  by_growth : (growth : Option Growth) → AgreesBy acked segs (agreed_growth acks segs growth)
  by_growth None = agrees_same acked segs segs refl
  by_growth (Some growth) = by_member growth (lowest_member_below segs.roster acks growth.generation) refl

  -- a growth that is granted by some numbers agrees by them
  pub agree_agrees : AgreesBy acked segs (after_agree acks segs)
  agree_agrees = by_growth segs.growth
