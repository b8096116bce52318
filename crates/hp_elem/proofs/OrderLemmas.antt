-- Elements by rising address, in parts.
use Rattle.std.proofs.Common.{◌≡◌, ℕ, ◌≤◌, [], ◌∷◌, ◌++◌, refl, sym, subst, arith}
use Rattle.hp_base.specs.declared.span.Span.{Span}
use Rattle.hp_chain.specs.Chain.{Keyed}
use Rattle.hp_elem.specs.Items.{Items, end_of, lower_part, upper_part, joined, IsInside, Touches}
use Rattle.hp_elem.specs.Order.{IsRising, greatest_end, KeysBelow}
use Rattle.hp_elem.specs.Index.{reach}

-- they end by the greatest end, and at or above where they may begin
pub rising_bound : (from : ℕ) (xs : Items) → IsRising from xs → from ≤ greatest_end
rising_bound from [] rising = rising
rising_bound from (x ∷ xs) rising = omega (arith, rising.0, rising.1, rising_bound (end_of x.value) xs rising.2)

pub reach_above : (from : ℕ) (xs : Items) → IsRising from xs → from ≤ reach from xs
reach_above from [] rising = omega arith
reach_above from (x ∷ xs) rising = omega (arith, rising.0, rising.1, reach_above (end_of x.value) xs rising.2)

pub reach-append : (from : ℕ) (xs ys : Items) → reach from (xs ++ ys) ≡ reach (reach from xs) ys
reach-append from [] ys = refl
reach-append from (x ∷ xs) ys = reach-append (end_of x.value) xs ys

-- in two parts
pub rising_front : (from : ℕ) (xs ys : Items) → IsRising from (xs ++ ys) → IsRising from xs
rising_front from [] ys rising = rising_bound from ys rising
rising_front from (x ∷ xs) ys rising = (rising.0, rising.1, rising_front (end_of x.value) xs ys rising.2)

pub rising_back : (from : ℕ) (xs ys : Items) → IsRising from (xs ++ ys) → IsRising (reach from xs) ys
rising_back from [] ys rising = rising
rising_back from (x ∷ xs) ys rising = rising_back (end_of x.value) xs ys rising.2

pub rising_whole : (from : ℕ) (xs ys : Items) → IsRising from xs → IsRising (reach from xs) ys → IsRising from (xs ++ ys)
rising_whole from [] ys front back = back
rising_whole from (x ∷ xs) ys front back = (front.0, front.1, rising_whole (end_of x.value) xs ys front.2 back)

-- from a lower address on
pub rising_lower : (low from : ℕ) (xs : Items) → low ≤ from → IsRising from xs → IsRising low xs
rising_lower low from [] below rising = omega (arith, below, rising)
rising_lower low from (x ∷ xs) below rising = (omega (arith, below, rising.0), rising.1, rising.2)

-- an element in two parts
pub lower_end : (at : ℕ) (span : Span) → IsInside at span → end_of (lower_part at span) ≡ at
lower_end at span inside = omega (arith, inside.above)

pub upper_end : (at : ℕ) (span : Span) → IsInside at span → end_of (upper_part at span) ≡ end_of span
upper_end at span inside = omega (arith, inside.above, inside.below)

pub rising-cut : (from at new : ℕ) (e : Keyed Span) (ys : Items) → IsInside at e.value → IsRising from (e ∷ ys)
    → IsRising from ((record { key = e.key; value = lower_part at e.value }) ∷ (record { key = new; value = upper_part at e.value }) ∷ ys)
rising-cut from at new e ys inside rising = (
  rising.0,
  omega (arith, inside.above),
  (
    omega (arith, lower_end at e.value inside),
    omega (arith, inside.below),
    subst (λ (end : ℕ). IsRising end ys) (sym (upper_end at e.value inside)) rising.2,
  ),
)

-- two elements as one
pub joined_end : (one next : Span) → Touches one next → end_of (joined one next) ≡ end_of next
joined_end one next touches = omega (arith, touches.adjacent)

pub rising-joined : (from : ℕ) (e n : Keyed Span) (ys : Items) → Touches e.value n.value → IsRising from (e ∷ n ∷ ys)
    → IsRising from ((record { key = e.key; value = joined e.value n.value }) ∷ ys)
rising-joined from e n ys touches rising = (
  rising.0,
  omega (arith, rising.1),
  subst (λ (end : ℕ). IsRising end ys) (sym (joined_end e.value n.value touches)) rising.2.2,
)

-- keys below a number
pub below_front : (bound : ℕ) (xs ys : Items) → KeysBelow bound (xs ++ ys) → KeysBelow bound xs
below_front bound [] ys below = tt
below_front bound (x ∷ xs) ys below = (below.0, below_front bound xs ys below.1)

pub below_back : (bound : ℕ) (xs ys : Items) → KeysBelow bound (xs ++ ys) → KeysBelow bound ys
below_back bound [] ys below = below
below_back bound (x ∷ xs) ys below = below_back bound xs ys below.1

pub below_whole : (bound : ℕ) (xs ys : Items) → KeysBelow bound xs → KeysBelow bound ys → KeysBelow bound (xs ++ ys)
below_whole bound [] ys front back = back
below_whole bound (x ∷ xs) ys front back = (front.0, below_whole bound xs ys front.1 back)

pub below_more : (low high : ℕ) (xs : Items) → low ≤ high → KeysBelow low xs → KeysBelow high xs
below_more low high [] within below = tt
below_more low high (x ∷ xs) within below = (omega (arith, within, below.0), below_more low high xs within below.1)
