-- Which keys are listed after a key came to a head, and after one left: for callers, who show it of the keys that they insert and remove.
use Rattle.std.proofs.Common.{◌≡◌, ℕ, zero, suc, ◌<◌, List, [], ◌∷◌, true, false, Bool, nat_eq, ◌||◌, length, set, refl, ap, ap₂, ◌∙◌}
use Rattle.std.proofs.Common.{arith}
use Rattle.std.proofs.lemmas.Bool.{or_left, or_right, or_from}
use Rattle.hp_chain.specs.Chain.{Keyed, has_key}
use Rattle.hp_chain.specs.Edits.{without_key}
use Rattle.hp_chain.proofs.Keys.{has_key-own}
use Rattle.hp_chain.proofs.EditLemmas.{has_key-without, has_key-without_other}
use Rattle.hp_freelist.specs.Lists.{list_class, list_at, is_listed, with_head, without}
use Rattle.hp_freelist.proofs.HeadLemmas.{class_below}

module _ (key whole : ℕ) where
  listed_set : (lists : List (List (Keyed ℕ))) (class : ℕ) → class < length lists → is_listed key (set lists class (record { key = key; value = whole } ∷ list_at lists class)) ≡ true
  listed_set [] class within = absurd (omega (arith, within))
  listed_set (list ∷ lists) zero within =
      or_left (has_key key (record { key = key; value = whole } ∷ list)) (is_listed key lists) (has_key-own (record { key = key; value = whole }) list)
  listed_set (list ∷ lists) (suc class) within =
      or_right (has_key key list) (is_listed key (set lists class (record { key = key; value = whole } ∷ list_at lists class))) (listed_set lists class (omega (arith, within)))

  listed_set_other : (other : ℕ) (lists : List (List (Keyed ℕ))) (class : ℕ) → nat_eq key other ≡ false
      → is_listed other (set lists class (record { key = key; value = whole } ∷ list_at lists class)) ≡ is_listed other lists
  listed_set_other other [] class differs = refl
  listed_set_other other (list ∷ lists) zero differs = ap (λ (b : Bool). (b || has_key other list) || is_listed other lists) differs
  listed_set_other other (list ∷ lists) (suc class) differs = ap (λ (b : Bool). has_key other list || b) (listed_set_other other lists class differs)

  -- a key that came to a head is listed, and of the others the same are
  pub listed_head : (lists : List (List (Keyed ℕ))) → length lists ≡ 13 → is_listed key (with_head key whole lists) ≡ true
  listed_head lists count = listed_set lists (list_class whole) (omega (arith, class_below whole, count))

  pub listed_head_other : (other : ℕ) (lists : List (List (Keyed ℕ))) → nat_eq key other ≡ false
      → is_listed other (with_head key whole lists) ≡ is_listed other lists
  listed_head_other other lists differs = listed_set_other other lists (list_class whole) differs

-- a key that left is not listed, and of the others the same are
pub listed_without : (key : ℕ) (lists : List (List (Keyed ℕ))) → is_listed key (without key lists) ≡ false
listed_without key [] = refl
listed_without key (list ∷ lists) = or_from (has_key key (without_key key list)) (is_listed key (without key lists)) (has_key-without key list) (listed_without key lists)

pub listed_without_other : (key other : ℕ) (lists : List (List (Keyed ℕ))) → nat_eq other key ≡ false
    → is_listed other (without key lists) ≡ is_listed other lists
listed_without_other key other [] differs = refl
listed_without_other key other (list ∷ lists) differs =
    ap₂ (λ (b c : Bool). b || c) (has_key-without_other key other list differs) (listed_without_other key other lists differs)

-- the same of lists that a call left
module _ (key whole : ℕ) (old new : List (List (Keyed ℕ))) (inserted : new ≡ with_head key whole old) where
  pub inserted_own : length old ≡ 13 → is_listed key new ≡ true
  inserted_own count = ap (is_listed key) inserted ∙ listed_head key whole old count

  pub inserted_other : (other : ℕ) → nat_eq key other ≡ false → is_listed other new ≡ is_listed other old
  inserted_other other differs = ap (is_listed other) inserted ∙ listed_head_other key whole other old differs

module _ (key : ℕ) (old new : List (List (Keyed ℕ))) (removed : new ≡ without key old) where
  pub removed_own : is_listed key new ≡ false
  removed_own = ap (is_listed key) removed ∙ listed_without key old

  pub removed_other : (other : ℕ) → nat_eq other key ≡ false → is_listed other new ≡ is_listed other old
  removed_other other differs = ap (is_listed other) removed ∙ listed_without_other key other old differs
