-- A search that passes over small elements: they fail the test, each of them and all of a list that has none above.
use Rattle.std.proofs.Common.{◌≡◌, ℕ, ◌≤◌, List, [], ◌∷◌, Bool, Option, Some, None, get_or, refl, sym, subst, arith, inr}
use Rattle.std.specs.List.{AllByRecursion}
use Rattle.hp_chain.specs.Chain.{Keyed}
use Rattle.hp_freelist.specs.declared.link.Link.{Link}
use Rattle.hp_freelist.specs.Links.{list_from}
use Rattle.hp_freelist.specs.Kept.{KeepsGreatest, HasWithin}
use Rattle.hp_freelist.specs.Search.{keys_of, IsFirstPassing, SmallFails}
use Rattle.hp_freelist.proofs.GreatestLemmas.{AllByRecursion-weaker}
use Rattle.hp_freelist.proofs.KeptLemmas.{none_greater}
use Rattle.hp_freelist.proofs.KeptReads.{read_greatest, greatest_value}
use Rattle.hp_freelist.proofs.SearchLemmas.{left_none}

module _ (test : ℕ → Bool → Type 0) (most : ℕ) where
  -- where all elements are small none passes
  pub none_above : (list : List (Keyed ℕ)) → SmallFails test most list → AllByRecursion (λ (e : Keyed ℕ). e.value ≤ most) list
      → IsFirstPassing test (keys_of list) None
  none_above [] fails small = refl
  none_above (e ∷ es) fails small = inr (fails.0 small.0, none_above es fails.1 small.1)

-- a list whose greatest element is small has small elements alone
pub all_small : (links : List Link) (kept : List ℕ) (next : Option ℕ) (first : ℕ) (some : next ≡ Some first) (holds : KeepsGreatest kept (list_from links next))
    (within : HasWithin links kept next) (greatest : ℕ) (read : greatest ≡ get_or kept first greatest) (link : Link) → link ≡ get_or links greatest link
    → (most : ℕ) → link.whole ≤ most → AllByRecursion (λ (e : Keyed ℕ). e.value ≤ most) (list_from links next)
all_small links kept next first some holds within greatest read link value most under =
    let is = read_greatest links kept next first some holds within greatest read in
    let same = greatest_value links kept next greatest link is value in
    AllByRecursion-weaker (λ (e : Keyed ℕ). e.value ≤ is.found.value) (λ (e : Keyed ℕ). e.value ≤ most) (λ e less. omega (arith, less, under, same))
    (list_from links next) (none_greater (list_from links next) greatest is)

-- an empty list too
pub none_small : (links : List Link) (next : Option ℕ) (most : ℕ) → next ≡ None → AllByRecursion (λ (e : Keyed ℕ). e.value ≤ most) (list_from links next)
none_small links next most none =
    subst (λ (zs : List (Keyed ℕ)). AllByRecursion (λ (e : Keyed ℕ). e.value ≤ most) zs) (sym (left_none links _ next none)) tt
