-- The greatest of a class, as it is read under the first key of its list.
use Rattle.std.proofs.Common.{◌≡◌, ℕ, zero, suc, ◌<◌, List, [], ◌∷◌, Option, Some, None, length, get_or, sym, ap, ◌∙◌, subst, arith}
use Rattle.std.specs.List.{AllByRecursion}
use Rattle.hp_chain.specs.Chain.{Keyed}
use Rattle.hp_chain.proofs.Keys.{first_key_among}
use Rattle.hp_freelist.specs.declared.link.Link.{Link}
use Rattle.hp_freelist.specs.Lists.{list_at}
use Rattle.hp_freelist.specs.Heads.{head_at, IsLast}
use Rattle.hp_freelist.specs.Greatest.{all_elements, IsGreatest}
use Rattle.hp_freelist.specs.Links.{list_from, IsLinked}
use Rattle.hp_freelist.specs.Kept.{KeepsGreatest, HasWithin, IsKept}
use Rattle.hp_freelist.proofs.LinkedLemmas.{place_within, list_from_is, filed_place}
use Rattle.hp_freelist.proofs.GreatestLemmas.{greatest_of_all}
use Rattle.hp_freelist.proofs.KeptReads.{first_kept, read_greatest}

-- what holds of each list holds of that of a class
pub holds_at : (P : List (Keyed ℕ) → Type 0) (lists : List (List (Keyed ℕ))) (class : ℕ) → class < length lists → AllByRecursion P lists
    → P (list_at lists class)
holds_at P [] class within all = absurd (omega (arith, within))
holds_at P (list ∷ lists) zero within all = all.0
holds_at P (list ∷ lists) (suc class) within all = holds_at P lists class (omega (arith, within)) all.1

module _ (links : List Link) (kept : List ℕ) (firsts : List (Option ℕ)) (lists : List (List (Keyed ℕ))) (linked : IsLinked links firsts lists) (holds : IsKept links kept lists) where
  -- the list from the first key of a class on is the list of that class
  module _ (class : ℕ) (below : class < 13) where
    pub from_head : (next : Option ℕ) → next ≡ head_at firsts class → list_from links next ≡ list_at lists class
    from_head next is =
        ap (λ (key : Option ℕ). list_from links key) is
        ∙ list_from_is links class (head_at firsts class) (list_at lists class) (linked.linked class below)

    -- so its greatest is kept under that key
    pub kept_from : (next : Option ℕ) → next ≡ head_at firsts class → KeepsGreatest kept (list_from links next)
    kept_from next is =
        subst (λ (zs : List (Keyed ℕ)). KeepsGreatest kept zs) (sym (from_head next is))
        (holds_at (KeepsGreatest kept) lists class (omega (arith, below, linked.count)) holds.greatest)

    pub within_from : (next : Option ℕ) → next ≡ head_at firsts class → HasWithin links kept next
    within_from None is = tt
    within_from (Some key) is =
        let was = linked.linked class below in
        let filed = filed_place links class (head_at firsts class) (list_at lists class) key was (first_key_among (list_at lists class) key (sym was.head ∙ sym is)) in
        (place_within links key filed.0 filed.1, holds.room)

  -- that of the last class that has a key is the greatest of all
  module _ (class : ℕ) (last : IsLast firsts class) (next : Option ℕ) (is : next ≡ head_at firsts class) (first : ℕ) (some : next ≡ Some first) where
    pub first_within : first < length kept
    first_within = first_kept links kept next first some (kept_from class last.within next is) (within_from class last.within next is)

    pub greatest_read : (greatest : ℕ) → greatest ≡ get_or kept first greatest → IsGreatest (all_elements lists) greatest
    greatest_read greatest read =
        greatest_of_all links firsts lists linked class last greatest
        (subst (λ (zs : List (Keyed ℕ)). IsGreatest zs greatest) (from_head class last.within next is)
        (read_greatest links kept next first some (kept_from class last.within next is) (within_from class last.within next is) greatest read))
