-- What is kept beside the links: under each key of a list, that of the greatest of the list from it on. No public clause cites this
-- module.
use Rattle.std.specs.Prelude.{◌≡◌, ℕ, ◌<◌, ◌≤◌, false, List, [], ◌∷◌, ◌++◌, Option, Some, None, IfSome, IsSomeAnd, length, slice_get}
use Rattle.std.specs.List.{AllByRecursion}
use Rattle.hp_chain.specs.Chain.{Keyed, last_key, has_key, Spells, AreApart}
use Rattle.hp_freelist.specs.declared.link.Link.{Link}
use Rattle.hp_freelist.specs.Greatest.{IsGreatest}
use Rattle.hp_freelist.specs.Links.{place_at}

-- what is kept under the first key of a list is its greatest
abbrev pub HasGreatest : List ℕ → ℕ → List (Keyed ℕ) → Type 0
HasGreatest kept key list = IsSomeAnd (slice_get kept key) (IsGreatest list)

-- what is kept under each key of a list is the greatest of the list from it on
abbrev pub KeepsGreatest : List ℕ → List (Keyed ℕ) → Type 0
KeepsGreatest kept [] = Unit {0}
KeepsGreatest kept (e ∷ es) = HasGreatest kept e.key (e ∷ es) × KeepsGreatest kept es

-- that holds of each list, and there is room for what is kept of each link
pub record IsKept (links : List Link) (kept : List ℕ) (lists : List (List (Keyed ℕ))) : Type 0 where
  pub room : length links ≤ length kept
  pub greatest : AllByRecursion (KeepsGreatest kept) lists

-- what was kept under a key still is
abbrev pub IsKeptOf : List ℕ → List ℕ → Type 0
IsKeptOf old new = (key greatest : ℕ) → slice_get old key ≡ Some greatest → slice_get new key ≡ Some greatest

-- a key has a link, and room for what is kept of it
abbrev pub HasWithin : List Link → List ℕ → Option ℕ → Type 0
HasWithin links kept key = IfSome key (λ k. (k < length links) × (length links ≤ length kept))

-- a list that the links have without a key, which came after `prev` when the greatest of each of its keys was kept
pub record StoodIn (links : List Link) (kept : List ℕ) (key : ℕ) (prev : Option ℕ) (front : List (Keyed ℕ)) (whole : ℕ) (back : List (Keyed ℕ)) : Type 0 where
  pub after : prev ≡ last_key None front
  pub spelled : Spells (place_at links) None (front ++ back) None
  pub apart : AreApart (front ++ (record { key = key; value = whole }) ∷ back)
  pub held : KeepsGreatest kept (front ++ (record { key = key; value = whole }) ∷ back)

-- there is such a list
pub record StoodAfter (links : List Link) (kept : List ℕ) (key : ℕ) (prev : Option ℕ) : Type 0 where
  pub front : List (Keyed ℕ)
  pub whole : ℕ
  pub back : List (Keyed ℕ)
  pub room : length links ≤ length kept
  pub stood : StoodIn links kept key prev front whole back

-- the greatest of each key of such a list is kept again, and what is kept of keys that did not come before that key is as it was
pub record IsMended (links : List Link) (old new : List ℕ) (key : ℕ) (prev : Option ℕ) : Type 0 where
  pub again : (front : List (Keyed ℕ)) (whole : ℕ) (back : List (Keyed ℕ)) → StoodIn links old key prev front whole back
      → KeepsGreatest new (front ++ back)
  pub others : (front : List (Keyed ℕ)) (whole : ℕ) (back : List (Keyed ℕ)) → StoodIn links old key prev front whole back
      → (other : ℕ) → has_key other front ≡ false → slice_get new other ≡ slice_get old other
