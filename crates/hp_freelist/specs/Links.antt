-- How the free lists are kept: a link under each key, and the first key of each list. No public clause cites this module.
use Rattle.std.specs.Prelude.{◌≡◌, ℕ, ◌+◌, ◌<◌, ◌≤◌, List, Option, Some, None, IfSome, length, map, option_map, slice_get}
use Rattle.std.specs.List.{AllByRecursion}
use Rattle.hp_base.specs.declared.round.TheConstants.{HEADER, LINE}
use Rattle.hp_chain.specs.Chain.{Keyed, Place, Places, first_key, Spells, AreApart, walk}
use Rattle.hp_freelist.specs.declared.link.Link.{Link}
use Rattle.hp_freelist.specs.Lists.{list_class, list_at}
use Rattle.hp_freelist.specs.Heads.{head_at}

-- a link as a place of a chain of whole sizes
abbrev pub place_of : Link → Place ℕ
place_of link = record { prev = link.prev; next = link.next; value = link.whole }

-- the links as a memory of such chains
abbrev pub place_at : List Link → Places ℕ
place_at links key = option_map place_of (slice_get links key)

-- what stands under a key stays
abbrev pub KeepsPlaces : List Link → List Link → Type 0
KeepsPlaces old new = (key : ℕ) (place : Place ℕ) → place_at old key ≡ Some place → place_at new key ≡ Some place

-- the list that the links have from a key on
abbrev pub list_from : List Link → Option ℕ → List (Keyed ℕ)
list_from links first = walk (place_at links) (length links) first

-- the lists that the links have from the first keys on
abbrev pub lists_of : List Link → List (Option ℕ) → List (List (Keyed ℕ))
lists_of links firsts = map (list_from links) firsts

-- an element may stand on the list of a class
pub record IsOfClass (class : ℕ) (e : Keyed ℕ) : Type 0 where
  pub least : HEADER + LINE ≤ e.value
  pub is : list_class e.value ≡ class

-- the links have this list under this first key, and each of it is of this class
pub record IsListLinked (links : List Link) (class : ℕ) (first : Option ℕ) (list : List (Keyed ℕ)) : Type 0 where
  pub head : first ≡ first_key list None
  pub spelled : Spells (place_at links) None list None
  pub apart : AreApart list
  pub classed : AllByRecursion (IsOfClass class) list

-- the links have these lists, one for each class
pub record IsLinked (links : List Link) (firsts : List (Option ℕ)) (lists : List (List (Keyed ℕ))) : Type 0 where
  pub heads : length firsts ≡ 13
  pub count : length lists ≡ 13
  pub linked : (class : ℕ) → class < 13 → IsListLinked links class (head_at firsts class) (list_at lists class)

-- what is kept of a key that is in a list: its neighbours have links too
pub record IsLinkOf (links : List Link) (room key : ℕ) (link : Link) : Type 0 where
  pub stands : place_at links key ≡ Some (place_of link)
  pub prev : IfSome link.prev (λ k. k < room)
  pub next : IfSome link.next (λ k. k < room)
  pub least : HEADER + LINE ≤ link.whole
