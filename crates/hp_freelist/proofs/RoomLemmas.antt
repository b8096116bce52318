-- Links that are read, and more of them.
use Rattle.std.proofs.Common.{◌≡◌, ℕ, zero, suc, ◌<◌, ◌≤◌, List, [], ◌∷◌, Option, Some, None, length, get_or, refl, sym, ap, ◌∙◌, arith}
use Rattle.hp_chain.specs.Chain.{Keyed}
use Rattle.hp_chain.proofs.Spelling.{spells-same}
use Rattle.hp_chain.proofs.Walks.{spelled_place}
use Rattle.hp_freelist.specs.declared.link.Link.{Link}
use Rattle.hp_freelist.specs.Lists.{list_at}
use Rattle.hp_freelist.specs.Links.{place_of, place_at, KeepsPlaces, IsLinked}

-- what is read under a key stands there
pub read_place : (links : List Link) (key : ℕ) (link : Link) → key < length links → link ≡ get_or links key link
    → place_at links key ≡ Some (place_of link)
read_place [] key link within is = absurd (omega (arith, within))
read_place (first ∷ links) zero link within is = ap (λ (l : Link). Some (place_of l)) (sym is)
read_place (first ∷ links) (suc key) link within is = read_place links key link (omega (arith, within)) is

-- and beyond the links nothing stands
pub unread_place : (links : List Link) (key : ℕ) → length links ≤ key → place_at links key ≡ None
unread_place [] key beyond = refl
unread_place (first ∷ links) zero beyond = absurd (omega (arith, beyond))
unread_place (first ∷ links) (suc key) beyond = unread_place links key (omega (arith, beyond))

-- links that keep what stands under each key have the same lists
pub grown : (old new : List Link) (firsts : List (Option ℕ)) (lists : List (List (Keyed ℕ))) → IsLinked old firsts lists
    → KeepsPlaces old new → IsLinked new firsts lists
grown old new firsts lists linked keeps = record {
  heads = linked.heads;
  count = linked.count;
  linked = λ class below.
      let was = linked.linked class below in
      record {
        head = was.head;
        spelled = spells-same (place_at old) (place_at new) None (list_at lists class) None
            (λ key has. let place = spelled_place (place_at old) None (list_at lists class) None key was.spelled has in keeps key place.0 place.1 ∙ sym place.1) was.spelled;
        apart = was.apart;
        classed = was.classed;
      };
}
