-- A search that passes over small elements: where these fail a test, so do the small ones of each free list.
use Rattle.std.proofs.Common.{◌≡◌, ℕ, zero, suc, ◌<◌, ◌≤◌, List, [], ◌∷◌, map, length, Bool, false, refl, sym, subst, arith, Contains}
use Rattle.std.specs.List.{AllByRecursion, filter}
use Rattle.hp_base.specs.declared.span.Span.{Span}
use Rattle.hp_chain.specs.Chain.{Keyed}
use Rattle.hp_elem.specs.Items.{Items, IsAt}
use Rattle.hp_freelist.specs.Lists.{list_at}
use Rattle.hp_freelist.specs.Search.{SmallFails}
use Rattle.hp_heap.specs.Tie.{is_on, newest, link_of, links_of, IsTied}
use Rattle.hp_heap.proofs.AllocFacts.ChoiceLaw.{Contains-here, Contains-there, Contains-filter, Contains-parts}
use Rattle.hp_heap.proofs.FirstFree.{newest_had}

-- what holds of the list of each class holds of all lists
all_lists : (P : List (Keyed ℕ) → Type 0) (lists : List (List (Keyed ℕ))) → ((class : ℕ) → class < length lists → P (list_at lists class))
    → AllByRecursion P lists
all_lists P [] holds = tt
all_lists P (list ∷ lists) holds = (holds zero (omega arith), all_lists P lists (λ class below. holds (suc class) (omega (arith, below))))

module _ (test : ℕ → Bool → Type 0) (most : ℕ) (items : Items) (fails : (key : ℕ) → IsAt (λ span. span.whole ≤ most) key items → test key false) where
  fails_there : (o : Keyed Span) → Contains items o → o.value.whole ≤ most → test o.key false
  fails_there o has under =
      let (front, back, is) = Contains-parts items o has in
      fails o.key (record { front = front; found = o; back = back; is = is; same = refl; holds = under })

  small_links : (zs : Items) → ((o : Keyed Span) → Contains zs o → Contains items o) → SmallFails test most (map link_of zs)
  small_links [] among = tt
  small_links (z ∷ zs) among =
      (λ under. fails_there z (among z (Contains-here z zs)) under, small_links zs (λ o has. among o (Contains-there z o zs has)))

  of_class : (class : ℕ) → SmallFails test most (links_of items class)
  of_class class =
      small_links (newest (filter (is_on class) items))
      (λ o has. (Contains-filter (is_on class) items o (newest_had (filter (is_on class) items) o has)).1)

  pub small_fails : (lists : List (List (Keyed ℕ))) → length lists ≡ 13 → IsTied items lists → AllByRecursion (SmallFails test most) lists
  small_fails lists count tied =
      all_lists (SmallFails test most) lists
      (λ class below. subst (λ (list : List (Keyed ℕ)). SmallFails test most list) (sym (tied class (omega (arith, below, count)))) (of_class class))
