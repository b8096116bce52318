-- The greatest is kept of each list, as before, when a key comes to the head of one.
use Rattle.std.proofs.Common.{◌≡◌, ℕ, zero, suc, ◌<◌, List, [], ◌∷◌, Option, false, IsSomeAnd, length, set, sym, subst, arith}
use Rattle.std.proofs.lemmas.Bool.{both_ways, or_parts}
use Rattle.std.proofs.lemmas.List.{length-set}
use Rattle.std.specs.List.{AllByRecursion}
use Rattle.hp_chain.specs.Chain.{Keyed, has_key}
use Rattle.hp_freelist.specs.declared.link.Link.{Link}
use Rattle.hp_freelist.specs.Lists.{list_class, list_at, is_listed, with_head}
use Rattle.hp_freelist.specs.Heads.{head_at}
use Rattle.hp_freelist.specs.Greatest.{IsGreatest}
use Rattle.hp_freelist.specs.Links.{list_from, lists_of, IsLinked}
use Rattle.hp_freelist.specs.Kept.{KeepsGreatest, IsKept}
use Rattle.hp_freelist.proofs.HeadLemmas.{class_below}
use Rattle.hp_freelist.proofs.LinkedLemmas.{lists_are}
use Rattle.hp_freelist.proofs.MendLemmas.{keeps_same, set_there, set_elsewhere}
use Rattle.hp_freelist.proofs.GreatestRead.{holds_at, from_head}

-- what holds of each list holds of each with another in one class, where it holds of that one
all_with : (P : List (Keyed ℕ) → Type 0) (lists : List (List (Keyed ℕ))) (class : ℕ) (list : List (Keyed ℕ)) → P list → AllByRecursion P lists
    → AllByRecursion P (set lists class list)
all_with P [] class list here all = tt
all_with P (first ∷ lists) zero list here all = (here, all.1)
all_with P (first ∷ lists) (suc class) list here all = (all.0, all_with P lists class list here all.1)

-- another value under a key that is in no list
kept_beside : (kept : List ℕ) (key greatest : ℕ) (lists : List (List (Keyed ℕ))) → is_listed key lists ≡ false
    → AllByRecursion (KeepsGreatest kept) lists → AllByRecursion (KeepsGreatest (set kept key greatest)) lists
kept_beside kept key greatest [] unlisted all = tt
kept_beside kept key greatest (list ∷ lists) unlisted all =
    let parts = or_parts (has_key key list) (is_listed key lists) unlisted in (
      keeps_same kept (set kept key greatest) list
          (λ other has. set_elsewhere kept key greatest other
          (λ same. both_ways (has_key other list) (subst (λ (k : ℕ). has_key k list ≡ false) (sym same) parts.0) has)) all.0,
      kept_beside kept key greatest lists parts.1 all.1,
    )

module _ (links : List Link) (kept : List ℕ) (firsts : List (Option ℕ)) (lists : List (List (Keyed ℕ))) (linked : IsLinked links firsts lists) (holds : IsKept links kept lists)
    (key whole greatest : ℕ) (next : Option ℕ) (is : next ≡ head_at firsts (list_class whole)) (within : key < length links) (unlisted : is_listed key lists ≡ false)
    (found : IsGreatest (record { key = key; value = whole } ∷ list_from links next) greatest) where
  headed : KeepsGreatest (set kept key greatest) (record { key = key; value = whole } ∷ list_at lists (list_class whole))
  headed =
      let e : Keyed ℕ = record { key = key; value = whole } in
      let list : List (Keyed ℕ) = list_at lists (list_class whole) in
      let here : IsGreatest (e ∷ list) greatest =
      subst (λ (zs : List (Keyed ℕ)). IsGreatest (e ∷ zs) greatest) (from_head links kept firsts lists linked holds (list_class whole) (class_below whole) next is) found in (
        subst (λ (slot : Option ℕ). IsSomeAnd slot (IsGreatest (e ∷ list))) (sym (set_there kept key greatest (omega (arith, within, holds.room)))) here,
        holds_at (KeepsGreatest (set kept key greatest)) lists (list_class whole) (omega (arith, class_below whole, linked.count)) (kept_beside kept key greatest lists unlisted holds.greatest),
      )

  pub head_kept : (new : List Link) → length new ≡ length links → IsKept new (set kept key greatest) (with_head key whole lists)
  head_kept new same = record {
    room = omega (arith, same, holds.room, length-set kept key greatest);
    greatest = all_with (KeepsGreatest (set kept key greatest)) lists (list_class whole) (record { key = key; value = whole } ∷ list_at lists (list_class whole))
        headed (kept_beside kept key greatest lists unlisted holds.greatest);
  }

  -- the same of the lists as the links have them
  pub head_walks : (new : List Link) (new_firsts : List (Option ℕ)) → length new ≡ length links → IsLinked new new_firsts (with_head key whole lists)
      → IsKept new (set kept key greatest) (lists_of new new_firsts)
  head_walks new new_firsts same linked_new =
      subst (λ (all : List (List (Keyed ℕ))). IsKept new (set kept key greatest) all) (sym (lists_are new new_firsts (with_head key whole lists) linked_new)) (head_kept new same)
