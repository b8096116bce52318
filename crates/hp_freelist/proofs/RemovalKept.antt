-- A key leaves its list: where the greatest was kept under each key, it is so again after the mend.
use Rattle.std.proofs.Common.{◌≡◌, ◌≢◌, ℕ, ◌<◌, ◌≤◌, List, [], ◌∷◌, ◌++◌, true, false, Option, None, length, get_or, sym, ap, ◌∙◌, subst, arith, inl, inr}
use Rattle.std.proofs.lemmas.Bool.{cases_eq, both_ways, false_from_ne_true}
use Rattle.std.proofs.lemmas.List.{length-map, get_or-map}
use Rattle.std.proofs.lemmas.List.Elements.{All-from_recursion, recursion_from_All}
use Rattle.std.proofs.lemmas.Option.{same_Some}
use Rattle.hp_chain.specs.Chain.{Keyed, Place, first_key, last_key, has_key, Spells, AreApart}
use Rattle.hp_chain.specs.Edits.{without_key}
use Rattle.hp_chain.proofs.Keys.{has_key-own, has_key_front, has_key_back}
use Rattle.hp_chain.proofs.Spelling.{middle_place}
use Rattle.hp_chain.proofs.EditLemmas.{without_key-at, without_key-lacking}
use Rattle.hp_freelist.specs.declared.link.Link.{Link}
use Rattle.hp_freelist.specs.Lists.{list_at, is_listed, without}
use Rattle.hp_freelist.specs.Links.{place_of, place_at, IsLinked}
use Rattle.hp_freelist.specs.Kept.{KeepsGreatest, IsKept, StoodIn, StoodAfter, IsMended}
use Rattle.hp_freelist.proofs.RoomLemmas.{read_place}
use Rattle.hp_freelist.proofs.LinkedLemmas.{one_class}
use Rattle.hp_freelist.proofs.RemovalLemmas.{IsListed, listed, listed_within}
use Rattle.hp_freelist.proofs.MendLemmas.{keeps_same}

module _ (old new : List Link) (firsts led_firsts : List (Option ℕ)) (lists : List (List (Keyed ℕ))) (kept : List ℕ)
    (linked : IsLinked old firsts lists) (held : IsKept old kept lists) (key : ℕ) (has : is_listed key lists ≡ true) where
  -- the list that has the key, in two parts
  abbrev here : IsListed old new firsts led_firsts lists linked key
  here = listed old new firsts led_firsts lists linked key has

  abbrev gone : Keyed ℕ
  gone = record { key = key; value = here.found.value }

  parts : list_at lists here.class ≡ here.front ++ gone ∷ here.back
  parts = here.is ∙ ap (λ (k : ℕ). let e : Keyed ℕ = record { key = k; value = here.found.value } in here.front ++ e ∷ here.back) here.same

  apart : AreApart (here.front ++ gone ∷ here.back)
  apart = subst (λ (zs : List (Keyed ℕ)). AreApart zs) parts (linked.linked here.class here.below).apart

  -- each list keeps its greatest
  kept_at : (class : ℕ) → class < 13 → KeepsGreatest kept (list_at lists class)
  kept_at class below = All-from_recursion (KeepsGreatest kept) lists held.greatest class [] (omega (arith, below, linked.count))

  -- the other lists have none of its keys
  elsewhere : (class : ℕ) → class < 13 → class ≢ here.class → (k : ℕ) → has_key k (here.front ++ gone ∷ here.back) ≡ true → has_key k (list_at lists class) ≡ false
  elsewhere class below differs k own =
      false_from_ne_true (has_key k (list_at lists class))
      (λ too. differs (one_class old firsts lists linked k class here.class below here.below too (subst (λ (zs : List (Keyed ℕ)). has_key k zs ≡ true) (sym parts) own)))

  -- the lists without the key
  left_at : (class : ℕ) (d : List (Keyed ℕ)) → class < length lists → get_or (without key lists) class d ≡ without_key key (list_at lists class)
  left_at class d within = get_or-map (without_key key) lists class [] d within

  left_here : without_key key (list_at lists here.class) ≡ here.front ++ here.back
  left_here = ap (λ (zs : List (Keyed ℕ)). without_key key zs) parts ∙ without_key-at here.front gone here.back apart

  module _ (left : IsLinked new led_firsts (without key lists)) (link : Link) (read : link ≡ get_or old key link) where
    abbrev there : Place ℕ
    there = record { prev = last_key None here.front; next = first_key here.back None; value = here.found.value }

    link_is : place_of link ≡ there
    link_is =
        same_Some (place_of link) there
        (sym (read_place old key link (listed_within old new firsts led_firsts lists linked key has) read)
        ∙ middle_place (place_at old) None here.front gone here.back None
        (subst (λ (zs : List (Keyed ℕ)). Spells (place_at old) None zs None) parts (linked.linked here.class here.below).spelled))

    stood_in : StoodIn new kept key link.prev here.front here.found.value here.back
    stood_in = record {
      after = ap (λ (place : Place ℕ). place.prev) link_is;
      spelled = subst (λ (zs : List (Keyed ℕ)). Spells (place_at new) None zs None)
          (left_at here.class [] (omega (arith, here.below, linked.count)) ∙ left_here) (left.linked here.class here.below).spelled;
      apart = apart;
      held = subst (λ (zs : List (Keyed ℕ)). KeepsGreatest kept zs) parts (kept_at here.class here.below);
    }

    -- so what the mend wants holds
    pub stood : length new ≡ length old → StoodAfter new kept key link.prev
    stood same = record { front = here.front; whole = here.found.value; back = here.back; room = omega (arith, held.room, same); stood = stood_in }

    module _ (again : List ℕ) (mended : IsMended new kept again key link.prev) where
      kept_left : (class : ℕ) → class < 13 → KeepsGreatest again (without_key key (list_at lists class))
      kept_left class below = elim (cases_eq class here.class) [
        | inl same ↦
            subst (λ (k : ℕ). KeepsGreatest again (without_key key (list_at lists k))) (sym same)
            (subst (λ (zs : List (Keyed ℕ)). KeepsGreatest again zs) (sym left_here) (mended.again here.front here.found.value here.back stood_in))
        | inr differs ↦
            let lacks : has_key key (list_at lists class) ≡ false =
            elsewhere class below differs key (has_key_back key here.front (gone ∷ here.back) (has_key-own gone here.back)) in
            let before_lacks : (k : ℕ) → has_key k (list_at lists class) ≡ true → has_key k here.front ≡ false = λ k own.
            false_from_ne_true (has_key k here.front)
            (λ before. both_ways (has_key k (list_at lists class)) (elsewhere class below differs k (has_key_front k here.front (gone ∷ here.back) before)) own) in
            subst (λ (zs : List (Keyed ℕ)). KeepsGreatest again zs) (sym (without_key-lacking key (list_at lists class) lacks))
            (keeps_same kept again (list_at lists class) (λ k own. mended.others here.front here.found.value here.back stood_in k (before_lacks k own)) (kept_at class below))
      ]

      -- and what it leaves is kept of the lists without the key
      pub kept_without : length new ≤ length again → IsKept new again (without key lists)
      kept_without room = record {
        room = room;
        greatest = recursion_from_All (KeepsGreatest again) (without key lists)
            (λ class d within.
            let counted : class < length lists = omega (arith, within, length-map lists (without_key key)) in
            subst (λ (zs : List (Keyed ℕ)). KeepsGreatest again zs) (sym (left_at class d counted)) (kept_left class (omega (arith, counted, linked.count))));
      }
