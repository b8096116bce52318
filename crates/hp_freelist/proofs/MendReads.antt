-- What the mend reads: the link of the key that it comes to, and the list after it.
use Rattle.std.proofs.Common.{◌≡◌, ℕ, suc, false, nat_eq, set, slice_get, IsSomeAnd, ap₂, ◌<◌, ◌≤◌, List, [], ◌∷◌, ◌++◌, Option, Some, None, IfSome, length, get_or, refl, sym, ap, ◌∙◌, subst, arith, append_assoc}
use Rattle.std.proofs.lemmas.Bool.{both_ways, or_parts, eqb-false}
use Rattle.std.proofs.lemmas.Option.{same_Some}
use Rattle.std.proofs.lemmas.List.{length-append}
use Rattle.hp_chain.specs.Chain.{Keyed, Place, has_key, AreApart, first_key, last_key, Spells}
use Rattle.hp_chain.proofs.Keys.{first_key_among, apart_back, apart_without}
use Rattle.hp_chain.proofs.Spelling.{middle_place, split_spells}
use Rattle.hp_chain.proofs.Walks.{walk_is, spelled_place}
use Rattle.hp_freelist.specs.declared.link.Link.{Link}
use Rattle.hp_freelist.specs.Links.{place_of, place_at, list_from}
use Rattle.hp_freelist.specs.Kept.{KeepsGreatest, HasWithin, StoodIn}
use Rattle.hp_freelist.proofs.RoomLemmas.{read_place}
use Rattle.hp_freelist.proofs.LinkedLemmas.{place_within}
use Rattle.hp_freelist.proofs.MendSteps.{long_links}
use Rattle.hp_freelist.proofs.MendStops.{HasLast, has_last}
use Rattle.hp_freelist.specs.Greatest.{IsGreatest}
use Rattle.hp_freelist.proofs.MendLemmas.{keeps_same, set_there, set_elsewhere}
use Rattle.hp_freelist.proofs.Mending.{IsMending}

module _ (links : List Link) (old new : List ℕ) (key : ℕ) (prev before : Option ℕ) (left at : ℕ) (some : before ≡ Some at)
    (front : List (Keyed ℕ)) (whole : ℕ) (back : List (Keyed ℕ)) (stood : StoodIn links old key prev front whole back) (now : IsMending old new front back before left) where
  abbrev last : HasLast now.first at
  last = has_last now.first at (sym now.at ∙ some)

  pub shape : front ++ back ≡ last.front ++ (last.found ∷ (now.mended ++ back))
  shape =
      ap (λ (zs : List (Keyed ℕ)). zs ++ back) (now.is ∙ ap (λ (zs : List (Keyed ℕ)). zs ++ now.mended) last.is ∙ append_assoc last.front (last.found ∷ []) now.mended)
      ∙ append_assoc last.front (last.found ∷ now.mended) back

  pub spelled : Spells (place_at links) None (last.front ++ (last.found ∷ (now.mended ++ back))) None
  spelled = subst (λ (zs : List (Keyed ℕ)). Spells (place_at links) None zs None) shape stood.spelled

  abbrev there : Place ℕ
  there = record { prev = last_key None last.front; next = first_key (now.mended ++ back) None; value = last.found.value }

  stands : place_at links at ≡ Some there
  stands =
      subst (λ (k : ℕ). place_at links k ≡ Some there) last.same
      (middle_place (place_at links) None last.front last.found (now.mended ++ back) None spelled)

  pub at_within : at < length links
  at_within = place_within links at there stands

  module _ (link : Link) (read : link ≡ get_or links at link) where
    pub link_is : place_of link ≡ there
    link_is = same_Some (place_of link) there (sym (read_place links at link at_within read) ∙ stands)

    next_list : list_from links link.next ≡ now.mended ++ back
    next_list =
        ap (λ (place : Place ℕ). list_from links place.next) link_is
        ∙ walk_is (place_at links) (length links) (Some last.found.key) (now.mended ++ back)
        (omega (arith, long_links links old key prev front whole back stood, ap (λ (zs : List (Keyed ℕ)). length zs) shape, length-append last.front (last.found ∷ (now.mended ++ back))))
        (split_spells (place_at links) None last.front (last.found ∷ (now.mended ++ back)) None spelled).1.1

    pub next_kept : KeepsGreatest new (list_from links link.next)
    next_kept = subst (λ (zs : List (Keyed ℕ)). KeepsGreatest new zs) (sym next_list) now.keeps

    -- the next key, where there is one, has a link
    next_some : (next : Option ℕ) → link.next ≡ next → IfSome next (λ k. k < length links)
    next_some None is = tt
    next_some (Some k) is =
        let among : first_key (now.mended ++ back) None ≡ Some k = sym (ap (λ (place : Place ℕ). place.next) link_is) ∙ is in
        let after = (split_spells (place_at links) None last.front (last.found ∷ (now.mended ++ back)) None spelled).1.1 in
        let filed = spelled_place (place_at links) (Some last.found.key) (now.mended ++ back) None k after (first_key_among (now.mended ++ back) k among) in
        place_within links k filed.0 filed.1

    both_some : (next : Option ℕ) (room : ℕ) → length links ≤ room → IfSome next (λ k. k < length links) → IfSome next (λ k. (k < length links) × (length links ≤ room))
    both_some None room enough within = tt
    both_some (Some k) room enough within = (within, enough)

    pub next_within : length links ≤ length new → HasWithin links new link.next
    next_within enough = both_some link.next (length new) enough (next_some link.next refl)

    lacks_rest : has_key at (now.mended ++ back) ≡ false
    lacks_rest =
        subst (λ (k : ℕ). has_key k (now.mended ++ back) ≡ false) last.same
        (apart_back last.front (last.found ∷ (now.mended ++ back))
        (subst (λ (zs : List (Keyed ℕ)). AreApart zs) shape (apart_without front (record { key = key; value = whole }) back stood.apart))).0

    -- with its greatest, one key more is mended
    pub mended_more : (result rest : ℕ) → IsGreatest (record { key = at; value = link.whole } ∷ list_from links link.next) result → at < length new
        → left ≤ suc rest
        → IsMending old (set new at result) front back link.prev rest
    mended_more result rest greatest within enough =
        let same : record { key = at; value = link.whole } ≡ last.found =
        ap₂ (λ (k : ℕ) (v : ℕ). let e : Keyed ℕ = record { key = k; value = v } in e) (sym last.same) (ap (λ (place : Place ℕ). place.value) link_is) in
        let found : IsGreatest (last.found ∷ (now.mended ++ back)) result =
        subst (λ (e : Keyed ℕ). IsGreatest (e ∷ (now.mended ++ back)) result) same
        (subst (λ (zs : List (Keyed ℕ)). IsGreatest (record { key = at; value = link.whole } ∷ zs) result) next_list greatest) in
        record {
          first = last.front;
          mended = last.found ∷ now.mended;
          is = now.is ∙ ap (λ (zs : List (Keyed ℕ)). zs ++ now.mended) last.is ∙ append_assoc last.front (last.found ∷ []) now.mended;
          at = ap (λ (place : Place ℕ). place.prev) link_is;
          short = omega (arith, now.short, enough, ap (λ (zs : List (Keyed ℕ)). length zs) last.is, length-append last.front (last.found ∷ []));
          keeps = (
            subst (λ (k : ℕ). IsSomeAnd (slice_get (set new at result) k) (IsGreatest (last.found ∷ (now.mended ++ back)))) (sym last.same)
                (subst (λ (slot : Option ℕ). IsSomeAnd slot (IsGreatest (last.found ∷ (now.mended ++ back)))) (sym (set_there new at result within)) found),
            keeps_same new (set new at result) (now.mended ++ back)
                (λ k has. set_elsewhere new at result k
                (λ is. both_ways (has_key k (now.mended ++ back)) (subst (λ (j : ℕ). has_key j (now.mended ++ back) ≡ false) (sym is) lacks_rest) has)) now.keeps,
          );
          rest = λ other lacks.
              let parts = or_parts (nat_eq last.found.key other) (has_key other now.mended) lacks in
              set_elsewhere new at result other (λ is. eqb-false last.found.key other parts.0 (last.same ∙ sym is)) ∙ now.rest other parts.1;
        }
