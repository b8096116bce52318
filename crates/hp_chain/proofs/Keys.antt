-- The keys of a list: which it has, that they differ, and the first and the last of them.
use Rattle.std.proofs.Common.{◌≡◌, ℕ, List, [], ◌∷◌, ◌++◌, true, false, Option, Some, None, nat_eq, ◌||◌, refl, sym, ap, ◌∙◌, subst}
use Rattle.std.proofs.Common.{eq-eqb, eqb-true, ◌⊎◌, inl, inr}
use Rattle.std.proofs.lemmas.Bool.{both_ways, or_cases, or_parts, or_from, or_left, or_right, false_from_ne_true, ne_eqb, false≢true}
use Rattle.std.proofs.lemmas.Option.{same_Some, none-some}
use Rattle.hp_chain.specs.Chain.{Keyed, has_key, AreApart, first_key, last_key}

-- no key, or one that the list does not have
abbrev pub IsBeside : {X : Type 0} → Option ℕ → List (Keyed X) → Type 0
IsBeside key xs = (other : ℕ) → key ≡ Some other → has_key other xs ≡ false

module _ {X : Type 0} where
  pub has_key-own : (e : Keyed X) (es : List (Keyed X)) → has_key e.key (e ∷ es) ≡ true
  has_key-own e es = or_left (nat_eq e.key e.key) (has_key e.key es) (eq-eqb e.key e.key refl)

  pub has_key-append : (key : ℕ) (xs ys : List (Keyed X)) → has_key key (xs ++ ys) ≡ (has_key key xs || has_key key ys)
  has_key-append key [] ys = refl
  has_key-append key (x ∷ xs) ys =
      elim (nat_eq x.key key) as (λ b. (b || has_key key (xs ++ ys)) ≡ ((b || has_key key xs) || has_key key ys)) [
        | true ↦ refl
        | false ↦ has_key-append key xs ys
      ]

  -- a key of one part is a key of the whole
  pub has_key_front : (key : ℕ) (xs ys : List (Keyed X)) → has_key key xs ≡ true → has_key key (xs ++ ys) ≡ true
  has_key_front key xs ys has = has_key-append key xs ys ∙ or_left (has_key key xs) (has_key key ys) has

  pub has_key_back : (key : ℕ) (xs ys : List (Keyed X)) → has_key key ys ≡ true → has_key key (xs ++ ys) ≡ true
  has_key_back key xs ys has = has_key-append key xs ys ∙ or_right (has_key key xs) (has_key key ys) has

  -- a key that the whole lacks, its parts lack
  pub lacks_parts : (key : ℕ) (xs ys : List (Keyed X)) → has_key key (xs ++ ys) ≡ false
      → (has_key key xs ≡ false) × (has_key key ys ≡ false)
  lacks_parts key xs ys lacks = or_parts (has_key key xs) (has_key key ys) (sym (has_key-append key xs ys) ∙ lacks)

  pub lacks_both : (key : ℕ) (xs ys : List (Keyed X)) → has_key key xs ≡ false → has_key key ys ≡ false → has_key key (xs ++ ys) ≡ false
  lacks_both key xs ys front back = has_key-append key xs ys ∙ or_from (has_key key xs) (has_key key ys) front back

  -- of keys that are apart, each part's are, and none is in both
  pub apart_front : (xs ys : List (Keyed X)) → AreApart (xs ++ ys) → AreApart xs
  apart_front [] ys apart = tt
  apart_front (x ∷ xs) ys apart = ((lacks_parts x.key xs ys apart.0).0, apart_front xs ys apart.1)

  pub apart_back : (xs ys : List (Keyed X)) → AreApart (xs ++ ys) → AreApart ys
  apart_back [] ys apart = apart
  apart_back (x ∷ xs) ys apart = apart_back xs ys apart.1

  pub apart_across : (key : ℕ) (xs ys : List (Keyed X)) → AreApart (xs ++ ys) → has_key key ys ≡ true → has_key key xs ≡ false
  apart_across key [] ys apart has = refl
  apart_across key (x ∷ xs) ys apart has =
      or_from (nat_eq x.key key) (has_key key xs)
      (ne_eqb x.key key (λ same. both_ways (has_key key ys) (subst (λ (k : ℕ). has_key k ys ≡ false) same (lacks_parts x.key xs ys apart.0).1) has))
      (apart_across key xs ys apart.1 has)

  pub apart_joined : (xs ys : List (Keyed X)) → AreApart xs → AreApart ys → ((key : ℕ) → has_key key xs ≡ true → has_key key ys ≡ false)
      → AreApart (xs ++ ys)
  apart_joined [] ys front back across = back
  apart_joined (x ∷ xs) ys front back across = (
    lacks_both x.key xs ys front.0 (across x.key (has_key-own x xs)),
    apart_joined xs ys front.1 back (λ key has. across key (or_right (nat_eq x.key key) (has_key key xs) has)),
  )

  -- the key in the middle is in neither part
  pub apart_middle : (xs : List (Keyed X)) (e : Keyed X) (ys : List (Keyed X)) → AreApart (xs ++ e ∷ ys)
      → (has_key e.key xs ≡ false) × (has_key e.key ys ≡ false)
  apart_middle xs e ys apart = (apart_across e.key xs (e ∷ ys) apart (has_key-own e ys), (apart_back xs (e ∷ ys) apart).0)

  -- they are apart without it
  pub apart_without : (xs : List (Keyed X)) (e : Keyed X) (ys : List (Keyed X)) → AreApart (xs ++ e ∷ ys) → AreApart (xs ++ ys)
  apart_without [] e ys apart = apart.1
  apart_without (x ∷ xs) e ys apart = (
    lacks_both x.key xs ys (lacks_parts x.key xs (e ∷ ys) apart.0).0 (or_parts (nat_eq e.key x.key) (has_key x.key ys) (lacks_parts x.key xs (e ∷ ys) apart.0).1).1,
    apart_without xs e ys apart.1,
  )

  -- and with another one, whose key none has
  pub apart_with : (xs : List (Keyed X)) (e : Keyed X) (ys : List (Keyed X)) → AreApart (xs ++ ys) → has_key e.key (xs ++ ys) ≡ false
      → AreApart (xs ++ e ∷ ys)
  apart_with [] e ys apart lacks = (lacks, apart)
  apart_with (x ∷ xs) e ys apart lacks = (
    lacks_both x.key xs (e ∷ ys) (lacks_parts x.key xs ys apart.0).0
        (or_from (nat_eq e.key x.key) (has_key x.key ys)
        (ne_eqb e.key x.key (λ same. both_ways (nat_eq x.key e.key) (or_parts (nat_eq x.key e.key) (has_key e.key (xs ++ ys)) lacks).0 (eq-eqb x.key e.key (sym same))))
        (lacks_parts x.key xs ys apart.0).1),
    apart_with xs e ys apart.1 (or_parts (nat_eq x.key e.key) (has_key e.key (xs ++ ys)) lacks).1,
  )

  -- the ends of a list in two parts
  pub first_key-append : (xs ys : List (Keyed X)) (after : Option ℕ) → first_key (xs ++ ys) after ≡ first_key xs (first_key ys after)
  first_key-append [] ys after = refl
  first_key-append (x ∷ xs) ys after = refl

  pub last_key-append : (before : Option ℕ) (xs ys : List (Keyed X)) → last_key before (xs ++ ys) ≡ last_key (last_key before xs) ys
  last_key-append before [] ys = refl
  last_key-append before (x ∷ xs) ys = last_key-append (Some x.key) xs ys

  -- the first and the last key are keys of the list
  pub first_key_among : (xs : List (Keyed X)) (key : ℕ) → first_key xs None ≡ Some key → has_key key xs ≡ true
  first_key_among [] key is = absurd (none-some key is)
  first_key_among (x ∷ xs) key is = subst (λ (k : ℕ). has_key k (x ∷ xs) ≡ true) (same_Some x.key key is) (has_key-own x xs)

  last_key_cases : (before : Option ℕ) (xs : List (Keyed X)) (key : ℕ) → last_key before xs ≡ Some key
      → (before ≡ Some key) ⊎ (has_key key xs ≡ true)
  last_key_cases before [] key is = inl is
  last_key_cases before (x ∷ xs) key is = inr (elim (last_key_cases (Some x.key) xs key is) [
    | inl same ↦ or_left (nat_eq x.key key) (has_key key xs) (eq-eqb x.key key (same_Some x.key key same))
    | inr has ↦ or_right (nat_eq x.key key) (has_key key xs) has
  ])

  pub last_key_among : (xs : List (Keyed X)) (key : ℕ) → last_key None xs ≡ Some key → has_key key xs ≡ true
  last_key_among xs key is = elim (last_key_cases None xs key is) [ inl same ↦ absurd (none-some key same) | inr has ↦ has ]

  -- the last key of the front is not in the back, and the first key of the back is not in the front
  pub last_beside : (xs ys : List (Keyed X)) → AreApart (xs ++ ys) → IsBeside (last_key None xs) ys
  last_beside xs ys apart key is = false_from_ne_true (has_key key ys) (λ has. both_ways (has_key key xs) (apart_across key xs ys apart has) (last_key_among xs key is))

  pub first_beside : (xs ys : List (Keyed X)) → AreApart (xs ++ ys) → IsBeside (first_key ys None) xs
  first_beside xs ys apart key is = apart_across key xs ys apart (first_key_among ys key is)

  -- a key that the list lacks is beside it
  pub lacking_beside : (key : ℕ) (xs : List (Keyed X)) → has_key key xs ≡ false → IsBeside (Some key) xs
  lacking_beside key xs lacks other is = subst (λ (k : ℕ). has_key k xs ≡ false) (same_Some key other is) lacks

-- the list in two parts at the element with a key
pub record IsFound {X : Type 0} (key : ℕ) (xs : List (Keyed X)) : Type 0 where
  pub front : List (Keyed X)
  pub found : Keyed X
  pub back : List (Keyed X)
  pub is : xs ≡ front ++ found ∷ back
  pub same : found.key ≡ key

module _ {X : Type 0} where
  pub found_at : (key : ℕ) (xs : List (Keyed X)) → has_key key xs ≡ true → IsFound key xs
  found_at key [] has = absurd (false≢true has)
  found_at key (x ∷ xs) has = elim (or_cases (nat_eq x.key key) (has_key key xs) has) [
    | inl same ↦ record { front = []; found = x; back = xs; is = refl; same = eqb-true x.key key same }
    | inr later ↦
        let rest = found_at key xs later in
        record { front = x ∷ rest.front; found = rest.found; back = rest.back; is = ap (λ zs. x ∷ zs) rest.is; same = rest.same }
  ]
