-- Edits at the element with a key, where the list is in two parts at it.
use Rattle.std.proofs.Common.{◌≡◌, ℕ, List, [], ◌∷◌, ◌++◌, false, Bool, nat_eq, not, cond, ◌||◌, refl, sym, ap, ◌∙◌, subst, eq-eqb, inl}
use Rattle.std.proofs.Common.{inr}
use Rattle.std.proofs.lemmas.Bool.{cond-true, cond-false, cond_both, or_parts, or_from, cases_Bool, eqb-true, eqb-false, ne_eqb}
use Rattle.std.proofs.lemmas.List.Elements.{filter-append}
use Rattle.hp_chain.specs.Chain.{Keyed, has_key, AreApart}
use Rattle.hp_chain.specs.Edits.{edited, without_key}
use Rattle.hp_chain.proofs.Keys.{apart_middle}

module _ {X : Type 0} where
  -- the element of another key stays
  pub edited-other : (key : ℕ) (edit : Keyed X → List (Keyed X) → List (Keyed X)) (xs ys : List (Keyed X)) → has_key key xs ≡ false
      → edited key edit (xs ++ ys) ≡ xs ++ edited key edit ys
  edited-other key edit [] ys lacks = refl
  edited-other key edit (x ∷ xs) ys lacks =
      let parts = or_parts (nat_eq x.key key) (has_key key xs) lacks in
      cond-false (nat_eq x.key key) (edit x (xs ++ ys)) (x ∷ edited key edit (xs ++ ys)) parts.0
      ∙ ap (λ (zs : List (Keyed X)). x ∷ zs) (edited-other key edit xs ys parts.1)

  -- the edit falls on the element with the key
  pub edited-at : (edit : Keyed X → List (Keyed X) → List (Keyed X)) (xs : List (Keyed X)) (e : Keyed X) (ys : List (Keyed X))
      → AreApart (xs ++ e ∷ ys)
      → edited e.key edit (xs ++ e ∷ ys) ≡ xs ++ edit e ys
  edited-at edit xs e ys apart =
      edited-other e.key edit xs (e ∷ ys) (apart_middle xs e ys apart).0
      ∙ ap (λ (zs : List (Keyed X)). xs ++ zs) (cond-true (nat_eq e.key e.key) (edit e ys) (e ∷ edited e.key edit ys) (eq-eqb e.key e.key refl))

  -- a list without a key that it lacks
  pub without_key-lacking : (key : ℕ) (xs : List (Keyed X)) → has_key key xs ≡ false → without_key key xs ≡ xs
  without_key-lacking key [] lacks = refl
  without_key-lacking key (x ∷ xs) lacks =
      let parts = or_parts (nat_eq x.key key) (has_key key xs) lacks in
      ap (λ (b : Bool). cond (not b) (x ∷ without_key key xs) (without_key key xs)) parts.0
      ∙ ap (λ (zs : List (Keyed X)). x ∷ zs) (without_key-lacking key xs parts.1)

  pub without_key-append : (key : ℕ) (xs ys : List (Keyed X)) → without_key key (xs ++ ys) ≡ without_key key xs ++ without_key key ys
  without_key-append key xs ys = filter-append (λ (e : Keyed X). not (nat_eq e.key key)) xs ys

  -- and without the key of its element in the middle
  pub without_key-at : (xs : List (Keyed X)) (e : Keyed X) (ys : List (Keyed X)) → AreApart (xs ++ e ∷ ys)
      → without_key e.key (xs ++ e ∷ ys) ≡ xs ++ ys
  without_key-at xs e ys apart =
      let own = apart_middle xs e ys apart in
      without_key-append e.key xs (e ∷ ys)
      ∙ ap (λ (zs : List (Keyed X)). zs ++ without_key e.key (e ∷ ys)) (without_key-lacking e.key xs own.0)
      ∙ ap (λ (b : Bool). xs ++ cond (not b) (e ∷ without_key e.key ys) (without_key e.key ys)) (eq-eqb e.key e.key refl)
      ∙ ap (λ (zs : List (Keyed X)). xs ++ zs) (without_key-lacking e.key ys own.1)

  -- which keys a list without a key has
  pub has_key-without : (key : ℕ) (xs : List (Keyed X)) → has_key key (without_key key xs) ≡ false
  has_key-without key [] = refl
  has_key-without key (x ∷ xs) = elim (cases_Bool (nat_eq x.key key)) [
    | inl same ↦ subst (λ (b : Bool). has_key key (cond (not b) (x ∷ without_key key xs) (without_key key xs)) ≡ false) (sym same) (has_key-without key xs)
    | inr differs ↦ subst (λ (b : Bool). has_key key (cond (not b) (x ∷ without_key key xs) (without_key key xs)) ≡ false) (sym differs)
        (or_from (nat_eq x.key key) (has_key key (without_key key xs)) differs (has_key-without key xs))
  ]

  pub has_key-without_other : (key other : ℕ) (xs : List (Keyed X)) → nat_eq other key ≡ false
      → has_key other (without_key key xs) ≡ has_key other xs
  has_key-without_other key other [] differs = refl
  has_key-without_other key other (x ∷ xs) differs =
      let P : Bool → Type 0 = λ b. has_key other (cond (not b) (x ∷ without_key key xs) (without_key key xs)) ≡ (nat_eq x.key other || has_key other xs) in
      elim (cases_Bool (nat_eq x.key key)) [
        | inl same ↦
            let is_key : x.key ≡ key = eqb-true x.key key same in
            let not_other : nat_eq x.key other ≡ false = ne_eqb x.key other (λ is. eqb-false other key differs (sym is ∙ is_key)) in
            subst P (sym same) (has_key-without_other key other xs differs ∙ sym (ap (λ (b : Bool). b || has_key other xs) not_other))
        | inr apart ↦ subst P (sym apart) (ap (λ (b : Bool). nat_eq x.key other || b) (has_key-without_other key other xs differs))
      ]

  pub lacks_without : (key other : ℕ) (xs : List (Keyed X)) → has_key other xs ≡ false → has_key other (without_key key xs) ≡ false
  lacks_without key other xs lacks = elim (cases_Bool (nat_eq other key)) [
    | inl same ↦ subst (λ (k : ℕ). has_key k (without_key key xs) ≡ false) (sym (eqb-true other key same)) (has_key-without key xs)
    | inr differs ↦ has_key-without_other key other xs differs ∙ lacks
  ]

  pub apart_without_key : (key : ℕ) (xs : List (Keyed X)) → AreApart xs → AreApart (without_key key xs)
  apart_without_key key [] apart = tt
  apart_without_key key (x ∷ xs) apart =
      cond_both (not (nat_eq x.key key)) (x ∷ without_key key xs) (without_key key xs) (λ (zs : List (Keyed X)). AreApart zs)
      (λ _. (lacks_without key x.key xs apart.0, apart_without_key key xs apart.1)) (λ _. apart_without_key key xs apart.1)
