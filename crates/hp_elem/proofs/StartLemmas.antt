-- The keys of elements by where they begin.
use Rattle.std.proofs.Common.{◌≡◌, ℕ, ◌<◌, ◌≤◌, [], ◌∷◌, ◌++◌, false, Option, Some, None, nat_eq, refl, sym, ap, ◌∙◌, subst, cond, arith, inl, inr}
use Rattle.std.proofs.lemmas.Bool.{cases_Bool, cond-true, cond-false, eqb-true, eqb-false, ne_eqb}
use Rattle.hp_base.specs.declared.span.Span.{Span}
use Rattle.hp_chain.specs.Chain.{Keyed}
use Rattle.std.specs.List.{find}
use Rattle.std.specs.Option.{option_map}
use Rattle.hp_elem.specs.Items.{Items, end_of, begins_at, key_from}
use Rattle.hp_elem.specs.Order.{IsRising}
use Rattle.hp_elem.specs.Index.{with_start, start_key, reach}
use Rattle.hp_elem.proofs.OrderLemmas.{reach_above, rising_front, rising_back}

-- the key that the table has is that of the element that begins there
pub start_is : (addr : ℕ) (xs : Items) → start_key xs addr ≡ key_from addr xs
start_is addr [] = refl
start_is addr (x ∷ xs) = elim (cases_Bool (nat_eq x.value.addr addr)) [
  | inl same ↦
      cond-true (nat_eq x.value.addr addr) (Some x.key) (start_key xs addr) same
      ∙ sym (ap (λ (o : Option (Keyed Span)). option_map (λ (e : Keyed Span). e.key) o) (cond-true (nat_eq x.value.addr addr) (Some x) (find (begins_at addr) xs) same))
  | inr differs ↦
      cond-false (nat_eq x.value.addr addr) (Some x.key) (start_key xs addr) differs ∙ start_is addr xs
      ∙ sym (ap (λ (o : Option (Keyed Span)). option_map (λ (e : Keyed Span). e.key) o) (cond-false (nat_eq x.value.addr addr) (Some x) (find (begins_at addr) xs) differs))
]

-- none begins below where they stand, nor at or above where they end
pub lacks_below : (addr from : ℕ) (xs : Items) → addr < from → IsRising from xs → start_key xs addr ≡ None
lacks_below addr from [] below rising = refl
lacks_below addr from (x ∷ xs) below rising =
    let differs : x.value.addr ≡ addr → ⊥ = λ same. omega (arith, same, below, rising.0) in
    let later : addr < end_of x.value = omega (arith, below, rising.0) in
    cond-false (nat_eq x.value.addr addr) (Some x.key) (start_key xs addr) (ne_eqb x.value.addr addr differs) ∙ lacks_below addr (end_of x.value) xs later rising.2

pub lacks_above : (addr from : ℕ) (xs : Items) → reach from xs ≤ addr → IsRising from xs → start_key xs addr ≡ None
lacks_above addr from [] above rising = refl
lacks_above addr from (x ∷ xs) above rising =
    let differs : x.value.addr ≡ addr → ⊥ = λ same. omega (arith, same, above, rising.1, reach_above (end_of x.value) xs rising.2) in
    cond-false (nat_eq x.value.addr addr) (Some x.key) (start_key xs addr) (ne_eqb x.value.addr addr differs) ∙ lacks_above addr (end_of x.value) xs above rising.2

-- of a list in two parts
pub lacks_parts : (addr : ℕ) (xs ys : Items) → start_key xs addr ≡ None → start_key ys addr ≡ None → start_key (xs ++ ys) addr ≡ None
lacks_parts addr [] ys front back = back
lacks_parts addr (x ∷ xs) ys front back =
    (elim (cases_Bool (nat_eq x.value.addr addr)) [
      | inl same ↦ absurd (Rattle.std.proofs.lemmas.Option.none-some x.key (sym front ∙ cond-true (nat_eq x.value.addr addr) (Some x.key) (start_key xs addr) same))
      | inr differs ↦
          cond-false (nat_eq x.value.addr addr) (Some x.key) (start_key (xs ++ ys) addr) differs
          ∙ lacks_parts addr xs ys (sym (cond-false (nat_eq x.value.addr addr) (Some x.key) (start_key xs addr) differs) ∙ front) back
    ])

-- an element more
added_at : (xs : Items) (e : Keyed Span) (ys : Items) (addr : ℕ) → start_key xs e.value.addr ≡ None
    → start_key (xs ++ e ∷ ys) addr ≡ with_start e.value.addr (Some e.key) (start_key (xs ++ ys)) addr
added_at [] e ys addr lacks = refl
added_at (x ∷ xs) e ys addr lacks =
    let rest : Option ℕ = start_key (xs ++ ys) addr in
    let own : Option ℕ = start_key (xs ++ e ∷ ys) addr in
    elim (cases_Bool (nat_eq x.value.addr e.value.addr)) [
      | inl same ↦ absurd (Rattle.std.proofs.lemmas.Option.none-some x.key (sym lacks ∙ cond-true (nat_eq x.value.addr e.value.addr) (Some x.key) (start_key xs e.value.addr) same))
      | inr differs ↦
          let later = added_at xs e ys addr (sym (cond-false (nat_eq x.value.addr e.value.addr) (Some x.key) (start_key xs e.value.addr) differs) ∙ lacks) in
          elim (cases_Bool (nat_eq x.value.addr addr)) [
            | inl here ↦
                let x_is : x.value.addr ≡ addr = eqb-true x.value.addr addr here in
                let not_e : nat_eq e.value.addr addr ≡ false = ne_eqb e.value.addr addr (λ same. eqb-false x.value.addr e.value.addr differs (x_is ∙ sym same)) in
                cond-true (nat_eq x.value.addr addr) (Some x.key) own here
                ∙ sym (cond-false (nat_eq e.value.addr addr) (Some e.key) (cond (nat_eq x.value.addr addr) (Some x.key) rest) not_e
                ∙ cond-true (nat_eq x.value.addr addr) (Some x.key) rest here)
            | inr beside ↦
                cond-false (nat_eq x.value.addr addr) (Some x.key) own beside ∙ later
                ∙ ap (λ (o : Option ℕ). cond (nat_eq e.value.addr addr) (Some e.key) o) (sym (cond-false (nat_eq x.value.addr addr) (Some x.key) rest beside))
          ]
    ]

-- an entry that was not there is put and taken
undone : (table : ℕ → Option ℕ) (key : Option ℕ) (at addr : ℕ) → table at ≡ None → with_start at None (with_start at key table) addr ≡ table addr
undone table key at addr none =
    elim (cases_Bool (nat_eq at addr)) [
      | inl here ↦ cond-true (nat_eq at addr) None (cond (nat_eq at addr) key (table addr)) here ∙ sym (subst (λ (a : ℕ). table a ≡ None) (eqb-true at addr here) none)
      | inr beside ↦
          cond-false (nat_eq at addr) None (cond (nat_eq at addr) key (table addr)) beside ∙ cond-false (nat_eq at addr) key (table addr) beside
    ]

-- an element that has another value, and begins where it did
valued_at : (xs : Items) (e : Keyed Span) (value : Span) (ys : Items) (addr : ℕ) → value.addr ≡ e.value.addr
    → start_key (xs ++ (record { key = e.key; value = value }) ∷ ys) addr ≡ start_key (xs ++ e ∷ ys) addr
valued_at [] e value ys addr same = ap (λ (a : ℕ). with_start a (Some e.key) (start_key ys) addr) same
valued_at (x ∷ xs) e value ys addr same = ap (λ (o : Option ℕ). cond (nat_eq x.value.addr addr) (Some x.key) o) (valued_at xs e value ys addr same)

module _ (xs : Items) (e : Keyed Span) (ys : Items) where
  pub starts-valued : (value : Span) → value.addr ≡ e.value.addr → start_key (xs ++ (record { key = e.key; value = value }) ∷ ys) ≡ start_key (xs ++ e ∷ ys)
  starts-valued value same = λ i addr. valued_at xs e value ys addr same i

  pub starts-added : IsRising 0 (xs ++ e ∷ ys) → start_key (xs ++ e ∷ ys) ≡ with_start e.value.addr (Some e.key) (start_key (xs ++ ys))
  starts-added rising =
      let front = lacks_above e.value.addr 0 xs (rising_back 0 xs (e ∷ ys) rising).0 (rising_front 0 xs (e ∷ ys) rising) in
      λ i addr. added_at xs e ys addr front i

  pub starts-removed : IsRising 0 (xs ++ e ∷ ys) → start_key (xs ++ ys) ≡ with_start e.value.addr None (start_key (xs ++ e ∷ ys))
  starts-removed rising =
      let parts = rising_back 0 xs (e ∷ ys) rising in
      let inside : e.value.addr < end_of e.value = omega (arith, parts.1) in
      let front = lacks_above e.value.addr 0 xs parts.0 (rising_front 0 xs (e ∷ ys) rising) in
      let none = lacks_parts e.value.addr xs ys front (lacks_below e.value.addr (end_of e.value) ys inside parts.2) in
      let back : with_start e.value.addr None (with_start e.value.addr (Some e.key) (start_key (xs ++ ys))) ≡ start_key (xs ++ ys) =
      λ i addr. undone (start_key (xs ++ ys)) (Some e.key) e.value.addr addr none i in
      sym (ap (λ (table : ℕ → Option ℕ). with_start e.value.addr None table) (starts-added rising) ∙ back)
