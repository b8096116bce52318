-- Tables by key with another entry, and the entries of a list of elements after an edit.
use Rattle.std.proofs.Common.{◌≡◌, ℕ, [], ◌∷◌, ◌++◌, true, false, Bool, Option, Some, None, nat_eq, refl, sym, ap, ◌∙◌, subst, cond, eq-eqb, append_assoc, inl, inr}
use Rattle.std.proofs.lemmas.Bool.{cases_Bool, cond-true, cond-false, eqb-true, eqb-false, ne_eqb, or_parts, false≢true}
use Rattle.std.proofs.lemmas.Option.{none-some}
use Rattle.hp_base.specs.declared.span.Span.{Span}
use Rattle.hp_chain.specs.Chain.{Keyed, AreApart, has_key}
use Rattle.hp_chain.proofs.Keys.{apart_middle, lacks_both}
use Rattle.hp_elem.specs.Items.{Items}
use Rattle.hp_elem.specs.Tags.{with_entry, entry_of}

module _ (key : ℕ) (entry : Option ℕ) (table : ℕ → Option ℕ) where
  pub entry-same : with_entry key entry table key ≡ entry
  entry-same = cond-true (nat_eq key key) entry (table key) (eq-eqb key key refl)

  pub entry-other : (other : ℕ) → nat_eq other key ≡ false → with_entry key entry table other ≡ table other
  entry-other other differs = cond-false (nat_eq other key) entry (table other) differs

twice : (b : Bool) (new old other : Option ℕ) → cond b new (cond b old other) ≡ cond b new other
twice true new old other = refl
twice false new old other = refl

-- the later entry under a key is the one that counts
pub entry-again : (key : ℕ) (new old : Option ℕ) (table : ℕ → Option ℕ) → with_entry key new (with_entry key old table) ≡ with_entry key new table
entry-again key new old table i other = twice (nat_eq other key) new old (table other) i

same_either : (b : Bool) (entry other : Option ℕ) → (b ≡ true → entry ≡ other) → cond b entry other ≡ other
same_either true entry other same = same refl
same_either false entry other same = refl

-- the entry that is there
pub entry-own : (key : ℕ) (entry : Option ℕ) (table : ℕ → Option ℕ) → entry ≡ table key → with_entry key entry table ≡ table
entry-own key entry table same i other =
    same_either (nat_eq other key) entry (table other) (λ is. same ∙ ap table (sym (eqb-true other key is))) i

crossed : (b c : Bool) (x y other : Option ℕ) → (b ≡ true → c ≡ true → ⊥) → cond b x (cond c y other) ≡ cond c y (cond b x other)
crossed true true x y other never = absurd (never refl refl)
crossed true false x y other never = refl
crossed false true x y other never = refl
crossed false false x y other never = refl

-- two entries under two keys, in the other order
pub entry-crossed : (one two : ℕ) (x y : Option ℕ) (table : ℕ → Option ℕ) → nat_eq one two ≡ false → with_entry one x (with_entry two y table) ≡ with_entry two y (with_entry one x table)
entry-crossed one two x y table differs i other =
    crossed (nat_eq other one) (nat_eq other two) x y (table other) (λ is_one is_two. eqb-false one two differs (sym (eqb-true other one is_one) ∙ eqb-true other two is_two)) i

module _ (f : Span → Option ℕ) where
  -- no entry under a key that no element has
  pub entry_lacks : (key : ℕ) (xs : Items) → has_key key xs ≡ false → entry_of f xs key ≡ None
  entry_lacks key [] lacks = refl
  entry_lacks key (x ∷ xs) lacks =
      let parts = or_parts (nat_eq x.key key) (has_key key xs) lacks in
      entry-other x.key (f x.value) (entry_of f xs) key (ne_eqb key x.key (λ same. eqb-false x.key key parts.0 (sym same))) ∙ entry_lacks key xs parts.1

  -- an element in the middle has the entry under its key
  pub entry-added : (xs : Items) (e : Keyed Span) (ys : Items) → has_key e.key xs ≡ false → entry_of f (xs ++ e ∷ ys) ≡ with_entry e.key (f e.value) (entry_of f (xs ++ ys))
  entry-added [] e ys lacks = refl
  entry-added (x ∷ xs) e ys lacks =
      let parts = or_parts (nat_eq x.key e.key) (has_key e.key xs) lacks in
      ap (λ (table : ℕ → Option ℕ). with_entry x.key (f x.value) table) (entry-added xs e ys parts.1)
      ∙ entry-crossed x.key e.key (f x.value) (f e.value) (entry_of f (xs ++ ys)) parts.0

  module _ (xs : Items) (e : Keyed Span) (ys : Items) (apart : AreApart (xs ++ e ∷ ys)) where
    -- which is found there
    pub entry-middle : entry_of f (xs ++ e ∷ ys) e.key ≡ f e.value
    entry-middle =
        ap (λ (table : ℕ → Option ℕ). table e.key) (entry-added xs e ys (apart_middle xs e ys apart).0)
        ∙ entry-same e.key (f e.value) (entry_of f (xs ++ ys))

    -- another value under its key
    pub entry-valued : (value : Span) → entry_of f (xs ++ (record { key = e.key; value = value }) ∷ ys) ≡ with_entry e.key (f value) (entry_of f (xs ++ e ∷ ys))
    entry-valued value =
        let lacks = (apart_middle xs e ys apart).0 in
        entry-added xs (record { key = e.key; value = value }) ys lacks
        ∙ sym (entry-again e.key (f value) (f e.value) (entry_of f (xs ++ ys)))
        ∙ ap (λ (table : ℕ → Option ℕ). with_entry e.key (f value) table) (sym (entry-added xs e ys lacks))

    -- no element under its key
    pub entry-removed : entry_of f (xs ++ ys) ≡ with_entry e.key None (entry_of f (xs ++ e ∷ ys))
    entry-removed =
        let own = apart_middle xs e ys apart in
        sym (entry-own e.key None (entry_of f (xs ++ ys)) (sym (entry_lacks e.key (xs ++ ys) (lacks_both e.key xs ys own.0 own.1))))
        ∙ sym (entry-again e.key None (f e.value) (entry_of f (xs ++ ys)))
        ∙ ap (λ (table : ℕ → Option ℕ). with_entry e.key None table) (sym (entry-added xs e ys own.0))

    -- the same entry under its key
    pub entry-kept : (value : Span) → f value ≡ f e.value → entry_of f (xs ++ (record { key = e.key; value = value }) ∷ ys) ≡ entry_of f (xs ++ e ∷ ys)
    entry-kept value same = entry-valued value ∙ entry-own e.key (f value) (entry_of f (xs ++ e ∷ ys)) (same ∙ sym entry-middle)
