-- Lists of elements under keys in two parts: one split for each key, and what an edit makes of it.
use Rattle.std.proofs.Common.{◌≡◌, ℕ, true, List, [], ◌∷◌, ◌++◌, refl, sym, ap, subst, ◌∙◌, inl, inr, ltb}
use Rattle.std.proofs.lemmas.Bool.{both_ways, cases_Bool}
use Rattle.hp_base.specs.declared.span.Span.{Span}
use Rattle.hp_chain.specs.Chain.{Keyed, has_key, AreApart}
use Rattle.hp_chain.specs.Edits.{edited, without_key}
use Rattle.hp_chain.proofs.EditLemmas.{edited-at, without_key-at}
use Rattle.hp_chain.proofs.Keys.{has_key-own, has_key_back}
use Rattle.hp_elem.specs.Items.{Items, IsAt, after_add}
use Rattle.hp_heap.specs.Headers.{spans_of}

-- two parts of a list at one key are the same
pub record IsSameSplit (xs : Items) (e : Keyed Span) (ys : Items) (xs' : Items) (e' : Keyed Span) (ys' : Items) : Type 0 where
  pub front : xs ≡ xs'
  pub found : e ≡ e'
  pub back : ys ≡ ys'

first_of : (x y : Keyed Span) (xs ys : Items) → x ∷ xs ≡ y ∷ ys → x ≡ y
first_of x y xs ys is = cc

rest_of : (x y : Keyed Span) (xs ys : Items) → x ∷ xs ≡ y ∷ ys → xs ≡ ys
rest_of x y xs ys is = cc

has_later : (e : Keyed Span) (zs xs : Items) (f : Keyed Span) (ys : Items) → zs ≡ xs ++ f ∷ ys → f.key ≡ e.key → has_key e.key zs ≡ true
has_later e zs xs f ys is same = ap (λ (l : Items). has_key e.key l) is ∙ has_key_back e.key xs (f ∷ ys) (subst (λ (k : ℕ). has_key k (f ∷ ys) ≡ true) same (has_key-own f ys))

pub same_split : (xs : Items) (e : Keyed Span) (ys xs' : Items) (e' : Keyed Span) (ys' : Items) → AreApart (xs ++ e ∷ ys) → xs ++ e ∷ ys ≡ xs' ++ e' ∷ ys' → e.key ≡ e'.key
    → IsSameSplit xs e ys xs' e' ys'
same_split [] e ys [] e' ys' apart is same = record { front = refl; found = first_of e e' ys ys' is; back = rest_of e e' ys ys' is }
same_split [] e ys (x ∷ xs') e' ys' apart is same =
    absurd (both_ways (has_key e.key ys) apart.0 (has_later e ys xs' e' ys' (rest_of e x ys (xs' ++ e' ∷ ys') is) (sym same)))
same_split (x ∷ xs) e ys [] e' ys' apart is same =
    let first : x ≡ e' = first_of x e' (xs ++ e ∷ ys) ys' is in
    absurd (both_ways (has_key x.key (xs ++ e ∷ ys)) apart.0 (has_later x (xs ++ e ∷ ys) xs e ys refl (same ∙ ap (λ (o : Keyed Span). o.key) (sym first))))
same_split (x ∷ xs) e ys (x' ∷ xs') e' ys' apart is same =
    let rest = same_split xs e ys xs' e' ys' apart.1 (rest_of x x' (xs ++ e ∷ ys) (xs' ++ e' ∷ ys') is) same in
    record {
      front = ap (λ (o : Keyed Span). o ∷ xs) (first_of x x' (xs ++ e ∷ ys) (xs' ++ e' ∷ ys') is) ∙ ap (λ (l : Items). x' ∷ l) rest.front;
      found = rest.found;
      back = rest.back;
    }

-- what holds at a key holds of the element there
pub holds_of : (P : Span → Type 0) (key : ℕ) (items xs : Items) (e : Keyed Span) (ys : Items) → AreApart items → items ≡ xs ++ e ∷ ys → e.key ≡ key → IsAt P key items → P e.value
holds_of P key items xs e ys apart is same at =
    let one = same_split xs e ys at.front at.found at.back (subst AreApart is apart) (sym is ∙ at.is) (same ∙ sym at.same) in
    subst (λ (o : Keyed Span). P o.value) (sym one.found) at.holds

-- an edit at a key
pub edited_in : (edit : Keyed Span → Items → Items) (key : ℕ) (items xs : Items) (e : Keyed Span) (ys : Items) → AreApart items → items ≡ xs ++ e ∷ ys → e.key ≡ key
    → edited key edit items ≡ xs ++ edit e ys
edited_in edit key items xs e ys apart is same =
    ap (λ (zs : Items). edited key edit zs) is
    ∙ ap (λ (k : ℕ). edited k edit (xs ++ e ∷ ys)) (sym same)
    ∙ edited-at edit xs e ys (subst AreApart is apart)

pub without_in : (key : ℕ) (items xs : Items) (e : Keyed Span) (ys : Items) → AreApart items → items ≡ xs ++ e ∷ ys → e.key ≡ key → without_key key items ≡ xs ++ ys
without_in key items xs e ys apart is same =
    ap (λ (zs : Items). without_key key zs) is
    ∙ ap (λ (k : ℕ). without_key k (xs ++ e ∷ ys)) (sym same)
    ∙ without_key-at xs e ys (subst AreApart is apart)

-- a new element stands between two parts
pub record IsAdded (new : Keyed Span) (items : Items) : Type 0 where
  pub front : Items
  pub back : Items
  pub is : items ≡ front ++ back
  pub now : after_add new items ≡ front ++ new ∷ back

pub added_in : (new : Keyed Span) (items : Items) → IsAdded new items
added_in new [] = record { front = []; back = []; is = refl; now = refl }
added_in new (e ∷ es) = elim (cases_Bool (ltb new.value.addr e.value.addr)) [
  | inl first ↦ record { front = []; back = e ∷ es; is = refl; now = rw first refl }
  | inr later ↦
      let rest = added_in new es in
      record { front = e ∷ rest.front; back = rest.back; is = ap (λ (zs : Items). e ∷ zs) rest.is; now = rw later (ap (λ (zs : Items). e ∷ zs) rest.now) }
]

-- elements in two parts, without their keys
pub spans-append : (xs ys : Items) → spans_of (xs ++ ys) ≡ spans_of xs ++ spans_of ys
spans-append [] ys = refl
spans-append (x ∷ xs) ys = ap (λ (zs : List Span). x.value ∷ zs) (spans-append xs ys)
