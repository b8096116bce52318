-- The greatest of a list, as it is kept under each key: one element more, and one less.
use Rattle.std.proofs.Common.{◌≡◌, ◌≢◌, ◌⊎◌, ℕ, ◌<◌, ◌≤◌, List, [], ◌∷◌, ◌++◌, Bool, false, true, refl, sym, ap, ◌∙◌, subst, arith, inl, inr}
use Rattle.std.proofs.lemmas.Bool.{false≢true}
use Rattle.std.specs.List.{AllByRecursion}
use Rattle.hp_chain.specs.Chain.{Keyed}
use Rattle.hp_freelist.specs.Greatest.{IsGreatest}
use Rattle.hp_freelist.proofs.LinkedLemmas.{middle_holds, others_hold}
use Rattle.hp_freelist.proofs.GreatestLemmas.{AllByRecursion-weaker, AllByRecursion-append}

-- no element of a list is greater
abbrev pub NoneGreater : ℕ → List (Keyed ℕ) → Type 0
NoneGreater value list = AllByRecursion (λ (e : Keyed ℕ). e.value ≤ value) list

-- nothing in a list is greater than its greatest
pub none_greater : (list : List (Keyed ℕ)) (key : ℕ) (greatest : IsGreatest list key) → NoneGreater greatest.found.value list
none_greater list key greatest =
    let value : ℕ = greatest.found.value in
    subst (λ (zs : List (Keyed ℕ)). NoneGreater value zs) (sym greatest.is)
    (AllByRecursion-append (λ (e : Keyed ℕ). e.value ≤ value) greatest.front (greatest.found ∷ greatest.back)
    (AllByRecursion-weaker (λ (e : Keyed ℕ). e.value < value) (λ (e : Keyed ℕ). e.value ≤ value) (λ e less. omega (arith, less)) greatest.front greatest.before)
    (omega arith, greatest.behind))

-- the first element is the greatest where none after it is greater
pub greatest_first : (e : Keyed ℕ) (es : List (Keyed ℕ)) → NoneGreater e.value es → IsGreatest (e ∷ es) e.key
greatest_first e es none = record { front = []; found = e; back = es; is = refl; same = refl; before = tt; behind = none }

-- and else the greatest of those after it
pub greatest_after : (e : Keyed ℕ) (es : List (Keyed ℕ)) (key : ℕ) (greatest : IsGreatest es key) → e.value < greatest.found.value
    → IsGreatest (e ∷ es) key
greatest_after e es key greatest less = record {
  front = e ∷ greatest.front;
  found = greatest.found;
  back = greatest.back;
  is = ap (λ (zs : List (Keyed ℕ)). e ∷ zs) greatest.is;
  same = greatest.same;
  before = (less, greatest.before);
  behind = greatest.behind;
}

-- the greatest of a list is its first element, or the greatest of those after it
pub record IsFirst (e : Keyed ℕ) (es : List (Keyed ℕ)) (key : ℕ) (found : Keyed ℕ) : Type 0 where
  pub same : e.key ≡ key
  pub is : found ≡ e
  pub none : NoneGreater e.value es

pub record IsAfter (e : Keyed ℕ) (es : List (Keyed ℕ)) (key : ℕ) (found : Keyed ℕ) : Type 0 where
  pub greatest : IsGreatest es key
  pub is : found ≡ greatest.found
  pub less : e.value < greatest.found.value

abbrev pub head_of : Keyed ℕ → List (Keyed ℕ) → Keyed ℕ
head_of other [] = other
head_of other (e ∷ es) = e

abbrev pub tail_of : List (Keyed ℕ) → List (Keyed ℕ)
tail_of [] = []
tail_of (e ∷ es) = es

abbrev pub is_filled : List (Keyed ℕ) → Bool
is_filled [] = false
is_filled (e ∷ es) = true

split : (e : Keyed ℕ) (es : List (Keyed ℕ)) (key : ℕ) (front : List (Keyed ℕ)) (found : Keyed ℕ) (back : List (Keyed ℕ))
    → e ∷ es ≡ front ++ found ∷ back → found.key ≡ key
    → AllByRecursion (λ (x : Keyed ℕ). x.value < found.value) front → NoneGreater found.value back
    → IsFirst e es key found ⊎ IsAfter e es key found
split e es key [] found back is same before behind =
    let head : e ≡ found = ap (λ (zs : List (Keyed ℕ)). head_of e zs) is in
    inl (record {
      same = ap (λ (x : Keyed ℕ). x.key) head ∙ same;
      is = sym head;
      none = subst (λ (x : Keyed ℕ). NoneGreater x.value es) (sym head) (subst (λ (zs : List (Keyed ℕ)). NoneGreater found.value zs) (sym (ap tail_of is)) behind);
    })
split e es key (x ∷ front) found back is same before behind =
    let head : e ≡ x = ap (λ (zs : List (Keyed ℕ)). head_of e zs) is in
    inr (record {
      greatest = record { front = front; found = found; back = back; is = ap tail_of is; same = same; before = before.1; behind = behind };
      is = refl;
      less = subst (λ (y : Keyed ℕ). y.value < found.value) (sym head) before.0;
    })

pub cases : (e : Keyed ℕ) (es : List (Keyed ℕ)) (key : ℕ) (greatest : IsGreatest (e ∷ es) key)
    → IsFirst e es key greatest.found ⊎ IsAfter e es key greatest.found
cases e es key greatest = split e es key greatest.front greatest.found greatest.back greatest.is greatest.same greatest.before greatest.behind

-- the value of the greatest is that of an element
among : (P : Keyed ℕ → Type 0) (list : List (Keyed ℕ)) (key : ℕ) (greatest : IsGreatest list key) → AllByRecursion P list → P greatest.found
among P list key greatest all = middle_holds P greatest.front greatest.found greatest.back (subst (λ (zs : List (Keyed ℕ)). AllByRecursion P zs) greatest.is all)

pub none_of_none : (front : List (Keyed ℕ)) (found : Keyed ℕ) (back : List (Keyed ℕ)) → [] ≡ front ++ found ∷ back → ⊥
none_of_none [] found back is = absurd (false≢true (ap is_filled is))
none_of_none (x ∷ front) found back is = absurd (false≢true (ap is_filled is))

-- a list has one greatest key
pub one_greatest : (list : List (Keyed ℕ)) (key other : ℕ) → IsGreatest list key → IsGreatest list other → key ≡ other
one_greatest [] key other greatest too = absurd (none_of_none greatest.front greatest.found greatest.back greatest.is)
one_greatest (e ∷ es) key other greatest too = elim (cases e es key greatest) [
  | inl first ↦ elim (cases e es other too) [
    | inl again ↦ sym first.same ∙ again.same
    | inr after ↦ absurd (let under = among (λ (x : Keyed ℕ). x.value ≤ e.value) es other after.greatest first.none in omega (arith, under, after.less))
  ]
  | inr after ↦ elim (cases e es other too) [
    | inl again ↦ absurd (let under = among (λ (x : Keyed ℕ). x.value ≤ e.value) es key after.greatest again.none in omega (arith, under, after.less))
    | inr later ↦ one_greatest es key other after.greatest later.greatest
  ]
]

-- without an element that is not the greatest, the greatest stays
pub record IsLeft (list : List (Keyed ℕ)) (key : ℕ) (found : Keyed ℕ) : Type 0 where
  pub greatest : IsGreatest list key
  pub is : greatest.found ≡ found

pub greatest_left : (front : List (Keyed ℕ)) (gone : Keyed ℕ) (back : List (Keyed ℕ)) (key : ℕ) (greatest : IsGreatest (front ++ gone ∷ back) key)
    → gone.key ≢ key → IsLeft (front ++ back) key greatest.found
unfolding greatest_first greatest_after
greatest_left [] gone back key greatest differs = elim (cases gone back key greatest) [
  | inl first ↦ absurd (differs first.same)
  | inr after ↦ record { greatest = after.greatest; is = sym after.is }
]
greatest_left (x ∷ front) gone back key greatest differs = elim (cases x (front ++ gone ∷ back) key greatest) [
  | inl first ↦
      let P : ℕ → Type 0 = λ k. IsLeft (x ∷ front ++ back) k greatest.found in
      subst P first.same
      (record { greatest = greatest_first x (front ++ back) (others_hold (λ (e : Keyed ℕ). e.value ≤ x.value) front gone back first.none); is = sym first.is })
  | inr after ↦
      let rest = greatest_left front gone back key after.greatest differs in
      record {
        greatest = greatest_after x (front ++ back) key rest.greatest (subst (λ (y : Keyed ℕ). x.value < y.value) (sym rest.is) after.less);
        is = rest.is ∙ sym after.is;
      }
]
