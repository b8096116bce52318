-- A joined stretch: where no two neighbours would be one, it has at most the two elements next to it.
use Rattle.std.proofs.Common.{◌≡◌, ℕ, ◌<◌, Bool, true, false, List, [], ◌∷◌, ◌++◌, refl, sym, ap, ◌∙◌, arith, ltb, length, inl, inr, subst, length-append, ◌⊎◌, ◌≤◌, ◌+◌}
use Rattle.std.proofs.lemmas.Bool.{and_parts, eqb-true, lt-ltb, le-ltb}
use Rattle.std.proofs.lemmas.List.Elements.{filter-append}
use Rattle.std.specs.List.{filter, AllByRecursion}
use Rattle.hp_base.specs.declared.span.Span.{Span}
use Rattle.hp_heap.specs.PlainHeap.{end_of, is_free}
use Rattle.hp_heap.specs.Tiling.{joins, IsApart, IsApartFrom}
use Rattle.hp_heap.specs.Joining.{joined_up, joined_down, stretch_up, stretch_down, stretch_to, Stretch, below, above, with_stretch}
use Rattle.hp_heap.proofs.RangeLemmas.{AllByRecursion-weaker, IsApartFrom-back}
use Rattle.hp_heap.proofs.AllocFacts.PieceLemmas.{joins_first, joins_second}

-- what a test of two elements tells
pub record IsJoint (first second : Span) : Type 0 where
  pub free : is_free first ≡ true
  pub free_second : is_free second ≡ true
  pub list : first.list ≡ second.list
  pub touch : end_of first ≡ second.addr

pub joint : (first second : Span) → joins first second ≡ true → IsJoint first second
joint first second is =
    let parts = and_parts _ _ is in
    let free = and_parts _ _ parts.0 in
    let place = and_parts _ _ parts.1 in
    record { free = free.0; free_second = free.1; list = eqb-true first.list second.list place.0; touch = eqb-true (end_of first) second.addr place.1 }

-- upwards, with the element right behind alone
abbrev pub up_once : Bool → Span → Span → List Span → List Span
up_once true range next ranges = joined_up range next ∷ ranges
up_once false range next ranges = range ∷ next ∷ ranges

stretch_ends : (x : Span) (ys : List Span) (y : Span) → is_free x ≡ is_free y → x.list ≡ y.list → end_of x ≡ end_of y → IsApartFrom y ys → stretch_up x ys ≡ x ∷ ys
stretch_ends x [] y free list end apart = refl
stretch_ends x (z ∷ zs) y free list end apart = rw (joins_first x y z free list end ∙ apart.0) refl

pub stretch_up-once : (b : Bool) (x y : Span) (ys : List Span) → joins x y ≡ b → IsApartFrom y ys → stretch_up x (y ∷ ys) ≡ up_once b x y ys
stretch_up-once true x y ys is apart =
    let facts = joint x y is in
    let end : end_of (joined_up x y) ≡ end_of y = omega (arith, facts.touch) in
    rw is (stretch_ends (joined_up x y) ys y (facts.free ∙ sym facts.free_second) facts.list end apart)
stretch_up-once false x y ys is apart = rw is refl

-- downwards, with the element right before alone
abbrev pub down_once : Bool → List Span → Span → Span → Stretch
down_once true ranges previous range = record { left = ranges; range = joined_down previous range }
down_once false ranges previous range = record { left = ranges ++ (previous ∷ []); range = range }

stretch_to-some : (p : Span) (ps : List Span) (q r : Span) → stretch_to p (ps ++ (q ∷ [])) r ≡ record { left = p ∷ (ps ++ (q ∷ [])); range = r }
stretch_to-some p [] q r = refl
stretch_to-some p (s ∷ ps) q r = refl

stretch_to-joined : (p : Span) (ps : List Span) (q x : Span) → IsJoint q x → IsApartFrom p (ps ++ (q ∷ [])) → stretch_to p ps (joined_down q x) ≡ record { left = p ∷ ps; range = joined_down q x }
stretch_to-joined p [] q x facts apart =
    rw (joins_second p (joined_down q x) q (facts.free_second ∙ sym facts.free) refl refl ∙ apart.0) refl
stretch_to-joined p (s ∷ ps) q x facts apart = refl

pub stretch_down-once : (b : Bool) (ps : List Span) (q x : Span) → joins q x ≡ b → IsApart (ps ++ (q ∷ [])) → stretch_down (ps ++ (q ∷ [])) x ≡ down_once b ps q x
stretch_down-once true [] q x is apart = rw is refl
stretch_down-once false [] q x is apart = rw is refl
stretch_down-once true (p ∷ ps) q x is apart =
    ap (λ (s : Stretch). stretch_to p s.left s.range) (stretch_down-once true ps q x is (rest ps apart)) ∙ stretch_to-joined p ps q x (joint q x is) apart
  where
    rest : (ps : List Span) → IsApartFrom p (ps ++ (q ∷ [])) → IsApart (ps ++ (q ∷ []))
    rest ps apart = IsApartFrom-back p [] (ps ++ (q ∷ [])) apart
stretch_down-once false (p ∷ ps) q x is apart =
    ap (λ (s : Stretch). stretch_to p s.left s.range) (stretch_down-once false ps q x is (IsApartFrom-back p [] (ps ++ (q ∷ [])) apart)) ∙ stretch_to-some p ps q x

-- elements below and above an address, where it parts them
filter_all : (p : Span → Bool) (xs : List Span) → AllByRecursion (λ x. p x ≡ true) xs → filter p xs ≡ xs
filter_all p [] all = refl
filter_all p (x ∷ xs) all = rw all.0 (ap (λ ys. x ∷ ys) (filter_all p xs all.1))

filter_none : (p : Span → Bool) (xs : List Span) → AllByRecursion (λ x. p x ≡ false) xs → filter p xs ≡ []
filter_none p [] all = refl
filter_none p (x ∷ xs) all = rw all.0 (filter_none p xs all.1)

append_nil : (xs : List Span) → xs ++ [] ≡ xs
append_nil [] = refl
append_nil (x ∷ xs) = ap (λ ys. x ∷ ys) (append_nil xs)

pub below-parts : (start : ℕ) (xs ys : List Span) → AllByRecursion (λ x. x.addr < start) xs → AllByRecursion (λ y. start < y.addr) ys → below start (xs ++ ys) ≡ xs
below-parts start xs ys under over =
    filter-append (λ range. ltb range.addr start) xs ys
    ∙ ap (λ zs. zs ++ filter (λ range. ltb range.addr start) ys) (filter_all (λ range. ltb range.addr start) xs (AllByRecursion-weaker (λ x. x.addr < start) _ (λ x lower. lt-ltb x.addr start lower) xs under))
    ∙ ap (λ zs. xs ++ zs) (filter_none (λ range. ltb range.addr start) ys (AllByRecursion-weaker (λ y. start < y.addr) _ (λ y higher. le-ltb y.addr start (omega arith)) ys over))
    ∙ append_nil xs

pub above-parts : (start : ℕ) (xs ys : List Span) → AllByRecursion (λ x. x.addr < start) xs → AllByRecursion (λ y. start < y.addr) ys → above start (xs ++ ys) ≡ ys
above-parts start xs ys under over =
    filter-append (λ range. ltb start range.addr) xs ys
    ∙ ap (λ zs. zs ++ filter (λ range. ltb start range.addr) ys) (filter_none (λ range. ltb start range.addr) xs (AllByRecursion-weaker (λ x. x.addr < start) _ (λ x lower. le-ltb start x.addr (omega arith)) xs under))
    ∙ filter_all (λ range. ltb start range.addr) ys (AllByRecursion-weaker (λ y. start < y.addr) _ (λ y higher. lt-ltb start y.addr higher) ys over)

-- the joined stretch between elements below and above
pub with_stretch-parts : (x : Span) (xs ys : List Span) → AllByRecursion (λ z. z.addr < x.addr) xs → AllByRecursion (λ y. x.addr < y.addr) ys
    → with_stretch x (xs ++ ys) ≡ (stretch_down xs x).left ++ stretch_up (stretch_down xs x).range ys
unfolding with_stretch
with_stretch-parts x xs ys under over = rw (below-parts x.addr xs ys under over, above-parts x.addr xs ys under over) refl

-- a list is empty, or has a last element
pub snoc_cases : (xs : List Span) → (xs ≡ []) ⊎ ((ps : List Span) × (q : Span) × (xs ≡ ps ++ (q ∷ [])))
snoc_cases [] = inl refl
snoc_cases (x ∷ xs) = inr (by_rest (snoc_cases xs))
  where
    by_rest : (xs ≡ []) ⊎ ((ps : List Span) × (q : Span) × (xs ≡ ps ++ (q ∷ []))) → (ps : List Span) × (q : Span) × (x ∷ xs ≡ ps ++ (q ∷ []))
    by_rest (inl none) = ([], x, ap (λ zs. x ∷ zs) none)
    by_rest (inr (ps, q, is)) = (x ∷ ps, q, ap (λ zs. x ∷ zs) is)

-- a joined stretch takes at most the element next to it on either side
down_left : (b : Bool) (ps : List Span) (q x : Span) → length (ps ++ (q ∷ [])) ≤ length (down_once b ps q x).left + 1
down_left true ps q x = omega (arith, length-append ps (q ∷ []))
down_left false ps q x = omega arith

pub takes_below : (x : Span) (xs : List Span) → IsApart xs → length xs ≤ length (stretch_down xs x).left + 1
takes_below x xs apart = by_last (snoc_cases xs)
  where
    by_last : (xs ≡ []) ⊎ ((ps : List Span) × (q : Span) × (xs ≡ ps ++ (q ∷ []))) → length xs ≤ length (stretch_down xs x).left + 1
    by_last (inl none) = omega (arith, ap length none)
    by_last (inr (ps, q, is)) = subst (λ zs. length zs ≤ length (stretch_down zs x).left + 1) (sym is)
        (subst (λ (s : Stretch). length (ps ++ (q ∷ [])) ≤ length s.left + 1) (sym (stretch_down-once (joins q x) ps q x refl (subst (λ zs. IsApart zs) is apart))) (down_left (joins q x) ps q x))

up_right : (b : Bool) (x y : Span) (ys : List Span) → length (y ∷ ys) ≤ length (up_once b x y ys)
up_right true x y ys = omega arith
up_right false x y ys = omega arith

pub takes_above : (x : Span) (ys : List Span) → IsApart ys → length ys ≤ length (stretch_up x ys)
takes_above x [] apart = omega arith
takes_above x (y ∷ ys) apart = subst (λ zs. length (y ∷ ys) ≤ length zs) (sym (stretch_up-once (joins x y) x y ys refl apart)) (up_right (joins x y) x y ys)
