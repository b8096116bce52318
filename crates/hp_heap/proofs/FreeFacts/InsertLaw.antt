-- A free element that was inserted last stands at the head of its free list, and changes no other.
use Rattle.std.proofs.Common.{◌≡◌, ℕ, ◌<◌, Bool, true, false, cond, List, [], ◌∷◌, ◌++◌, map, refl, sym, ap, subst, ◌∙◌, arith, eqb}
use Rattle.std.proofs.lemmas.Bool.{lt-ltb, le-ltb}
use Rattle.std.proofs.lemmas.List.Elements.{filter-append}
use Rattle.std.specs.List.{AllByRecursion, filter}
use Rattle.hp_base.specs.declared.span.Span.{Span}
use Rattle.hp_heap.specs.PlainHeap.{is_free, stamp_of}
use Rattle.hp_heap.specs.Lists.{range_class, is_of_class, by_falling_stamp, newest_first, free_list}
use Rattle.hp_heap.proofs.FreeFacts.ListLaw.{put_all}
use Rattle.hp_heap.proofs.Members.{AllByRecursion-kept}

-- what holds of elements holds of them by falling stamp
sorted_all : (P : Span → Type 0) (xs : List Span) → AllByRecursion P xs → AllByRecursion P (newest_first xs)
sorted_all P [] all = tt
sorted_all P (x ∷ xs) all = put_all P x (newest_first xs) all.0 (sorted_all P xs all.1)

put_first : (x : Span) (ys : List Span) → AllByRecursion (λ y. stamp_of y < stamp_of x) ys → by_falling_stamp x ys ≡ x ∷ ys
put_first x [] older = refl
put_first x (y ∷ ys) older = rw (le-ltb (stamp_of x) (stamp_of y) (omega (arith, older.0))) refl

-- the element with the greatest stamp is the first
sorted_first : (xs : List Span) (r : Span) (ys : List Span) → AllByRecursion (λ x. stamp_of x < stamp_of r) (xs ++ ys) → newest_first (xs ++ (r ∷ ys)) ≡ r ∷ newest_first (xs ++ ys)
sorted_first [] r ys older = put_first r (newest_first ys) (sorted_all (λ y. stamp_of y < stamp_of r) ys older)
sorted_first (x ∷ xs) r ys older = rw (sorted_first xs r ys older.1) (rw (lt-ltb (stamp_of x) (stamp_of r) older.0) refl)

of_class : (xs : List Span) (r : Span) (ys : List Span) (class : ℕ) (b : Bool) → is_of_class class r ≡ b → AllByRecursion (λ x. stamp_of x < stamp_of r) (xs ++ ys)
    → free_list (xs ++ (r ∷ ys)) class ≡ cond b (r.addr ∷ free_list (xs ++ ys) class) (free_list (xs ++ ys) class)
of_class xs r ys class true its older =
    let kept = is_of_class class in
    let all : filter kept (xs ++ (r ∷ ys)) ≡ filter kept xs ++ (r ∷ filter kept ys) = filter-append kept xs (r ∷ ys) ∙ rw its refl in
    let others : filter kept (xs ++ ys) ≡ filter kept xs ++ filter kept ys = filter-append kept xs ys in
    let olds = subst (λ zs. AllByRecursion (λ (x : Span). stamp_of x < stamp_of r) zs) others (AllByRecursion-kept (λ (x : Span). stamp_of x < stamp_of r) kept (xs ++ ys) older) in
    ap (λ zs. map (λ (x : Span). x.addr) (newest_first zs)) all
    ∙ ap (λ zs. map (λ (x : Span). x.addr) zs) (sorted_first (filter kept xs) r (filter kept ys) olds)
    ∙ ap (λ zs. r.addr ∷ map (λ (x : Span). x.addr) (newest_first zs)) (sym others)
of_class xs r ys class false other older =
    let kept = is_of_class class in
    let same : filter kept (xs ++ (r ∷ ys)) ≡ filter kept (xs ++ ys) = filter-append kept xs (r ∷ ys) ∙ rw other (sym (filter-append kept xs ys)) in
    ap (λ zs. map (λ (x : Span). x.addr) (newest_first zs)) same

pub inserts_at_head : (before after : List Span) (range : Span) → is_free range ≡ true → AllByRecursion (λ other. stamp_of other < stamp_of range) (before ++ after) → (class : ℕ)
    → free_list (before ++ (range ∷ after)) class ≡ cond (eqb (range_class range) class) (range.addr ∷ free_list (before ++ after) class) (free_list (before ++ after) class)
inserts_at_head before after range free older class = of_class before range after class (eqb (range_class range) class) (rw free refl) older
