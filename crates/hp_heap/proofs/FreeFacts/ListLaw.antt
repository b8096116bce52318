-- A free list has its elements by falling stamp.
use Rattle.std.proofs.Common.{◌≡◌, ◌<◌, ◌≤◌, Bool, true, false, cond, List, [], ◌∷◌, refl, arith, count_by, ltb}
use Rattle.std.proofs.lemmas.Bool.{ltb-true, ltb-false}
use Rattle.std.specs.List.{AllByRecursion}
use Rattle.hp_base.specs.declared.span.Span.{Span}
use Rattle.hp_heap.specs.PlainHeap.{stamp_of}
use Rattle.hp_heap.specs.Lists.{by_falling_stamp, newest_first}
use Rattle.hp_heap.specs.Laws.{IsFalling}
use Rattle.hp_heap.proofs.HistoryFacts.Counting.{count_by-cons}
use Rattle.hp_heap.proofs.RangeLemmas.{AllByRecursion-weaker}

-- one more element among others is counted
put_by : (test : Span → Bool) (x y : Span) (ys zs : List Span) (b : Bool) → count_by test zs ≡ count_by test (x ∷ ys)
    → count_by test (cond b (y ∷ zs) (x ∷ y ∷ ys)) ≡ count_by test (x ∷ y ∷ ys)
put_by test x y ys zs true same =
    omega (arith, count_by-cons test y zs, same, count_by-cons test x ys, count_by-cons test x (y ∷ ys), count_by-cons test y ys)
put_by test x y ys zs false same = refl

put_same : (test : Span → Bool) (x : Span) (ys : List Span) → count_by test (by_falling_stamp x ys) ≡ count_by test (x ∷ ys)
put_same test x [] = refl
put_same test x (y ∷ ys) = put_by test x y ys (by_falling_stamp x ys) (ltb (stamp_of x) (stamp_of y)) (put_same test x ys)

pub sorted_same : (ranges : List Span) (test : Span → Bool) → count_by test (newest_first ranges) ≡ count_by test ranges
sorted_same [] test = refl
sorted_same (x ∷ xs) test = omega (arith, put_same test x (newest_first xs), count_by-cons test x (newest_first xs), count_by-cons test x xs, sorted_same xs test)

-- what holds of an element and of others holds of all together
put_all_by : (P : Span → Type 0) (x y : Span) (ys zs : List Span) (b : Bool) → P x → P y → AllByRecursion P ys → AllByRecursion P zs → AllByRecursion P (cond b (y ∷ zs) (x ∷ y ∷ ys))
put_all_by P x y ys zs true here there rest all = (there, all)
put_all_by P x y ys zs false here there rest all = (here, (there, rest))

pub put_all : (P : Span → Type 0) (x : Span) (ys : List Span) → P x → AllByRecursion P ys → AllByRecursion P (by_falling_stamp x ys)
put_all P x [] here all = (here, tt)
put_all P x (y ∷ ys) here all = put_all_by P x y ys (by_falling_stamp x ys) (ltb (stamp_of x) (stamp_of y)) here all.0 all.1 (put_all P x ys here all.1)

falls_by : (x y : Span) (ys zs : List Span) (b : Bool) → ltb (stamp_of x) (stamp_of y) ≡ b → IsFalling (y ∷ ys) → IsFalling zs
    → AllByRecursion (λ other. stamp_of other ≤ stamp_of y) ys → (stamp_of x ≤ stamp_of y → AllByRecursion (λ other. stamp_of other ≤ stamp_of y) zs) → IsFalling (cond b (y ∷ zs) (x ∷ y ∷ ys))
falls_by x y ys zs true earlier falls rest under all = let below : stamp_of x < stamp_of y = ltb-true (stamp_of x) (stamp_of y) earlier in (all (omega arith), rest)
falls_by x y ys zs false later falls rest under all =
    let above : stamp_of y ≤ stamp_of x = ltb-false (stamp_of x) (stamp_of y) later in
    ((above, AllByRecursion-weaker (λ other. stamp_of other ≤ stamp_of y) (λ other. stamp_of other ≤ stamp_of x) (λ other lower. omega arith) ys under), falls)

put_falls : (x : Span) (ys : List Span) → IsFalling ys → IsFalling (by_falling_stamp x ys)
put_falls x [] falls = (tt, tt)
put_falls x (y ∷ ys) falls =
    falls_by x y ys (by_falling_stamp x ys) (ltb (stamp_of x) (stamp_of y)) refl falls (put_falls x ys falls.1) falls.0 (λ below. put_all (λ other. stamp_of other ≤ stamp_of y) x ys below falls.0)

pub sorted_falls : (ranges : List Span) → IsFalling (newest_first ranges)
sorted_falls [] = tt
sorted_falls (x ∷ xs) = put_falls x (newest_first xs) (sorted_falls xs)
