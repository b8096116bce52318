-- Counting: how many of some elements pass a test, and which bytes elements in a row cover together.
use Rattle.std.proofs.Common.{◌≡◌, ℕ, zero, suc, ◌+◌, ◌*◌, ◌≤◌, Bool, true, false, cond, ◌&&◌, List, [], ◌∷◌, ◌++◌, map, refl, sym, subst, ap, ◌∙◌, arith, count_by, eqb}
use Rattle.std.proofs.lemmas.List.Sums.{sum_by-cons, sum_by-append}
use Rattle.std.proofs.lemmas.Bool.Decides.{nat_tests}
use Rattle.std.proofs.Math.Nat.{suc-mul, zero-mul}
use Rattle.std.specs.List.{AllByRecursion, range_with_len}
use Rattle.hp_base.specs.declared.span.Span.{Span}
use Rattle.hp_base.specs.declared.row.Run.{Run}
use Rattle.hp_heap.specs.PlainHeap.{end_of, is_within, Extent, page_extent}
use Rattle.hp_heap.specs.Tiling.{in_range, in_segment, in_range_of, in_segment_of}
use Rattle.hp_heap.specs.Statistics.{total_bytes}
use Rattle.hp_heap.specs.Growing.{run_page, run_pages, run_bytes}

module _ {X : Type 0} (p : X → Bool) where
  pub count_by-cons : (x : X) (xs : List X) → count_by p (x ∷ xs) ≡ cond (p x) 1 0 + count_by p xs
  count_by-cons x xs = sum_by-cons (λ y. cond (p y) 1 0) x xs

  pub count_by-append : (xs ys : List X) → count_by p (xs ++ ys) ≡ count_by p xs + count_by p ys
  count_by-append xs ys = sum_by-append (λ y. cond (p y) 1 0) xs ys

  -- between others
  pub count_by-between : (xs ys zs : List X) → count_by p (xs ++ (ys ++ zs)) ≡ count_by p xs + (count_by p ys + count_by p zs)
  count_by-between xs ys zs = omega (arith, count_by-append xs (ys ++ zs), count_by-append ys zs)

  -- where none passes
  pub count_none : (xs : List X) → AllByRecursion (λ x. p x ≡ false) xs → count_by p xs ≡ 0
  count_none [] none = refl
  count_none (x ∷ xs) none = rw (count_by-cons x xs, none.0) (rw (count_none xs none.1) refl)

with_test : (a s : Bool) (n m : ℕ) → n ≡ cond s m 0 → cond (a && s) 1 0 + n ≡ cond s (cond a 1 0 + m) 0
with_test true true n m same = omega arith
with_test true false n m same = omega arith
with_test false true n m same = omega arith
with_test false false n m same = omega arith

-- a test that all of them pass alike is passed by all or by none
pub count_of_same : {X : Type 0} (a s : X → Bool) (same : Bool) (xs : List X) → AllByRecursion (λ x. s x ≡ same) xs → count_by (λ x. a x && s x) xs ≡ cond same (count_by a xs) 0
count_of_same a s true [] all = refl
count_of_same a s false [] all = refl
count_of_same a s same (x ∷ xs) all =
    rw (count_by-cons (λ y. a y && s y) x xs, count_by-cons a x xs, all.0) (with_test (a x) same (count_by (λ y. a y && s y) xs) (count_by a xs) (count_of_same a s same xs all.1))

-- bytes in two parts
pub within_split : (start m n byte : ℕ) → cond (is_within start (m + n) byte) 1 0 ≡ cond (is_within start m byte) 1 0 + cond (is_within (start + m) n byte) 1 0
within_split start m n byte = grind (arith, nat_tests)

pub within_none : (start byte : ℕ) → cond {A = ℕ} (is_within start 0 byte) 1 0 ≡ 0
within_none start byte = grind (arith, nat_tests)

pub within_most : (start n byte : ℕ) → cond {A = ℕ} (is_within start n byte) 1 0 ≤ 1
within_most start n byte = grind (arith, nat_tests)

-- elements in a row from an address on
abbrev pub IsConsecutive : ℕ → List Span → Type 0
IsConsecutive from [] = Unit {0}
IsConsecutive from (x ∷ xs) = (x.addr ≡ from) × IsConsecutive (end_of x) xs

pub total-cons : (x : Span) (xs : List Span) → total_bytes (x ∷ xs) ≡ x.whole + total_bytes xs
total-cons x xs = sum_by-cons (λ (y : Span). y.whole) x xs

-- elements in a row cover their bytes, each once
pub count_consecutive : (byte from : ℕ) (xs : List Span) → IsConsecutive from xs → count_by (in_range byte) xs ≡ cond (is_within from (total_bytes xs) byte) 1 0
count_consecutive byte from [] row = sym (within_none from byte)
count_consecutive byte from (x ∷ xs) row =
    rw (count_by-cons (in_range byte) x xs, total-cons x xs, count_consecutive byte (end_of x) xs row.1, row.0) (sym (within_split from x.whole (total_bytes xs) byte))

-- elements of one list with pages of one size
abbrev pub IsOfList : ℕ → ℕ → Span → Type 0
IsOfList list page x = (x.list ≡ list) × (x.page ≡ page)

pub tests_of_list : (list page l p : ℕ) (xs : List Span) → AllByRecursion (IsOfList list page) xs
    → AllByRecursion (λ x. ((eqb x.list l) && (eqb x.page p)) ≡ ((eqb list l) && (eqb page p))) xs
tests_of_list list page l p [] all = tt
tests_of_list list page l p (x ∷ xs) all = (let one = all.0.0 in let two = all.0.1 in cc, tests_of_list list page l p xs all.1)

pub count_of_list : (list page l p byte : ℕ) (xs : List Span) → AllByRecursion (IsOfList list page) xs
    → count_by (in_range_of l p byte) xs ≡ cond ((eqb list l) && (eqb page p)) (count_by (in_range byte) xs) 0
count_of_list list page l p byte xs all =
    count_of_same (in_range byte) (λ x. (eqb x.list l) && (eqb x.page p)) ((eqb list l) && (eqb page p)) xs (tests_of_list list page l p xs all)

-- the pages of a run in a row cover its bytes
count_pages_from : (run : Run) (byte i n : ℕ) → count_by (in_segment byte) (map page_extent (map (run_page run) (range_with_len i n))) ≡ cond (is_within (run.addr + i * run.page) (n * run.page) byte) 1 0
count_pages_from run byte i zero = rw (zero-mul run.page) (sym (within_none (run.addr + i * run.page) byte))
count_pages_from run byte i (suc n) =
    let bytes : suc n * run.page ≡ run.page + n * run.page = omega (arith, suc-mul n run.page) in
    let next : run.addr + (i + 1) * run.page ≡ run.addr + i * run.page + run.page = omega (arith, suc-mul i run.page) in
    rw (count_by-cons (in_segment byte) (page_extent (run_page run i)) (map page_extent (map (run_page run) (range_with_len (i + 1) n))), count_pages_from run byte (i + 1) n, bytes, next)
    (sym (within_split (run.addr + i * run.page) run.page (n * run.page) byte))

pub count_pages : (run : Run) (byte : ℕ) → count_by (in_segment byte) (map page_extent (run_pages run)) ≡ cond (is_within run.addr (run_bytes run) byte) 1 0
unfolding run_pages
count_pages run byte =
    let start : run.addr + 0 * run.page ≡ run.addr = omega (arith, zero-mul run.page) in
    subst (λ (s : ℕ). count_by (in_segment byte) (map page_extent (run_pages run)) ≡ cond (is_within s (run_bytes run) byte) 1 0) start (count_pages_from run byte 0 run.count)

tests_of_pages : (run : Run) (l p i n : ℕ) → AllByRecursion (λ (x : Extent). ((eqb x.list l) && (eqb x.page p)) ≡ ((eqb run.list l) && (eqb run.page p))) (map page_extent (map (run_page run) (range_with_len i n)))
tests_of_pages run l p i zero = tt
tests_of_pages run l p i (suc n) = (refl, tests_of_pages run l p (i + 1) n)

pub count_pages_of : (run : Run) (l p byte : ℕ) → count_by (in_segment_of l p byte) (map page_extent (run_pages run)) ≡ cond ((eqb run.list l) && (eqb run.page p)) (cond (is_within run.addr (run_bytes run) byte) 1 0) 0
unfolding run_pages
count_pages_of run l p byte =
    count_of_same (in_segment byte) (λ (x : Extent). (eqb x.list l) && (eqb x.page p)) ((eqb run.list l) && (eqb run.page p)) (map page_extent (run_pages run)) (tests_of_pages run l p 0 run.count)
    ∙ ap (λ (n : ℕ). cond ((eqb run.list l) && (eqb run.page p)) n 0) (count_pages run byte)
