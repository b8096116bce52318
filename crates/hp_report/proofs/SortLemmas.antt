-- A stable sort by address is the order by address.
use Rattle.std.proofs.Common.{◌≡◌, ℕ, zero, suc, ◌+◌, ◌<◌, ◌≤◌, Bool, true, false, not, ◌&&◌, cond, List, [], ◌∷◌, ◌++◌, length, get_or, refl, sym, ap, subst, ◌∙◌, append_assoc, append-nil, arith, nat_lt, inl, inr}
use Rattle.std.specs.List.{filter, fold}
use Rattle.std.specs.List.Sorted.{IsNonDecreasingBy, IsStableByKey, ties}
use Rattle.std.specs.Ordering.{is_lt, nat_cmp}
use Rattle.hp_base.specs.declared.row.Row.{Row}
use Rattle.hp_report.specs.TableTexts.{by_address, with_row}

-- two rows of one address, as a sort by address compares them
abbrev same : Row → Row → Bool
same x y = ties (λ (a b : Row). is_lt (nat_cmp a.addr b.addr)) x y

same_addr : (x y : Row) → same x y ≡ true → x.addr ≡ y.addr
same_addr x y is = grind arith

addr_same : (x y : Row) → x.addr ≡ y.addr → same x y ≡ true
addr_same x y is = grind arith

-- rows rise from an address on
abbrev Rises : ℕ → List Row → Type 0
Rises low [] = Unit {0}
Rises low (row ∷ rows) = (low ≤ row.addr) × Rises row.addr rows

-- a row below rows that rise is not among them
above_by : (x y : Row) (ys : List Row) (low : ℕ) → low ≤ y.addr → x.addr < low → (test : Bool) → same x y ≡ test → filter (same x) ys ≡ []
    → cond test (y ∷ filter (same x) ys) (filter (same x) ys) ≡ []
above_by x y ys low up below true is rest = absurd (omega (arith, same_addr x y is, up, below))
above_by x y ys low up below false is rest = rest

none_above : (x : Row) (low : ℕ) (rows : List Row) → Rises low rows → x.addr < low → filter (same x) rows ≡ []
none_above x low [] rises below = refl
none_above x low (y ∷ ys) rises below = above_by x y ys low rises.0 below (same x y) refl (none_above x y.addr ys rises.1 (omega (arith, rises.0, below)))

first_same : (y : Row) (ys : List Row) → filter (same y) (y ∷ ys) ≡ y ∷ filter (same y) ys
first_same y ys = ap (λ test. cond test (y ∷ filter (same y) ys) (filter (same y) ys)) (addr_same y y refl)

-- after a first row that two lists have, each has the same rows of an address
tails_by : (y : Row) (a b : List Row) (test : Bool) → cond test (y ∷ a) a ≡ cond test (y ∷ b) b → a ≡ b
tails_by y a b true is = cc
tails_by y a b false is = is

-- the first of rows that rise is not below the first of others that have the same rows of each address
not_below : (y z : Row) (ys zs : List Row) → Rises z.addr zs → filter (same y) (y ∷ ys) ≡ filter (same y) (z ∷ zs) → z.addr ≤ y.addr
not_below y z ys zs rises is = by_test (nat_lt y.addr z.addr) refl
  where
    by_test : (test : Bool) → nat_lt y.addr z.addr ≡ test → z.addr ≤ y.addr
    by_test true is_lower =
        let lower : y.addr < z.addr = grind arith in
        let none : filter (same y) (z ∷ zs) ≡ [] = none_above y z.addr (z ∷ zs) (omega arith, rises) lower in
        let some = sym (first_same y ys) ∙ is ∙ none in
        absurd cc
    by_test false is_not = grind arith

-- rows that rise are settled by the rows of each address
unique : (low : ℕ) (ys zs : List Row) → Rises low ys → Rises low zs → ((x : Row) → filter (same x) ys ≡ filter (same x) zs) → ys ≡ zs
unique low [] [] rising other same_rows = refl
unique low [] (z ∷ zs) rising other same_rows = let some = same_rows z ∙ first_same z zs in absurd cc
unique low (y ∷ ys) [] rising other same_rows = let some = sym (same_rows y) ∙ first_same y ys in absurd cc
unique low (y ∷ ys) (z ∷ zs) rising other same_rows =
    let up : z.addr ≤ y.addr = not_below y z ys zs other.1 (same_rows y) in
    let down : y.addr ≤ z.addr = not_below z y zs ys rising.1 (sym (same_rows z)) in
    let level : y.addr ≡ z.addr = omega (arith, up, down) in
    let heads : y ∷ filter (same y) ys ≡ z ∷ filter (same y) zs =
    sym (first_same y ys) ∙ same_rows y ∙ ap (λ test. cond test (z ∷ filter (same y) zs) (filter (same y) zs)) (addr_same y z level) in
    let first : y ≡ z = cc in
    let tails = unique y.addr ys zs rising.1 (subst (λ (n : ℕ). Rises n zs) (sym level) other.1)
    (λ x. tails_by y (filter (same x) ys) (filter (same x) zs) (same x y)
    (same_rows x ∙ ap (λ (r : Row). cond (same x r) (r ∷ filter (same x) zs) (filter (same x) zs)) (sym first))) in
    ap (λ (r : Row). r ∷ ys) first ∙ ap (λ rows. z ∷ rows) tails

-- a row more among rows that rise
rises_by : (low : ℕ) (row first : Row) (rows : List Row) → low ≤ row.addr → Rises low (first ∷ rows) → (test : Bool) → nat_lt row.addr first.addr ≡ test
    → (first.addr ≤ row.addr → Rises first.addr (with_row row rows)) → Rises low (cond test (row ∷ (first ∷ rows)) (first ∷ with_row row rows))
rises_by low row first rows above rises true is rest = (above, (grind arith, rises.1))
rises_by low row first rows above rises false is rest = (rises.0, rest (grind arith))

with_rises : (low : ℕ) (row : Row) (rows : List Row) → low ≤ row.addr → Rises low rows → Rises low (with_row row rows)
with_rises low row [] above rises = (above, tt)
with_rises low row (first ∷ rows) above rises =
    rises_by low row first rows above rises (nat_lt row.addr first.addr) refl (λ up. with_rises first.addr row rows up rises.1)

-- it stands after those of its address
front_by : (x row first : Row) (rows : List Row) → Rises first.addr rows → row.addr < first.addr → (test : Bool) → same x row ≡ test
    → cond test (row ∷ filter (same x) (first ∷ rows)) (filter (same x) (first ∷ rows)) ≡ filter (same x) (first ∷ rows) ++ cond test (row ∷ []) []
front_by x row first rows rises lower true is =
    let none : filter (same x) (first ∷ rows) ≡ [] = none_above x first.addr (first ∷ rows) (omega arith, rises) (omega (arith, same_addr x row is, lower)) in
    ap (λ rest. row ∷ rest) none ∙ sym (ap (λ rest. rest ++ row ∷ []) none)
front_by x row first rows rises lower false is = sym (append-nil (filter (same x) (first ∷ rows)))

behind_by : (first : Row) (front last : List Row) (test : Bool) → cond test (first ∷ (front ++ last)) (front ++ last) ≡ cond test (first ∷ front) front ++ last
behind_by first front last true = refl
behind_by first front last false = refl

same_by : (x row first : Row) (rows : List Row) → Rises first.addr rows → (test : Bool) → nat_lt row.addr first.addr ≡ test
    → filter (same x) (with_row row rows) ≡ filter (same x) rows ++ filter (same x) (row ∷ [])
    → filter (same x) (cond test (row ∷ (first ∷ rows)) (first ∷ with_row row rows)) ≡ filter (same x) (first ∷ rows) ++ filter (same x) (row ∷ [])
same_by x row first rows rises true is rest = front_by x row first rows rises (grind arith) (same x row) refl
same_by x row first rows rises false is rest =
    ap (λ more. cond (same x first) (first ∷ more) more) rest ∙ behind_by first (filter (same x) rows) (filter (same x) (row ∷ [])) (same x first)

with_same : (x row : Row) (low : ℕ) (rows : List Row) → Rises low rows → filter (same x) (with_row row rows) ≡ filter (same x) rows ++ filter (same x) (row ∷ [])
with_same x row low [] rises = refl
with_same x row low (first ∷ rows) rises =
    same_by x row first rows rises.1 (nat_lt row.addr first.addr) refl (with_same x row first.addr rows rises.1)

abbrev placed : List Row → List Row → List Row
placed sorted rows = fold (λ so_far row. with_row row so_far) sorted rows

placed_rises : (sorted rows : List Row) → Rises 0 sorted → Rises 0 (placed sorted rows)
placed_rises sorted [] rises = rises
placed_rises sorted (row ∷ rows) rises = placed_rises (with_row row sorted) rows (with_rises 0 row sorted (omega arith) rises)

placed_same : (x : Row) (sorted rows : List Row) → Rises 0 sorted → filter (same x) (placed sorted rows) ≡ filter (same x) sorted ++ filter (same x) rows
placed_same x sorted [] rises = sym (append-nil (filter (same x) sorted))
placed_same x sorted (row ∷ rows) rises =
    placed_same x (with_row row sorted) rows (with_rises 0 row sorted (omega arith) rises)
    ∙ ap (λ front. front ++ filter (same x) rows) (with_same x row 0 sorted rises)
    ∙ append_assoc (filter (same x) sorted) (filter (same x) (row ∷ [])) (filter (same x) rows)
    ∙ ap (λ back. filter (same x) sorted ++ back) (by_test (same x row))
  where
    by_test : (test : Bool) → cond test (row ∷ []) [] ++ filter (same x) rows ≡ cond test (row ∷ filter (same x) rows) (filter (same x) rows)
    by_test true = refl
    by_test false = refl

rises_from : (low : ℕ) (rows : List Row) → ((d : Row) → 0 < length rows → low ≤ (get_or rows 0 d).addr) → IsNonDecreasingBy (λ (row : Row). row.addr) rows → Rises low rows
rises_from low [] above up = tt
rises_from low (row ∷ rows) above up = (
  above row (omega arith),
  rises_from row.addr rows (λ d some. up 0 1 d (omega arith) (omega arith)) (λ i j d below within. up (suc i) (suc j) d (omega arith) (omega arith)),
)

-- what a stable sort by address leaves
pub sorted_is : (rows sorted : List Row) → IsNonDecreasingBy (λ (row : Row). row.addr) sorted → IsStableByKey (λ (row : Row). row.addr) nat_cmp rows sorted → sorted ≡ by_address rows
sorted_is rows sorted up stable =
    unique 0 sorted (by_address rows) (rises_from 0 sorted (λ d some. omega arith) up) (placed_rises [] rows tt)
    (λ x. stable x ∙ sym (placed_same x [] rows tt))
