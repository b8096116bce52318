-- Rows of pools, as the rows of one run come or go.
use Rattle.std.proofs.Common.{◌≡◌, ◌==◌, ◌⊎◌, nat_le, nat_lt, ℕ, zero, suc, ◌+◌, ◌<◌, ◌≤◌, Bool, true, false, ◌&&◌, cond, List, [], ◌∷◌, ◌++◌, refl, ap, ◌∙◌, arith, inl, inr, count_by, get_or}
use Rattle.std.proofs.lemmas.Bool.{cases_eq, cases_lt, and_right, and_left, eq-eqb, ne_eqb, le-leb, lt-ltb, le-ltb, lt-leb}
use Rattle.hp_base.specs.declared.row.Row.{Row}
use Rattle.hp_base.specs.declared.row.Run.{Run}
use Rattle.hp_base.specs.declared.pool_line.PoolLine.{PoolLine}
use Rattle.hp_log.specs.Rows.{rows_of, in_run, at_slot, rows_at, IsUsedRun}
use Rattle.hp_segs.specs.Lists.{is_of_pool}
use Rattle.hp_log.proofs.Counts.{count_append, count_cons, count_none}
use Rattle.hp_log.proofs.RowLemmas.{count_rows_below}

-- the run is of the pool
abbrev pub run_of_pool : PoolLine → Run → Bool
run_of_pool line run = (run.socket == line.socket) && (run.page == line.page)

pub added_count : (line : PoolLine) (rows : List Row) (run : Run) (generation : ℕ)
    → count_by (is_of_pool line) (rows ++ rows_of run generation)
    ≡ count_by (is_of_pool line) rows + cond (run_of_pool line run) run.count 0
added_count line rows run generation =
    count_append (is_of_pool line) rows (rows_of run generation)
    ∙ ap
    (λ n. count_by (is_of_pool line) rows + n)
    (count_rows_below (is_of_pool line) run generation run.count (run_of_pool line run) (λ k. refl))

-- three tests, of which the first is one of the others, and not both
pub count_parts : {X : Type 0} (p q r : X → Bool) → ((x : X) → cond (r x) 1 0 ≡ cond (p x) 1 0 + cond (q x) 1 0) → (xs : List X)
    → count_by r xs ≡ count_by p xs + count_by q xs
count_parts p q r parts [] = refl
count_parts p q r parts (x ∷ xs) =
    omega (arith, parts x, count_parts p q r parts xs, count_cons p x xs, count_cons q x xs, count_cons r x xs)

-- the run of the first n slots
abbrev first_slots : Run → ℕ → Run
first_slots run n = record run { count = n }

later : (a b : ℕ) → b ≤ a → (a ≡ b → ⊥) → b < a
later a b low different =
    elim (cases_lt b a) [ inl below ↦ below | inr above ↦ absurd (different (omega arith)) ]

one_more_by : (first n slot : ℕ) (b : Bool) → (slot < first + n) ⊎ (first + n ≤ slot) → (slot ≡ first + n) ⊎ (slot ≡ first + n → ⊥)
    → cond (b && (nat_le first slot && nat_lt slot (first + suc n))) 1 0
    ≡ cond (b && (nat_le first slot && nat_lt slot (first + n))) 1 0 + cond (b && (slot == first + n)) 1 0
one_more_by first n slot false order same = refl
one_more_by first n slot true (inl below) same =
    let long : nat_lt slot (first + suc n) ≡ true = lt-ltb slot (first + suc n) (omega arith) in
    let short : nat_lt slot (first + n) ≡ true = lt-ltb slot (first + n) below in
    let other : (slot == first + n) ≡ false = ne_eqb slot (first + n) (λ same. omega arith) in
    rw (long, short, other) (omega arith)
one_more_by first n slot true (inr above) (inl same) =
    let long : nat_lt slot (first + suc n) ≡ true = lt-ltb slot (first + suc n) (omega arith) in
    let short : nat_lt slot (first + n) ≡ false = le-ltb slot (first + n) above in
    let low : nat_le first slot ≡ true = le-leb first slot (omega arith) in
    let here : (slot == first + n) ≡ true = eq-eqb slot (first + n) same in
    rw (long, short, here, low) refl
one_more_by first n slot true (inr above) (inr different) =
    let long : nat_lt slot (first + suc n) ≡ false =
    le-ltb slot (first + suc n) (omega (arith, later slot (first + n) above different)) in
    let short : nat_lt slot (first + n) ≡ false = le-ltb slot (first + n) above in
    let other : (slot == first + n) ≡ false = ne_eqb slot (first + n) different in
    let low : nat_le first slot ≡ true = le-leb first slot (omega arith) in
    rw (long, short, other, low) refl

one_more : (run : Run) (n : ℕ) (row : Row)
    → cond (in_run (first_slots run (suc n)) row) 1 0
    ≡ cond (in_run (first_slots run n) row) 1 0 + cond (at_slot run.list (run.first + n) row) 1 0
one_more run n row =
    one_more_by
    run.first
    n
    row.slot
    (row.list == run.list)
    (cases_lt row.slot (run.first + n))
    (cases_eq row.slot (run.first + n))

outside : (first slot : ℕ) → (slot < first) ⊎ (first ≤ slot) → (nat_le first slot && nat_lt slot (first + 0)) ≡ false
outside first slot (inl below) = and_left (nat_le first slot) _ (lt-leb first slot below)
outside first slot (inr above) = and_right (nat_le first slot) (nat_lt slot (first + 0)) (le-ltb slot (first + 0) (omega arith))

nothing : (run : Run) (row : Row) → in_run (first_slots run zero) row ≡ false
nothing run row =
    and_right (row.list == run.list) (nat_le run.first row.slot && nat_lt row.slot (run.first + 0))
    (outside run.first row.slot (cases_lt row.slot run.first))

count_first : (run : Run) (rows : List Row) (n : ℕ)
    → ((k : ℕ) → k < n → rows_at rows run.list (run.first + k) ≡ 1)
    → count_by (in_run (first_slots run n)) rows ≡ n
count_first run rows zero used =
    count_none (in_run (first_slots run zero)) rows (λ k d within. nothing run (get_or rows k d))
count_first run rows (suc n) used =
    count_parts (in_run (first_slots run n)) (at_slot run.list (run.first + n)) (in_run (first_slots run (suc n))) (one_more run n) rows
    ∙ omega (arith, count_first run rows n (λ k below. used k (omega arith)), used n (omega arith))

-- the rows in a run are as many as its slots, where each slot has one
pub run_count : (run : Run) (rows : List Row) → IsUsedRun rows run → count_by (in_run run) rows ≡ run.count
run_count run rows used = count_first run rows run.count used.used
