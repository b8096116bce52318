-- Rows of a run: how many there are, and at which slots.
use Rattle.std.proofs.Common.{◌≡◌, ◌⊎◌, ◌==◌, nat_le, nat_lt, ℕ, zero, suc, ◌+◌, ◌-◌, ◌*◌, ◌<◌, ◌≤◌, Bool, true, false, cond, [], ◌∷◌, ◌++◌, length, refl, ◌∙◌, sym, arith, inl, inr, add-one, length-append, count_by, eq-eqb}
use Rattle.std.proofs.Math.Nat.{mul-le-mul_right}
use Rattle.std.specs.List.{All}
use Rattle.std.proofs.lemmas.Bool.{cases_eq, and_parts, eqb-true, leb-true, ltb-true, and_from, le-leb, lt-ltb, ne_eqb, and_right}
use Rattle.std.proofs.lemmas.List.Elements.{All-nil, All-push}
use Rattle.hp_base.specs.declared.row.Row.{Row}
use Rattle.hp_base.specs.declared.row.Run.{Run}
use Rattle.hp_log.specs.Rows.{row_of, rows_below, in_run, at_slot, rows_at}
use Rattle.hp_log.proofs.Counts.{count_append}

-- the address of a slot's row is below the end of its run
pub slot_addr_fits : (run : Run) (n : ℕ) (bound : ℕ) → n < run.count → run.addr + run.count * run.page < bound
    → run.addr + n * run.page < bound
slot_addr_fits run n bound within fits =
    let below : n * run.page ≤ run.count * run.page = mul-le-mul_right run.page (omega arith) in
    omega arith

pub length_rows_below : (run : Run) (generation n : ℕ) → length (rows_below run generation n) ≡ n
length_rows_below run generation zero = refl
length_rows_below run generation (suc n) =
    omega (arith, length-append (rows_below run generation n) (row_of run generation n ∷ []), length_rows_below run generation n)

-- one row more stands after the others
pub rows_below_more : (run : Run) (generation n : ℕ)
    → rows_below run generation (n + 1) ≡ rows_below run generation n ++ row_of run generation n ∷ []
rows_below_more run generation n = rw add-one refl

-- what holds of each row of a run holds of all
pub all_rows_below : (P : Row → Type 0) (run : Run) (generation n : ℕ) → ((k : ℕ) → k < n → P (row_of run generation k))
    → All P (rows_below run generation n)
all_rows_below P run generation zero each = All-nil P
all_rows_below P run generation (suc n) each =
    All-push
    P
    (rows_below run generation n)
    (row_of run generation n)
    (all_rows_below P run generation n (λ k below. each k (omega arith)))
    (each n (omega arith))

-- a test that each row of a run passes counts them all
pub count_rows_below : (p : Row → Bool) (run : Run) (generation n : ℕ) (b : Bool)
    → ((k : ℕ) → p (row_of run generation k) ≡ b) → count_by p (rows_below run generation n) ≡ (cond b n 0)
count_rows_below p run generation zero true each = refl
count_rows_below p run generation zero false each = refl
count_rows_below p run generation (suc n) true each =
    count_append p (rows_below run generation n) (row_of run generation n ∷ [])
    ∙ rw (each n, count_rows_below p run generation n true each) (omega arith)
count_rows_below p run generation (suc n) false each =
    count_append p (rows_below run generation n) (row_of run generation n ∷ [])
    ∙ rw (each n, count_rows_below p run generation n false each) refl

-- how the rows of a run lie at a slot: none, or the one of the slot's place in the run
pub record IsAtPlace (run : Run) (generation n list slot : ℕ) : Type 0 where
  pub place : ℕ
  pub within : place < n
  pub its_list : list ≡ run.list
  pub its_slot : slot ≡ run.first + place
  pub one : rows_at (rows_below run generation n) list slot ≡ 1

count_more : (run : Run) (generation n list slot : ℕ)
    → rows_at (rows_below run generation (suc n)) list slot
    ≡ rows_at (rows_below run generation n) list slot + cond (at_slot list slot (row_of run generation n)) 1 0
count_more run generation n list slot =
    omega (arith, count_append (at_slot list slot) (rows_below run generation n) (row_of run generation n ∷ []))

place_more : (run : Run) (generation n list slot : ℕ) (b : Bool) → at_slot list slot (row_of run generation n) ≡ b
    → (rows_at (rows_below run generation n) list slot ≡ 0) ⊎ IsAtPlace run generation n list slot
    → (rows_at (rows_below run generation (suc n)) list slot ≡ 0) ⊎ IsAtPlace run generation (suc n) list slot
place_more run generation n list slot false here (inl none) =
    inl (count_more run generation n list slot ∙ rw (here, none) refl)
place_more run generation n list slot false here (inr at) =
    inr (record {
      place = at.place;
      within = omega arith;
      its_list = at.its_list;
      its_slot = at.its_slot;
      one = count_more run generation n list slot ∙ rw (here, at.one) refl;
    })
place_more run generation n list slot true here (inl none) =
    let parts = and_parts (run.list == list) (run.first + n == slot) here in
    inr (record {
      place = n;
      within = omega arith;
      its_list = sym (eqb-true _ _ parts.0);
      its_slot = sym (eqb-true _ _ parts.1);
      one = count_more run generation n list slot ∙ rw (here, none) refl;
    })
place_more run generation n list slot true here (inr at) =
    let parts = and_parts (run.list == list) (run.first + n == slot) here in
    let its_slot : run.first + n ≡ slot = eqb-true _ _ parts.1 in
    absurd (omega (arith, at.its_slot, at.within))

pub run_rows_at : (run : Run) (generation n list slot : ℕ)
    → (rows_at (rows_below run generation n) list slot ≡ 0) ⊎ IsAtPlace run generation n list slot
run_rows_at run generation zero list slot = inl refl
run_rows_at run generation (suc n) list slot =
    place_more run generation n list slot (at_slot list slot (row_of run generation n)) refl (run_rows_at run generation n list slot)

-- a row at a run's slot
pub row_at_place : (run : Run) (generation n : ℕ) → at_slot run.list (run.first + n) (row_of run generation n) ≡ true
row_at_place run generation n =
    and_from (run.list == run.list) _ (eq-eqb run.list run.list refl) (eq-eqb (run.first + n) (run.first + n) refl)

-- a row at one of the run's slots is in the run, and the other way round
pub in_run_from : (run : Run) (n : ℕ) (row : Row) → n < run.count → at_slot run.list (run.first + n) row ≡ true
    → in_run run row ≡ true
in_run_from run n row within at =
    let parts = and_parts (row.list == run.list) (row.slot == run.first + n) at in
    let its_slot : row.slot ≡ run.first + n = eqb-true _ _ parts.1 in
    let low : nat_le run.first row.slot ≡ true = le-leb run.first row.slot (omega arith) in
    let high : nat_lt row.slot (run.first + run.count) ≡ true = lt-ltb row.slot (run.first + run.count) (omega arith) in
    and_from _ _ parts.0 (and_from _ _ low high)

pub record IsInRun (run : Run) (row : Row) : Type 0 where
  pub place : ℕ
  pub within : place < run.count
  pub its_list : row.list ≡ run.list
  pub its_slot : row.slot ≡ run.first + place

pub place_in_run : (run : Run) (row : Row) → in_run run row ≡ true → IsInRun run row
place_in_run run row inside =
    let parts = and_parts (row.list == run.list) _ inside in
    let ends = and_parts (nat_le run.first row.slot) (nat_lt row.slot (run.first + run.count)) parts.1 in
    let low : run.first ≤ row.slot = leb-true _ _ ends.0 in
    let high : row.slot < run.first + run.count = ltb-true _ _ ends.1 in
    record {
      place = row.slot - run.first;
      within = omega arith;
      its_list = eqb-true _ _ parts.0;
      its_slot = omega arith;
    }

slot_more : (run : Run) (generation n k : ℕ) → k < suc n → (k < n → rows_at (rows_below run generation n) run.list (run.first + k) ≡ 1)
    → (k ≡ n) ⊎ (k ≡ n → ⊥)
    → (rows_at (rows_below run generation n) run.list (run.first + k) ≡ 0) ⊎ IsAtPlace run generation n run.list (run.first + k)
    → rows_at (rows_below run generation (suc n)) run.list (run.first + k) ≡ 1
slot_more run generation n k within before (inl same) (inl none) =
    let here : at_slot run.list (run.first + k) (row_of run generation n) ≡ true =
    rw same (row_at_place run generation n) in
    count_more run generation n run.list (run.first + k) ∙ rw (here, none) refl
slot_more run generation n k within before (inl same) (inr at) = absurd (omega (arith, at.its_slot, at.within))
slot_more run generation n k within before (inr other) (inl none) =
    let one = before (omega arith) in
    absurd (omega (arith, one, none))
slot_more run generation n k within before (inr other) (inr at) =
    let elsewhere : (run.first + n == run.first + k) ≡ false = ne_eqb (run.first + n) (run.first + k) (λ same. other (omega arith)) in
    let away : at_slot run.list (run.first + k) (row_of run generation n) ≡ false =
    and_right (run.list == run.list) (run.first + n == run.first + k) elsewhere in
    count_more run generation n run.list (run.first + k) ∙ rw (away, at.one) refl

-- each slot of a run has one of its rows
pub run_slot_once : (run : Run) (generation n k : ℕ) → k < n → rows_at (rows_below run generation n) run.list (run.first + k) ≡ 1
run_slot_once run generation zero k within = absurd (omega arith)
run_slot_once run generation (suc n) k within =
    slot_more
    run
    generation
    n
    k
    within
    (run_slot_once run generation n k)
    (cases_eq k n)
    (run_rows_at run generation n run.list (run.first + k))
