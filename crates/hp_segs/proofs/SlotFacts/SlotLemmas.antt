-- Used slots of a list, as rows come and go.
use Rattle.std.proofs.Common.{◌≡◌, ◌≢◌, ◌⊎◌, ◌==◌, nat_le, nat_lt, ℕ, zero, suc, ◌+◌, ◌-◌, ◌<◌, ◌≤◌, Bool, true, false, not, ◌&&◌, ◌||◌, cond, List, ◌++◌, length, filter, get_or, refl, ap, ◌∙◌, sym, arith, inl, inr, get_or-set_same, get_or-set_other}
use Rattle.std.specs.List.{list_any}
use Rattle.std.proofs.lemmas.Bool.{cases_eq, cases_lt, and_parts, and_from, eqb-true, eq-eqb, le-leb, lt-ltb, leb-true, ltb-true, le-ltb, false_from_ne_true}
use Rattle.std.proofs.lemmas.List.Folds.{list_any-append}
use Rattle.std.proofs.lemmas.Map.Views.{any-filter_same}
use Rattle.hp_base.specs.declared.row.Row.{Row}
use Rattle.hp_base.specs.declared.row.Run.{Run}
use Rattle.hp_segs.specs.Masks.{with_places}
use Rattle.hp_log.specs.Rows.{rows_of, in_run, at_slot, rows_at}
use Rattle.hp_segs.specs.SoundRows.{has_slot}
use Rattle.hp_log.proofs.Counts.{any_counts, none_counts}
use Rattle.hp_segs.proofs.SlotFacts.MaskLemmas.{length_with_places}
use Rattle.hp_log.proofs.RowLemmas.{run_rows_at, run_slot_once}

-- the place is among n from first on
abbrev pub is_between : ℕ → ℕ → ℕ → Bool
is_between first n k = nat_le first k && nat_lt k (first + n)

between_more : (first n k : ℕ) → k ≢ first + n → is_between first (suc n) k ≡ is_between first n k
between_more first n k other =
    elim (cases_lt k (first + n)) [
      | inl below ↦
          let long : nat_lt k (first + suc n) ≡ true = lt-ltb k (first + suc n) (omega arith) in
          let short : nat_lt k (first + n) ≡ true = lt-ltb k (first + n) below in
          ap (λ b. nat_le first k && b) (long ∙ sym short)
      | inr above ↦
          let long : nat_lt k (first + suc n) ≡ false = le-ltb k (first + suc n) (omega arith) in
          let short : nat_lt k (first + n) ≡ false = le-ltb k (first + n) above in
          ap (λ b. nat_le first k && b) (long ∙ sym short)
    ]

place_marked : {X : Type 0} (xs : List X) (first n : ℕ) (x : X) (k : ℕ) (d : X) → first + suc n ≤ length xs
    → (k ≡ first + n) ⊎ (k ≡ first + n → ⊥)
    → get_or (with_places xs first n x) k d ≡ cond (is_between first n k) x (get_or xs k d)
    → get_or (with_places xs first (suc n) x) k d ≡ cond (is_between first (suc n) k) x (get_or xs k d)
place_marked xs first n x k d fits (inl same) before =
    let inside : is_between first (suc n) k ≡ true =
    and_from _ _ (le-leb first k (omega arith)) (lt-ltb k (first + suc n) (omega arith)) in
    let within : first + n < length (with_places xs first n x) = rw length_with_places (omega arith) in
    rw (inside, same, get_or-set_same (with_places xs first n x) (first + n) x d within) refl
place_marked xs first n x k d fits (inr other) before =
    rw (between_more first n k other, get_or-set_other (with_places xs first n x) (first + n) k x d other) before

-- a list with places set alike, at a place
pub with_places_at : {X : Type 0} (xs : List X) (first n : ℕ) (x : X) (k : ℕ) (d : X) → first + n ≤ length xs
    → get_or (with_places xs first n x) k d ≡ cond (is_between first n k) x (get_or xs k d)
with_places_at xs first zero x k d fits =
    let none : is_between first 0 k ≡ false =
    false_from_ne_true (is_between first 0 k) (λ inside.
    let parts = and_parts (nat_le first k) (nat_lt k (first + 0)) inside in
    let low : first ≤ k = leb-true first k parts.0 in
    let high : k < first + 0 = ltb-true k (first + 0) parts.1 in
    omega arith) in
    rw none refl
with_places_at xs first (suc n) x k d fits =
    place_marked xs first n x k d fits (cases_eq k (first + n)) (with_places_at xs first n x k d (omega arith))

any_by : (run : Run) (generation list slot : ℕ) (has : Bool) → has_slot list slot run ≡ has → (any : Bool)
    → list_any (at_slot list slot) (rows_of run generation) ≡ any → any ≡ has
any_by run generation list slot true inside true found = refl
any_by run generation list slot false outside false none = refl
any_by run generation list slot true inside false none =
    let parts = and_parts (list == run.list) (is_between run.first run.count slot) inside in
    let ends = and_parts (nat_le run.first slot) (nat_lt slot (run.first + run.count)) parts.1 in
    let low : run.first ≤ slot = leb-true run.first slot ends.0 in
    let high : slot < run.first + run.count = ltb-true slot (run.first + run.count) ends.1 in
    let place : run.first + (slot - run.first) ≡ slot = omega arith in
    let one = run_slot_once run generation run.count (slot - run.first) (omega arith) in
    let here : rows_at (rows_of run generation) list slot ≡ 1 =
    ap (λ l. rows_at (rows_of run generation) l slot) (eqb-true list run.list parts.0)
    ∙ (ap (λ s. rows_at (rows_of run generation) run.list s) (sym place) ∙ one) in
    absurd (omega (arith, here, none_counts (at_slot list slot) (rows_of run generation) none))
any_by run generation list slot false outside true found =
    elim (run_rows_at run generation run.count list slot) [
      | inl none ↦ absurd (omega (arith, any_counts (at_slot list slot) (rows_of run generation) found))
      | inr at ↦
          let inside : has_slot list slot run ≡ true =
          and_from _ _ (eq-eqb list run.list at.its_list)
          (and_from _ _ (le-leb run.first slot (omega (arith, at.its_slot))) (lt-ltb slot (run.first + run.count) (omega (arith, at.its_slot, at.within)))) in
          cc
    ]

-- a run's rows have exactly the run's slots
pub any_run_row : (run : Run) (generation list slot : ℕ) → list_any (at_slot list slot) (rows_of run generation) ≡ has_slot list slot run
any_run_row run generation list slot =
    any_by run generation list slot (has_slot list slot run) refl (list_any (at_slot list slot) (rows_of run generation)) refl

-- whether a slot of a list is used after the rows of a run came
pub any_added : (rows : List Row) (run : Run) (generation list slot : ℕ)
    → list_any (at_slot list slot) (rows ++ rows_of run generation) ≡ (list_any (at_slot list slot) rows || has_slot list slot run)
any_added rows run generation list slot =
    list_any-append (at_slot list slot) rows (rows_of run generation)
    ∙ ap (λ b. list_any (at_slot list slot) rows || b) (any_run_row run generation list slot)

-- a row at a slot is in the run where the run has the slot
pub in_run_by_slot : (run : Run) (list slot : ℕ) (row : Row) → at_slot list slot row ≡ true → in_run run row ≡ has_slot list slot run
in_run_by_slot run list slot row at =
    let parts = and_parts (row.list == list) (row.slot == slot) at in
    ap (λ l. has_slot l row.slot run) (eqb-true row.list list parts.0)
    ∙ ap (λ s. has_slot list s run) (eqb-true row.slot slot parts.1)

-- whether a slot of a list is used after the rows of a run went
pub any_removed : (rows : List Row) (run : Run) (list slot : ℕ)
    → list_any (at_slot list slot) (filter (λ row. not (in_run run row)) rows)
    ≡ (not (has_slot list slot run) && list_any (at_slot list slot) rows)
any_removed rows run list slot =
    any-filter_same
    (at_slot list slot)
    (λ row. not (in_run run row))
    (not (has_slot list slot run))
    (λ row at. ap not (in_run_by_slot run list slot row at))
    rows
