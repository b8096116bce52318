-- What a record adds to the rows that end stretches, and how many events tell of what it drops.
use Rattle.std.proofs.Common.{◌≡◌, ◌≤◌, ◌<◌, ◌==◌, ℕ, zero, suc, ◌+◌, ◌-◌, ◌*◌, Bool, true, false, not, ◌&&◌, cond, List, [], ◌∷◌, ◌++◌, Option, Some, None, option_to_list, find, filter, length, refl, ap, ◌∙◌, sym, subst, arith, inl, inr, count_by, eq-eqb}
use Rattle.std.specs.List.{All}
use Rattle.std.proofs.Math.Nat.{add-mul, add-zero}
use Rattle.std.proofs.lemmas.Bool.{and_from, and_parts, cases_Bool, cond-true, eqb-true, cases_eq}
use Rattle.std.proofs.lemmas.List.Filters.{length-filter_both}
use Rattle.std.proofs.lemmas.List.Sums.{length-filter}
use Rattle.hp_base.specs.declared.event.EventKind.TheVariants.{Alloc, Free}
use Rattle.hp_base.specs.declared.row.Row.{Row}
use Rattle.hp_base.specs.declared.row.Run.{Run}
use Rattle.hp_log.specs.Places.{IsRowOf, IsSmallPlace, ListPlace}
use Rattle.hp_log.specs.Rows.{at_slot, in_run, row_of, rows_at, rows_below}
use Rattle.hp_log.specs.declared.log_record.LogRecord.{LogRecord}
use Rattle.hp_log.proofs.Counts.{count_cons}
use Rattle.hp_log.proofs.PlaceLemmas.{next_addr, next_slot}
use Rattle.hp_log.proofs.RowLemmas.{in_run_from, place_in_run}
use Rattle.hp_maps.specs.Catching.{is_dropped}
use Rattle.hp_maps.specs.Events.{is_behind, joins_by, rows_from, stands_at}
use Rattle.hp_maps.specs.MapsView.{is_of_log}
use Rattle.hp_maps.proofs.EndLemmas.{ends_at, ends_filtered, ends_joined, ends_more, last_rows}
use Rattle.hp_maps.proofs.ListFacts.{found_is, found_counts, none_found}

abbrev one_if : Bool → ℕ
one_if b = cond b 1 0

-- the rows of a run are one stretch
pub run_ends_once : (run : Run) (generation n : ℕ) → length (last_rows (joins_by Alloc) (rows_below run generation n)) ≤ 1
run_ends_once run generation zero = omega arith
run_ends_once run generation (suc zero) = omega arith
run_ends_once run generation (suc (suc n)) =
    let behind : run.addr + suc n * run.page ≡ run.addr + n * run.page + run.page = omega (arith, add-mul n 1 run.page) in
    let goes : joins_by Alloc (row_of run generation n) (row_of run generation (suc n)) ≡ true =
    and_from (generation == generation) (is_behind (row_of run generation n) (row_of run generation (suc n))) (eq-eqb generation generation refl)
    (and_from (run.list == run.list) (run.addr + suc n * run.page == run.addr + n * run.page + run.page) (eq-eqb run.list run.list refl)
    (eq-eqb (run.addr + suc n * run.page) (run.addr + n * run.page + run.page) behind)) in
    omega (
      arith,
      ends_joined (joins_by Alloc) (rows_below run generation n) (row_of run generation n) (row_of run generation (suc n)) goes,
      run_ends_once run generation (suc n),
    )

-- of a run, the n slots from place k on
abbrev pub part : Run → ℕ → ℕ → Run
part run k n = record run { first = run.first + k; count = n }

-- a row at the first of these slots is at none of the others
pub part_row : (run : Run) (k n : ℕ) (row : Row)
    → one_if (at_slot run.list (run.first + k) row) + one_if (in_run (part run (k + 1) n) row) ≤ one_if (in_run (part run k (suc n)) row)
part_row run k n row =
    elim (cases_Bool (in_run (part run (k + 1) n) row)) [
      | inl inside ↦
          let at = place_in_run (part run (k + 1) n) row inside in
          let slot : row.slot ≡ run.first + k + (at.place + 1) = omega (arith, at.its_slot) in
          let here : at_slot run.list (run.first + k + (at.place + 1)) row ≡ true =
          and_from (row.list == run.list) (row.slot == run.first + k + (at.place + 1)) (eq-eqb row.list run.list at.its_list)
          (eq-eqb row.slot (run.first + k + (at.place + 1)) slot) in
          let all : one_if (in_run (part run k (suc n)) row) ≡ 1 =
          ap one_if (in_run_from (part run k (suc n)) (at.place + 1) row (omega (arith, at.within)) here) in
          let one : one_if (in_run (part run (k + 1) n) row) ≡ 1 = ap one_if inside in
          elim (cases_Bool (at_slot run.list (run.first + k) row)) [
            | inl first ↦
                let parts = and_parts (row.list == run.list) (row.slot == run.first + k) first in
                let its : row.slot ≡ run.first + k = eqb-true row.slot (run.first + k) parts.1 in
                absurd (omega (arith, its, slot))
            | inr other ↦
                let none : one_if (at_slot run.list (run.first + k) row) ≡ 0 = ap one_if other in
                omega (arith, all, one, none)
          ]
      | inr outside ↦
          let zero_in : one_if (in_run (part run (k + 1) n) row) ≡ 0 = ap one_if outside in
          elim (cases_Bool (at_slot run.list (run.first + k) row)) [
            | inl first ↦
                let parts = and_parts (row.list == run.list) (row.slot == run.first + k) first in
                let slot : row.slot ≡ run.first + k + 0 = omega (arith, eqb-true row.slot (run.first + k) parts.1) in
                let here : at_slot run.list (run.first + k + 0) row ≡ true =
                and_from (row.list == run.list) (row.slot == run.first + k + 0) parts.0 (eq-eqb row.slot (run.first + k + 0) slot) in
                let all : one_if (in_run (part run k (suc n)) row) ≡ 1 =
                ap one_if (in_run_from (part run k (suc n)) 0 row (omega arith) here) in
                let one : one_if (at_slot run.list (run.first + k) row) ≡ 1 = ap one_if first in
                omega (arith, all, one, zero_in)
            | inr other ↦
                let none : one_if (at_slot run.list (run.first + k) row) ≡ 0 = ap one_if other in
                omega (arith, none, zero_in)
          ]
    ]

part_more : (run : Run) (k n : ℕ) (rows : List Row)
    → rows_at rows run.list (run.first + k) + count_by (in_run (part run (k + 1) n)) rows ≤ count_by (in_run (part run k (suc n))) rows
part_more run k n [] = omega arith
part_more run k n (row ∷ rows) =
    omega (
      arith,
      part_row run k n row,
      part_more run k n rows,
      count_cons (at_slot run.list (run.first + k)) row rows,
      count_cons (in_run (part run (k + 1) n)) row rows,
      count_cons (in_run (part run k (suc n))) row rows,
    )

-- a row lies one slot behind another
record IsNextSlot (row next : Row) : Type 0 where
  its_list : next.list ≡ row.list
  its_slot : next.slot ≡ row.slot + 1

-- from a row outside of a run one comes into it at its first slot
enters_first : (run : Run) (row next : Row) → IsNextSlot row next → not (in_run run row) ≡ true → not (in_run run next) ≡ false
    → at_slot run.list run.first next ≡ true
enters_first run row next behind out inside =
    let at = place_in_run run next (from_not (in_run run next) inside) in
    elim (cases_eq next.slot run.first) [
      | inl first ↦
          and_from (next.list == run.list) (next.slot == run.first) (eq-eqb next.list run.list at.its_list) (eq-eqb next.slot run.first first)
      | inr later ↦
          let slot : row.slot ≡ run.first + (at.place - 1) = omega (arith, behind.its_slot, at.its_slot, later) in
          let here : at_slot run.list (run.first + (at.place - 1)) row ≡ true =
          and_from (row.list == run.list) (row.slot == run.first + (at.place - 1))
          (eq-eqb row.list run.list (sym behind.its_list ∙ at.its_list)) (eq-eqb row.slot (run.first + (at.place - 1)) slot) in
          let there : in_run run row ≡ true = in_run_from run (at.place - 1) row (omega (arith, at.within)) here in
          let wrong : true ≡ false = sym out ∙ ap not there in
          cc
    ]
  where
    from_not : (b : Bool) → not b ≡ false → b ≡ true
    from_not true is = refl
    from_not false is = cc

module _ (lists : List ListPlace) (small : All IsSmallPlace lists) where
  -- what goes on a row lies at the next slot
  behind_next : (row next : Row) → IsRowOf lists row → IsRowOf lists next → joins_by Alloc row next ≡ true → IsNextSlot row next
  behind_next row next at there goes =
      let both = and_parts (next.generation == row.generation) (is_behind row next) goes in
      let parts = and_parts (next.list == row.list) (next.addr == row.addr + row.page) both.1 in
      let list : next.list ≡ row.list = eqb-true next.list row.list parts.0 in
      let addr : next.addr ≡ row.addr + row.page = eqb-true next.addr (row.addr + row.page) parts.1 in
      record { its_list = list; its_slot = next_slot lists row next small at there list addr }

  -- of the rows of the log, those that stand at adjacent slots are told as one
  stand_joined : (row next : Row) (list slot : ℕ) → IsRowOf lists row → IsRowOf lists next → at_slot list slot row ≡ true
      → at_slot list (slot + 1) next ≡ true → joins_by Free row next ≡ true
  stand_joined row next list slot at there here behind =
      let first = and_parts (row.list == list) (row.slot == slot) here in
      let second = and_parts (next.list == list) (next.slot == slot + 1) behind in
      let its_list : next.list ≡ row.list = eqb-true next.list list second.0 ∙ sym (eqb-true row.list list first.0) in
      let its_slot : next.slot ≡ row.slot + 1 =
      omega (arith, eqb-true next.slot (slot + 1) second.1, eqb-true row.slot slot first.1) in
      and_from (next.list == row.list) (next.addr == row.addr + row.page) (eq-eqb next.list row.list its_list)
      (eq-eqb next.addr (row.addr + row.page) (next_addr lists row next at there its_list its_slot))

  -- where rows at a run's slots are dropped, one more row ends at most: only where one was at the first slot
  pub ends_dropped : (run : Run) (rows : List Row) → All (IsRowOf lists) rows
      → length (last_rows (joins_by Alloc) (filter (λ row. not (in_run run row)) rows))
      ≤ count_by (λ row. not (in_run run row)) (last_rows (joins_by Alloc) rows) + rows_at rows run.list run.first
  ends_dropped run rows placed =
      ends_filtered (joins_by Alloc) (IsRowOf lists) (λ row. not (in_run run row)) (at_slot run.list run.first)
      (λ row next at there goes out inside. enters_first run row next (behind_next row next at there goes) out inside) rows placed

-- Rows that stand at a run's slots are told where each of its slots has one, or one of the fresh rows. Between two stretches of them lie
-- fresh rows, and one of these ends a stretch.
module _ (lists : List ListPlace) (small : All IsSmallPlace lists) (rows : List Row) (before : List LogRecord) (run : Run) (fresh : List Row)
    (known : All (λ row. is_of_log row ≡ true → IsRowOf lists row) rows) (placed : All (IsRowOf lists) fresh)
    (used : (k : ℕ) → k < run.count
    → count_by (stands_at before run.list (run.first + k)) rows + rows_at fresh run.list (run.first + k) ≡ 1) where
  -- the row that stands at the slot of place k
  abbrev found_at : ℕ → Option Row
  found_at k = find (stands_at before run.list (run.first + k)) rows

  -- whether there is one at the first of n slots
  abbrev stands_first : ℕ → ℕ → ℕ
  stands_first k zero = 0
  stands_first k (suc n) = length (option_to_list (found_at k))

  standing : (k : ℕ) (row : Row) → found_at k ≡ Some row → (at_slot run.list (run.first + k) row ≡ true) × IsRowOf lists row
  standing k row found =
      let its = found_is (stands_at before run.list (run.first + k)) (λ row. is_of_log row ≡ true → IsRowOf lists row) rows row known found in
      let parts = and_parts (at_slot run.list (run.first + k) row) (is_of_log row && not (is_dropped before row)) its.0 in
      let of_log = and_parts (is_of_log row) (not (is_dropped before row)) parts.1 in
      (parts.0, its.1 of_log.0)

  -- where none stands at a slot and one does at the next, a fresh row ends there
  gap_ends : (k : ℕ) → k + 1 < run.count → found_at k ≡ None
      → length (option_to_list (found_at (k + 1))) ≤ rows_at (last_rows (joins_by Alloc) fresh) run.list (run.first + k)
  gap_ends k below none =
      let next = found_counts (stands_at before run.list (run.first + (k + 1))) rows in
      elim (cases_eq (count_by (stands_at before run.list (run.first + (k + 1))) rows) 0) [
        | inl nothing ↦ omega (arith, next, nothing)
        | inr something ↦
            let two = used (k + 1) below in
            let clear : rows_at fresh run.list (run.first + (k + 1)) ≡ 0 = omega (arith, two, something) in
            let one = used k (omega (arith, below)) in
            let nobody = none_found (stands_at before run.list (run.first + k)) rows none in
            let ends =
            ends_at (joins_by Alloc) (IsRowOf lists) (at_slot run.list (run.first + k)) (at_slot run.list (run.first + (k + 1)))
            (λ row next at there goes here. at_next row next (behind_next lists small row next at there goes) here) fresh placed clear in
            omega (arith, next, two, one, nobody, ends)
      ]
    where
      at_next : (row next : Row) → IsNextSlot row next → at_slot run.list (run.first + k) row ≡ true
          → at_slot run.list (run.first + (k + 1)) next ≡ true
      at_next row next behind here =
          let parts = and_parts (row.list == run.list) (row.slot == run.first + k) here in
          let slot : next.slot ≡ run.first + (k + 1) = omega (arith, behind.its_slot, eqb-true row.slot (run.first + k) parts.1) in
          and_from (next.list == run.list) (next.slot == run.first + (k + 1))
          (eq-eqb next.list run.list (behind.its_list ∙ eqb-true row.list run.list parts.0)) (eq-eqb next.slot (run.first + (k + 1)) slot)

  gap_first : (n k : ℕ) → k + suc n ≤ run.count → found_at k ≡ None
      → stands_first (k + 1) n ≤ rows_at (last_rows (joins_by Alloc) fresh) run.list (run.first + k)
  gap_first zero k within none = omega arith
  gap_first (suc n) k within none = gap_ends k (omega (arith, within)) none

  -- a row that stands in front of others makes no more stretches than its own
  stands_front : (n k more : ℕ) (row : Row) → found_at k ≡ Some row
      → length (last_rows (joins_by Free) (rows_from rows before run (k + 1) n)) ≤ stands_first (k + 1) n + more
      → length (last_rows (joins_by Free) (row ∷ rows_from rows before run (k + 1) n)) ≤ 1 + more
  stands_front zero k more row found rest = omega arith
  stands_front (suc n) k more row found rest = by_next (found_at (k + 1)) refl
    where
      by_next : (o : Option Row) → found_at (k + 1) ≡ o
          → length (last_rows (joins_by Free) (row ∷ rows_from rows before run (k + 1) (suc n))) ≤ 1 + more
      by_next None none =
          let nothing : length (option_to_list (found_at (k + 1))) ≡ 0 = ap (λ o. length (option_to_list o)) none in
          omega (arith, rest, nothing, ends_more (joins_by Free) row (rows_from rows before run (k + 1) (suc n)))
      by_next (Some next) is =
          let later = rows_from rows before run (k + 1 + 1) n in
          let one : length (option_to_list (found_at (k + 1))) ≡ 1 = ap (λ o. length (option_to_list o)) is in
          let here = standing k row found in
          let there = standing (k + 1) next is in
          let slot : run.first + (k + 1) ≡ run.first + k + 1 = omega arith in
          let goes : joins_by Free row next ≡ true =
          stand_joined lists small row next run.list (run.first + k) here.1 there.1 here.0
          (subst (λ s. at_slot run.list s next ≡ true) slot there.0) in
          let both : length (last_rows (joins_by Free) (row ∷ rows_from rows before run (k + 1) (suc n)))
          ≡ length (last_rows (joins_by Free) (row ∷ (next ∷ later))) =
          ap (λ o. length (last_rows (joins_by Free) (row ∷ (option_to_list o ++ later)))) is in
          let tail : length (last_rows (joins_by Free) (rows_from rows before run (k + 1) (suc n))) ≡ length (last_rows (joins_by Free) (next ∷ later)) =
          ap (λ o. length (last_rows (joins_by Free) (option_to_list o ++ later))) is in
          let joined : length (last_rows (joins_by Free) (row ∷ (next ∷ later))) ≡ length (last_rows (joins_by Free) (next ∷ later)) =
          ap length (cond-true (joins_by Free row next) _ _ goes) in
          omega (arith, rest, one, both, tail, joined)

  freed_few : (n k : ℕ) → k + n ≤ run.count
      → length (last_rows (joins_by Free) (rows_from rows before run k n))
      ≤ stands_first k n + count_by (in_run (part run k n)) (last_rows (joins_by Alloc) fresh)
  freed_few zero k within = omega arith
  freed_few (suc n) k within = by_found (freed_few n (k + 1) (omega (arith, within))) (found_at k) refl
    where
      by_found : length (last_rows (joins_by Free) (rows_from rows before run (k + 1) n))
          ≤ stands_first (k + 1) n + count_by (in_run (part run (k + 1) n)) (last_rows (joins_by Alloc) fresh)
          → (o : Option Row) → found_at k ≡ o
          → length (last_rows (joins_by Free) (rows_from rows before run k (suc n)))
          ≤ stands_first k (suc n) + count_by (in_run (part run k (suc n))) (last_rows (joins_by Alloc) fresh)
      by_found rest None none =
          let later = rows_from rows before run (k + 1) n in
          let same : length (last_rows (joins_by Free) (rows_from rows before run k (suc n))) ≡ length (last_rows (joins_by Free) later) =
          ap (λ o. length (last_rows (joins_by Free) (option_to_list o ++ later))) none in
          omega (arith, rest, same, gap_first n k within none, part_more run k n (last_rows (joins_by Alloc) fresh))
      by_found rest (Some row) is =
          let later = rows_from rows before run (k + 1) n in
          let same : length (last_rows (joins_by Free) (rows_from rows before run k (suc n))) ≡ length (last_rows (joins_by Free) (row ∷ later)) =
          ap (λ o. length (last_rows (joins_by Free) (option_to_list o ++ later))) is in
          let one : length (option_to_list (found_at k)) ≡ 1 = ap (λ o. length (option_to_list o)) is in
          let front = stands_front n k (count_by (in_run (part run (k + 1) n)) (last_rows (joins_by Alloc) fresh)) row is rest in
          omega (arith, same, one, front, part_more run k n (last_rows (joins_by Alloc) fresh))

  first_once : (n : ℕ) → n ≤ run.count → rows_at fresh run.list run.first ≤ 1 → stands_first 0 n + rows_at fresh run.list run.first ≤ 1
  first_once zero within once = omega (arith, once)
  first_once (suc n) within once =
      let one = used 0 (omega (arith, within)) in
      let same : rows_at fresh run.list (run.first + 0) ≡ rows_at fresh run.list run.first = ap (rows_at fresh run.list) (add-zero run.first) in
      omega (arith, one, same, found_counts (stands_at before run.list (run.first + 0)) rows)

  -- a Drop tells at most one event more than there are fewer stretches of fresh rows after it
  pub drop_told : rows_at fresh run.list run.first ≤ 1
      → length (last_rows (joins_by Free) (rows_from rows before run 0 run.count))
      + length (last_rows (joins_by Alloc) (filter (λ row. not (in_run run row)) fresh))
      ≤ length (last_rows (joins_by Alloc) fresh) + 1
  drop_told once =
      let ends = last_rows (joins_by Alloc) fresh in
      let whole : count_by (in_run (part run 0 run.count)) ends ≡ count_by (in_run run) ends =
      ap (λ f. count_by (in_run (record run { first = f; count = run.count })) ends) (add-zero run.first) in
      omega (
        arith,
        freed_few run.count 0 (omega arith),
        first_once run.count (omega arith) once,
        whole,
        ends_dropped lists small run fresh placed,
        length-filter_both (in_run run) (λ row. not (in_run run row)) (λ row. refl) ends,
        length-filter (in_run run) ends,
        length-filter (λ row. not (in_run run row)) ends,
      )
