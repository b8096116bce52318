-- Which rows records unmap, counted: each row of the log that one of them drops, once.
use Rattle.std.proofs.Common.{◌≡◌, ◌≤◌, ℕ, zero, suc, ◌+◌, ◌-◌, Bool, true, false, not, ◌&&◌, ◌||◌, ◌==◌, cond, List, [], ◌∷◌, ◌++◌, Some, find, option_to_list, filter, refl, ap, ◌∙◌, sym, arith, inl, inr, count_by, eq-eqb}
use Rattle.std.proofs.Math.Nat.{add-zero}
use Rattle.std.proofs.lemmas.Bool.{and_from, cases_Bool, cases_eq}
use Rattle.std.proofs.lemmas.List.Folds.{list_any-append}
use Rattle.std.proofs.lemmas.List.Sums.{count_by-le-length, length-filter}
use Rattle.hp_base.specs.declared.row.Row.{Row}
use Rattle.hp_base.specs.declared.row.Run.{Run}
use Rattle.hp_log.specs.Rows.{at_slot, in_run}
use Rattle.hp_log.specs.declared.log_record.LogRecord.{LogRecord}
use Rattle.hp_log.specs.declared.log_record.LogRecord.TheVariants.{Add, Drop}
use Rattle.hp_log.proofs.Counts.{count_append, count_cons, count_filter}
use Rattle.hp_log.proofs.RowLemmas.{in_run_from, place_in_run}
use Rattle.hp_maps.specs.Catching.{drops, is_dropped}
use Rattle.hp_maps.specs.Events.{rows_from, stands_at}
use Rattle.hp_maps.specs.MapsView.{is_of_log}
use Rattle.hp_maps.specs.RowsView.{HaveOwnSlots}
use Rattle.hp_maps.proofs.EventFacts.ByteLemmas.{all_freed}
use Rattle.hp_maps.proofs.EventFacts.FreedLemmas.{part, part_row}
use Rattle.hp_maps.proofs.LawLemmas.{count_fewer}
use Rattle.hp_maps.proofs.ListFacts.{filter_agree, filter_drops}
use Rattle.hp_maps.proofs.TableLaw.{every}

abbrev pub one_if : Bool → ℕ
one_if b = cond b 1 0

add_both : (q r s p : Bool) → one_if q + one_if r ≡ one_if s → one_if (q && p) + one_if (r && p) ≡ one_if (s && p)
add_both true true true p both = absurd (omega (arith, both))
add_both true true false p both = absurd (omega (arith, both))
add_both true false true p both = omega arith
add_both true false false p both = absurd (omega (arith, both))
add_both false true true p both = omega arith
add_both false true false p both = absurd (omega (arith, both))
add_both false false true p both = absurd (omega (arith, both))
add_both false false false p both = omega arith

pub count_and : (p q r s : Row → Bool) → ((row : Row) → one_if (q row) + one_if (r row) ≡ one_if (s row)) → (rows : List Row)
    → count_by (λ row. q row && p row) rows + count_by (λ row. r row && p row) rows ≡ count_by (λ row. s row && p row) rows
count_and p q r s each [] = omega arith
count_and p q r s each (row ∷ rows) =
    omega (
      arith,
      count_and p q r s each rows,
      add_both (q row) (r row) (s row) (p row) (each row),
      count_cons (λ row. q row && p row) row rows,
      count_cons (λ row. r row && p row) row rows,
      count_cons (λ row. s row && p row) row rows,
    )

-- where each row that passes one test passes one of two others, and no other one does, they are counted together
pub count_both : (p q r s : Row → Bool) → ((row : Row) → one_if (q row) + one_if (r row) ≡ one_if (s row)) → (rows : List Row)
    → count_by p (filter q rows) + count_by p (filter r rows) ≡ count_by p (filter s rows)
count_both p q r s each rows =
    omega (arith, count_and p q r s each rows, count_filter p q rows, count_filter p r rows, count_filter p s rows)

-- what is found is all that passes, where one passes at most
found_count : (p q : Row → Bool) (rows : List Row) → count_by q rows ≤ 1 → count_by p (option_to_list (find q rows)) ≡ count_by p (filter q rows)
found_count p q [] once = refl
found_count p q (row ∷ rows) once =
    let counted = count_cons q row rows in
    elim (cases_Bool (q row)) [
      | inl passes ↦
          let found : count_by p (option_to_list (find q (row ∷ rows))) ≡ count_by p (row ∷ []) =
          ap (λ b. count_by p (option_to_list (cond b (Some row) (find q rows)))) passes in
          let kept : count_by p (filter q (row ∷ rows)) ≡ count_by p (row ∷ filter q rows) =
          ap (λ b. count_by p (cond b (row ∷ filter q rows) (filter q rows))) passes in
          omega (
            arith,
            once,
            counted,
            ap one_if passes,
            found,
            kept,
            count_cons p row [],
            count_cons p row (filter q rows),
            count_by-le-length p (filter q rows),
            length-filter q rows,
          )
      | inr fails ↦
          let found : count_by p (option_to_list (find q (row ∷ rows))) ≡ count_by p (option_to_list (find q rows)) =
          ap (λ b. count_by p (option_to_list (cond b (Some row) (find q rows)))) fails in
          let kept : count_by p (filter q (row ∷ rows)) ≡ count_by p (filter q rows) =
          ap (λ b. count_by p (cond b (row ∷ filter q rows) (filter q rows))) fails in
          let rest : count_by q rows ≤ 1 = omega (arith, once, counted) in
          found ∙ (found_count p q rows rest ∙ sym kept)
    ]

-- a row at one of a run's slots is at the first of them, or at one of the others
part_either : (run : Run) (k n : ℕ) (row : Row) → in_run (part run k (suc n)) row ≡ true
    → 1 ≤ one_if (at_slot run.list (run.first + k) row) + one_if (in_run (part run (k + 1) n) row)
part_either run k n row inside =
    let at = place_in_run (part run k (suc n)) row inside in
    elim (cases_eq at.place 0) [
      | inl first ↦
          let slot : row.slot ≡ run.first + k = omega (arith, at.its_slot, first) in
          let here : at_slot run.list (run.first + k) row ≡ true =
          and_from (row.list == run.list) (row.slot == run.first + k) (eq-eqb row.list run.list at.its_list)
          (eq-eqb row.slot (run.first + k) slot) in
          let one : one_if (at_slot run.list (run.first + k) row) ≡ 1 = ap one_if here in
          omega (arith, one)
      | inr later ↦
          let slot : row.slot ≡ run.first + (k + 1) + (at.place - 1) = omega (arith, at.its_slot, later) in
          let here : at_slot run.list (run.first + (k + 1) + (at.place - 1)) row ≡ true =
          and_from (row.list == run.list) (row.slot == run.first + (k + 1) + (at.place - 1)) (eq-eqb row.list run.list at.its_list)
          (eq-eqb row.slot (run.first + (k + 1) + (at.place - 1)) slot) in
          let one : one_if (in_run (part run (k + 1) n) row) ≡ 1 =
          ap one_if (in_run_from (part run (k + 1) n) (at.place - 1) row (omega (arith, at.within, later)) here) in
          omega (arith, one)
    ]

pub part_exact : (run : Run) (k n : ℕ) (row : Row)
    → one_if (at_slot run.list (run.first + k) row) + one_if (in_run (part run (k + 1) n) row) ≡ one_if (in_run (part run k (suc n)) row)
part_exact run k n row =
    let most = part_row run k n row in
    elim (cases_Bool (in_run (part run k (suc n)) row)) [
      | inl inside ↦
          let one : one_if (in_run (part run k (suc n)) row) ≡ 1 = ap one_if inside in
          omega (arith, most, one, part_either run k n row inside)
      | inr outside ↦
          let none : one_if (in_run (part run k (suc n)) row) ≡ 0 = ap one_if outside in
          omega (arith, most, none)
    ]

pub nobody : (run : Run) (k : ℕ) (row : Row) → in_run (part run k 0) row ≡ false
nobody run k row =
    elim (cases_Bool (in_run (part run k 0) row)) [
      | inr outside ↦ outside
      | inl inside ↦
          let at = place_in_run (part run k 0) row inside in
          absurd (omega (arith, at.within))
    ]

-- a row of the log that none of the records before drops
abbrev still : List LogRecord → Row → Bool
still before row = is_of_log row && not (is_dropped before row)

and_false : (b : Bool) → (b && false) ≡ false
and_false true = refl
and_false false = refl

-- the rows that stand at the slots of a run, counted
from_count : (p : Row → Bool) (rows : List Row) (before : List LogRecord) (run : Run)
    → ((slot : ℕ) → count_by (stands_at before run.list slot) rows ≤ 1) → (n k : ℕ)
    → count_by p (rows_from rows before run k n) ≡ count_by p (filter (λ row. in_run (part run k n) row && still before row) rows)
from_count p rows before run once zero k =
    sym (ap (count_by p) (filter_drops (λ row. in_run (part run k 0) row && still before row) rows
    (every (λ row. (in_run (part run k 0) row && still before row) ≡ false) (λ row. ap (λ b. b && still before row) (nobody run k row)) rows)))
from_count p rows before run once (suc n) k =
    let here = find (stands_at before run.list (run.first + k)) rows in
    let rest = rows_from rows before run (k + 1) n in
    omega (
      arith,
      count_append p (option_to_list here) rest,
      found_count p (stands_at before run.list (run.first + k)) rows (once (run.first + k)),
      from_count p rows before run once n (k + 1),
      count_both p (stands_at before run.list (run.first + k)) (λ row. in_run (part run (k + 1) n) row && still before row)
          (λ row. in_run (part run k (suc n)) row && still before row)
          (λ row. add_both (at_slot run.list (run.first + k) row) (in_run (part run (k + 1) n) row) (in_run (part run k (suc n)) row)
          (still before row) (part_exact run k n row)) rows,
    )

-- a row of the log that one of the records drops, and none before them
abbrev pub going : List LogRecord → List LogRecord → Row → Bool
going before records row = is_of_log row && (not (is_dropped before row) && is_dropped records row)

or_nothing : (b : Bool) → (b || false) ≡ b
or_nothing true = refl
or_nothing false = refl

dropped_more : (before : List LogRecord) (entry : LogRecord) (row : Row)
    → is_dropped (before ++ entry ∷ []) row ≡ (is_dropped before row || drops row entry)
dropped_more before entry row =
    list_any-append (drops row) before (entry ∷ []) ∙ ap (λ b. is_dropped before row || b) (or_nothing (drops row entry))

add_more : (before : List LogRecord) (run : Run) (heap : ℕ) (row : Row) → is_dropped (before ++ Add run heap ∷ []) row ≡ is_dropped before row
add_more before run heap row = dropped_more before (Add run heap) row ∙ or_nothing (is_dropped before row)

-- a row is dropped by the first record, or by one after it
split_four : (l b i r : Bool) → one_if (i && (l && not b)) + one_if (l && (not (b || i) && r)) ≡ one_if (l && (not b && (i || r)))
split_four true true true r = refl
split_four true true false r = refl
split_four true false true r = refl
split_four true false false r = omega arith
split_four false b true r = refl
split_four false b false r = refl

both : (a b c : Bool) → (a && (b && c)) ≡ true → (a && b) ≡ true
both true true c is = refl
both true false c is = cc
both false b c is = cc

-- one row at most stands at a slot
pub stands_once : (rows : List Row) (before : List LogRecord) (list slot : ℕ) → HaveOwnSlots rows
    → count_by (stands_at before list slot) rows ≤ 1
stands_once rows before list slot once =
    let one = once list slot in
    omega (
      arith,
      one,
      count_fewer (stands_at before list slot) (λ row. at_slot list slot row && is_of_log row) rows
          (every (λ row. stands_at before list slot row ≡ true → (at_slot list slot row && is_of_log row) ≡ true)
          (λ row is. both (at_slot list slot row) (is_of_log row) (not (is_dropped before row)) is) rows),
    )

-- the rows that records unmap: each row of the log that one of them drops, once, where no slot has two
pub freed_count : (p : Row → Bool) (rows : List Row) → ((list slot : ℕ) → count_by (λ row. at_slot list slot row && is_of_log row) rows ≤ 1)
    → (before records : List LogRecord) → count_by p (all_freed rows before records) ≡ count_by p (filter (going before records) rows)
freed_count p rows once before [] =
    sym (ap (count_by p) (filter_drops (going before []) rows
    (every (λ row. going before [] row ≡ false)
    (λ row. ap (λ b. is_of_log row && b) (and_false (not (is_dropped before row))) ∙ and_false (is_of_log row)) rows)))
freed_count p rows once before (Add run heap ∷ records) =
    freed_count p rows once (before ++ Add run heap ∷ []) records
    ∙ ap (count_by p) (filter_agree (going (before ++ Add run heap ∷ []) records) (going before (Add run heap ∷ records)) rows
    (every (λ row. going (before ++ Add run heap ∷ []) records row ≡ going before (Add run heap ∷ records) row)
    (λ row. ap (λ b. is_of_log row && (not b && is_dropped records row)) (add_more before run heap row)) rows))
freed_count p rows once before (Drop run ∷ records) =
    let gone = rows_from rows before run 0 run.count in
    let more = all_freed rows (before ++ Drop run ∷ []) records in
    let here : count_by p gone ≡ count_by p (filter (λ row. in_run run row && still before row) rows) =
    from_count p rows before run (λ slot. stands_once rows before run.list slot once) run.count 0
    ∙ ap (λ (f : ℕ). count_by p (filter (λ row. in_run (record run { first = f; count = run.count }) row && still before row) rows)) (add-zero run.first) in
    omega (
      arith,
      count_append p gone more,
      here,
      freed_count p rows once (before ++ Drop run ∷ []) records,
      count_both p (λ row. in_run run row && still before row) (going (before ++ Drop run ∷ []) records) (going before (Drop run ∷ records))
          (λ row. ap (λ b. one_if (in_run run row && still before row) + one_if (is_of_log row && (not b && is_dropped records row)))
          (dropped_more before (Drop run) row)
          ∙ split_four (is_of_log row) (is_dropped before row) (in_run run row) (is_dropped records row)) rows,
    )
