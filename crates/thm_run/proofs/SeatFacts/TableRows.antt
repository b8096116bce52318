-- The rows that newer records bring are rows of the table.
use Rattle.std.proofs.Common.{◌≡◌, ◌∙◌, ℕ, ◌+◌, ◌-◌, ◌≤◌, Bool, true, false, not, ◌||◌, List, [], ◌∷◌, ◌++◌, filter, length, take, drop, inl, inr, refl, ap, sym, subst, arith, length-take}
use Rattle.std.specs.Prelude.{Contains}
use Rattle.std.proofs.Math.Seq.{take-add}
use Rattle.std.proofs.lemmas.Bool.{cases_lt}
use Rattle.std.proofs.lemmas.List.Elements.{Contains-append_cases, Contains-append_left, Contains-append_right}
use Rattle.hp_base.specs.declared.row.Row.{Row}
use Rattle.hp_heap.proofs.AllocFacts.ChoiceLaw.{Contains-filter, Contains-none}
use Rattle.hp_heap.proofs.Members.{Contains-kept}
use Rattle.hp_log.specs.Log.{table_after, table_at, table_from}
use Rattle.hp_log.specs.Rows.{in_run, rows_of}
use Rattle.hp_log.specs.declared.log_record.LogRecord.{LogRecord}
use Rattle.hp_log.specs.declared.log_record.LogRecord.TheVariants.{Add, Drop}
use Rattle.hp_maps.specs.Catching.{is_dropped, new_rows, newer, undropped}

not_either : (a b : Bool) → not (a || b) ≡ true → (not a ≡ true) × (not b ≡ true)
not_either true b is = cc
not_either false true is = cc
not_either false false is = (refl, refl)

-- a row that no record drops stays in the table
row_stays : (n : ℕ) (table : List Row) (records : List LogRecord) (row : Row) → Contains table row → not (is_dropped records row) ≡ true
    → Contains (table_from n table records) row
row_stays n table [] row among left = among
row_stays n table (Add run heap ∷ records) row among left =
    row_stays (n + 1) (table ++ rows_of run (n + 1)) records row (Contains-append_left table (rows_of run (n + 1)) row among)
    (not_either false (is_dropped records row) left).1
row_stays n table (Drop run ∷ records) row among left =
    let parts = not_either (in_run run row) (is_dropped records row) left in
    row_stays (n + 1) (filter (λ row. not (in_run run row)) table) records row
    (Contains-kept (λ row. not (in_run run row)) table row parts.0 among) parts.1

-- a row that records bring is in the table after them
row_comes : (n : ℕ) (table : List Row) (records : List LogRecord) (row : Row) → Contains (new_rows n records) row
    → Contains (table_from n table records) row
row_comes n table [] row among = absurd (Contains-none row among)
row_comes n table (Add run heap ∷ records) row among =
    elim (Contains-append_cases (undropped records (rows_of run (n + 1))) (new_rows (n + 1) records) row among) [
      | inl here ↦
          let its = Contains-filter (λ row. not (is_dropped records row)) (rows_of run (n + 1)) row here in
          row_stays (n + 1) (table ++ rows_of run (n + 1)) records row (Contains-append_right table (rows_of run (n + 1)) row its.1) its.0
      | inr behind ↦ row_comes (n + 1) (table ++ rows_of run (n + 1)) records row behind
    ]
row_comes n table (Drop run ∷ records) row among =
    row_comes (n + 1) (filter (λ row. not (in_run run row)) table) records row among

table_from_both : (n : ℕ) (table : List Row) (first later : List LogRecord)
    → table_from n table (first ++ later) ≡ table_from (n + length first) (table_from n table first) later
table_from_both n table [] later = ap (λ k. table_from k table later) (omega arith)
table_from_both n table (entry ∷ first) later =
    let rest = table_from_both (n + 1) (table_after table (n + 1) entry) first later in
    let same : n + 1 + length first ≡ n + length (entry ∷ first) = omega arith in
    rest ∙ ap (λ k. table_from k (table_from (n + 1) (table_after table (n + 1) entry) first) later) same

-- where some records were taken in, a row that the newer ones bring is one of the whole table
taken_in : (log : List LogRecord) (number : ℕ) (row : Row) → number ≤ length log
    → Contains (new_rows number (newer log number (length log))) row → Contains (table_at log (length log)) row
taken_in log number row within among =
    let parts : take (length log) log ≡ take number log ++ newer log number (length log) =
    ap (λ (k : ℕ). take k log) (omega (arith, within)) ∙ take-add number (length log - number) log in
    let long : 0 + length (take number log) ≡ number = omega (arith, within, length-take number log) in
    let whole : table_at log (length log) ≡ table_from number (table_at log number) (newer log number (length log)) =
    ap (table_from 0 []) parts
    ∙ (table_from_both 0 [] (take number log) (newer log number (length log))
    ∙ ap (λ k. table_from k (table_at log number) (newer log number (length log))) long) in
    subst (λ table. Contains table row) (sym whole)
    (row_comes number (table_at log number) (newer log number (length log)) row among)

-- and whatever number a table has
pub row_of_table : (log : List LogRecord) (number : ℕ) (row : Row) → Contains (new_rows number (newer log number (length log))) row
    → Contains (table_at log (length log)) row
row_of_table log number row among =
    elim (cases_lt (length log) number) [
      | inl beyond ↦
          let none_left : length log - number ≡ 0 = omega (arith, beyond) in
          let nothing : newer log number (length log) ≡ [] = ap (λ n. take n (drop number log)) none_left in
          absurd (Contains-none row (subst (λ records. Contains (new_rows number records) row) nothing among))
      | inr within ↦ taken_in log number row (omega (arith, within)) among
    ]
