-- Tables that logs leave: what all their rows have, and that no slot has two.
use Rattle.std.proofs.Common.{◌≡◌, ◌≤◌, ◌<◌, ◌⊎◌, ℕ, zero, suc, ◌+◌, not, List, [], ◌∷◌, ◌++◌, filter, take, ◌∙◌, ap, arith, inl, inr}
use Rattle.std.specs.List.{All}
use Rattle.std.proofs.lemmas.List.Elements.{All-append, All-filter, All-head, All-nil, All-tail, All-take}
use Rattle.hp_base.specs.declared.row.Row.{Row}
use Rattle.hp_base.specs.declared.row.Run.{Run}
use Rattle.hp_log.specs.Log.{AllMayFollow, IsWellFormed, run_in, table_at, table_from}
use Rattle.hp_log.specs.Rows.{at_slot, in_run, row_of, rows_at, rows_of}
use Rattle.hp_log.specs.declared.log_record.LogRecord.{LogRecord}
use Rattle.hp_log.specs.declared.log_record.LogRecord.TheVariants.{Add, Drop}
use Rattle.hp_log.proofs.Counts.{count_append, count_split}
use Rattle.hp_log.proofs.RowLemmas.{all_rows_below, run_rows_at, IsAtPlace}

-- what the rows of each run have, all rows of a table have
module _ (P : Row → Type 0) (Q : Run → Type 0) (each : (run : Run) (generation k : ℕ) → Q run → k < run.count → P (row_of run generation k))
  where
    pub all_table_from : (n : ℕ) (table : List Row) (records : List LogRecord) → All P table → All (λ entry. Q (run_in entry)) records
        → All P (table_from n table records)
    all_table_from n table [] all runs = all
    all_table_from n table (Add run heap ∷ records) all runs =
        let its : Q run = All-head (λ entry. Q (run_in entry)) (Add run heap) records runs in
        all_table_from (n + 1) (table ++ rows_of run (n + 1)) records
        (All-append P table (rows_of run (n + 1)) all
        (all_rows_below P run (n + 1) run.count (λ k below. each run (n + 1) k its below)))
        (All-tail (λ entry. Q (run_in entry)) (Add run heap) records runs)
    all_table_from n table (Drop run ∷ records) all runs =
        all_table_from (n + 1) (filter (λ row. not (in_run run row)) table) records
        (All-filter (λ row. not (in_run run row)) P table all)
        (All-tail (λ entry. Q (run_in entry)) (Drop run) records runs)

    pub all_table_at : (records : List LogRecord) (n : ℕ) → All (λ entry. Q (run_in entry)) records → All P (table_at records n)
    all_table_at records n runs = all_table_from 0 [] (take n records) (All-nil P) (All-take (λ entry. Q (run_in entry)) n records runs)

-- a slot keeps one row at most where a run comes whose slots were unused
pub once_added : (table : List Row) (run : Run) (generation list slot : ℕ)
    → ((k : ℕ) → k < run.count → rows_at table run.list (run.first + k) ≡ 0) → rows_at table list slot ≤ 1
    → (rows_at (rows_of run generation) list slot ≡ 0) ⊎ IsAtPlace run generation run.count list slot
    → rows_at (table ++ rows_of run generation) list slot ≤ 1
once_added table run generation list slot unused once (inl none) =
    omega (arith, count_append (at_slot list slot) table (rows_of run generation), once, none)
once_added table run generation list slot unused once (inr at) =
    let free = unused at.place at.within in
    let here : rows_at table list slot ≡ rows_at table run.list (run.first + at.place) =
    ap (λ (l : ℕ). rows_at table l slot) at.its_list ∙ ap (rows_at table run.list) at.its_slot in
    omega (arith, count_append (at_slot list slot) table (rows_of run generation), free, here, at.one)

once_from : (n : ℕ) (table : List Row) (records : List LogRecord) (count list slot : ℕ) → AllMayFollow n table records
    → ((l s : ℕ) → rows_at table l s ≤ 1) → rows_at (table_from n table (take count records)) list slot ≤ 1
once_from n table [] zero list slot formed once = once list slot
once_from n table [] (suc count) list slot formed once = once list slot
once_from n table (entry ∷ records) zero list slot formed once = once list slot
once_from n table (Add run heap ∷ records) (suc count) list slot formed once =
    once_from (n + 1) (table ++ rows_of run (n + 1)) records count list slot formed.1
    (λ l s. once_added table run (n + 1) l s formed.0.unused (once l s) (run_rows_at run (n + 1) run.count l s))
once_from n table (Drop run ∷ records) (suc count) list slot formed once =
    once_from (n + 1) (filter (λ row. not (in_run run row)) table) records count list slot formed.1
    (λ l s. omega (arith, once l s, count_split (at_slot l s) (λ row. not (in_run run row)) table))

-- in a well-formed log no slot has two rows
pub once_at : (records : List LogRecord) → IsWellFormed records → (n list slot : ℕ) → rows_at (table_at records n) list slot ≤ 1
once_at records formed n list slot = once_from 0 [] records n list slot formed (λ l s. omega arith)
