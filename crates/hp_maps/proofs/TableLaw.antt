-- The table at a later record, by the table at an earlier one.
use Rattle.std.proofs.Common.{◌≡◌, ◌≤◌, ℕ, ◌+◌, ◌-◌, Bool, true, false, not, ◌&&◌, ◌||◌, List, [], ◌∷◌, ◌++◌, filter, length, take, drop, refl, ap, ◌∙◌, sym, arith, append_assoc, length-take}
use Rattle.std.proofs.Math.Seq.{take-add}
use Rattle.std.specs.List.{All}
use Rattle.std.proofs.lemmas.List.Folds.{list_any-append}
use Rattle.std.proofs.lemmas.List.Elements.{filter-append}
use Rattle.hp_base.specs.declared.row.Row.{Row}
use Rattle.hp_log.specs.Log.{table_after, table_at, table_from}
use Rattle.hp_log.specs.Rows.{in_run, rows_of}
use Rattle.hp_log.specs.declared.log_record.LogRecord.{LogRecord}
use Rattle.hp_log.specs.declared.log_record.LogRecord.TheVariants.{Add, Drop}
use Rattle.hp_maps.specs.Catching.{drops, is_dropped, new_rows, newer, undropped}
use Rattle.hp_maps.proofs.ListFacts.{filter_agree, filter_keeps, filter_twice}

pub every : {X : Type 0} (P : X → Type 0) → ((x : X) → P x) → (xs : List X) → All P xs
every P each xs = λ k d within. each _

pub append_nothing : {X : Type 0} (l : List X) → l ++ [] ≡ l
append_nothing [] = refl
append_nothing (x ∷ l) = ap (λ rest. x ∷ rest) (append_nothing l)

neither : (a b : Bool) → (not a && not b) ≡ not (a || b)
neither true b = refl
neither false b = refl

-- no record drops nothing
pub undropped_none : (rows : List Row) → undropped [] rows ≡ rows
undropped_none rows = filter_keeps (λ row. true) rows (every (λ row. true ≡ true) (λ row. refl) rows)

-- what some records leave, others leave of that: what both leave
pub undropped_twice : (first later : List LogRecord) (rows : List Row) → undropped later (undropped first rows) ≡ undropped (first ++ later) rows
undropped_twice first later rows =
    filter_twice (λ row. not (is_dropped later row)) (λ row. not (is_dropped first row)) rows
    ∙ filter_agree _ (λ row. not (is_dropped (first ++ later) row)) rows
    (every _ (λ row. neither (is_dropped first row) (is_dropped later row) ∙ ap not (sym (list_any-append (drops row) first later))) rows)

-- the table after records, by the table before them
pub table_from_new : (n : ℕ) (table : List Row) (records : List LogRecord)
    → table_from n table records ≡ undropped records table ++ new_rows n records
table_from_new n table [] = sym (append_nothing (undropped [] table) ∙ undropped_none table)
table_from_new n table (Add run heap ∷ records) =
    table_from_new (n + 1) (table ++ rows_of run (n + 1)) records
    ∙ (ap (λ l. l ++ new_rows (n + 1) records) (filter-append (λ row. not (is_dropped records row)) table (rows_of run (n + 1)))
    ∙ append_assoc (undropped records table) (undropped records (rows_of run (n + 1))) (new_rows (n + 1) records))
table_from_new n table (Drop run ∷ records) =
    table_from_new (n + 1) (filter (λ row. not (in_run run row)) table) records
    ∙ ap (λ l. l ++ new_rows (n + 1) records)
    (filter_twice (λ row. not (is_dropped records row)) (λ row. not (in_run run row)) table
    ∙ filter_agree _ (λ row. not (is_dropped (Drop run ∷ records) row)) table
    (every _ (λ row. neither (in_run run row) (is_dropped records row)) table))

table_from_append : (n : ℕ) (table : List Row) (first later : List LogRecord)
    → table_from n table (first ++ later) ≡ table_from (n + length first) (table_from n table first) later
table_from_append n table [] later = ap (λ k. table_from k table later) (omega arith)
table_from_append n table (entry ∷ first) later =
    let rest = table_from_append (n + 1) (table_after table (n + 1) entry) first later in
    let same : n + 1 + length first ≡ n + length (entry ∷ first) = omega arith in
    rest ∙ ap (λ k. table_from k (table_from (n + 1) (table_after table (n + 1) entry) first) later) same

-- the table of a log: what an earlier one had and no newer record drops, and then what these bring
pub table_law : (records : List LogRecord) (n to : ℕ) → n ≤ to → to ≤ length records
    → table_at records to ≡ undropped (newer records n to) (table_at records n) ++ new_rows n (newer records n to)
table_law records n to from within =
    let parts : take to records ≡ take n records ++ newer records n to =
    ap (λ (k : ℕ). take k records) (omega arith) ∙ take-add n (to - n) records in
    let long : 0 + length (take n records) ≡ n = omega (arith, length-take n records) in
    ap (table_from 0 []) parts
    ∙ (table_from_append 0 [] (take n records) (newer records n to)
    ∙ (ap (λ k. table_from k (table_at records n) (newer records n to)) long
    ∙ table_from_new n (table_at records n) (newer records n to)))

-- the newer records, by a place among them
pub newer_parts : (records : List LogRecord) (n reached to : ℕ) → n ≤ reached → reached ≤ to
    → (later : List LogRecord) × (newer records n to ≡ newer records n reached ++ later)
newer_parts records n reached to from up_to = (
  take (to - reached) (drop (reached - n) (drop n records)),
  ap (λ (k : ℕ). take k (drop n records)) (omega arith) ∙ take-add (reached - n) (to - reached) (drop n records),
)

or_same : (a b : Bool) → (a || (a || b)) ≡ (a || b)
or_same true b = refl
or_same false b = refl

-- what lags loses the same to the newer records
pub undropped_lag : (records : List LogRecord) (n reached to : ℕ) (rows : List Row) → n ≤ reached → reached ≤ to
    → undropped (newer records n to) (undropped (newer records n reached) rows) ≡ undropped (newer records n to) rows
undropped_lag records n reached to rows from up_to =
    let (later, parts) = newer_parts records n reached to from up_to in
    undropped_twice (newer records n reached) (newer records n to) rows
    ∙ filter_agree _ (λ row. not (is_dropped (newer records n to) row)) rows
    (every _ (λ row. ap not (list_any-append (drops row) (newer records n reached) (newer records n to)
    ∙ (ap (λ (l : List LogRecord). is_dropped (newer records n reached) row || is_dropped l row) parts
    ∙ (ap (λ b. is_dropped (newer records n reached) row || b) (list_any-append (drops row) (newer records n reached) later)
    ∙ (or_same (is_dropped (newer records n reached) row) (is_dropped later row)
    ∙ (sym (list_any-append (drops row) (newer records n reached) later)
    ∙ ap (λ (l : List LogRecord). is_dropped l row) (sym parts))))))) rows)
