-- The rows that records bring, as they are added one after the other.
use Rattle.std.proofs.Common.{◌≡◌, ◌≤◌, ◌<◌, ℕ, zero, suc, ◌+◌, not, List, [], ◌∷◌, ◌++◌, length, take, drop, ◌-◌, get_or, ap, ◌∙◌, sym, subst, arith, inl, inr, add-one, length-append, drop-cons}
use Rattle.std.proofs.lemmas.Bool.{cases_eq}
use Rattle.std.proofs.lemmas.List.{take_rest}
use Rattle.std.proofs.lemmas.List.Elements.{filter-append}
use Rattle.hp_base.specs.declared.row.Row.{Row}
use Rattle.hp_base.specs.declared.row.Run.{Run}
use Rattle.hp_log.specs.Rows.{row_of, rows_below, rows_of}
use Rattle.hp_log.specs.declared.log_record.LogRecord.{LogRecord}
use Rattle.hp_log.specs.declared.log_record.LogRecord.TheVariants.{Add}
use Rattle.hp_log.proofs.RowLemmas.{rows_below_more}
use Rattle.hp_maps.specs.Catching.{brought, is_dropped, new_rows, undropped}

pub undropped_more : (later : List LogRecord) (run : Run) (generation n : ℕ)
    → undropped later (rows_below run generation (n + 1))
    ≡ undropped later (rows_below run generation n) ++ undropped later (row_of run generation n ∷ [])
undropped_more later run generation n =
    ap (undropped later) (rows_below_more run generation n)
    ∙ filter-append (λ row. not (is_dropped later row)) (rows_below run generation n) (row_of run generation n ∷ [])

-- with the next row there are no more than with all
pub undropped_fits : (later : List LogRecord) (run : Run) (generation n m : ℕ) → n < m
    → length (undropped later (rows_below run generation n)) + length (undropped later (row_of run generation n ∷ []))
    ≤ length (undropped later (rows_below run generation m))
undropped_fits later run generation n zero within = absurd (omega arith)
undropped_fits later run generation n (suc m) within =
    let more : length (undropped later (rows_below run generation (suc m)))
    ≡ length (undropped later (rows_below run generation m)) + length (undropped later (row_of run generation m ∷ [])) =
    ap length (filter-append (λ row. not (is_dropped later row)) (rows_below run generation m) (row_of run generation m ∷ []))
    ∙ length-append (undropped later (rows_below run generation m)) (undropped later (row_of run generation m ∷ [])) in
    elim (cases_eq n m) [
      | inl same ↦
          subst (λ (k : ℕ). length (undropped later (rows_below run generation k)) + length (undropped later (row_of run generation k ∷ []))
          ≤ length (undropped later (rows_below run generation (suc m)))) (sym same) (omega (arith, more))
      | inr other ↦
          let below : n < m = omega (arith, other) in
          omega (arith, more, undropped_fits later run generation n m below)
    ]

-- what the records from a place on bring, by the record there
pub new_rows_from : (n at : ℕ) (records : List LogRecord) (d : LogRecord) → at < length records
    → new_rows (n + at) (drop at records)
    ≡ brought (n + at + 1) (get_or records at d) (drop (at + 1) records) ++ new_rows (n + at + 1) (drop (at + 1) records)
new_rows_from n at records d within =
    let next : drop at records ≡ get_or records at d ∷ drop (at + 1) records =
    drop-cons records at d within ∙ ap (λ k. get_or records at d ∷ drop k records) (sym (add-one at)) in
    ap (new_rows (n + at)) next

-- what a record brings has room
pub brought_fits : (n at : ℕ) (records : List LogRecord) (d : LogRecord) (now before : List Row) (room : ℕ) → at < length records
    → now ++ new_rows (n + at) (drop at records) ≡ before ++ new_rows n records
    → length before + length (new_rows n records) ≤ room
    → length now + length (brought (n + at + 1) (get_or records at d) (drop (at + 1) records)) ≤ room
brought_fits n at records d now before room within same fits =
    omega (
      arith,
      ap length same,
      length-append now (new_rows (n + at) (drop at records)),
      length-append before (new_rows n records),
      ap length (new_rows_from n at records d within),
      length-append (brought (n + at + 1) (get_or records at d) (drop (at + 1) records)) (new_rows (n + at + 1) (drop (at + 1) records)),
    )

-- what an Add brings has room, after the rows before it
pub added_fits : (n at : ℕ) (records : List LogRecord) (d : LogRecord) (run : Run) (heap : ℕ) (now before : List Row) (room : ℕ)
    → at < length records → get_or records at d ≡ Add run heap
    → now ++ new_rows (n + at) (drop at records) ≡ before ++ new_rows n records
    → length before + length (new_rows n records) ≤ room
    → length now + length (undropped (take (length records - (at + 1)) (drop (at + 1) records)) (rows_of run (n + at + 1))) ≤ room
added_fits n at records d run heap now before room within its same fits =
    let all = brought_fits n at records d now before room within same fits in
    let rest = take_rest records (at + 1) in
    let len : length (brought (n + at + 1) (get_or records at d) (drop (at + 1) records))
    ≡ length (undropped (take (length records - (at + 1)) (drop (at + 1) records)) (rows_of run (n + at + 1))) =
    ap (λ entry. length (brought (n + at + 1) entry (drop (at + 1) records))) its
    ∙ ap (λ (later : List LogRecord). length (undropped later (rows_of run (n + at + 1)))) (sym rest) in
    omega (arith, all, len)
