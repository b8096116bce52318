-- What records bring may be mapped after what stays.
use Rattle.std.proofs.Common.{◌≡◌, ◌≤◌, ◌<◌, ◌^◌, ℕ, ◌+◌, ◌*◌, not, List, [], ◌∷◌, ◌++◌, length, take, drop, ap, ◌∙◌, sym, subst, arith, length-append}
use Rattle.std.proofs.Math.Nat.{mul-le-mul_right}
use Rattle.std.proofs.Math.Seq.{drop-append_seam, take-append_seam}
use Rattle.std.specs.List.{All}
use Rattle.std.proofs.lemmas.List.Elements.{All-append, All-filter, All-head, All-nil, All-tail}
use Rattle.hp_base.specs.Mapping.{AreApart, Held, IsWithin, owned}
use Rattle.hp_base.specs.declared.row.Row.{Row}
use Rattle.hp_base.specs.declared.row.Run.{Run}
use Rattle.hp_log.specs.Log.{run_in}
use Rattle.hp_log.specs.Rows.{row_of, rows_of}
use Rattle.hp_log.specs.declared.log_record.LogRecord.{LogRecord}
use Rattle.hp_log.specs.declared.log_record.LogRecord.TheVariants.{Add, Drop}
use Rattle.hp_log.proofs.RowLemmas.{all_rows_below}
use Rattle.hp_maps.specs.Catching.{IsMappableRun, is_dropped, kept, new_rows, undropped}
use Rattle.hp_maps.specs.Unmapping.{CanMapRows, CanTakeIn}

-- what holds of each row that a run brings holds of all that records bring
pub all_new_rows : (P : Row → Type 0) (Q : Run → Type 0)
    → ((run : Run) (generation k : ℕ) → Q run → 0 < generation → k < run.count → P (row_of run generation k))
    → (n : ℕ) (records : List LogRecord) → All (λ entry. Q (run_in entry)) records → All P (new_rows n records)
all_new_rows P Q each n [] all = All-nil P
all_new_rows P Q each n (Add run heap ∷ records) all =
    let here = All-head (λ entry. Q (run_in entry)) (Add run heap) records all in
    All-append P (undropped records (rows_of run (n + 1))) (new_rows (n + 1) records)
    (All-filter (λ row. not (is_dropped records row)) P (rows_of run (n + 1))
    (all_rows_below P run (n + 1) run.count (λ k within. each run (n + 1) k here (omega arith) within)))
    (all_new_rows P Q each (n + 1) records (All-tail (λ entry. Q (run_in entry)) (Add run heap) records all))
all_new_rows P Q each n (Drop run ∷ records) all =
    all_new_rows P Q each (n + 1) records (All-tail (λ entry. Q (run_in entry)) (Drop run) records all)

row_within : (run : Run) (generation k : ℕ) → IsMappableRun run → 0 < generation → k < run.count → IsWithin (row_of run generation k)
row_within run generation k mappable some within =
    let below : (k + 2) * run.page ≤ (run.count + 1) * run.page = mul-le-mul_right run.page (omega arith) in
    omega (arith, mappable.beyond, below)

pub new_within : (n : ℕ) (records : List LogRecord) → All (λ entry. IsMappableRun (run_in entry)) records → All IsWithin (new_rows n records)
new_within n records all = all_new_rows IsWithin IsMappableRun row_within n records all

-- the new rows may be mapped after those that stay
pub take_in_can : (rows now : List Row) (n start : ℕ) (records : List LogRecord) (held : List Held) (capacity memory calls room : ℕ)
    → CanTakeIn rows n records room memory calls → capacity ≡ room → start ≡ length (kept records rows)
    → now ≡ kept records rows ++ new_rows n records → held ≡ owned (kept records rows) → length now < 2 ^ 63
    → CanMapRows now start held capacity calls
take_in_can rows now n start records held capacity memory calls room can same is_start is_now is_held small =
    let stay = kept records rows in
    let front : take start now ≡ stay =
    ap (λ (k : ℕ). take k now) is_start ∙ (ap (take (length stay)) is_now ∙ take-append_seam stay (new_rows n records)) in
    let back : drop start now ≡ new_rows n records =
    ap (λ (k : ℕ). drop k now) is_start ∙ (ap (drop (length stay)) is_now ∙ drop-append_seam stay (new_rows n records)) in
    let long : length now ≡ length stay + length (new_rows n records) = ap length is_now ∙ length-append stay (new_rows n records) in
    record {
      within = omega (arith, long);
      holds = is_held ∙ ap owned (sym front);
      apart = subst AreApart (sym is_now) can.apart;
      room = omega (arith, long, can.room, same);
      few = omega (arith, small, can.calls_fit);
      near = subst (All IsWithin) (sym back) (new_within n records can.mappable);
    }
