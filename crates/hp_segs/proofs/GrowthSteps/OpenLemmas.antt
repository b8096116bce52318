-- A growth that opens keeps the value sound.
use Rattle.std.proofs.Common.{◌≡◌, ◌==◌, ℕ, ◌+◌, ◌-◌, ◌<◌, ◌≤◌, Bool, true, false, ◌||◌, cond, List, [], ◌∷◌, ◌++◌, length, get_or, Some, refl, ap, ◌∙◌, arith, count_by}
use Rattle.std.specs.List.{All, slice_get}
use Rattle.std.proofs.lemmas.Bool.{eq-eqb, and_parts, eqb-true, leb-true, ltb-true, false_from_ne_true, and_from}
use Rattle.std.proofs.lemmas.List.Elements.{All-cons, All-weaker}
use Rattle.std.proofs.lemmas.List.Folds.{list_any_at, list_any_none}
use Rattle.hp_base.specs.declared.row.Row.{Row}
use Rattle.hp_base.specs.declared.row.Run.{Run}
use Rattle.hp_log.specs.Rows.{rows_of, rows_at, at_slot, in_run, IsUnusedRun, IsUsedRun}
use Rattle.hp_segs.specs.SoundRows.{AreHeld, has_slot, in_runs}
use Rattle.hp_segs.specs.Table.{IsListRun}
use Rattle.hp_segs.specs.declared.list_info.ListInfo.{ListInfo}
use Rattle.hp_log.specs.declared.log_record.LogRecord.{LogRecord}
use Rattle.hp_log.proofs.Counts.{count_append, count_cons, count_none, any_counts}
use Rattle.hp_segs.proofs.SlotFacts.ListFacts.{get_pushed}
use Rattle.hp_log.proofs.RowLemmas.{run_slot_once, place_in_run}

-- a row of a table is counted at its slot
pub counted_at : (rows : List Row) (k : ℕ) (d : Row) (list slot : ℕ) → k < length rows → at_slot list slot (get_or rows k d) ≡ true
    → 1 ≤ rows_at rows list slot
counted_at rows k d list slot within at =
    any_counts (at_slot list slot) rows (list_any_at (at_slot list slot) rows k d within at)

-- a row in a run is at one of its slots
pub at_its_slot : (run : Run) (row : Row) (inside : in_run run row ≡ true)
    → at_slot run.list (run.first + (place_in_run run row inside).place) row ≡ true
at_its_slot run row inside =
    let at = place_in_run run row inside in
    and_from (row.list == run.list) (row.slot == run.first + at.place) (eq-eqb row.list run.list at.its_list) (eq-eqb row.slot (run.first + at.place) at.its_slot)

-- no row is in an unused run
pub none_in_unused : (rows : List Row) (run : Run) → IsUnusedRun rows run → All (λ row. in_run run row ≡ false) rows
none_in_unused rows run unused k d within =
    false_from_ne_true (in_run run (get_or rows k d)) (λ inside.
    let at = place_in_run run (get_or rows k d) inside in
    omega (arith, counted_at rows k d run.list (run.first + at.place) within (at_its_slot run (get_or rows k d) inside), unused.unused at.place at.within))

-- the place of a slot in a run
pub slot_place : (list slot : ℕ) (run : Run) → has_slot list slot run ≡ true
    → (n : ℕ) × (n < run.count) × (list ≡ run.list) × (slot ≡ run.first + n)
slot_place list slot run has =
    let parts = and_parts (list == run.list) _ has in
    let ends = and_parts _ _ parts.1 in
    let low : run.first ≤ slot = leb-true run.first slot ends.0 in
    let high : slot < run.first + run.count = ltb-true slot (run.first + run.count) ends.1 in
    (slot - run.first, omega arith, eqb-true list run.list parts.0, omega arith)

-- a used run's slot has a row
pub used_slot : (rows : List Row) (run : Run) (list slot : ℕ) → IsUsedRun rows run → has_slot list slot run ≡ true → rows_at rows list slot ≡ 1
used_slot rows run list slot used has =
    let at = slot_place list slot run has in
    ap (λ l. rows_at rows l slot) at.2 ∙ (ap (λ s. rows_at rows run.list s) at.3 ∙ used.used at.0 at.1)

pub unused_slot : (rows : List Row) (run : Run) (list slot : ℕ) → IsUnusedRun rows run → has_slot list slot run ≡ true → rows_at rows list slot ≡ 0
unused_slot rows run list slot unused has =
    let at = slot_place list slot run has in
    ap (λ l. rows_at rows l slot) at.2 ∙ (ap (λ s. rows_at rows run.list s) at.3 ∙ unused.unused at.0 at.1)

-- used runs have none of an unused run's slots
pub none_has : (rows : List Row) (run : Run) (runs : List Run) (list slot : ℕ) → IsUnusedRun rows run → All (IsUsedRun rows) runs
    → has_slot list slot run ≡ true → All (λ other. has_slot list slot other ≡ false) runs
none_has rows run runs list slot unused used has k d within =
    false_from_ne_true (has_slot list slot (get_or runs k d)) (λ other.
    omega (arith, used_slot rows (get_or runs k d) list slot (used k d within) other, unused_slot rows run list slot unused has))

apart_by : (has : Bool) (rows : List Row) (run : Run) (runs : List Run) (list slot : ℕ) → has_slot list slot run ≡ has → IsUnusedRun rows run
    → All (IsUsedRun rows) runs → count_by (has_slot list slot) runs ≤ 1 → count_by (has_slot list slot) (run ∷ runs) ≤ 1
apart_by true rows run runs list slot has unused used apart =
    let none = count_none (has_slot list slot) runs (none_has rows run runs list slot unused used has) in
    let one : ◌≡◌ {A = ℕ} (cond (has_slot list slot run) 1 0) 1 = ap (λ b. cond b 1 0) has in
    omega (arith, none, one, count_cons (has_slot list slot) run runs)
apart_by false rows run runs list slot has unused used apart =
    let none : ◌≡◌ {A = ℕ} (cond (has_slot list slot run) 1 0) 0 = ap (λ b. cond b 1 0) has in
    omega (arith, apart, none, count_cons (has_slot list slot) run runs)

-- the runs that are held, with an unused run whose rows come
pub held_more : {lists : List ListInfo} {rows : List Row} {runs : List Run} (run : Run) (generation : ℕ) → AreHeld lists rows runs
    → IsListRun lists run → IsUnusedRun rows run → ((list slot : ℕ) → rows_at (rows ++ rows_of run generation) list slot ≤ 1)
    → AreHeld lists (rows ++ rows_of run generation) (run ∷ runs)
held_more {lists} {rows} {runs} run generation held listed unused once =
    let all : List Row = rows ++ rows_of run generation in
    record {
      listed = All-cons (IsListRun lists) run runs listed held.listed;
      used =
          All-cons (IsUsedRun all) run runs
          (record {
            used = λ n below.
                omega (
                  arith,
                  count_append (at_slot run.list (run.first + n)) rows (rows_of run generation),
                  unused.unused n below,
                  run_slot_once run generation run.count n below,
                );
          })
          (All-weaker
          (IsUsedRun rows)
          (IsUsedRun all)
          (λ other used. record {
            used = λ n below.
                omega (
                  arith,
                  count_append (at_slot other.list (other.first + n)) rows (rows_of run generation),
                  used.used n below,
                  once other.list (other.first + n),
                );
          })
          runs
          held.used);
      apart = λ list slot. apart_by (has_slot list slot run) rows run runs list slot refl unused held.used (held.apart list slot);
    }

-- no row of an unused run is in used runs
pub outside_runs : (rows : List Row) (run : Run) (runs : List Run) (row : Row) (list slot : ℕ) → IsUnusedRun rows run → All (IsUsedRun rows) runs
    → row.list ≡ list → row.slot ≡ slot → has_slot list slot run ≡ true → in_runs runs row ≡ false
outside_runs rows run runs row list slot unused used its_list its_slot has =
    list_any_none (λ other. in_run other row) runs
    (λ k d within.
    ap (λ l. has_slot l row.slot (get_or runs k d)) its_list
    ∙ (ap (λ s. has_slot list s (get_or runs k d)) its_slot ∙ none_has rows run runs list slot unused used has k d within))

-- a record after others
pub record_pushed : (log : List LogRecord) (entry : LogRecord) → slice_get (log ++ entry ∷ []) (length log + 1 - 1) ≡ Some entry
record_pushed log entry =
    let place : length log + 1 - 1 ≡ length log = omega arith in
    ap (slice_get (log ++ entry ∷ [])) place ∙ get_pushed log entry

pub or_true : (b c : Bool) → b ≡ true → (b || c) ≡ true
or_true b c is = ap (λ b. b || c) is

pub or_off : (b : Bool) → b ≡ false → (b || false) ≡ false
or_off b is = ap (λ b. b || false) is
