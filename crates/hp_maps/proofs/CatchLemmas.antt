-- Catching up, by what contracts see of a table.
use Rattle.std.proofs.Common.{◌≡◌, ◌≤◌, ◌<◌, ◌^◌, ℕ, zero, suc, ◌+◌, ◌-◌, Bool, true, false, not, ◌&&◌, List, [], ◌∷◌, ◌++◌, length, take, drop, refl, ap, ◌∙◌, sym, subst, arith, inl, inr, length-append, length-take, count_by}
use Rattle.std.specs.List.{All}
use Rattle.std.proofs.lemmas.Bool.{cases_Bool, lt-ltb}
use Rattle.std.proofs.lemmas.List.Elements.{All-append, All-drop, All-filter, All-take, All-weaker, filter-append}
use Rattle.hp_base.specs.Mapping.{AreApart, IsWithin, has_addr, is_done}
use Rattle.hp_base.specs.declared.caught.Caught.{Caught}
use Rattle.hp_base.specs.declared.caught.Caught.TheVariants as caught
use Rattle.hp_base.specs.declared.row.Row.{Row}
use Rattle.hp_log.specs.Log.{run_in, table_at}
use Rattle.hp_log.specs.declared.log_record.LogRecord.{LogRecord}
use Rattle.hp_log.specs.declared.log_record.LogRecord.TheVariants.{Add, Drop}
use Rattle.hp_log.proofs.Counts.{count_append, count_filter, count_split}
use Rattle.hp_maps.specs.Catching.{CanCatchUp, IsMappableRun, Lags, goes, is_dropped, kept, new_rows, newer, number_after, rows_after, undropped}
use Rattle.hp_maps.specs.MapsView.{MapsView, calls_of, chunk_rows, is_of_log, table_in}
use Rattle.hp_maps.specs.RowsView.{HaveOwnSlots}
use Rattle.hp_maps.specs.Unmapping.{CanTakeIn, has_drop}
use Rattle.hp_maps.proofs.ApartLemmas.{apart_both, apart_filter}
use Rattle.hp_maps.proofs.ListFacts.{filter_agree, filter_drops, filter_keeps, filter_twice}
use Rattle.hp_maps.proofs.TableLaw.{table_law, undropped_lag, undropped_none}
use Rattle.hp_maps.proofs.TakeLemmas.{all_new_rows, new_within}

every : {X : Type 0} (P : X → Type 0) → ((x : X) → P x) → (xs : List X) → All P xs
every P each xs = λ k d within. each _

append_nothing : {X : Type 0} (l : List X) → l ++ [] ≡ l
append_nothing [] = refl
append_nothing (x ∷ l) = ap (λ rest. x ∷ rest) (append_nothing l)

of_log_kept : (a b : Bool) → (not (a && b) && a) ≡ (a && not b)
of_log_kept true true = refl
of_log_kept true false = refl
of_log_kept false b = refl

of_chunk_kept : (a b : Bool) → (not (a && b) && not a) ≡ not a
of_chunk_kept true true = refl
of_chunk_kept true false = refl
of_chunk_kept false b = refl

-- of the log's rows those stay that no record drops
pub table_kept : (records : List LogRecord) (rows : List Row) → table_in (kept records rows) ≡ undropped records (table_in rows)
table_kept records rows =
    filter_twice is_of_log (λ row. not (goes records row)) rows
    ∙ (filter_agree _ (λ row. is_of_log row && not (is_dropped records row)) rows
    (every _ (λ row. of_log_kept (is_of_log row) (is_dropped records row)) rows)
    ∙ sym (filter_twice (λ row. not (is_dropped records row)) is_of_log rows))

-- the rows of chunks stay
pub chunks_kept : (records : List LogRecord) (rows : List Row) → chunk_rows (kept records rows) ≡ chunk_rows rows
chunks_kept records rows =
    filter_twice (λ row. not (is_of_log row)) (λ row. not (goes records row)) rows
    ∙ filter_agree _ (λ row. not (is_of_log row)) rows
    (every _ (λ row. of_chunk_kept (is_of_log row) (is_dropped records row)) rows)

-- records that are no Drop leave all rows
pub none_dropped : (records : List LogRecord) (row : Row) → has_drop records ≡ false → is_dropped records row ≡ false
none_dropped [] row none = refl
none_dropped (Add run heap ∷ records) row none = none_dropped records row none
none_dropped (Drop run ∷ records) row none = cc

-- nor do those after some of them
pub none_behind : (k : ℕ) (records : List LogRecord) → has_drop records ≡ false → has_drop (drop k records) ≡ false
none_behind zero records none = none
none_behind (suc k) [] none = refl
none_behind (suc k) (Add run heap ∷ records) none = none_behind k records none
none_behind (suc k) (Drop run ∷ records) none = cc

-- nor do the first of them
pub none_before : (k : ℕ) (records : List LogRecord) → has_drop records ≡ false → has_drop (take k records) ≡ false
none_before zero records none = refl
none_before (suc k) [] none = refl
none_before (suc k) (Add run heap ∷ records) none = none_before k records none
none_before (suc k) (Drop run ∷ records) none = cc

pub none_undropped : (rows : List Row) → undropped [] rows ≡ rows
none_undropped rows = filter_keeps (λ row. not (is_dropped [] row)) rows (every (λ row. not (is_dropped [] row) ≡ true) (λ row. refl) rows)

pub all_undropped : (later : List LogRecord) (rows : List Row) → has_drop later ≡ false → undropped [] rows ≡ undropped later rows
all_undropped later rows none =
    filter_agree (λ row. not (is_dropped [] row)) (λ row. not (is_dropped later row)) rows
    (every _ (λ row. ap not (sym (none_dropped later row none))) rows)

pub all_kept : (records : List LogRecord) (rows : List Row) → has_drop records ≡ false → kept records rows ≡ rows
all_kept records rows none =
    filter_keeps (λ row. not (goes records row)) rows
    (every _ (λ row. ap not (ap (λ b. is_of_log row && b) (none_dropped records row none) ∙ never (is_of_log row))) rows)
  where
    never : (b : Bool) → (b && false) ≡ false
    never true = refl
    never false = refl

-- what records bring is of the log
new_of_log : (n : ℕ) (records : List LogRecord) → All (λ row. is_of_log row ≡ true) (new_rows n records)
new_of_log n records =
    all_new_rows (λ row. is_of_log row ≡ true) (λ run. Unit {0}) (λ run generation k unit some within. lt-ltb 0 generation some) n records
    (λ k d within. tt)

pub table_new : (n : ℕ) (records : List LogRecord) → table_in (new_rows n records) ≡ new_rows n records
table_new n records = filter_keeps is_of_log (new_rows n records) (new_of_log n records)

pub chunks_new : (n : ℕ) (records : List LogRecord) → chunk_rows (new_rows n records) ≡ []
chunks_new n records =
    filter_drops (λ row. not (is_of_log row)) (new_rows n records)
    (All-weaker (λ row. is_of_log row ≡ true) (λ row. not (is_of_log row) ≡ false) (λ row of. ap not of) (new_rows n records) (new_of_log n records))

-- rows are those of the log and those of chunks
pub count_parts : (p : Row → Bool) (rows : List Row) → count_by p rows ≡ count_by p (table_in rows) + count_by p (chunk_rows rows)
count_parts p rows = omega (arith, count_split p is_of_log rows, count_filter p (λ row. not (is_of_log row)) rows)

pub length_parts : (rows : List Row) → length rows ≡ length (table_in rows) + length (chunk_rows rows)
length_parts [] = refl
length_parts (row ∷ rows) =
    elim (cases_Bool (is_of_log row)) [
      | inl of ↦ rw of (omega (arith, length_parts rows))
      | inr other ↦ rw other (omega (arith, length_parts rows))
    ]

-- what is left of the table is what is left of the table of the log
lag_kept : (maps : MapsView) (records : List LogRecord) (to : ℕ) → Lags records maps.number to (table_in maps.rows)
    → table_in (kept (newer records maps.number to) maps.rows) ≡ undropped (newer records maps.number to) (table_at records maps.number)
lag_kept maps records to lags =
    table_kept (newer records maps.number to) maps.rows
    ∙ (ap (undropped (newer records maps.number to)) lags.left
    ∙ undropped_lag records maps.number lags.reached to (table_at records maps.number) lags.from lags.up_to)

-- with the new rows it is the table at the end
pub lag_caught : (maps : MapsView) (records : List LogRecord) (to : ℕ) → maps.number ≤ to → to ≤ length records
    → Lags records maps.number to (table_in maps.rows)
    → table_at records to ≡ table_in (kept (newer records maps.number to) maps.rows) ++ new_rows maps.number (newer records maps.number to)
lag_caught maps records to from within lags =
    table_law records maps.number to from within
    ∙ ap (λ l. l ++ new_rows maps.number (newer records maps.number to)) (sym (lag_kept maps records to lags))

pub kept_table : (maps : MapsView) (records : List LogRecord) (to : ℕ) → CanCatchUp maps records to
    → table_in (kept (newer records maps.number to) maps.rows) ≡ undropped (newer records maps.number to) (table_at records maps.number)
kept_table maps records to can = lag_kept maps records to can.lags

pub caught_table : (maps : MapsView) (records : List LogRecord) (to : ℕ) → CanCatchUp maps records to
    → table_at records to ≡ table_in (kept (newer records maps.number to) maps.rows) ++ new_rows maps.number (newer records maps.number to)
caught_table maps records to can = lag_caught maps records to can.from can.within can.lags

-- where the table at the end and the rows of chunks have addresses of their own, so have what stays and what comes
pub kept_apart : (maps : MapsView) (records : List LogRecord) (to : ℕ) → maps.number ≤ to → to ≤ length records
    → Lags records maps.number to (table_in maps.rows) → AreApart (chunk_rows maps.rows ++ table_at records to)
    → AreApart (kept (newer records maps.number to) maps.rows ++ new_rows maps.number (newer records maps.number to))
kept_apart maps records to from within lags apart addr =
    let stay = kept (newer records maps.number to) maps.rows in
    let fresh = new_rows maps.number (newer records maps.number to) in
    let p = has_addr addr in
    let once = apart addr in
    omega (
      arith,
      once,
      count_append p (chunk_rows maps.rows) (table_at records to),
      count_append p stay fresh,
      count_parts p stay,
      ap (count_by p) (chunks_kept (newer records maps.number to) maps.rows),
      ap (count_by p) (lag_caught maps records to from within lags),
      count_append p (table_in stay) fresh,
    )

pub room_kept : (maps : MapsView) (records : List LogRecord) (to : ℕ) → CanCatchUp maps records to
    → length (kept (newer records maps.number to) maps.rows) + length (new_rows maps.number (newer records maps.number to)) ≤ maps.capacity
room_kept maps records to can =
    let stay = kept (newer records maps.number to) maps.rows in
    let fresh = new_rows maps.number (newer records maps.number to) in
    omega (
      arith,
      can.room,
      length_parts stay,
      ap length (chunks_kept (newer records maps.number to) maps.rows),
      ap length (caught_table maps records to can),
      length-append (table_in stay) fresh,
    )

-- what stays and what comes have addresses of their own
apart_kept : (maps : MapsView) (records : List LogRecord) (to : ℕ) → CanCatchUp maps records to → AreApart maps.rows
    → AreApart (kept (newer records maps.number to) maps.rows ++ new_rows maps.number (newer records maps.number to))
apart_kept maps records to can apart =
    apart_both (kept (newer records maps.number to) maps.rows) (new_rows maps.number (newer records maps.number to))
    (apart_filter (λ row. not (goes (newer records maps.number to) row)) maps.rows apart) can.apart can.clear

pub apart_after : (maps : MapsView) (records : List LogRecord) (to : ℕ) (caught : Caught) (rows : List Row) → CanCatchUp maps records to
    → AreApart maps.rows
    → rows ≡ rows_after (kept (newer records maps.number to) maps.rows) (new_rows maps.number (newer records maps.number to)) caught
    → AreApart rows
apart_after maps records to caught.Done rows can apart is_rows = subst AreApart (sym is_rows) (apart_kept maps records to can apart)
apart_after maps records to (caught.Refused row call) rows can apart is_rows =
    subst AreApart (sym is_rows) (apart_filter (λ row. not (goes (newer records maps.number to) row)) maps.rows apart)
apart_after maps records to (caught.Elsewhere row call got) rows can apart is_rows =
    subst AreApart (sym is_rows) (apart_filter (λ row. not (goes (newer records maps.number to) row)) maps.rows apart)

-- the newer records may be taken in
pub can_take_in : (maps : MapsView) (records : List LogRecord) (to room memory calls : ℕ) → CanCatchUp maps records to → AreApart maps.rows
    → to < 2 ^ 64
    → maps.capacity ≤ room → maps.capacity ≤ memory → calls ≡ calls_of maps → HaveOwnSlots maps.rows
    → CanTakeIn maps.rows maps.number (newer records maps.number to) room memory calls
can_take_in maps records to room memory calls can apart fits in_mapper in_memory counted once =
    let kept_room = room_kept maps records to can in
    record {
      mappable = All-take (λ entry. IsMappableRun (run_in entry)) (to - maps.number) (drop maps.number records)
          (All-drop (λ entry. IsMappableRun (run_in entry)) maps.number records can.mappable);
      few = omega (arith, can.from, fits, length-take (to - maps.number) (drop maps.number records));
      once = once;
      apart = apart_kept maps records to can apart;
      room = omega (arith, kept_room, in_mapper);
      memory_room = omega (arith, kept_room, in_memory);
      calls_fit = omega (arith, counted, can.calls);
    }

-- how many rows there are at the end
pub room_after : (maps : MapsView) (records : List LogRecord) (to : ℕ) (caught : Caught) (rows : List Row) → CanCatchUp maps records to
    → rows ≡ rows_after (kept (newer records maps.number to) maps.rows) (new_rows maps.number (newer records maps.number to)) caught
    → length rows ≤ maps.capacity
room_after maps records to caught.Done rows can is_rows =
    omega (
      arith,
      room_kept maps records to can,
      ap length is_rows,
      length-append (kept (newer records maps.number to) maps.rows) (new_rows maps.number (newer records maps.number to)),
    )
room_after maps records to (caught.Refused row call) rows can is_rows = omega (arith, room_kept maps records to can, ap length is_rows)
room_after maps records to (caught.Elsewhere row call got) rows can is_rows = omega (arith, room_kept maps records to can, ap length is_rows)

-- where all is mapped, the table is that of the log
pub table_after_catching : (maps : MapsView) (records : List LogRecord) (to : ℕ) (caught : Caught) (rows : List Row) → CanCatchUp maps records to
    → rows ≡ rows_after (kept (newer records maps.number to) maps.rows) (new_rows maps.number (newer records maps.number to)) caught
    → is_done caught ≡ true → table_in rows ≡ table_at records to
table_after_catching maps records to caught.Done rows can is_rows done =
    let stay = kept (newer records maps.number to) maps.rows in
    let fresh = new_rows maps.number (newer records maps.number to) in
    ap table_in is_rows
    ∙ (filter-append is_of_log stay fresh
    ∙ (ap (λ l. table_in stay ++ l) (table_new maps.number (newer records maps.number to)) ∙ sym (caught_table maps records to can)))
table_after_catching maps records to (caught.Refused row call) rows can is_rows done = cc
table_after_catching maps records to (caught.Elsewhere row call got) rows can is_rows done = cc

-- the rows of chunks are as before
pub chunks_after : (maps : MapsView) (records : List LogRecord) (to : ℕ) (caught : Caught) (rows : List Row) → CanCatchUp maps records to
    → rows ≡ rows_after (kept (newer records maps.number to) maps.rows) (new_rows maps.number (newer records maps.number to)) caught
    → chunk_rows rows ≡ chunk_rows maps.rows
chunks_after maps records to caught.Done rows can is_rows =
    let stay = kept (newer records maps.number to) maps.rows in
    let fresh = new_rows maps.number (newer records maps.number to) in
    ap chunk_rows is_rows
    ∙ (filter-append (λ row. not (is_of_log row)) stay fresh
    ∙ (ap (λ l. chunk_rows stay ++ l) (chunks_new maps.number (newer records maps.number to))
    ∙ (append_nothing (chunk_rows stay) ∙ chunks_kept (newer records maps.number to) maps.rows)))
chunks_after maps records to (caught.Refused row call) rows can is_rows = ap chunk_rows is_rows ∙ chunks_kept (newer records maps.number to) maps.rows
chunks_after maps records to (caught.Elsewhere row call got) rows can is_rows =
    ap chunk_rows is_rows ∙ chunks_kept (newer records maps.number to) maps.rows

newer_none : (records : List LogRecord) (n : ℕ) → newer records n n ≡ []
newer_none records n =
    let none : n - n ≡ 0 = omega arith in
    ap (λ (k : ℕ). take k (drop n records)) none

-- it lags by what it has seen
lag_behind : (maps : MapsView) (records : List LogRecord) (to : ℕ) (rows : List Row) → CanCatchUp maps records to
    → rows ≡ kept (newer records maps.number to) maps.rows → Lags records maps.number to (table_in rows)
lag_behind maps records to rows can is_rows = record {
  reached = to;
  from = can.from;
  up_to = omega arith;
  left = ap table_in is_rows ∙ kept_table maps records to can;
}

pub lags_after : (maps : MapsView) (records : List LogRecord) (to number : ℕ) (caught : Caught) (rows : List Row) → CanCatchUp maps records to
    → rows ≡ rows_after (kept (newer records maps.number to) maps.rows) (new_rows maps.number (newer records maps.number to)) caught
    → number ≡ number_after maps.number to caught → Lags records number to (table_in rows)
lags_after maps records to number caught.Done rows can is_rows is_number =
    subst (λ (k : ℕ). Lags records k to (table_in rows)) (sym is_number) (record {
      reached = to;
      from = omega arith;
      up_to = omega arith;
      left = table_after_catching maps records to caught.Done rows can is_rows refl
          ∙ (sym (undropped_none (table_at records to)) ∙ ap (λ (l : List LogRecord). undropped l (table_at records to)) (sym (newer_none records to)));
    })
lags_after maps records to number (caught.Refused row call) rows can is_rows is_number =
    subst (λ (k : ℕ). Lags records k to (table_in rows)) (sym is_number) (lag_behind maps records to rows can is_rows)
lags_after maps records to number (caught.Elsewhere row call got) rows can is_rows is_number =
    subst (λ (k : ℕ). Lags records k to (table_in rows)) (sym is_number) (lag_behind maps records to rows can is_rows)

-- all rows could come out one page further on
pub near_after : (maps : MapsView) (records : List LogRecord) (to : ℕ) (caught : Caught) (rows : List Row) → CanCatchUp maps records to
    → All IsWithin maps.rows
    → rows ≡ rows_after (kept (newer records maps.number to) maps.rows) (new_rows maps.number (newer records maps.number to)) caught
    → All IsWithin rows
near_after maps records to caught.Done rows can near is_rows =
    subst (All IsWithin) (sym is_rows)
    (All-append IsWithin (kept (newer records maps.number to) maps.rows) (new_rows maps.number (newer records maps.number to))
    (All-filter (λ row. not (goes (newer records maps.number to) row)) IsWithin maps.rows near)
    (new_within maps.number (newer records maps.number to)
    (All-take (λ entry. IsMappableRun (run_in entry)) (to - maps.number) (drop maps.number records)
    (All-drop (λ entry. IsMappableRun (run_in entry)) maps.number records can.mappable))))
near_after maps records to (caught.Refused row call) rows can near is_rows =
    subst (All IsWithin) (sym is_rows) (All-filter (λ row. not (goes (newer records maps.number to) row)) IsWithin maps.rows near)
near_after maps records to (caught.Elsewhere row call got) rows can near is_rows =
    subst (All IsWithin) (sym is_rows) (All-filter (λ row. not (goes (newer records maps.number to) row)) IsWithin maps.rows near)
