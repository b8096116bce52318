-- What is known of a table stays known as it catches up, attaches the chunk, detaches it and leaves.
use Rattle.std.proofs.Common.{◌≡◌, ◌≤◌, ◌<◌, ◌⊎◌, ◌^◌, ℕ, ◌+◌, ◌==◌, Bool, true, false, not, ◌&&◌, List, [], ◌∷◌, nat_lt, length, get_or, Option, refl, ap, ◌∙◌, sym, subst, arith, inl, inr, append-nil}
use Rattle.std.specs.List.{list_any}
use Rattle.std.proofs.lemmas.List.Elements.{All-cons, All-nil, All-weaker}
use Rattle.std.proofs.lemmas.List.Sums.{length-filter}
use Rattle.std.proofs.lemmas.Bool.{cases_Bool, eqb-true}
use Rattle.std.proofs.lemmas.Bool.Decides.{nat_tests}
use Rattle.hp_base.specs.Mapping.{FailingCall}
use Rattle.hp_base.specs.declared.caught.Caught.{Caught}
use Rattle.hp_base.specs.declared.caught.Caught.TheVariants as caught
use Rattle.hp_base.specs.declared.chunk.Chunk.{Chunk}
use Rattle.hp_base.specs.declared.row.Row.{Row}
use Rattle.hp_log.specs.Places.{IsLogOf, IsOutside, ListPlace, place_end, slots_in}
use Rattle.hp_log.specs.declared.log_record.LogRecord.{LogRecord}
use Rattle.hp_log.proofs.Counts.{count_split}
use Rattle.hp_maps.specs.Catching.{Lags, number_after, rows_after}
use Rattle.hp_maps.specs.Chunks.{CanAttach, is_of_chunk, rows_beside, rows_of_chunk}
use Rattle.hp_maps.specs.MapsView.{MapsView, calls_of, chunk_rows, is_of_log, table_in}
use Rattle.hp_maps.specs.Ready.{AreBeside, AttachedBeside, DetachedBeside, IsClear, IsReady}
use Rattle.hp_maps.proofs.ReadyLemmas.{new_is_ready, ready_to_attach, stays_ready}
use Rattle.test_maps.proofs.Filters.{any_none, filter_agree, filter_drops, filter_twice}
use Rattle.test_maps.specs.Known.{IsKnown, StaysKnown, worked_chunk, worked_lists, worked_place}

-- a new table is known
pub known_new : (maps : MapsView) (faults : ℕ) (may_fail : Option (List FailingCall)) (records : List LogRecord)
    → maps ≡ record { rows = []; number = 0; capacity = 4; answers = []; faults = faults; may_fail = may_fail; held = [] }
    → IsLogOf worked_lists records → IsKnown maps records 0
known_new maps faults may_fail records made log =
    subst (λ maps. IsKnown maps records 0) (sym made)
    (record {
      capacity = refl;
      ready = λ calls. new_is_ready worked_lists 4 faults may_fail records 0 log (omega arith) (omega arith);
    })

-- what is ready for some records is ready for more of them
pub ready_for_more : (maps : MapsView) (records : List LogRecord) (reached to : ℕ) → IsReady worked_lists maps records reached → reached ≤ to
    → to ≤ length records → IsReady worked_lists maps records to
ready_for_more maps records reached to ready beyond within =
    let lags = ready.lags in
    let from = ready.from in
    let up_to = lags.up_to in
    record {
      from = omega (arith, from, beyond);
      within = within;
      log = ready.log;
      lags = record { reached = lags.reached; from = lags.from; up_to = omega (arith, up_to, beyond); left = lags.left };
      chunks = ready.chunks;
      room = ready.room;
      calls = ready.calls;
    }

-- and after a catch-up, however it ended
pub ready_again : (lists : List ListPlace) (old new : MapsView) (records : List LogRecord) (to : ℕ) (ended : Caught)
    → IsReady lists old records to → new.number ≡ number_after old.number to ended → new.capacity ≡ old.capacity
    → Lags records new.number to (table_in new.rows) → chunk_rows new.rows ≡ chunk_rows old.rows → calls_of new ≤ 2 ^ 63
    → IsReady lists new records to
ready_again lists old new records to ended ready number capacity lags chunks calls =
    let within = ready.within in
    let same = append-nil records in
    subst (λ records. IsReady lists new records to) same
    (stays_ready lists old new records [] to to ended ready number capacity lags chunks calls (subst (IsLogOf lists) (sym same) ready.log)
    (omega arith) (subst (λ records. to ≤ length records) (sym same) within))

-- a table that is as before but for its rows, which are the same of the log
as_before : (old new : MapsView) (records : List LogRecord) (to : ℕ) → IsReady worked_lists old records to → new.number ≡ old.number
    → table_in new.rows ≡ table_in old.rows → AreBeside worked_lists (chunk_rows new.rows)
    → length (chunk_rows new.rows) + slots_in worked_lists ≤ new.capacity → calls_of new ≤ 2 ^ 63 → IsReady worked_lists new records to
as_before old new records to ready number table beside room calls =
    let from = ready.from in
    record {
      from = omega (arith, from, number);
      within = ready.within;
      log = ready.log;
      lags =
          subst (λ rows. Lags records new.number to rows) (sym table)
          (subst (λ n. Lags records n to (table_in old.rows)) (sym number) ready.lags);
      chunks = beside;
      room = room;
      calls = calls;
    }

beside_nothing : AreBeside worked_lists []
beside_nothing = record { outside = All-nil (λ row. IsOutside worked_lists row.addr); apart = λ addr. omega arith }

-- the chunk is clear where no other is attached
clear_chunk : IsClear worked_lists [] worked_chunk
unfolding lib.Count.ones
clear_chunk = record {
  memory = record {
    power = refl;
    least = omega arith;
    greatest = omega arith;
    aligned = refl;
    whole = refl;
    some = omega arith;
    end = omega arith;
  };
  outside = λ addr above below.
      All-cons (λ place. (addr < place.base) ⊎ (place_end place ≤ addr)) worked_place [] (inr (omega (arith, above)))
      (All-nil (λ place. (addr < place.base) ⊎ (place_end place ≤ addr)));
  others = All-nil (λ row. (row.addr < worked_chunk.addr) ⊎ (worked_chunk.addr + worked_chunk.len ≤ row.addr));
}

-- so it may be attached to a table without a row
pub may_attach : (maps : MapsView) (records : List LogRecord) (to : ℕ) → IsReady worked_lists maps records to → maps.rows ≡ [] → maps.capacity ≡ 4
    → CanAttach maps worked_chunk
may_attach maps records to ready none capacity =
    let nothing : chunk_rows maps.rows ≡ [] = ap chunk_rows none in
    ready_to_attach worked_lists maps records to worked_chunk ready
    (subst (λ rows. IsClear worked_lists rows worked_chunk) (sym nothing) clear_chunk) (omega arith) (omega (arith, ap length nothing, capacity))

-- what its rows are then
record AreAttached (rows : List Row) : Type 0 where
  table : table_in rows ≡ []
  beside : AreBeside worked_lists (chunk_rows rows)
  few : length (chunk_rows rows) ≤ 2

none_attached : AreAttached []
none_attached = record { table = refl; beside = beside_nothing; few = omega arith }

attached_rows : AttachedBeside → (ended : Caught) → AreAttached (rows_after [] (rows_of_chunk worked_chunk) ended)
attached_rows beside caught.Done = record { table = refl; beside = beside worked_lists [] worked_chunk beside_nothing clear_chunk; few = omega arith }
attached_rows beside (caught.Refused row call) = none_attached
attached_rows beside (caught.Elsewhere row call got) = none_attached

pub empty_rows : (rows : List Row) → length rows ≡ 0 → rows ≡ []
empty_rows [] none = refl
empty_rows (row ∷ rows) none = absurd (omega (arith, none))

pub known_attached : AttachedBeside → (old new : MapsView) (ended : Caught) → old.rows ≡ [] → calls_of old ≤ 2 ^ 63
    → new.rows ≡ rows_after old.rows (rows_of_chunk worked_chunk) ended → new.number ≡ old.number → new.capacity ≡ old.capacity → StaysKnown old new
known_attached beside old new ended none few rows number capacity records reached known =
    let room = known.capacity in
    let shape : AreAttached new.rows =
    subst AreAttached (sym (rows ∙ ap (λ l. rows_after l (rows_of_chunk worked_chunk) ended) none)) (attached_rows beside ended) in
    let most = shape.few in
    record {
      capacity = capacity ∙ room;
      ready = λ calls.
          as_before old new records reached (known.ready few) number (shape.table ∙ sym (ap table_in none)) shape.beside
          (omega (arith, most, room, capacity)) calls;
    }

-- a row of the log is none of a chunk's
log_stays : (chunk : Chunk) (row : Row) → (not (is_of_chunk chunk row) && is_of_log row) ≡ is_of_log row
log_stays chunk row = by_generation row.generation (row.list == chunk.list)
  where
    at_zero : (here : Bool) → (not ((0 == 0) && here) && nat_lt 0 0) ≡ nat_lt 0 0
    at_zero true = refl
    at_zero false = refl

    by_generation : (generation : ℕ) (here : Bool) → (not ((generation == 0) && here) && nat_lt 0 generation) ≡ nat_lt 0 generation
    by_generation generation here =
        elim (cases_Bool (generation == 0)) [
          | inl is ↦
              subst (λ g. (not ((g == 0) && here) && nat_lt 0 g) ≡ nat_lt 0 g) (sym (eqb-true generation 0 is)) (at_zero here)
          | inr other ↦ ap (λ b. not (b && here) && nat_lt 0 generation) other
        ]

table_beside : (chunk : Chunk) (rows : List Row) → table_in (rows_beside chunk rows) ≡ table_in rows
table_beside chunk rows =
    filter_twice is_of_log (λ row. not (is_of_chunk chunk row)) rows
    ∙ filter_agree (λ row. not (is_of_chunk chunk row) && is_of_log row) is_of_log rows
    (λ k d within. log_stays chunk (get_or rows k d))

fewer_beside : (chunk : Chunk) (rows : List Row) → length (chunk_rows (rows_beside chunk rows)) ≤ length (chunk_rows rows)
fewer_beside chunk rows =
    omega (
      arith,
      length-filter (λ row. not (is_of_log row)) (rows_beside chunk rows),
      length-filter (λ row. not (is_of_log row)) rows,
      count_split (λ row. not (is_of_log row)) (λ row. not (is_of_chunk chunk row)) rows,
    )

pub known_detached : DetachedBeside → (old new : MapsView) → new.rows ≡ rows_beside worked_chunk old.rows → new.number ≡ old.number
    → new.capacity ≡ old.capacity → new.answers ≡ old.answers → StaysKnown old new
known_detached beside old new rows number capacity answers records reached known =
    record {
      capacity = capacity ∙ known.capacity;
      ready = λ calls.
          let ready = known.ready (subst (λ l. length l ≤ 2 ^ 63) answers calls) in
          let room = ready.room in
          as_before old new records reached ready number (ap table_in rows ∙ table_beside worked_chunk old.rows)
          (subst (λ l. AreBeside worked_lists (chunk_rows l)) (sym rows) (beside worked_lists old.rows worked_chunk ready.chunks))
          (omega (arith, room, capacity, ap (λ l. length (chunk_rows l)) rows, fewer_beside worked_chunk old.rows)) calls;
    }

-- where no row has generation 0 none is a chunk's
chunk_has : (row : Row) → (row.generation == 0) ≡ false → not (is_of_log row) ≡ false
chunk_has row = by_generation row.generation
  where
    by_generation : (generation : ℕ) → (generation == 0) ≡ false → not (nat_lt 0 generation) ≡ false
    by_generation generation other =
        elim (cases_Bool (nat_lt 0 generation)) [
          | inl is ↦ ap not is
          | inr none ↦ grind (arith, nat_tests)
        ]

pub no_chunk : (rows : List Row) → list_any (λ row. row.generation == 0) rows ≡ false → chunk_rows rows ≡ []
no_chunk rows none =
    filter_drops (λ row. not (is_of_log row)) rows
    (All-weaker (λ row. (row.generation == 0) ≡ false) (λ row. not (is_of_log row) ≡ false) chunk_has rows
    (any_none (λ row. row.generation == 0) rows none))

pub known_left : (old new : MapsView) → new.rows ≡ [] → new.number ≡ 0 → new.capacity ≡ old.capacity → new.answers ≡ old.answers
    → StaysKnown old new
known_left old new rows number capacity answers records reached known =
    record {
      capacity = capacity ∙ known.capacity;
      ready = λ calls.
          let ready = known.ready (subst (λ l. length l ≤ 2 ^ 63) answers calls) in
          let room = known.capacity in
          record {
            from = omega (arith, number);
            within = ready.within;
            log = ready.log;
            lags =
                subst (λ n. Lags records n reached (table_in new.rows)) (sym number)
                (subst (λ l. Lags records 0 reached (table_in l)) (sym rows)
                (record { reached = 0; from = omega arith; up_to = omega arith; left = refl }));
            chunks = subst (λ l. AreBeside worked_lists (chunk_rows l)) (sym rows) beside_nothing;
            room = omega (arith, room, capacity, ap (λ l. length (chunk_rows l)) rows);
            calls = calls;
          };
    }
