-- A participant's table stays tied to what the hall knows of it when the log grows, and what it knows of its table lets it catch up.
use Rattle.std.proofs.Common.{◌≡◌, ◌∙◌, ℕ, ◌+◌, ◌-◌, ◌<◌, ◌≤◌, ◌^◌, ◌||◌, Bool, Contains, not, true, false, List, [], ◌++◌, drop, take, length, length-append, refl, ap, sym, subst, arith}
use Rattle.hp_base.specs.Mapping.{AreApart, has_addr, is_done}
use Rattle.hp_base.specs.declared.caught.Caught.{Caught}
use Rattle.hp_base.specs.declared.caught.Caught.TheVariants.{Done, Refused, Elsewhere}
use Rattle.hp_base.specs.declared.chunk.Chunk.{Chunk}
use Rattle.hp_base.specs.declared.limits.TheConstants.{MAX_HEAPS}
use Rattle.hp_hall.specs.AgreedNames.{chunk_memory}
use Rattle.hp_hall.specs.Own.{Own}
use Rattle.hp_heap.proofs.AllocFacts.ChoiceLaw.{Contains-none}
use Rattle.hp_heap.proofs.Members.{count_fewer}
use Rattle.hp_log.specs.Places.{IsLogOf, ListPlace, slots_in}
use Rattle.hp_log.specs.declared.log_record.LogRecord.{LogRecord}
use Rattle.hp_log.specs.Log.{table_at}
use Rattle.hp_maps.proofs.CatchLemmas.{table_kept}
use Rattle.hp_maps.proofs.TableLaw.{undropped_lag, undropped_none}
use Rattle.hp_maps.specs.Catching.{Lags, kept, new_rows, newer, number_after, rows_after, undropped}
use Rattle.hp_maps.specs.MapsView.{MapsView, calls_of, chunk_rows, is_of_log, table_in}
use Rattle.hp_maps.specs.Ready.{AreBeside, IsReady}
use Rattle.hp_segs.specs.LogPlaces.{RangesAreOutside, SlotsAreFew, places_of}
use Rattle.hp_segs.specs.SegsView.{SegsView}
use Rattle.hp_segs.specs.Sound.{IsSound}
use Rattle.hp_serve.specs.Tied.{HasChunks, IsTied, no_chunks, own_after, part_of}
use Rattle.hp_serve.proofs.ChunksBeside.{chunks_beside, chunks_few}
use Rattle.hp_serve.proofs.RowsKnown.{has_lags, known_on, known_undropped}

-- a table is tied to a longer log as it was to the shorter one
pub tied_on : (log more : List LogRecord) (own : Own) (marked : ℕ → List Chunk) (joined : Bool) (maps : MapsView) → IsTied log own marked joined maps
    → IsTied (log ++ more) own marked joined maps
tied_on log more own marked joined maps tied =
    let part = part_of joined own in
    let within = tied.within in
    let seen = tied.table.seen in
    let behind = tied.table.behind in
    record {
      within = omega (arith, within, length-append log more);
      table = record {
        number = tied.table.number;
        rows = tied.table.rows ∙ sym (known_on log more part (omega (arith, behind, seen)) seen);
        behind = behind;
        seen = omega (arith, seen, length-append log more);
        chunks = tied.table.chunks;
        room = tied.table.room;
      };
    }

-- so it is along the growth of what is seen
pub tied_along : (seen log more : List LogRecord) (own : Own) (marked : ℕ → List Chunk) (joined : Bool) (maps : MapsView) → log ≡ seen ++ more
    → IsTied seen own marked joined maps → IsTied log own marked joined maps
tied_along seen log more own marked joined maps grown tied = subst (λ log. IsTied log own marked joined maps) (sym grown) (tied_on seen more own marked joined maps tied)

-- and where its own part is as it was
pub tied_since : (seen log more : List LogRecord) (own now : Own) (marked : ℕ → List Chunk) (joined : Bool) (maps : MapsView) → log ≡ seen ++ more → now ≡ own
    → IsTied seen own marked joined maps → IsTied log now marked joined maps
tied_since seen log more own now marked joined maps grown same tied =
    subst (λ own. IsTied log own marked joined maps) (sym same) (tied_along seen log more own marked joined maps grown tied)

-- and by other words for its marks
pub tied_marks : (log : List LogRecord) (own : Own) (marked after : ℕ → List Chunk) (joined : Bool) (maps : MapsView)
    → ((heap : ℕ) → after heap ≡ marked heap) → IsTied log own marked joined maps → IsTied log own after joined maps
tied_marks log own marked after joined maps same =
    let marks : marked ≡ after = λ i heap. sym (same heap) i in
    subst (λ (m : ℕ → List Chunk). IsTied log own m joined maps) marks

-- the table has taken in no more records than there are
pub tied_number : (log : List LogRecord) (own : Own) (marked : ℕ → List Chunk) (joined : Bool) (maps : MapsView) → IsTied log own marked joined maps → maps.number ≤ length log
tied_number log own marked true maps tied =
    let within = tied.within in
    let number = tied.table.number in
    omega (arith, within, number)
tied_number log own marked false maps tied =
    let number = tied.table.number in
    omega (arith, number)

-- it lags behind the whole log
tied_lags : (log : List LogRecord) (own : Own) (marked : ℕ → List Chunk) (joined : Bool) (maps : MapsView) → IsTied log own marked joined maps
    → Lags log maps.number (length log) (table_in maps.rows)
tied_lags log own marked joined maps tied =
    let lag = has_lags log (part_of joined own) marked maps tied.table in
    let up_to = lag.up_to in
    let seen = tied.table.seen in
    subst (λ n. Lags log n (length log) (table_in maps.rows)) (sym tied.table.number)
    (record { reached = lag.reached; from = lag.from; up_to = omega (arith, up_to, seen); left = lag.left })

-- a participant knows of its table what it needs to catch up with the whole log, where the rows of its chunks lie beside the lists and are few
pub tied_ready : (lists : List ListPlace) (log : List LogRecord) (own : Own) (marked : ℕ → List Chunk) (joined : Bool) (maps : MapsView)
    → IsLogOf lists log → AreBeside lists (chunk_rows maps.rows) → length (chunk_rows maps.rows) + slots_in lists ≤ 16384
    → IsTied log own marked joined maps → calls_of maps ≤ 2 ^ 63 → IsReady lists maps log (length log)
tied_ready lists log own marked joined maps is beside few tied calls =
    let room = tied.table.room in
    record {
      from = tied_number log own marked joined maps tied;
      within = omega arith;
      log = is;
      lags = tied_lags log own marked joined maps tied;
      chunks = beside;
      room = omega (arith, few, room);
      calls = calls;
    }

-- so it is of the records that are the log
pub tied_can : (lists : List ListPlace) (log records : List LogRecord) (own : Own) (marked : ℕ → List Chunk) (joined : Bool) (maps : MapsView)
    → records ≡ log → IsLogOf lists log → AreBeside lists (chunk_rows maps.rows) → length (chunk_rows maps.rows) + slots_in lists ≤ 16384
    → IsTied log own marked joined maps → calls_of maps ≤ 2 ^ 63 → IsReady lists maps records (length records)
tied_can lists log records own marked joined maps same is beside few tied calls =
    subst (λ records. IsReady lists maps records (length records)) (sym same) (tied_ready lists log own marked joined maps is beside few tied calls)

-- rows of chunks that are claimed lie beside a segment value's lists and are few
pub record HasRoomBeside (segs : SegsView) (maps : MapsView) : Type 0 where
  pub beside : AreBeside (places_of segs.pools) (chunk_rows maps.rows)
  pub few : length (chunk_rows maps.rows) + slots_in (places_of segs.pools) ≤ 16384

pub room_beside : (segs : SegsView) (marked : ℕ → List Chunk) (maps : MapsView) → IsSound segs → RangesAreOutside → SlotsAreFew
    → AreApart maps.rows → HasChunks marked (chunk_rows maps.rows)
    → ((heap : ℕ) (chunk : Chunk) → heap < MAX_HEAPS → Contains (marked heap) chunk → Contains segs.ranges (chunk_memory chunk))
    → HasRoomBeside segs maps
room_beside segs marked maps sound outside few apart has claimed = record {
  beside = chunks_beside segs marked (chunk_rows maps.rows) sound has claimed (outside segs sound)
      (λ addr. omega (arith, count_fewer (λ row. not (is_of_log row)) (has_addr addr) maps.rows, apart addr));
  few = omega (arith, chunks_few segs marked (chunk_rows maps.rows) sound has claimed, few segs sound);
}

-- a participant without a mark on a chunk has no row of one
pub nothing_beside : (segs : SegsView) (maps : MapsView) → IsSound segs → RangesAreOutside → SlotsAreFew → AreApart maps.rows
    → HasChunks no_chunks (chunk_rows maps.rows) → HasRoomBeside segs maps
nothing_beside segs maps sound outside few apart has =
    room_beside segs no_chunks maps sound outside few apart has (λ heap chunk below none. absurd (Contains-none chunk none))

or_true : (joined : Bool) → true ≡ (joined || true)
or_true true = refl
or_true false = refl

or_false : (joined : Bool) → joined ≡ (joined || false)
or_false true = refl
or_false false = refl

-- nothing is dropped by no record
none_newer : (log : List LogRecord) (n : ℕ) → newer log n n ≡ []
none_newer log n =
    let none : n - n ≡ 0 = omega arith in
    ap (λ k. take k (drop n log)) none

-- what is left of a table that lags
lag_kept : (maps : MapsView) (records : List LogRecord) (to : ℕ) → Lags records maps.number to (table_in maps.rows)
    → table_in (kept (newer records maps.number to) maps.rows) ≡ undropped (newer records maps.number to) (table_at records maps.number)
lag_kept maps records to lags =
    table_kept (newer records maps.number to) maps.rows
    ∙ (ap (undropped (newer records maps.number to)) lags.left
    ∙ undropped_lag records maps.number lags.reached to (table_at records maps.number) lags.from lags.up_to)

module _ (log : List LogRecord) (own : Own) (marked : ℕ → List Chunk) (old new : MapsView) (number : new.number ≡ old.number)
    (rows : new.rows ≡ kept (newer log old.number (length log)) old.rows) (chunks : chunk_rows new.rows ≡ chunk_rows old.rows)
    (capacity : new.capacity ≡ old.capacity) where
  -- a table that failed to catch up has lost what the log drops
  left_tied : (joined : Bool) → IsTied log own marked joined old → IsTied log (record own { unmapped = length log }) marked joined new
  left_tied true tied =
      let was = tied.table in
      let within = tied.within in
      let room = was.room in
      record {
        within = within;
        table = record {
          number = number ∙ was.number;
          rows =
              ap table_in rows
              ∙ (lag_kept old log (length log) (tied_lags log own marked true old tied)
              ∙ (ap (λ n. undropped (newer log n (length log)) (table_at log n)) was.number
              ∙ sym (known_undropped log (record own { unmapped = length log }) within)));
          behind = within;
          seen = omega arith;
          chunks = subst (HasChunks marked) (sym chunks) was.chunks;
          room = omega (arith, room, capacity);
        };
      }
  left_tied false tied =
      let was = tied.table in
      let room = was.room in
      record {
        within = tied.within;
        table = record {
          number = number ∙ was.number;
          rows =
              ap table_in rows
              ∙ (lag_kept old log (length log) (tied_lags log own marked false old tied)
              ∙ ap (λ n. undropped (newer log n (length log)) (table_at log n)) was.number);
          behind = omega arith;
          seen = omega arith;
          chunks = subst (HasChunks marked) (sym chunks) was.chunks;
          room = omega (arith, room, capacity);
        };
      }

-- a table that has caught up with the whole log is its table
whole_tied : (log : List LogRecord) (own : Own) (marked : ℕ → List Chunk) (joined : Bool) (old new : MapsView) → IsTied log own marked joined old → new.number ≡ length log
    → table_in new.rows ≡ table_at log (length log) → chunk_rows new.rows ≡ chunk_rows old.rows → new.capacity ≡ old.capacity
    → IsTied log (own_after Done (length log) own) marked true new
whole_tied log own marked joined old new tied number table chunks capacity =
    let room = tied.table.room in
    record {
      within = omega arith;
      table = record {
        number = number;
        rows =
            table
            ∙ sym (known_undropped log (own_after Done (length log) own) (omega arith)
            ∙ (ap (λ records. undropped records (table_at log (length log))) (none_newer log (length log))
            ∙ undropped_none (table_at log (length log))));
        behind = omega arith;
        seen = omega arith;
        chunks = subst (HasChunks marked) (sym chunks) tied.table.chunks;
        room = omega (arith, room, capacity);
      };
    }

-- so it is with a table that has caught up, or failed to
pub tied_caught : (log : List LogRecord) (own : Own) (marked : ℕ → List Chunk) (joined : Bool) (old new : MapsView) (caught : Caught) → IsTied log own marked joined old
    → new.number ≡ number_after old.number (length log) caught
    → new.rows ≡ rows_after (kept (newer log old.number (length log)) old.rows) (new_rows old.number (newer log old.number (length log))) caught
    → (is_done caught ≡ true → table_in new.rows ≡ table_at log (length log)) → chunk_rows new.rows ≡ chunk_rows old.rows
    → new.capacity ≡ old.capacity → IsTied log (own_after caught (length log) own) marked (joined || is_done caught) new
tied_caught log own marked joined old new Done tied number rows table chunks capacity =
    subst (λ b. IsTied log (own_after Done (length log) own) marked b new) (or_true joined)
    (whole_tied log own marked joined old new tied number (table refl) chunks capacity)
tied_caught log own marked joined old new (Refused row call) tied number rows table chunks capacity =
    subst (λ b. IsTied log (record own { unmapped = length log }) marked b new) (or_false joined)
    (left_tied log own marked old new number rows chunks capacity joined tied)
tied_caught log own marked joined old new (Elsewhere row call got) tied number rows table chunks capacity =
    subst (λ b. IsTied log (record own { unmapped = length log }) marked b new) (or_false joined)
    (left_tied log own marked old new number rows chunks capacity joined tied)

-- so it is by records that are the log, and by its own part as it came to be
pub tied_by : (log records : List LogRecord) (own now : Own) (marked : ℕ → List Chunk) (joined : Bool) (old new : MapsView) (caught : Caught) → records ≡ log
    → now ≡ own_after caught (length records) own → IsTied log own marked joined old → new.number ≡ number_after old.number (length records) caught
    → new.rows ≡ rows_after (kept (newer records old.number (length records)) old.rows)
    (new_rows old.number (newer records old.number (length records))) caught
    → (is_done caught ≡ true → table_in new.rows ≡ table_at records (length records)) → chunk_rows new.rows ≡ chunk_rows old.rows
    → new.capacity ≡ old.capacity → IsTied log now marked (joined || is_done caught) new
tied_by log records own now marked joined old new caught same is tied number rows table chunks capacity =
    subst (λ log. IsTied log now marked (joined || is_done caught) new) same
    (subst (λ own. IsTied records own marked (joined || is_done caught) new) (sym is)
    (tied_caught records own marked joined old new caught (subst (λ log. IsTied log own marked joined old) (sym same) tied) number rows table chunks capacity))
