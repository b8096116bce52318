-- What is told of a catch-up, and what the log's rows are after it, does not depend on the rows of chunks.
use Rattle.std.proofs.Common.{◌≡◌, ◌∙◌, ℕ, zero, suc, ◌+◌, ◌&&◌, Bool, true, false, not, List, [], ◌∷◌, ◌++◌, Option, Some, None, refl, ap, sym, subst}
use Rattle.std.specs.Prelude.{cond, filter, find, option_to_list}
use Rattle.std.proofs.lemmas.List.Elements.{filter-append}
use Rattle.hp_base.specs.declared.caught.Caught.{Caught}
use Rattle.hp_base.specs.declared.caught.Caught.TheVariants as caught
use Rattle.hp_base.specs.declared.chunk.Chunk.{Chunk}
use Rattle.hp_base.specs.declared.event.Event.{Event}
use Rattle.hp_base.specs.declared.event.EventKind.TheVariants.{Alloc, Free}
use Rattle.hp_base.specs.declared.row.Row.{Row}
use Rattle.hp_base.specs.declared.row.Run.{Run}
use Rattle.hp_log.specs.Rows.{at_slot}
use Rattle.hp_log.specs.declared.log_record.LogRecord.{LogRecord}
use Rattle.hp_log.specs.declared.log_record.LogRecord.TheVariants.{Add, Drop}
use Rattle.hp_maps.proofs.CatchLemmas.{table_kept}
use Rattle.hp_maps.specs.Catching.{is_dropped, kept, new_rows, rows_after, undropped}
use Rattle.hp_maps.specs.Chunks.{rows_of_chunk}
use Rattle.hp_maps.specs.Events.{caught_events, dropped_events, events_of, freed_by, rows_from, stands_at}
use Rattle.hp_maps.specs.MapsView.{MapsView, chunk_rows, is_of_log, table_in}
use Rattle.hp_proc.specs.MappedChunks.{rows_with}
use Rattle.hp_serve.proofs.ChunksTied.{table_more}

module _ {X : Type 0} (q : X → Bool) where
  -- those that pass a test, passed through it again
  again_one : (x : X) (rest : List X) (b : Bool) → q x ≡ b → filter q rest ≡ rest → filter q (cond b (x ∷ rest) rest) ≡ cond b (x ∷ rest) rest
  again_one x rest true is further =
      ap (λ (b : Bool). cond b (x ∷ filter q rest) (filter q rest)) is ∙ ap (λ (l : List X). x ∷ l) further
  again_one x rest false is further = further

  again : (xs : List X) → filter q (filter q xs) ≡ filter q xs
  again [] = refl
  again (x ∷ xs) = again_one x (filter q xs) (q x) refl (again xs)

  -- none of them fails it
  none_one : (x : X) (rest : List X) (b : Bool) → q x ≡ b → filter (λ x. not (q x)) rest ≡ [] → filter (λ x. not (q x)) (cond b (x ∷ rest) rest) ≡ []
  none_one x rest true is further =
      ap (λ (b : Bool). cond (not b) (x ∷ filter (λ x. not (q x)) rest) (filter (λ x. not (q x)) rest)) is ∙ further
  none_one x rest false is further = further

  none_fails : (xs : List X) → filter (λ x. not (q x)) (filter q xs) ≡ []
  none_fails [] = refl
  none_fails (x ∷ xs) = none_one x (filter q xs) (q x) refl (none_fails xs)

  -- where none fails it, they are all
  all_one : (x : X) (xs : List X) (b : Bool) → q x ≡ b
      → cond (not b) (x ∷ filter (λ x. not (q x)) xs) (filter (λ x. not (q x)) xs) ≡ [] → (filter (λ x. not (q x)) xs ≡ [] → filter q xs ≡ xs)
      → cond b (x ∷ filter q xs) (filter q xs) ≡ x ∷ xs
  all_one x xs true is none further = ap (λ (l : List X). x ∷ l) (further none)
  all_one x xs false is none further = cc

  all_pass : (xs : List X) → filter (λ x. not (q x)) xs ≡ [] → filter q xs ≡ xs
  all_pass [] none = refl
  all_pass (x ∷ xs) none = all_one x xs (q x) refl none (all_pass xs)

  -- what passes it is found among them as among all
  found_one : (p : X → Bool) → ((x : X) → q x ≡ false → p x ≡ false) → (x : X) (xs : List X) (b : Bool) → q x ≡ b
      → find p xs ≡ find p (filter q xs) → find p (x ∷ xs) ≡ find p (cond b (x ∷ filter q xs) (filter q xs))
  found_one p out x xs true is further = ap (cond (p x) (Some x)) further
  found_one p out x xs false is further = ap (λ (b : Bool). cond b (Some x) (find p xs)) (out x is) ∙ further

  found_alike : (p : X → Bool) → ((x : X) → q x ≡ false → p x ≡ false) → (xs : List X) → find p xs ≡ find p (filter q xs)
  found_alike p out [] = refl
  found_alike p out (x ∷ xs) = found_one p out x xs (q x) refl (found_alike p out xs)

pub table_twice : (rows : List Row) → table_in (table_in rows) ≡ table_in rows
table_twice = again is_of_log

pub table_alone : (rows : List Row) → chunk_rows (table_in rows) ≡ []
table_alone = none_fails is_of_log

pub no_chunk_rows : (rows : List Row) → chunk_rows rows ≡ [] → table_in rows ≡ rows
no_chunk_rows = all_pass is_of_log

-- a row of a chunk stands at no slot
stands_nowhere : (before : List LogRecord) (list slot : ℕ) (row : Row) → is_of_log row ≡ false → stands_at before list slot row ≡ false
stands_nowhere before list slot row chunk =
    ap (λ (b : Bool). at_slot list slot row && (b && not (is_dropped before row))) chunk ∙ nothing (at_slot list slot row)
  where
    nothing : (b : Bool) → (b && false) ≡ false
    nothing true = refl
    nothing false = refl

rows_alike : (rows : List Row) (before : List LogRecord) (run : Run) (k n : ℕ) → rows_from rows before run k n ≡ rows_from (table_in rows) before run k n
rows_alike rows before run k zero = refl
rows_alike rows before run k (suc n) =
    ap (λ (found : Option Row). option_to_list found ++ rows_from rows before run (k + 1) n)
    (found_alike is_of_log (stands_at before run.list (run.first + k)) (stands_nowhere before run.list (run.first + k)) rows)
    ∙ ap (λ (l : List Row). option_to_list (find (stands_at before run.list (run.first + k)) (table_in rows)) ++ l)
    (rows_alike rows before run (k + 1) n)

freed_alike : (rows : List Row) (before : List LogRecord) (entry : LogRecord) → freed_by rows before entry ≡ freed_by (table_in rows) before entry
freed_alike rows before (Add run heap) = refl
freed_alike rows before (Drop run) = rows_alike rows before run 0 run.count

dropped_alike : (rows : List Row) (before records : List LogRecord) → dropped_events rows before records ≡ dropped_events (table_in rows) before records
dropped_alike rows before [] = refl
dropped_alike rows before (entry ∷ records) =
    ap (λ (gone : List Row). events_of Free gone ++ dropped_events rows (before ++ entry ∷ []) records) (freed_alike rows before entry)
    ∙ ap (λ (l : List Event). events_of Free (freed_by (table_in rows) before entry) ++ l) (dropped_alike rows (before ++ entry ∷ []) records)

-- the same is told of a catch-up without them
pub caught_alike : (rows : List Row) (n : ℕ) (records : List LogRecord) (ended : Caught)
    → caught_events rows n records ended ≡ caught_events (table_in rows) n records ended
caught_alike rows n records caught.Done =
    ap (λ (gone : List Event). gone ++ events_of Alloc (new_rows n records)) (dropped_alike rows [] records)
caught_alike rows n records (caught.Refused row call) = dropped_alike rows [] records
caught_alike rows n records (caught.Elsewhere row call got) = dropped_alike rows [] records

kept_alike : (records : List LogRecord) (rows : List Row) → table_in (kept records (table_in rows)) ≡ table_in (kept records rows)
kept_alike records rows =
    table_kept records (table_in rows) ∙ (ap (undropped records) (table_twice rows) ∙ sym (table_kept records rows))

-- and the log's rows after it are the same
pub after_alike : (records : List LogRecord) (rows fresh : List Row) (ended : Caught)
    → table_in (rows_after (kept records (table_in rows)) fresh ended) ≡ table_in (rows_after (kept records rows) fresh ended)
after_alike records rows fresh caught.Done =
    filter-append is_of_log (kept records (table_in rows)) fresh
    ∙ (ap (λ (l : List Row). l ++ table_in fresh) (kept_alike records rows)
    ∙ sym (filter-append is_of_log (kept records rows) fresh))
after_alike records rows fresh (caught.Refused row call) = kept_alike records rows
after_alike records rows fresh (caught.Elsewhere row call got) = kept_alike records rows

-- a chunk that was mapped, or failed to be, is no row of the log
pub mapped_alike : (rows : List Row) (chunk : Chunk) (ended : Caught) → table_in (rows_with rows chunk ended) ≡ table_in rows
mapped_alike rows chunk caught.Done = table_more chunk rows
mapped_alike rows chunk (caught.Refused row call) = refl
mapped_alike rows chunk (caught.Elsewhere row call got) = refl
