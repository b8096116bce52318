-- A table is tied still where the rows of a chunk came to it with its mark, and where they went with it: the log's rows and its number stay.
use Rattle.std.proofs.Common.{◌≡◌, ◌∙◌, ℕ, Bool, true, false, List, ◌++◌, append-nil, not, sym, ap, subst, arith, eqb}
use Rattle.std.specs.Prelude.{nat_lt}
use Rattle.std.proofs.lemmas.Bool.{and_left, false≢true, ne_eqb}
use Rattle.std.proofs.lemmas.List.Elements.{filter-append}
use Rattle.hp_base.specs.declared.chunk.Chunk.{Chunk}
use Rattle.hp_base.specs.declared.row.Row.{Row}
use Rattle.hp_external.proofs.ListLemmas.{filter_none}
use Rattle.hp_external.specs.Attaching.{SameButRows}
use Rattle.hp_hall.specs.Own.{Own}
use Rattle.hp_heap.proofs.AllocFacts.ChoiceLaw.{Contains-filter}
use Rattle.hp_heap.proofs.Members.{AllByRecursion-each, filter_swapped, filter_whole}
use Rattle.hp_log.specs.declared.log_record.LogRecord.{LogRecord}
use Rattle.hp_maps.proofs.BesideLemmas.{chunk_rows_append}
use Rattle.hp_maps.specs.Chunks.{is_of_chunk, rows_beside, rows_of_chunk}
use Rattle.hp_maps.specs.MapsView.{MapsView, chunk_rows, is_of_log, table_in}
use Rattle.hp_serve.proofs.ChunksBeside.{row_of_its}
use Rattle.hp_serve.specs.Tied.{HasChunks, IsTied}

some_generation : (n : ℕ) → nat_lt 0 n ≡ true → eqb n 0 ≡ false
some_generation n is = ne_eqb n 0 (λ (same : n ≡ 0). false≢true (sym (ap (λ (m : ℕ). nat_lt 0 m) same) ∙ is))

abbrev is_beside : Chunk → Row → Bool
is_beside chunk row = not (is_of_chunk chunk row)

-- the log's rows are none of a chunk, and a chunk's none of the log
pub table_left : (chunk : Chunk) (rows : List Row) → table_in (rows_beside chunk rows) ≡ table_in rows
table_left chunk rows =
    filter_swapped is_of_log (is_beside chunk) rows
    ∙ filter_whole (is_beside chunk) (table_in rows)
    (AllByRecursion-each (λ (row : Row). is_beside chunk row ≡ true) (table_in rows)
    (λ row among.
    ap not (and_left (eqb row.generation 0) (eqb row.list chunk.list)
    (some_generation row.generation (Contains-filter is_of_log rows row among).0))))

pub table_more : (chunk : Chunk) (rows : List Row) → table_in (rows ++ rows_of_chunk chunk) ≡ table_in rows
table_more chunk rows =
    filter-append is_of_log rows (rows_of_chunk chunk)
    ∙ (ap (λ (l : List Row). table_in rows ++ l)
    (filter_none is_of_log (rows_of_chunk chunk)
    (AllByRecursion-each (λ (row : Row). is_of_log row ≡ false) (rows_of_chunk chunk)
    (λ row among. ap (λ (n : ℕ). nat_lt 0 n) (row_of_its chunk row among).generation)))
    ∙ append-nil (table_in rows))

pub chunks_left : (chunk : Chunk) (rows : List Row) → chunk_rows (rows_beside chunk rows) ≡ rows_beside chunk (chunk_rows rows)
chunks_left chunk rows = filter_swapped (λ (row : Row). not (is_of_log row)) (is_beside chunk) rows

module _ (log : List LogRecord) (own : Own) (marked after : ℕ → List Chunk) (joined : Bool) (old new : MapsView) (chunk : Chunk)
    (tied : IsTied log own marked joined old) (others : SameButRows old new) where
  -- a table with the same rows of the log, and these of chunks
  tied_by_rows : table_in new.rows ≡ table_in old.rows → HasChunks after (chunk_rows new.rows) → IsTied log own after joined new
  tied_by_rows same chunks =
      let was = tied.table in
      let room = was.room in
      let capacity = others.capacity in
      record {
        within = tied.within;
        table = record {
          number = others.number ∙ was.number;
          rows = same ∙ was.rows;
          behind = was.behind;
          seen = was.seen;
          chunks = chunks;
          room = omega (arith, room, capacity);
        };
      }

  pub tied_left : new.rows ≡ rows_beside chunk old.rows → HasChunks after (rows_beside chunk (chunk_rows old.rows))
      → IsTied log own after joined new
  tied_left rows has =
      tied_by_rows (ap table_in rows ∙ table_left chunk old.rows)
      (subst (HasChunks after) (sym (ap chunk_rows rows ∙ chunks_left chunk old.rows)) has)

  pub tied_more : new.rows ≡ old.rows ++ rows_of_chunk chunk → HasChunks after (chunk_rows old.rows ++ rows_of_chunk chunk)
      → IsTied log own after joined new
  tied_more rows has =
      tied_by_rows (ap table_in rows ∙ table_more chunk old.rows)
      (subst (HasChunks after) (sym (ap chunk_rows rows ∙ chunk_rows_append old.rows chunk)) has)
