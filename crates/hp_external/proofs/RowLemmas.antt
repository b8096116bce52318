-- The rows of a chunk: of its list, with generation 0, and in its bytes.
use Rattle.std.proofs.Common.{◌≡◌, ◌≢◌, ℕ, zero, suc, ◌+◌, ◌*◌, ◌/◌, ◌<◌, ◌≤◌, Bool, true, false, ◌&&◌, List, [], ◌∷◌, ◌++◌, filter, Contains, refl, sym, ap, ◌∙◌, arith, eqb, eq-eqb, mul_comm}
use Rattle.std.specs.List.{AllByRecursion}
use Rattle.std.proofs.lemmas.Bool.{and_from, false_from_ne_true, and_parts, eqb-true, ne_eqb}
use Rattle.hp_base.specs.ExternalMemory.{IsExternalMemory}
use Rattle.hp_base.specs.declared.chunk.Chunk.{Chunk}
use Rattle.hp_base.specs.declared.row.Row.{Row}
use Rattle.hp_base.specs.declared.row.Run.{Run}
use Rattle.hp_log.specs.Rows.{row_of, rows_below}
use Rattle.hp_maps.specs.Chunks.{is_of_chunk, rows_of_chunk, run_of_chunk}
use Rattle.hp_segs.specs.declared.external_range.ExternalRange.{ExternalRange}
use Rattle.hp_segs.proofs.SlotFacts.PlaceLemmas.{slot_behind}
use Rattle.hp_heap.proofs.Members.{filter_whole}
use Rattle.hp_heap.proofs.RangeLemmas.{AllByRecursion-append}
use Rattle.hp_external.specs.Tie.{IsOfClaim, claim_of}
use Rattle.hp_external.proofs.ListLemmas.{filter_none}

-- what holds of the row of each slot holds of all rows of a run
each_below : (P : Row → Type 0) (run : Run) (n : ℕ) → ((k : ℕ) → k < n → P (row_of run 0 k)) → AllByRecursion P (rows_below run 0 n)
each_below P run zero each = tt
each_below P run (suc n) each =
    AllByRecursion-append P (rows_below run 0 n) (row_of run 0 n ∷ []) (each_below P run n (λ k below. each k (omega (arith, below))))
    (each n (omega arith), tt)

module _ (chunk : Chunk) where
  -- they are all of the chunk
  pub own_rows : filter (is_of_chunk chunk) (rows_of_chunk chunk) ≡ rows_of_chunk chunk
  own_rows =
      filter_whole (is_of_chunk chunk) (rows_of_chunk chunk)
      (each_below (λ row. is_of_chunk chunk row ≡ true) (run_of_chunk chunk) (chunk.len / chunk.page)
      (λ k below. eq-eqb chunk.list chunk.list refl))

  -- and of no chunk with another list
  pub other_rows : (other : Chunk) → other.list ≢ chunk.list → filter (is_of_chunk other) (rows_of_chunk chunk) ≡ []
  other_rows other differs =
      filter_none (is_of_chunk other) (rows_of_chunk chunk)
      (each_below (λ row. is_of_chunk other row ≡ false) (run_of_chunk chunk) (chunk.len / chunk.page)
      (λ k below. ne_eqb chunk.list other.list (λ same. differs (sym same))))

  -- they lie in its claim
  pub claimed_rows : (claims : List ExternalRange) → IsExternalMemory chunk.addr chunk.len chunk.page → Contains claims (claim_of chunk)
      → AllByRecursion (IsOfClaim claims) (rows_of_chunk chunk)
  claimed_rows claims memory there =
      each_below (IsOfClaim claims) (run_of_chunk chunk) (chunk.len / chunk.page)
      (λ k below log.
      (let whole : chunk.len / chunk.page * chunk.page ≡ chunk.len =
      omega (arith, memory.least, memory.whole, mul_comm (chunk.len / chunk.page) chunk.page) in
      record {
        claim = claim_of chunk;
        there = there;
        list_is = refl;
        from = omega arith;
        within = omega (arith, slot_behind k (chunk.len / chunk.page) chunk.page below, whole, memory.least);
      }))

-- a row of a chunk is of no chunk with another list
pub row_of_one : (chunk other : Chunk) (row : Row) → other.list ≢ chunk.list → is_of_chunk other row ≡ true → is_of_chunk chunk row ≡ false
row_of_one chunk other row differs its =
    let parts = and_parts (eqb row.generation 0) (eqb row.list other.list) its in
    false_from_ne_true (is_of_chunk chunk row)
    (λ again.
    (let second = and_parts (eqb row.generation 0) (eqb row.list chunk.list) again in
    differs (sym (eqb-true row.list other.list parts.1) ∙ eqb-true row.list chunk.list second.1)))
