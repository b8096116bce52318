-- The rows of chunks beside the lists, as chunks are attached and detached.
use Rattle.std.proofs.Common.{◌≡◌, ◌≤◌, ◌<◌, ◌⊎◌, ℕ, zero, suc, ◌+◌, ◌*◌, ◌/◌, Bool, true, false, not, ◌&&◌, List, [], ◌∷◌, ◌++◌, get_or, refl, ap, ◌∙◌, sym, subst, arith, inl, inr, count_by}
use Rattle.std.specs.List.{All}
use Rattle.std.proofs.Math.Nat.{add-mul, div-mul-le_self, mul-le-mul_right, mul-lt-mul_of_pos_right}
use Rattle.std.proofs.lemmas.Bool.{cases_Bool, cases_lt, eqb-true}
use Rattle.std.proofs.lemmas.List.Elements.{All-append, All-filter, All-weaker, filter-append}
use Rattle.std.proofs.lemmas.List.Sums.{count_by-le-length}
use Rattle.hp_base.specs.Mapping.{AreApart, has_addr}
use Rattle.hp_base.specs.declared.chunk.Chunk.{Chunk}
use Rattle.hp_base.specs.declared.row.Row.{Row}
use Rattle.hp_base.specs.declared.row.Run.{Run}
use Rattle.hp_log.specs.Places.{IsOutside, ListPlace}
use Rattle.hp_log.specs.Rows.{row_of, rows_below}
use Rattle.hp_log.proofs.Counts.{count_append, count_none, count_split}
use Rattle.hp_log.proofs.RowLemmas.{all_rows_below}
use Rattle.hp_maps.specs.Chunks.{is_of_chunk, rows_beside, rows_of_chunk, run_of_chunk}
use Rattle.hp_maps.specs.MapsView.{chunk_rows, is_of_log}
use Rattle.hp_maps.specs.Ready.{AreBeside, AttachedBeside, DetachedBeside, IsClear}
use Rattle.hp_maps.proofs.ListFacts.{filter_agree, filter_keeps, filter_twice}
use Rattle.hp_maps.proofs.TableLaw.{every}

-- a row's address is another one
other_addr : (addr : ℕ) (row : Row) → (row.addr ≡ addr → ⊥) → has_addr addr row ≡ false
other_addr addr row differs =
    elim (cases_Bool (has_addr addr row)) [
      | inr is ↦ is
      | inl is ↦ absurd (differs (eqb-true row.addr addr is))
    ]

-- the rows of a run have addresses of their own
pub run_apart : (run : Run) (generation n : ℕ) → 0 < run.page → AreApart (rows_below run generation n)
run_apart run generation zero some addr = omega arith
run_apart run generation (suc n) some addr =
    let rest = run_apart run generation n some addr in
    let both = count_append (has_addr addr) (rows_below run generation n) (row_of run generation n ∷ []) in
    elim (cases_Bool (has_addr addr (row_of run generation n))) [
      | inr other ↦
          let last : count_by (has_addr addr) (row_of run generation n ∷ []) ≡ 0 =
          count_none (has_addr addr) (row_of run generation n ∷ []) (λ k d within. only k d within other) in
          omega (arith, rest, both, last)
      | inl is ↦
          let here : run.addr + n * run.page ≡ addr = eqb-true (run.addr + n * run.page) addr is in
          let none : count_by (has_addr addr) (rows_below run generation n) ≡ 0 =
          count_none (has_addr addr) (rows_below run generation n)
          (all_rows_below (λ row. has_addr addr row ≡ false) run generation n
          (λ k below. other_addr addr (row_of run generation k)
          (λ same.
          let before : k * run.page < n * run.page = mul-lt-mul_of_pos_right below some in
          omega (arith, same, here, before)))) in
          let few = one_row (row_of run generation n) in
          omega (arith, both, none, few)
    ]
  where
    only : (k : ℕ) (d : Row) → (within : k < 1) → has_addr addr (row_of run generation n) ≡ false
        → has_addr addr (get_or (row_of run generation n ∷ []) k d) ≡ false
    only zero d within other = other
    only (suc k) d within other = absurd (omega (arith, within))

    one_row : (row : Row) → count_by (has_addr addr) (row ∷ []) ≤ 1
    one_row row = omega (arith, count_by-le-length (has_addr addr) (row ∷ []))

-- the rows of a chunk lie within its bytes
chunk_within : (lists : List ListPlace) (chunks : List Row) (chunk : Chunk) → IsClear lists chunks chunk
    → All (λ row. (chunk.addr ≤ row.addr) × (row.addr < chunk.addr + chunk.len)) (rows_of_chunk chunk)
chunk_within lists chunks chunk clear =
    all_rows_below (λ row. (chunk.addr ≤ row.addr) × (row.addr < chunk.addr + chunk.len)) (run_of_chunk chunk) 0 (chunk.len / chunk.page)
    (λ k below.
    let least = clear.memory.least in
    let ends : (k + 1) * chunk.page ≤ chunk.len / chunk.page * chunk.page = mul-le-mul_right chunk.page (omega (arith, below)) in (
      omega arith,
      omega (arith, least, ends, add-mul k 1 chunk.page, div-mul-le_self chunk.len chunk.page),
    ))

pub beside_both : (lists : List ListPlace) (chunks : List Row) (chunk : Chunk) → AreBeside lists chunks → IsClear lists chunks chunk
    → AreBeside lists (chunks ++ rows_of_chunk chunk)
beside_both lists chunks chunk beside clear =
    let own = chunk_within lists chunks chunk clear in
    let least = clear.memory.least in
    record {
      outside =
          All-append (λ row. IsOutside lists row.addr) chunks (rows_of_chunk chunk) beside.outside
          (All-weaker (λ row. (chunk.addr ≤ row.addr) × (row.addr < chunk.addr + chunk.len)) (λ row. IsOutside lists row.addr)
          (λ row at. clear.outside row.addr at.0 at.1) (rows_of_chunk chunk) own);
      apart = λ addr.
          let both = count_append (has_addr addr) chunks (rows_of_chunk chunk) in
          let once = beside.apart addr in
          let one = run_apart (run_of_chunk chunk) 0 (chunk.len / chunk.page) (omega (arith, least)) addr in
          elim (cases_lt addr chunk.addr) [
            | inl before ↦
                let none : count_by (has_addr addr) (rows_of_chunk chunk) ≡ 0 =
                count_none (has_addr addr) (rows_of_chunk chunk)
                (All-weaker (λ row. (chunk.addr ≤ row.addr) × (row.addr < chunk.addr + chunk.len)) (λ row. has_addr addr row ≡ false)
                (λ row at. other_addr addr row (λ same. omega (arith, same, at.0, before))) (rows_of_chunk chunk) own) in
                omega (arith, both, once, none)
            | inr above ↦
                elim (cases_lt addr (chunk.addr + chunk.len)) [
                  | inr beyond ↦
                      let none : count_by (has_addr addr) (rows_of_chunk chunk) ≡ 0 =
                      count_none (has_addr addr) (rows_of_chunk chunk)
                      (All-weaker (λ row. (chunk.addr ≤ row.addr) × (row.addr < chunk.addr + chunk.len)) (λ row. has_addr addr row ≡ false)
                      (λ row at. other_addr addr row (λ same. omega (arith, same, at.1, beyond))) (rows_of_chunk chunk) own) in
                      omega (arith, both, once, none)
                  | inl inside ↦
                      let none : count_by (has_addr addr) chunks ≡ 0 =
                      count_none (has_addr addr) chunks
                      (All-weaker (λ row. (row.addr < chunk.addr) ⊎ (chunk.addr + chunk.len ≤ row.addr)) (λ row. has_addr addr row ≡ false)
                      (λ row away. other_addr addr row
                      (λ same.
                      elim away [
                        | inl lower ↦ omega (arith, same, lower, above)
                        | inr higher ↦ omega (arith, same, higher, inside)
                      ])) chunks clear.others) in
                      omega (arith, both, one, none)
                ]
          ];
    }

-- the rows of a chunk are none of the log's
pub chunk_rows_append : (rows : List Row) (chunk : Chunk) → chunk_rows (rows ++ rows_of_chunk chunk) ≡ chunk_rows rows ++ rows_of_chunk chunk
chunk_rows_append rows chunk =
    filter-append (λ row. not (is_of_log row)) rows (rows_of_chunk chunk)
    ∙ ap (λ l. chunk_rows rows ++ l)
    (filter_keeps (λ row. not (is_of_log row)) (rows_of_chunk chunk)
    (all_rows_below (λ row. not (is_of_log row) ≡ true) (run_of_chunk chunk) 0 (chunk.len / chunk.page) (λ k below. refl)))

pub attached_beside : AttachedBeside
attached_beside lists rows chunk beside clear =
    subst (AreBeside lists) (sym (chunk_rows_append rows chunk)) (beside_both lists (chunk_rows rows) chunk beside clear)

swapped : (a b : Bool) → (a && b) ≡ (b && a)
swapped true true = refl
swapped true false = refl
swapped false true = refl
swapped false false = refl

pub detached_beside : DetachedBeside
detached_beside lists rows chunk beside =
    let same : chunk_rows (rows_beside chunk rows) ≡ rows_beside chunk (chunk_rows rows) =
    filter_twice (λ row. not (is_of_log row)) (λ row. not (is_of_chunk chunk row)) rows
    ∙ (filter_agree (λ row. not (is_of_chunk chunk row) && not (is_of_log row)) (λ row. not (is_of_log row) && not (is_of_chunk chunk row)) rows
    (every (λ row. (not (is_of_chunk chunk row) && not (is_of_log row)) ≡ (not (is_of_log row) && not (is_of_chunk chunk row)))
    (λ row. swapped (not (is_of_chunk chunk row)) (not (is_of_log row))) rows)
    ∙ sym (filter_twice (λ row. not (is_of_chunk chunk row)) (λ row. not (is_of_log row)) rows)) in
    subst (AreBeside lists) (sym same) (record {
      outside = All-filter (λ row. not (is_of_chunk chunk row)) (λ row. IsOutside lists row.addr) (chunk_rows rows) beside.outside;
      apart = λ addr.
          let once = beside.apart addr in
          omega (arith, once, count_split (has_addr addr) (λ row. not (is_of_chunk chunk row)) (chunk_rows rows));
    })
