-- A chunk's rows after those of others.
use Rattle.std.proofs.Common.{◌≡◌, ◌≤◌, ◌<◌, ◌^◌, ℕ, ◌+◌, ◌*◌, ◌/◌, List, [], ◌++◌, length, take, drop, ap, ◌∙◌, sym, subst, arith, length-append}
use Rattle.std.proofs.Math.Nat.{mul-le-mul_right}
use Rattle.std.proofs.Math.Seq.{drop-append_seam, take-append_seam}
use Rattle.std.specs.List.{All}
use Rattle.std.proofs.lemmas.List.Elements.{All-append}
use Rattle.hp_base.specs.Mapping.{AreApart, Held, IsWithin, owned}
use Rattle.hp_base.specs.declared.caught.Caught.{Caught}
use Rattle.hp_base.specs.declared.caught.Caught.TheVariants as caught
use Rattle.hp_base.specs.declared.chunk.Chunk.{Chunk}
use Rattle.hp_base.specs.declared.row.Row.{Row}
use Rattle.hp_base.specs.declared.row.Run.{Run}
use Rattle.hp_log.specs.Rows.{rows_of}
use Rattle.hp_log.proofs.RowLemmas.{all_rows_below, length_rows_below}
use Rattle.hp_maps.specs.Catching.{rows_after, undropped}
use Rattle.hp_maps.specs.Chunks.{CanAttach, rows_of_chunk, run_of_chunk}
use Rattle.hp_maps.specs.MapsView.{MapsView, calls_of}
use Rattle.hp_maps.specs.Unmapping.{CanMapRows, rows_mapped}
use Rattle.hp_maps.proofs.ApartLemmas.{apart_both}
use Rattle.hp_maps.proofs.BesideLemmas.{run_apart}
use Rattle.hp_maps.proofs.TableLaw.{undropped_none}

-- the rows that come are those of the chunk
pub chunk_fresh : (chunk : Chunk) (run : Run) → run ≡ run_of_chunk chunk → undropped [] (rows_of run 0) ≡ rows_of_chunk chunk
chunk_fresh chunk run is_run = undropped_none (rows_of run 0) ∙ ap (λ (r : Run). rows_of r 0) is_run

pub chunk_length : (chunk : Chunk) → length (rows_of_chunk chunk) ≡ chunk.len / chunk.page
chunk_length chunk = length_rows_below (run_of_chunk chunk) 0 (chunk.len / chunk.page)

pub chunk_near : (maps : MapsView) (chunk : Chunk) → CanAttach maps chunk → All IsWithin (rows_of_chunk chunk)
chunk_near maps chunk can =
    let page = chunk.page in
    let count = chunk.len / page in
    let whole : page * count ≡ chunk.len = omega (arith, can.memory.whole, can.memory.least) in
    all_rows_below IsWithin (run_of_chunk chunk) 0 count
    (λ k within.
    let below : (k + 1) * page ≤ count * page = mul-le-mul_right page (omega arith) in
    omega (arith, below, whole, can.memory.end, can.memory.greatest))

-- with them the rows still have addresses of their own
chunk_apart : (maps : MapsView) (chunk : Chunk) → CanAttach maps chunk → AreApart maps.rows → AreApart (maps.rows ++ rows_of_chunk chunk)
chunk_apart maps chunk can apart =
    let least = can.memory.least in
    apart_both maps.rows (rows_of_chunk chunk) apart (run_apart (run_of_chunk chunk) 0 (chunk.len / chunk.page) (omega (arith, least))) can.clear

pub chunk_apart_after : (maps : MapsView) (chunk : Chunk) (rows : List Row) (caught : Caught) → CanAttach maps chunk → AreApart maps.rows
    → rows ≡ rows_after maps.rows (rows_of_chunk chunk) caught → AreApart rows
chunk_apart_after maps chunk rows caught.Done can apart is_rows = subst AreApart (sym is_rows) (chunk_apart maps chunk can apart)
chunk_apart_after maps chunk rows (caught.Refused row call) can apart is_rows = subst AreApart (sym is_rows) apart
chunk_apart_after maps chunk rows (caught.Elsewhere row call got) can apart is_rows = subst AreApart (sym is_rows) apart

-- they may be mapped after the others
pub chunk_can_map : (maps : MapsView) (chunk : Chunk) (run : Run) (now : List Row) (start : ℕ) (held : List Held) (capacity calls : ℕ)
    → CanAttach maps chunk → AreApart maps.rows → run ≡ run_of_chunk chunk → now ≡ maps.rows ++ undropped [] (rows_of run 0)
    → start ≡ length maps.rows → held ≡ owned maps.rows → maps.capacity ≤ capacity → calls ≡ calls_of maps → length now < 2 ^ 63
    → CanMapRows now start held capacity calls
chunk_can_map maps chunk run now start held capacity calls can own is_run is_now is_start is_held in_mapper counted small =
    let fresh = rows_of_chunk chunk in
    let parts : now ≡ maps.rows ++ fresh = is_now ∙ ap (λ l. maps.rows ++ l) (chunk_fresh chunk run is_run) in
    let front : take start now ≡ maps.rows =
    ap (λ (k : ℕ). take k now) is_start ∙ (ap (take (length maps.rows)) parts ∙ take-append_seam maps.rows fresh) in
    let back : drop start now ≡ fresh =
    ap (λ (k : ℕ). drop k now) is_start ∙ (ap (drop (length maps.rows)) parts ∙ drop-append_seam maps.rows fresh) in
    let long : length now ≡ length maps.rows + length fresh = ap length parts ∙ length-append maps.rows fresh in
    record {
      within = omega (arith, long, is_start);
      holds = is_held ∙ ap owned (sym front);
      apart = subst AreApart (sym parts) (chunk_apart maps chunk can own);
      room = omega (arith, long, chunk_length chunk, can.room, in_mapper);
      few = omega (arith, small, counted, can.calls);
      near = subst (All IsWithin) (sym back) (chunk_near maps chunk can);
    }

-- the rows at the end
pub chunk_rows_after : (maps : MapsView) (chunk : Chunk) (run : Run) (now rows : List Row) (start : ℕ) (ended : Caught)
    → CanAttach maps chunk → run ≡ run_of_chunk chunk → now ≡ maps.rows ++ undropped [] (rows_of run 0) → start ≡ length maps.rows
    → rows ≡ rows_mapped now start ended → rows ≡ rows_after maps.rows (rows_of_chunk chunk) ended
chunk_rows_after maps chunk run now rows start ended can is_run is_now is_start is_rows = is_rows ∙ by_caught ended
  where
    parts : now ≡ maps.rows ++ rows_of_chunk chunk
    parts = is_now ∙ ap (λ l. maps.rows ++ l) (chunk_fresh chunk run is_run)

    front : take start now ≡ maps.rows
    front =
        ap (λ (k : ℕ). take k now) is_start ∙ (ap (take (length maps.rows)) parts ∙ take-append_seam maps.rows (rows_of_chunk chunk))

    by_caught : (end : Caught) → rows_mapped now start end ≡ rows_after maps.rows (rows_of_chunk chunk) end
    by_caught caught.Done = parts
    by_caught (caught.Refused row call) = front
    by_caught (caught.Elsewhere row call got) = front

pub chunk_back : (maps : MapsView) (chunk : Chunk) (run : Run) (now : List Row) (start : ℕ) → CanAttach maps chunk
    → run ≡ run_of_chunk chunk → now ≡ maps.rows ++ undropped [] (rows_of run 0) → start ≡ length maps.rows → drop start now ≡ rows_of_chunk chunk
chunk_back maps chunk run now start can is_run is_now is_start =
    let fresh = rows_of_chunk chunk in
    let parts : now ≡ maps.rows ++ fresh = is_now ∙ ap (λ l. maps.rows ++ l) (chunk_fresh chunk run is_run) in
    ap (λ (k : ℕ). drop k now) is_start ∙ (ap (drop (length maps.rows)) parts ∙ drop-append_seam maps.rows fresh)

pub chunk_room_after : (maps : MapsView) (chunk : Chunk) (rows : List Row) (caught : Caught) → CanAttach maps chunk
    → rows ≡ rows_after maps.rows (rows_of_chunk chunk) caught → length rows ≤ maps.capacity
chunk_room_after maps chunk rows caught.Done can is_rows =
    omega (arith, ap length is_rows, length-append maps.rows (rows_of_chunk chunk), chunk_length chunk, can.room)
chunk_room_after maps chunk rows (caught.Refused row call) can is_rows = omega (arith, ap length is_rows, can.room)
chunk_room_after maps chunk rows (caught.Elsewhere row call got) can is_rows = omega (arith, ap length is_rows, can.room)

pub chunk_near_after : (maps : MapsView) (chunk : Chunk) (rows : List Row) (caught : Caught) → CanAttach maps chunk → All IsWithin maps.rows
    → rows ≡ rows_after maps.rows (rows_of_chunk chunk) caught → All IsWithin rows
chunk_near_after maps chunk rows caught.Done can near is_rows =
    subst (All IsWithin) (sym is_rows) (All-append IsWithin maps.rows (rows_of_chunk chunk) near (chunk_near maps chunk can))
chunk_near_after maps chunk rows (caught.Refused row call) can near is_rows = subst (All IsWithin) (sym is_rows) near
chunk_near_after maps chunk rows (caught.Elsewhere row call got) can near is_rows = subst (All IsWithin) (sym is_rows) near
