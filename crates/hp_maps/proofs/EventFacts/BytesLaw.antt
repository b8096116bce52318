-- The events of a catch-up, and those of the end, tell what becomes of the bytes of the log's rows.
use Rattle.std.proofs.Common.{◌≡◌, ◌≤◌, ◌<◌, ◌==◌, ℕ, ◌+◌, ◌*◌, Bool, true, false, not, ◌&&◌, ◌||◌, cond, Some, List, [], ◌∷◌, ◌++◌, refl, ap, ◌∙◌, sym, subst, arith, inl, inr, count_by, eq-eqb}
use Rattle.std.specs.List.{All, slice_get}
use Rattle.std.proofs.Math.Nat.{add-mul, mul-le-mul_right}
use Rattle.std.proofs.lemmas.Bool.{and_from, cases_Bool, cases_eq, cases_lt}
use Rattle.std.proofs.lemmas.List.Elements.{All-cons, All-head, All-nil, All-tail, All-weaker, filter-append}
use Rattle.std.proofs.lemmas.List.Sorted.{list_any-IsPermutation, sum_by-IsPermutation}
use Rattle.hp_base.specs.declared.caught.Caught.{Caught}
use Rattle.hp_base.specs.declared.caught.Caught.TheVariants as caught
use Rattle.hp_base.specs.declared.event.EventKind.TheVariants.{Alloc}
use Rattle.hp_base.specs.declared.row.Row.{Row}
use Rattle.hp_log.specs.Log.{table_at}
use Rattle.hp_log.specs.Places.{ArePlacesApart, IsLogOf, IsRowOf, ListPlace, place_end}
use Rattle.hp_log.specs.Rows.{at_slot}
use Rattle.hp_log.specs.declared.log_record.LogRecord.{LogRecord}
use Rattle.hp_log.proofs.Counts.{any_counts, count_append, none_counts}
use Rattle.hp_log.proofs.PlaceLemmas.{placed_at}
use Rattle.hp_maps.specs.Bytes.{AreTold, bytes_after_all, has_byte, in_row}
use Rattle.hp_maps.specs.Catching.{is_dropped, kept, new_rows, newer, rows_after}
use Rattle.hp_maps.specs.Events.{caught_events, dropped_events, events_of}
use Rattle.hp_maps.specs.MapsView.{MapsView, chunk_rows, is_of_log, table_in}
use Rattle.hp_maps.specs.Ready.{IsReady, TellsBytes, TellsTheEnd}
use Rattle.hp_maps.proofs.EventFacts.ByteLemmas.{Allocs, Frees, after_append, all_freed, alloc_rows, any_append, dropped_frees, fit_append, free_rows, from_row, once_back}
use Rattle.hp_maps.proofs.CatchLemmas.{lag_caught, table_kept, table_new}
use Rattle.hp_maps.proofs.SlotLemmas.{lag_few, own_slots}
use Rattle.hp_maps.proofs.EventFacts.FreedCounts.{count_both, freed_count, going}
use Rattle.hp_maps.proofs.LawLemmas.{count_fewer, one_row_a_slot}
use Rattle.hp_maps.proofs.ListFacts.{filter_twice, uncounted}

abbrev one_if : Bool → ℕ
one_if b = cond b 1 0

-- where the bytes of a row at its place lie
record LiesIn (byte : ℕ) (place : ListPlace) (slot : ℕ) : Type 0 where
  low : place.base + slot * place.page ≤ byte
  high : byte < place.base + slot * place.page + place.page
  ends : byte < place_end place

lies_in : (lists : List ListPlace) (byte : ℕ) (row : Row) → (at : IsRowOf lists row) → in_row byte row ≡ true → LiesIn byte at.place row.slot
lies_in lists byte row at is =
    let inside = from_row byte row is in
    let page = at.place.page in
    let most : (row.slot + 1) * page ≤ at.place.slots * page = mul-le-mul_right page (omega (arith, at.within)) in
    record {
      low = omega (arith, inside.0, at.addr);
      high = omega (arith, inside.1, at.addr, at.size);
      ends = omega (arith, inside.1, at.addr, at.size, most, add-mul row.slot 1 page);
    }

-- a slot whose bytes lie before those of another is another one
slot_before : (byte : ℕ) (place : ListPlace) (slot other : ℕ) → LiesIn byte place slot → LiesIn byte place other → slot < other → ⊥
slot_before byte place slot other here there before =
    let most : (slot + 1) * place.page ≤ other * place.page = mul-le-mul_right place.page (omega (arith, before)) in
    omega (arith, here.high, there.low, most, add-mul slot 1 place.page)

one_slot : (byte : ℕ) (place : ListPlace) (slot other : ℕ) → LiesIn byte place slot → LiesIn byte place other → other ≡ slot
one_slot byte place slot other here there =
    elim (cases_lt slot other) [
      | inl before ↦ absurd (slot_before byte place slot other here there before)
      | inr behind ↦
          elim (cases_lt other slot) [
            | inl before ↦ absurd (slot_before byte place other slot there here before)
            | inr same ↦ omega (arith, behind, same)
          ]
    ]

-- rows at their places that share a byte are at one slot
byte_place : (lists : List ListPlace) (byte : ℕ) (row other : Row) → ArePlacesApart lists → IsRowOf lists row → IsRowOf lists other
    → in_row byte row ≡ true → in_row byte other ≡ true → (other.list ≡ row.list) × (other.slot ≡ row.slot)
byte_place lists byte row other apart at there here away =
    let lies = lies_in lists byte row at here in
    let lies_there = lies_in lists byte other there away in
    elim (cases_eq other.list row.list) [
      | inl list ↦
          let both : Some there.place ≡ Some at.place = sym there.its_list ∙ (ap (slice_get lists) list ∙ at.its_list) in
          let place : there.place ≡ at.place = cc in
          (list, one_slot byte at.place row.slot other.slot lies (subst (λ (p : ListPlace). LiesIn byte p other.slot) place lies_there))
      | inr different ↦ absurd (elim (apart other.list row.list there.place at.place different there.its_list at.its_list) [
        | inl before ↦ omega (arith, before, lies.low, lies_there.ends)
        | inr behind ↦ omega (arith, behind, lies_there.low, lies.ends)
      ])
    ]

-- the rows that have a byte are at one slot
at_one_slot : (lists : List ListPlace) (rows : List Row) → ArePlacesApart lists → All (IsRowOf lists) rows → (byte : ℕ)
    → (list : ℕ) × (slot : ℕ) × All (λ row. in_row byte row ≡ true → at_slot list slot row ≡ true) rows
at_one_slot lists [] apart placed byte = (0, 0, All-nil (λ row. in_row byte row ≡ true → at_slot 0 0 row ≡ true))
at_one_slot lists (row ∷ rows) apart placed byte =
    let rest = at_one_slot lists rows apart (All-tail (IsRowOf lists) row rows placed) byte in
    let here = All-head (IsRowOf lists) row rows placed in
    elim (cases_Bool (in_row byte row)) [
      | inr other ↦ (
        rest.0,
        rest.1,
        All-cons (λ row. in_row byte row ≡ true → at_slot rest.0 rest.1 row ≡ true) row rows
            (λ is.
            let wrong : true ≡ false = sym is ∙ other in
            cc)
            rest.2,
      )
      | inl first ↦ (
        row.list,
        row.slot,
        All-weaker (IsRowOf lists) (λ r. in_row byte r ≡ true → at_slot row.list row.slot r ≡ true)
            (λ r there is.
            let one = byte_place lists byte row r apart here there first is in
            and_from (r.list == row.list) (r.slot == row.slot) (eq-eqb r.list row.list one.0) (eq-eqb r.slot row.slot one.1))
            (row ∷ rows) placed,
      )
    ]

-- no two rows of a table share a byte
log_bytes : (lists : List ListPlace) (records : List LogRecord) (n : ℕ) → IsLogOf lists records → (byte : ℕ)
    → count_by (in_row byte) (table_at records n) ≤ 1
log_bytes lists records n log byte =
    let at = at_one_slot lists (table_at records n) log.apart (placed_at lists records n log.runs) byte in
    let once = one_row_a_slot records log.formed n at.0 at.1 in
    omega (arith, count_fewer (in_row byte) (at_slot at.0 at.1) (table_at records n) at.2, once)

one_of : (l d : Bool) → one_if (l && d) + one_if (l && not d) ≡ one_if l
one_of true true = refl
one_of true false = refl
one_of false d = refl

-- the rows that records unmap and those that stay are all rows of the table
gone_and_left : (p : Row → Bool) (rows : List Row) (records : List LogRecord)
    → ((list slot : ℕ) → count_by (λ row. at_slot list slot row && is_of_log row) rows ≤ 1)
    → count_by p (all_freed rows [] records) + count_by p (table_in (kept records rows)) ≡ count_by p (table_in rows)
gone_and_left p rows records once =
    omega (
      arith,
      freed_count p rows once [] records,
      ap (count_by p) (table_kept records rows),
      ap (count_by p) (filter_twice (λ row. not (is_dropped records row)) is_of_log rows),
      count_both p (going [] records) (λ row. is_of_log row && not (is_dropped records row)) is_of_log
          (λ row. one_of (is_of_log row) (is_dropped records row)) rows,
    )

some_byte : (byte : ℕ) (rows : List Row) → 1 ≤ count_by (in_row byte) rows → has_byte rows byte ≡ true
some_byte byte rows some =
    elim (cases_Bool (has_byte rows byte)) [
      | inl there ↦ there
      | inr none ↦ absurd (omega (arith, some, none_counts (in_row byte) rows none))
    ]

and_false : (b : Bool) → (b && false) ≡ false
and_false true = refl
and_false false = refl

-- what is left of bytes once those of some rows are gone
bytes_left : (byte : ℕ) (gone left table : List Row) → count_by (in_row byte) gone + count_by (in_row byte) left ≡ count_by (in_row byte) table
    → count_by (in_row byte) table ≤ 1 → (has_byte table byte && not (has_byte gone byte)) ≡ has_byte left byte
bytes_left byte gone left table both once =
    elim (cases_Bool (has_byte left byte)) [
      | inl there ↦
          let some = any_counts (in_row byte) left there in
          let none : has_byte gone byte ≡ false = uncounted (in_row byte) gone (omega (arith, some, both, once)) in
          and_from (has_byte table byte) (not (has_byte gone byte)) (some_byte byte table (omega (arith, some, both))) (ap not none) ∙ sym there
      | inr nothing ↦
          elim (cases_Bool (has_byte gone byte)) [
            | inl went ↦ ap (λ b. has_byte table byte && not b) went ∙ (and_false (has_byte table byte) ∙ sym nothing)
            | inr none ↦
                let empty : has_byte table byte ≡ false =
                uncounted (in_row byte) table
                (omega (arith, both, none_counts (in_row byte) left nothing, none_counts (in_row byte) gone none)) in
                ap (λ b. b && not (has_byte gone byte)) empty ∙ sym nothing
          ]
    ]

swapped_or : (a b : Bool) → (a || b) ≡ (b || a)
swapped_or true true = refl
swapped_or true false = refl
swapped_or false true = refl
swapped_or false false = refl

module _ (lists : List ListPlace) (maps : MapsView) (records : List LogRecord) (to : ℕ) (ready : IsReady lists maps records to) where
  abbrev table : List Row
  table = table_in maps.rows

  abbrev more : List LogRecord
  more = newer records maps.number to

  abbrev fresh : List Row
  fresh = new_rows maps.number more

  abbrev left : List Row
  left = table_in (kept more maps.rows)

  abbrev gone : List Row
  gone = all_freed maps.rows [] more

  once_table : (byte : ℕ) → count_by (in_row byte) table ≤ 1
  once_table byte =
      omega (arith, lag_few (in_row byte) records maps.number to table ready.lags, log_bytes lists records maps.number ready.log byte)

  once_both : (byte : ℕ) → count_by (in_row byte) (left ++ fresh) ≤ 1
  once_both byte =
      subst (λ l. count_by (in_row byte) l ≤ 1) (lag_caught maps records to ready.from ready.within ready.lags)
      (log_bytes lists records to ready.log byte)

  parts : (byte : ℕ) → count_by (in_row byte) gone + count_by (in_row byte) left ≡ count_by (in_row byte) table
  parts byte =
      gone_and_left (in_row byte) maps.rows more (own_slots records maps.number to maps.rows ready.log.formed ready.lags)

  dropped : Frees (dropped_events maps.rows [] more) (has_byte table) gone
  dropped =
      dropped_frees maps.rows [] more (has_byte table)
      (λ byte.
      let one = once_table byte in
      omega (arith, one, parts byte))
      (λ byte here. some_byte byte table (omega (arith, any_counts (in_row byte) gone here, parts byte)))

  after_drops : (byte : ℕ) → bytes_after_all (dropped_events maps.rows [] more) (has_byte table) byte ≡ has_byte left byte
  after_drops byte = dropped.1 byte ∙ bytes_left byte gone left table (parts byte) (once_table byte)

  come : Allocs (events_of Alloc fresh) (bytes_after_all (dropped_events maps.rows [] more) (has_byte table)) fresh
  come =
      alloc_rows fresh (bytes_after_all (dropped_events maps.rows [] more) (has_byte table))
      (λ byte.
      let one = once_both byte in
      omega (arith, one, count_append (in_row byte) left fresh))
      (λ byte here. after_drops byte ∙ once_back byte left fresh (once_both byte) here)

  -- all rows of the log at the end
  whole : table_in (kept more maps.rows ++ fresh) ≡ left ++ fresh
  whole = filter-append is_of_log (kept more maps.rows) fresh ∙ ap (λ l. left ++ l) (table_new maps.number more)

  told_all : AreTold (dropped_events maps.rows [] more ++ events_of Alloc fresh) table (table_in (kept more maps.rows ++ fresh))
  told_all = record {
    fit = fit_append (dropped_events maps.rows [] more) (events_of Alloc fresh) (has_byte table) dropped.0 come.0;
    leave = λ byte.
        after_append (dropped_events maps.rows [] more) (events_of Alloc fresh) (has_byte table) byte
        ∙ (come.1 byte
        ∙ (ap (λ b. has_byte fresh byte || b) (after_drops byte)
        ∙ (swapped_or (has_byte fresh byte) (has_byte left byte)
        ∙ (sym (any_append byte left fresh) ∙ ap (λ l. has_byte l byte) (sym whole)))));
  }

  told_gone : AreTold (dropped_events maps.rows [] more) table left
  told_gone = record { fit = dropped.0; leave = after_drops }

  by_end : (ended : Caught) → AreTold (caught_events maps.rows maps.number more ended) table (table_in (rows_after (kept more maps.rows) fresh ended))
  by_end caught.Done = told_all
  by_end (caught.Refused row call) = told_gone
  by_end (caught.Elsewhere row call got) = told_gone

pub tells_bytes : TellsBytes
tells_bytes lists maps records to ended rows ready is_rows =
    subst (λ (l : List Row). AreTold (caught_events maps.rows maps.number (newer records maps.number to) ended) (table_in maps.rows) (table_in l)) (sym is_rows)
    (by_end lists maps records to ready ended)

true_nothing : (b : Bool) → (b && not b) ≡ false
true_nothing true = refl
true_nothing false = refl

-- where there is no chunk all rows are the log's
all_of_log : (rows : List Row) → chunk_rows rows ≡ [] → table_in rows ≡ rows
all_of_log [] none = refl
all_of_log (row ∷ rows) none =
    elim (cases_Bool (is_of_log row)) [
      | inl of ↦
          let rest : chunk_rows rows ≡ [] = sym (ap (λ b. cond (not b) (row ∷ chunk_rows rows) (chunk_rows rows)) of) ∙ none in
          ap (λ b. cond b (row ∷ table_in rows) (table_in rows)) of ∙ ap (λ l. row ∷ l) (all_of_log rows rest)
      | inr other ↦
          let wrong : row ∷ chunk_rows rows ≡ [] = sym (ap (λ b. cond (not b) (row ∷ chunk_rows rows) (chunk_rows rows)) other) ∙ none in
          cc
    ]

pub tells_the_end : TellsTheEnd
tells_the_end lists maps records to rising ready same none =
    let all = all_of_log maps.rows none in
    let freed =
    free_rows rising (has_byte (table_in maps.rows))
    (λ byte.
    let one = once_table lists maps records to ready byte in
    omega (
      arith,
      one,
      ap (count_by (in_row byte)) all,
      sum_by-IsPermutation (λ row. one_if (in_row byte row)) maps.rows rising same,
    ))
    (λ byte here. ap (λ l. has_byte l byte) all ∙ (list_any-IsPermutation (in_row byte) maps.rows rising same ∙ here)) in
    record {
      fit = freed.0;
      leave = λ byte.
          freed.1 byte
          ∙ (ap (λ b. b && not (has_byte rising byte)) (ap (λ l. has_byte l byte) all ∙ list_any-IsPermutation (in_row byte) maps.rows rising same)
          ∙ true_nothing (has_byte rising byte));
    }
