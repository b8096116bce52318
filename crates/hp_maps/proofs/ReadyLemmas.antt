-- What a participant knows gives the conditions of its calls.
use Rattle.std.proofs.Common.{◌≡◌, ◌≤◌, ◌<◌, ◌⊎◌, ◌==◌, ℕ, ◌+◌, ◌-◌, ◌*◌, Bool, true, false, not, cond, List, [], ◌∷◌, ◌++◌, filter, length, take, drop, refl, ap, ◌∙◌, sym, subst, arith, inl, inr, count_by, eq-eqb}
use Rattle.std.specs.List.{All}
use Rattle.std.proofs.Math.Nat.{add-mul, mul-le-mul_right}
use Rattle.std.proofs.lemmas.Bool.{and_from, cases_Bool, eqb-true}
use Rattle.std.proofs.lemmas.List.{drop-append-le, length-drop, take-append-le}
use Rattle.std.proofs.lemmas.List.Elements.{All-cons, All-head, All-nil, All-tail, All-weaker}
use Rattle.std.proofs.lemmas.List.Sums.{count_by-le-length, length-filter}
use Rattle.hp_base.specs.Mapping.{AreApart, has_addr}
use Rattle.hp_base.specs.declared.caught.Caught.{Caught}
use Rattle.hp_base.specs.declared.caught.Caught.TheVariants as caught
use Rattle.hp_base.specs.declared.row.Row.{Row}
use Rattle.hp_base.specs.declared.row.Run.{Run}
use Rattle.hp_log.specs.Log.{run_in, table_at, table_of}
use Rattle.hp_log.specs.Places.{ArePlacesApart, IsLogOf, IsOutside, IsRowOf, IsRunOf, IsSmallPlace, ListPlace, place_end, slots_in}
use Rattle.hp_log.specs.Rows.{at_slot}
use Rattle.hp_log.specs.declared.log_record.LogRecord.{LogRecord}
use Rattle.hp_log.proofs.Counts.{count_append, count_cons, count_none, count_split}
use Rattle.hp_log.proofs.PlaceLemmas.{at_list, one_place, placed_at, within_place}
use Rattle.hp_maps.specs.Catching.{IsMappableRun, Lags, is_dropped, kept, new_rows, newer, number_after, undropped}
use Rattle.hp_maps.specs.Chunks.{rows_of_chunk}
use Rattle.hp_maps.specs.Laws.{AreAtOneSlot}
use Rattle.hp_maps.specs.MapsView.{chunk_rows, table_in}
use Rattle.hp_maps.specs.Ready.{AreBeside, IsReadyToAttach, IsReadyToCatchUp, NewIsReady, StaysReady, TellsOneARecord}
use Rattle.hp_maps.proofs.ApartLemmas.{apart_behind, clear_of}
use Rattle.hp_maps.proofs.BesideLemmas.{beside_both}
use Rattle.hp_maps.proofs.CatchLemmas.{count_parts, kept_apart, length_parts}
use Rattle.hp_maps.proofs.EventFacts.FewEvents.{caught_few, lag_placed}
use Rattle.hp_maps.proofs.LawLemmas.{log_apart}

-- a run of a list is mappable
run_mappable : (lists : List ListPlace) (run : Run) → All IsSmallPlace lists → IsRunOf lists run → IsMappableRun run
run_mappable lists run small at =
    let place = at_list IsSmallPlace lists run.list at.place small at.its_list in
    let most : (run.first + run.count) * at.place.page ≤ at.place.slots * at.place.page = mul-le-mul_right at.place.page at.within in
    let bytes : run.count * run.page ≡ run.count * at.place.page = ap (λ p. run.count * p) at.size in
    let further : (run.count + 1) * run.page ≡ (run.count + 1) * at.place.page = ap (λ p. (run.count + 1) * p) at.size in
    record {
      small = record {
        slots = omega (arith, at.within, place.few);
        addr = omega (arith, at.addr, add-mul run.first run.count at.place.page, most, bytes, place.beyond);
      };
      beyond =
          omega (
            arith,
            at.addr,
            add-mul run.first run.count at.place.page,
            add-mul run.count 1 at.place.page,
            most,
            further,
            place.beyond,
          );
    }

-- rows at their places of one address are at one slot
at_one_slot : (lists : List ListPlace) (rows : List Row) → All IsSmallPlace lists → ArePlacesApart lists → All (IsRowOf lists) rows
    → AreAtOneSlot rows
at_one_slot lists [] small apart placed addr = (0, 0, All-nil (λ row. has_addr addr row ≡ true → at_slot 0 0 row ≡ true))
at_one_slot lists (row ∷ rows) small apart placed addr =
    let rest = at_one_slot lists rows small apart (All-tail (IsRowOf lists) row rows placed) addr in
    let here = All-head (IsRowOf lists) row rows placed in
    elim (cases_Bool (has_addr addr row)) [
      | inr other ↦ (
        rest.0,
        rest.1,
        All-cons (λ row. has_addr addr row ≡ true → at_slot rest.0 rest.1 row ≡ true) row rows
            (λ is.
            let wrong : true ≡ false = sym is ∙ other in
            cc)
            rest.2,
      )
      | inl first ↦ (
        row.list,
        row.slot,
        All-weaker (IsRowOf lists) (λ r. has_addr addr r ≡ true → at_slot row.list row.slot r ≡ true)
            (λ r there is.
            let same : r.addr ≡ row.addr = eqb-true r.addr addr is ∙ sym (eqb-true row.addr addr first) in
            let one = one_place lists row r small apart here there same in
            and_from (r.list == row.list) (r.slot == row.slot) (eq-eqb r.list row.list one.0) (eq-eqb r.slot row.slot one.1))
            (row ∷ rows) placed,
      )
    ]

-- rows in the lists and rows outside of them have no address in common
outside_none : (lists : List ListPlace) (row : Row) (rows : List Row) → All IsSmallPlace lists → IsRowOf lists row
    → All (λ row. IsOutside lists row.addr) rows → count_by (has_addr row.addr) rows ≡ 0
outside_none lists row rows small at outside =
    count_none (has_addr row.addr) rows
    (All-weaker (λ row. IsOutside lists row.addr) (λ other. has_addr row.addr other ≡ false) (λ other away. differs other away) rows outside)
  where
    differs : (other : Row) → IsOutside lists other.addr → has_addr row.addr other ≡ false
    differs other away =
        elim (cases_Bool (has_addr row.addr other)) [
          | inr is ↦ is
          | inl is ↦
              let same : other.addr ≡ row.addr = eqb-true other.addr row.addr is in
              let within = within_place lists row small at in
              let here = at_list (λ place. (other.addr < place.base) ⊎ (place_end place ≤ other.addr)) lists row.list at.place away at.its_list in
              absurd (elim here [
                | inl before ↦ omega (arith, before, within.0, same)
                | inr behind ↦ omega (arith, behind, within.1, same)
              ])
        ]

abbrev one_if : Bool → ℕ
one_if b = cond b 1 0

apart_tail : (row : Row) (rows : List Row) → AreApart (row ∷ rows) → AreApart rows
apart_tail row rows apart addr =
    let once = apart addr in
    omega (arith, once, count_cons (has_addr addr) row rows)

both_once : (lists : List ListPlace) (rows chunks : List Row) → All IsSmallPlace lists → All (IsRowOf lists) rows → AreApart rows
    → AreBeside lists chunks → (addr : ℕ) → count_by (has_addr addr) rows + count_by (has_addr addr) chunks ≤ 1
both_once lists [] chunks small placed apart beside addr =
    let once = beside.apart addr in
    omega (arith, once)
both_once lists (row ∷ rows) chunks small placed apart beside addr =
    let rest =
    both_once lists rows chunks small (All-tail (IsRowOf lists) row rows placed) (apart_tail row rows apart) beside addr in
    let counted = count_cons (has_addr addr) row rows in
    elim (cases_Bool (has_addr addr row)) [
      | inr other ↦
          let nothing : one_if (has_addr addr row) ≡ 0 = ap one_if other in
          omega (arith, rest, counted, nothing)
      | inl is ↦
          let same : row.addr ≡ addr = eqb-true row.addr addr is in
          let none : count_by (has_addr addr) chunks ≡ 0 =
          subst (λ a. count_by (has_addr a) chunks ≡ 0) same
          (outside_none lists row chunks small (All-head (IsRowOf lists) row rows placed) beside.outside) in
          let once = apart addr in
          omega (arith, none, once)
    ]

table_apart : (lists : List ListPlace) (records : List LogRecord) (n : ℕ) → IsLogOf lists records → AreApart (table_at records n)
table_apart lists records n log =
    log_apart records n log.formed (at_one_slot lists (table_at records n) log.small log.apart (placed_at lists records n log.runs))

pub ready_to_catch_up : IsReadyToCatchUp
ready_to_catch_up lists maps records to ready =
    let log = ready.log in
    let fits = log.fits to in
    let apart = kept_apart maps records to ready.from ready.within ready.lags
    (λ addr.
    omega (
      arith,
      both_once lists (table_at records to) (chunk_rows maps.rows) log.small (placed_at lists records to log.runs)
          (table_apart lists records to log) ready.chunks addr,
      count_append (has_addr addr) (chunk_rows maps.rows) (table_at records to),
    )) in
    let stay = kept (newer records maps.number to) maps.rows in
    let fresh = new_rows maps.number (newer records maps.number to) in
    record {
      from = ready.from;
      within = ready.within;
      formed = log.formed;
      mappable =
          All-weaker (λ entry. IsRunOf lists (run_in entry)) (λ entry. IsMappableRun (run_in entry))
          (λ entry at. run_mappable lists (run_in entry) log.small at) records log.runs;
      lags = ready.lags;
      room = omega (arith, ready.room, fits);
      clear = clear_of stay fresh apart;
      apart = apart_behind stay fresh apart;
      calls = ready.calls;
    }

pub tells_one_a_record : TellsOneARecord
tells_one_a_record lists maps records to ended ready =
    caught_few lists maps.rows records maps.number to ended ready.log ready.lags ready.from ready.within

-- a table that lags has no two rows of one address, and no more rows than there are slots
lag_apart : (lists : List ListPlace) (records : List LogRecord) (n to : ℕ) (table : List Row) → IsLogOf lists records → Lags records n to table
    → AreApart table
lag_apart lists records n to table log lag addr =
    let gone = newer records n lag.reached in
    let once = table_apart lists records n log addr in
    let fewer = count_split (has_addr addr) (λ row. not (is_dropped gone row)) (table_at records n) in
    let same : count_by (has_addr addr) table ≡ count_by (has_addr addr) (filter (λ row. not (is_dropped gone row)) (table_at records n)) =
    ap (count_by (has_addr addr)) lag.left in
    omega (arith, once, fewer, same)

lag_fits : (lists : List ListPlace) (records : List LogRecord) (n to : ℕ) (table : List Row) → IsLogOf lists records → Lags records n to table
    → length table ≤ slots_in lists
lag_fits lists records n to table log lag =
    let gone = newer records n lag.reached in
    let fits = log.fits n in
    omega (
      arith,
      fits,
      ap length lag.left,
      length-filter (λ row. not (is_dropped gone row)) (table_at records n),
      count_by-le-length (λ row. not (is_dropped gone row)) (table_at records n),
    )

pub ready_to_attach : IsReadyToAttach
ready_to_attach lists maps records to chunk ready clear pages room =
    let table = table_in maps.rows in
    let log = ready.log in
    let placed = lag_placed lists records maps.number to table log.runs ready.lags in
    let beside = beside_both lists (chunk_rows maps.rows) chunk ready.chunks clear in
    record {
      memory = clear.memory;
      pages = pages;
      clear = clear_of maps.rows (rows_of_chunk chunk)
          (λ addr.
          omega (
            arith,
            both_once lists table (chunk_rows maps.rows ++ rows_of_chunk chunk) log.small placed
                (lag_apart lists records maps.number to table log ready.lags) beside addr,
            count_append (has_addr addr) (chunk_rows maps.rows) (rows_of_chunk chunk),
            count_append (has_addr addr) maps.rows (rows_of_chunk chunk),
            count_parts (has_addr addr) maps.rows,
          ));
      room = omega (arith, room, lag_fits lists records maps.number to table log ready.lags, length_parts maps.rows);
      calls = ready.calls;
    }

-- a table lags behind a longer log as it did behind the shorter one
pub lags_behind_more : (records more : List LogRecord) (n to further : ℕ) (table : List Row) → to ≤ length records → to ≤ further
    → Lags records n to table → Lags (records ++ more) n further table
lags_behind_more records more n to further table within beyond lag =
    let from = lag.from in
    let up_to = lag.up_to in
    let before : table_at (records ++ more) n ≡ table_at records n = ap table_of (take-append-le n records more (omega (arith, from, up_to, within))) in
    let behind : drop n (records ++ more) ≡ drop n records ++ more = drop-append-le n records more (omega (arith, from, up_to, within)) in
    let long : lag.reached - n ≤ length (drop n records) = omega (arith, from, up_to, within, length-drop n records) in
    let seen : newer (records ++ more) n lag.reached ≡ newer records n lag.reached =
    ap (take (lag.reached - n)) behind ∙ take-append-le (lag.reached - n) (drop n records) more long in
    record {
      reached = lag.reached;
      from = from;
      up_to = omega (arith, up_to, beyond);
      left =
          lag.left
          ∙ sym (ap (undropped (newer (records ++ more) n lag.reached)) before
          ∙ ap (λ (l : List LogRecord). undropped l (table_at records n)) seen);
    }

pub new_is_ready : NewIsReady
new_is_ready lists capacity faults may_fail records to log within room = record {
  from = omega arith;
  within = within;
  log = log;
  lags = record { reached = 0; from = omega arith; up_to = omega arith; left = refl };
  chunks = record { outside = All-nil (λ row. IsOutside lists row.addr); apart = λ addr. omega arith };
  room = omega (arith, room);
  calls = omega arith;
}

number_within : (n to : ℕ) (ended : Caught) → n ≤ to → number_after n to ended ≤ to
number_within n to caught.Done from = omega arith
number_within n to (caught.Refused row call) from = from
number_within n to (caught.Elsewhere row call got) from = from

pub stays_ready : StaysReady
stays_ready lists old new records more to further ended ready number capacity lags chunks calls log up_to within =
    let room = ready.room in
    record {
      from = omega (arith, number_within old.number to ended ready.from, number, up_to);
      within = within;
      log = log;
      lags = lags_behind_more records more new.number to further (table_in new.rows) ready.within up_to lags;
      chunks = subst (AreBeside lists) (sym chunks) ready.chunks;
      room = omega (arith, room, capacity, ap length chunks);
      calls = calls;
    }
