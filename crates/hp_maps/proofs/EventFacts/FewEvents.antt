-- A catch-up of a table that lags behind a log of lists that lie apart tells no more events than it takes in records.
use Rattle.std.proofs.Common.{◌≡◌, ◌≤◌, ℕ, ◌+◌, ◌-◌, Bool, true, false, not, ◌||◌, List, [], ◌∷◌, ◌++◌, length, take, drop, get_or, refl, ap, ◌∙◌, sym, subst, arith, inl, inr, length-append, length-take, append_assoc}
use Rattle.std.specs.List.{All}
use Rattle.std.proofs.lemmas.List.{take-append-drop}
use Rattle.std.proofs.lemmas.List.Elements.{All-drop, All-filter, All-head, All-nil, All-tail, All-take, filter_passes}
use Rattle.hp_base.specs.declared.caught.Caught.{Caught}
use Rattle.hp_base.specs.declared.caught.Caught.TheVariants as caught
use Rattle.hp_base.specs.declared.event.EventKind.TheVariants.{Alloc}
use Rattle.hp_base.specs.declared.row.Row.{Row}
use Rattle.hp_log.specs.Log.{AllMayFollow, run_in, table_at, table_from}
use Rattle.hp_log.specs.Places.{IsLogOf, IsRowOf, IsRunOf, ListPlace}
use Rattle.hp_log.specs.Rows.{in_run, rows_at}
use Rattle.hp_log.specs.declared.log_record.LogRecord.{LogRecord}
use Rattle.hp_log.specs.declared.log_record.LogRecord.TheVariants.{Add, Drop}
use Rattle.hp_log.proofs.LogLemmas.{all_follow_back, all_follow_front}
use Rattle.hp_log.proofs.PlaceLemmas.{placed_at}
use Rattle.hp_log.proofs.TableLemmas.{once_at}
use Rattle.hp_maps.specs.Catching.{Lags, drops, is_dropped, new_rows, newer, undropped}
use Rattle.hp_maps.specs.Events.{caught_events, dropped_events, events_of, joins_by}
use Rattle.hp_maps.specs.MapsView.{is_of_log, table_in}
use Rattle.hp_maps.proofs.EndLemmas.{events_end, last_rows}
use Rattle.hp_maps.proofs.EventFacts.FewLemmas.{AllStand, IsUnderWay, Stands, left, told_few}
use Rattle.hp_maps.proofs.ListFacts.{any_none, filter_agree, filter_keeps, kept_have}
use Rattle.hp_maps.proofs.TableLaw.{append_nothing, every, newer_parts, table_from_new, undropped_lag, undropped_none, undropped_twice}

or_false : (b : Bool) → (b || false) ≡ b
or_false true = refl
or_false false = refl

-- what one record leaves
left_is : (entry : LogRecord) (rows : List Row) → undropped (entry ∷ []) rows ≡ left entry rows
left_is (Add run heap) rows = filter_keeps (λ row. true) rows (every (λ row. true ≡ true) (λ row. refl) rows)
left_is (Drop run) rows =
    filter_agree (λ row. not (is_dropped (Drop run ∷ []) row)) (λ row. not (in_run run row)) rows
    (every _ (λ row. ap not (or_false (in_run run row))) rows)

left_more : (rows : List Row) (before : List LogRecord) (old : List Row) (entry : LogRecord) → undropped before (table_in rows) ≡ old
    → undropped (before ++ entry ∷ []) (table_in rows) ≡ left entry old
left_more rows before old entry same =
    sym (undropped_twice before (entry ∷ []) (table_in rows)) ∙ (ap (undropped (entry ∷ [])) same ∙ left_is entry old)

-- once the old rows are those that stand, they stay so
stand_left : (rows : List Row) (before : List LogRecord) (old : List Row) (records : List LogRecord) → undropped before (table_in rows) ≡ old
    → AllStand rows before old records
stand_left rows before old [] same = tt
stand_left rows before old (Add run heap ∷ records) same =
    (tt, stand_left rows (before ++ Add run heap ∷ []) old records (left_more rows before old (Add run heap) same))
stand_left rows before old (Drop run ∷ records) same =
    (inr same, stand_left rows (before ++ Drop run ∷ []) (left (Drop run) old) records (left_more rows before old (Drop run) same))

-- no row of a table is dropped by the record
abbrev IsGone : List Row → LogRecord → Type 0
IsGone rows entry = All (λ row. drops row entry ≡ false) (table_in rows)

gone_stands : (rows : List Row) (before : List LogRecord) (old : List Row) (entry : LogRecord) → IsGone rows entry → Stands rows before old entry
gone_stands rows before old (Add run heap) gone = tt
gone_stands rows before old (Drop run) gone = inl gone

-- records whose rows are gone already, in front of others
stand_gone : (rows : List Row) (before : List LogRecord) (old : List Row) (first later : List LogRecord) → All (IsGone rows) first
    → AllStand rows (before ++ first) (undropped first old) later → AllStand rows before old (first ++ later)
stand_gone rows before old [] later gone rest =
    subst (λ b. AllStand rows b old later) (append_nothing before)
    (subst (λ l. AllStand rows (before ++ []) l later) (undropped_none old) rest)
stand_gone rows before old (entry ∷ first) later gone rest =
    let seen : before ++ (entry ∷ first) ≡ (before ++ entry ∷ []) ++ first = sym (append_assoc before (entry ∷ []) first) in
    let same : undropped (entry ∷ first) old ≡ undropped first (left entry old) =
    sym (undropped_twice (entry ∷ []) first old) ∙ ap (undropped first) (left_is entry old) in (
      gone_stands rows before old entry (All-head (IsGone rows) entry first gone),
      stand_gone rows (before ++ entry ∷ []) (left entry old) first later (All-tail (IsGone rows) entry first gone)
          (subst (λ b. AllStand rows b (undropped first (left entry old)) later) seen
          (subst (λ l. AllStand rows (before ++ (entry ∷ first)) l later) same rest)),
    )

from_not : (b : Bool) → not b ≡ true → b ≡ false
from_not true is = cc
from_not false is = refl

-- of what records left, they drop nothing
all_gone : (rows all : List Row) (first : List LogRecord) → table_in rows ≡ undropped first all → All (IsGone rows) first
all_gone rows all first is =
    let none : All (λ row. not (is_dropped first row) ≡ true) (table_in rows) =
    subst (λ l. All (λ row. not (is_dropped first row) ≡ true) l) (sym is) (filter_passes (λ row. not (is_dropped first row)) all) in
    λ k d within. λ j e below.
    any_none (drops (get_or (table_in rows) j e)) first (from_not (is_dropped first (get_or (table_in rows) j e)) (none j e below)) k d within

-- a well-formed log goes on so after its first records
newer_follow : (records : List LogRecord) (n to : ℕ) → n ≤ length records → AllMayFollow 0 [] records
    → AllMayFollow n (table_at records n) (newer records n to)
newer_follow records n to within formed =
    let whole : AllMayFollow 0 [] (take n records ++ drop n records) =
    subst (λ l. AllMayFollow 0 [] l) (sym (take-append-drop n records)) formed in
    let back : AllMayFollow (0 + length (take n records)) (table_at records n) (drop n records) =
    all_follow_back 0 [] (take n records) (drop n records) whole in
    let long : 0 + length (take n records) ≡ n = omega (arith, length-take n records) in
    let behind : AllMayFollow n (table_at records n) (drop n records) =
    subst (λ k. AllMayFollow k (table_at records n) (drop n records)) long back in
    all_follow_front n (table_at records n) (newer records n to) (drop (to - n) (drop n records))
    (subst (λ l. AllMayFollow n (table_at records n) l) (sym (take-append-drop (to - n) (drop n records))) behind)

-- where the rows of a table that lags lie
pub lag_placed : (lists : List ListPlace) (records : List LogRecord) (n to : ℕ) (table : List Row)
    → All (λ entry. IsRunOf lists (run_in entry)) records → Lags records n to table → All (IsRowOf lists) table
lag_placed lists records n to table runs lag =
    let gone = newer records n lag.reached in
    subst (All (IsRowOf lists)) (sym lag.left)
    (All-filter (λ row. not (is_dropped gone row)) (IsRowOf lists) (table_at records n)
    (placed_at lists records n runs))

under_way : (lists : List ListPlace) (rows : List Row) (records : List LogRecord) (n to : ℕ) → IsLogOf lists records
    → Lags records n to (table_in rows) → n ≤ to → to ≤ length records
    → IsUnderWay lists rows [] n (table_at records n) [] (newer records n to)
under_way lists rows records n to log lag from within =
    let (later, parts) = newer_parts records n lag.reached to lag.from lag.up_to in
    let gone = newer records n lag.reached in
    let whole : table_at records n ≡ table_at records n ++ [] = sym (append_nothing (table_at records n)) in
    let same : undropped gone (table_in rows) ≡ undropped gone (table_at records n) =
    ap (undropped gone) lag.left ∙ undropped_lag records n lag.reached lag.reached (table_at records n) lag.from (omega arith) in
    record {
      follow = subst (λ table. AllMayFollow n table (newer records n to)) whole (newer_follow records n to (omega (arith, from, within)) log.formed);
      once = λ list slot. subst (λ table. rows_at table list slot ≤ 1) whole (once_at records log.formed n list slot);
      placed = All-nil (IsRowOf lists);
      runs =
          All-take (λ entry. IsRunOf lists (run_in entry)) (to - n) (drop n records)
          (All-drop (λ entry. IsRunOf lists (run_in entry)) n records log.runs);
      stand =
          subst (AllStand rows [] (table_at records n)) (sym parts)
          (stand_gone rows [] (table_at records n) gone later (all_gone rows (table_at records n) gone lag.left)
          (stand_left rows gone (undropped gone (table_at records n)) later same));
    }

pub caught_few : (lists : List ListPlace) (rows : List Row) (records : List LogRecord) (n to : ℕ) (ended : Caught) → IsLogOf lists records
    → Lags records n to (table_in rows) → n ≤ to → to ≤ length records
    → length (caught_events rows n (newer records n to) ended) ≤ to - n
caught_few lists rows records n to ended log lag from within =
    let fresh = new_rows n (newer records n to) in
    let known : All (λ row. is_of_log row ≡ true → IsRowOf lists row) rows =
    kept_have is_of_log (IsRowOf lists) rows (lag_placed lists records n to (table_in rows) log.runs lag) in
    let told =
    told_few lists log.small rows known [] n (table_at records n) [] (newer records n to) (under_way lists rows records n to log lag from within) in
    let come : length (last_rows (joins_by Alloc) (table_from n [] (newer records n to))) ≡ length (last_rows (joins_by Alloc) fresh) =
    ap (λ l. length (last_rows (joins_by Alloc) l)) (table_from_new n [] (newer records n to)) in
    let all : length (dropped_events rows [] (newer records n to)) + length (events_of Alloc fresh) ≤ to - n =
    omega (arith, told, come, events_end Alloc fresh, length-take (to - n) (drop n records)) in
    by_end ended all
  where
    by_end : (ended : Caught)
        → length (dropped_events rows [] (newer records n to)) + length (events_of Alloc (new_rows n (newer records n to))) ≤ to - n
        → length (caught_events rows n (newer records n to) ended) ≤ to - n
    by_end caught.Done all =
        omega (arith, all, length-append (dropped_events rows [] (newer records n to)) (events_of Alloc (new_rows n (newer records n to))))
    by_end (caught.Refused row call) all = omega (arith, all)
    by_end (caught.Elsewhere row call got) all = omega (arith, all)
