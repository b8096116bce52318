-- Rows that are told one after the other are told by their greatest stretches.
use Rattle.std.proofs.Common.{◌≡◌, ◌≤◌, ◌<◌, ℕ, suc, ◌+◌, ◌-◌, Bool, true, false, List, [], ◌∷◌, ◌++◌, length, map, find, drop, take, Option, Some, None, IfSome, option_to_list, refl, ap, ◌∙◌, sym, arith, inl, inr, length-append, add-one, get_or, drop-cons}
use Rattle.std.specs.List.{All}
use Rattle.std.proofs.Math.Seq.{drop-append_seam}
use Rattle.std.proofs.lemmas.List.{length-map}
use Rattle.std.proofs.lemmas.Bool.{cases_Bool, cond-true, cond-false}
use Rattle.std.proofs.lemmas.List.Elements.{All-head, All-tail}
use Rattle.std.proofs.lemmas.List.Sums.{sum_by-cons}
use Rattle.std.specs.Prelude.{sum_by}
use Rattle.hp_base.specs.Mapping.{own_place}
use Rattle.hp_base.specs.Telling.{Listener, told_after}
use Rattle.hp_base.specs.declared.caught.Caught.{Caught}
use Rattle.hp_base.specs.declared.caught.Caught.TheVariants as caught
use Rattle.hp_base.specs.declared.map_answer.MapAnswer.{MapAnswer}
use Rattle.hp_base.specs.declared.event.Event.{Event}
use Rattle.hp_base.specs.declared.event.EventKind.{EventKind}
use Rattle.hp_base.specs.declared.event.EventKind.TheVariants.{Alloc, Free}
use Rattle.hp_base.specs.declared.row.Row.{Row}
use Rattle.hp_base.specs.declared.row.Run.{Run}
use Rattle.hp_log.specs.declared.log_record.LogRecord.{LogRecord}
use Rattle.hp_log.specs.declared.log_record.LogRecord.TheVariants.{Add}
use Rattle.hp_maps.proofs.MapLemmas.{take_more}
use Rattle.hp_maps.specs.Catching.{HasAnswered, kept, new_rows, rows_after}
use Rattle.hp_maps.specs.Events.{all_told, caught_events, dropped_events, event_of, freed_by, events_of, in_front, joins_by, rows_from, stands_at, stretches_of}
use Rattle.hp_maps.specs.MapsView.{MapsView}
use Rattle.hp_maps.specs.TellingInTurn.{ahead, events_from, stretch_after, mapped_events, told_then}
use Rattle.hp_maps.specs.declared.telling.Stretch.{Stretch}

-- the first stretch of rows begins with the first row
pub record Headed (row : Row) (stretches : List (List Row)) : Type 0 where
  pub rest : List Row
  pub others : List (List Row)
  pub first : stretches ≡ (row ∷ rest) ∷ others

pub headed : (joins : Row → Row → Bool) (row : Row) (stretches : List (List Row)) → Headed row (in_front joins row stretches)
headed joins row [] = record { rest = []; others = []; first = refl }
headed joins row ([] ∷ stretches) = record { rest = []; others = stretches; first = refl }
headed joins row ((next ∷ stretch) ∷ stretches) =
    elim (cases_Bool (joins row next)) [
      | inl goes ↦ record { rest = next ∷ stretch; others = stretches; first = cond-true (joins row next) _ _ goes }
      | inr ends ↦ record { rest = []; others = (next ∷ stretch) ∷ stretches; first = cond-false (joins row next) _ _ ends }
    ]

-- events, where the first of them begins elsewhere and is longer
abbrev grown : ℕ → ℕ → List Event → List Event
grown addr more [] = []
grown addr more (event ∷ events) = record { kind = event.kind; addr = addr; len = more + event.len } ∷ events

abbrev starting : EventKind → ℕ → ℕ → Event
starting kind addr len = record { kind = kind; addr = addr; len = len }

pages_more : (row : Row) (rows : List Row) → sum_by (λ (r : Row). r.page) (row ∷ rows) ≡ row.page + sum_by (λ (r : Row). r.page) rows
pages_more row rows = sum_by-cons (λ (r : Row). r.page) row rows

joined : (kind : EventKind) (addr more : ℕ) (row next : Row) (stretches : List (List Row)) → joins_by kind row next ≡ true
    → Headed next stretches
    → grown addr (more + row.page) (map (event_of kind) stretches) ≡ grown addr more (map (event_of kind) (in_front (joins_by kind) row stretches))
joined kind addr more row next stretches goes head =
    let e = head.first in
    let one : grown addr (more + row.page) (map (event_of kind) stretches)
    ≡ starting kind addr (more + row.page + sum_by (λ (r : Row). r.page) (next ∷ head.rest)) ∷ map (event_of kind) head.others =
    ap (λ (s : List (List Row)). grown addr (more + row.page) (map (event_of kind) s)) e in
    let two : in_front (joins_by kind) row stretches ≡ (row ∷ (next ∷ head.rest)) ∷ head.others =
    ap (in_front (joins_by kind) row) e ∙ cond-true (joins_by kind row next) _ _ goes in
    let three : grown addr more (map (event_of kind) (in_front (joins_by kind) row stretches))
    ≡ starting kind addr (more + sum_by (λ (r : Row). r.page) (row ∷ (next ∷ head.rest))) ∷ map (event_of kind) head.others =
    ap (λ (s : List (List Row)). grown addr more (map (event_of kind) s)) two in
    let sums : more + row.page + sum_by (λ (r : Row). r.page) (next ∷ head.rest) ≡ more + sum_by (λ (r : Row). r.page) (row ∷ (next ∷ head.rest)) =
    omega (arith, pages_more row (next ∷ head.rest)) in
    one ∙ (ap (λ (n : ℕ). starting kind addr n ∷ map (event_of kind) head.others) sums ∙ sym three)

ended : (kind : EventKind) (addr more : ℕ) (row next : Row) (stretches : List (List Row)) → joins_by kind row next ≡ false
    → Headed next stretches
    → starting kind addr (more + row.page) ∷ grown next.addr 0 (map (event_of kind) stretches)
    ≡ grown addr more (map (event_of kind) (in_front (joins_by kind) row stretches))
ended kind addr more row next stretches ends head =
    let e = head.first in
    let two : in_front (joins_by kind) row stretches ≡ (row ∷ []) ∷ ((next ∷ head.rest) ∷ head.others) =
    ap (in_front (joins_by kind) row) e ∙ cond-false (joins_by kind row next) _ _ ends in
    let three : grown addr more (map (event_of kind) (in_front (joins_by kind) row stretches))
    ≡ starting kind addr (more + sum_by (λ (r : Row). r.page) (row ∷ [])) ∷ map (event_of kind) ((next ∷ head.rest) ∷ head.others) =
    ap (λ (s : List (List Row)). grown addr more (map (event_of kind) s)) two in
    let one : grown next.addr 0 (map (event_of kind) stretches)
    ≡ starting kind next.addr (0 + sum_by (λ (r : Row). r.page) (next ∷ head.rest)) ∷ map (event_of kind) head.others =
    ap (λ (s : List (List Row)). grown next.addr 0 (map (event_of kind) s)) e in
    let same : 0 + sum_by (λ (r : Row). r.page) (next ∷ head.rest) ≡ sum_by (λ (r : Row). r.page) (next ∷ head.rest) = omega arith in
    let page : more + row.page ≡ more + sum_by (λ (r : Row). r.page) (row ∷ []) = omega (arith, pages_more row []) in
    ap (λ (l : List Event). starting kind addr (more + row.page) ∷ l)
    (one ∙ ap (λ (n : ℕ). starting kind next.addr n ∷ map (event_of kind) head.others) same)
    ∙ (ap (λ (n : ℕ). starting kind addr n ∷ map (event_of kind) ((next ∷ head.rest) ∷ head.others)) page ∙ sym three)

-- what is told row by row is what is told of the stretches
ahead_is : (kind : EventKind) (addr more : ℕ) (row : Row) (rows : List Row)
    → ahead kind (starting kind addr (more + row.page)) row rows ≡ grown addr more (events_of kind (row ∷ rows))
ahead_is kind addr more row [] =
    let page : more + row.page ≡ more + sum_by (λ (r : Row). r.page) (row ∷ []) = omega (arith, pages_more row []) in
    ap (λ (n : ℕ). starting kind addr n ∷ []) page
ahead_is kind addr more row (next ∷ rows) =
    elim (cases_Bool (joins_by kind row next)) [
      | inl goes ↦
          cond-true (joins_by kind row next) _ _ goes
          ∙ (ahead_is kind addr (more + row.page) next rows
          ∙ joined kind addr more row next (stretches_of (joins_by kind) (next ∷ rows)) goes
          (headed (joins_by kind) next (stretches_of (joins_by kind) rows)))
      | inr ends ↦
          let start : starting kind next.addr next.page ≡ starting kind next.addr (0 + next.page) =
          (let zero_more : next.page ≡ 0 + next.page = omega arith in ap (starting kind next.addr) zero_more) in
          cond-false (joins_by kind row next) _ _ ends
          ∙ (ap (λ (l : List Event). starting kind addr (more + row.page) ∷ l)
          (ap (λ (e : Event). ahead kind e next rows) start ∙ ahead_is kind next.addr 0 next rows)
          ∙ ended kind addr more row next (stretches_of (joins_by kind) (next ∷ rows)) ends
          (headed (joins_by kind) next (stretches_of (joins_by kind) rows)))
    ]

grown_none : (kind : EventKind) (row : Row) (stretches : List (List Row)) → Headed row stretches
    → grown row.addr 0 (map (event_of kind) stretches) ≡ map (event_of kind) stretches
grown_none kind row stretches head =
    let one : grown row.addr 0 (map (event_of kind) stretches)
    ≡ starting kind row.addr (0 + sum_by (λ (r : Row). r.page) (row ∷ head.rest)) ∷ map (event_of kind) head.others =
    ap (λ (s : List (List Row)). grown row.addr 0 (map (event_of kind) s)) head.first in
    let same : 0 + sum_by (λ (r : Row). r.page) (row ∷ head.rest) ≡ sum_by (λ (r : Row). r.page) (row ∷ head.rest) = omega arith in
    one ∙ (ap (λ (n : ℕ). starting kind row.addr n ∷ map (event_of kind) head.others) same
    ∙ sym (ap (λ (s : List (List Row)). map (event_of kind) s) head.first))

first_ahead : (kind : EventKind) (row : Row) (rows : List Row)
    → events_of kind (row ∷ rows) ≡ ahead kind (starting kind row.addr row.page) row rows
first_ahead kind row rows =
    let zero_more : row.page ≡ 0 + row.page = omega arith in
    sym (ap (λ (n : ℕ). ahead kind (starting kind row.addr n) row rows) zero_more
    ∙ (ahead_is kind row.addr 0 row rows
    ∙ grown_none kind row (stretches_of (joins_by kind) (row ∷ rows)) (headed (joins_by kind) row (stretches_of (joins_by kind) rows))))

-- what is told once a row is found, and what is still told then
pub told_step : (kind : EventKind) (stretch : Option Stretch) (found : Option Row) (rows : List Row)
    → events_from kind stretch (option_to_list found ++ rows)
    ≡ told_then kind stretch found ++ events_from kind (stretch_after kind stretch found) rows
told_step kind stretch None rows = refl
told_step kind None (Some row) rows = first_ahead kind row rows
told_step kind (Some stretch) (Some row) rows =
    elim (cases_Bool (joins_by kind stretch.last row)) [
      | inl goes ↦ rw goes refl
      | inr ends ↦ rw ends refl
    ]

pub all_told_append : (first later : List Event) (lists : List Listener) → all_told (first ++ later) lists ≡ all_told later (all_told first lists)
all_told_append [] later lists = refl
all_told_append (event ∷ first) later lists = all_told_append first later (told_after event lists)

-- the lists, and the room that they have, once a row is found
pub found_told : (kind : EventKind) (stretch : Option Stretch) (found : Option Row) (rows : List Row) (whole now next : List Listener)
    → all_told (events_from kind stretch (option_to_list found ++ rows)) now ≡ whole → next ≡ all_told (told_then kind stretch found) now
    → all_told (events_from kind (stretch_after kind stretch found) rows) next ≡ whole
found_told kind stretch found rows whole now next before is_next =
    ap (all_told (events_from kind (stretch_after kind stretch found) rows)) is_next
    ∙ (sym (all_told_append (told_then kind stretch found) (events_from kind (stretch_after kind stretch found) rows) now)
    ∙ (ap (λ (events : List Event). all_told events now) (sym (told_step kind stretch found rows)) ∙ before))

pub found_length : (kind : EventKind) (stretch : Option Stretch) (found : Option Row) (rows : List Row)
    → length (events_from kind stretch (option_to_list found ++ rows))
    ≡ length (told_then kind stretch found) + length (events_from kind (stretch_after kind stretch found) rows)
found_length kind stretch found rows =
    ap length (told_step kind stretch found rows)
    ∙ length-append (told_then kind stretch found) (events_from kind (stretch_after kind stretch found) rows)

-- what holds of all holds of the one that is found
pub found_of_all : {X : Type 0} (p : X → Bool) (P : X → Type 0) (xs : List X) → All P xs → IfSome (find p xs) P
found_of_all p P [] all = tt
found_of_all p P (x ∷ xs) all =
    elim (cases_Bool (p x)) [
      | inl passes ↦ rw passes (All-head P x xs all)
      | inr fails ↦ rw fails (found_of_all p P xs (All-tail P x xs all))
    ]

-- the rows at the slots that are left, by the first of these
pub rows_left : (rows : List Row) (before : List LogRecord) (run : Run) (k count : ℕ) → k + 1 ≤ count
    → rows_from rows before run k (count - k)
    ≡ option_to_list (find (stands_at before run.list (run.first + k)) rows) ++ rows_from rows before run (k + 1) (count - (k + 1))
rows_left rows before run k count within =
    let left : count - k ≡ suc (count - (k + 1)) = omega arith in
    ap (rows_from rows before run k) left

pub rows_next : (rows : List Row) (at : ℕ) (d : Row) → at < length rows
    → drop at rows ≡ option_to_list (Some (get_or rows at d)) ++ drop (at + 1) rows
rows_next rows at d within = drop-cons rows at d within ∙ ap (λ (k : ℕ). get_or rows at d ∷ drop k rows) (sym (add-one at))

-- what is told of the records from a place on, by the record there
pub dropped_step : (rows : List Row) (records : List LogRecord) (at : ℕ) (d : LogRecord) → at < length records
    → dropped_events rows (take at records) (drop at records)
    ≡ events_of Free (freed_by rows (take at records) (get_or records at d)) ++ dropped_events rows (take (at + 1) records) (drop (at + 1) records)
dropped_step rows records at d within =
    let next : drop at records ≡ get_or records at d ∷ drop (at + 1) records =
    drop-cons records at d within ∙ ap (λ (k : ℕ). get_or records at d ∷ drop k records) (sym (add-one at)) in
    let more : take at records ++ get_or records at d ∷ [] ≡ take (at + 1) records = sym (take_more records at d within) in
    ap (dropped_events rows (take at records)) next
    ∙ ap (λ (before : List LogRecord). events_of Free (freed_by rows (take at records) (get_or records at d))
    ++ dropped_events rows before (drop (at + 1) records)) more

pub dropped_told : (rows : List Row) (records : List LogRecord) (at : ℕ) (d : LogRecord) (whole now next : List Listener)
    → at < length records → all_told (dropped_events rows (take at records) (drop at records)) now ≡ whole
    → next ≡ all_told (events_of Free (freed_by rows (take at records) (get_or records at d))) now
    → all_told (dropped_events rows (take (at + 1) records) (drop (at + 1) records)) next ≡ whole
dropped_told rows records at d whole now next within before is_next =
    let first = events_of Free (freed_by rows (take at records) (get_or records at d)) in
    let later = dropped_events rows (take (at + 1) records) (drop (at + 1) records) in
    ap (all_told later) is_next
    ∙ (sym (all_told_append first later now)
    ∙ (ap (λ (events : List Event). all_told events now) (sym (dropped_step rows records at d within)) ∙ before))

pub dropped_length : (rows : List Row) (records : List LogRecord) (at : ℕ) (d : LogRecord) → at < length records
    → length (dropped_events rows (take at records) (drop at records))
    ≡ length (events_of Free (freed_by rows (take at records) (get_or records at d)))
    + length (dropped_events rows (take (at + 1) records) (drop (at + 1) records))
dropped_length rows records at d within =
    ap length (dropped_step rows records at d within)
    ∙ length-append (events_of Free (freed_by rows (take at records) (get_or records at d)))
    (dropped_events rows (take (at + 1) records) (drop (at + 1) records))

-- what a read past the end of records would give
abbrev pub no_record : LogRecord
no_record = Add (record { list = 0; first = 0; count = 0; addr = 0; page = 0; socket = 0 }) 0

append_nothing : {X : Type 0} (l : List X) → l ++ [] ≡ l
append_nothing [] = refl
append_nothing (x ∷ l) = ap (λ rest. x ∷ rest) (append_nothing l)

-- the new rows are the last ones, where all of them are mapped
pub mapped_last : (stay fresh rows : List Row) (old new : List MapAnswer) (caught : Caught) (before calls : ℕ)
    → rows ≡ rows_after stay fresh caught → HasAnswered fresh old new caught → before ≡ length old → calls ≡ length new
    → mapped_events (drop (length rows - (calls - before)) rows) caught ≡ mapped_events fresh caught
mapped_last stay fresh rows old new caught.Done before calls is_rows answered is_before is_calls =
    let long : length rows - (calls - before) ≡ length stay =
    omega (
      arith,
      ap length is_rows,
      length-append stay fresh,
      ap length answered,
      length-append old (map own_place fresh),
      length-map fresh own_place,
    ) in
    ap (events_of Alloc)
    (ap (λ (k : ℕ). drop k rows) long ∙ (ap (drop (length stay)) is_rows ∙ drop-append_seam stay fresh))
mapped_last stay fresh rows old new (caught.Refused row call) before calls is_rows answered is_before is_calls = refl
mapped_last stay fresh rows old new (caught.Elsewhere row call got) before calls is_rows answered is_before is_calls = refl

-- what is told of a catch-up: what goes, and then what came
pub caught_parts : (rows : List Row) (n : ℕ) (records : List LogRecord) (caught : Caught)
    → caught_events rows n records caught ≡ dropped_events rows [] records ++ mapped_events (new_rows n records) caught
caught_parts rows n records caught.Done = refl
caught_parts rows n records (caught.Refused row call) = sym (append_nothing (dropped_events rows [] records))
caught_parts rows n records (caught.Elsewhere row call got) = sym (append_nothing (dropped_events rows [] records))

-- a catch-up tells what goes, and then what came
pub caught_told : (maps after : MapsView) (first last : List Row) (before calls : ℕ) (newer seen : List LogRecord) (caught : Caught)
    (old between new : List Listener) → first ≡ maps.rows → last ≡ after.rows → before ≡ length maps.answers
    → calls ≡ length after.answers → seen ≡ newer
    → after.rows ≡ rows_after (kept newer maps.rows) (new_rows maps.number newer) caught
    → HasAnswered (new_rows maps.number newer) maps.answers after.answers caught
    → between ≡ all_told (dropped_events first [] seen) old
    → new ≡ all_told (mapped_events (drop (length last - (calls - before)) last) caught) between
    → new ≡ all_told (caught_events maps.rows maps.number newer caught) old
caught_told maps after first last before calls newer seen caught old between new is_first is_last is_before is_calls is_seen is_rows answered dropped mapped =
    let fresh = new_rows maps.number newer in
    let gone = dropped_events maps.rows [] newer in
    let went : between ≡ all_told gone old =
    dropped ∙ (ap (λ (rows : List Row). all_told (dropped_events rows [] seen) old) is_first
    ∙ ap (λ (records : List LogRecord). all_told (dropped_events maps.rows [] records) old) is_seen) in
    let came : mapped_events (drop (length last - (calls - before)) last) caught ≡ mapped_events fresh caught =
    mapped_last (kept newer maps.rows) fresh last maps.answers after.answers caught before calls (is_last ∙ is_rows) answered is_before is_calls in
    mapped ∙ (ap (λ (events : List Event). all_told events between) came
    ∙ (ap (all_told (mapped_events fresh caught)) went
    ∙ (sym (all_told_append gone (mapped_events fresh caught) old)
    ∙ ap (λ (events : List Event). all_told events old) (sym (caught_parts maps.rows maps.number newer caught)))))

-- and takes no more room than that
pub caught_spare : (maps after : MapsView) (first last : List Row) (before calls : ℕ) (newer seen : List LogRecord) (caught : Caught)
    (old between new : ℕ) → first ≡ maps.rows → last ≡ after.rows → before ≡ length maps.answers
    → calls ≡ length after.answers → seen ≡ newer
    → after.rows ≡ rows_after (kept newer maps.rows) (new_rows maps.number newer) caught
    → HasAnswered (new_rows maps.number newer) maps.answers after.answers caught
    → old ≤ between + length (dropped_events first [] seen)
    → between ≤ new + length (mapped_events (drop (length last - (calls - before)) last) caught)
    → old ≤ new + length (caught_events maps.rows maps.number newer caught)
caught_spare maps after first last before calls newer seen caught old between new is_first is_last is_before is_calls is_seen is_rows answered dropped mapped =
    let fresh = new_rows maps.number newer in
    let gone = dropped_events maps.rows [] newer in
    let went : length (dropped_events first [] seen) ≡ length gone =
    ap (λ (rows : List Row). length (dropped_events rows [] seen)) is_first
    ∙ ap (λ (records : List LogRecord). length (dropped_events maps.rows [] records)) is_seen in
    let came : length (mapped_events (drop (length last - (calls - before)) last) caught) ≡ length (mapped_events fresh caught) =
    ap length (mapped_last (kept newer maps.rows) fresh last maps.answers after.answers caught before calls (is_last ∙ is_rows) answered is_before is_calls) in
    omega (
      arith,
      dropped,
      mapped,
      went,
      came,
      ap length (caught_parts maps.rows maps.number newer caught),
      length-append gone (mapped_events fresh caught),
    )
