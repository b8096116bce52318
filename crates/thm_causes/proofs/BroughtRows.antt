-- The rows that newer records bring: each is of the run of an Add that its next record does not drop.
use Rattle.std.proofs.Common.{◌≡◌, ◌∙◌, ◌||◌, ℕ, zero, suc, ◌+◌, ◌-◌, ◌<◌, Bool, true, false, not, List, [], ◌∷◌, length, drop, Some, refl, sym, ap, subst, arith, length-drop}
use Rattle.std.specs.List.{All, slice_get}
use Rattle.std.proofs.lemmas.List.{take_all}
use Rattle.std.proofs.lemmas.List.Elements.{All-append, All-filter, All-nil, All-weaker, filter_passes}
use Rattle.std.proofs.lemmas.Option.{get_or_from_slice_get, slice_get_within}
use Rattle.hp_base.specs.declared.row.Row.{Row}
use Rattle.hp_base.specs.declared.row.Run.{Run}
use Rattle.hp_log.proofs.RowLemmas.{all_rows_below, in_run_from, row_at_place}
use Rattle.hp_log.specs.Rows.{in_run, row_of, rows_of}
use Rattle.hp_log.specs.declared.log_record.LogRecord.{LogRecord}
use Rattle.hp_log.specs.declared.log_record.LogRecord.TheVariants.{Add, Drop}
use Rattle.hp_maps.specs.Catching.{is_dropped, new_rows, newer, undropped}

-- a row is of the run of one of the records, an Add that its next record does not drop, where n records stand before them
pub record IsBrought (n : ℕ) (records : List LogRecord) (row : Row) : Type 0 where
  pub place : ℕ
  pub run : Run
  pub heap : ℕ
  pub page : ℕ
  pub added : slice_get records place ≡ Some (Add run heap)
  pub within : page < run.count
  pub its_row : row ≡ row_of run (n + place + 1) page
  pub stays : slice_get records (suc place) ≡ Some (Drop run) → ⊥

-- a page of a run is in it
pub page_in_run : (run : Run) (generation page : ℕ) → page < run.count → in_run run (row_of run generation page) ≡ true
page_in_run run generation page within =
    in_run_from run page (row_of run generation page) within (row_at_place run generation page)

either_way : (a b : Bool) → not (a || b) ≡ true → a ≡ true → ⊥
either_way true b left on = cc
either_way false b left on = cc

-- the first record drops no row that none of them drops
not_first : (run : Run) (records : List LogRecord) (row : Row) → not (is_dropped records row) ≡ true → in_run run row ≡ true
    → slice_get records 0 ≡ Some (Drop run) → ⊥
not_first run [] row left inside next = cc
not_first run (entry ∷ records) row left inside next =
    let same : entry ≡ Drop run = cc in
    either_way (in_run run row) (is_dropped records row) (subst (λ first. not (is_dropped (first ∷ records) row) ≡ true) same left) inside

brought_first : (n : ℕ) (run : Run) (heap : ℕ) (records : List LogRecord)
    → All (IsBrought n (Add run heap ∷ records)) (undropped records (rows_of run (n + 1)))
brought_first n run heap records k d within =
    let test : Row → Bool = λ row. not (is_dropped records row) in
    let IsPage : Row → Type 0 = λ row. (page : ℕ) × (page < run.count) × (row ≡ row_of run (n + 1) page) in
    let pages : All IsPage (rows_of run (n + 1)) = all_rows_below IsPage run (n + 1) run.count (λ page below. (page, below, refl)) in
    let (page, below, is) = All-filter test IsPage (rows_of run (n + 1)) pages k d within in
    let left = filter_passes test (rows_of run (n + 1)) k d within in
    let number : n + 1 ≡ n + 0 + 1 = omega arith in
    record {
      place = 0;
      run = run;
      heap = heap;
      page = page;
      added = refl;
      within = below;
      its_row = is ∙ ap (λ generation. row_of run generation page) number;
      stays = not_first run records (row_of run (n + 1) page) (subst (λ row. test row ≡ true) is left)
          (page_in_run run (n + 1) page below);
    }

brought_later : (n : ℕ) (entry : LogRecord) (records : List LogRecord) (row : Row) → IsBrought (n + 1) records row
    → IsBrought n (entry ∷ records) row
brought_later n entry records row brought =
    let number : n + 1 + brought.place + 1 ≡ n + suc brought.place + 1 = omega arith in
    record {
      place = suc brought.place;
      run = brought.run;
      heap = brought.heap;
      page = brought.page;
      added = brought.added;
      within = brought.within;
      its_row = brought.its_row ∙ ap (λ generation. row_of brought.run generation brought.page) number;
      stays = brought.stays;
    }

later_brought : (n : ℕ) (entry : LogRecord) (records : List LogRecord) → All (IsBrought (n + 1) records) (new_rows (n + 1) records)
    → All (IsBrought n (entry ∷ records)) (new_rows (n + 1) records)
later_brought n entry records later =
    All-weaker (IsBrought (n + 1) records) (IsBrought n (entry ∷ records)) (brought_later n entry records) (new_rows (n + 1) records) later

-- each row that records bring is so
all_brought : (n : ℕ) (records : List LogRecord) → All (IsBrought n records) (new_rows n records)
all_brought n [] = All-nil (IsBrought n [])
all_brought n (Add run heap ∷ records) =
    All-append (IsBrought n (Add run heap ∷ records)) (undropped records (rows_of run (n + 1))) (new_rows (n + 1) records)
    (brought_first n run heap records)
    (later_brought n (Add run heap) records (all_brought (n + 1) records))
all_brought n (Drop run ∷ records) =
    later_brought n (Drop run) records (all_brought (n + 1) records)

-- what stands at a place after the first n elements
pub slice_get-drop : {X : Type 0} (n : ℕ) (xs : List X) (i : ℕ) → slice_get (drop n xs) i ≡ slice_get xs (n + i)
slice_get-drop zero xs i = let same : i ≡ 0 + i = omega arith in ap (slice_get xs) same
slice_get-drop (suc n) [] i = refl
slice_get-drop (suc n) (x ∷ xs) i =
    let same : suc (n + i) ≡ suc n + i = omega arith in
    slice_get-drop n xs i ∙ ap (slice_get (x ∷ xs)) same

-- a row that the records after the first so many bring
pub row_brought : (log : List LogRecord) (number place : ℕ) (row : Row)
    → slice_get (new_rows number (newer log number (length log))) place ≡ Some row → IsBrought number (drop number log) row
row_brought log number place row here =
    let all : newer log number (length log) ≡ drop number log =
    take_all (length log - number) (drop number log) (omega (arith, length-drop number log)) in
    let fresh = new_rows number (newer log number (length log)) in
    let each : All (IsBrought number (drop number log)) fresh =
    subst (λ records. All (IsBrought number (drop number log)) (new_rows number records)) (sym all)
    (all_brought number (drop number log)) in
    subst (IsBrought number (drop number log)) (get_or_from_slice_get fresh place row row here)
    (each place row (slice_get_within fresh place row here))
