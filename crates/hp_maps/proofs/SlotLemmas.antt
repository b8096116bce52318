-- Rows of which no slot has two: which of them go with a run.
use Rattle.std.proofs.Common.{◌≡◌, ◌≤◌, ℕ, zero, suc, ◌+◌, Bool, true, false, not, ◌&&◌, ◌||◌, cond, List, [], ◌∷◌, ◌++◌, filter, length, take, drop, refl, ap, ◌∙◌, sym, subst, arith, count_by, length-take, length-drop, get_or, drop-cons, add-one, ◌<◌}
use Rattle.std.specs.List.{All}
use Rattle.std.proofs.Math.Nat.{add-zero}
use Rattle.std.proofs.lemmas.List.{take-append-drop, drop-drop}
use Rattle.std.proofs.lemmas.List.Elements.{All-head, All-tail, All-weaker, filter-append}
use Rattle.hp_base.specs.Mapping.{Held, owned, without_rows}
use Rattle.hp_base.specs.declared.row.Row.{Row}
use Rattle.hp_base.specs.declared.row.Run.{Run}
use Rattle.hp_log.specs.Log.{IsWellFormed, table_at}
use Rattle.hp_log.specs.Rows.{at_slot, in_run}
use Rattle.hp_log.specs.declared.log_record.LogRecord.{LogRecord}
use Rattle.hp_log.specs.declared.log_record.LogRecord.TheVariants.{Add, Drop}
use Rattle.hp_log.proofs.Counts.{count_agree, count_append, count_cons, count_filter, count_none, count_split}
use Rattle.hp_maps.specs.Catching.{Lags, goes, is_dropped, kept, newer}
use Rattle.hp_maps.specs.MapsView.{is_of_log, table_in}
use Rattle.hp_maps.specs.RowsView.{HaveOwnSlots, StandTogether, goes_with}
use Rattle.hp_maps.proofs.EventFacts.FreedCounts.{count_and, nobody, part_exact}
use Rattle.hp_maps.proofs.EventFacts.FreedLemmas.{part}
use Rattle.hp_maps.proofs.HeldLemmas.{without_passing}
use Rattle.hp_maps.proofs.LawLemmas.{one_row_a_slot}
use Rattle.hp_maps.proofs.ListFacts.{any_none, filter_agree, filter_drops, filter_keeps, filter_twice, uncounted}
use Rattle.hp_maps.proofs.TableLaw.{every}

-- a table that lags has no more rows of a kind than the table of the log
pub lag_few : (p : Row → Bool) (records : List LogRecord) (n to : ℕ) (table : List Row) → Lags records n to table
    → count_by p table ≤ count_by p (table_at records n)
lag_few p records n to table lag =
    let gone = newer records n lag.reached in
    omega (arith, ap (count_by p) lag.left, count_split p (λ row. not (is_dropped gone row)) (table_at records n))

swapped : (a b : Bool) → (a && b) ≡ (b && a)
swapped true true = refl
swapped true false = refl
swapped false true = refl
swapped false false = refl

-- so none of its slots has two
pub own_slots : (records : List LogRecord) (n to : ℕ) (rows : List Row) → IsWellFormed records → Lags records n to (table_in rows)
    → HaveOwnSlots rows
own_slots records n to rows formed lag list slot =
    let once = one_row_a_slot records formed n list slot in
    omega (
      arith,
      once,
      lag_few (at_slot list slot) records n to (table_in rows) lag,
      count_filter (at_slot list slot) is_of_log rows,
      count_agree (λ row. at_slot list slot row && is_of_log row) (λ row. is_of_log row && at_slot list slot row) rows
          (every (λ row. (at_slot list slot row && is_of_log row) ≡ (is_of_log row && at_slot list slot row))
          (λ row. swapped (at_slot list slot row) (is_of_log row)) rows),
    )

pub own_slots_left : (p : Row → Bool) (rows : List Row) → HaveOwnSlots rows → HaveOwnSlots (filter p rows)
own_slots_left p rows once list slot =
    let one = once list slot in
    omega (arith, one, count_split (λ row. at_slot list slot row && is_of_log row) p rows)

-- at most as many rows go with a run as it has slots
few_of_part : (run : Run) (rows : List Row) → HaveOwnSlots rows → (n k : ℕ)
    → count_by (λ row. in_run (part run k n) row && is_of_log row) rows ≤ n
few_of_part run rows once zero k =
    omega (
      arith,
      count_none (λ row. in_run (part run k 0) row && is_of_log row) rows
          (every (λ row. (in_run (part run k 0) row && is_of_log row) ≡ false) (λ row. ap (λ b. b && is_of_log row) (nobody run k row)) rows),
    )
few_of_part run rows once (suc n) k =
    let one = once run.list (run.first + k) in
    omega (
      arith,
      one,
      few_of_part run rows once n (k + 1),
      count_and is_of_log (at_slot run.list (run.first + k)) (in_run (part run (k + 1) n)) (in_run (part run k (suc n)))
          (λ row. part_exact run k n row) rows,
    )

few_go : (run : Run) (rows : List Row) → HaveOwnSlots rows → count_by (goes_with run) rows ≤ run.count
few_go run rows once =
    subst (λ (f : ℕ). count_by (λ row. in_run (record run { first = f; count = run.count }) row && is_of_log row) rows ≤ run.count) (add-zero run.first)
    (few_of_part run rows once run.count 0)

abbrev one_if : Bool → ℕ
one_if b = cond b 1 0

all_counted : {X : Type 0} (p : X → Bool) (xs : List X) → All (λ x. p x ≡ true) xs → count_by p xs ≡ length xs
all_counted p [] all = refl
all_counted p (x ∷ xs) all =
    let one : one_if (p x) ≡ 1 = ap one_if (All-head (λ x. p x ≡ true) x xs all) in
    omega (arith, count_cons p x xs, one, all_counted p xs (All-tail (λ x. p x ≡ true) x xs all))

-- which elements pass: those in the middle, and no others
record ArePassing {X : Type 0} (p : X → Bool) (front middle back : List X) : Type 0 where
  passing : filter p (front ++ (middle ++ back)) ≡ middle
  others : filter (λ x. not (p x)) (front ++ (middle ++ back)) ≡ front ++ back

append_nothing : {X : Type 0} (l : List X) → l ++ [] ≡ l
append_nothing [] = refl
append_nothing (x ∷ l) = ap (λ rest. x ∷ rest) (append_nothing l)

none_passes : {X : Type 0} (p : X → Bool) (xs : List X) → count_by p xs ≡ 0 → All (λ x. p x ≡ false) xs
none_passes p xs none = any_none p xs (uncounted p xs none)

fail_stay : {X : Type 0} (p : X → Bool) (xs : List X) → All (λ x. p x ≡ false) xs → filter (λ x. not (p x)) xs ≡ xs
fail_stay p xs none =
    filter_keeps (λ x. not (p x)) xs (All-weaker (λ x. p x ≡ false) (λ x. not (p x) ≡ true) (λ x fails. ap not fails) xs none)

pass_go : {X : Type 0} (p : X → Bool) (xs : List X) → All (λ x. p x ≡ true) xs → filter (λ x. not (p x)) xs ≡ []
pass_go p xs all =
    filter_drops (λ x. not (p x)) xs (All-weaker (λ x. p x ≡ true) (λ x. not (p x) ≡ false) (λ x passes. ap not passes) xs all)

middle_passes : {X : Type 0} (p : X → Bool) (front middle back : List X) → All (λ x. p x ≡ true) middle
    → count_by p (front ++ (middle ++ back)) ≤ length middle → ArePassing p front middle back
middle_passes p front middle back all few =
    let counted = all_counted p middle all in
    let first = count_append p front (middle ++ back) in
    let second = count_append p middle back in
    let no_front = none_passes p front (omega (arith, few, counted, first, second)) in
    let no_back = none_passes p back (omega (arith, few, counted, first, second)) in
    record {
      passing =
          filter-append p front (middle ++ back)
          ∙ (ap (λ l. l ++ filter p (middle ++ back)) (filter_drops p front no_front)
          ∙ (filter-append p middle back
          ∙ (ap (λ l. l ++ filter p back) (filter_keeps p middle all)
          ∙ (ap (λ l. middle ++ l) (filter_drops p back no_back) ∙ append_nothing middle))));
      others =
          filter-append (λ x. not (p x)) front (middle ++ back)
          ∙ (ap (λ l. l ++ filter (λ x. not (p x)) (middle ++ back)) (fail_stay p front no_front)
          ∙ ap (λ l. front ++ l) (filter-append (λ x. not (p x)) middle back
          ∙ (ap (λ l. l ++ filter (λ x. not (p x)) back) (pass_go p middle all) ∙ fail_stay p back no_back)));
    }

in_three : {X : Type 0} (xs : List X) (at n : ℕ) → take at xs ++ (take n (drop at xs) ++ drop (at + n) xs) ≡ xs
in_three xs at n =
    ap (λ l. take at xs ++ (take n (drop at xs) ++ l)) (sym (drop-drop n at xs))
    ∙ (ap (λ l. take at xs ++ l) (take-append-drop n (drop at xs)) ∙ take-append-drop at xs)

module _ (run : Run) (rows : List Row) (at : ℕ) (together : StandTogether run rows at) (once : HaveOwnSlots rows) where
  abbrev pub middle : List Row
  middle = take run.count (drop at rows)

  passing : ArePassing (goes_with run) (take at rows) middle (drop (at + run.count) rows)
  passing =
      middle_passes (goes_with run) (take at rows) middle (drop (at + run.count) rows) together.all
      (omega (
        arith,
        few_go run rows once,
        ap (count_by (goes_with run)) (in_three rows at run.count),
        length-take run.count (drop at rows),
        length-drop at rows,
        together.within,
      ))

  -- the rows that go with a run are those that stand together
  they_go : filter (goes_with run) rows ≡ middle
  they_go = ap (filter (goes_with run)) (sym (in_three rows at run.count)) ∙ passing.passing

  pub others_stay : filter (λ row. not (goes_with run row)) rows ≡ take at rows ++ drop (at + run.count) rows
  others_stay = ap (filter (λ row. not (goes_with run row))) (sym (in_three rows at run.count)) ∙ passing.others

  -- once they are unmapped the others are held
  pub others_held : (held : List Held) → held ≡ without_rows middle (owned rows)
      → held ≡ owned (take at rows ++ drop (at + run.count) rows)
  others_held held is_held =
      is_held
      ∙ (ap (λ l. without_rows l (owned rows)) (sym they_go) ∙ (without_passing (goes_with run) rows ∙ ap owned others_stay))

-- the rows that stay after a Drop and the records after it
pub kept_behind : (run : Run) (records : List LogRecord) (rows : List Row)
    → kept (Drop run ∷ records) rows ≡ kept records (filter (λ row. not (goes_with run row)) rows)
kept_behind run records rows =
    sym (filter_twice (λ row. not (goes records row)) (λ row. not (goes_with run row)) rows
    ∙ filter_agree (λ row. not (goes_with run row) && not (goes records row)) (λ row. not (goes (Drop run ∷ records) row)) rows
    (every (λ row. (not (goes_with run row) && not (goes records row)) ≡ not (goes (Drop run ∷ records) row))
    (λ row. either (is_of_log row) (in_run run row) (is_dropped records row)) rows))
  where
    either : (l i r : Bool) → (not (i && l) && not (l && r)) ≡ not (l && (i || r))
    either true true r = refl
    either true false r = refl
    either false true r = refl
    either false false r = refl

next_record : (records : List LogRecord) (at : ℕ) (d : LogRecord) → at < length records
    → drop at records ≡ get_or records at d ∷ drop (at + 1) records
next_record records at d within =
    drop-cons records at d within ∙ ap (λ k. get_or records at d ∷ drop k records) (sym (add-one at))

-- record by record
pub kept_by_drop : (records : List LogRecord) (at : ℕ) (d : LogRecord) (run : Run) (rows : List Row) → at < length records
    → get_or records at d ≡ Drop run
    → kept (drop at records) rows ≡ kept (drop (at + 1) records) (filter (λ row. not (goes_with run row)) rows)
kept_by_drop records at d run rows within its =
    ap (λ l. kept l rows) (next_record records at d within)
    ∙ (ap (λ entry. kept (entry ∷ drop (at + 1) records) rows) its ∙ kept_behind run (drop (at + 1) records) rows)

pub kept_by_add : (records : List LogRecord) (at : ℕ) (d : LogRecord) (run : Run) (heap : ℕ) (rows : List Row) → at < length records
    → get_or records at d ≡ Add run heap → kept (drop at records) rows ≡ kept (drop (at + 1) records) rows
kept_by_add records at d run heap rows within its =
    ap (λ l. kept l rows) (next_record records at d within) ∙ ap (λ entry. kept (entry ∷ drop (at + 1) records) rows) its

-- and where none is left, all stay
pub kept_all : (rows : List Row) → kept [] rows ≡ rows
kept_all rows =
    filter_keeps (λ row. not (goes [] row)) rows
    (every (λ row. not (goes [] row) ≡ true) (λ row. ap not (never (is_of_log row))) rows)
  where
    never : (b : Bool) → (b && false) ≡ false
    never true = refl
    never false = refl
