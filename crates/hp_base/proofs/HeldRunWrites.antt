-- Runs of which one is written, or none.
use Rattle.std.proofs.Common.{◌≡◌, ◌≤◌, ◌<◌, ℕ, zero, suc, ◌+◌, ◌-◌, ◌*◌, ◌^◌, Bool, true, false, not, cond, filter, List, [], ◌∷◌, ◌++◌, length, take, drop, set, get_or, append_assoc, Result, Ok, Err, refl, ap, ◌∙◌, sym, subst, arith}
use Rattle.std.specs.List.{All, insert}
use Rattle.std.specs.Result.{OnErr, is_ok}
use Rattle.std.proofs.lemmas.List.{append-nil, drop-append-le, get_or_default, get_or_read, length-set, set_split, take-append-le, take_more}
use Rattle.std.proofs.lemmas.List.Elements.{All-append, All-cons, All-drop, All-get_or, All-set, All-take}
use Rattle.hp_base.specs.HeldRows.{AreOnce, AreRuns, IsNotBetween, IsRun, has_rows, row_after, rows_before, rows_behind, rows_from, rows_in, rows_of}
use Rattle.hp_base.specs.declared.held_rows.HeldRun.{HeldRun}
use Rattle.hp_base.specs.declared.row.Row.{Row}
use Rattle.hp_base.specs.Mapping.{AreAdjacent, IsWithin, is_row}
use Rattle.hp_base.specs.MemMapping.{without_all}
use Rattle.hp_base.proofs.HeldRowLemmas.{not_there, taken_together}
use Rattle.hp_base.proofs.HeldRunLemmas.{at_place, back_run, empty_run, front_run, longer_run, none_there, rows_behind_all, run_longer, set_place}

-- the last run in the place of one that is shorter by some rows
pub last_longer_by : (runs : List HeldRun) (n : ℕ) (d now : HeldRun) (more : List Row) → length runs ≡ n + 1
    → rows_of now ≡ rows_of (get_or runs n d) ++ more → rows_in (set runs n now) ≡ rows_in runs ++ more
last_longer_by [] n d now more long is = absurd (omega (arith, long))
last_longer_by (run ∷ []) zero d now more long is =
    append-nil (rows_of now) ∙ (is ∙ ap (λ (l : List Row). l ++ more) (sym (append-nil (rows_of run))))
last_longer_by (run ∷ (next ∷ runs)) zero d now more long is = absurd (omega (arith, long))
last_longer_by (run ∷ runs) (suc n) d now more long is =
    ap (λ (l : List Row). rows_of run ++ l) (last_longer_by runs n d now more (omega (arith, long)) is)
    ∙ sym (append_assoc (rows_of run) (rows_in runs) more)

-- by one row
pub last_longer : (runs : List HeldRun) (n : ℕ) (d now : HeldRun) (row : Row) → length runs ≡ n + 1
    → rows_of now ≡ rows_of (get_or runs n d) ++ row ∷ [] → rows_in (set runs n now) ≡ rows_in runs ++ row ∷ []
last_longer runs n d now row long is = last_longer_by runs n d now (row ∷ []) long is

-- what is read twice is the same
pub same_read : (runs : List HeldRun) (at : ℕ) (one other : HeldRun) → at < length runs → one ≡ get_or runs at one → other ≡ get_or runs at other
    → one ≡ other
same_read runs at one other within is_one is_other = is_one ∙ (get_or_default runs at one other within ∙ sym is_other)

pub its_run : (runs : List HeldRun) (at : ℕ) (one : HeldRun) → at < length runs → one ≡ get_or runs at one → AreRuns runs → IsRun one
its_run runs at one within is_one all = subst IsRun (sym is_one) (All-get_or IsRun runs at one within all)

-- the last run goes on with a row
pub last_grown : (runs : List HeldRun) (n : ℕ) (last now : HeldRun) (row : Row) → length runs ≡ n + 1 → last ≡ get_or runs n last
    → now ≡ get_or runs n now → AreRuns runs → row ≡ row_after last.first last.to
    → rows_in (set runs n (record { first = now.first; from = now.from; to = last.to + 1 })) ≡ rows_in runs ++ row ∷ []
last_grown runs n last now row long is_last is_now all is =
    let within : n < length runs = omega (arith, long) in
    let run = its_run runs n last within is_last all in
    ap (λ (r : HeldRun). rows_in (set runs n (record { first = r.first; from = r.from; to = last.to + 1 })))
    (same_read runs n now last within is_now is_last)
    ∙ last_longer runs n last (record { first = last.first; from = last.from; to = last.to + 1 }) row long
    (run_longer last row run.order is ∙ ap (λ (r : HeldRun). rows_of r ++ row ∷ []) is_last)

pub last_grown_runs : (runs : List HeldRun) (n : ℕ) (last now : HeldRun) (row : Row) → n < length runs → last ≡ get_or runs n last
    → now ≡ get_or runs n now → AreRuns runs → row ≡ row_after last.first last.to → row.addr + row.page < 2 ^ 64 → row.slot < 2 ^ 32
    → AreRuns (set runs n (record { first = now.first; from = now.from; to = last.to + 1 }))
last_grown_runs runs n last now row within is_last is_now all is fits small =
    subst (λ (r : HeldRun). AreRuns (set runs n (record { first = r.first; from = r.from; to = last.to + 1 })))
    (same_read runs n last now within is_last is_now)
    (All-set IsRun runs n (record { first = last.first; from = last.from; to = last.to + 1 })
    (longer_run last row (its_run runs n last within is_last all) is fits small) all)

-- the first row of a run goes
pub first_cut : (runs : List HeldRun) (at place : ℕ) (now d : HeldRun) → at < length runs → now ≡ get_or runs at now
    → rows_in (set runs at (record { first = now.first; from = place + 1; to = now.to }))
    ≡ rows_in (take at runs) ++ (rows_behind (get_or runs at d) place ++ rows_in (drop (at + 1) runs))
first_cut runs at place now d within is_now =
    set_place runs at (record { first = now.first; from = place + 1; to = now.to }) within
    ∙ ap (λ (r : HeldRun). rows_in (take at runs) ++ (rows_behind r place ++ rows_in (drop (at + 1) runs))) (get_or_read runs at now within is_now d)

-- a row with others before it goes, and there are none after it
pub last_cut : (runs : List HeldRun) (at place : ℕ) (was now d : HeldRun) → at < length runs → was ≡ get_or runs at was → now ≡ get_or runs at now
    → false ≡ has_rows (record { first = was.first; from = place + 1; to = was.to })
    → rows_in (set runs at (record { first = now.first; from = now.from; to = place }))
    ≡ rows_in (take at runs) ++ (rows_before (get_or runs at d) place ++ (rows_behind (get_or runs at d) place ++ rows_in (drop (at + 1) runs)))
last_cut runs at place was now d within is_was is_now none =
    set_place runs at (record { first = now.first; from = now.from; to = place }) within
    ∙ (ap (λ (r : HeldRun). rows_in (take at runs) ++ (rows_before r place ++ rows_in (drop (at + 1) runs))) (get_or_read runs at now within is_now d)
    ∙ ap (λ (l : List Row). rows_in (take at runs) ++ (rows_before (get_or runs at d) place ++ (l ++ rows_in (drop (at + 1) runs))))
    (sym (empty_run (record { first = was.first; from = place + 1; to = was.to }) (sym none))
    ∙ ap (λ (r : HeldRun). rows_behind r place) (get_or_read runs at was within is_was d)))

pub last_cut_runs : (runs : List HeldRun) (at place : ℕ) (now : HeldRun) → at < length runs → now ≡ get_or runs at now → AreRuns runs
    → ((d : HeldRun) → (get_or runs at d).from ≤ place) → ((d : HeldRun) → place < (get_or runs at d).to)
    → AreRuns (set runs at (record { first = now.first; from = now.from; to = place }))
last_cut_runs runs at place now within is_now all from to =
    let least : now.from ≤ place = subst (λ (r : HeldRun). r.from ≤ place) (sym is_now) (from now) in
    let most : place < now.to = subst (λ (r : HeldRun). place < r.to) (sym is_now) (to now) in
    All-set IsRun runs at (record { first = now.first; from = now.from; to = place })
    (front_run now place (its_run runs at now within is_now all) least most) all

-- the same, and those after it are a run of their own
inserted_at : (runs : List HeldRun) (at : ℕ) (front back : HeldRun) → at < length runs
    → insert (set runs at front) (at + 1) back ≡ take at runs ++ front ∷ (back ∷ drop (at + 1) runs)
inserted_at [] at front back within = absurd (omega (arith, within))
inserted_at (run ∷ runs) zero front back within =
    ap (λ (j : ℕ). take j (front ∷ runs) ++ back ∷ drop j (front ∷ runs)) {x = zero + 1} {y = suc zero} (omega arith)
    ∙ ap (λ (j : ℕ). front ∷ (back ∷ drop j (run ∷ runs))) {x = suc zero} {y = zero + 1} (omega arith)
inserted_at (run ∷ runs) (suc at) front back within =
    ap (λ (j : ℕ). take j (run ∷ set runs at front) ++ back ∷ drop j (run ∷ set runs at front)) {x = suc at + 1} {y = suc (at + 1)} (omega arith)
    ∙ (ap (λ (l : List HeldRun). run ∷ l) (inserted_at runs at front back (omega (arith, within)))
    ∙ ap (λ (j : ℕ). run ∷ (take at runs ++ front ∷ (back ∷ drop j (run ∷ runs)))) {x = suc (at + 1)} {y = suc at + 1} (omega arith))

pub parted : (runs now_all : List HeldRun) (at place : ℕ) (was now d : HeldRun) (done : Bool) → at < length runs → was ≡ get_or runs at was
    → now ≡ get_or runs at now → done ≡ true
    → now_all ≡ cond done (insert (set runs at (record { first = now.first; from = now.from; to = place })) (at + 1)
    (record { first = was.first; from = place + 1; to = was.to })) (set runs at (record { first = now.first; from = now.from; to = place }))
    → rows_in now_all
    ≡ rows_in (take at runs) ++ (rows_before (get_or runs at d) place ++ (rows_behind (get_or runs at d) place ++ rows_in (drop (at + 1) runs)))
parted runs now_all at place was now d done within is_was is_now is_done is =
    let front : HeldRun = record { first = now.first; from = now.from; to = place } in
    let back : HeldRun = record { first = was.first; from = place + 1; to = was.to } in
    ap rows_in (is ∙ (ap (λ b. cond b (insert (set runs at front) (at + 1) back) (set runs at front)) is_done ∙ inserted_at runs at front back within))
    ∙ (rows_behind_all (take at runs) (front ∷ (back ∷ drop (at + 1) runs))
    ∙ (ap (λ (r : HeldRun). rows_in (take at runs) ++ (rows_before r place ++ (rows_of back ++ rows_in (drop (at + 1) runs))))
    (get_or_read runs at now within is_now d)
    ∙ ap (λ (r : HeldRun). rows_in (take at runs) ++ (rows_before (get_or runs at d) place ++ (rows_behind r place ++ rows_in (drop (at + 1) runs))))
    (get_or_read runs at was within is_was d)))

pub parted_runs : (runs now_all : List HeldRun) (at place : ℕ) (was now : HeldRun) (done : Bool) → at < length runs → was ≡ get_or runs at was
    → now ≡ get_or runs at now → done ≡ true → AreRuns runs
    → ((d : HeldRun) → (get_or runs at d).from ≤ place) → ((d : HeldRun) → place < (get_or runs at d).to)
    → now_all ≡ cond done (insert (set runs at (record { first = now.first; from = now.from; to = place })) (at + 1)
    (record { first = was.first; from = place + 1; to = was.to })) (set runs at (record { first = now.first; from = now.from; to = place }))
    → AreRuns now_all
parted_runs runs now_all at place was now done within is_was is_now is_done all from to is =
    let front : HeldRun = record { first = now.first; from = now.from; to = place } in
    let back : HeldRun = record { first = was.first; from = place + 1; to = was.to } in
    let least : now.from ≤ place = subst (λ (r : HeldRun). r.from ≤ place) (sym is_now) (from now) in
    let most : place < now.to = subst (λ (r : HeldRun). place < r.to) (sym is_now) (to now) in
    let below : place < was.to = subst (λ (r : HeldRun). place < r.to) (sym is_was) (to was) in
    subst AreRuns (sym (is ∙ (ap (λ b. cond b (insert (set runs at front) (at + 1) back) (set runs at front)) is_done ∙ inserted_at runs at front back within)))
    (All-append IsRun (take at runs) (front ∷ (back ∷ drop (at + 1) runs)) (All-take IsRun at runs all)
    (All-cons IsRun front (back ∷ drop (at + 1) runs) (front_run now place (its_run runs at now within is_now all) least most)
    (All-cons IsRun back (drop (at + 1) runs) (back_run was place (its_run runs at was within is_was all) below) (All-drop IsRun (at + 1) runs all))))

-- an insertion that would have been refused only without room is done
pub inserted : {A E : Type 0} (P : Type 0) (r : Result A E) → OnErr r P → (P → ⊥) → is_ok r ≡ true
inserted P (Ok x) full room = refl
inserted P (Err e) full room = absurd (room full)

-- nothing goes with a row that no run has
pub nothing_goes : (row : Row) (runs : List HeldRun) → IsNotBetween row runs 0 (length runs)
    → rows_in runs ≡ filter (λ other. not (is_row row other)) (rows_in runs)
nothing_goes row runs none = not_there row (rows_in runs) (none_there row runs none)

-- a run that begins with rows is written without them
pub front_taken : (runs : List HeldRun) (at : ℕ) (was now : HeldRun) (gone : List Row) → at < length runs → was ≡ get_or runs at was
    → rows_of was ≡ gone ++ rows_of now → AreOnce (rows_in runs) → rows_in (set runs at now) ≡ without_all gone (rows_in runs)
front_taken runs at was now gone within is_was is once =
    let front = rows_in (take at runs) in
    let back = rows_in (drop (at + 1) runs) in
    let all : rows_in runs ≡ front ++ (gone ++ (rows_of now ++ back)) =
    at_place runs at was within
    ∙ (ap (λ (r : HeldRun). front ++ (rows_of r ++ back)) (sym is_was)
    ∙ (ap (λ (l : List Row). front ++ (l ++ back)) is ∙ ap (λ (l : List Row). front ++ l) (append_assoc gone (rows_of now) back))) in
    set_place runs at now within ∙ sym (ap (without_all gone) all ∙ taken_together front gone (rows_of now ++ back) (subst AreOnce all once))

-- a run that is longer by rows goes on with the next one
pub grown_more : (was run : HeldRun) (rows : List Row) (at : ℕ) (d : Row) → IsRun run → at < length rows → rows_of run ≡ rows_of was ++ take at rows
    → get_or rows at d ≡ row_after run.first run.to
    → rows_of (record { first = run.first; from = run.from; to = run.to + 1 }) ≡ rows_of was ++ take (at + 1) rows
grown_more was run rows at d is_run within is goes_on =
    let row = get_or rows at d in
    run_longer run row is_run.order goes_on
    ∙ (ap (λ (l : List Row). l ++ row ∷ []) is
    ∙ (append_assoc (rows_of was) (take at rows) (row ∷ []) ∙ ap (λ (l : List Row). rows_of was ++ l) (sym (take_more rows at d within))))

pub grown_run : (run : HeldRun) (rows : List Row) (at : ℕ) (d : Row) → IsRun run → All IsWithin rows → at < length rows
    → get_or rows at d ≡ row_after run.first run.to → run.first.slot + run.to < 2 ^ 32
    → IsRun (record { first = run.first; from = run.from; to = run.to + 1 })
grown_run run rows at d is_run near within goes_on small =
    let row = get_or rows at d in
    let fits : IsWithin row = All-get_or IsWithin rows at d within near in
    let slot : row.slot ≡ run.first.slot + run.to = ap (λ (r : Row). r.slot) goes_on in
    longer_run run row is_run goes_on (omega (arith, fits)) (omega (arith, slot, small))

-- a run without rows of its front goes on without the next one
pub shrunk_more : (was run : HeldRun) (rows : List Row) (at : ℕ) (d : Row) → at < length rows → rows_of was ≡ take at rows ++ rows_of run
    → run.from < run.to → get_or rows at d ≡ row_after run.first run.from
    → rows_of was ≡ take (at + 1) rows ++ rows_of (record { first = run.first; from = run.from + 1; to = run.to })
shrunk_more was run rows at d within is some first =
    let row = get_or rows at d in
    let rest = rows_from run.first (run.from + 1) (run.to - (run.from + 1)) in
    let split : rows_of run ≡ row ∷ rest =
    ap (rows_from run.first run.from) {x = run.to - run.from} {y = suc (run.to - (run.from + 1))} (omega (arith, some))
    ∙ ap (λ (r : Row). r ∷ rest) (sym first) in
    is ∙ (ap (λ (l : List Row). take at rows ++ l) split
    ∙ (sym (append_assoc (take at rows) (row ∷ []) rest) ∙ ap (λ (l : List Row). l ++ rest) (sym (take_more rows at d within))))

-- the rows of a run are adjacent
rows_adjacent : (row : Row) (k n : ℕ) → AreAdjacent (rows_from row k n)
rows_adjacent row k zero = tt
rows_adjacent row k (suc zero) = (tt, tt)
rows_adjacent row k (suc (suc n)) =
    (record { list = refl; slot = omega arith; generation = refl }, rows_adjacent row (k + 1) (suc n))

front_adjacent : (front back : List Row) → AreAdjacent (front ++ back) → AreAdjacent front
front_adjacent [] back adjacent = tt
front_adjacent (row ∷ []) back adjacent = (tt, tt)
front_adjacent (row ∷ (next ∷ front)) back adjacent = (adjacent.0, front_adjacent (next ∷ front) back adjacent.1)

-- and so are those that are taken out of its front
pub taken_adjacent : (run : HeldRun) (gone left : List Row) → rows_of run ≡ gone ++ left → AreAdjacent gone
taken_adjacent run gone left is =
    front_adjacent gone left (subst AreAdjacent is (rows_adjacent run.first run.from (run.to - run.from)))
