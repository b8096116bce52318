-- A run among others by rising address.
use Rattle.std.proofs.Common.{◌≡◌, nat_lt, ℕ, zero, suc, ◌+◌, ◌<◌, ◌≤◌, Bool, true, false, ◌||◌, cond, if◌then◌else◌, List, [], ◌∷◌, ◌++◌, length, refl, ap, ◌∙◌, arith, count_by}
use Rattle.std.specs.List.{All}
use Rattle.std.specs.List.Sorted.{IsNonDecreasingBy}
use Rattle.std.proofs.lemmas.Bool.{ltb-false, ltb-true}
use Rattle.std.proofs.lemmas.List.Elements.{All-append, All-cons, All-head, All-nil, All-tail}
use Rattle.std.proofs.lemmas.List.Folds.{list_any-append}
use Rattle.hp_base.specs.declared.row.Row.{Row}
use Rattle.hp_base.specs.declared.row.Run.{Run}
use Rattle.hp_log.specs.Rows.{in_run}
use Rattle.hp_segs.specs.SoundRows.{in_runs}
use Rattle.hp_segs.specs.Steps.{insert_by_address}
use Rattle.hp_log.proofs.Counts.{count_cons}
use Rattle.hp_segs.proofs.SlotFacts.ListFacts.{split_back, split_front}

-- a row in one of two groups of runs
pub in_runs_append : (runs more : List Run) (row : Row) → in_runs (runs ++ more) row ≡ (in_runs runs row || in_runs more row)
in_runs_append runs more row = list_any-append (λ run. in_run run row) runs more

or_swap : (a b c : Bool) → (b || (a || c)) ≡ (a || (b || c))
or_swap true true c = refl
or_swap true false c = refl
or_swap false true c = refl
or_swap false false c = refl

insert_by : (lower : Bool) (run other : Run) (runs : List Run) (row : Row)
    → in_runs (insert_by_address run runs) row ≡ (in_run run row || in_runs runs row)
    → in_runs (if lower then run ∷ other ∷ runs else other ∷ insert_by_address run runs) row ≡ (in_run run row || in_runs (other ∷ runs) row)
insert_by true run other runs row rest = refl
insert_by false run other runs row rest =
    ap (λ b. in_run other row || b) rest ∙ or_swap (in_run run row) (in_run other row) (in_runs runs row)

-- a run with others
pub in_runs_insert : (run : Run) (runs : List Run) (row : Row) → in_runs (insert_by_address run runs) row ≡ (in_run run row || in_runs runs row)
in_runs_insert run [] row = refl
in_runs_insert run (other ∷ runs) row = insert_by (nat_lt run.addr other.addr) run other runs row (in_runs_insert run runs row)

length_insert_by : (lower : Bool) (run other : Run) (runs : List Run) → length (insert_by_address run runs) ≡ length runs + 1
    → length (if lower then run ∷ other ∷ runs else other ∷ insert_by_address run runs) ≡ length (other ∷ runs) + 1
length_insert_by true run other runs rest = omega arith
length_insert_by false run other runs rest = omega (arith, rest)

-- one run more
pub length_insert : (run : Run) (runs : List Run) → length (insert_by_address run runs) ≡ length runs + 1
length_insert run [] = refl
length_insert run (other ∷ runs) = length_insert_by (nat_lt run.addr other.addr) run other runs (length_insert run runs)

all_insert_by : (P : Run → Type 0) (lower : Bool) (run other : Run) (runs : List Run) → P run → All P (other ∷ runs) → All P (insert_by_address run runs)
    → All P (if lower then run ∷ other ∷ runs else other ∷ insert_by_address run runs)
all_insert_by P true run other runs one all rest = All-cons P run (other ∷ runs) one all
all_insert_by P false run other runs one all rest = All-cons P other (insert_by_address run runs) (All-head P other runs all) rest

pub all_insert : (P : Run → Type 0) (run : Run) (runs : List Run) → P run → All P runs → All P (insert_by_address run runs)
all_insert P run [] one all = All-cons P run [] one all
all_insert P run (other ∷ runs) one all =
    all_insert_by P (nat_lt run.addr other.addr) run other runs one all (all_insert P run runs one (All-tail P other runs all))

count_insert_by : (p : Run → Bool) (lower : Bool) (run other : Run) (runs : List Run)
    → count_by p (insert_by_address run runs) ≡ cond (p run) 1 0 + count_by p runs
    → count_by p (if lower then run ∷ other ∷ runs else other ∷ insert_by_address run runs) ≡ cond (p run) 1 0 + count_by p (other ∷ runs)
count_insert_by p true run other runs rest = count_cons p run (other ∷ runs)
count_insert_by p false run other runs rest =
    omega (arith, count_cons p other (insert_by_address run runs), count_cons p other runs, rest)

-- it is counted with the others
pub count_insert : (p : Run → Bool) (run : Run) (runs : List Run) → count_by p (insert_by_address run runs) ≡ cond (p run) 1 0 + count_by p runs
count_insert p run [] = count_cons p run []
count_insert p run (other ∷ runs) = count_insert_by p (nat_lt run.addr other.addr) run other runs (count_insert p run runs)

-- what holds of the run and of the others holds of all
pub insert_held : (P : Run → Type 0) (run : Run) (front runs : List Run) → P run → All P (front ++ runs) → All P (front ++ insert_by_address run runs)
insert_held P run front runs one all =
    All-append P front (insert_by_address run runs) (split_front P front runs all)
    (all_insert P run runs one (split_back P front runs all))

-- an element no greater than all others stands before them
pub rising_cons : {X : Type 0} (n : X → ℕ) (x : X) (xs : List X) → All (λ y. n x ≤ n y) xs → IsNonDecreasingBy n xs → IsNonDecreasingBy n (x ∷ xs)
rising_cons n x xs least rising zero zero d le within = omega arith
rising_cons n x xs least rising zero (suc j) d le within = least j d (omega arith)
rising_cons n x xs least rising (suc i) zero d le within = absurd (omega (arith, le))
rising_cons n x xs least rising (suc i) (suc j) d le within = rising i j d (omega arith) (omega arith)

rising_tail : {X : Type 0} (n : X → ℕ) (x : X) (xs : List X) → IsNonDecreasingBy n (x ∷ xs) → IsNonDecreasingBy n xs
rising_tail n x xs rising i j d le within = rising (suc i) (suc j) d (omega arith) (omega arith)

rising_head : {X : Type 0} (n : X → ℕ) (x : X) (xs : List X) → IsNonDecreasingBy n (x ∷ xs) → All (λ y. n x ≤ n y) xs
rising_head n x xs rising k d within = rising zero (suc k) d (omega arith) (omega arith)

insert_rises_by : (lower : Bool) (run other : Run) (runs : List Run) → nat_lt run.addr other.addr ≡ lower
    → IsNonDecreasingBy (λ (run : Run). run.addr) (other ∷ runs) → IsNonDecreasingBy (λ (run : Run). run.addr) (insert_by_address run runs)
    → IsNonDecreasingBy (λ (run : Run). run.addr) (if lower then run ∷ other ∷ runs else other ∷ insert_by_address run runs)
insert_rises_by true run other runs is rising rest =
    let below : run.addr < other.addr = ltb-true run.addr other.addr is in
    rising_cons (λ (run : Run). run.addr) run (other ∷ runs)
    (All-cons (λ (next : Run). run.addr ≤ next.addr) other runs (omega (arith, below))
    (λ k d within. let more = rising_head (λ (run : Run). run.addr) other runs rising k d within in omega (arith, below, more)))
    rising
insert_rises_by false run other runs is rising rest =
    let above : other.addr ≤ run.addr = ltb-false run.addr other.addr is in
    rising_cons (λ (run : Run). run.addr) other (insert_by_address run runs)
    (all_insert (λ (next : Run). other.addr ≤ next.addr) run runs above (rising_head (λ (run : Run). run.addr) other runs rising))
    rest

-- runs that rise by address rise with one more
pub insert_rises : (run : Run) (runs : List Run) → IsNonDecreasingBy (λ (run : Run). run.addr) runs
    → IsNonDecreasingBy (λ (run : Run). run.addr) (insert_by_address run runs)
insert_rises run [] rising =
    rising_cons (λ (run : Run). run.addr) run [] (All-nil (λ (next : Run). run.addr ≤ next.addr)) rising
insert_rises run (other ∷ runs) rising =
    insert_rises_by (nat_lt run.addr other.addr) run other runs refl rising
    (insert_rises run runs (rising_tail (λ (run : Run). run.addr) other runs rising))
