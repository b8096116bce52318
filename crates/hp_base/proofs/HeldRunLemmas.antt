-- Runs of rows next to each other.
use Rattle.std.proofs.Common.{◌≡◌, ◌≤◌, ◌<◌, ℕ, zero, suc, ◌+◌, ◌-◌, ◌*◌, ◌^◌, Bool, true, false, not, ◌==◌, ◌||◌, cond, nat_lt, List, [], ◌∷◌, ◌++◌, length, take, drop, set, get_or, filter, refl, ap, ◌∙◌, sym, subst, arith, inl, inr, count_by, append_assoc, length-append}
use Rattle.std.proofs.Math.Nat.{add-mul, mul-le-mul_right}
use Rattle.std.specs.List.{list_any}
use Rattle.std.proofs.lemmas.Bool.{cases_Bool, cases_lt, and_parts, eqb-true, ltb-false, ltb-true}
use Rattle.std.proofs.lemmas.List.{drop_more, set_split, take-append-drop}
use Rattle.std.proofs.lemmas.List.Folds.{list_any-append}
use Rattle.hp_base.specs.HeldRows.{IsNotBetween, IsRun, StandsAt, StandsIn, has_rows, is_in, row_after, rows_before, rows_behind, rows_from, rows_in, rows_of}
use Rattle.hp_base.specs.Mapping.{is_row}
use Rattle.hp_base.specs.declared.held_rows.HeldRun.{HeldRun}
use Rattle.hp_base.specs.declared.row.Row.{Row}
use Rattle.hp_base.proofs.HeldRowLemmas.{taken_out}

-- an address within a run, or at its end, fits
pub near_end : (run : HeldRun) (place : ℕ) → IsRun run → place ≤ run.to → run.first.addr + place * run.first.page < 2 ^ 64
near_end run place its_run within =
    let below : place * run.first.page ≤ run.to * run.first.page = mul-le-mul_right run.first.page within in
    let ends = its_run.ends in
    omega arith

-- a row after none is the row itself
after_none : (row : Row) → row_after row 0 ≡ row
after_none row =
    ap (λ n. record { addr = n; page = row.page; socket = row.socket; list = row.list; slot = row.slot + 0; generation = row.generation })
    {x = row.addr + 0 * row.page} {y = row.addr} (omega arith)
    ∙ ap (λ n. record { addr = row.addr; page = row.page; socket = row.socket; list = row.list; slot = n; generation = row.generation })
    {x = row.slot + 0} {y = row.slot} (omega arith)

-- so many rows and as many more
from_add : (row : Row) (k m n : ℕ) → rows_from row k (m + n) ≡ rows_from row k m ++ rows_from row (k + m) n
from_add row k zero n =
    ap (rows_from row k) {x = zero + n} {y = n} (omega arith) ∙ ap (λ (j : ℕ). rows_from row j n) {x = k} {y = k + zero} (omega arith)
from_add row k (suc m) n =
    ap (rows_from row k) {x = suc m + n} {y = suc (m + n)} (omega arith)
    ∙ (ap (λ (l : List Row). row_after row k ∷ l) (from_add row (k + 1) m n)
    ∙ ap (λ (j : ℕ). row_after row k ∷ (rows_from row (k + 1) m ++ rows_from row j n)) {x = k + 1 + m} {y = k + suc m} (omega arith))

-- the rows of a run up to a place, the one there, and those after it
pub run_split : (run : HeldRun) (place : ℕ) → run.from ≤ place → place < run.to
    → rows_of run ≡ rows_before run place ++ row_after run.first place ∷ rows_behind run place
run_split run place from within =
    let rest = run.to - (place + 1) in
    ap (rows_from run.first run.from) {x = run.to - run.from} {y = place - run.from + suc rest} (omega (arith, from, within))
    ∙ (from_add run.first run.from (place - run.from) (suc rest)
    ∙ ap (λ (j : ℕ). rows_before run place ++ row_after run.first j ∷ rows_from run.first (j + 1) rest) {x = run.from + (place - run.from)} {y = place}
    (omega (arith, from)))

-- a run with one row more
pub run_longer : (run : HeldRun) (row : Row) → run.from ≤ run.to → row ≡ row_after run.first run.to
    → rows_from run.first run.from (run.to + 1 - run.from) ≡ rows_of run ++ row ∷ []
run_longer run row order is =
    ap (rows_from run.first run.from) {x = run.to + 1 - run.from} {y = run.to - run.from + suc zero} (omega (arith, order))
    ∙ (from_add run.first run.from (run.to - run.from) (suc zero)
    ∙ ap (λ (last : Row). rows_of run ++ last ∷ [])
    (ap (row_after run.first) {x = run.from + (run.to - run.from)} {y = run.to} (omega (arith, order)) ∙ sym is))

longer_ends : (run : HeldRun) (row : Row) → row ≡ row_after run.first run.to → row.addr + row.page < 2 ^ 64
    → run.first.addr + (run.to + 1) * run.first.page < 2 ^ 64
longer_ends run row is within =
    let product = add-mul run.to 1 run.first.page in
    let addr : row.addr ≡ run.first.addr + run.to * run.first.page = ap (λ (r : Row). r.addr) is in
    let page : row.page ≡ run.first.page = ap (λ (r : Row). r.page) is in
    omega arith

pub longer_run : (run : HeldRun) (row : Row) → IsRun run → row ≡ row_after run.first run.to → row.addr + row.page < 2 ^ 64 → row.slot < 2 ^ 32
    → IsRun (record { first = run.first; from = run.from; to = run.to + 1 })
longer_run run row its_run is within small =
    let slot : row.slot ≡ run.first.slot + run.to = ap (λ (r : Row). r.slot) is in
    record {
      order = omega (arith, its_run.order);
      ends = longer_ends run row is within;
      slots = omega (arith, slot, small);
    }

-- what is left of a run before a place, and after it
pub front_run : (run : HeldRun) (place : ℕ) → IsRun run → run.from ≤ place → place < run.to
    → IsRun (record { first = run.first; from = run.from; to = place })
front_run run place its_run from within = record {
  order = from;
  ends = near_end run place its_run (omega (arith, within));
  slots = omega (arith, its_run.slots, within);
}

pub back_run : (run : HeldRun) (place : ℕ) → IsRun run → place < run.to
    → IsRun (record { first = run.first; from = place + 1; to = run.to })
back_run run place its_run within = record { order = omega (arith, within); ends = its_run.ends; slots = its_run.slots }

-- a run of one row
pub alone : (row : Row) → rows_in (record { first = row; from = 0; to = 1 } ∷ []) ≡ row ∷ []
alone row = ap (λ (r : Row). r ∷ []) (after_none row)

-- the rows of runs after others
pub rows_behind_all : (runs more : List HeldRun) → rows_in (runs ++ more) ≡ rows_in runs ++ rows_in more
rows_behind_all [] more = refl
rows_behind_all (run ∷ runs) more =
    ap (λ (l : List Row). rows_of run ++ l) (rows_behind_all runs more) ∙ sym (append_assoc (rows_of run) (rows_in runs) (rows_in more))

-- a run of no rows
pub no_rows : (run : HeldRun) → run.to ≤ run.from → rows_of run ≡ []
no_rows run none = ap (rows_from run.first run.from) {x = run.to - run.from} {y = zero} (omega (arith, none))

pub empty_run : (run : HeldRun) → has_rows run ≡ false → rows_of run ≡ []
empty_run run none = no_rows run (ltb-false run.from run.to none)

-- without empty runs the rows are the same, and each run has one
pub without_gaps : (runs : List HeldRun) → rows_in (filter has_rows runs) ≡ rows_in runs
without_gaps [] = refl
without_gaps (run ∷ runs) = elim (cases_Bool (has_rows run)) [
  | inl some ↦
      ap (λ b. rows_in (cond b (run ∷ filter has_rows runs) (filter has_rows runs))) some
      ∙ ap (λ (l : List Row). rows_of run ++ l) (without_gaps runs)
  | inr none ↦
      ap (λ b. rows_in (cond b (run ∷ filter has_rows runs) (filter has_rows runs))) none
      ∙ (without_gaps runs ∙ ap (λ (l : List Row). l ++ rows_in runs) (sym (empty_run run none)))
]

length_from : (row : Row) (k n : ℕ) → length (rows_from row k n) ≡ n
length_from row k zero = refl
length_from row k (suc n) = ap suc (length_from row (k + 1) n)

pub as_many : (runs : List HeldRun) → length (filter has_rows runs) ≤ length (rows_in runs)
as_many [] = omega arith
as_many (run ∷ runs) =
    let rest = as_many runs in
    let both = length-append (rows_of run) (rows_in runs) in
    let its_own = length_from run.first run.from (run.to - run.from) in
    elim (cases_Bool (has_rows run)) [
      | inl some ↦
          let all = ap (λ b. length (cond b (run ∷ filter has_rows runs) (filter has_rows runs))) some in
          let least : run.from < run.to = ltb-true run.from run.to some in
          omega (arith, all, rest, both, its_own, least)
      | inr none ↦
          let all = ap (λ b. length (cond b (run ∷ filter has_rows runs) (filter has_rows runs))) none in
          omega (arith, all, rest, both)
    ]

-- an empty run after others has no row
pub gap_behind : (runs : List HeldRun) (n : ℕ) (d : HeldRun) → n < length runs → (get_or runs n d).to ≤ (get_or runs n d).from
    → rows_in (take n runs) ≡ rows_in (take (suc n) runs)
gap_behind [] n d within none = absurd (omega (arith, within))
gap_behind (run ∷ runs) zero d within none = sym (ap (λ (l : List Row). l ++ []) (no_rows run none))
gap_behind (run ∷ runs) (suc n) d within none =
    ap (λ (l : List Row). rows_of run ++ l) (gap_behind runs n d (omega (arith, within)) none)

-- runs by those before a place, the one there, and those after it
pub at_place : (runs : List HeldRun) (at : ℕ) (d : HeldRun) → at < length runs
    → rows_in runs ≡ rows_in (take at runs) ++ (rows_of (get_or runs at d) ++ rows_in (drop (at + 1) runs))
at_place runs at d within =
    ap rows_in (sym (take-append-drop at runs) ∙ ap (λ (l : List HeldRun). take at runs ++ l) (drop_more runs at d within))
    ∙ rows_behind_all (take at runs) (get_or runs at d ∷ drop (at + 1) runs)

-- a row is at the place of a run that its slot says, or nowhere in it
other_slot : (row other : Row) → (other.slot ≡ row.slot → ⊥) → is_row row other ≡ false
other_slot row other differs = elim (cases_Bool (is_row row other)) [
  | inl is ↦
      let addr = and_parts (other.addr == row.addr) _ is in
      let page = and_parts (other.page == row.page) _ addr.1 in
      let socket = and_parts (other.socket == row.socket) _ page.1 in
      let list = and_parts (other.list == row.list) _ socket.1 in
      let slot = and_parts (other.slot == row.slot) (other.generation == row.generation) list.1 in
      absurd (differs (eqb-true _ _ slot.0))
  | inr none ↦ none
]

or_none : (b : Bool) → (b || false) ≡ b
or_none true = refl
or_none false = refl

-- no row of a run has a slot below its first one, or above its last one
none_before : (row first : Row) (k n : ℕ) → row.slot < first.slot + k → list_any (is_row row) (rows_from first k n) ≡ false
none_before row first k zero below = refl
none_before row first k (suc n) below =
    rw (other_slot row (row_after first k) (λ same. omega (arith, same, below)), none_before row first (k + 1) n (omega (arith, below))) refl

none_past : (row first : Row) (k n : ℕ) → first.slot + k + n ≤ row.slot → list_any (is_row row) (rows_from first k n) ≡ false
none_past row first k zero past = refl
none_past row first k (suc n) past =
    rw (other_slot row (row_after first k) (λ same. omega (arith, same, past)), none_past row first (k + 1) n (omega (arith, past))) refl

-- and the row at its slot's place is the only one that it can be
one_there : (row first : Row) (k n : ℕ) → first.slot + k ≤ row.slot → row.slot < first.slot + k + n
    → list_any (is_row row) (rows_from first k n) ≡ is_row row (row_after first (row.slot - first.slot))
one_there row first k zero from to = absurd (omega (arith, from, to))
one_there row first k (suc n) from to = elim (cases_lt (first.slot + k) row.slot) [
  | inl above ↦
      rw (other_slot row (row_after first k) (λ same. omega (arith, same, above))) (one_there row first (k + 1) n (omega (arith, above)) (omega (arith, to)))
  | inr here ↦
      rw (none_before row first (k + 1) n (omega (arith, here)))
      (or_none (is_row row (row_after first k)) ∙ ap (λ (j : ℕ). is_row row (row_after first j)) {x = k} {y = row.slot - first.slot} (omega (arith, from, here)))
]

-- what a test of a row against a run answers
pub slot_below : (row : Row) (run : HeldRun) → row.slot < run.first.slot → is_in row run ≡ false
slot_below row run below = none_before row run.first run.from (run.to - run.from) (omega (arith, below))

pub place_below : (row : Row) (run : HeldRun) → run.first.slot ≤ row.slot → row.slot - run.first.slot < run.from → is_in row run ≡ false
place_below row run above below = none_before row run.first run.from (run.to - run.from) (omega (arith, above, below))

pub place_past : (row : Row) (run : HeldRun) → run.first.slot ≤ row.slot → run.from ≤ row.slot - run.first.slot
    → run.to ≤ row.slot - run.first.slot → is_in row run ≡ false
place_past row run above from past = none_past row run.first run.from (run.to - run.from) (omega (arith, above, from, past))

pub place_there : (row : Row) (run : HeldRun) → run.first.slot ≤ row.slot → run.from ≤ row.slot - run.first.slot
    → row.slot - run.first.slot < run.to → is_in row run ≡ is_row row (row_after run.first (row.slot - run.first.slot))
place_there row run above from to =
    one_there row run.first run.from (run.to - run.from) (omega (arith, above, from)) (omega (arith, above, from, to))

-- a run that has a row has it at a place
pub its_place : (row : Row) (run : HeldRun) → is_in row run ≡ true → StandsIn row run (row.slot - run.first.slot)
its_place row run there = elim (cases_lt row.slot (run.first.slot + run.from)) [
  | inl below ↦ absurd (never (sym (none_before row run.first run.from (run.to - run.from) below) ∙ there))
  | inr from ↦ elim (cases_lt row.slot (run.first.slot + run.to)) [
    | inr past ↦ absurd (never (sym (none_past row run.first run.from (run.to - run.from) (omega (arith, from, past))) ∙ there))
    | inl to ↦ record {
      above = omega (arith, from);
      from = omega (arith, from);
      within = omega (arith, from, to);
      there = sym (one_there row run.first run.from (run.to - run.from) from (omega (arith, from, to))) ∙ there;
    }
  ]
]
  where
    never : false ≡ true → ⊥
    never wrong = cc

-- without a row that stands at a place of a run, the others stay
pub run_without : (row : Row) (runs : List HeldRun) (at place : ℕ) (d : HeldRun) → at < length runs → StandsIn row (get_or runs at d) place
    → count_by (is_row row) (rows_in runs) ≤ 1
    → rows_in (take at runs) ++ (rows_before (get_or runs at d) place ++ (rows_behind (get_or runs at d) place ++ rows_in (drop (at + 1) runs)))
    ≡ filter (λ other. not (is_row row other)) (rows_in runs)
run_without row runs at place d within stands once =
    let run : HeldRun = get_or runs at d in
    let front : List Row = rows_in (take at runs) in
    let head : List Row = rows_before run place in
    let other : Row = row_after run.first place in
    let back : List Row = rows_behind run place in
    let rest : List Row = rows_in (drop (at + 1) runs) in
    let all : rows_in runs ≡ (front ++ head) ++ other ∷ (back ++ rest) =
    at_place runs at d within
    ∙ (ap (λ (l : List Row). front ++ (l ++ rest)) (run_split run place stands.from stands.within)
    ∙ (ap (λ (l : List Row). front ++ l) (append_assoc head (other ∷ back) rest)
    ∙ sym (append_assoc front head (other ∷ (back ++ rest))))) in
    sym (ap (filter (λ x. not (is_row row x))) all
    ∙ (taken_out row other (front ++ head) (back ++ rest) stands.there (subst (λ (l : List Row). count_by (is_row row) l ≤ 1) all once)
    ∙ append_assoc front head (back ++ rest)))

-- where it is the first row of its run
pub first_without : (row : Row) (runs : List HeldRun) (at place : ℕ) (d : HeldRun) → at < length runs → StandsIn row (get_or runs at d) place
    → place ≡ (get_or runs at d).from → count_by (is_row row) (rows_in runs) ≤ 1
    → rows_in (take at runs) ++ (rows_behind (get_or runs at d) place ++ rows_in (drop (at + 1) runs))
    ≡ filter (λ other. not (is_row row other)) (rows_in runs)
first_without row runs at place d within stands first once =
    let run : HeldRun = get_or runs at d in
    ap (λ (l : List Row). rows_in (take at runs) ++ (l ++ (rows_behind run place ++ rows_in (drop (at + 1) runs))))
    (ap (rows_from run.first run.from) {x = zero} {y = place - run.from} (omega (arith, first)))
    ∙ run_without row runs at place d within stands once

-- another run in the place of one
pub set_place : (runs : List HeldRun) (at : ℕ) (now : HeldRun) → at < length runs
    → rows_in (set runs at now) ≡ rows_in (take at runs) ++ (rows_of now ++ rows_in (drop (at + 1) runs))
set_place runs at now within =
    ap rows_in (set_split runs at now within)
    ∙ (rows_behind_all (take at runs) (now ∷ drop (suc at) runs)
    ∙ ap (λ (j : ℕ). rows_in (take at runs) ++ (rows_of now ++ rows_in (drop j runs))) {x = suc at} {y = at + 1} (omega arith))

-- a row that no run has is not there
pub none_there : (row : Row) (runs : List HeldRun) → IsNotBetween row runs 0 (length runs) → list_any (is_row row) (rows_in runs) ≡ false
none_there row [] none = refl
none_there row (run ∷ runs) none =
    list_any-append (is_row row) (rows_of run) (rows_in runs)
    ∙ rw (none 0 (omega arith) (omega arith) run, none_there row runs (λ at from to d. none (suc at) (omega arith) (omega (arith, to)) d)) refl

-- and one that a run has is
pub some_there : (row : Row) (runs : List HeldRun) (at : ℕ) → StandsAt row runs at → list_any (is_row row) (rows_in runs) ≡ true
some_there row [] at stands = absurd (omega (arith, stands.within))
some_there row (run ∷ runs) zero stands =
    list_any-append (is_row row) (rows_of run) (rows_in runs) ∙ rw (stands.there run) refl
some_there row (run ∷ runs) (suc at) stands =
    list_any-append (is_row row) (rows_of run) (rows_in runs)
    ∙ (rw (some_there row runs at (record { within = omega (arith, stands.within); there = λ d. stands.there d })) refl
    ∙ or_some (list_any (is_row row) (rows_of run)))
  where
    or_some : (b : Bool) → (b || true) ≡ true
    or_some true = refl
    or_some false = refl
