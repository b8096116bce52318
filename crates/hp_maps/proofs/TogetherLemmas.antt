-- Rows that go with a run as far as they stand next to each other.
use Rattle.std.proofs.Common.{◌≡◌, ◌≤◌, ◌<◌, ℕ, zero, suc, ◌+◌, ◌-◌, Bool, true, false, not, ◌&&◌, ◌||◌, List, [], ◌∷◌, ◌++◌, filter, length, take, drop, get_or, refl, ap, ◌∙◌, sym, subst, arith, nat_lt, inl, inr, drop-cons, take-add, length-take}
use Rattle.std.specs.List.{All}
use Rattle.std.proofs.lemmas.Bool.{and_from, and_parts, cases_Bool, eq-eqb}
use Rattle.std.proofs.lemmas.List.{take_rest}
use Rattle.std.proofs.lemmas.List.Elements.{All-append, All-cons, All-head, All-nil, All-tail, All-weaker}
use Rattle.hp_base.specs.Mapping.{AreAdjacent, Held, IsNextTo, is_row, owned, without_row, without_rows}
use Rattle.hp_base.specs.declared.row.Row.{Row}
use Rattle.hp_base.specs.declared.row.Run.{Run}
use Rattle.hp_log.proofs.RowLemmas.{in_run_from, place_in_run}
use Rattle.hp_log.specs.Rows.{in_run}
use Rattle.hp_maps.specs.MapsView.{is_of_log}
use Rattle.hp_maps.specs.RowsView.{LacksGoing, MayGoAtOnce, goes_with}
use Rattle.hp_maps.proofs.HeldLemmas.{all_there, has_passing, has_row, owned_without_rows, same_row}
use Rattle.hp_maps.proofs.ListFacts.{filter_agree, filter_twice}
use Rattle.hp_maps.proofs.MapLemmas.{without_append}

-- a row after others
pub one_more : (rows : List Row) (at : ℕ) (d : Row) → at < length rows → take (at + 1) rows ≡ take at rows ++ get_or rows at d ∷ []
one_more rows at d within = take-add at 1 rows ∙ ap (λ (l : List Row). take at rows ++ take 1 l) (drop-cons rows at d within)

-- rows that go, and one more
pub go_one_more : (p : Row → Bool) (rows : List Row) (at : ℕ) (d : Row) → at < length rows → p (get_or rows at d) ≡ true
    → All (λ row. p row ≡ true) (take at rows) → All (λ row. p row ≡ true) (take (at + 1) rows)
go_one_more p rows at d within one all =
    subst (All (λ row. p row ≡ true)) (sym (one_more rows at d within))
    (All-append (λ row. p row ≡ true) (take at rows) (get_or rows at d ∷ []) all
    (All-cons (λ row. p row ≡ true) (get_or rows at d) [] one (All-nil (λ row. p row ≡ true))))

-- and more
pub go_more : (p : Row → Bool) (rows : List Row) (at n : ℕ) → All (λ row. p row ≡ true) (take at rows)
    → All (λ row. p row ≡ true) (take n (drop at rows)) → All (λ row. p row ≡ true) (take (at + n) rows)
go_more p rows at n all more =
    subst (All (λ row. p row ≡ true)) (sym (take-add at n rows))
    (All-append (λ row. p row ≡ true) (take at rows) (take n (drop at rows)) all more)

-- one row is unmapped after others
pub unmapped_one_more : (rows : List Row) (at : ℕ) (d : Row) (before now after : List Held) → at < length rows
    → now ≡ without_rows (take at rows) before → after ≡ without_row (get_or rows at d) now → after ≡ without_rows (take (at + 1) rows) before
unmapped_one_more rows at d before now after within is_now is_after =
    is_after
    ∙ (ap (without_row (get_or rows at d)) is_now
    ∙ (sym (without_append (take at rows) (get_or rows at d ∷ []) before) ∙ ap (λ (l : List Row). without_rows l before) (sym (one_more rows at d within))))

-- and more are
pub unmapped_more : (rows : List Row) (at n : ℕ) (before now after : List Held)
    → now ≡ without_rows (take at rows) before → after ≡ without_rows (take n (drop at rows)) now → after ≡ without_rows (take (at + n) rows) before
unmapped_more rows at n before now after is_now is_after =
    is_after
    ∙ (ap (without_rows (take n (drop at rows))) is_now
    ∙ (sym (without_append (take at rows) (take n (drop at rows)) before) ∙ ap (λ (l : List Row). without_rows l before) (sym (take-add at n rows))))

-- a row next to one that goes with a run goes with it too, where the run has its slot
next_goes : (run : Run) (row next : Row) → IsNextTo row next → goes_with run row ≡ true → next.slot < run.first + run.count
    → goes_with run next ≡ true
next_goes run row next adjacent goes below =
    let parts = and_parts (in_run run row) (is_of_log row) goes in
    let at = place_in_run run row parts.0 in
    let its_place : next.slot ≡ run.first + (next.slot - run.first) = omega (arith, at.its_slot, adjacent.slot) in
    and_from _ _
    (in_run_from run (next.slot - run.first) next (omega (arith, at.its_slot, adjacent.slot, below))
    (and_from _ _ (eq-eqb next.list run.list (adjacent.list ∙ at.its_list)) (eq-eqb next.slot (run.first + (next.slot - run.first)) its_place)))
    (subst (λ (n : ℕ). nat_lt 0 n ≡ true) (sym adjacent.generation) parts.1)

-- adjacent rows go with a run as far as it has slots, where the first of them goes
pub all_go : (run : Run) (row : Row) (rows : List Row) → AreAdjacent (row ∷ rows) → goes_with run row ≡ true
    → row.slot + length (row ∷ rows) ≤ run.first + run.count → All (λ one. goes_with run one ≡ true) (row ∷ rows)
all_go run row [] adjacent goes few = All-cons (λ one. goes_with run one ≡ true) row [] goes (All-nil (λ one. goes_with run one ≡ true))
all_go run row (next ∷ rows) adjacent goes few =
    All-cons (λ one. goes_with run one ≡ true) row (next ∷ rows) goes
    (all_go run next rows adjacent.1 (next_goes run row next adjacent.0 goes (omega (arith, few))) (omega (arith, few, adjacent.0.slot)))

pub may_go : (run : Run) (rows : List Row) (most : ℕ) (d : Row) → 0 < length rows → goes_with run (get_or rows 0 d) ≡ true
    → most + (get_or rows 0 d).slot ≡ run.first + run.count → MayGoAtOnce run rows most
may_go run [] most d some goes is n within adjacent = absurd (omega (arith, some))
may_go run (row ∷ rows) most d some goes is zero within adjacent = All-nil (λ one. goes_with run one ≡ true)
may_go run (row ∷ rows) most d some goes is (suc n) within adjacent =
    all_go run row (take n rows) adjacent goes (omega (arith, within, is, length-take n rows))

-- so many slots a run has from the slot of a row on that goes with it
pub runs_on : (run : Run) (row : Row) → goes_with run row ≡ true → (run.count - (row.slot - run.first)) + row.slot ≡ run.first + run.count
runs_on run row goes =
    let at = place_in_run run row (and_parts (in_run run row) (is_of_log row) goes).0 in
    omega (arith, at.within, at.its_slot)

pub none_may_go : (run : Run) (rows : List Row) → MayGoAtOnce run rows 0
none_may_go run rows zero within adjacent = All-nil (λ one. goes_with run one ≡ true)
none_may_go run rows (suc n) within adjacent = absurd (omega (arith, within))

-- the first of the first ones
pub take_front : {X : Type 0} (n m : ℕ) (xs : List X) → n ≤ m → take n (take m xs) ≡ take n xs
take_front zero m xs within = refl
take_front (suc n) zero xs within = absurd (omega (arith, within))
take_front (suc n) (suc m) [] within = refl
take_front (suc n) (suc m) (x ∷ xs) within = ap (λ rest. x ∷ rest) (take_front n m xs (omega (arith, within)))

gone_goes : (p : Row → Bool) (gone : List Row) (row : Row) → All (λ one. p one ≡ true) gone → has_row gone row ≡ true → p row ≡ true
gone_goes p [] row all there = absurd (cc)
gone_goes p (other ∷ gone) row all there =
    elim (cases_Bool (is_row other row)) [
      | inl same ↦ subst (λ (one : Row). p one ≡ true) (sym (same_row other row same)) (All-head (λ one. p one ≡ true) other gone all)
      | inr apart ↦
          gone_goes p gone row (All-tail (λ one. p one ≡ true) other gone all) (sym (ap (λ b. b || has_row gone row) apart) ∙ there)
    ]

left_out : (a b c : Bool) → b ≡ c → (a ≡ true → c ≡ true) → (not a && not b) ≡ not c
left_out true b c same goes = sym (ap not (goes refl))
left_out false b c same goes = ap not same

-- rows that go with a run are unmapped: of those that go these lack
pub lacks_gone : (run : Run) (rows gone : List Row) (held : List Held) → All (λ row. goes_with run row ≡ true) gone
    → held ≡ without_rows gone (owned rows) → LacksGoing run rows held
lacks_gone run rows gone held all is =
    let goes = goes_with run in
    ap (without_rows (filter goes rows)) (is ∙ owned_without_rows gone rows)
    ∙ (owned_without_rows (filter goes rows) (filter (λ row. not (has_row gone row)) rows)
    ∙ ap owned (filter_twice (λ row. not (has_row (filter goes rows) row)) (λ row. not (has_row gone row)) rows
    ∙ filter_agree _ (λ row. not (goes row)) rows
    (All-weaker (λ row. has_row rows row ≡ true) (λ row. (not (has_row gone row) && not (has_row (filter goes rows) row)) ≡ not (goes row))
    (λ row there. left_out (has_row gone row) (has_row (filter goes rows) row) (goes row) (has_passing goes rows row there) (gone_goes goes gone row all)) rows
    (all_there rows))))

-- the rows from a place on, as they are handed on
pub rest_is : (read rows : List Row) (at : ℕ) → read ≡ rows → take (length read - at) (drop at read) ≡ drop at rows
rest_is read rows at same = take_rest read at ∙ ap (drop at) same
