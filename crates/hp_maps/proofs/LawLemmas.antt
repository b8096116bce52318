-- Laws of logs and of stretches.
use Rattle.std.proofs.Common.{◌≡◌, ◌≤◌, ℕ, ◌+◌, Bool, true, false, not, cond, List, [], ◌∷◌, ◌++◌, refl, ap, ◌∙◌, sym, subst, arith, inl, inr, count_by}
use Rattle.std.specs.Prelude.{flat_map}
use Rattle.std.specs.List.{All}
use Rattle.std.proofs.lemmas.Bool.{cases_Bool, cond-true, cond-false}
use Rattle.std.proofs.lemmas.List.Elements.{All-head, All-tail}
use Rattle.hp_base.specs.declared.row.Row.{Row}
use Rattle.hp_base.specs.declared.row.Run.{Run}
use Rattle.hp_log.specs.Log.{table_at}
use Rattle.hp_log.specs.Rows.{at_slot, in_run, row_of, rows_at, rows_of}
use Rattle.hp_log.specs.declared.log_record.LogRecord.{LogRecord}
use Rattle.hp_log.specs.declared.log_record.LogRecord.TheVariants.{Drop}
use Rattle.hp_log.proofs.Counts.{count_cons}
use Rattle.hp_log.proofs.RowLemmas.{all_rows_below, in_run_from, row_at_place}
use Rattle.hp_log.proofs.TableLemmas.{once_at}
use Rattle.hp_maps.specs.Catching.{is_dropped, new_rows, undropped}
use Rattle.hp_maps.specs.Events.{in_front, stretches_of}
use Rattle.hp_maps.specs.Laws.{AreAtOneSlot, AreCut, AreJoined, BringsNothing, FallIntoStretches, HasOneRowASlot, IsApartAt}
use Rattle.hp_base.specs.Mapping.{AreApart, has_addr}
use Rattle.hp_maps.proofs.ListFacts.{filter_drops}

-- an Add that is dropped at once brings nothing
pub failed_brings_nothing : (run : Run) → BringsNothing run
failed_brings_nothing run n heap later =
    let gone : All (λ row. not (is_dropped (Drop run ∷ later) row) ≡ false) (rows_of run (n + 1)) =
    all_rows_below (λ row. not (is_dropped (Drop run ∷ later) row) ≡ false) run (n + 1) run.count
    (λ k within.
    let inside : in_run run (row_of run (n + 1) k) ≡ true =
    in_run_from run k (row_of run (n + 1) k) within (row_at_place run (n + 1) k) in
    rw inside refl) in
    let none : undropped (Drop run ∷ later) (rows_of run (n + 1)) ≡ [] =
    filter_drops (λ row. not (is_dropped (Drop run ∷ later) row)) (rows_of run (n + 1)) gone in
    let same : n + 1 + 1 ≡ n + 2 = omega arith in
    ap (λ l. l ++ new_rows (n + 1 + 1) later) none ∙ ap (λ (k : ℕ). new_rows k later) same

-- in a well-formed log no slot has two rows
pub one_row_a_slot : (records : List LogRecord) → HasOneRowASlot records
one_row_a_slot records formed n list slot = once_at records formed n list slot

abbrev one_if : Bool → ℕ
one_if b = cond b 1 0

-- where what passes one test passes another, no more are counted
pub count_fewer : {X : Type 0} (p q : X → Bool) (xs : List X) → All (λ x. p x ≡ true → q x ≡ true) xs → count_by p xs ≤ count_by q xs
count_fewer p q [] all = omega arith
count_fewer p q (x ∷ xs) all =
    let rest = count_fewer p q xs (All-tail (λ x. p x ≡ true → q x ≡ true) x xs all) in
    elim (cases_Bool (p x)) [
      | inl passes ↦
          let also : q x ≡ true = All-head (λ x. p x ≡ true → q x ≡ true) x xs all passes in
          let one : one_if (p x) ≡ 1 = ap one_if passes in
          let other : one_if (q x) ≡ 1 = ap one_if also in
          omega (arith, count_cons p x xs, count_cons q x xs, rest, one, other)
      | inr fails ↦
          let none : one_if (p x) ≡ 0 = ap one_if fails in
          omega (arith, count_cons p x xs, count_cons q x xs, rest, none)
    ]

flat_front : (joins : Row → Row → Bool) (row : Row) (stretches : List (List Row))
    → flat_map (λ (stretch : List Row). stretch) (in_front joins row stretches) ≡ row ∷ flat_map (λ (stretch : List Row). stretch) stretches
flat_front joins row [] = refl
flat_front joins row ([] ∷ stretches) = refl
flat_front joins row ((next ∷ stretch) ∷ stretches) =
    elim (cases_Bool (joins row next)) [
      | inl goes ↦ rw goes refl
      | inr ends ↦ rw ends refl
    ]

flat_stretches : (joins : Row → Row → Bool) (rows : List Row) → flat_map (λ (stretch : List Row). stretch) (stretches_of joins rows) ≡ rows
flat_stretches joins [] = refl
flat_stretches joins (row ∷ rows) = flat_front joins row (stretches_of joins rows) ∙ ap (λ l. row ∷ l) (flat_stretches joins rows)

joined_front : (joins : Row → Row → Bool) (row : Row) (stretches : List (List Row)) → AreJoined joins stretches
    → AreJoined joins (in_front joins row stretches)
joined_front joins row [] all = (tt, tt)
joined_front joins row ([] ∷ stretches) all = absurd all.0
joined_front joins row ((next ∷ stretch) ∷ stretches) all =
    elim (cases_Bool (joins row next)) [
      | inl goes ↦
          subst (AreJoined joins) (sym (cond-true (joins row next) ((row ∷ (next ∷ stretch)) ∷ stretches) ((row ∷ []) ∷ ((next ∷ stretch) ∷ stretches)) goes))
          ((goes, all.0), all.1)
      | inr ends ↦
          subst (AreJoined joins) (sym (cond-false (joins row next) ((row ∷ (next ∷ stretch)) ∷ stretches) ((row ∷ []) ∷ ((next ∷ stretch) ∷ stretches)) ends))
          (tt, all)
    ]

cut_front : (joins : Row → Row → Bool) (row : Row) (stretches : List (List Row)) → AreJoined joins stretches → AreCut joins stretches
    → AreCut joins (in_front joins row stretches)
cut_front joins row [] joined all = (tt, tt)
cut_front joins row ([] ∷ stretches) joined all = absurd joined.0
cut_front joins row ((next ∷ stretch) ∷ stretches) joined all =
    elim (cases_Bool (joins row next)) [
      | inl goes ↦
          subst (AreCut joins) (sym (cond-true (joins row next) ((row ∷ (next ∷ stretch)) ∷ stretches) ((row ∷ []) ∷ ((next ∷ stretch) ∷ stretches)) goes))
          (all.0, all.1)
      | inr ends ↦
          subst (AreCut joins) (sym (cond-false (joins row next) ((row ∷ (next ∷ stretch)) ∷ stretches) ((row ∷ []) ∷ ((next ∷ stretch) ∷ stretches)) ends))
          (ends, all)
    ]

joined_stretches : (joins : Row → Row → Bool) (rows : List Row) → AreJoined joins (stretches_of joins rows)
joined_stretches joins [] = tt
joined_stretches joins (row ∷ rows) = joined_front joins row (stretches_of joins rows) (joined_stretches joins rows)

cut_stretches : (joins : Row → Row → Bool) (rows : List Row) → AreCut joins (stretches_of joins rows)
cut_stretches joins [] = tt
cut_stretches joins (row ∷ rows) =
    cut_front joins row (stretches_of joins rows) (joined_stretches joins rows) (cut_stretches joins rows)

-- rows fall into their greatest stretches
pub fall_into_stretches : (joins : Row → Row → Bool) (rows : List Row) → FallIntoStretches joins rows
fall_into_stretches joins rows = record {
  whole = flat_stretches joins rows;
  joined = joined_stretches joins rows;
  cut = cut_stretches joins rows;
}

-- rows of which no slot has two, and those of one address are at one slot, have addresses of their own
pub apart_from_slots : (rows : List Row) → ((list slot : ℕ) → rows_at rows list slot ≤ 1) → AreAtOneSlot rows → AreApart rows
apart_from_slots rows once placed addr =
    let at = placed addr in
    omega (arith, count_fewer (has_addr addr) (at_slot at.0 at.1) rows at.2, once at.0 at.1)

pub log_apart : (records : List LogRecord) (n : ℕ) → IsApartAt records n
log_apart records n formed placed = apart_from_slots (table_at records n) (one_row_a_slot records formed n) placed
