-- All rows are told and unmapped.
use Rattle.std.proofs.Common.{◌≡◌, ◌≤◌, ◌+◌, Bool, true, false, not, List, [], ◌∷◌, length, ap, ◌∙◌, sym, arith, inl, inr}
use Rattle.std.specs.List.Sorted.{IsPermutation}
use Rattle.std.proofs.lemmas.Bool.{cases_Bool}
use Rattle.std.proofs.lemmas.List.{length-map}
use Rattle.std.proofs.lemmas.List.Elements.{All-weaker}
use Rattle.std.proofs.lemmas.List.Sorted.{list_any-IsPermutation}
use Rattle.hp_base.specs.Mapping.{Held, is_row, owned, without_rows}
use Rattle.hp_base.specs.declared.event.EventKind.{EventKind}
use Rattle.hp_base.specs.declared.row.Row.{Row}
use Rattle.hp_maps.specs.Events.{event_of, events_of, in_front, joins_by, stretches_of}
use Rattle.hp_maps.proofs.HeldLemmas.{all_there, has_row, owned_without_rows}
use Rattle.hp_maps.proofs.ListFacts.{filter_drops}

-- one row more makes one stretch more at most
in_front_length : (joins : Row → Row → Bool) (row : Row) (stretches : List (List Row)) → length (in_front joins row stretches) ≤ 1 + length stretches
in_front_length joins row [] = omega arith
in_front_length joins row ([] ∷ stretches) = omega arith
in_front_length joins row ((next ∷ stretch) ∷ stretches) =
    elim (cases_Bool (joins row next)) [
      | inl goes ↦ rw goes (omega arith)
      | inr ends ↦ rw ends (omega arith)
    ]

stretches_length : (joins : Row → Row → Bool) (rows : List Row) → length (stretches_of joins rows) ≤ length rows
stretches_length joins [] = omega arith
stretches_length joins (row ∷ rows) =
    omega (arith, in_front_length joins row (stretches_of joins rows), stretches_length joins rows)

-- there are no more events than rows
pub events_length : (kind : EventKind) (rows : List Row) → length (events_of kind rows) ≤ length rows
events_length kind rows =
    omega (arith, length-map (stretches_of (joins_by kind) rows) (event_of kind), stretches_length (joins_by kind) rows)

-- where all rows are unmapped, in whatever order, nothing is held
pub all_unmapped : (rows rising : List Row) (held : List Held) → IsPermutation rows rising → held ≡ owned rows → without_rows rising held ≡ []
all_unmapped rows rising held same is_held =
    ap (without_rows rising) is_held
    ∙ (owned_without_rows rising rows
    ∙ ap owned (filter_drops (λ row. not (has_row rising row)) rows
    (All-weaker (λ row. has_row rows row ≡ true) (λ row. not (has_row rising row) ≡ false)
    (λ row there. ap not (sym (list_any-IsPermutation (λ other. is_row other row) rows rising same) ∙ there)) rows (all_there rows))))
