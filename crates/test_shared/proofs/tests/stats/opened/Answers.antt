use Rattle.std.proofs.Common.{◌≡◌, List, [], ◌∷◌, Some, map, replicate, slice_get, refl, sym, ap, ◌∙◌}
use Rattle.std.proofs.lemmas.Option.{same_Some}
use Rattle.atomic_table.specs.Seated.{TableId}
use Rattle.hp_stats.specs.StatViews.{PassView, PenView, new_pass, new_pen}
use Rattle.test_shared.proofs.tests.stats.opened.Goals as goal

cells_of : (cells : List TableId) → map (λ (p : PenView). p.cell) (map new_pen cells) ≡ cells
cells_of [] = refl
cells_of (cell ∷ cells) = ap (λ l. cell ∷ l) (cells_of cells)

-- three new pens are those of three cells
module _ (cells : List TableId) (a b c : PenView) (listed : map new_pen cells ≡ a ∷ b ∷ c ∷ []) where
  three_cells : cells ≡ a.cell ∷ b.cell ∷ c.cell ∷ []
  three_cells = sym (cells_of cells) ∙ ap (map (λ (p : PenView). p.cell)) listed

  second_cell : slice_get cells 1 ≡ Some b.cell
  second_cell = ap (λ (l : List TableId). slice_get l 1) three_cells

  second_new : b ≡ new_pen b.cell
  second_new = same_Some b (new_pen b.cell) (ap (λ (l : List PenView). slice_get l 1) (sym listed ∙ ap (map new_pen) three_cells))

pub invariant_of-result : goal.invariant_of-result
invariant_of-result c =
    let made = c.in_ok-cells.ensures in
    let cells : List TableId = c.in_ok-cells.field-0.cells in
    let first : PassView = c.in-Some-two.first in
    let second : PassView = c.in-Some-two.second in
    let pens = sym made.pens ∙ c.in-Some.ensures in
    let passes : first ∷ second ∷ [] ≡ replicate 2 (new_pass cells) = sym c.in-Some-two.ensures ∙ made.passes in
    record {
      heaps = made.cells;
      publishes = second_cell cells c.in-Some.field-0-0 c.in-Some.pen c.in-Some.field-0-2 pens;
      unpublished = ap (λ (p : PenView). p.published) (second_new cells c.in-Some.field-0-0 c.in-Some.pen c.in-Some.field-0-2 pens);
      first_reads = ap (λ (p : PassView). p.cells) (same_Some first (new_pass cells) (ap (λ (l : List PassView). slice_get l 0) passes));
      second_reads = ap (λ (p : PassView). p.cells) (same_Some second (new_pass cells) (ap (λ (l : List PassView). slice_get l 1) passes));
    }
