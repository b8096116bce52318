-- The readers of a pass, as contracts see them.
use Rattle.std.proofs.Common.{◌≡◌, ℕ, ◌<◌, List, [], ◌∷◌, ◌++◌, Some, get_or, length, map, set, slice_get, refl, sym, ap, ◌∙◌}
use Rattle.std.specs.Option.{option_map}
use Rattle.std.proofs.lemmas.List.{get_or-map, length-map, map-set}
use Rattle.std.proofs.lemmas.Option.{get_or_from_slice_get, same_Some, slice_get-get_or, slice_get-map, slice_get_within}
use Rattle.std.proofs.Math.Seq.{map-set_same}
use Rattle.atomic_table.specs.Seated.{TableId}
use Rattle.hp_stats.specs.declared.stat_pair.StatPair.{StatPair}
use Rattle.hp_stats.specs.StatViews.{PassView, ReaderView, has_seen, new_pass, seen_of, sees, unread}

-- the pass with these readers
abbrev pub pass_of : List ReaderView → PassView
pass_of readers = record { cells = map (λ r. r.cell) readers; seen = map (λ r. r.seen) readers }

cells_unread : (cells : List TableId) → map (λ (r : ReaderView). r.cell) (map unread cells) ≡ cells
cells_unread [] = refl
cells_unread (cell ∷ cells) = ap (λ l. cell ∷ l) (cells_unread cells)

seen_unread : (cells : List TableId) → map (λ (r : ReaderView). r.seen) (map unread cells) ≡ (new_pass cells).seen
seen_unread [] = refl
seen_unread (cell ∷ cells) = ap (λ l. [] ∷ l) (seen_unread cells)

-- where no reader has read, nor has the pass
pub new_pass_is : (readers : List ReaderView) (cells : List TableId) → readers ≡ map unread cells → pass_of readers ≡ new_pass cells
new_pass_is readers cells are = ap pass_of are ∙ (λ i. record { cells = cells_unread cells i; seen = seen_unread cells i })

module _ (readers : List ReaderView) (heap : ℕ) (reader : ReaderView) (at : slice_get readers heap ≡ Some reader) where
  inside : heap < length readers
  inside = slice_get_within readers heap reader at

  is : get_or readers heap reader ≡ reader
  is = get_or_from_slice_get readers heap reader reader at

  -- what a pass has seen of a heap is what its reader has
  pub seen_here : seen_of heap (pass_of readers) ≡ reader.seen
  seen_here = get_or-map (λ (r : ReaderView). r.seen) readers heap reader [] inside ∙ ap (λ (r : ReaderView). r.seen) is

  -- a reader is for its heap's cell
  pub cell_here : slice_get (pass_of readers).cells heap ≡ Some reader.cell
  cell_here = slice_get-map (λ (r : ReaderView). r.cell) readers heap ∙ ap (option_map (λ (r : ReaderView). r.cell)) at

  -- what a reader sees, its pass sees
  pub sees_here : (p : StatPair) → pass_of (set readers heap (has_seen p reader)) ≡ sees heap p (pass_of readers)
  sees_here p = λ i. record {
    cells = map-set_same (λ (r : ReaderView). r.cell) readers heap (has_seen p reader) reader (ap (λ (r : ReaderView). r.cell) (sym is)) i;
    seen = (map-set (λ (r : ReaderView). r.seen) readers heap (has_seen p reader) ∙ ap (λ (l : List StatPair). set (map (λ (r : ReaderView). r.seen) readers) heap (l ++ p ∷ [])) (sym seen_here)) i;
  }

  -- a reader that stays leaves its pass
  pub stays_here : pass_of (set readers heap reader) ≡ pass_of readers
  stays_here = λ i. record {
    cells = map-set_same (λ (r : ReaderView). r.cell) readers heap reader reader (ap (λ (r : ReaderView). r.cell) (sym is)) i;
    seen = map-set_same (λ (r : ReaderView). r.seen) readers heap reader reader (ap (λ (r : ReaderView). r.seen) (sym is)) i;
  }

-- a pass has a reader for each of its cells
pub readers_fit : (readers : List ReaderView) (pass : PassView) (cells : List TableId) → pass_of readers ≡ pass → pass.cells ≡ cells
    → length readers ≡ length cells
readers_fit readers pass cells is are =
    sym (length-map readers (λ (r : ReaderView). r.cell)) ∙ ap length (ap (λ (p : PassView). p.cells) is ∙ are)

-- the reader of a heap is for that heap's cell
pub same_cell : (readers : List ReaderView) (heap : ℕ) (reader : ReaderView) (pass : PassView) (cells : List TableId) (cell : TableId)
    → slice_get readers heap ≡ Some reader → pass_of readers ≡ pass → pass.cells ≡ cells → slice_get cells heap ≡ Some cell → reader.cell ≡ cell
same_cell readers heap reader pass cells cell at is are there =
    same_Some reader.cell cell
    (sym (cell_here readers heap reader at) ∙ ap (λ (l : List TableId). slice_get l heap) (ap (λ (p : PassView). p.cells) is ∙ are) ∙ there)

-- what stands at a heap's index is there
pub there : {A : Type 0} (xs : List A) (heap : ℕ) (x : A) → heap < length xs → x ≡ get_or xs heap x → slice_get xs heap ≡ Some x
there xs heap x within same = slice_get-get_or xs heap x within ∙ ap Some (sym same)
