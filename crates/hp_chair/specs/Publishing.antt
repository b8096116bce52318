-- Statistics at a hall with one seat: what it opens with, what may be published by it, and what it has read. The rule "A seat at the board" of docs/HALLS.md.
use Rattle.std.specs.Prelude.{◌≡◌, ℕ, ◌≤◌, List, ◌∷◌, ◌++◌, length}
use Rattle.hp_base.specs.declared.limits.TheConstants.{MAX_HEAPS}
use Rattle.atomic_table.specs.Seated.{TableId}
use Rattle.hp_heap.specs.History.{HeapView}
use Rattle.hp_stats.specs.Pairs.{IsNotBelow}
use Rattle.hp_stats.specs.StatViews.{IsPenOf, PassView, PenView, last_count, new_pass, seen_of}
use Rattle.hp_stats.specs.declared.stat_pair.StatPair.{StatPair}
use Rattle.hp_hall.specs.Mail.{MailStep, Notes}
use Rattle.hp_hall.specs.declared.kept.Kept.{Kept}
use Rattle.hp_hall.specs.declared.kept.Kept.TheVariants.{Heap, Names, Segments}
use Rattle.hp_hall.specs.declared.note.Note.TheVariants.{ReadStats}
use Rattle.hp_board.specs.declared.opening.Opening.{Opening}
use Rattle.hp_chair.specs.Steps.{pairs_in}

-- the cells are those of the board, one for each heap, and by the pass to them nothing was read yet
pub record IsUnread (cells : List TableId) (opening : Opening) (pass : PassView) : Type 0 where
  pub many : length cells ≡ MAX_HEAPS
  pub opened : opening.cells.value ≡ cells
  pub unread : pass ≡ new_pass cells

-- the statistics of a heap may be published by that pen: it is the heap's, and has published no greater count
pub record MayTell (cells : List TableId) (index : ℕ) (heap : HeapView) (pen : PenView) : Type 0 where
  pub its : IsPenOf cells index pen
  pub count : last_count pen ≤ length heap.history

abbrev pub MayTellOf : List TableId → ℕ → Kept → Type 0
MayTellOf cells index (Heap heap pen) = MayTell cells index heap pen
MayTellOf cells index (Segments segs) = ⊥
MayTellOf cells index (Names names) = ⊥

-- whatever pair was read has no smaller count than any that was published or read of its heap before
abbrev pub CountsRise : List MailStep → Type 0
CountsRise steps = (first rest : List MailStep) (heap : ℕ) (pair : StatPair) → steps ≡ first ++ Notes (ReadStats heap pair) ∷ rest
    → IsNotBelow (pairs_in heap first) pair.entries

-- the pairs that a pass has read and published of each heap are those of the steps, and no count that was read is too small
pub record HasReadBy (steps : List MailStep) (pass : PassView) : Type 0 where
  pub seen : (heap : ℕ) → seen_of heap pass ≡ pairs_in heap steps
  pub rising : CountsRise steps
