-- What may be given back to the board: the rule "Giving" of docs/BOARD.md.
use Rattle.std.specs.Prelude.{ℕ, Option, Some, None}
use Rattle.hp_hall.specs.Giving.{GivesHeap, GivesSegments, GivesTheNames, Knows}
use Rattle.hp_hall.specs.HeapPairs.{KeepsPen}
use Rattle.hp_hall.specs.Views.{AreOfOneKind, HeldHeap}
use Rattle.hp_hall.specs.declared.kept.Kept.{Kept}

-- a heap with its pen may be given in place of the taken one: the pen is still that of the heap, by which nothing but pairs of it was
-- published; whether the giver has published since it took the heap the board does not ask
pub record GivesHeldAt (knows : Knows) (taken given : HeldHeap) : Type 0 where
  pub heap : GivesHeap knows taken.heap given.heap
  pub pen : KeepsPen taken.pen given.heap given.pen

-- a value may be given in place of the taken one, as one of the same kind
abbrev pub GivesAt : Knows → Kept → Kept → Type 0
GivesAt knows = AreOfOneKind (GivesHeldAt knows) (GivesSegments knows) (GivesTheNames knows)

abbrev pub GivesAtFor : Knows → Option Kept → Kept → Type 0
GivesAtFor knows None given = ⊥
GivesAtFor knows (Some taken) given = GivesAt knows taken given

-- a value may be given for a slot of the board: the slot was taken, and the value may stand in place of the taken one
abbrev pub IsGiveAt : Knows → ℕ → Kept → Type 0
IsGiveAt knows slot given = GivesAtFor knows (knows.taken slot) given
