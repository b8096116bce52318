-- What may be given for a slot was taken out of it.
use Rattle.std.proofs.Common.{◌≡◌, ℕ, Option, Some, None, refl, sym, subst}
use Rattle.hp_segs.specs.SegsView.{SegsView}
use Rattle.hp_hall.specs.Giving.{GivesSegments, GivesTheNames, Knows}
use Rattle.hp_hall.specs.Views.{HeldHeap}
use Rattle.hp_hall.specs.declared.kept.Kept.{Kept}
use Rattle.hp_hall.specs.declared.kept.Kept.TheVariants.{Heap, Names, Segments}
use Rattle.hp_zone.specs.declared.names.Names.{Names as NamesView}
use Rattle.hp_hall.proofs.OneKind.{by_kind}
use Rattle.hp_board.specs.Giving.{GivesAt, GivesAtFor, GivesHeldAt, IsGiveAt}
use Rattle.hp_board.specs.Knowing.{knows_of}
use Rattle.hp_board.specs.Views.{value_of}
use Rattle.hp_board.specs.declared.view.Mine.{Mine}

-- a participant holds the slot, and the value may stand in place of the one that it took
pub record GivesTaken (mine : Mine) (slot : ℕ) (given : Kept) : Type 0 where
  pub taken : Kept
  pub holds : value_of slot mine.held ≡ Some taken
  pub gives : GivesAt (knows_of mine) taken given

module _ (mine : Mine) (slot : ℕ) (given : Kept) where
  taken_by : (held : Option Kept) → value_of slot mine.held ≡ held → GivesAtFor (knows_of mine) held given → GivesTaken mine slot given
  taken_by None holds gives = absurd gives
  taken_by (Some taken) holds gives = record { taken = taken; holds = holds; gives = gives }

  pub gives_taken : IsGiveAt (knows_of mine) slot given → GivesTaken mine slot given
  gives_taken gives = taken_by (value_of slot mine.held) refl gives

-- and what may stand in place of a taken value may be given for its slot
pub gives_at : (knows : Knows) (slot : ℕ) (taken given : Kept) → knows.taken slot ≡ Some taken → GivesAt knows taken given → IsGiveAt knows slot given
gives_at knows slot taken given holds gives = subst (λ (o : Option Kept). GivesAtFor knows o given) (sym holds) gives

-- a value that may be given is of the taken one's kind: what follows for heaps, for segment values and for names follows
pub by_gives : (knows : Knows) (P : Kept → Kept → Type 0)
    → ((taken given : HeldHeap) → GivesHeldAt knows taken given → P (Heap taken.heap taken.pen) (Heap given.heap given.pen))
    → ((taken given : SegsView) → GivesSegments knows taken given → P (Segments taken) (Segments given))
    → ((taken given : NamesView) → GivesTheNames knows taken given → P (Names taken) (Names given))
    → (taken given : Kept) → GivesAt knows taken given → P taken given
by_gives knows P heaps segs names = by_kind (GivesHeldAt knows) (GivesSegments knows) (GivesTheNames knows) P heaps segs names
