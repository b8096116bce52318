-- What a participant keeps that tells a line to be done, or looks up one of another.
use Rattle.std.proofs.Common.{◌≡◌, ◌∙◌, ◌<◌, ℕ, List, length, sym, ap, subst}
use Rattle.std.specs.List.{All}
use Rattle.atomic_table.specs.Seated.{TableId}
use Rattle.hp_heap.specs.declared.entry.Entry.{Entry}
use Rattle.hp_hall.specs.declared.kept.Kept.{Kept}
use Rattle.hp_board.specs.Lines.{HasAllHome}
use Rattle.hp_board.specs.SeatView.{SeatView}
use Rattle.hp_board.specs.Views.{after_lookup, after_telling, lines_told, value_of}
use Rattle.hp_board.specs.declared.view.Mine.{Mine}
use Rattle.hp_board.specs.declared.words.TheConstants.{SLOTS}
use Rattle.bench_board.specs.Rounds.{IsBack, IsWorking}

-- who holds nothing has all home
pub all_home : (id : TableId) (who made : ℕ) (seat : SeatView) → IsWorking id who made seat → HasAllHome seat.mine
all_home id who made seat working = record {
  heaps = λ heap below. ap (λ (l : List (ℕ × Kept)). value_of heap l) working.free;
  names = ap (λ (l : List (ℕ × Kept)). value_of 33 l) working.free;
}

-- it comes back once it has told a line to be done
pub told_back : (id : TableId) (who made lines : ℕ) (old new : SeatView) → IsWorking id who made old → new.board ≡ old.board → new.mine ≡ after_telling lines old.mine → IsBack id who new
told_back id who made lines old new working board is = record {
  board_is = board ∙ working.board_is;
  who_is = ap (λ (m : Mine). m.who) is ∙ working.who_is;
  holds = ap (λ (m : Mine). m.held) is ∙ working.free;
}

-- who looks up lines works on
pub looked_working : (id : TableId) (who made from lines : ℕ) (old new : SeatView) → IsWorking id who made old → new.board ≡ old.board → new.mine ≡ after_lookup from lines old.mine
    → IsWorking id who made new
looked_working id who made from lines old new working board is = record {
  board_is = board ∙ working.board_is;
  who_is = ap (λ (m : Mine). m.who) is ∙ working.who_is;
  free = ap (λ (m : Mine). m.held) is ∙ working.free;
  unarmed = ap (λ (m : Mine). m.armed) is ∙ working.unarmed;
  untold = ap lines_told is ∙ working.untold;
  placed = subst (λ (m : Mine). All (λ (pair : ℕ × Entry). pair.0 < SLOTS) m.made) (sym is) working.placed;
  count = ap (λ (m : Mine). length m.made) is ∙ working.count;
}
