-- A participant that tries a slot again and again notes the words that it finds, and learns of the value as if it had waited for it.
use Rattle.std.proofs.Common.{◌≡◌, ℕ, List, [], ◌∷◌, ◌++◌, sym, ap, subst, ◌∙◌}
use Rattle.std.proofs.lemmas.List.{append_assoc, append-nil}
use Rattle.hp_hall.specs.declared.kept.Kept.{Kept}
use Rattle.hp_hall.specs.declared.kept.Kept.TheVariants.{Heap, Names, Segments}
use Rattle.hp_board.specs.declared.view.Mine.{Mine}
use Rattle.hp_board.specs.Views.{FindsMore, after_take, after_look}
use Rattle.hp_board.specs.Handed.{GoesOnFrom, HasTakenLater, HasTakenOut, IsHanded}

abbrev finding : Mine → List (ℕ × ℕ) → Mine
finding mine found = record mine { found = found }

pub finds_none : (mine : Mine) → FindsMore mine mine
finds_none mine = ([], ap (finding mine) (sym (append-nil mine.found)))

pub finds_one : (mine now after : Mine) (slot word : ℕ) → FindsMore mine now → after ≡ after_look slot word now → FindsMore mine after
finds_one mine now after slot word (words, is) looked =
    (words ++ (slot, word) ∷ [], looked ∙ ap (after_look slot word) is ∙ ap (finding mine) (append_assoc mine.found words ((slot, word) ∷ [])))

handed_by : (mine : Mine) (words : List (ℕ × ℕ)) (slot : ℕ) (kept : Kept) (after : Mine) → IsHanded (finding mine (mine.found ++ words)) slot kept after → IsHanded mine slot kept after
handed_by mine words slot kept after handed = record {
  at = handed.at;
  own = handed.own;
  marks = handed.marks;
  seen = handed.seen;
  front = front_by kept handed.front;
  roster = handed.roster;
  free = handed.free;
  stands = handed.stands;
  claimed = handed.claimed;
  mapped = handed.mapped;
}
  where
    front_by : (kept : Kept) → GoesOnFrom (finding mine (mine.found ++ words)) kept → GoesOnFrom mine kept
    front_by (Heap heap pen) front = tt
    front_by (Segments segs) front = front
    front_by (Names names) front = front

pub handed_after : (mine now : Mine) (slot : ℕ) (kept : Kept) (after : Mine) → FindsMore mine now → IsHanded now slot kept after → IsHanded mine slot kept after
handed_after mine now slot kept after (words, is) handed = handed_by mine words slot kept after (subst (λ (m : Mine). IsHanded m slot kept after) is handed)

pub taken_after : (mine now after : Mine) (slot : ℕ) (kept : Kept) → FindsMore mine now → HasTakenOut slot kept now after → HasTakenLater slot kept mine after
taken_after mine now after slot kept (words, is) taken =
    record { holding = taken.holding; view = (words, taken.view ∙ ap (after_take slot kept taken.holding) is) }
