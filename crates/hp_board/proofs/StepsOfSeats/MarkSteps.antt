-- The marks on chunks are those that the views say, through every kind of step.
use Rattle.std.proofs.Common.{◌≡◌, ◌≢◌, ◌∙◌, ℕ, ◌<◌, ◌≤◌, List, [], unwrap_or, refl, sym, ap, arith}
use Rattle.hp_base.specs.declared.chunk.Chunk.{Chunk}
use Rattle.hp_hall.specs.Naming.{marked_by}
use Rattle.hp_hall.specs.Values.{marks_of}
use Rattle.hp_hall.specs.declared.kept.Kept.{Kept}
use Rattle.hp_hall.specs.declared.kept.Kept.TheVariants.{Heap, Names, Segments}
use Rattle.hp_board.specs.Giving.{GivesAt}
use Rattle.hp_board.specs.Knowing.{knows_of}
use Rattle.hp_board.specs.Marks.{AreMarks}
use Rattle.hp_board.specs.Views.{after_give, marked_after, marked_in, value_of}
use Rattle.hp_board.specs.declared.opening.Opening.{Opening}
use Rattle.hp_board.specs.declared.view.Mine.{Mine}
use Rattle.hp_board.specs.declared.words.TheConstants.{SLOTS}
use Rattle.hp_board.proofs.OwnershipFacts.GivenTaken.{by_gives}
use Rattle.hp_board.proofs.Pairs.{value_of-else, value_of-here}
use Rattle.hp_board.proofs.Updates.{with_at, each}

-- a give leaves the marks of all but the giver
others_marks : (mine : Mine) (taken given : Kept) → GivesAt (knows_of mine) taken given → (other : ℕ) → other ≢ mine.who → marks_of other given ≡ marks_of other taken
others_marks mine =
    by_gives (knows_of mine) (λ taken given. (other : ℕ) → other ≢ mine.who → marks_of other given ≡ marks_of other taken)
    (λ taken given gives. gives.heap.marks) (λ taken given gives other apart. refl) (λ taken given gives other apart. refl)

-- and the giver knows its own
own_marks : (mine : Mine) (slot : ℕ) (taken given : Kept) → GivesAt (knows_of mine) taken given → marks_of mine.who taken ≡ marked_in slot mine
    → marks_of mine.who given ≡ marked_in slot (after_give slot given mine)
own_marks mine slot =
    by_gives (knows_of mine) (λ taken given. marks_of mine.who taken ≡ marked_in slot mine → marks_of mine.who given ≡ marked_in slot (after_give slot given mine))
    (λ taken given gives was. sym (ap (λ o. unwrap_or o []) (value_of-here slot (marked_by mine.who given.heap.plain) mine.marked)))
    (λ taken given gives was. was) (λ taken given gives was. was)

-- what is known of other slots stays
marks_else : (who slot other : ℕ) (given : Kept) (marked : List (ℕ × List Chunk)) → other ≢ slot
    → unwrap_or (value_of other (marked_after who slot given marked)) [] ≡ unwrap_or (value_of other marked) []
marks_else who slot other (Heap heap pen) marked apart = ap (λ o. unwrap_or o []) (value_of-else slot other (marked_by who heap.plain) marked apart)
marks_else who slot other (Segments segs) marked apart = refl
marks_else who slot other (Names names) marked apart = refl

module _ (opening : Opening) (kept : ℕ → Kept) (mine : ℕ → Mine) (marked : AreMarks opening kept mine) (part : Mine) (known : part ≡ mine part.who) where
  -- what is known of marks stays, and so do the values
  pub marked_same : (new : Mine) → new.marked ≡ part.marked → AreMarks opening kept (with_at part.who new mine)
  marked_same new same = record {
    own = λ who slot. each (λ w m. w < opening.participants → slot < SLOTS → marks_of w (kept slot) ≡ marked_in slot m) part.who new mine
        (λ may within.
        marked.own part.who slot may within
        ∙ ap (λ (l : List (ℕ × List Chunk)). unwrap_or (value_of slot l) []) (sym (same ∙ ap (λ (m : Mine). m.marked) known)))
        (λ w apart. marked.own w slot) who;
    strange = marked.strange;
  }

  -- a value is given
  pub marked_give : part.who < opening.participants → (slot : ℕ) → slot < SLOTS → (taken given : Kept) → kept slot ≡ taken → GivesAt (knows_of part) taken given
      → AreMarks opening (with_at slot given kept) (with_at part.who (after_give slot given part) mine)
  marked_give declared slot inside taken given taken_is gives = record {
    own = λ who k. each (λ w m. w < opening.participants → k < SLOTS → marks_of w (with_at slot given kept k) ≡ marked_in k m) part.who (after_give slot given part) mine
        (own k) (others k) who;
    strange = λ who k. each (λ j v. opening.participants ≤ who → j < SLOTS → marks_of who v ≡ []) slot given kept
        (λ strange within. still who (λ same. omega (arith, same, strange, declared)) ∙ marked.strange who slot strange within)
        (λ j apart. marked.strange who j) k;
  }
    where
      -- the marks of another
      still : (who : ℕ) → who ≢ part.who → marks_of who given ≡ marks_of who (kept slot)
      still who apart = others_marks part taken given gives who apart ∙ ap (marks_of who) (sym taken_is)

      was : (k : ℕ) → k < SLOTS → marks_of part.who (kept k) ≡ marked_in k part
      was k within = marked.own part.who k declared within ∙ ap (marked_in k) (sym known)

      own : (k : ℕ) → part.who < opening.participants → k < SLOTS → marks_of part.who (with_at slot given kept k) ≡ marked_in k (after_give slot given part)
      own = each (λ k v. part.who < opening.participants → k < SLOTS → marks_of part.who v ≡ marked_in k (after_give slot given part)) slot given kept
          (λ may within. own_marks part slot taken given gives (ap (marks_of part.who) (sym taken_is) ∙ was slot within))
          (λ k apart may within. was k within ∙ sym (marks_else part.who slot k given part.marked apart))

      others : (k who : ℕ) → who ≢ part.who → who < opening.participants → k < SLOTS → marks_of who (with_at slot given kept k) ≡ marked_in k (mine who)
      others k who apart = each (λ j v. who < opening.participants → j < SLOTS → marks_of who v ≡ marked_in j (mine who)) slot given kept
          (λ may within. still who apart ∙ marked.own who slot may within)
          (λ j _ may within. marked.own who j may within) k
