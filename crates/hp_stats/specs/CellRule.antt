-- The rule of a cell, which holds between any two steps of any threads. A pass of the cell has a number, its seat, and `views` has its view
-- there.
use Rattle.std.specs.Prelude.{◌≡◌, ℕ, true, List}
use mathlib.Core.Option.{some}
use lib.ListN.{get_elem?}
use Rattle.hp_stats.specs.declared.stat_pair.StatPair.{StatPair}
use Rattle.hp_stats.specs.declared.view.View.{View}
use Rattle.hp_stats.specs.Pairs.{AreAmong, IsNotBelow, newest_of}

-- what a pass knows is so: there is one pen, which knows all that was published, and what was seen was published
pub record IsKnown (pen : ℕ) (published : List StatPair) (seat : ℕ) (v : View) : Type 0 where
  pub pen_is : v.pen ≡ true → (pen ≡ seat) × (v.published ≡ published)
  pub seen : AreAmong published v.seen

-- The cell has the pair that was published last, and no pair that was published before has a greater count.
pub record IsNewest (newest : StatPair) (views : List View) : Type 0 where
  pub pen : ℕ
  pub published : List StatPair
  pub newest_is : newest ≡ newest_of published
  pub rises : IsNotBelow published newest.entries
  pub known : (seat : ℕ) (v : View) → get_elem? views seat ≡ some v → IsKnown pen published seat v
