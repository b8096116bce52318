-- What the rule of a pool says of single objects.
use Rattle.std.specs.Prelude.{◌≡◌, ◌≢◌, ℕ, ◌<◌, List}
use mathlib.Core.Option.{some}
use lib.ListN.{get_elem?}
use Rattle.hp_mempool.specs.declared.view.View.{View}
use Rattle.hp_mempool.specs.PoolRule.{HaveEachOnce}
use Rattle.hp_mempool.specs.Views.{times}

-- in every state that the rule allows, a number that a pass has is with no other pass, and not in the queue
abbrev pub HaveOneHolder : Type 0
HaveOneHolder = (numbers : List ℕ) (views : List View) → HaveEachOnce numbers views → (one other number : ℕ) (v w : View) → get_elem? views one ≡ some v
    → get_elem? views other ≡ some w → one ≢ other → 0 < times number v.has → (times number w.has ≡ 0) × (times number numbers ≡ 0)
