use Rattle.std.proofs.Common.{ℕ, ◌-◌, ◌≤◌, Option}
use Rattle.hp_freelist.specs.Search.{keys_from, IsFirstPassing}
use Rattle.hp_freelist.specs.Links.{lists_of}
use Rattle.hp_freelist.proofs.lists.Lists.first_above.Given as goal

abbrev pub invariant-loop-next : goal.invariant-loop-next
invariant-loop-next g l =
    (l.at ≤ 13)
    × ((found : Option ℕ) → IsFirstPassing (goal.F-post g l.test) (keys_from l.at (lists_of l.self-inside.links.items l.self-inside.heads)) found
    → IsFirstPassing (goal.F-post g l.test) (keys_from l.fn.class (lists_of l.self-inside.links.items l.self-inside.heads)) found)

abbrev pub decreases-loop-next : goal.decreases-loop-next
decreases-loop-next g l = 13 - l.at
