use Rattle.std.proofs.Common.{◌≡◌, ℕ, ◌-◌, true, Option}
use Rattle.hp_chain.specs.Chain.{has_key, walk}
use Rattle.hp_freelist.specs.Links.{place_at, list_from}
use Rattle.hp_freelist.specs.Search.{keys_of, IsFirstPassing, SmallFails}
use Rattle.hp_freelist.proofs.search.walk_above.Given as goal

abbrev pub invariant-loop-step : goal.invariant-loop-step
invariant-loop-step g l =
    ((key : ℕ) → has_key key (walk (place_at l.links.items) (l.links.len - l._step) l.next) ≡ true → goal.F-pre g l.test key)
    × SmallFails (goal.F-post g l.test) l.most (walk (place_at l.links.items) (l.links.len - l._step) l.next)
    × ((found : Option ℕ) → IsFirstPassing (goal.F-post g l.test) (keys_of (walk (place_at l.links.items) (l.links.len - l._step) l.next)) found
    → IsFirstPassing (goal.F-post g l.test) (keys_of (list_from l.links.items l.fn.first)) found)
