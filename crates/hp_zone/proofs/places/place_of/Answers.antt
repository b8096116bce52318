use Rattle.std.proofs.Common.{◌≡◌, rules}
use Rattle.std.specs.Cmp.Lexicographic.{slice_cmp}
use Rattle.std.specs.Ordering.{nat_cmp}
use Rattle.std.proofs.lemmas.Fn.{always_returns_same}
use Rattle.hp_zone.specs.Places.{name_at}
use Rattle.hp_zone.proofs.SortedLemmas.{searched}
use Rattle.hp_zone.proofs.places.place_of.Goals as goal

-- the closure compares the name at an index
pub returns : goal.returns
returns c =
    let log = c.args.log.now in
    let text = c.args.name.now in
    let facts = c.binary_search_by.ensures in
    let by_name = facts.position (λ index. slice_cmp nat_cmp (name_at log index) text) (always_returns_same _ (λ a r. r ≡ slice_cmp nat_cmp (name_at log a.0.now) text) _ (λ a r g called. (search rules, search rules))) in
    searched log c.args.by_name.now text c.requires _ facts.bound by_name
