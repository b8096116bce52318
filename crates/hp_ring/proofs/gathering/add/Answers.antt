use Rattle.std.proofs.Common.{◌≡◌, length, refl, rules}
use Rattle.hp_ring.specs.Bulks.{bulk}
use Rattle.hp_ring.proofs.GatherLemmas.{add_end}
use Rattle.hp_ring.proofs.gathering.add.Goals as goal

pub returns-then-is_empty : goal.returns-then-is_empty
returns-then-is_empty c = λ bulks who.
    let none : length c.args.words.now ≡ 0 = search rules in
    add_end bulks (bulk who c.args.words.now) c.args.gathered.now _ none refl refl
