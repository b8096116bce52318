use Rattle.hp_fbarray.proofs.PlaceLemmas.{places_of-zeros}
use Rattle.hp_fbarray.proofs.places.Places.new.Goals as goal

pub returns : goal.returns
returns c =
    places_of-zeros c.in_ok-words.words.items c.div_ceil.result c.args.len
    (c.in_ok-words.ensures.items_if_clones_equal (λ y same. same))
