use Rattle.hp_heap.proofs.AllocFacts.ChoiceLemmas.{finds_suitable, small_unsuitable}
use Rattle.hp_heap.proofs.choice.first_suitable.Goals as goal

pub first_above-requires-clause-small : goal.first_above-requires-clause-small
first_above-requires-clause-small c = λ key at. small_unsuitable c.args.chunks.now c.args.need.now c.args.headers.now.items key at

pub returns : goal.returns
returns c =
    finds_suitable c.args.chunks.now c.args.need.now c.args.headers.now.items c.requires.apart _ (λ key b called. called) c.class_of.result c.first_above.result c.class_of.ensures.number c.first_above.ensures
