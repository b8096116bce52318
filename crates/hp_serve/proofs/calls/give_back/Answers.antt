-- The value is given back, and nothing else is done.
use Rattle.hp_serve.proofs.calls.give_back.Goals as goal

pub returns-clause-back : goal.returns-clause-back
returns-clause-back g c =
    let given = c.give.ensures in
    record { gave = given.gave; slots = given.slots; others = given.others; measure = given.measure }
