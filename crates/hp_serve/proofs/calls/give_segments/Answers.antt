-- The parts are what they were.
use Rattle.std.proofs.Common.{◌∙◌}
use Rattle.hp_serve.proofs.calls.give_segments.Goals as goal

pub returns-clause-part : goal.returns-clause-part
returns-clause-part g c = λ heap. c.give_back.ensures.back.gave.part heap ∙ c.requires.same heap
