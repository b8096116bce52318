-- What doesn't read says nothing: what says something is spelled, and so is read.
use Rattle.std.proofs.Common.{sym, subst}
use Rattle.hp_frame.specs.Spelling.{Spells}
use Rattle.hp_serve.specs.Frames.{to_handler}
use Rattle.hp_serve.proofs.framing.parse_frame.Goals as goal

pub returns-in-Err : goal.returns-in-Err
returns-in-Err c =
    λ body says.
    c.in-Err.ensures.only (to_handler body) (subst (λ text. Spells text (to_handler body)) (sym c.as_bytes.ensures.bytes) says)
