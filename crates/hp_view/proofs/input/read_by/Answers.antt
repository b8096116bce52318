use Rattle.hp_view.proofs.StreamLemmas.{Took-then}
use Rattle.hp_view.proofs.input.read_by.Goals as goal

-- the piece that found no memory was taken too
pub returns-then-is_err-clause-read : goal.returns-then-is_err-clause-read
returns-then-is_err-clause-read g c = (_, Took-then _ _ _ _ _ c.loop-bytes.invariant.taken c.in-Bytes.ensures.bytes.next)
