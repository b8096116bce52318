-- At the begin no token is read, and the whole line is left.
use Rattle.std.proofs.Common.{refl}
use Rattle.hp_script.specs.Text.{fields_of}
use Rattle.hp_script.proofs.words.read_tokens.Goals as goal

pub loop-rest-init : goal.loop-rest-init
unfolding fields_of
loop-rest-init c = rw (c.clear.ensures.items, c.again.ensures) (record { fields = refl; plain = refl; short = refl })
