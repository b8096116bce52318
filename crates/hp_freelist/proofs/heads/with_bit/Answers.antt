use Rattle.std.proofs.Common.{sym, ap, ◌∙◌, w16}
use Rattle.std.proofs.lemmas.Nat.Bits.{bit_at_set_same, bit_at_set_other, bit_at_clear_same, bit_at_clear_other}
use Rattle.hp_freelist.specs.Heads.{bit_of}
use Rattle.hp_freelist.proofs.heads.with_bit.Goals as goal

pub returns-then-is_filled-clause-same : goal.returns-then-is_filled-clause-same
returns-then-is_filled-clause-same c = bit_at_set_same w16 c.args.filled c.args.class c.requires ∙ sym (ap bit_of c.if-is_filled.true)

pub returns-then-is_filled-clause-others : goal.returns-then-is_filled-clause-others
returns-then-is_filled-clause-others c = λ other below differs. bit_at_set_other w16 c.args.filled c.args.class c.requires other differs

pub returns-else-is_filled-clause-same : goal.returns-else-is_filled-clause-same
returns-else-is_filled-clause-same c = bit_at_clear_same w16 c.args.filled c.args.class c.requires ∙ sym (ap bit_of c.if-is_filled.false)

pub returns-else-is_filled-clause-others : goal.returns-else-is_filled-clause-others
returns-else-is_filled-clause-others c = λ other below differs. bit_at_clear_other w16 c.args.filled c.args.class c.requires other below differs
