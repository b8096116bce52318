use Rattle.std.proofs.Common.{sym, subst, IsTrue, ℕ, ◌∙◌}
use Rattle.std.specs.Int.{is_power_of_two}
use Rattle.hp_base.proofs.Powers.{raised_is_power}
use Rattle.hp_base.proofs.request.overflows.Goals as goal

pub bytes_asked-requires : goal.bytes_asked-requires
bytes_asked-requires c =
    subst (λ (m : ℕ). IsTrue (is_power_of_two m)) (sym c.max.ensures) (raised_is_power c.args.align (sym c.is_align.ensures ∙ c.if-is_align.true))
