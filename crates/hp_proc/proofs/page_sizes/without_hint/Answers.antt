use Rattle.std.proofs.Common.{◌≡◌, ℕ, ◌≤◌, ◌/◌, ◌%◌, true, arith, sym, ◌∙◌}
use Rattle.std.proofs.lemmas.Bool.{eqb-true}
use Rattle.hp_base.specs.Flags.{is_hint}
use Rattle.hp_proc.proofs.page_sizes.without_hint.Goals as goal

-- the bit counts
hint_counts : (flags : ℕ) → is_hint flags ≡ true → 4 ≤ flags
unfolding is_hint
hint_counts flags hint = let odd : flags / 4 % 2 ≡ 1 = eqb-true (flags / 4 % 2) 1 hint in omega (arith, odd)

pub overflow_sub-result : goal.overflow_sub-result
overflow_sub-result c = hint_counts c.args.flags (sym c.is_hint.ensures ∙ c.if-is_hint.true)
