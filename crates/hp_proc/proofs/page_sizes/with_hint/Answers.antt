use Rattle.std.proofs.Common.{◌≡◌, ℕ, ◌<◌, ◌/◌, ◌%◌, false, eq-eqb, inl, inr, arith, sym, ◌∙◌}
use Rattle.std.proofs.lemmas.Bool.{cases_lt, true≢false}
use Rattle.hp_base.specs.Flags.{is_hint}
use Rattle.hp_proc.proofs.page_sizes.with_hint.Goals as goal

-- the bit is not set
hint_none : (flags : ℕ) → is_hint flags ≡ false → flags / 4 % 2 ≡ 0
unfolding is_hint
hint_none flags hint = elim (cases_lt (flags / 4 % 2) 1) [
  | inl less ↦ omega (arith, less)
  | inr more ↦ (let is : flags / 4 % 2 ≡ 1 = omega (arith, more) in absurd (true≢false (sym (eq-eqb (flags / 4 % 2) 1 is) ∙ hint)))
]

-- so there is place for it
pub overflow_add-result : goal.overflow_add-result
overflow_add-result c =
    let even = hint_none c.args.flags (sym c.is_hint.ensures ∙ c.if-is_hint.false) in
    let fits = c.ranges.flags.fits in
    omega (arith, even, fits)
