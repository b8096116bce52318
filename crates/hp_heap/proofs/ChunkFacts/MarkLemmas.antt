-- Marks of participants as bits of a number.
use Rattle.std.proofs.Common.{◌≡◌, ℕ, ◌-◌, ◌*◌, ◌%◌, ◌^◌, ◌<◌, ◌≤◌, true, false, sym, ap, subst, ◌∙◌, inl, inr, arith, eqb}
use Rattle.std.proofs.lemmas.Bool.{cases_lt, cond-true, cond-false, false≢true}
use Rattle.std.proofs.lemmas.Nat.{one_shl}
use Rattle.std.proofs.lemmas.Nat.Bits.{bit_at_above}
use Rattle.std.specs.Int.Bits.{bit_or}
use Rattle.hp_base.specs.Flags.{has_bit}
use Rattle.hp_heap.specs.Chunks.{with_mark, without_mark}
use Rattle.hp_heap.proofs.ChunkFacts.ChunkLaw.{mark_is}

module _ (participant marks : ℕ) (small : participant < 16) where
  pub mark_there : has_bit marks participant ≡ true → marks ≡ with_mark participant marks
  mark_there on = sym (cond-true (has_bit marks participant) marks _ on)

  pub mark_set : has_bit marks participant ≡ false → bit_or marks (1 * 2 ^ participant % 2 ^ 16) ≡ with_mark participant marks
  mark_set off = ap (bit_or marks) (one_shl participant 16 small) ∙ mark_is participant marks off ∙ sym (cond-false (has_bit marks participant) marks _ off)

  pub mark_below : has_bit marks participant ≡ true → 1 * 2 ^ participant % 2 ^ 16 ≤ marks
  mark_below on = elim (cases_lt marks (2 ^ participant)) [
    | inl low ↦ absurd (false≢true (sym (ap (λ (b : ℕ). eqb b 1) (bit_at_above marks participant participant low (omega arith))) ∙ on))
    | inr over ↦ subst (λ (n : ℕ). n ≤ marks) (sym (one_shl participant 16 small)) over
  ]

  pub mark_cleared : has_bit marks participant ≡ true → marks - 1 * 2 ^ participant % 2 ^ 16 ≡ without_mark participant marks
  mark_cleared on = ap (λ (n : ℕ). marks - n) (one_shl participant 16 small) ∙ sym (cond-true (has_bit marks participant) (marks - 2 ^ participant) marks on)

  pub mark_gone : has_bit marks participant ≡ false → marks ≡ without_mark participant marks
  mark_gone off = sym (cond-false (has_bit marks participant) (marks - 2 ^ participant) marks off)
