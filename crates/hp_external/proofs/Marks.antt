-- The mark of a participant among those of others.
use Rattle.std.proofs.Common.{◌≡◌, ◌≢◌, ℕ, ◌+◌, ◌-◌, ◌*◌, ◌^◌, ◌<◌, ◌≤◌, Bool, true, false, cond, max, refl, sym, ap, ◌∙◌, arith, eqb, eq-eqb}
use Rattle.std.specs.Int.{bit_at}
use Rattle.std.specs.Int.Bits.{bit_and, bit_or, bit_xor, xor_add_and}
use Rattle.std.proofs.Math.Nat.{one-mul}
use Rattle.std.proofs.lemmas.Bool.{eqb-true}
use Rattle.std.proofs.lemmas.Nat.Bits.{and_pow, bit_at-lt, bit_at-pow_other, bit_at-pow_same, bit_at-zero, bit_at_or, bit_at_xor}
use Rattle.hp_base.specs.Flags.{has_bit}
use Rattle.hp_heap.specs.Chunks.{with_mark, without_mark}
use Rattle.hp_heap.proofs.ChunkFacts.ChunkLaw.{mark_is}

-- nobody has a mark in 0
pub no_mark : (participant : ℕ) → has_bit 0 participant ≡ false
no_mark participant = ap (λ (b : ℕ). eqb b 1) (bit_at-zero participant)

module _ (participant marks : ℕ) where
  -- a mark that is set is there
  pub mark_own : has_bit (with_mark participant marks) participant ≡ true
  mark_own = by_test (has_bit marks participant) refl
    where
      by_test : (b : Bool) → has_bit marks participant ≡ b → has_bit (cond b marks (marks + 2 ^ participant)) participant ≡ true
      by_test true is = is
      by_test false is =
          let both : bit_at (marks + 2 ^ participant) participant ≡ max (bit_at marks participant) (bit_at (2 ^ participant) participant)
          = ap (λ (n : ℕ). bit_at n participant) (sym (mark_is participant marks is)) ∙ bit_at_or marks (2 ^ participant) participant in
          eq-eqb (bit_at (marks + 2 ^ participant) participant) 1
          (omega (arith, both, bit_at-lt marks participant, bit_at-pow_same participant))

  -- and those of others are as before
  pub mark_other : (other : ℕ) → other ≢ participant → has_bit (with_mark participant marks) other ≡ has_bit marks other
  mark_other other differs = by_test (has_bit marks participant) refl
    where
      by_test : (b : Bool) → has_bit marks participant ≡ b → has_bit (cond b marks (marks + 2 ^ participant)) other ≡ has_bit marks other
      by_test true is = refl
      by_test false is =
          let both : bit_at (marks + 2 ^ participant) other ≡ max (bit_at marks other) (bit_at (2 ^ participant) other)
          = ap (λ (n : ℕ). bit_at n other) (sym (mark_is participant marks is)) ∙ bit_at_or marks (2 ^ participant) other in
          let same : bit_at (marks + 2 ^ participant) other ≡ bit_at marks other = omega (arith, both, bit_at-pow_other participant other differs) in
          ap (λ (b : ℕ). eqb b 1) same

  -- marks without one that is there
  less_is : has_bit marks participant ≡ true → bit_xor marks (2 ^ participant) ≡ marks - 2 ^ participant
  less_is is =
      let one : bit_at marks participant ≡ 1 = eqb-true (bit_at marks participant) 1 is in
      let both : bit_and marks (2 ^ participant) ≡ 2 ^ participant
      = and_pow marks participant ∙ ap (λ (b : ℕ). b * 2 ^ participant) one ∙ one-mul (2 ^ participant) in
      omega (arith, xor_add_and marks (2 ^ participant), both)

  pub unmark_own : has_bit (without_mark participant marks) participant ≡ false
  unmark_own = by_test (has_bit marks participant) refl
    where
      by_test : (b : Bool) → has_bit marks participant ≡ b → has_bit (cond b (marks - 2 ^ participant) marks) participant ≡ false
      by_test false is = is
      by_test true is =
          let one : bit_at marks participant ≡ 1 = eqb-true (bit_at marks participant) 1 is in
          let left : bit_at (marks - 2 ^ participant) participant ≡ 0
          = ap (λ (n : ℕ). bit_at n participant) (sym (less_is is))
          ∙ (bit_at_xor marks (2 ^ participant) participant
          ∙ omega (arith, one, bit_at-pow_same participant)) in
          ap (λ (b : ℕ). eqb b 1) left

  pub unmark_other : (other : ℕ) → other ≢ participant → has_bit (without_mark participant marks) other ≡ has_bit marks other
  unmark_other other differs = by_test (has_bit marks participant) refl
    where
      by_test : (b : Bool) → has_bit marks participant ≡ b → has_bit (cond b (marks - 2 ^ participant) marks) other ≡ has_bit marks other
      by_test false is = refl
      by_test true is =
          let same : bit_at (marks - 2 ^ participant) other ≡ bit_at marks other
          = ap (λ (n : ℕ). bit_at n other) (sym (less_is is))
          ∙ (bit_at_xor marks (2 ^ participant) other
          ∙ omega (arith, bit_at-lt marks other, bit_at-pow_other participant other differs)) in
          ap (λ (b : ℕ). eqb b 1) same
