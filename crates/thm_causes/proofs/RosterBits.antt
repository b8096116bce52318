-- The bits of a roster's number are its members.
use Rattle.std.proofs.Common.{◌≡◌, ◌∙◌, ℕ, zero, suc, ◌+◌, ◌/◌, ◌%◌, ◌==◌, Bool, true, false, List, [], ◌∷◌, ap, arith, if◌then◌else◌}
use Rattle.std.proofs.lemmas.Nat.Bits.{bit_at-suc, bit_at_above, bit_at_lowest}
use Rattle.hp_base.specs.Flags.{has_bit}
use Rattle.hp_segs.specs.SegsView.{is_member, roster_bits}

lowest_bit : (here : Bool) (n : ℕ) → (((if here then 1 else 0) + (n + n)) % 2 == 1) ≡ here
lowest_bit true n = ap (λ k. k == 1) (odd n)
  where
    odd : (n : ℕ) → (1 + (n + n)) % 2 ≡ 1
    odd n = omega arith
lowest_bit false n = ap (λ k. k == 1) (even n)
  where
    even : (n : ℕ) → (0 + (n + n)) % 2 ≡ 0
    even n = omega arith

other_bits : (here : Bool) (n : ℕ) → ((if here then 1 else 0) + (n + n)) / 2 ≡ n
other_bits true n = omega arith
other_bits false n = omega arith

-- bit p of the number is set where participant p is in the roster
pub has_bit-roster : (roster : List Bool) (who : ℕ) → has_bit (roster_bits roster) who ≡ is_member roster who
has_bit-roster [] who = ap (λ k. k == 1) (bit_at_above 0 0 who (omega arith) (omega arith))
has_bit-roster (here ∷ roster) zero =
    ap (λ k. k == 1) (bit_at_lowest ((if here then 1 else 0) + (roster_bits roster + roster_bits roster))) ∙ lowest_bit here (roster_bits roster)
has_bit-roster (here ∷ roster) (suc who) =
    ap (λ k. k == 1) (bit_at-suc ((if here then 1 else 0) + (roster_bits roster + roster_bits roster)) who)
    ∙ ap (λ n. has_bit n who) (other_bits here (roster_bits roster)) ∙ has_bit-roster roster who
