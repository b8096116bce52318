-- What may be external memory, and how it is judged.
use Rattle.std.proofs.Common.{◌≡◌, ℕ, ◌+◌, ◌%◌, ◌^◌, false, not, ◌==◌, arith}
use Rattle.std.specs.Prelude.{nat_lt}
use Rattle.std.specs.Int.{is_power_of_two}
use Rattle.std.proofs.lemmas.Bool.{or_parts, or_from, not-false, not_from_true, ltb-false, le-ltb, eqb-true, eqb-false, eq-eqb}
use Rattle.hp_base.specs.ExternalMemory.{IsExternalMemory, is_bad_range}
use Rattle.hp_base.specs.declared.page_size.TheConstants.{GREATEST_PAGE}

-- memory that isn't judged bad
pub good_memory : (addr len page : ℕ) → is_bad_range addr len page ≡ false → IsExternalMemory addr len page
good_memory addr len page good =
    let power = or_parts (not (is_power_of_two page)) _ good in
    let low = or_parts (nat_lt page 4096) _ power.1 in
    let high = or_parts (nat_lt GREATEST_PAGE page) _ low.1 in
    let aligned = or_parts (not (addr % page == 0)) _ high.1 in
    let whole = or_parts (not (len % page == 0)) _ aligned.1 in
    let ends = or_parts (len == 0) (nat_lt (2 ^ 63) (addr + len)) whole.1 in
    record {
      power = not-false (is_power_of_two page) power.0;
      least = ltb-false page 4096 low.0;
      greatest = ltb-false GREATEST_PAGE page high.0;
      aligned = eqb-true (addr % page) 0 (not-false (addr % page == 0) aligned.0);
      whole = eqb-true (len % page) 0 (not-false (len % page == 0) whole.0);
      some = omega (arith, eqb-false len 0 ends.0);
      end = ltb-false (2 ^ 63) (addr + len) ends.1;
    }

-- external memory isn't judged bad
pub not_bad : (addr len page : ℕ) → IsExternalMemory addr len page → is_bad_range addr len page ≡ false
not_bad addr len page memory =
    or_from _ _ (not_from_true (is_power_of_two page) memory.power)
    (or_from _ _ (le-ltb page 4096 memory.least)
    (or_from _ _ (le-ltb GREATEST_PAGE page memory.greatest)
    (or_from _ _ (not_from_true (addr % page == 0) (eq-eqb (addr % page) 0 memory.aligned))
    (or_from _ _ (not_from_true (len % page == 0) (eq-eqb (len % page) 0 memory.whole))
    (or_from _ _ (grind (arith, memory.some)) (le-ltb (2 ^ 63) (addr + len) memory.end))))))
