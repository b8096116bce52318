-- Which memory may be external memory: the rule "External memory" of docs/HEAP.md.
use Rattle.std.specs.Prelude.{◌≡◌, ℕ, ◌+◌, ◌%◌, ◌^◌, ◌<◌, ◌≤◌, Bool, not, ◌||◌, ◌==◌, nat_lt, IsTrue}
use Rattle.std.specs.Int.{is_power_of_two}
use Rattle.hp_base.specs.declared.page_size.TheConstants.{GREATEST_PAGE}

-- memory at an address may be external memory: whole pages of a power of two of bytes, from 4,096 to the greatest page size, in the
-- lower half of the addresses ("External memory")
pub record IsExternalMemory (addr len page : ℕ) : Type 0 where
  pub power : IsTrue (is_power_of_two page)
  pub least : 4096 ≤ page
  pub greatest : page ≤ GREATEST_PAGE
  pub aligned : addr % page ≡ 0
  pub whole : len % page ≡ 0
  pub some : 0 < len
  pub end : addr + len ≤ 2 ^ 63

-- memory that may not be external memory, as it is judged ("External memory")
abbrev pub is_bad_range : ℕ → ℕ → ℕ → Bool
is_bad_range addr len page =
    not (is_power_of_two page) || (nat_lt page 4096 || (nat_lt GREATEST_PAGE page
    || (not (addr % page == 0) || (not (len % page == 0) || ((len == 0) || nat_lt (2 ^ 63) (addr + len))))))
