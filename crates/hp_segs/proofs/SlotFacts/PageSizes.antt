-- Page sizes are small.
use Rattle.std.proofs.Common.{◌≡◌, ◌==◌, nat_le, ℕ, ◌≤◌, ◌^◌, true, List, [], ◌∷◌, IsTrue, refl, arith, inl, inr}
use Rattle.std.specs.List.{list_any, list_all}
use Rattle.std.proofs.lemmas.Bool.{or_cases, and_parts, eqb-true, leb-true}
use Rattle.hp_base.specs.Pages.{is_page_size, page_sizes}

-- a size among small ones is small
pub any_small : (sizes : List ℕ) (page most : ℕ) → list_any (λ size. size == page) sizes ≡ true
    → list_all (λ size. nat_le size most) sizes ≡ true → page ≤ most
any_small [] page most any all = cc
any_small (size ∷ sizes) page most any all =
    let parts = and_parts (nat_le size most) (list_all (λ size. nat_le size most) sizes) all in
    elim (or_cases (size == page) (list_any (λ size. size == page) sizes) any) [
      | inl here ↦ omega (arith, eqb-true size page here, leb-true size most parts.0)
      | inr later ↦ any_small sizes page most later parts.1
    ]

pub page_small : (page : ℕ) → IsTrue (is_page_size page) → page ≤ 2 ^ 34
page_small page is = any_small page_sizes page (2 ^ 34) is refl
