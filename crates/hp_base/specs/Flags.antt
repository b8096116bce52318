-- What the flags of a request say of page sizes: the rule "Search" of docs/HEAP.md. A bit of a number, as flags and sets of participants
-- have them.
use Rattle.std.specs.Prelude.{ℕ, ◌^◌, Bool, not, ◌&&◌, ◌||◌, ◌==◌, List, [], ◌∷◌}
use Rattle.std.specs.List.{list_any}
use Rattle.std.specs.Int.{bit_at}

-- whether a bit of a number is set
abbrev pub has_bit : ℕ → ℕ → Bool
has_bit bits bit = bit_at bits bit == 1

-- each hugepage size with the bit of the flags that names it ("Search")
abbrev pub page_flags : List (ℕ × ℕ)
page_flags =
    (2 ^ 21, 0) ∷ (2 ^ 30, 1) ∷ (2 ^ 24, 8) ∷ (2 ^ 34, 9)
    ∷ (2 ^ 18, 16) ∷ (2 ^ 28, 17) ∷ (2 ^ 29, 18) ∷ (2 ^ 32, 19) ∷ []

-- whether flags name some page size, and whether they name this one ("Search")
abbrev pub names_pages : ℕ → Bool
names_pages flags = list_any (λ entry. has_bit flags entry.1) page_flags

abbrev pub names_page : ℕ → ℕ → Bool
names_page flags page = list_any (λ entry. (entry.0 == page) && has_bit flags entry.1) page_flags

-- whether a page fits flags: they name no page size, or its own ("Search")
unfoldable pub is_fitting_page : ℕ → ℕ → Bool
is_fitting_page flags page = not (names_pages flags) || names_page flags page

-- whether the page sizes of flags are a hint alone ("Search")
unfoldable pub is_hint : ℕ → Bool
is_hint flags = has_bit flags 2
