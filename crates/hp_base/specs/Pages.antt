-- Page sizes, and the pages asked for a request: the rule "Pages asked" of docs/HEAP.md.
use Rattle.std.specs.Prelude.{◌≡◌, ℕ, ◌+◌, ◌*◌, ◌%◌, ◌^◌, Bool, List, [], ◌∷◌, ◌==◌}
use Rattle.std.specs.List.{list_any}
use Rattle.std.specs.Int.{div_ceil}
use Rattle.hp_base.specs.Round.{ceil_of}
use Rattle.hp_base.specs.Place.{IsPlace}
use Rattle.hp_base.specs.declared.request.Request.{Request}
use Rattle.hp_base.specs.declared.round.TheConstants.{HEADER}

-- the eight page sizes, ascending: 256K, 2M, 16M, 256M, 512M, 1G, 4G and 16G ("Pages asked")
abbrev pub page_sizes : List ℕ
page_sizes = 2 ^ 18 ∷ 2 ^ 21 ∷ 2 ^ 24 ∷ 2 ^ 28 ∷ 2 ^ 29 ∷ 2 ^ 30 ∷ 2 ^ 32 ∷ 2 ^ 34 ∷ []

-- a page of that many bytes is one of them ("Pages asked")
abbrev pub is_page_size : ℕ → Bool
is_page_size page = list_any (λ size. size == page) page_sizes

-- the pages that the size, rounded up to its alignment, and one header take ("Pages asked")
unfoldable pub pages_of : Request → ℕ → ℕ
pages_of request page = div_ceil (ceil_of request.size request.align + HEADER) page

-- so many pages hold a request: from each multiple of the page on there is a place in them ("Pages asked")
abbrev pub HoldsRequest : Request → ℕ → ℕ → Type 0
HoldsRequest request page count = (start : ℕ) → start % page ≡ 0
    → (address : ℕ) × IsPlace start (start + count * page) request address
