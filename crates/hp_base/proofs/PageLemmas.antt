-- The pages asked for a request hold it, and their bytes are a number of 64 bits.
use Rattle.std.proofs.Common.{◌≡◌, ℕ, ◌+◌, ◌-◌, ◌*◌, ◌/◌, ◌%◌, ◌^◌, ◌<◌, ◌≤◌, IsTrue, true, List, [], ◌∷◌, ◌==◌, refl, sym, subst, ap, ◌∙◌, arith, inl, inr}
use Rattle.std.specs.List.{list_any}
use Rattle.std.specs.Int.{IsPowerOfTwo}
use Rattle.std.proofs.lemmas.Bool.{or_cases, eqb-true}
use Rattle.std.proofs.Math.Nat.{mul-mod_left, mul_assoc, add-mul, mul-sub, mul_comm}
use Rattle.std.proofs.lemmas.Nat.{pow_pos}
use Rattle.hp_base.specs.Round.{ceil_of}
use Rattle.hp_base.specs.Place.{HasRoom, computed_address}
use Rattle.hp_base.specs.Pages.{is_page_size, page_sizes, pages_of, HoldsRequest}
use Rattle.hp_base.specs.declared.page_size.TheConstants.{GREATEST_PAGE}
use Rattle.hp_base.specs.declared.request.Request.{Request}
use Rattle.hp_base.specs.declared.round.TheConstants.{HEADER}
use Rattle.hp_base.proofs.Rounding.{multiple_is, ceil_above, ceil_aligned, ceil_least}
use Rattle.hp_base.proofs.Powers.{power_of, multiple_of_power}
use Rattle.hp_base.proofs.Places.{computed, is_roomy-from, roomy_is_place}

abbrev EachIs : (ℕ → Type 0) → List ℕ → Type 0
EachIs P [] = Unit {0}
EachIs P (x ∷ xs) = P x × EachIs P xs

-- what holds of each number of a list holds of one that is in it
of_listed : (P : ℕ → Type 0) (n : ℕ) (numbers : List ℕ) → EachIs P numbers → list_any (λ m. m == n) numbers ≡ true → P n
of_listed P n [] each is = cc
of_listed P n (m ∷ numbers) (here, rest) is = elim (or_cases (m == n) (list_any (λ m. m == n) numbers) is) [
  | inl same ↦ subst P (eqb-true m n same) here
  | inr later ↦ of_listed P n numbers rest later
]

abbrev IsPage : ℕ → Type 0
IsPage page = IsPowerOfTwo page × (page ≤ GREATEST_PAGE)

-- a page size is a power of two up to the greatest
pub page_is_power : (page : ℕ) → IsTrue (is_page_size page) → IsPage page
page_is_power page is = of_listed IsPage page page_sizes (
  ((18, refl), omega arith),
  (
    ((21, refl), omega arith),
    (
      ((24, refl), omega arith),
      (
        ((28, refl), omega arith),
        (((29, refl), omega arith), (((30, refl), omega arith), (((32, refl), omega arith), (((34, refl), omega arith), tt)))),
      ),
    ),
  ),
) is

pub page_pos : (page : ℕ) → IsTrue (is_page_size page) → 0 < page
page_pos page is = let ((exponent, power), _) = page_is_power page is in subst (λ (n : ℕ). 0 < n) (sym power) (pow_pos exponent)

-- a multiple of the greatest page size is one of each
of_greatest : (page n : ℕ) → IsTrue (is_page_size page) → n % GREATEST_PAGE ≡ 0 → n % page ≡ 0
of_greatest page n is aligned =
    let (power, at_most) = page_is_power page is in
    let (m, greatest_is) = multiple_of_power page GREATEST_PAGE power (34, refl) at_most in
    let as_multiple : (n / GREATEST_PAGE * m) * page ≡ n =
    mul_assoc (n / GREATEST_PAGE) m page ∙ ap (λ (greatest : ℕ). n / GREATEST_PAGE * greatest) (sym greatest_is) ∙ multiple_is n GREATEST_PAGE aligned in
    subst (λ (k : ℕ). k % page ≡ 0) as_multiple (mul-mod_left (n / GREATEST_PAGE * m) page)

-- the bytes of the pages asked are a number of 64 bits
pub pages_bytes : (request : Request) (page : ℕ) → IsTrue (is_page_size page) → pages_of request page * page < 2 ^ 64
unfolding pages_of
pages_bytes request page is =
    let need : ℕ = ceil_of request.size request.align + HEADER in
    let least : ceil_of need page ≤ ceil_of need GREATEST_PAGE =
    ceil_least need page (ceil_of need GREATEST_PAGE) (page_pos page is) (of_greatest page (ceil_of need GREATEST_PAGE) is (ceil_aligned need GREATEST_PAGE)) (ceil_above need GREATEST_PAGE (omega arith)) in
    omega (arith, least, request.accepted.fits)

-- a difference of multiples is a multiple
difference_aligned : (m n unit : ℕ) → m % unit ≡ 0 → n % unit ≡ 0 → (m - n) % unit ≡ 0
difference_aligned m n unit m_aligned n_aligned =
    let parts : (m / unit - n / unit) * unit ≡ m / unit * unit - n / unit * unit =
    omega (arith, mul-sub unit (m / unit) (n / unit), mul_comm (m / unit - n / unit) unit, mul_comm (m / unit) unit, mul_comm (n / unit) unit) in
    let whole : (m / unit - n / unit) * unit ≡ m - n = omega (arith, parts, multiple_is m unit m_aligned, multiple_is n unit n_aligned) in
    subst (λ (k : ℕ). k % unit ≡ 0) whole (mul-mod_left (m / unit - n / unit) unit)

-- pages from a multiple of the page on end at a multiple of the alignment
end_aligned : (start page align count m : ℕ) → page ≡ m * align → start % page ≡ 0 → (start + count * page) % align ≡ 0
end_aligned start page align count m page_is aligned =
    let pages : (start / page + count) * page ≡ start + count * page = omega (arith, add-mul (start / page) count page, multiple_is start page aligned) in
    let as_multiple : ((start / page + count) * m) * align ≡ start + count * page =
    mul_assoc (start / page + count) m align ∙ ap (λ (n : ℕ). (start / page + count) * n) (sym page_is) ∙ pages in
    subst (λ (k : ℕ). k % align ≡ 0) as_multiple (mul-mod_left ((start / page + count) * m) align)

-- the rounded size before the end of the pages has room
room_in_pages : (request : Request) (page start : ℕ) → IsTrue (is_page_size page) → request.bound ≡ 0 → request.align ≤ page → start % page ≡ 0
    → HasRoom start (start + pages_of request page * page) request (start + pages_of request page * page - ceil_of request.size request.align)
unfolding pages_of
room_in_pages request page start is unbound at_most aligned =
    let (power, _) = page_is_power page is in
    let (m, page_is) = multiple_of_power request.align page (power_of request.align request.accepted.power) power at_most in
    let aligns : 0 < request.align = omega (arith, request.accepted.line) in
    let holds : ceil_of request.size request.align + HEADER ≤ pages_of request page * page = ceil_above (ceil_of request.size request.align + HEADER) page (page_pos page is) in
    let rounded : request.size ≤ ceil_of request.size request.align = ceil_above request.size request.align aligns in
    record {
      aligned = difference_aligned (start + pages_of request page * page) (ceil_of request.size request.align) request.align
          (end_aligned start page request.align (pages_of request page) m page_is aligned) (ceil_aligned request.size request.align);
      behind = omega (arith, holds);
      before = omega (arith, holds, rounded);
      block = λ some. absurd (omega (arith, unbound, some));
    }

-- the pages asked hold a request without a bound whose alignment is at most the page
pub pages_of-holds : (request : Request) (page : ℕ) → IsTrue (is_page_size page) → request.bound ≡ 0 → request.align ≤ page → HoldsRequest request page (pages_of request page)
pages_of-holds request page is unbound at_most start aligned =
    let end : ℕ = start + pages_of request page * page in
    let (_, room) = computed start end request (end - ceil_of request.size request.align) (room_in_pages request page start is unbound at_most aligned) in
    let address : ℕ = computed_address end request in
    (address, roomy_is_place start end request address refl (is_roomy-from start end request address room))
