-- The place of a request, computed from the end, is the greatest address with room.
use Rattle.std.proofs.Common.{◌≡◌, ℕ, ◌+◌, ◌-◌, ◌*◌, ◌/◌, ◌%◌, ◌<◌, ◌≤◌, true, false, ◌&&◌, ◌==◌, Option, Some, None, MatchOption, zero, suc, refl, sym, subst, arith, inl, inr, ◌∙◌, ap}
use Rattle.std.proofs.Math.Nat.{mul-mod_left, mul-le-mul_right, mul_assoc}
use Rattle.std.proofs.lemmas.Nat.{le-div}
use Rattle.std.proofs.lemmas.Bool.{cases_lt, cases_Bool, or_left, or_right, or_cases, or_parts, and_from, and_parts, cond-true, cond-false, both_ways, eq-eqb, eqb-true, eqb-false, le-leb, leb-true}
use Rattle.std.specs.Int.{is_power_of_two, IsPowerOfTwo}
use Rattle.std.specs.Prelude.{nat_le}
use Rattle.hp_base.specs.Round.{floor_of}
use Rattle.hp_base.specs.Place.{last_address, lowered_end, computed_address, is_one_block, is_roomy, HasRoom, IsPlace, HasNoPlace, place_of}
use Rattle.hp_base.specs.declared.request.Request.{Request}
use Rattle.hp_base.specs.declared.round.TheConstants.{HEADER}
use Rattle.hp_base.proofs.Rounding.{floor_below, floor_above, floor_aligned, floor_greatest, quotient_is}
use Rattle.hp_base.proofs.Powers.{multiple_of_power, power_of}

-- no address at the alignment with the size before the end is above the last one
pub last_greatest : (end size align address : ℕ) → 0 < align → address % align ≡ 0 → address + size ≤ end → address ≤ last_address end size align
last_greatest end size align address some aligned before = floor_greatest (end - size) align address some aligned (omega arith)

pub last_before : (end size align : ℕ) → size ≤ end → last_address end size align + size ≤ end
last_before end size align fits = omega (arith, floor_below (end - size) align)

-- numbers between a multiple and the next one have one quotient
pub one_quotient : (low high unit q : ℕ) → q * unit ≤ low → low ≤ high → high < q * unit + unit → low / unit ≡ high / unit
one_quotient low high unit q from between before =
    quotient_is low unit q from (omega arith) ∙ sym (quotient_is high unit q (omega arith) before)

-- where the last address lies in the last block, its data do too
pub block_of_last : (last size end bound : ℕ) → 0 < bound → 0 < size → last + size ≤ end → last / bound ≡ (end - 1) / bound → last / bound ≡ (last + size - 1) / bound
block_of_last last size end bound some sized before same =
    one_quotient last (last + size - 1) bound (last / bound) (floor_below last bound) (omega arith)
    (let end_before : end - 1 < (end - 1) / bound * bound + bound = floor_above (end - 1) bound some in
    let end_before_last : end - 1 < last / bound * bound + bound = subst (λ (q : ℕ). end - 1 < q * bound + bound) (sym same) end_before in
    omega arith)

-- where the last address lies in an earlier block than the end, data in one block stand before the last block
pub before_lowered : (end size align bound address : ℕ) → 0 < align → 0 < bound → 0 < size → address % align ≡ 0 → address + size ≤ end
    → address / bound ≡ (address + size - 1) / bound → (last_address end size align / bound ≡ (end - 1) / bound → ⊥) → address + size ≤ floor_of end bound
before_lowered end size align bound address aligns bounds sized aligned before block apart =
    elim (cases_lt (floor_of end bound) (address + size)) [
      | inr below ↦ below
      | inl passes ↦ absurd (apart (
          let of_data : end / bound ≤ (address + size - 1) / bound = le-div (end / bound) (address + size - 1) bound bounds (omega arith) in
          let of_address : end / bound ≤ address / bound = omega (arith, block) in
          let from : end / bound * bound ≤ address = omega (arith, mul-le-mul_right bound of_address, floor_below address bound) in
          one_quotient (last_address end size align) (end - 1) bound (end / bound)
          (omega (arith, last_greatest end size align address aligns aligned before))
          (omega (arith, last_before end size align (omega arith)))
          (omega (arith, floor_above end bound bounds))))
    ]

-- where the alignment is coarser than the bound, the last address begins a block
block_of_coarse : (end size align bound m : ℕ) → align ≡ m * bound → 0 < bound → 0 < size → size ≤ bound
    → last_address end size align / bound ≡ (last_address end size align + size - 1) / bound
block_of_coarse end size align bound m align_is bounds sized fits =
    let count : ℕ = (end - size) / align in
    let begins : (count * m) * bound ≡ last_address end size align = mul_assoc count m bound ∙ ap (λ (n : ℕ). count * n) (sym align_is) in
    one_quotient (last_address end size align) (last_address end size align + size - 1) bound (count * m)
    (omega (arith, begins)) (omega arith) (omega (arith, begins))

-- where it is finer, the last address is behind the begin of the block before the end
block_of_fine : (p size align bound m : ℕ) → bound ≡ m * align → 0 < align → 0 < bound → 0 < size → size ≤ bound
    → last_address (p * bound + bound) size align / bound ≡ (last_address (p * bound + bound) size align + size - 1) / bound
block_of_fine p size align bound m bound_is aligns bounds sized fits =
    let end : ℕ = p * bound + bound in
    let as_multiple : (p * m) * align ≡ p * bound = mul_assoc p m align ∙ ap (λ (n : ℕ). p * n) (sym bound_is) in
    let begin_aligned : (p * bound) % align ≡ 0 = subst (λ (n : ℕ). n % align ≡ 0) as_multiple (mul-mod_left (p * m) align) in
    let begins : p * bound ≤ last_address end size align = floor_greatest (end - size) align (p * bound) aligns begin_aligned (omega arith) in
    one_quotient (last_address end size align) (last_address end size align + size - 1) bound p
    begins (omega arith) (omega (arith, last_before end size align (omega arith)))

-- before a block's begin, the data at the last address lie in one block
pub block_of_lowered : (p size align bound : ℕ) → IsPowerOfTwo align → IsPowerOfTwo bound → 0 < align → 0 < bound → 0 < size → size ≤ bound
    → last_address (p * bound + bound) size align / bound ≡ (last_address (p * bound + bound) size align + size - 1) / bound
block_of_lowered p size align bound align_power bound_power aligns bounds sized fits = elim (cases_lt bound align) [
  | inl coarse ↦ (let (m, align_is) = multiple_of_power bound align bound_power align_power (omega arith) in
      block_of_coarse (p * bound + bound) size align bound m align_is bounds sized fits)
  | inr fine ↦ (let (m, bound_is) = multiple_of_power align bound align_power bound_power fine in
      block_of_fine p size align bound m bound_is aligns bounds sized fits)
]

-- a block's begin that is not 0 is the end of the block before it
block_before : (q bound : ℕ) → 0 < q → q * bound ≡ (q - 1) * bound + bound
block_before zero bound some = absurd (omega arith)
block_before (suc p) bound some = let less : suc p - 1 ≡ p = omega arith in omega (arith, ap (λ (n : ℕ). n * bound) less)

-- whether bytes lie in one block
pub one_block_is : (bound from to : ℕ) → (0 < bound → from / bound ≡ (to - 1) / bound) → is_one_block bound from to ≡ true
one_block_is bound from to same = elim (cases_lt 0 bound) [
  | inl some ↦ or_right (bound == 0) (from / bound == (to - 1) / bound) (eq-eqb (from / bound) ((to - 1) / bound) (same some))
  | inr none ↦ or_left (bound == 0) (from / bound == (to - 1) / bound) (eq-eqb bound 0 (omega arith))
]

pub is_one_block-tells : (bound from to : ℕ) → is_one_block bound from to ≡ true → 0 < bound → from / bound ≡ (to - 1) / bound
is_one_block-tells bound from to is some = elim (or_cases (bound == 0) (from / bound == (to - 1) / bound) is) [
  | inl none ↦ absurd (omega (arith, eqb-true bound 0 none))
  | inr same ↦ eqb-true (from / bound) ((to - 1) / bound) same
]

pub not_one_block-tells : (bound from to : ℕ) → is_one_block bound from to ≡ false → (0 < bound) × (from / bound ≡ (to - 1) / bound → ⊥)
not_one_block-tells bound from to is =
    let (some, apart) = or_parts (bound == 0) (from / bound == (to - 1) / bound) is in
    let bounds : bound ≡ 0 → ⊥ = eqb-false bound 0 some in
    (omega arith, eqb-false (from / bound) ((to - 1) / bound) apart)

some_blocks : (q bound : ℕ) → 0 < q * bound → 0 < q
some_blocks zero bound some = absurd (omega arith)
some_blocks (suc p) bound some = omega arith

-- an address in a range from start to end, for an accepted request
module _ (start end : ℕ) (request : Request) where
  -- the last address before the end, and before the end as it is lowered
  abbrev kept_last : ℕ
  kept_last = last_address end request.size request.align

  abbrev lowered_last : ℕ
  lowered_last = last_address (floor_of end request.bound) request.size request.align

  sized : 0 < request.size
  sized = request.accepted.some

  aligns : 0 < request.align
  aligns = omega (arith, request.accepted.line)

  bound_holds : 0 < request.bound → (is_power_of_two request.bound ≡ true) × (nat_le request.size request.bound ≡ true)
  bound_holds some = elim (or_cases (request.bound == 0) (is_power_of_two request.bound && nat_le request.size request.bound) request.accepted.block) [
    | inl none ↦ absurd (omega (arith, eqb-true request.bound 0 none))
    | inr both ↦ and_parts (is_power_of_two request.bound) (nat_le request.size request.bound) both
  ]

  -- an address with room has room's tests
  pub is_roomy-from : (address : ℕ) → HasRoom start end request address → is_roomy start end request address ≡ true
  is_roomy-from address room = and_from (nat_le (start + HEADER) address) (nat_le (address + request.size) end && is_one_block request.bound address (address + request.size))
      (le-leb (start + HEADER) address room.behind)
      (and_from (nat_le (address + request.size) end) (is_one_block request.bound address (address + request.size))
      (le-leb (address + request.size) end room.before) (one_block_is request.bound address (address + request.size) room.block))

  pub HasRoom-from : (address : ℕ) → address % request.align ≡ 0 → is_roomy start end request address ≡ true → HasRoom start end request address
  HasRoom-from address aligned is =
      let (behind, rest) = and_parts (nat_le (start + HEADER) address) (nat_le (address + request.size) end && is_one_block request.bound address (address + request.size)) is in
      let (before, block) = and_parts (nat_le (address + request.size) end) (is_one_block request.bound address (address + request.size)) rest in
      record {
        aligned = aligned;
        behind = leb-true (start + HEADER) address behind;
        before = leb-true (address + request.size) end before;
        block = is_one_block-tells request.bound address (address + request.size) block;
      }

  -- where the last address before the end lies in the last block
  kept : (address : ℕ) → HasRoom start end request address → is_one_block request.bound kept_last end ≡ true
      → (address ≤ kept_last) × HasRoom start end request kept_last
  kept address room same =
      let below : address ≤ kept_last = last_greatest end request.size request.align address aligns room.aligned room.before in
      let before : kept_last + request.size ≤ end = last_before end request.size request.align (omega (arith, room.before)) in (
        below,
        record {
          aligned = floor_aligned (end - request.size) request.align;
          behind = omega (arith, below, room.behind);
          before = before;
          block = λ some. block_of_last kept_last request.size end request.bound some sized before
              (is_one_block-tells request.bound kept_last end same some);
        },
      )

  -- where it doesn't, the end is lowered
  lowered : (address : ℕ) → HasRoom start end request address → is_one_block request.bound kept_last end ≡ false
      → (address ≤ lowered_last) × HasRoom start end request lowered_last
  lowered address room passes =
      let (bounds, apart) = not_one_block-tells request.bound kept_last end passes in
      let (power, holds) = bound_holds bounds in
      let below_block : address + request.size ≤ floor_of end request.bound =
      before_lowered end request.size request.align request.bound address aligns bounds sized room.aligned room.before (room.block bounds) apart in
      let below : address ≤ lowered_last =
      last_greatest (floor_of end request.bound) request.size request.align address aligns room.aligned below_block in
      let before : lowered_last + request.size ≤ floor_of end request.bound =
      last_before (floor_of end request.bound) request.size request.align (omega (arith, below_block)) in
      let blocks : 0 < end / request.bound = some_blocks (end / request.bound) request.bound (omega (arith, below_block, sized)) in
      let block : lowered_last / request.bound
      ≡ (lowered_last + request.size - 1) / request.bound =
      subst (λ (e : ℕ). last_address e request.size request.align / request.bound ≡ (last_address e request.size request.align + request.size - 1) / request.bound)
      (sym (block_before (end / request.bound) request.bound blocks))
      (block_of_lowered (end / request.bound - 1) request.size request.align request.bound (power_of request.align request.accepted.power) (power_of request.bound power)
      aligns bounds sized (leb-true request.size request.bound holds)) in (
        below,
        record {
          aligned = floor_aligned (floor_of end request.bound - request.size) request.align;
          behind = omega (arith, below, room.behind);
          before = omega (arith, before, floor_below end request.bound);
          block = λ _. block;
        },
      )

  -- where some address has room, the computed one has, and no address with room is above it
  pub computed : (address : ℕ) → HasRoom start end request address
      → (address ≤ computed_address end request) × HasRoom start end request (computed_address end request)
  computed address room = elim (cases_Bool (is_one_block request.bound kept_last end)) [
    | inl same ↦ subst (λ (e : ℕ). (address ≤ last_address e request.size request.align) × HasRoom start end request (last_address e request.size request.align))
        (sym (cond-true (is_one_block request.bound kept_last end) end (floor_of end request.bound) same)) (kept address room same)
    | inr passes ↦ subst (λ (e : ℕ). (address ≤ last_address e request.size request.align) × HasRoom start end request (last_address e request.size request.align))
        (sym (cond-false (is_one_block request.bound kept_last end) end (floor_of end request.bound) passes)) (lowered address room passes)
  ]

  -- the computed address, where it has room, is the place
  pub roomy_is_place : (address : ℕ) → address ≡ computed_address end request → is_roomy start end request address ≡ true → IsPlace start end request address
  roomy_is_place address is roomy = record {
    room = HasRoom-from address (subst (λ (a : ℕ). a % request.align ≡ 0) (sym is) (floor_aligned (lowered_end end request - request.size) request.align)) roomy;
    greatest = λ other room. let (below, _) = computed other room in omega (arith, is, below);
  }

  -- where it has none, there is no place
  pub narrow_has_no_place : (address : ℕ) → address ≡ computed_address end request → is_roomy start end request address ≡ false → HasNoPlace start end request
  narrow_has_no_place address is narrow other room =
      let (_, here) = computed other room in
      both_ways (is_roomy start end request address) narrow (subst (λ (a : ℕ). is_roomy start end request a ≡ true) (sym is) (is_roomy-from (computed_address end request) here))

  -- the computed place is the place, and where none is computed there is none
  pub place_of-is-place : MatchOption (place_of start end request) (HasNoPlace start end request) (IsPlace start end request)
  unfolding place_of
  place_of-is-place = elim (cases_Bool (is_roomy start end request (computed_address end request))) [
    | inl roomy ↦ subst (λ (found : Option ℕ). MatchOption found (HasNoPlace start end request) (IsPlace start end request))
        (sym (cond-true (is_roomy start end request (computed_address end request)) (Some (computed_address end request)) None roomy))
        (roomy_is_place (computed_address end request) refl roomy)
    | inr narrow ↦ subst (λ (found : Option ℕ). MatchOption found (HasNoPlace start end request) (IsPlace start end request))
        (sym (cond-false (is_roomy start end request (computed_address end request)) (Some (computed_address end request)) None narrow))
        (narrow_has_no_place (computed_address end request) refl narrow)
  ]

  -- the computed place by its test
  pub place_of-roomy : (address : ℕ) → address ≡ computed_address end request → is_roomy start end request address ≡ true → Some address ≡ place_of start end request
  unfolding place_of
  place_of-roomy address is roomy = subst (λ (a : ℕ). Some a ≡ place_of start end request) (sym is)
      (sym (cond-true (is_roomy start end request (computed_address end request)) (Some (computed_address end request)) None
      (subst (λ (a : ℕ). is_roomy start end request a ≡ true) is roomy)))

  pub place_of-narrow : (address : ℕ) → address ≡ computed_address end request → is_roomy start end request address ≡ false → None ≡ place_of start end request
  unfolding place_of
  place_of-narrow address is narrow =
      sym (cond-false (is_roomy start end request (computed_address end request)) (Some (computed_address end request)) None
      (subst (λ (a : ℕ). is_roomy start end request a ≡ false) is narrow))
