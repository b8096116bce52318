-- Objects lie in their zone, one after another.
use Rattle.std.proofs.Common.{◌≡◌, ℕ, ◌+◌, ◌*◌, ◌<◌, ◌≤◌, ap, inl, inr, arith}
use Rattle.std.proofs.Math.Nat.{add-mul, mul-le-mul_right}
use Rattle.std.proofs.lemmas.Bool.{cases_order}
use Rattle.hp_base.specs.declared.round.TheConstants.{LINE}
use Rattle.hp_base.proofs.Rounding.{ceil_above}
use Rattle.hp_mempool.specs.declared.judging.TheConstants.{OBJECT_HEADER}
use Rattle.hp_mempool.specs.Asked.{stride_of}
use Rattle.hp_mempool.specs.Objects.{AreApart, IsLaid, LieIn}
use Rattle.hp_mempool.specs.PassView.{PoolView}

-- the next object is one stride on, and at most there
pub next_is_within : (one bound stride : ℕ) → one < bound → one * stride + stride ≤ bound * stride
next_is_within one bound stride below =
    let more : (one + 1) * stride ≤ bound * stride = mul-le-mul_right stride (omega (arith, below)) in
    let step = add-mul one 1 stride in
    omega (arith, more, step)

-- an object with its header is no longer than the stride
holds_one : (size : ℕ) → size + OBJECT_HEADER ≤ stride_of size
holds_one size = let above = ceil_above size LINE (omega arith) in omega (arith, above)

module _ (pool : PoolView) (addr count size : ℕ) (laid : IsLaid pool addr count size (stride_of size)) where
  pub lie_in : (len : ℕ) → count * stride_of size ≤ len → LieIn pool addr len
  lie_in len fits number below =
      let next = next_is_within number count (stride_of size) (let is = laid.count_is in omega (arith, below, is)) in
      let holds = holds_one size in
      let first = laid.first_is in
      let at : number * pool.stride ≡ number * stride_of size = ap (λ (s : ℕ). number * s) laid.stride_is in
      let size_is = laid.size_is in
      (omega (arith, first), omega (arith, next, holds, first, at, size_is, fits))

  pub are_apart : AreApart pool
  are_apart one other one_below other_below apart =
      let holds = holds_one size in
      let size_is = laid.size_is in
      let stride_is = laid.stride_is in
      elim (cases_order one other) [
        | inl same ↦ absurd (apart same)
        | inr (inl below) ↦ let next = next_is_within one other pool.stride below in inl (omega (arith, next, holds, size_is, stride_is))
        | inr (inr above) ↦ let next = next_is_within other one pool.stride above in inr (omega (arith, next, holds, size_is, stride_is))
      ]
