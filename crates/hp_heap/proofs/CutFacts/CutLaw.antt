-- The computed cut is the widest stretch of whole pages that leaves rests, and there is none where none is computed.
use Rattle.std.proofs.Common.{◌≡◌, ℕ, ◌+◌, ◌-◌, ◌%◌, ◌<◌, ◌≤◌, Bool, true, false, cond, refl, sym, ap, subst, ◌∙◌, inl, inr, arith}
use Rattle.std.proofs.Math.Nat.{add-mod_right}
use Rattle.std.proofs.lemmas.Bool.{and_parts, and_cases, cases_lt, ltb-true, ltb-false}
use Rattle.hp_base.specs.Round.{floor_of, ceil_of}
use Rattle.hp_base.proofs.Rounding.{ceil_above, ceil_aligned, ceil_least, floor_below, floor_aligned, floor_greatest, aligned_apart}
use Rattle.hp_base.specs.declared.span.Span.{Span}
use Rattle.hp_heap.specs.PlainHeap.{end_of}
use Rattle.hp_heap.specs.Cut.{IsRest, IsWidestCut, HasNoCut, is_too_small, cut_from, cut_to}

-- a rest that is not too small is one
rest_of : (rest : ℕ) → is_too_small rest ≡ false → IsRest rest
rest_of rest large = elim (and_cases _ _ large) [
  | inl none ↦ inl (let zero : rest ≤ 0 = ltb-false 0 rest none in omega arith)
  | inr enough ↦ inr (ltb-false rest 192 enough)
]

no_small_rest : (rest : ℕ) → is_too_small rest ≡ true → IsRest rest → ⊥
no_small_rest rest small is =
    let tests = and_parts _ _ small in
    let some : 0 < rest = ltb-true 0 rest tests.0 in
    let few : rest < 192 = ltb-true rest 192 tests.1 in
    elim is [ inl none ↦ absurd (omega arith) | inr enough ↦ absurd (omega arith) ]

-- the begin of the stretch
pub record IsBegin (range : Span) (from : ℕ) : Type 0 where
  pub aligned : from % range.page ≡ 0
  pub behind : range.addr ≤ from
  pub rest : IsRest (from - range.addr)
  pub least : (other : ℕ) → other % range.page ≡ 0 → range.addr ≤ other → IsRest (other - range.addr) → from ≤ other

more_aligned : (n page : ℕ) → n % page ≡ 0 → (n + page) % page ≡ 0
more_aligned n page aligned = add-mod_right n page ∙ aligned

begin_by : (range : Span) (b : Bool) → 192 ≤ range.page → is_too_small (ceil_of range.addr range.page - range.addr) ≡ b
    → IsBegin range (cond b (ceil_of range.addr range.page + range.page) (ceil_of range.addr range.page))
begin_by range true large small =
    let first = ceil_of range.addr range.page in
    let some : 0 < range.page = omega arith in
    let above : range.addr ≤ first = ceil_above range.addr range.page some in
    record {
      aligned = more_aligned first range.page (ceil_aligned range.addr range.page);
      behind = omega arith;
      rest = inr (omega arith);
      least = λ other aligned behind rest. elim (cases_lt other (first + range.page)) [
        | inl near ↦ absurd (
            let below : other ≤ first = aligned_apart other first range.page some aligned (ceil_aligned range.addr range.page) near in
            let above : first ≤ other = ceil_least range.addr range.page other some aligned behind in
            let same : other ≡ first = omega arith in
            no_small_rest (first - range.addr) small (subst (λ (n : ℕ). IsRest (n - range.addr)) same rest))
        | inr far ↦ far
      ];
    }
begin_by range false large enough =
    let some : 0 < range.page = omega arith in
    record {
      aligned = ceil_aligned range.addr range.page;
      behind = ceil_above range.addr range.page some;
      rest = rest_of (ceil_of range.addr range.page - range.addr) enough;
      least = λ other aligned behind rest. ceil_least range.addr range.page other some aligned behind;
    }

pub begin_is : (range : Span) → 192 ≤ range.page → IsBegin range (cut_from range)
begin_is range large = begin_by range (is_too_small (ceil_of range.addr range.page - range.addr)) large refl

-- the end of the stretch, where something lies before it
pub record IsEnd (range : Span) (to : ℕ) : Type 0 where
  pub aligned : 0 < to → to % range.page ≡ 0
  pub before : to ≤ end_of range
  pub rest : 0 < to → IsRest (end_of range - to)
  pub greatest : (other : ℕ) → other % range.page ≡ 0 → other ≤ end_of range → IsRest (end_of range - other) → other ≤ to

less_aligned : (n page : ℕ) → page ≤ n → n % page ≡ 0 → (n - page) % page ≡ 0
less_aligned n page within aligned =
    let whole : n - page + page ≡ n = omega arith in sym (add-mod_right (n - page) page) ∙ ap (λ (m : ℕ). m % page) whole ∙ aligned

end_by : (range : Span) (b : Bool) → 192 ≤ range.page → is_too_small (end_of range - floor_of (end_of range) range.page) ≡ b
    → IsEnd range (cond b (floor_of (end_of range) range.page - range.page) (floor_of (end_of range) range.page))
end_by range true large small =
    let last = floor_of (end_of range) range.page in
    let some : 0 < range.page = omega arith in
    let below : last ≤ end_of range = floor_below (end_of range) range.page in
    record {
      aligned = λ rises. less_aligned last range.page (omega arith) (floor_aligned (end_of range) range.page);
      before = omega arith;
      rest = λ rises. inr (omega arith);
      greatest = λ other aligned before rest. elim (cases_lt last (other + range.page)) [
        | inl near ↦ absurd (
            let above : last ≤ other = aligned_apart last other range.page some (floor_aligned (end_of range) range.page) aligned near in
            let under : other ≤ last = floor_greatest (end_of range) range.page other some aligned before in
            let same : other ≡ last = omega arith in
            no_small_rest (end_of range - last) small (subst (λ (n : ℕ). IsRest (end_of range - n)) same rest))
        | inr far ↦ omega arith
      ];
    }
end_by range false large enough =
    let some : 0 < range.page = omega arith in
    record {
      aligned = λ _. floor_aligned (end_of range) range.page;
      before = floor_below (end_of range) range.page;
      rest = λ _. rest_of (end_of range - floor_of (end_of range) range.page) enough;
      greatest = λ other aligned before rest. floor_greatest (end_of range) range.page other some aligned before;
    }

pub end_is : (range : Span) → 192 ≤ range.page → IsEnd range (cut_to range)
end_is range large = end_by range (is_too_small (end_of range - floor_of (end_of range) range.page)) large refl

-- the computed stretch is the widest, where it has a page
pub cut-is-widest : (range : Span) → 192 ≤ range.page → cut_from range < cut_to range → IsWidestCut range (cut_from range) (cut_to range)
cut-is-widest range large some =
    let first = begin_is range large in
    let last = end_is range large in
    let rises : 0 < cut_to range = omega arith in
    record {
      cut = record { first = first.aligned; last = last.aligned rises; some = some; before = first.behind; behind = last.before; rest_before = first.rest; rest_behind = last.rest rises };
      widest = λ other_from other_to other. (first.least other_from other.first other.before other.rest_before, last.greatest other_to other.last other.behind other.rest_behind);
    }

-- and there is none where it has none
pub no-cut : (range : Span) → 192 ≤ range.page → cut_to range ≤ cut_from range → HasNoCut range
no-cut range large none from to cut =
    let first = (begin_is range large).least from cut.first cut.before cut.rest_before in
    let last = (end_is range large).greatest to cut.last cut.behind cut.rest_behind in
    absurd (omega (arith, cut.some))
