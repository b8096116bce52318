-- The starts of the extents that elements cover.
use Rattle.std.proofs.Common.{◌≡◌, ℕ, ◌<◌, ◌≤◌, List, [], ◌∷◌, ◌++◌, Bool, nat_lt, length, refl, sym, ap, ◌∙◌, cond, arith, inl, inr, append_assoc, length-append}
use Rattle.std.proofs.lemmas.Bool.{cases_Bool, cond-true, cond-false, le-ltb, lt-ltb}
use Rattle.hp_base.specs.declared.span.Span.{Span}
use Rattle.hp_chain.specs.Chain.{Keyed}
use Rattle.hp_elem.specs.Items.{Items, end_of, lower_part, upper_part, joined, IsInside, Touches}
use Rattle.hp_elem.specs.Index.{gap, gap_starts, reach}
use Rattle.hp_elem.proofs.OrderLemmas.{lower_end, upper_end, joined_end}

pub gaps-append : (from : ℕ) (xs ys : Items) → gap_starts from (xs ++ ys) ≡ gap_starts from xs ++ gap_starts (reach from xs) ys
gaps-append from [] ys = refl
gaps-append from (x ∷ xs) ys =
    ap (λ (zs : List ℕ). gap from x.value.addr ++ zs) (gaps-append (end_of x.value) xs ys)
    ∙ sym (append_assoc (gap from x.value.addr) (gap_starts (end_of x.value) xs) (gap_starts (reach (end_of x.value) xs) ys))

-- no gap, and one
pub gap-none : (before addr : ℕ) → addr ≤ before → gap before addr ≡ []
gap-none before addr within = cond-false (nat_lt before addr) (addr ∷ []) [] (le-ltb before addr within)

pub gap-some : (before addr : ℕ) → before < addr → gap before addr ≡ addr ∷ []
gap-some before addr below = cond-true (nat_lt before addr) (addr ∷ []) [] (lt-ltb before addr below)

-- an element in two parts, two elements as one, and an element in another state
pub gaps-cut : (from at new : ℕ) (e : Keyed Span) (ys : Items) → IsInside at e.value
    → gap_starts from ((record { key = e.key; value = lower_part at e.value }) ∷ (record { key = new; value = upper_part at e.value }) ∷ ys) ≡ gap_starts from (e ∷ ys)
gaps-cut from at new e ys inside =
    let none = gap-none (end_of (lower_part at e.value)) at (omega (arith, lower_end at e.value inside)) in
    ap (λ (zs : List ℕ). gap from e.value.addr ++ (zs ++ gap_starts (end_of (upper_part at e.value)) ys)) none
    ∙ ap (λ (end : ℕ). gap from e.value.addr ++ gap_starts end ys) (upper_end at e.value inside)

pub gaps-joined : (from : ℕ) (e n : Keyed Span) (ys : Items) → Touches e.value n.value
    → gap_starts from ((record { key = e.key; value = joined e.value n.value }) ∷ ys) ≡ gap_starts from (e ∷ n ∷ ys)
gaps-joined from e n ys touches =
    let none = gap-none (end_of e.value) n.value.addr (omega (arith, touches.adjacent)) in
    ap (λ (end : ℕ). gap from e.value.addr ++ gap_starts end ys) (joined_end e.value n.value touches)
    ∙ sym (ap (λ (zs : List ℕ). gap from e.value.addr ++ (zs ++ gap_starts (end_of n.value) ys)) none)

-- there are no more gaps than elements
pub gaps_within : (from : ℕ) (xs : Items) → length (gap_starts from xs) ≤ length xs
gaps_within from [] = omega arith
gaps_within from (x ∷ xs) =
    let later = gaps_within (end_of x.value) xs in
    let whole = length-append (gap from x.value.addr) (gap_starts (end_of x.value) xs) in
    elim (cases_Bool (nat_lt from x.value.addr)) [
      | inl below ↦ let one : length (gap from x.value.addr) ≡ 1 = ap (λ (b : Bool). length (cond b (x.value.addr ∷ []) [])) below in omega (arith, later, whole, one)
      | inr within ↦ let none : length (gap from x.value.addr) ≡ 0 = ap (λ (b : Bool). length (cond b (x.value.addr ∷ []) [])) within in omega (arith, later, whole, none)
    ]
