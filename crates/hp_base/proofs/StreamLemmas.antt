-- Streams in memory.
use Rattle.std.proofs.Common.{◌≡◌, ℕ, ◌+◌, ◌-◌, ◌<◌, ◌≤◌, List, ◌++◌, length, take, drop, sym, subst, ap, ◌∙◌, arith, Some, length-drop}
use Rattle.std.proofs.lemmas.List.{take-append-drop, drop-drop, length-take-le}
use Rattle.std.proofs.Math.Seq.{take-append_seam}
use Rattle.hp_base.specs.Streams.{GivesBytes}

-- the next n bytes at the front of a buffer, with what was behind them
pub GivesBytes-next : (bytes front rest : List ℕ) (at n room : ℕ) → 0 < n → n ≤ room → at + n ≤ length bytes → front ≡ take n (drop at bytes)
    → GivesBytes (Some (drop at bytes)) (Some (drop (at + n) bytes)) room (front ++ rest) n
GivesBytes-next bytes front rest at n room some within left next =
    let len : length front ≡ n = ap length next ∙ length-take-le n (drop at bytes) (omega (arith, length-drop at bytes)) in
    let seam : take n (front ++ rest) ≡ front = subst (λ (m : ℕ). take m (front ++ rest) ≡ front) len (take-append_seam front rest) in
    let behind : drop n (drop at bytes) ≡ drop (at + n) bytes = drop-drop n at bytes in
    let whole : take n (front ++ rest) ++ drop (at + n) bytes ≡ drop at bytes =
    ap (λ (xs : List ℕ). xs ++ drop (at + n) bytes) (seam ∙ next) ∙ ap (λ (xs : List ℕ). take n (drop at bytes) ++ xs) (sym behind) ∙ take-append-drop n (drop at bytes) in
    record { some = some; within = within; next = ap Some (sym whole) }

-- what is copied from a slice of what was read
pub slice_next : (bytes read front : List ℕ) (at n : ℕ) → read ≡ bytes → front ≡ take (at + n - at) (drop at read) → front ≡ take n (drop at bytes)
slice_next bytes read front at n same copied =
    let count : at + n - at ≡ n = omega arith in
    copied ∙ ap (λ (m : ℕ). take m (drop at read)) count ∙ ap (λ (xs : List ℕ). take n (drop at xs)) same
