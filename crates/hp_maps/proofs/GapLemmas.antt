-- Rows after a gap in front of them.
use Rattle.std.proofs.Common.{◌≡◌, ◌≤◌, ℕ, ◌+◌, ◌-◌, List, [], ◌∷◌, ◌++◌, length, take, drop, ap, ◌∙◌, sym, arith, length-append, length-take-le}
use Rattle.std.specs.List.{copy_within}
use Rattle.std.proofs.lemmas.List.{drop-append-le, drop-drop, drop-take}

-- rows that are taken out of the middle
pub cut_behind : {X : Type 0} (gap from to : ℕ) (all now : List X) → gap + from ≤ length all
    → now ≡ take (gap + from) all ++ drop (gap + to) all → drop gap now ≡ take from (drop gap all) ++ drop to (drop gap all)
cut_behind gap from to all now within is_now =
    ap (drop gap) is_now
    ∙ (drop-append-le gap (take (gap + from) all) (drop (gap + to) all) (omega (arith, length-take-le (gap + from) all within))
    ∙ (ap (λ l. l ++ drop (gap + to) all) (drop-take gap from all) ∙ ap (λ l. take from (drop gap all) ++ l) (sym (drop-drop to gap all))))

-- and those that are added after them
pub all_behind : {X : Type 0} (gap : ℕ) (all now more : List X) → gap ≤ length all → now ≡ all ++ more → drop gap now ≡ drop gap all ++ more
all_behind gap all now more within is_now = ap (drop gap) is_now ∙ drop-append-le gap all more within

pub added_behind : {X : Type 0} (gap : ℕ) (all now : List X) (x : X) → gap ≤ length all → now ≡ all ++ x ∷ []
    → drop gap now ≡ drop gap all ++ x ∷ []
added_behind gap all now x within is_now = all_behind gap all now (x ∷ []) within is_now

-- the first ones move up to those from a place on
pub moved_behind : {X : Type 0} (gap from to : ℕ) (all now : List X) → from ≤ to → gap + to ≤ length all
    → now ≡ copy_within all gap (gap + from) (gap + (to - from))
    → drop (gap + (to - from)) now ≡ take from (drop gap all) ++ drop (gap + to) all
moved_behind {X = X} gap from to all now order within is_now =
    let d : ℕ = gap + (to - from) in
    let front : List X = take d all in
    let mid : List X = take (gap + from - gap) (drop gap all) in
    let whole : length front ≡ d = length-take-le d all (omega (arith, order, within)) in
    ap (drop d) is_now
    ∙ (drop-append-le d (front ++ mid) (drop (d + (gap + from - gap)) all) (omega (arith, whole, length-append front mid))
    ∙ (ap (λ (l : List X). l ++ drop (d + (gap + from - gap)) all) (drop-append-le d front mid (omega (arith, whole)) ∙ ap (λ (l : List X). l ++ mid) nothing)
    ∙ (ap (λ k. take k (drop gap all) ++ drop (d + k) all) {x = gap + from - gap} {y = from} (omega arith)
    ∙ ap (λ k. take from (drop gap all) ++ drop k all) {x = d + from} {y = gap + to} (omega (arith, order)))))
  where
    nothing : drop (gap + (to - from)) (take (gap + (to - from)) all) ≡ []
    nothing =
        ap (λ k. drop (gap + (to - from)) (take k all)) {x = gap + (to - from)} {y = gap + (to - from) + 0} (omega arith)
        ∙ drop-take (gap + (to - from)) 0 all
