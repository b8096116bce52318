-- A pass that gives half of its part of the pool to a new one, and one that takes in another, keep the pool's rule.
use Rattle.std.proofs.Common.{◌≡◌, ◌≢◌, ℕ, ◌+◌, ◌-◌, ◌*◌, ◌^◌, ◌≤◌, List, [], ◌∷◌, set, refl, sym, ap, ◌∙◌, arith}
use Rattle.std.specs.List.{All, sum_by}
use Rattle.std.proofs.Math.Nat.{add-mul, mul_assoc, zero-mul}
use Rattle.std.proofs.lemmas.Nat.{pow-add}
use Rattle.std.proofs.lemmas.List.Elements.{All-append, All-cons, All-head, All-nil, All-set, All-tail}
use Rattle.crossbeam_queue.specs.Fifo.{Forks, Merges}
use Rattle.hp_mempool.specs.declared.view.View.{View}
use Rattle.hp_mempool.specs.PoolRule.{HaveEachOnce, Hidden, IsKnown, part_of}
use Rattle.hp_mempool.specs.Views.{after_halving, both_parts, new_half, spent_view, times}
use Rattle.hp_mempool.proofs.Counts.{All_at, sum_by-cons, sum_by-push, sum_set, times-append}
use Rattle.hp_mempool.proofs.PoolSteps.{no_part}

-- in parts c halvings smaller, a part is so many times as much
part_scaled : (d c : ℕ) (w : View) → w.halvings ≤ d → part_of (d + c) w ≡ part_of d w * 2 ^ c
part_scaled d c w deep =
    let less : d + c - w.halvings ≡ d - w.halvings + c = omega (arith, deep) in
    ap (λ n. w.part * 2 ^ n) less
    ∙ (ap (λ n. w.part * n) (pow-add 2 (d - w.halvings) c) ∙ sym (mul_assoc w.part (2 ^ (d - w.halvings)) (2 ^ c)))

-- and so is their sum
sum_scaled : (x : Hidden) (c : ℕ) (ws : List View) → All (IsKnown x) ws → sum_by (part_of (x.depth + c)) ws ≡ sum_by (part_of x.depth) ws * 2 ^ c
sum_scaled x c [] known = sym (zero-mul (2 ^ c))
sum_scaled x c (w ∷ ws) known =
    sum_by-cons (part_of (x.depth + c)) w ws
    ∙ (ap (λ n. n + sum_by (part_of (x.depth + c)) ws) (part_scaled x.depth c w (All-head (IsKnown x) w ws known).deep)
    ∙ (ap (λ n. part_of x.depth w * 2 ^ c + n) (sum_scaled x c ws (All-tail (IsKnown x) w ws known))
    ∙ (sym (add-mul (part_of x.depth w) (sum_by (part_of x.depth) ws) (2 ^ c)) ∙ ap (λ n. n * 2 ^ c) (sym (sum_by-cons (part_of x.depth) w ws)))))

-- what is known stays so where parts are counted smaller
known_deeper : (x y : Hidden) (ws : List View) → x.total ≡ y.total → x.depth ≤ y.depth → All (IsKnown x) ws → All (IsKnown y) ws
known_deeper x y [] total deeper known = All-nil (IsKnown y)
known_deeper x y (w ∷ ws) total deeper known =
    let old = All-head (IsKnown x) w ws known in
    let deep = old.deep in
    All-cons (IsKnown y) w ws (record {
      total = λ some. old.total some ∙ total;
      spent = old.spent;
      deep = omega (arith, deep, deeper);
    }) (known_deeper x y ws total deeper (All-tail (IsKnown x) w ws known))

pub may_halve : (id : ℕ) (v : View) → v.part ≢ 0 → Forks HaveEachOnce id v (after_halving v) (new_half v)
may_halve id v some_part numbers views rule at = record {
  hidden = deeper;
  each_once = λ number.
      let old = rule.each_once number in
      let same = sum_set (λ w. times number w.has) views id v at (after_halving v) in
      let more = sum_by-push (λ w. times number w.has) (set views id (after_halving v)) (new_half v) in
      omega (arith, old, same, more);
  known = All-append (IsKnown deeper) (set views id (after_halving v)) (new_half v ∷ [])
      (All-set (IsKnown deeper) views id (after_halving v) left_known (known_deeper rule.hidden deeper views refl (omega arith) rule.known))
      (All-cons (IsKnown deeper) (new_half v) [] right_known (All-nil (IsKnown deeper)));
  whole =
      let all = sum_scaled rule.hidden 1 views rule.known in
      let old = rule.whole in
      let one = rule.hidden.depth in
      let power : 2 ^ (one + 1) ≡ 2 ^ one * 2 = pow-add 2 one 1 in
      let mine_was = part_scaled one 1 v mine.deep in
      let changed = sum_set (part_of (one + 1)) views id v at (after_halving v) in
      let more = sum_by-push (part_of (one + 1)) (set views id (after_halving v)) (new_half v) in
      let left_is : part_of (one + 1) (after_halving v) ≡ part_of one v = ap (λ n. v.part * 2 ^ n) same_depth in
      let right_is : part_of (one + 1) (new_half v) ≡ part_of one v = ap (λ n. v.part * 2 ^ n) same_depth in
      omega (arith, all, old, power, mine_was, changed, more, left_is, right_is);
}
  where
    mine : IsKnown rule.hidden v
    mine = All_at (IsKnown rule.hidden) views id v at rule.known

    deeper : Hidden
    deeper = record { total = rule.hidden.total; depth = rule.hidden.depth + 1 }

    same_depth : rule.hidden.depth + 1 - (v.halvings + 1) ≡ rule.hidden.depth - v.halvings
    same_depth = omega arith

    within : v.halvings + 1 ≤ rule.hidden.depth + 1
    within = let deep = mine.deep in omega (arith, deep)

    left_known : IsKnown deeper (after_halving v)
    left_known = record { total = mine.total; spent = mine.spent; deep = within }

    right_known : IsKnown deeper (new_half v)
    right_known = record { total = mine.total; spent = λ none. refl; deep = within }

-- a part of 2^k, in parts of 2^(k + e)
raised : (part k e f : ℕ) → k + e ≡ f → part * 2 ^ k * 2 ^ e ≡ part * 2 ^ f
raised part k e f same =
    mul_assoc part (2 ^ k) (2 ^ e) ∙ (ap (λ n. part * n) (sym (pow-add 2 k e)) ∙ ap (λ n. part * 2 ^ n) same)

pub may_gather : (id : ℕ) (v : View) (other : ℕ) (w : View) → v.part ≢ 0 → Merges HaveEachOnce id v other w (both_parts v w) spent_view
may_gather id v other w some_part numbers views rule at apart at_other = record {
  hidden = deeper;
  each_once = λ number.
      let old = rule.each_once number in
      let first = sum_set (λ u. times number u.has) views id v at (both_parts v w) in
      let then = sum_set (λ u. times number u.has) (set views id (both_parts v w)) other w at_other spent_view in
      let both = times-append number v.has w.has in
      omega (arith, old, first, then, both);
  known = All-set (IsKnown deeper) (set views id (both_parts v w)) other spent_view spent_known
      (All-set (IsKnown deeper) views id (both_parts v w) both_known (known_deeper rule.hidden deeper views refl (omega arith) rule.known));
  whole =
      let all = sum_scaled rule.hidden more views rule.known in
      let old : sum_by (part_of rule.hidden.depth) views * 2 ^ more ≡ 2 ^ deeper.depth
      = ap (λ n. n * 2 ^ more) rule.whole ∙ sym (pow-add 2 rule.hidden.depth more) in
      let first = sum_set (part_of deeper.depth) views id v at (both_parts v w) in
      let then = sum_set (part_of deeper.depth) (set views id (both_parts v w)) other w at_other spent_view in
      let none : part_of deeper.depth spent_view ≡ 0 = zero-mul (2 ^ (deeper.depth - 0)) in
      let sum = both_is in
      omega (arith, all, old, first, then, none, sum);
}
  where
    mine : IsKnown rule.hidden v
    mine = All_at (IsKnown rule.hidden) views id v at rule.known

    more : ℕ
    more = v.halvings + w.halvings

    deeper : Hidden
    deeper = record { total = rule.hidden.total; depth = rule.hidden.depth + (v.halvings + w.halvings) }

    both_is : part_of deeper.depth (both_parts v w) ≡ part_of deeper.depth v + part_of deeper.depth w
    both_is =
        add-mul (v.part * 2 ^ w.halvings) (w.part * 2 ^ v.halvings) (2 ^ (deeper.depth - (v.halvings + w.halvings)))
        ∙ (ap (λ n. n + w.part * 2 ^ v.halvings * 2 ^ (deeper.depth - (v.halvings + w.halvings))) (raised v.part w.halvings (deeper.depth - (v.halvings + w.halvings)) (deeper.depth - v.halvings) (omega arith))
        ∙ ap (λ n. v.part * 2 ^ (deeper.depth - v.halvings) + n) (raised w.part v.halvings (deeper.depth - (v.halvings + w.halvings)) (deeper.depth - w.halvings) (omega arith)))

    both_known : IsKnown deeper (both_parts v w)
    both_known = record {
      total = λ some. mine.total some_part;
      spent = λ none. absurd (some_part (no_part v.part w.halvings (omega (arith, none))));
      deep = omega arith;
    }

    spent_known : IsKnown deeper spent_view
    spent_known = record { total = λ some. absurd (some refl); spent = λ none. refl; deep = omega arith }
