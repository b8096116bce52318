-- Each step of a pool keeps its rule.
use Rattle.std.proofs.Common.{◌≡◌, ◌≢◌, ℕ, ◌+◌, ◌-◌, ◌*◌, ◌^◌, ◌<◌, ◌≤◌, cond, eqb, eq-eqb, ne_eqb, ltb, List, [], ◌∷◌, ◌++◌, length, set, refl, sym, ap, subst, ◌∙◌, inl, inr, arith}
use Rattle.std.specs.List.{All, sum_by}
use Rattle.std.proofs.lemmas.Bool.{cases_eq, cases_lt, cond-true, cond-false, lt-ltb, le-ltb}
use Rattle.std.proofs.Math.Nat.{le-mul_of_pos_right, zero-mul}
use Rattle.std.proofs.lemmas.Nat.{pow-add, pow_pos}
use Rattle.std.proofs.lemmas.List.Elements.{All-cons, All-head, All-nil, All-set, All-tail}
use mathlib.Core.Option.{some}
use lib.ListN.{get_elem?}
use Rattle.crossbeam_queue.specs.Fifo.{Pushes, Pops, Learns}
use Rattle.hp_mempool.specs.declared.view.View.{View}
use Rattle.hp_mempool.specs.PoolRule.{HaveEachOnce, Hidden, IsKnown, held, part_of}
use Rattle.hp_mempool.specs.Views.{IsFresh, Shows, after_fill, after_get, after_put, first_view, once_below, times, without}
use Rattle.hp_mempool.proofs.Counts.{All_at, fits_below, once_more, set_twice, sum_by-cons, sum_set, times-cons, times-first, times-push, times-without_it, times-without_other, within_sum}

pub begins : HaveEachOnce [] (first_view 0 ∷ [])
begins = record {
  hidden = record { total = 0; depth = 0 };
  each_once = λ number. sym (cond-false (ltb number 0) 1 0 (le-ltb number 0 (omega arith)));
  known = All-cons (IsKnown (record { total = 0; depth = 0 })) (first_view 0) [] (record {
    total = λ part. refl;
    spent = λ none. refl;
    deep = omega arith;
  }) (All-nil (IsKnown (record { total = 0; depth = 0 })));
  whole = refl;
}

-- nothing of the pool is no part of it
pub no_part : (n k : ℕ) → n * 2 ^ k ≡ 0 → n ≡ 0
no_part n k none = let least = le-mul_of_pos_right n (pow_pos k) in omega (arith, least, none)

-- passes without a part of the pool have no number
nothing_held : (x : Hidden) (views : List View) → All (IsKnown x) views → sum_by (part_of x.depth) views ≡ 0 → (number : ℕ) → held number views ≡ 0
nothing_held x [] known none number = refl
nothing_held x (w ∷ ws) known none number =
    let parts = sum_by-cons (part_of x.depth) w ws in
    let numbers = sum_by-cons (λ u. times number u.has) w ws in
    let part : part_of x.depth w ≡ 0 = omega (arith, parts, none) in
    let spent : w.has ≡ [] = (All-head (IsKnown x) w ws known).spent (no_part w.part (x.depth - w.halvings) part) in
    let its : times number w.has ≡ 0 = ap (times number) spent in
    let rest = nothing_held x ws (All-tail (IsKnown x) w ws known) (omega (arith, parts, none)) number in
    omega (arith, numbers, its, rest)

-- what such passes know stays so when the pool gets another number
known_spent : (x y : Hidden) (views : List View) → x.depth ≡ y.depth → All (IsKnown x) views → sum_by (part_of x.depth) views ≡ 0 → All (IsKnown y) views
known_spent x y [] deep known none = All-nil (IsKnown y)
known_spent x y (w ∷ ws) deep known none =
    let parts = sum_by-cons (part_of x.depth) w ws in
    let part : part_of x.depth w ≡ 0 = omega (arith, parts, none) in
    let spent : w.part ≡ 0 = no_part w.part (x.depth - w.halvings) part in
    let old = All-head (IsKnown x) w ws known in
    let within = old.deep in
    All-cons (IsKnown y) w ws (record {
      total = λ some. absurd (some spent);
      spent = old.spent;
      deep = omega (arith, within, deep);
    }) (known_spent x y ws deep (All-tail (IsKnown x) w ws known) (omega (arith, parts, none)))

-- a pass without its part of the pool and its numbers
abbrev emptied : View → View
emptied v = record v { part = 0; has = [] }

module _ (numbers : List ℕ) (views : List View) (rule : HaveEachOnce numbers views) (id : ℕ) (v : View) (at : get_elem? views id ≡ some v) where
  mine_here : IsKnown rule.hidden v
  mine_here = All_at (IsKnown rule.hidden) views id v at rule.known

  known_else : All (IsKnown rule.hidden) (set views id (emptied v))
  known_else = All-set (IsKnown rule.hidden) views id (emptied v) (record {
    total = λ part. absurd (part refl);
    spent = λ none. refl;
    deep = mine_here.deep;
  }) rule.known

  -- beside a pass that has the whole pool no other has a part of it
  no_other : v.part ≡ 2 ^ v.halvings → sum_by (part_of rule.hidden.depth) (set views id (emptied v)) ≡ 0
  no_other whole =
      let less = sum_set (part_of rule.hidden.depth) views id v at (emptied v) in
      let all = rule.whole in
      let deep = mine_here.deep in
      let sum : v.halvings + (rule.hidden.depth - v.halvings) ≡ rule.hidden.depth = omega (arith, deep) in
      let mine_is : part_of rule.hidden.depth v ≡ 2 ^ rule.hidden.depth
      = ap (λ n. n * 2 ^ (rule.hidden.depth - v.halvings)) whole
      ∙ (sym (pow-add 2 v.halvings (rule.hidden.depth - v.halvings)) ∙ ap (λ n. 2 ^ n) sum) in
      let zero_part : part_of rule.hidden.depth (emptied v) ≡ 0 = zero-mul (2 ^ (rule.hidden.depth - v.halvings)) in
      omega (arith, less, all, mine_is, zero_part)

-- where a number is the pass's, the queue lacks it, so it has a place more
pub no_room : (v : View) (n x : ℕ) → v.total ≡ n → times x v.has ≡ 1 → (numbers : List ℕ) → length numbers ≡ n → Shows v numbers → ⊥
no_room v n x total has numbers full shows =
    let few = fits_below v.total (x ∷ numbers) once in
    omega (arith, few, full, total)
  where
    once : (number : ℕ) → times number (x ∷ numbers) ≤ once_below v.total number
    once number =
        let both = times-cons number x numbers in
        let most = shows.once number in
        elim (cases_eq x number) [
          | inl same ↦
              let here : cond {A = ℕ} (eqb x number) 1 0 ≡ 1 = cond-true (eqb x number) 1 0 (eq-eqb x number same) in
              let one : times number v.has ≡ 1 = subst (λ (k : ℕ). times k v.has ≡ 1) same has in
              omega (arith, both, most, here, one)
          | inr apart ↦
              let else : cond {A = ℕ} (eqb x number) 1 0 ≡ 0 = cond-false (eqb x number) 1 0 (ne_eqb x number apart) in
              omega (arith, both, most, else)
        ]

module _ (id : ℕ) (v : View) (some_part : v.part ≢ 0) where
  -- a number of the pass goes to the queue
  pub may_put : (n x : ℕ) → times x v.has ≡ 1 → Pushes HaveEachOnce n id v x (λ w. w ≡ after_put x v)
  may_put n x has numbers views room rule at = (
    after_put x v,
    record {
      hidden = rule.hidden;
      each_once = λ number. counted number;
      known = All-set (IsKnown rule.hidden) views id (after_put x v) now_known rule.known;
      whole = let same = sum_set (part_of rule.hidden.depth) views id v at (after_put x v) in let whole = rule.whole in omega (arith, same, whole);
    },
    refl,
  )
    where
      mine : IsKnown rule.hidden v
      mine = All_at (IsKnown rule.hidden) views id v at rule.known

      now_known : IsKnown rule.hidden (after_put x v)
      now_known = record {
        total = mine.total;
        spent = λ none. absurd (some_part none);
        deep = mine.deep;
      }

      counted : (number : ℕ) → times number (numbers ++ x ∷ []) + held number (set views id (after_put x v)) ≡ once_below rule.hidden.total number
      counted number =
          let longer = times-push number numbers x in
          let less = sum_set (λ w. times number w.has) views id v at (after_put x v) in
          let old = rule.each_once number in
          elim (cases_eq x number) [
            | inl same ↦
                let here : cond {A = ℕ} (eqb x number) 1 0 ≡ 1 = cond-true (eqb x number) 1 0 (eq-eqb x number same) in
                let none : times number (without x v.has) ≡ 0 = subst (λ (k : ℕ). times k (without x v.has) ≡ 0) same (times-without_it x v.has) in
                let one : times number v.has ≡ 1 = subst (λ (k : ℕ). times k v.has ≡ 1) same has in
                omega (arith, longer, less, old, here, none, one)
            | inr apart ↦
                let else : cond {A = ℕ} (eqb x number) 1 0 ≡ 0 = cond-false (eqb x number) 1 0 (ne_eqb x number apart) in
                let stays : times number (without x v.has) ≡ times number v.has = times-without_other x number v.has apart in
                omega (arith, longer, less, old, else, stays)
          ]

  -- a number of the queue goes to the pass
  pub may_get : Pops HaveEachOnce id v (λ x w. (w ≡ after_get x v) × IsFresh v x)
  may_get x numbers views rule at = (
    after_get x v,
    record {
      hidden = rule.hidden;
      each_once = λ number. counted number;
      known = All-set (IsKnown rule.hidden) views id (after_get x v) now_known rule.known;
      whole = let same = sum_set (part_of rule.hidden.depth) views id v at (after_get x v) in let whole = rule.whole in omega (arith, same, whole);
    },
    (refl, record { within = within; fresh = fresh }),
  )
    where
      mine : IsKnown rule.hidden v
      mine = All_at (IsKnown rule.hidden) views id v at rule.known

      now_known : IsKnown rule.hidden (after_get x v)
      now_known = record {
        total = mine.total;
        spent = λ none. absurd (some_part none);
        deep = mine.deep;
      }

      counted : (number : ℕ) → times number numbers + held number (set views id (after_get x v)) ≡ once_below rule.hidden.total number
      counted number =
          let shorter = times-cons number x numbers in
          let more = sum_set (λ w. times number w.has) views id v at (after_get x v) in
          let longer = times-push number v.has x in
          let old = rule.each_once number in
          omega (arith, shorter, more, longer, old)

      within : x < v.total
      within =
          let total = mine.total some_part in
          elim (cases_lt x v.total) [
            | inl below ↦ below
            | inr past ↦
                let none : once_below rule.hidden.total x ≡ 0 = cond-false (ltb x rule.hidden.total) 1 0 (le-ltb x rule.hidden.total (omega (arith, total, past))) in
                let old = rule.each_once x in
                absurd (let one = times-first x numbers in omega (arith, none, old, one))
          ]

      fresh : times x v.has ≡ 0
      fresh =
          let total = mine.total some_part in
          let inside = within in
          let once : once_below rule.hidden.total x ≡ 1 = cond-true (ltb x rule.hidden.total) 1 0 (lt-ltb x rule.hidden.total (omega (arith, total, inside))) in
          let old = rule.each_once x in
          let one = times-first x numbers in
          let part = within_sum (λ w. times x w.has) views id v at in
          omega (arith, once, old, one, part)

  -- what a pass learns of the queue
  pub may_learn : Learns HaveEachOnce id v (Shows v)
  may_learn numbers views rule at = record {
    once = λ number.
        let old = rule.each_once number in
        let part = within_sum (λ w. times number w.has) views id v at in
        let total : once_below v.total number ≡ once_below rule.hidden.total number = ap (λ n. once_below n number) total_is in
        omega (arith, old, part, total);
    all = λ whole number.
        let old = rule.each_once number in
        let mine_alone = nothing_held rule.hidden (set views id (emptied v)) (known_else numbers views rule id v at) (no_other numbers views rule id v at whole) number in
        let less = sum_set (λ w. times number w.has) views id v at (emptied v) in
        let total : once_below v.total number ≡ once_below rule.hidden.total number = ap (λ n. once_below n number) total_is in
        omega (arith, old, mine_alone, less, total);
  }
    where
      total_is : v.total ≡ rule.hidden.total
      total_is = (All_at (IsKnown rule.hidden) views id v at rule.known).total some_part

-- the only pass puts the next number into the queue for the first time
pub may_fill : (id : ℕ) (n x : ℕ) → Pushes HaveEachOnce n id (first_view x) x (λ w. w ≡ after_fill (first_view x))
may_fill id n x numbers views room rule at = (
  after_fill (first_view x),
  record {
    hidden = more;
    each_once = λ number. counted number;
    known = subst (All (IsKnown more)) (set_twice views id (emptied (first_view x)) (after_fill (first_view x)))
        (All-set (IsKnown more) (set views id (emptied (first_view x))) id (after_fill (first_view x)) now_known
        (known_spent rule.hidden more (set views id (emptied (first_view x))) refl (known_else numbers views rule id (first_view x) at) (no_other numbers views rule id (first_view x) at refl)));
    whole = let same = sum_set (part_of rule.hidden.depth) views id (first_view x) at (after_fill (first_view x)) in let whole = rule.whole in omega (arith, same, whole);
  },
  refl,
)
  where
    mine : IsKnown rule.hidden (first_view x)
    mine = All_at (IsKnown rule.hidden) views id (first_view x) at rule.known

    more : Hidden
    more = record { total = x + 1; depth = rule.hidden.depth }

    counted : (number : ℕ) → times number (numbers ++ x ∷ []) + held number (set views id (after_fill (first_view x))) ≡ once_below (x + 1) number
    counted number =
        let longer = times-push number numbers x in
        let same = sum_set (λ w. times number w.has) views id (first_view x) at (after_fill (first_view x)) in
        let old = rule.each_once number in
        let total : once_below x number ≡ once_below rule.hidden.total number = ap (λ n. once_below n number) (mine.total (λ is. omega (arith, is))) in
        let more_once = once_more x number in
        omega (arith, longer, same, old, total, more_once)

    now_known : IsKnown more (after_fill (first_view x))
    now_known = record { total = λ some. refl; spent = λ none. absurd (omega (arith, none)); deep = mine.deep }
