-- Numbers that go from a pass to the queue, one after another.
use Rattle.std.proofs.Common.{◌≡◌, ◌≢◌, ℕ, ◌≤◌, eqb, cond, eq-eqb, ne_eqb, List, [], ◌∷◌, ◌++◌, take, drop, refl, subst, ◌∙◌, inl, inr, arith}
use Rattle.std.proofs.lemmas.Bool.{cases_eq, cond-true, cond-false}
use Rattle.hp_mempool.specs.declared.view.View.{View}
use Rattle.hp_mempool.specs.Views.{CanPut, after_put, after_puts, once_below, times, without, without_all}
use Rattle.hp_mempool.proofs.Counts.{once_at_most, times-cons, times-first, times-parts, times-push, times-without_le, times-without_other}

-- the first of them can be put, and then the others
pub put_one : (n x : ℕ) (rest : List ℕ) (v : View) → CanPut n (x ∷ rest) v → (times x v.has ≡ 1) × CanPut n rest (after_put x v)
put_one n x rest v can = (
  one,
  record {
    total = record { some = can.total.some; total = can.total.total };
    has = λ number. has number;
    once = λ number. let less = times-without_le x number v.has in let most = can.once number in omega (arith, less, most);
  },
)
  where
    one : times x v.has ≡ 1
    one = let first = times-first x rest in let has = can.has x in let once = can.once x in omega (arith, first, has, once)

    has : (number : ℕ) → times number rest ≤ times number (without x v.has)
    has number =
        let all = times-cons number x rest in
        let had = can.has number in
        elim (cases_eq x number) [
          | inl same ↦
              let here : cond {A = ℕ} (eqb x number) 1 0 ≡ 1 = cond-true (eqb x number) 1 0 (eq-eqb x number same) in
              let once = can.once number in
              omega (arith, all, had, here, once)
          | inr apart ↦
              let stays = times-without_other x number v.has apart in
              omega (arith, all, had, stays)
        ]

-- what is left of a view
pub after_puts_is : (numbers : List ℕ) (v : View) → after_puts numbers v ≡ record v { has = without_all numbers v.has }
after_puts_is [] v = refl
after_puts_is (x ∷ numbers) v = after_puts_is numbers (after_put x v)

pub without_all-push : (gone : List ℕ) (x : ℕ) (xs : List ℕ) → without_all (gone ++ x ∷ []) xs ≡ without x (without_all gone xs)
without_all-push [] x xs = refl
without_all-push (y ∷ gone) x xs = without_all-push gone x (without y xs)

pub times-without_all_le : (number : ℕ) (gone xs : List ℕ) → times number (without_all gone xs) ≤ times number xs
times-without_all_le number [] xs = omega arith
times-without_all_le number (y ∷ gone) xs =
    let rest = times-without_all_le number gone (without y xs) in
    let first = times-without_le y number xs in
    omega (arith, rest, first)

pub times-without_all_other : (number : ℕ) (gone xs : List ℕ) → times number gone ≡ 0 → times number (without_all gone xs) ≡ times number xs
times-without_all_other number [] xs none = refl
times-without_all_other number (y ∷ gone) xs none =
    let all = times-cons number y gone in
    times-without_all_other number gone (without y xs) (omega (arith, all, none)) ∙ times-without_other y number xs apart
  where
    apart : y ≢ number
    apart same =
        let all = times-cons number y gone in
        let here : cond {A = ℕ} (eqb y number) 1 0 ≡ 1 = cond-true (eqb y number) 1 0 (eq-eqb y number same) in
        omega (arith, all, here, none)

-- a pass can put the front of its cache
module _ (v : View) (cached : List ℕ) (once : (number : ℕ) → times number v.has ≤ once_below v.total number)
    (has : (number : ℕ) → times number cached ≤ times number v.has) where
  pub can_put : (n k : ℕ) → v.part ≢ 0 → v.total ≡ n → CanPut n (take k cached) v
  can_put n k some total = record {
    total = record { some = some; total = total };
    has = λ number. let parts = times-parts number k cached in let all = has number in omega (arith, parts, all);
    once = λ number. let most = once number in let one = once_at_most v.total number in omega (arith, most, one);
  }

  pub can_put_all : (n : ℕ) → v.part ≢ 0 → v.total ≡ n → CanPut n cached v
  can_put_all n some total = record {
    total = record { some = some; total = total };
    has = has;
    once = λ number. let most = once number in let one = once_at_most v.total number in omega (arith, most, one);
  }

  -- a number that is out is still there when the front of the cache has gone
  module _ (k x : ℕ) (is : times x v.has ≡ 1) (out : times x cached ≡ 0) where
    pub still_out : times x (without_all (take k cached) v.has) ≡ 1
    still_out =
        let parts = times-parts x k cached in
        times-without_all_other x (take k cached) v.has (omega (arith, parts, out)) ∙ is

    -- what is left of the cache is the pass's, when that number has gone too
    pub rest_is_had : (number : ℕ) → times number (drop k cached) ≤ times number (without_all (take k cached ++ x ∷ []) v.has)
    rest_is_had number =
        let parts = times-parts number k cached in
        let all = has number in
        let most = once number in
        let one = once_at_most v.total number in
        let gone = times-push number (take k cached) x in
        elim (cases_eq x number) [
          | inl same ↦
              let none : times number cached ≡ 0 = subst (λ (y : ℕ). times y cached ≡ 0) same out in
              omega (arith, parts, none)
          | inr apart ↦
              let else : cond {A = ℕ} (eqb x number) 1 0 ≡ 0 = cond-false (eqb x number) 1 0 (ne_eqb x number apart) in
              elim (cases_eq (times number (take k cached)) 0) [
                | inl none ↦
                    let stays = times-without_all_other number (take k cached ++ x ∷ []) v.has (omega (arith, gone, else, none)) in
                    omega (arith, parts, all, stays)
                | inr some ↦ omega (arith, parts, all, most, one, some)
              ]
        ]
