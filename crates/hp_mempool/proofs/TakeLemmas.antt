-- Numbers that come from the queue to a pass, one after another.
use Rattle.std.proofs.Common.{◌≡◌, ◌≢◌, ℕ, ◌+◌, ◌<◌, ◌≤◌, ◌^◌, eqb, cond, eq-eqb, ne_eqb, List, [], ◌∷◌, ◌++◌, length, append_assoc, refl, sym, ap, subst, ◌∙◌, inl, inr, arith}
use Rattle.std.proofs.lemmas.Bool.{cases_eq, cases_lt, cond-true, cond-false}
use Rattle.std.proofs.lemmas.List.{append-nil, nil_from_length}
use Rattle.hp_mempool.specs.declared.view.View.{View}
use Rattle.hp_mempool.specs.Views.{IsFresh, Refills, TakesIn, after_get, once_below, times}
use Rattle.hp_mempool.proofs.Counts.{all_below, below-once, once_at_most, past-once, times-append, times-push}

pub takes_none : (v : View) → TakesIn v v []
takes_none v = record {
  has = λ i. record v { has = sym (append-nil v.has) i };
  once = λ number some. absurd (omega (arith, some));
}

pub takes_more : (old new : View) (numbers : List ℕ) (x : ℕ) → TakesIn old new numbers → IsFresh new x → TakesIn old (after_get x new) (numbers ++ x ∷ [])
takes_more old new numbers x takes fresh = record {
  has = ap (after_get x) takes.has ∙ (λ i. record old { has = append_assoc old.has numbers (x ∷ []) i });
  once = λ number some. once number some;
}
  where
    once : (number : ℕ) → 0 < times number (numbers ++ x ∷ []) → times number (new.has ++ x ∷ []) ≤ once_below old.total number
    once number some =
        let longer = times-push number new.has x in
        let more = times-push number numbers x in
        elim (cases_eq x number) [
          | inl same ↦
              let here : cond {A = ℕ} (eqb x number) 1 0 ≡ 1 = cond-true (eqb x number) 1 0 (eq-eqb x number same) in
              let none : times number new.has ≡ 0 = subst (λ (k : ℕ). times k new.has ≡ 0) same fresh.fresh in
              let total : new.total ≡ old.total = ap (λ (v : View). v.total) takes.has in
              let within = fresh.within in
              let one = below-once old.total number (omega (arith, within, same, total)) in
              omega (arith, longer, here, none, one)
          | inr apart ↦
              let else : cond {A = ℕ} (eqb x number) 1 0 ≡ 0 = cond-false (eqb x number) 1 0 (ne_eqb x number apart) in
              let had = takes.once number (omega (arith, some, more, else)) in
              omega (arith, longer, else, had)
        ]

-- a pass that had no number twice, and takes some in, has none twice
pub once_still : (old new : View) (numbers : List ℕ) → TakesIn old new numbers → ((number : ℕ) → times number old.has ≤ once_below old.total number)
    → (number : ℕ) → times number new.has ≤ once_below new.total number
once_still old new numbers takes once number =
    let total : once_below new.total number ≡ once_below old.total number = ap (λ (v : View). once_below v.total number) takes.has in
    let both : times number new.has ≡ times number old.has + times number numbers
    = ap (λ (v : View). times number v.has) takes.has ∙ times-append number old.has numbers in
    let had = once number in
    elim (cases_eq (times number numbers) 0) [
      | inl none ↦ omega (arith, total, both, had, none)
      | inr some ↦ let new_once = takes.once number (omega (arith, some)) in omega (arith, total, new_once)
    ]

-- The only pass, which had none, has taken in as many numbers as there are, or until there was none: they are all of them.
pub took_all : (old new : View) (numbers : List ℕ) → old.has ≡ [] → old.part ≢ 0 → old.part ≡ 2 ^ old.halvings → Refills old.total old new numbers
    → (number : ℕ) → times number numbers ≡ once_below old.total number
took_all old new numbers none some whole refills =
    elim (cases_lt (length numbers) old.total) [
      | inl fewer ↦ λ number.
          let shows = refills.rest fewer in
          let left : shows.0 ≡ [] = nil_from_length shows.0 shows.1 in
          let is_whole : new.part ≡ 2 ^ new.halvings = ap (λ (v : View). v.part) refills.takes.has ∙ (whole ∙ ap (λ (v : View). 2 ^ v.halvings) (sym refills.takes.has)) in
          let all = shows.2.all is_whole number in
          let queue : times number shows.0 ≡ 0 = ap (times number) left in
          let mine = has_is number in
          let total : once_below new.total number ≡ once_below old.total number = ap (λ (v : View). once_below v.total number) refills.takes.has in
          omega (arith, all, queue, mine, total)
      | inr enough ↦ all_below old.total numbers once (let few = refills.few in omega (arith, few, enough))
    ]
  where
    has_is : (number : ℕ) → times number new.has ≡ times number numbers
    has_is number = ap (λ (v : View). times number v.has) refills.takes.has ∙ ap (λ (l : List ℕ). times number (l ++ numbers)) none

    once : (number : ℕ) → times number numbers ≤ once_below old.total number
    once number =
        let mine = has_is number in
        elim (cases_eq (times number numbers) 0) [
          | inl zero_times ↦ omega (arith, zero_times)
          | inr some_times ↦ let most = refills.takes.once number (omega (arith, some_times)) in omega (arith, mine, most)
        ]

-- A pass took the first number of the queue, and then its cache was filled.
pub record TookOne (old new : View) (x : ℕ) (cached : List ℕ) : Type 0 where
  pub is : new ≡ record old { has = old.has ++ x ∷ cached }
  pub within : x < old.total
  pub once : (number : ℕ) → times number new.has ≤ once_below new.total number
  pub had : (number : ℕ) → times number cached ≤ times number new.has
  pub here : times x new.has ≡ 1
  pub out : times x cached ≡ 0

pub took_one : (old mid new : View) (x : ℕ) (cached : List ℕ) → ((number : ℕ) → times number old.has ≤ once_below old.total number)
    → mid ≡ after_get x old → IsFresh old x → TakesIn mid new cached → TookOne old new x cached
took_one old mid new x cached once is fresh takes = record {
  is = takes.has ∙ (ap (λ (v : View). record v { has = v.has ++ cached }) is ∙ (λ i. record old { has = append_assoc old.has (x ∷ []) cached i }));
  within = fresh.within;
  once = new_once;
  had = λ number. let both = has_is number in omega (arith, both);
  here = let both = has_first in let most = new_once x in let one = once_at_most new.total x in omega (arith, both, most, one);
  out = let both = has_first in let most = new_once x in let one = once_at_most new.total x in omega (arith, both, most, one);
}
  where
    mid_once : (number : ℕ) → times number mid.has ≤ once_below mid.total number
    mid_once = subst (λ (v : View). (number : ℕ) → times number v.has ≤ once_below v.total number) (sym is)
        (once_still old (after_get x old) (x ∷ []) (takes_more old old [] x (takes_none old) fresh) once)

    new_once : (number : ℕ) → times number new.has ≤ once_below new.total number
    new_once = once_still mid new cached takes mid_once

    has_is : (number : ℕ) → times number new.has ≡ times number mid.has + times number cached
    has_is number = ap (λ (v : View). times number v.has) takes.has ∙ times-append number mid.has cached

    has_first : times x new.has ≡ times x old.has + 1 + times x cached
    has_first =
        let both = has_is x in
        let mid_is : times x mid.has ≡ times x (old.has ++ x ∷ []) = ap (λ (v : View). times x v.has) is in
        let push = times-push x old.has x in
        let one : cond {A = ℕ} (eqb x x) 1 0 ≡ 1 = cond-true (eqb x x) 1 0 (eq-eqb x x refl) in
        omega (arith, both, mid_is, push, one)

-- the last number of a cache is taken out
pub record TookLast (v : View) (x : ℕ) (rest : List ℕ) : Type 0 where
  pub within : x < v.total
  pub here : times x v.has ≡ 1
  pub out : times x rest ≡ 0
  pub had : (number : ℕ) → times number rest ≤ times number v.has

pub took_last : (v : View) (x : ℕ) (cached rest : List ℕ) → ((number : ℕ) → times number v.has ≤ once_below v.total number)
    → ((number : ℕ) → times number cached ≤ times number v.has) → cached ≡ rest ++ x ∷ [] → TookLast v x rest
took_last v x cached rest once has is = record {
  within = elim (cases_lt x v.total) [
    | inl below ↦ below
    | inr past ↦ let none = past-once v.total x past in absurd (omega (arith, none, most, had, more, one))
  ];
  here = omega (arith, most, least, had, more, one);
  out = omega (arith, most, least, had, more, one);
  had = λ number. let all = has number in let both = cached_is number in omega (arith, all, both);
}
  where
    cached_is : (number : ℕ) → times number cached ≡ times number rest + cond (eqb x number) 1 0
    cached_is number = ap (times number) is ∙ times-push number rest x

    one : cond {A = ℕ} (eqb x x) 1 0 ≡ 1
    one = cond-true (eqb x x) 1 0 (eq-eqb x x refl)

    more : times x cached ≡ times x rest + cond (eqb x x) 1 0
    more = cached_is x

    had : times x cached ≤ times x v.has
    had = has x

    most : times x v.has ≤ once_below v.total x
    most = once x

    least : once_below v.total x ≤ 1
    least = once_at_most v.total x
