-- What stays of a pass when objects are got and put, and which objects are out then. Callers that have several objects cite it.
use Rattle.std.proofs.Common.{◌≡◌, ℕ, ◌+◌, ◌/◌, ◌<◌, eqb, cond, eq-eqb, ne_eqb, List, [], ◌∷◌, ◌++◌, length, take, refl, sym, ap, subst, ◌∙◌, inl, inr, arith}
use Rattle.std.proofs.lemmas.Bool.{cases_eq, cases_lt, cond-true, cond-false}
use Rattle.hp_mempool.specs.PassView.{AreOut, Gets, IsOf, IsOut, PassView, PoolView, Puts, after_flush}
use Rattle.hp_mempool.specs.Views.{times}
use Rattle.hp_mempool.proofs.Counts.{once_at_most, times-append, times-cons, times-parts, times-push}
use Rattle.hp_mempool.proofs.PutLemmas.{times-without_all_other}

-- getting changes the cache and what the pass has, and nothing else
pub gets_same : (old new : PassView) (x : ℕ) → Gets old new x → new ≡ record old { cached = new.cached; has = new.has }
gets_same old new x gets = by_cache old.cached refl
  where
    by_cache : (cached : List ℕ) → old.cached ≡ cached → new ≡ record old { cached = new.cached; has = new.has }
    by_cache [] is = let rest = (gets.queued is).rest in rest ∙ (λ i. record old { cached = new.cached; has = (sym rest i).has })
    by_cache (y ∷ ys) is =
        let rest = (gets.cached (λ none. (let long = ap length (sym is ∙ none) in omega (arith, long)))).rest in
        rest ∙ (λ i. record old { cached = new.cached; has = (sym rest i).has })

-- putting too
pub puts_same : (old new : PassView) (x : ℕ) → Puts old new x → new ≡ record old { cached = new.cached; has = new.has }
puts_same old new x puts =
    elim (cases_lt (length old.cached) old.places) [
      | inl room ↦ let is = puts.kept room in is ∙ (λ i. record old { cached = (sym is i).cached; has = (sym is i).has })
      | inr none ↦ let is = puts.full none in is ∙ (λ i. record old { cached = (sym is i).cached; has = (sym is i).has })
    ]

-- the pass is still one of the pool's
pub of_after_get : (old new : PassView) (pool : PoolView) (x : ℕ) → Gets old new x → IsOf old pool → IsOf new pool
of_after_get old new pool x gets of =
    subst (λ (p : PassView). IsOf p pool) (sym (gets_same old new x gets)) (record { pool_is = of.pool_is; total_is = of.total_is })

pub of_after_put : (old new : PassView) (pool : PoolView) (x : ℕ) → Puts old new x → IsOf old pool → IsOf new pool
of_after_put old new pool x puts of =
    subst (λ (p : PassView). IsOf p pool) (sym (puts_same old new x puts)) (record { pool_is = of.pool_is; total_is = of.total_is })

-- an object that was out is another than the one that is got, and stays out
still_out : (old new : PassView) (x y : ℕ) → Gets old new x → IsOut old y
    → (times y new.has ≡ 1) × (times y new.cached ≡ 0) × (cond {A = ℕ} (eqb x y) 1 0 ≡ 0)
still_out old new x y gets out = by_cache old.cached refl
  where
    by_cache : (cached : List ℕ) → old.cached ≡ cached → (times y new.has ≡ 1) × (times y new.cached ≡ 0) × (cond {A = ℕ} (eqb x y) 1 0 ≡ 0)
    by_cache [] is =
        let has : times y new.has ≡ times y (old.has ++ x ∷ new.cached) = ap (λ (p : PassView). times y p.has) (gets.queued is).rest in
        let both = times-append y old.has (x ∷ new.cached) in
        let first = times-cons y x new.cached in
        let most = gets.once y in
        let one = once_at_most old.total y in
        let was = out.has in
        (omega (arith, has, both, first, most, one, was), omega (arith, has, both, first, most, one, was), omega (arith, has, both, first, most, one, was))
    by_cache (z ∷ zs) is =
        let got = gets.cached (λ none. (let long = ap length (sym is ∙ none) in omega (arith, long))) in
        let has : times y new.has ≡ times y old.has = ap (λ (p : PassView). times y p.has) got.rest in
        let cached : times y old.cached ≡ times y new.cached + cond (eqb x y) 1 0 = ap (times y) got.cached ∙ times-push y new.cached x in
        let was = out.has in
        let none = out.out in
        (omega (arith, has, was), omega (arith, cached, none), omega (arith, cached, none))

-- the object that is got is out too
pub out_more : (old new : PassView) (numbers : List ℕ) (x : ℕ) → Gets old new x → AreOut old numbers → AreOut new (numbers ++ x ∷ [])
out_more old new numbers x gets out = record {
  out = λ number some.
      let push = times-push number numbers x in
      elim (cases_eq x number) [
        | inl same ↦ subst (λ (n : ℕ). IsOut new n) same gets.out
        | inr apart ↦
            let else : cond {A = ℕ} (eqb x number) 1 0 ≡ 0 = cond-false (eqb x number) 1 0 (ne_eqb x number apart) in
            let still = still_out old new x number gets (out.out number (omega (arith, some, push, else))) in
            record { has = still.0; out = still.1 }
      ];
  once = λ number.
      let push = times-push number numbers x in
      let was = out.once number in
      elim (cases_eq (times number numbers) 0) [
        | inl none ↦ elim (cases_eq x number) [
          | inl same ↦
              let here : cond {A = ℕ} (eqb x number) 1 0 ≡ 1 = cond-true (eqb x number) 1 0 (eq-eqb x number same) in
              omega (arith, push, none, here)
          | inr apart ↦
              let else : cond {A = ℕ} (eqb x number) 1 0 ≡ 0 = cond-false (eqb x number) 1 0 (ne_eqb x number apart) in
              omega (arith, push, none, else)
        ]
        | inr some ↦
            let else : cond {A = ℕ} (eqb x number) 1 0 ≡ 0 = (still_out old new x number gets (out.out number (omega (arith, some)))).2 in
            omega (arith, push, was, else)
      ];
}

-- the last of such objects is out
pub out_last : (pass : PassView) (numbers : List ℕ) (x : ℕ) → AreOut pass (numbers ++ x ∷ []) → IsOut pass x
out_last pass numbers x out =
    let push = times-push x numbers x in
    let one : cond {A = ℕ} (eqb x x) 1 0 ≡ 1 = cond-true (eqb x x) 1 0 (eq-eqb x x refl) in
    out.out x (omega (arith, push, one))

-- when it is put, the others stay out
pub out_fewer : (old new : PassView) (numbers : List ℕ) (x : ℕ) → Puts old new x → AreOut old (numbers ++ x ∷ []) → AreOut new numbers
out_fewer old new numbers x puts out = record {
  out = λ number some. rest number some;
  once = λ number. let push = times-push number numbers x in let most = out.once number in omega (arith, push, most);
}
  where
    rest : (number : ℕ) → 0 < times number numbers → IsOut new number
    rest number some =
        let push = times-push number numbers x in
        let most = out.once number in
        let was = out.out number (omega (arith, some, push)) in
        let none = was.out in
        let else : cond {A = ℕ} (eqb x number) 1 0 ≡ 0 = omega (arith, some, push, most) in
        elim (cases_lt (length old.cached) old.places) [
          | inl room ↦ subst (λ (p : PassView). IsOut p number) (sym (puts.kept room)) (record {
            has = was.has;
            out = let longer = times-push number old.cached x in omega (arith, longer, none, else);
          })
          | inr full ↦
              let parts = times-parts number (old.places / 2) old.cached in
              let gone = times-push number (take (old.places / 2) old.cached) x in
              subst (λ (p : PassView). IsOut p number) (sym (puts.full full)) (record {
                has = times-without_all_other number (take (old.places / 2) old.cached ++ x ∷ []) old.has (omega (arith, parts, gone, none, else)) ∙ was.has;
                out = omega (arith, parts, none);
              })
        ]

-- a flush leaves out what was out
pub out_flushed : (pass : PassView) (numbers : List ℕ) → AreOut pass numbers → AreOut (after_flush pass) numbers
out_flushed pass numbers out = record {
  out = λ number some.
      let was = out.out number some in
      record { has = times-without_all_other number pass.cached pass.has was.out ∙ was.has; out = refl };
  once = out.once;
}

-- no object is out
pub out_none : (pass : PassView) → AreOut pass []
out_none pass = record { out = λ number some. absurd (omega (arith, some)); once = λ number. omega arith }
