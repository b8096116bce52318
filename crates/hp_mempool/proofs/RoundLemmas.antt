-- What a worker's rounds leave of its pass.
use Rattle.std.proofs.Common.{◌≡◌, ℕ, ◌+◌, ◌*◌, ◌/◌, ◌^◌, ◌<◌, ◌≤◌, eqb, cond, ne_eqb, List, [], ◌∷◌, ◌++◌, length, get_or, take, drop, refl, sym, ap, subst, ◌∙◌, inl, inr, arith}
use Rattle.std.proofs.lemmas.Bool.{cases_eq, cases_lt, cond-false}
use Rattle.std.proofs.lemmas.List.{get_or_append_left, get_or_push, length_push}
use Rattle.std.proofs.lemmas.Nat.{pow-add}
use Rattle.hp_mempool.specs.PassView.{Gets, IsOf, IsWhole, PassView, PoolView, Puts, after_flush, with_part_of}
use Rattle.hp_mempool.specs.Views.{once_below, times, without, without_all}
use Rattle.hp_mempool.specs.Working.{AreWorkers, HasAllCached, left_pass, worker_pass}
use Rattle.hp_mempool.proofs.Counts.{once_at_most, times-append, times-cons, times-first, times-parts, times-push, times-without_it}
use Rattle.hp_mempool.proofs.PassLaws.{gets_same}
use Rattle.hp_mempool.proofs.PutLemmas.{times-without_all_le, times-without_all_other}

-- all that a pass has is in its cache but for one number, each once
pub record HasOneOut (pass : PassView) (x : ℕ) : Type 0 where
  pub once : (number : ℕ) → times number pass.has ≤ once_below pass.total number
  pub but : (number : ℕ) → times number pass.has ≡ times number pass.cached + cond (eqb x number) 1 0

-- after a get one number is out
pub one_out : (old new : PassView) (x : ℕ) → HasAllCached old → Gets old new x → HasOneOut new x
one_out old new x all gets = record {
  once = λ number.
      let most = gets.once number in
      let total : once_below new.total number ≡ once_below old.total number = ap (λ (p : PassView). once_below p.total number) (gets_same old new x gets) in
      omega (arith, most, total);
  but = λ number. by_cache old.cached refl number;
}
  where
    by_cache : (cached : List ℕ) → old.cached ≡ cached → (number : ℕ) → times number new.has ≡ times number new.cached + cond (eqb x number) 1 0
    by_cache [] is number =
        let has : times number new.has ≡ times number (old.has ++ x ∷ new.cached) = ap (λ (p : PassView). times number p.has) (gets.queued is).rest in
        let both = times-append number old.has (x ∷ new.cached) in
        let first = times-cons number x new.cached in
        let had = all.cached number in
        let none : times number old.cached ≡ 0 = ap (times number) is in
        omega (arith, has, both, first, had, none)
    by_cache (y ∷ ys) is number =
        let got = gets.cached (λ none. (let long = ap length (sym is ∙ none) in omega (arith, long))) in
        let has : times number new.has ≡ times number old.has = ap (λ (p : PassView). times number p.has) got.rest in
        let had = all.cached number in
        let was : times number old.cached ≡ times number new.cached + cond (eqb x number) 1 0 = ap (times number) got.cached ∙ times-push number new.cached x in
        omega (arith, has, had, was)

-- what has gone is not there any more
pub times-without_all_gone : (number : ℕ) (gone xs : List ℕ) → 0 < times number gone → times number (without_all gone xs) ≡ 0
times-without_all_gone number [] xs some = absurd (omega (arith, some))
times-without_all_gone number (y ∷ gone) xs some =
    let all = times-cons number y gone in
    elim (cases_eq y number) [
      | inl same ↦
          let rest = times-without_all_le number gone (without y xs) in
          let none : times number (without y xs) ≡ 0 = subst (λ (k : ℕ). times k (without y xs) ≡ 0) same (times-without_it y xs) in
          omega (arith, rest, none)
      | inr apart ↦
          let else : cond {A = ℕ} (eqb y number) 1 0 ≡ 0 = cond-false (eqb y number) 1 0 (ne_eqb y number apart) in
          times-without_all_gone number gone (without y xs) (omega (arith, all, some, else))
    ]

-- after a put of that number all is in the cache
pub all_cached : (old new : PassView) (x : ℕ) → HasOneOut old x → Puts old new x → HasAllCached new
all_cached old new x out puts =
    elim (cases_lt (length old.cached) old.places) [
      | inl room ↦ subst HasAllCached (sym (puts.kept room)) (record {
        once = out.once;
        cached = λ number. let but = out.but number in let push = times-push number old.cached x in omega (arith, but, push);
      })
      | inr none ↦ subst HasAllCached (sym (puts.full none)) (record {
        once = λ number.
            let less = times-without_all_le number (take (old.places / 2) old.cached ++ x ∷ []) old.has in
            let most = out.once number in
            omega (arith, less, most);
        cached = λ number. full_cached number;
      })
    ]
  where
    full_cached : (number : ℕ) → times number (without_all (take (old.places / 2) old.cached ++ x ∷ []) old.has) ≡ times number (drop (old.places / 2) old.cached)
    full_cached number =
        let but = out.but number in
        let parts = times-parts number (old.places / 2) old.cached in
        let gone = times-push number (take (old.places / 2) old.cached) x in
        let most = out.once number in
        let one = once_at_most old.total number in
        elim (cases_eq (times number (take (old.places / 2) old.cached ++ x ∷ [])) 0) [
          | inl none ↦
              let stays = times-without_all_other number (take (old.places / 2) old.cached ++ x ∷ []) old.has none in
              omega (arith, but, parts, gone, none, stays)
          | inr some ↦
              let away = times-without_all_gone number (take (old.places / 2) old.cached ++ x ∷ []) old.has (omega (arith, some)) in
              omega (arith, but, parts, gone, most, one, some, away)
        ]

none_of_times : (xs : List ℕ) → ((number : ℕ) → times number xs ≡ 0) → xs ≡ []
none_of_times [] none = refl
none_of_times (x ∷ xs) none = absurd (let first = times-first x xs in let zero_times = none x in omega (arith, first, zero_times))

-- after a flush the pass has nothing
pub flushed : (pass : PassView) → HasAllCached pass → after_flush pass ≡ record pass { cached = []; has = [] }
flushed pass all = λ i. record pass { cached = []; has = nothing i }
  where
    nothing : without_all pass.cached pass.has ≡ []
    nothing = none_of_times (without_all pass.cached pass.has) (λ number.
        let had = all.cached number in
        elim (cases_eq (times number pass.cached) 0) [
          | inl none ↦ let stays = times-without_all_other number pass.cached pass.has none in omega (arith, stays, had, none)
          | inr some ↦ times-without_all_gone number pass.cached pass.has (omega (arith, some))
        ])

-- a part of 2^h takes in the one that is as much as what it lacks beside others
pub parts_joined : (p h k : ℕ) → p * 2 ^ (k + 1) ≡ 2 ^ h → (p * 2 ^ (k + 1) + 1 * 2 ^ h) * 2 ^ k ≡ 2 ^ (h + (k + 1))
parts_joined p h k is =
    let twice : 2 ^ (h + 1) ≡ 2 ^ h * 2 = pow-add 2 h 1 in
    let sum : p * 2 ^ (k + 1) + 1 * 2 ^ h ≡ 2 ^ (h + 1) = omega (arith, is, twice) in
    let same : h + 1 + k ≡ h + (k + 1) = omega arith in
    ap (λ n. n * 2 ^ k) sum ∙ (sym (pow-add 2 (h + 1) k) ∙ ap (λ n. 2 ^ n) same)

-- the passes of the workers but for the last one
pub last_worker : (pool : PoolView) (places : ℕ) (all rest : List PassView) (other : PassView) → all ≡ rest ++ other ∷ [] → AreWorkers pool places all
    → (other ≡ worker_pass pool places (length rest)) × AreWorkers pool places rest
last_worker pool places all rest other is workers = (
  sym (ap (λ (l : List PassView). get_or l (length rest) other) is ∙ get_or_push rest other other (length rest) refl)
      ∙ workers (length rest) other (let long = ap length is in let push = length_push rest other in omega (arith, long, push)),
  λ worker d below.
      sym (ap (λ (l : List PassView). get_or l worker d) is ∙ get_or_append_left rest (other ∷ []) d worker below)
      ∙ workers worker d (let long = ap length is in let push = length_push rest other in omega (arith, long, push, below)),
)

-- the first pass has taken in another worker's
pub record HasGathered (pool : PoolView) (first : PassView) (left : ℕ) : Type 0 where
  pub of : IsOf first pool
  pub none : first.has ≡ []
  pub part : first.part * 2 ^ left ≡ 2 ^ first.halvings

pub gathered_one : (pool : PoolView) (places left n : ℕ) (old new other : PassView) → HasGathered pool old n → n ≡ left + 1 → other ≡ worker_pass pool places left
    → new ≡ with_part_of other old → HasGathered pool new left
gathered_one pool places left n old new other had one is joined =
    subst (λ (p : PassView). HasGathered pool p left) (sym (joined ∙ ap (λ (p : PassView). with_part_of p old) is)) (record {
      of = record { pool_is = had.of.pool_is; total_is = had.of.total_is };
      none = had.none;
      part = parts_joined old.part old.halvings left (ap (λ (k : ℕ). old.part * 2 ^ k) (sym one) ∙ had.part);
    })

pub gathers : (pool : PoolView) (places n : ℕ) (first : PassView) → first ≡ left_pass pool places n → HasGathered pool first n
gathers pool places n first is = subst (λ (p : PassView). HasGathered pool p n) (sym is) (record {
  of = record { pool_is = refl; total_is = refl };
  none = refl;
  part = omega arith;
})

-- nothing is left to gather
pub gathered_all : (pool : PoolView) (first : PassView) (n : ℕ) → HasGathered pool first n → n ≡ 0 → IsWhole first
gathered_all pool first n had none =
    let part : first.part * 2 ^ 0 ≡ 2 ^ first.halvings = ap (λ (k : ℕ). first.part * 2 ^ k) (sym none) ∙ had.part in
    omega (arith, part)

pub worker_of : (pool : PoolView) (places worker : ℕ) (pass : PassView) → pass ≡ worker_pass pool places worker → IsOf pass pool
worker_of pool places worker pass is = subst (λ (p : PassView). IsOf p pool) (sym is) (record { pool_is = refl; total_is = refl })
