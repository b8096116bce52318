-- What becomes of a pass.
use Rattle.std.proofs.Common.{◌≡◌, ℕ, ◌/◌, ◌≤◌, eqb, eq-eqb, ne_eqb, cond, List, [], ◌∷◌, ◌++◌, length, take, drop, refl, sym, ap, subst, ◌∙◌, inl, inr, arith}
use Rattle.std.proofs.lemmas.List.{length_push, nil_from_length}
use Rattle.std.specs.Prelude.{Option, Some, None, IfSome}
use Rattle.std.specs.Option.{option_to_list}
use Rattle.std.proofs.lemmas.Bool.{cases_eq, cond-true, cond-false}
use Rattle.crossbeam_queue.specs.Passes.{view}
use Rattle.hp_mempool.specs.declared.pool_pass.PoolPass.TheInside.{Inside}
use Rattle.hp_mempool.specs.declared.view.View.{View}
use Rattle.hp_mempool.specs.PassInside.{IsPass, pass_view}
use Rattle.hp_mempool.specs.PassView.{Gets, IsOut, PassView, Puts}
use Rattle.hp_mempool.specs.Views.{Refills, after_put, after_puts, once_below, times, without_all}
use Rattle.hp_mempool.proofs.Counts.{times-push}
use Rattle.hp_mempool.proofs.PutLemmas.{after_puts_is, without_all-push}
use Rattle.hp_mempool.proofs.TakeLemmas.{TookLast, TookOne, took_last}

-- its token and its cache changed
pub pass_with : (a b : Inside) (cached has : List ℕ) → b.token.table_id ≡ a.token.table_id → b.places ≡ a.places → b.cache.items ≡ cached
    → view b.token ≡ record (view a.token) { has = has } → pass_view b ≡ record (pass_view a) { cached = cached; has = has }
pass_with a b cached has table places cache is = λ i. record {
  pool = table i;
  total = (is i).total;
  places = places i;
  cached = cache i;
  has = (is i).has;
  part = (is i).part;
  halvings = (is i).halvings;
}

-- the last number of the cache was got
pub gets_cached : (a b : Inside) (x : ℕ) → ((number : ℕ) → times number (view a.token).has ≤ once_below (view a.token).total number)
    → a.cache.items ≡ b.cache.items ++ x ∷ [] → b.places ≡ a.places → b.token ≡ a.token → TookLast (view a.token) x b.cache.items
    → Gets (pass_view a) (pass_view b) x
gets_cached a b x once cached places token took = record {
  within = took.within;
  out = record { has = ap (λ (v : View). times x v.has) (ap view token) ∙ took.here; out = took.out };
  once = subst (λ (v : View). (other : ℕ) → times other v.has ≤ once_below (view a.token).total other) (sym (ap view token)) once;
  cached = λ some. record {
    cached = cached;
    rest = pass_with a b b.cache.items (view a.token).has (ap (λ t. t.table_id) token) places refl (ap view token);
  };
  queued = λ empty. absurd (let long = ap length (sym cached ∙ empty) in let push = length_push b.cache.items x in omega (arith, long, push));
}

pub got_last : (a b : Inside) (popped : Option ℕ) → IsPass a → a.cache.items ≡ b.cache.items ++ option_to_list popped → b.places ≡ a.places → b.token ≡ a.token
    → IfSome popped (Gets (pass_view a) (pass_view b))
got_last a b None is cached places token = tt
got_last a b (Some x) is cached places token =
    gets_cached a b x is.once cached places token (took_last (view a.token) x a.cache.items b.cache.items is.once is.cached cached)

-- the first number of the queue was got, and then others for the cache
pub gets_queued : (a b : Inside) (mid : View) (x : ℕ) → a.cache.items ≡ [] → b.places ≡ a.places → b.token.table_id ≡ a.token.table_id
    → TookOne (view a.token) (view b.token) x b.cache.items → Refills (a.places / 2) mid (view b.token) b.cache.items
    → Gets (pass_view a) (pass_view b) x
gets_queued a b mid x empty places table took refills = record {
  within = took.within;
  out = record { has = took.here; out = took.out };
  once = λ other.
      let most = took.once other in
      let total : once_below (view b.token).total other ≡ once_below (view a.token).total other = ap (λ (v : View). once_below v.total other) took.is in
      omega (arith, most, total);
  cached = λ some. absurd (some empty);
  queued = λ _. record {
    empty = empty;
    rest = pass_with a b b.cache.items ((view a.token).has ++ x ∷ b.cache.items) table places refl took.is;
    few = refills.few;
    fewer = λ less. (let rest = refills.rest less in (rest.0, nil_from_length rest.0 rest.1, record { once = rest.2.once; all = rest.2.all }));
  };
}

-- the front of the cache and then another number went to the queue
pub put_full : (v mid last : View) (front : List ℕ) (x : ℕ) → mid ≡ after_puts front v → last ≡ after_put x mid
    → last ≡ record v { has = without_all (front ++ x ∷ []) v.has }
put_full v mid last front x first then =
    then ∙ ap (after_put x) (first ∙ after_puts_is front v) ∙ (λ i. record v { has = sym (without_all-push front x v.has) i })

-- a number that was out comes to the cache
pub kept_is_had : (x : ℕ) (cached has : List ℕ) → times x has ≡ 1 → times x cached ≡ 0 → ((number : ℕ) → times number cached ≤ times number has)
    → (number : ℕ) → times number (cached ++ x ∷ []) ≤ times number has
kept_is_had x cached has here out had number =
    let push = times-push number cached x in
    let most = had number in
    elim (cases_eq x number) [
      | inl same ↦
          let one : cond {A = ℕ} (eqb x number) 1 0 ≡ 1 = cond-true (eqb x number) 1 0 (eq-eqb x number same) in
          let here_now : times number has ≡ 1 = subst (λ (k : ℕ). times k has ≡ 1) same here in
          let out_now : times number cached ≡ 0 = subst (λ (k : ℕ). times k cached ≡ 0) same out in
          omega (arith, push, one, here_now, out_now)
      | inr apart ↦
          let else : cond {A = ℕ} (eqb x number) 1 0 ≡ 0 = cond-false (eqb x number) 1 0 (ne_eqb x number apart) in
          omega (arith, push, most, else)
    ]

-- with a full cache
pub puts_full : (a b : Inside) (x : ℕ) → a.places ≤ length a.cache.items → b.token.table_id ≡ a.token.table_id → b.places ≡ a.places
    → b.cache.items ≡ drop (a.places / 2) a.cache.items
    → view b.token ≡ record (view a.token) { has = without_all (take (a.places / 2) a.cache.items ++ x ∷ []) (view a.token).has }
    → Puts (pass_view a) (pass_view b) x
puts_full a b x full table places cache is = record {
  kept = λ room. absurd (omega (arith, room, full));
  full = λ _. pass_with a b (drop (a.places / 2) a.cache.items) (without_all (take (a.places / 2) a.cache.items ++ x ∷ []) (view a.token).has) table places cache is;
}

-- the object with that number is out with the pass, as it is kept
pub is_out : (pass : PassView) (a : Inside) (number x : ℕ) → pass_view a ≡ pass → x ≡ number → IsOut pass number → IsOut (pass_view a) x
is_out pass a number x same is out = subst (λ (n : ℕ). IsOut (pass_view a) n) (sym is) (subst (λ (p : PassView). IsOut p number) (sym same) out)
