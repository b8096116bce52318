use Rattle.std.proofs.Common.{◌/◌, ◌≤◌, ℕ, List, [], ◌∷◌, ◌++◌, length, take, refl, sym, ap, subst, ◌∙◌, length-drop, arith}
use Rattle.std.proofs.lemmas.List.{length_push}
use Rattle.crossbeam_queue.specs.Passes.{ruled_capacity, view}
use Rattle.hp_mempool.specs.declared.pool_pass.PoolPass.TheInside.{Inside}
use Rattle.hp_mempool.specs.declared.view.View.{View}
use Rattle.hp_mempool.specs.PassInside.{pass_view}
use Rattle.hp_mempool.specs.PassView.{ObjView, PassView, PoolView, Puts}
use Rattle.hp_mempool.specs.Views.{CanPut, IsTotal, after_puts, once_below, times, without_all}
use Rattle.hp_mempool.proofs.PassLemmas.{is_out, kept_is_had, put_full, puts_full}
use Rattle.hp_mempool.proofs.PutLemmas.{after_puts_is, can_put, rest_is_had, still_out, times-without_all_le}
use Rattle.hp_mempool.proofs.pool.Pool.put.Goals as goal

pub invariant_of-pass : goal.invariant_of-pass
invariant_of-pass g c =
    let old = c.pass.invariant in
    let cached = c.pass.inside.cache.items in
    let x = c.obj.inside.number in
    let out = is_out c.args.pass.now c.pass.inside c.args.obj.number x c.pass.view_is (ap (λ (o : ObjView). o.number) c.obj.view_is) c.requires.out in
    record {
      some = old.some;
      once = old.once;
      cached = subst (λ (l : List ℕ). (number : ℕ) → times number l ≤ times number (view c.pass.inside.token).has) (sym c.push_reserved.ensures.items)
          (kept_is_had x cached (view c.pass.inside.token).has out.has out.out old.cached);
      few =
          let long = ap length c.push_reserved.ensures.items in
          let more = length_push cached x in
          let len = c.len.ensures in
          let same = c.pass.inside.cache.ok.0 in
          let room = c.if-len-pass.true in
          omega (arith, long, more, len, same, room);
      room = let same = c.push_reserved.ensures.capacity in let room = old.room in omega (arith, same, room);
      out = old.out;
    }

pub put_numbers-requires-clause-may : goal.put_numbers-requires-clause-may
put_numbers-requires-clause-may g c =
    let old = c.pass.invariant in
    let v : View = view c.pass.inside.token in
    let half = c.pass.inside.places / 2 in
    let total = ap (λ (p : PassView). p.total) c.pass.view_is ∙ (c.requires.pool.total_is ∙ sym (ap (λ (p : PoolView). p.count) c.self.view_is)) in
    subst (λ (l : List ℕ). CanPut (ruled_capacity c.self.inside.queue) (take half l) v) (sym c.deref.ensures.value)
    (can_put v c.pass.inside.cache.items old.once old.cached (ruled_capacity c.self.inside.queue) half old.some total)

pub put_number-requires-clause-total : goal.put_number-requires-clause-total
put_number-requires-clause-total g c =
    let v : View = view c.pass.inside.token in
    let half = c.pass.inside.places / 2 in
    let total = ap (λ (p : PassView). p.total) c.pass.view_is ∙ (c.requires.pool.total_is ∙ sym (ap (λ (p : PoolView). p.count) c.self.view_is)) in
    let is = c.put_numbers.ensures.put ∙ (ap (λ (l : List ℕ). after_puts (take half l) v) c.deref.ensures.value ∙ after_puts_is (take half c.pass.inside.cache.items) v) in
    subst (λ (u : View). IsTotal (ruled_capacity c.self.inside.queue) u) (sym is) (record { some = c.pass.invariant.some; total = total })

pub put_number-requires-clause-has : goal.put_number-requires-clause-has
put_number-requires-clause-has g c =
    let old = c.pass.invariant in
    let v : View = view c.pass.inside.token in
    let half = c.pass.inside.places / 2 in
    let cached = c.pass.inside.cache.items in
    let x = c.obj.inside.number in
    let out = is_out c.args.pass.now c.pass.inside c.args.obj.number x c.pass.view_is (ap (λ (o : ObjView). o.number) c.obj.view_is) c.requires.out in
    let is = c.put_numbers.ensures.put ∙ (ap (λ (l : List ℕ). after_puts (take half l) v) c.deref.ensures.value ∙ after_puts_is (take half cached) v) in
    ap (λ (u : View). times x u.has) is ∙ still_out v cached old.once old.cached half x out.has out.out

pub invariant_of-pass-else-len-pass : goal.invariant_of-pass-else-len-pass
invariant_of-pass-else-len-pass g c =
    let old = c.pass.invariant in
    let v : View = view c.pass.inside.token in
    let half = c.pass.inside.places / 2 in
    let cached = c.pass.inside.cache.items in
    let x = c.obj.inside.number in
    let out = is_out c.args.pass.now c.pass.inside c.args.obj.number x c.pass.view_is (ap (λ (o : ObjView). o.number) c.obj.view_is) c.requires.out in
    let first = c.put_numbers.ensures.put ∙ ap (λ (l : List ℕ). after_puts (take half l) v) c.deref.ensures.value in
    let is = put_full v (view c.put_numbers.new.token) (view c.put_number.new.token) (take half cached) x first c.put_number.ensures.put in
    record {
      some = λ none. old.some (ap (λ (u : View). u.part) (sym is) ∙ none);
      once = subst (λ (u : View). (number : ℕ) → times number u.has ≤ once_below u.total number) (sym is) (λ number.
          let less = times-without_all_le number (take half cached ++ x ∷ []) v.has in
          let most = old.once number in
          omega (arith, less, most));
      cached = subst (λ (u : View). (number : ℕ) → times number c.drop_oldest.new.cache.items ≤ times number u.has) (sym is)
          (subst (λ (l : List ℕ). (number : ℕ) → times number l ≤ times number (without_all (take half cached ++ x ∷ []) v.has)) (sym c.drop_oldest.ensures.rest)
          (rest_is_had v cached old.once old.cached half x out.has out.out));
      few =
          let long = ap length c.drop_oldest.ensures.rest in
          let less = length-drop half cached in
          let few = old.few in
          omega (arith, long, less, few);
      room = let same = c.drop_oldest.ensures.capacity in let room = old.room in omega (arith, same, room);
      out = c.put_number.ensures.queue.2 ∙ (c.put_numbers.ensures.queue.2 ∙ old.out);
    }

pub returns-else-len-pass : goal.returns-else-len-pass
returns-else-len-pass g c =
    let old : Inside = c.pass.inside in
    let new : Inside = record { places = old.places; cache = c.drop_oldest.new.cache; token = c.put_number.new.token } in
    let v : View = view old.token in
    let half = old.places / 2 in
    let x = c.obj.inside.number in
    let first = c.put_numbers.ensures.put ∙ ap (λ (l : List ℕ). after_puts (take half l) v) c.deref.ensures.value in
    let is = put_full v (view c.put_numbers.new.token) (view c.put_number.new.token) (take half old.cache.items) x first c.put_number.ensures.put in
    let full : old.places ≤ length old.cache.items = let len = c.len.ensures in let same = old.cache.ok.0 in let past = c.if-len-pass.false in omega (arith, len, same, past) in
    subst (λ (n : ℕ). Puts c.args.pass.now (pass_view new) n) (ap (λ (o : ObjView). o.number) c.obj.view_is)
    (subst (λ (p : PassView). Puts p (pass_view new) x) c.pass.view_is
    (puts_full old new x full (c.put_number.ensures.queue.0 ∙ c.put_numbers.ensures.queue.0) refl c.drop_oldest.ensures.rest is))
