use Rattle.std.proofs.Common.{◌≡◌, ℕ, true, ◌∙◌, subst, sym, arith, inl, inr, ne_eqb}
use Rattle.std.proofs.lemmas.Bool.{cases_eq}
use Rattle.hp_freelist.specs.Lists.{is_listed}
use Rattle.hp_freelist.proofs.ListedLemmas.{inserted_own, inserted_other}
use Rattle.bench_freelist.proofs.work.fill.Goals as goal

pub loop-key-preserved : goal.loop-key-preserved
loop-key-preserved c = record {
  room = omega (arith, c.loop-key.invariant.room, c.insert_head.ensures.room);
  count = c.insert_head.ensures.count;
  listed = λ k below. elim (cases_eq k c.loop-key.key) [
    | inl is ↦
        subst (λ (key : ℕ). is_listed key c.insert_head.new.self.lists ≡ true) (sym is)
        (inserted_own c.loop-key.key c.whole_of.result c.loop-key.lists.lists c.insert_head.new.self.lists c.insert_head.ensures.lists c.loop-key.invariant.count)
    | inr differs ↦
        inserted_other c.loop-key.key c.whole_of.result c.loop-key.lists.lists c.insert_head.new.self.lists c.insert_head.ensures.lists k (ne_eqb c.loop-key.key k (λ same. differs (sym same)))
        ∙ c.loop-key.invariant.listed k (omega (arith, below, differs))
  ];
  unlisted = λ k upwards.
      inserted_other c.loop-key.key c.whole_of.result c.loop-key.lists.lists c.insert_head.new.self.lists c.insert_head.ensures.lists k (ne_eqb c.loop-key.key k (λ same. omega (arith, same, upwards)))
      ∙ c.loop-key.invariant.unlisted k (omega (arith, upwards));
}
