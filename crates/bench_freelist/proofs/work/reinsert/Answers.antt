use Rattle.std.proofs.Common.{◌≡◌, ℕ, true, ◌∙◌, subst, sym, inl, inr, ne_eqb}
use Rattle.std.proofs.lemmas.Bool.{cases_eq}
use Rattle.hp_freelist.specs.Lists.{is_listed}
use Rattle.hp_freelist.proofs.ListedLemmas.{inserted_own, inserted_other, removed_own, removed_other}
use Rattle.bench_freelist.proofs.work.reinsert.Goals as goal

pub insert_head-requires-clause-unlisted : goal.insert_head-requires-clause-unlisted
insert_head-requires-clause-unlisted c = removed_own c.args.key c.args.lists.now.lists c.remove.new.self.lists c.remove.ensures.lists

pub returns-clause-listed : goal.returns-clause-listed
returns-clause-listed c = λ k below. elim (cases_eq k c.args.key) [
  | inl is ↦
      subst (λ (key : ℕ). is_listed key c.insert_head.new.self.lists ≡ true) (sym is)
      (inserted_own c.args.key c.whole_of.result c.remove.new.self.lists c.insert_head.new.self.lists c.insert_head.ensures.lists c.remove.ensures.count)
  | inr differs ↦
      inserted_other c.args.key c.whole_of.result c.remove.new.self.lists c.insert_head.new.self.lists c.insert_head.ensures.lists k (ne_eqb c.args.key k (λ same. differs (sym same)))
      ∙ removed_other c.args.key c.args.lists.now.lists c.remove.new.self.lists c.remove.ensures.lists k (ne_eqb k c.args.key differs) ∙ c.requires.listed k below
]
