use Rattle.std.proofs.Common.{ℕ, sym, subst}
use Rattle.hp_base.specs.Class.{IsClassOf, class_number}
use Rattle.hp_base.proofs.ClassLemmas.{class_number_of, class_number-is_class, class_monotone}
use Rattle.hp_base.proofs.laws.class_law.Goals as goal

pub returns : goal.returns
returns c = record {
  computed = λ size found. (class_number_of size found, λ is. subst (λ (n : ℕ). IsClassOf size n) (sym is) (class_number-is_class size));
  monotone = λ size more at_most. class_monotone size (class_number size) more (class_number more) (class_number-is_class size) (class_number-is_class more) at_most;
}
