use Rattle.std.proofs.Common.{List, ℕ, ◌++◌, length, sym, subst, rules}
use Rattle.hp_base.specs.Names.{IsPadded}
use Rattle.hp_base.proofs.NameLemmas.{IsPadded-text}
use Rattle.hp_base.proofs.name.Name.new.Goals as goal

pub invariant_of-result : goal.invariant_of-result
invariant_of-result c =
    subst (λ (front : List ℕ). IsPadded (front ++ c.split_at_mut-front.result.1.now) (length c.args.text.now)) (sym c.copy_from_slice.ensures.after)
    (IsPadded-text c.args.text.now c.split_at_mut-front.result.1.now (search rules) c.if-text-gt63.false c.split_at_mut-front.ensures.back)
