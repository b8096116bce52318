use Rattle.std.proofs.Common.{◌==◌}
use Rattle.hp_proc.proofs.Noted.{found_few}
use Rattle.hp_proc.specs.declared.own_element.OwnElement.{OwnElement}
use Rattle.hp_proc.proofs.line_context.LineContext.element_of.Goals as goal

pub returns-clause-few : goal.returns-clause-few
returns-clause-few c =
    found_few (λ (element : OwnElement). element.line == c.args.line) c.as_slice.result.now c.self.inside.elements.items c.element_in.result
    c.as_slice.ensures.value c.self.invariant.0.few c.element_in.ensures
