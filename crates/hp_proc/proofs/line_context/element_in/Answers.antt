use Rattle.std.proofs.Common.{Bor, ap, sym, ◌∙◌}
use Rattle.std.specs.Option.{option_map}
use Rattle.hp_proc.proofs.Noted.{line_behind, line_found, line_passed}
use Rattle.hp_proc.specs.declared.own_element.OwnElement.{OwnElement}
use Rattle.hp_proc.proofs.line_context.element_in.Goals as goal

pub returns-in_err-element : goal.returns-in_err-element
returns-in_err-element c =
    ap (option_map (λ (element : Bor OwnElement). element.now)) c.from_residual.ensures
    ∙ sym (line_behind c.args.line c.args.elements.now c.first_from-place.result c.requires c.first_from-place.ensures c.in_err-element.ensures.lookup.3)

pub returns-then-element-line : goal.returns-then-element-line
returns-then-element-line c =
    sym (line_found c.args.line c.args.elements.now c.first_from-place.result c.requires c.first_from-place.ensures c.in_ok-element.element.now
    c.in_ok-element.ensures.lookup.3.0 (sym c.in_ok-element.ensures.lookup.1) c.if-element-line.true)

pub returns-else-element-line : goal.returns-else-element-line
returns-else-element-line c =
    sym (line_passed c.args.line c.args.elements.now c.first_from-place.result c.requires c.first_from-place.ensures c.in_ok-element.element.now
    c.in_ok-element.ensures.lookup.3.0 (sym c.in_ok-element.ensures.lookup.1) c.if-element-line.false)
