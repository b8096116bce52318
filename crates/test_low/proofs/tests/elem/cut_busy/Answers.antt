use Rattle.std.proofs.Common.{false, [], refl, sym, ap, ◌∙◌, subst, lit<}
use Rattle.hp_base.specs.declared.span.Span.{Span}
use Rattle.hp_elem.specs.Items.{Items, IsInside, after_add}
use Rattle.hp_elem.specs.Worked.{busy_span}
use Rattle.test_low.proofs.tests.elem.cut_busy.Goals as goal

pub split-second-requires-clause-inside : goal.split-second-requires-clause-inside
split-second-requires-clause-inside c =
    let inside : IsInside 4352 (busy_span 4096 1024 (record { who = 1; zone = false; number = 7 })) = record { above = lit< tt; below = lit< tt } in
    record {
      front = [];
      found = record { key = c.add-key.result; value = c.busy.result };
      back = [];
      is = c.add-key.ensures.items ∙ ap (λ (zs : Items). after_add (record { key = c.add-key.result; value = c.busy.result }) zs) c.requires.nothing;
      same = refl;
      holds = subst (λ (s : Span). IsInside 4352 s) (sym c.busy.ensures) inside;
    }
