-- Each space ends a field.
use Rattle.std.proofs.Common.{◌≡◌, ◌+◌, sym}
use Rattle.std.specs.Prelude.{position, None, ◌==◌}
use Rattle.hp_view.proofs.FieldLemmas.{fields_end, fields_step, to_end}
use Rattle.hp_view.proofs.form.read_fields.Goals as goal

pub loop-n-preserved : goal.loop-n-preserved
loop-n-preserved c =
    fields_step _ _ _ _ _ _ c.in-Some.n c.loop-n.invariant (sym c.in-Some.ensures.place) c.new.ensures (to_end (c.in-Some.n + 1) c.loop-n.rest.now) c.in_ok-push.ensures.items

pub returns : goal.returns
returns c =
    let none : position (λ byte. byte == 32) c.loop-n.rest.now ≡ None = cc c.in_default.ensures.place in
    fields_end _ _ _ _ _ c.loop-n.invariant none c.new-2.ensures c.in_ok-push-2.ensures.items
