-- Up to the end, all are set.
use Rattle.std.proofs.Common.{◌≡◌, ◌&&◌, ◌∙◌, ℕ, ap, arith, get_or, nat_le, nat_lt}
use Rattle.std.specs.Prelude.{if◌then◌else◌}
use Rattle.hp_maps.proofs.last_drops.set_all.Goals as goal

pub returns : goal.returns
returns c = λ place.
    c.loop-place.invariant.set place
    ∙ ap (λ (end : ℕ). if nat_le c.args.first place && nat_lt place end then c.args.number else get_or c.args.numbers.now place 0)
    {x = c.loop-place.place} {y = c.args.end} (omega (arith, c.requires.order, c.loop-place-test.false, c.loop-place.auto.place-end))
