use Rattle.std.proofs.Common.{◌≡◌, ◌∙◌, ℕ, sym, ap}
use Rattle.hp_base.specs.Place.{last_address, computed_address}
use Rattle.hp_base.proofs.Places.{roomy_is_place, narrow_has_no_place, place_of-roomy, place_of-narrow}
use Rattle.hp_base.proofs.data_place.place.Goals as goal

pub returns-then-is_roomy : goal.returns-then-is_roomy
returns-then-is_roomy c =
    let is : c.last_address-last.result ≡ computed_address c.args.end c.args.req.now =
    c.last_address-last.ensures ∙ ap (λ (e : ℕ). last_address e c.args.req.now.size c.args.req.now.align) c.lowered_end.ensures in
    record {
      place = roomy_is_place c.args.start c.args.end c.args.req.now c.last_address-last.result is (sym c.is_roomy.ensures ∙ c.if-is_roomy.true);
      number = place_of-roomy c.args.start c.args.end c.args.req.now c.last_address-last.result is (sym c.is_roomy.ensures ∙ c.if-is_roomy.true);
    }

pub returns-else-is_roomy : goal.returns-else-is_roomy
returns-else-is_roomy c =
    let is : c.last_address-last.result ≡ computed_address c.args.end c.args.req.now =
    c.last_address-last.ensures ∙ ap (λ (e : ℕ). last_address e c.args.req.now.size c.args.req.now.align) c.lowered_end.ensures in
    record {
      place = narrow_has_no_place c.args.start c.args.end c.args.req.now c.last_address-last.result is (sym c.is_roomy.ensures ∙ c.if-is_roomy.false);
      number = place_of-narrow c.args.start c.args.end c.args.req.now c.last_address-last.result is (sym c.is_roomy.ensures ∙ c.if-is_roomy.false);
    }
