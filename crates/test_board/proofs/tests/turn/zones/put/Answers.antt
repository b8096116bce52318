use Rattle.std.proofs.Common.{◌≡◌, ◌∙◌, ◌++◌, [], ◌∷◌, refl, sym, ap}
use Rattle.hp_zone.specs.Zones.{with_room}
use Rattle.hp_zone.specs.declared.zone.Zone.{Zone}
use Rattle.hp_zone.specs.declared.zone.ZoneChange.TheVariants.{Put}
use Rattle.test_board.proofs.PlayLemmas.{where_ok}
use Rattle.test_board.proofs.tests.turn.zones.put.Goals as goal

pub returns : goal.returns
returns c = λ _.
    let zone : Zone = record { name = c.in-Ok.name; addr = c.args.addr; len = 1024; socket = c.in-Some.socket; heap = 1 } in
    let same : c.reserve.new.self ≡ with_room c.args.names.now.zones =
    where_ok c.reserve.result (c.reserve.new.self ≡ with_room c.args.names.now.zones) (sym c.is_err.ensures.value ∙ c.if-is_err.false) c.reserve.ensures.ok in
    record { zone = zone; at = refl; heap = refl; zones = c.insert.ensures.zones ∙ ap (λ z. z.zones ++ zone ∷ []) same; log = c.insert.ensures.log ∙ ap (λ z. z.log ++ Put zone ∷ []) same; heaps = refl }
