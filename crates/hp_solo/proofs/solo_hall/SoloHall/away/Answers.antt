use Rattle.std.proofs.Common.{◌≡◌, ◌<◌, [], length, None, Some, option_map, refl, sym, ap, ◌∙◌, subst}
use Rattle.std.specs.List.{slice_get}
use Rattle.std.proofs.lemmas.Option.{slice_get_read}
use Rattle.hp_plain.proofs.Slotted.{slice_get-set_other, slice_get-set_same}
use Rattle.hp_solo.specs.Solo.{IsAway, AloneView, SoloView, limits_at, limits_in, party_at, party_in, server_at, with_party}
use Rattle.hp_solo.proofs.SoloSeats.{solo_away, who_goes}
use Rattle.hp_solo.proofs.solo_hall.SoloHall.away.Goals as goal

pub invariant_of-self : goal.invariant_of-self
invariant_of-self g c =
    let below : c.args.me < length c.self.inside.servers.items =
    subst (λ n. c.args.me < n) (sym c.self.invariant.count)
    (subst (λ (hall : SoloView). c.args.me < length hall.plain.owns) (sym c.self.view_is) c.requires.declared) in
    solo_away c.self.inside.plain c.self.inside.servers.items c.args.me c.away.new.self c.self.invariant below
    (ap (λ (server : AloneView). server.party) c.away.ensures.away)

pub returns-clause-party : goal.returns-clause-party
returns-clause-party g c =
    let servers = c.self.inside.servers.items in
    let server = c.index_mut.result.now in
    let below : c.args.me < length servers =
    subst (λ n. c.args.me < n) (sym c.self.invariant.count)
    (subst (λ (hall : SoloView). c.args.me < length hall.plain.owns) (sym c.self.view_is) c.requires.declared) in
    let there : slice_get servers c.args.me ≡ Some server =
    slice_get_read servers (length servers) c.args.me server refl below c.index_mut.ensures.value in
    c.away.ensures.party ∙ sym (ap party_in there) ∙ ap (λ (hall : SoloView). party_at hall.servers c.args.me) c.self.view_is

pub returns-clause-tied : goal.returns-clause-tied
returns-clause-tied g c =
    let servers = c.self.inside.servers.items in
    let server = c.index_mut.result.now in
    let below : c.args.me < length servers =
    subst (λ n. c.args.me < n) (sym c.self.invariant.count)
    (subst (λ (hall : SoloView). c.args.me < length hall.plain.owns) (sym c.self.view_is) c.requires.declared) in
    let there : slice_get servers c.args.me ≡ Some server =
    slice_get_read servers (length servers) c.args.me server refl below c.index_mut.ensures.value in
    who_goes c.self.inside.plain servers c.args.me c.away.result c.self.invariant.tied (c.away.ensures.party ∙ sym (ap party_in there))

pub returns-clause-away : goal.returns-clause-away
returns-clause-away g c =
    let below : c.args.me < length c.self.inside.servers.items =
    subst (λ n. c.args.me < n) (sym c.self.invariant.count)
    (subst (λ (hall : SoloView). c.args.me < length hall.plain.owns) (sym c.self.view_is) c.requires.declared) in
    subst IsAway (sym (slice_get-set_same c.self.inside.servers.items c.args.me c.away.new.self below))
    (ap (λ (server : AloneView). server.party) c.away.ensures.away)

pub returns-clause-others : goal.returns-clause-others
returns-clause-others g c =
    λ who apart.
    slice_get-set_other c.self.inside.servers.items c.args.me who c.away.new.self apart
    ∙ ap (λ (hall : SoloView). server_at hall.servers who) c.self.view_is

pub returns-clause-place : goal.returns-clause-place
returns-clause-place g c =
    let servers = c.self.inside.servers.items in
    let server = c.index_mut.result.now in
    let below : c.args.me < length servers =
    subst (λ n. c.args.me < n) (sym c.self.invariant.count)
    (subst (λ (hall : SoloView). c.args.me < length hall.plain.owns) (sym c.self.view_is) c.requires.declared) in
    let there : slice_get servers c.args.me ≡ Some server =
    slice_get_read servers (length servers) c.args.me server refl below c.index_mut.ensures.value in
    slice_get-set_same servers c.args.me c.away.new.self below
    ∙ ap (λ (place : AloneView). Some place) c.away.ensures.away
    ∙ sym (ap (option_map (with_party None [])) there)
    ∙ ap (λ (hall : SoloView). option_map (with_party None []) (server_at hall.servers c.args.me)) c.self.view_is

pub returns-clause-limits : goal.returns-clause-limits
returns-clause-limits g c =
    let servers = c.self.inside.servers.items in
    let server = c.index_mut.result.now in
    let below : c.args.me < length servers =
    subst (λ n. c.args.me < n) (sym c.self.invariant.count)
    (subst (λ (hall : SoloView). c.args.me < length hall.plain.owns) (sym c.self.view_is) c.requires.declared) in
    let there : slice_get servers c.args.me ≡ Some server =
    slice_get_read servers (length servers) c.args.me server refl below c.index_mut.ensures.value in
    c.away.ensures.limits ∙ sym (ap limits_in there) ∙ ap (λ (hall : SoloView). limits_at hall.servers c.args.me) c.self.view_is
