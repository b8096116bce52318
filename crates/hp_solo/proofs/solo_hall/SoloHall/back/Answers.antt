use Rattle.std.proofs.Common.{◌≡◌, ◌<◌, length, option_map, set, Some, refl, sym, ap, ◌∙◌, subst}
use Rattle.std.specs.List.{slice_get}
use Rattle.std.proofs.lemmas.Option.{slice_get_read}
use Rattle.hp_plain.proofs.Slotted.{slice_get-set_other, slice_get-set_same}
use Rattle.hp_solo.specs.Solo.{IsTiedAt, AloneView, SoloView, party_at, party_in, server_at, with_party}
use Rattle.hp_solo.proofs.SoloSeats.{solo_back}
use Rattle.hp_solo.proofs.solo_hall.SoloHall.back.Goals as goal

pub invariant_of-self : goal.invariant_of-self
invariant_of-self g c =
    let me = c.number-me.ensures ∙ ap (λ judged. judged.server.me) c.deref.ensures in
    let below : c.args.participant.value.server.me < length c.self.inside.servers.items =
    subst (λ n. c.args.participant.value.server.me < n) (sym c.self.invariant.count)
    (subst (λ (hall : SoloView). c.args.participant.value.server.me < length hall.plain.owns) (sym c.self.view_is) c.requires.declared) in
    let tied : IsTiedAt c.self.inside.plain c.args.participant.value.server.me c.args.participant.value.server =
    subst (λ (hall : SoloView). IsTiedAt hall.plain c.args.participant.value.server.me c.args.participant.value.server) (sym c.self.view_is) c.requires.tied in
    solo_back c.self.inside.plain c.self.inside.servers.items c.number-me.result c.back.new.self c.args.participant.value.server c.self.invariant
    (subst (λ n. n < length c.self.inside.servers.items) (sym me) below) (ap (λ (server : AloneView). server.party) c.back.ensures)
    (subst (λ n. IsTiedAt c.self.inside.plain n c.args.participant.value.server) (sym me) tied)

pub returns-clause-party : goal.returns-clause-party
returns-clause-party g c =
    let me = c.number-me.ensures ∙ ap (λ judged. judged.server.me) c.deref.ensures in
    let below : c.args.participant.value.server.me < length c.self.inside.servers.items =
    subst (λ n. c.args.participant.value.server.me < n) (sym c.self.invariant.count)
    (subst (λ (hall : SoloView). c.args.participant.value.server.me < length hall.plain.owns) (sym c.self.view_is) c.requires.declared) in
    subst (λ n. party_at (set c.self.inside.servers.items n c.back.new.self) c.args.participant.value.server.me ≡ Some c.args.participant.value.server) (sym me)
    (ap party_in (slice_get-set_same c.self.inside.servers.items c.args.participant.value.server.me c.back.new.self below)
    ∙ ap (λ (server : AloneView). server.party) c.back.ensures)

pub returns-clause-others : goal.returns-clause-others
returns-clause-others g c =
    λ who apart.
    slice_get-set_other c.self.inside.servers.items c.number-me.result who c.back.new.self (λ same. apart (same ∙ (c.number-me.ensures ∙ ap (λ judged. judged.server.me) c.deref.ensures)))
    ∙ ap (λ (hall : SoloView). server_at hall.servers who) c.self.view_is

pub returns-clause-place : goal.returns-clause-place
returns-clause-place g c =
    let servers = c.self.inside.servers.items in
    let server = c.index_mut.result.now in
    let participant = c.args.participant.value.server in
    let limits = c.args.participant.value.limits in
    let me = c.number-me.ensures ∙ ap (λ judged. judged.server.me) c.deref.ensures in
    let below : participant.me < length servers =
    subst (λ n. participant.me < n) (sym c.self.invariant.count)
    (subst (λ (hall : SoloView). participant.me < length hall.plain.owns) (sym c.self.view_is) c.requires.declared) in
    let there : slice_get servers c.number-me.result ≡ Some server =
    slice_get_read servers (length servers) c.number-me.result server refl
    (subst (λ n. n < length servers) (sym me) below) c.index_mut.ensures.value in
    let here : slice_get (set servers c.number-me.result c.back.new.self) participant.me ≡ Some c.back.new.self =
    subst (λ n. slice_get (set servers n c.back.new.self) participant.me ≡ Some c.back.new.self) (sym me)
    (slice_get-set_same servers participant.me c.back.new.self below) in
    here
    ∙ ap (λ (place : AloneView). Some place) c.back.ensures
    ∙ sym (ap (option_map (with_party (Some participant) limits)) (subst (λ n. slice_get servers n ≡ Some server) me there))
    ∙ ap (λ (hall : SoloView). option_map (with_party (Some participant) limits) (server_at hall.servers participant.me)) c.self.view_is
