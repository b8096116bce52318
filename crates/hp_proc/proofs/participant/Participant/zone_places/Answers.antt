-- By their socket the heaps are those that an allocation tries.
use Rattle.std.proofs.Common.{◌≡◌, ◌∙◌, ℕ, List, Option, None, map, ap, sym}
use Rattle.std.specs.Option.{option_map}
use Rattle.hp_script.specs.Part.{Part}
use Rattle.hp_proc.specs.Heaps.{NamedHeap, heaps_for, socket_heaps}
use Rattle.hp_proc.specs.ParticipantView.{ParticipantView}
use Rattle.hp_proc.specs.PlaceLists.{place_named}
use Rattle.hp_proc.specs.SharedNames.{heaps_in}
use Rattle.hp_proc.proofs.ZonePlaces.{zone_heaps}
use Rattle.hp_proc.proofs.participant.Participant.zone_places.Goals as goal

pub returns-in_ok-places-in-None : goal.returns-in_ok-places-in-None
returns-in_ok-places-in-None g c =
    let doer = c.args.self.now in
    let own = doer.party.socket in
    let names = c.args.names.now in
    let choice = c.args.options.now.socket in
    let socket : c.socket-own.result ≡ own =
    (rw c.deref.ensures at c.socket-own.ensures) ∙ ap (λ (doer : ParticipantView). doer.party.socket) c.self.view_is in
    c.in_ok-places-in-None.ensures
    ∙ (ap (λ (own : ℕ). map place_named (heaps_for own (socket_heaps c.self.inside.context.pools) None choice)) socket
    ∙ (ap (λ (its : ParticipantView). map place_named (heaps_for own (socket_heaps its.context.pools) None choice)) c.self.view_is
    ∙ (ap (λ (heaps : List NamedHeap). map place_named heaps)
    (sym (zone_heaps names.heaps c.requires.sound doer.context.pools c.requires.sockets own choice))
    ∙ ap (λ (name : Option Part). map place_named (heaps_for own (heaps_in names.heaps.plain) (option_map (λ (name : Part). name.text) name) choice))
    (sym c.in-None.is))))
