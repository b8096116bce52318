-- That of a socket, or all of them.
use Rattle.std.proofs.Common.{◌∙◌, None, ap, map, sym}
use Rattle.hp_script.specs.declared.options.SocketChoice.{SocketChoice}
use Rattle.hp_proc.specs.Heaps.{heaps_for, socket_heaps}
use Rattle.hp_proc.specs.PlaceLists.{place_named}
use Rattle.hp_proc.proofs.ChosenHeaps.{places_any, places_number}
use Rattle.hp_proc.proofs.line_context.LineContext.heaps_for.Goals as goal

pub returns-in-Number : goal.returns-in-Number
returns-in-Number c =
    c.one_place.ensures
    ∙ (places_number c.args.own c.in-Number.socket c.args.self.now.pools c.heaps-heaps.result.now c.of_socket.result c.heaps-heaps.ensures
    c.of_socket.ensures
    ∙ ap (λ (choice : SocketChoice). map place_named (heaps_for c.args.own (socket_heaps c.args.self.now.pools) None choice)) (sym c.in-Number.is))

pub returns-in_ok-places-in-Any : goal.returns-in_ok-places-in-Any
returns-in_ok-places-in-Any c =
    places_any c.args.own c.args.self.now.pools c.heaps-heaps.result.now c.in_ok-places-in-Any.places.items c.heaps-heaps.ensures
    c.in_ok-places-in-Any.ensures
    ∙ ap (λ (choice : SocketChoice). map place_named (heaps_for c.args.own (socket_heaps c.args.self.now.pools) None choice)) (sym c.in-Any.is)
