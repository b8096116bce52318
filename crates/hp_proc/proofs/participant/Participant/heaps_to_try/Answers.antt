-- Where no heap is named, those by the socket are tried.
use Rattle.std.proofs.Common.{◌≡◌, ◌∙◌, ℕ, [], List, None, Option, ap, map, refl, sym, subst}
use Rattle.hp_hall.proofs.HallStates.{did_same}
use Rattle.hp_script.specs.Part.{Part}
use Rattle.hp_proc.specs.Heaps.{heaps_for, socket_heaps}
use Rattle.hp_proc.specs.LineInHall.{ChoosesBy, StopsChoosing, did_in, moment}
use Rattle.hp_proc.specs.ParticipantView.{ParticipantView}
use Rattle.hp_proc.specs.PlaceLists.{place_list, place_named}
use Rattle.hp_serve.proofs.AskingFacts.AskedAlong.{on_err_any}
use Rattle.hp_proc.proofs.Halted.{halts_same}
use Rattle.hp_proc.proofs.participant.Participant.heaps_to_try.Goals as goal

pub returns-in_err-places-in-None-clause-halts : goal.returns-in_err-places-in-None-clause-halts
returns-in_err-places-in-None-clause-halts g c =
    let doer = c.args.self.now in
    let me = doer.party.me in
    let hall = g.H.Hall.state c.args.hall.now in
    let stops : StopsChoosing me doer doer c.args.options.now.heap hall hall =
    subst (λ (name : Option Part). StopsChoosing me doer doer name hall hall) (sym c.in-None.is)
    (λ doing. halts_same [] hall.count (did_in me hall hall) doing (moment me doer hall) (did_same me hall)) in
    on_err_any _ _ stops

pub returns-in_ok-places-in-None-clause-does : goal.returns-in_ok-places-in-None-clause-does
returns-in_ok-places-in-None-clause-does g c =
    let doer = c.args.self.now in
    let me = doer.party.me in
    let hall = g.H.Hall.state c.args.hall.now in
    let choice = c.args.options.now.socket in
    let own : c.socket-own.result ≡ doer.party.socket =
    (rw c.deref.ensures at c.socket-own.ensures) ∙ ap (λ (doer : ParticipantView). doer.party.socket) c.self.view_is in
    let places =
    c.in_ok-places-in-None.ensures
    ∙ (ap (λ (own : ℕ). map place_named (heaps_for own (socket_heaps c.self.inside.context.pools) None choice)) own
    ∙ ap (λ (its : ParticipantView). map place_named (heaps_for doer.party.socket (socket_heaps its.context.pools) None choice)) c.self.view_is) in
    subst (λ (name : Option Part). ChoosesBy me doer doer name choice (place_list c.in_ok-places-in-None.places) (c.args.hall.now ≡ c.args.hall.now)
    hall hall) (sym c.in-None.is) (refl, refl, places)
