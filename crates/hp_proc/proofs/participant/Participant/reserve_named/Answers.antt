-- A reservation is judged with the names in hand, and served where nothing stands against it.
use Rattle.std.proofs.Common.{◌∙◌, ℕ, List, ap, sym, subst}
use Rattle.hp_zone.specs.Checking.{IsAcceptable, IsFirstFault}
use Rattle.hp_proc.specs.Doing.{Doing}
use Rattle.hp_proc.specs.Handing.{shared_of}
use Rattle.hp_proc.specs.VerbLaws.{asked_for}
use Rattle.hp_proc.specs.ZoneLines.{zone_answer}
use Rattle.hp_proc.specs.ZonesInHand.{reserving_by}
use Rattle.hp_script.specs.declared.answer.Answer.TheVariants as answer
use Rattle.hp_proc.proofs.NamesRead.{as_leaves}
use Rattle.hp_proc.proofs.Reservations.{reservations_agree}
use Rattle.hp_proc.proofs.ZoneDone.{nothing_named}
use Rattle.hp_proc.proofs.ZoneTrees.{AreThese, bad_tree, fault_tree}
use Rattle.hp_proc.proofs.participant.Participant.reserve_named.Goals as goal

pub returns-in-Err-clause-does : goal.returns-in-Err-clause-does
returns-in-Err-clause-does g c = λ facts known.
    (let doer = c.args.self.now in
    let names = c.args.names.now in
    let ready = c.requires.ready in
    let name = c.args.name.now in
    let options = c.args.options.now in
    let these : AreThese doer.context names =
    record { replayed = ready.sound.0.replayed; directory = as_leaves doer names ready.sound.1 ready.sockets } in
    nothing_named doer.party.me doer names (g.H.Hall.state c.args.hall.now)
    (reserving_by c.args.line.now.act c.args.line.now facts (shared_of names)) c.zone_answer.result
    (ap Doing.Ended c.zone_answer.ensures
    ∙ fault_tree c.args.line.now name c.args.len options c.requires.act doer.party.socket doer.context names these facts known c.in-Err.fault
    ((reservations_agree names.zones.zones name.text c.args.len options).refused c.in-Err.fault
    (subst (λ (text : List ℕ). IsFirstFault names.zones.zones (asked_for text c.args.len options) c.in-Err.fault) c.as_bytes.ensures.text
    c.in-Err.ensures.refused))))

pub returns-in-Err-clause-goes_on : goal.returns-in-Err-clause-goes_on
returns-in-Err-clause-goes_on g c = g.met.H.Hall.goes_on_same _

-- nothing stands against it, but its request is refused
pub returns-in-Err-new-clause-does : goal.returns-in-Err-new-clause-does
returns-in-Err-new-clause-does g c = λ facts known.
    (let doer = c.args.self.now in
    let names = c.args.names.now in
    let ready = c.requires.ready in
    let name = c.args.name.now in
    let options = c.args.options.now in
    let these : AreThese doer.context names =
    record { replayed = ready.sound.0.replayed; directory = as_leaves doer names ready.sound.1 ready.sockets } in
    nothing_named doer.party.me doer names (g.H.Hall.state c.args.hall.now)
    (reserving_by c.args.line.now.act c.args.line.now facts (shared_of names)) (answer.BadRequest c.in-Err-new.kind)
    (bad_tree c.args.line.now name c.args.len options c.requires.act doer.party.socket doer.context names these facts known
    ((reservations_agree names.zones.zones name.text c.args.len options).accepted
    (subst (λ (text : List ℕ). IsAcceptable names.zones.zones (asked_for text c.args.len options)) c.as_bytes.ensures.text c.in-Ok.ensures.acceptable))
    c.in-Err-new.kind (sym c.in-Err-new.ensures.refused)))

pub returns-in-Err-new-clause-goes_on : goal.returns-in-Err-new-clause-goes_on
returns-in-Err-new-clause-goes_on g c = g.met.H.Hall.goes_on_same _
