-- The memzone is found and freed, or there is none of that name.
use Rattle.std.proofs.Common.{◌≡◌, ◌∙◌, ℕ, List, [], ◌∷◌, None, Option, Some, ap, refl, sym, subst}
use Rattle.std.specs.Prelude.{find}
use Rattle.hp_hall.specs.HallState.{HallState}
use Rattle.hp_script.specs.declared.answer.Answer.TheVariants as answer
use Rattle.hp_zone.specs.Zones.{IsFound, IsNotFound, has_name}
use Rattle.hp_zone.specs.declared.names.Names.{Names as NamesView}
use Rattle.hp_zone.specs.declared.zone.Zone.{Zone}
use Rattle.hp_proc.specs.Courses.{searched_heap_at}
use Rattle.hp_proc.specs.Doing.{Doing}
use Rattle.hp_proc.specs.Freeing.{left_of}
use Rattle.hp_proc.specs.Handing.{shared_of}
use Rattle.hp_proc.specs.NamesInHand.{DoesNamed, DoesNamedOnce, HaltsNamed, HaltsNamedOnce, IsReadyNamed}
use Rattle.hp_proc.specs.ParticipantView.{ParticipantView}
use Rattle.hp_proc.specs.SharedNames.{zone_named}
use Rattle.hp_proc.specs.ZoneLines.{freeing_zone}
use Rattle.hp_serve.proofs.AskingFacts.AskedAlong.{on_err_any}
use Rattle.hp_serve.proofs.Carrying.{same_party}
use Rattle.hp_proc.proofs.FoundZones.{looking_agrees}
use Rattle.hp_proc.proofs.HandFacts.NamedBetween.{named_nothing}
use Rattle.hp_proc.proofs.HandFacts.OnceHeld.{once_one}
use Rattle.hp_proc.proofs.participant.Participant.unzone_named.Goals as goal

module _ {me : ℕ} {doer : ParticipantView} {names : NamesView} {state : HallState} (text : List ℕ) (ready : IsReadyNamed me doer names state) where
  zone_is : (zone : Zone) → IsFound names.zones.zones text zone → zone_named text (shared_of names) ≡ Some zone
  zone_is zone found =
      ap (find (has_name text)) (sym ready.sound.0.replayed)
      ∙ (looking_agrees names.zones.zones text).found zone ready.sound.0.apart found

  no_zone : IsNotFound names.zones.zones text → zone_named text (shared_of names) ≡ None
  no_zone none = ap (find (has_name text)) (sym ready.sound.0.replayed) ∙ (looking_agrees names.zones.zones text).none none

pub free_there-requires : goal.free_there-requires
free_there-requires g c = record {
  ready = c.requires.ready;
  found = record { there = c.in-Some.ensures.found.there; named = refl };
}

pub returns-clause-does : goal.returns-clause-does
returns-clause-does g c =
    let doer = c.args.self.now in
    let me = doer.party.me in
    let after = c.free_there.new.self in
    let names = c.args.names.now in
    let given = c.free_there.new.names in
    let a = g.H.Hall.state c.args.hall.now in
    let b = g.H.Hall.state c.free_there.new.hall in
    let zone = c.in-Some.found.now in
    let text = c.args.name.now.text in
    let did : DoesNamed (zone.heap ∷ []) me doer after names given a b (freeing_zone (searched_heap_at doer.context.pools) (Some zone))
    (left_of zone.heap c.in_ok-left.left) = c.in_ok-left.ensures.does in
    subst (λ (found : Option Zone). DoesNamedOnce me doer after names given a b (freeing_zone (searched_heap_at doer.context.pools) found)
    (left_of zone.heap c.in_ok-left.left))
    (sym (zone_is text c.requires.ready zone (subst (λ (text : List ℕ). IsFound names.zones.zones text zone) c.as_bytes.ensures.text
    c.in-Some.ensures.found)))
    (record { does = record { held = zone.heap ∷ []; once = once_one zone.heap; does = did.does }; names = did.names })

pub returns-in_default-clause-does : goal.returns-in_default-clause-does
returns-in_default-clause-does g c =
    let doer = c.args.self.now in
    let me = doer.party.me in
    let names = c.args.names.now in
    let a = g.H.Hall.state c.args.hall.now in
    subst (λ (found : Option Zone). DoesNamedOnce me doer doer names names a a (freeing_zone (searched_heap_at doer.context.pools) found)
    (Doing.Ended answer.NotFound))
    (sym (no_zone c.args.name.now.text c.requires.ready (subst (λ (text : List ℕ). IsNotFound names.zones.zones text) c.as_bytes.ensures.text
    c.in_default.ensures.none)))
    (named_nothing me doer names a (Doing.Ended answer.NotFound))

pub returns-in_default-clause-ready : goal.returns-in_default-clause-ready
returns-in_default-clause-ready g c =
    record { same = same_party c.args.self.now.party; ready = c.requires.ready; context = refl }

pub returns-in_err-left-clause-halts : goal.returns-in_err-left-clause-halts
returns-in_err-left-clause-halts g c =
    let doer = c.args.self.now in
    let me = doer.party.me in
    let after = c.free_there.new.self in
    let names = c.args.names.now in
    let given = c.free_there.new.names in
    let a = g.H.Hall.state c.args.hall.now in
    let b = g.H.Hall.state c.free_there.new.hall in
    let zone = c.in-Some.found.now in
    let did : HaltsNamed (zone.heap ∷ []) me doer after names given a b (freeing_zone (searched_heap_at doer.context.pools) (Some zone)) =
    c.in_err-left.ensures.halts in
    let halts : HaltsNamedOnce me doer after names given a b
    (freeing_zone (searched_heap_at doer.context.pools) (zone_named c.args.name.now.text (shared_of names))) =
    subst (λ (found : Option Zone). HaltsNamedOnce me doer after names given a b (freeing_zone (searched_heap_at doer.context.pools) found))
    (sym (zone_is c.args.name.now.text c.requires.ready zone
    (subst (λ (text : List ℕ). IsFound names.zones.zones text zone) c.as_bytes.ensures.text c.in-Some.ensures.found)))
    (record { heaps = zone.heap ∷ []; once = once_one zone.heap; halts = did }) in
    on_err_any _ _ halts

pub returns-in_default-clause-goes_on : goal.returns-in_default-clause-goes_on
returns-in_default-clause-goes_on g c = g.met.H.Hall.goes_on_same _
