-- What stands for the ask is found, and a grant is claimed.
use Rattle.std.proofs.Common.{◌≡◌, ◌∙◌, ℕ, [], ◌∷◌, Some, None, refl, ap, sym}
use Rattle.hp_hall.proofs.AsksOfHalls.ClaimPuts.{claim_puts}
use Rattle.hp_hall.proofs.StandingFacts.StandingBrings.{claim_brings}
use Rattle.hp_hall.proofs.StandingFacts.StandingClaims.{claim_leaves_others}
use Rattle.hp_hall.proofs.StandingFacts.StandingGrowths.{claimed_can_grow}
use Rattle.hp_hall.proofs.HallStates.{did_then}
use Rattle.hp_segs.specs.SegsView.{grants_or_refuses, is_member}
use Rattle.hp_serve.specs.Serving.{gives_segments, takes_segments}
use Rattle.hp_serve.proofs.AskingFacts.AskLooks.{any_of_found, grant_or_refusal_stands, grants_none, none_stands, settles_at}
use Rattle.hp_serve.proofs.AskingFacts.AskOutcomes.{can_claim}
use Rattle.hp_serve.proofs.AskingFacts.AskSettled.{claim_asks, claim_log, claim_roster, claim_settles, claims_nothing, refusal_settles, unheld_stay}
use Rattle.hp_serve.proofs.AskingFacts.AskedAlong.{awaits_along, settles_along}
use Rattle.hp_serve.proofs.SegmentSlots.{Took, gave_parts, put_parts, took_has, took_serves}
use Rattle.hp_serve.proofs.settling.look.Goals as goal

pub take_segments-segs-requires : goal.take_segments-segs-requires
take_segments-segs-requires g c = record { serves = c.requires.may.serves; home = c.requires.may.home }

pub claim_taken-run-requires-clause-serves : goal.claim_taken-run-requires-clause-serves
claim_taken-run-requires-clause-serves g c =
    let is = c.take_segments-segs.ensures in
    let took : Took c.args.ask.now.from c.take_segments-segs.result (g.H.Hall.state c.args.hall.now) (g.H.Hall.state c.take_segments-segs.new.hall) =
    record { may = c.requires.may; took = is.took; slots = is.slots; others = is.others; measure = is.measure } in
    took_serves took

pub claim_taken-run-requires-clause-taken : goal.claim_taken-run-requires-clause-taken
claim_taken-run-requires-clause-taken g c = c.take_segments-segs.ensures.took.taken

pub put_back-requires : goal.put_back-requires
put_back-requires g c =
    let is = c.take_segments-segs.ensures in
    let took : Took c.args.ask.now.from c.take_segments-segs.result (g.H.Hall.state c.args.hall.now) (g.H.Hall.state c.take_segments-segs.new.hall) =
    record { may = c.requires.may; took = is.took; slots = is.slots; others = is.others; measure = is.measure } in
    record { has = took_has took }

pub put_back-requires-in-None : goal.put_back-requires-in-None
put_back-requires-in-None g c =
    let is = c.take_segments-segs.ensures in
    let took : Took c.args.ask.now.from c.take_segments-segs.result (g.H.Hall.state c.args.hall.now) (g.H.Hall.state c.take_segments-segs.new.hall) =
    record { may = c.requires.may; took = is.took; slots = is.slots; others = is.others; measure = is.measure } in
    record { has = took_has took }

pub claim_taken-run-requires-clause-granted : goal.claim_taken-run-requires-clause-granted
claim_taken-run-requires-clause-granted g c =
    let ask = c.args.ask.now in
    let mid = (g.H.Hall.state c.take_segments-segs.new.hall).part ask.from in
    let segs = c.take_segments-segs.result in
    let awaits =
    awaits_along ask ((g.H.Hall.state c.args.hall.now).part ask.from) mid c.take_segments-segs.ensures.took.part
    c.requires.awaits in
    let stands =
    grant_or_refusal_stands segs.asks ask.from ask.number _ (sym c.in-Some-Granted.ensures.first ∙ ap Some c.in-Some-Granted.field-0-is) in
    can_claim ask mid segs c.take_segments-segs.ensures.took.sound c.take_segments-segs.ensures.took.stands awaits stands.entry stands.found _
    stands.is

pub claim_taken-run-requires-clause-held : goal.claim_taken-run-requires-clause-held
claim_taken-run-requires-clause-held g c =
    let ask = c.args.ask.now in
    let mid = (g.H.Hall.state c.take_segments-segs.new.hall).part ask.from in
    let segs = c.take_segments-segs.result in
    let awaits =
    awaits_along ask ((g.H.Hall.state c.args.hall.now).part ask.from) mid c.take_segments-segs.ensures.took.part
    c.requires.awaits in
    let stands =
    grant_or_refusal_stands segs.asks ask.from ask.number _ (sym c.in-Some-Granted.ensures.first ∙ ap Some c.in-Some-Granted.field-0-is) in
    unheld_stay ask mid segs c.take_segments-segs.ensures.took.sound c.take_segments-segs.ensures.took.stands awaits stands.entry stands.found _
    stands.is
    claim_leaves_others

pub returns-in-Some-Granted-clause-found : goal.returns-in-Some-Granted-clause-found
returns-in-Some-Granted-clause-found g c =
    let ask = c.args.ask.now in
    let old = (g.H.Hall.state c.args.hall.now).part ask.from in
    let mid = (g.H.Hall.state c.take_segments-segs.new.hall).part ask.from in
    let new = (g.H.Hall.state c.claim_taken-run.new.hall).part ask.from in
    let segs = c.take_segments-segs.result in
    let same : (heap : ℕ) → mid heap ≡ old heap = c.take_segments-segs.ensures.took.part in
    let awaits = awaits_along ask old mid same c.requires.awaits in
    let stands =
    grant_or_refusal_stands segs.asks ask.from ask.number _ (sym c.in-Some-Granted.ensures.first ∙ ap Some c.in-Some-Granted.field-0-is) in
    settles_along _ _ ask old mid new _ same
    (settles_at segs.log _ segs.asks _ ask mid new _
    (sym c.claim_taken-run.ensures.back.gave.log ∙ claim_log ask.from ask.number segs)
    (sym c.claim_taken-run.ensures.back.gave.asks ∙ claim_asks ask.from ask.number segs)
    (claim_settles ask mid segs c.take_segments-segs.ensures.took.sound c.take_segments-segs.ensures.took.stands awaits stands.entry stands.found
    _ stands.is
    claim_leaves_others claim_puts claim_brings claimed_can_grow c.claim_taken-run.result c.claim_taken-run.ensures.run new
    c.claim_taken-run.ensures.back.gave.part))

pub returns-in-Some-Granted-clause-did : goal.returns-in-Some-Granted-clause-did
returns-in-Some-Granted-clause-did g c =
    let ask = c.args.ask.now in
    let segs = c.take_segments-segs.result in
    let stands =
    grant_or_refusal_stands segs.asks ask.from ask.number _ (sym c.in-Some-Granted.ensures.first ∙ ap Some c.in-Some-Granted.field-0-is) in (
      _,
      did_then c.take_segments-segs.ensures.took.did c.claim_taken-run.ensures.back.gave.did,
      record {
        taken = segs;
        found = any_of_found (grants_or_refuses ask.from ask.number) segs.asks stands.entry stands.found;
        are = refl;
      },
    )

pub returns-in-Some-Refused-clause-found : goal.returns-in-Some-Refused-clause-found
returns-in-Some-Refused-clause-found g c =
    let ask = c.args.ask.now in
    let old = (g.H.Hall.state c.args.hall.now).part ask.from in
    let mid = (g.H.Hall.state c.take_segments-segs.new.hall).part ask.from in
    let new = (g.H.Hall.state c.put_back.new.hall).part ask.from in
    let segs = c.take_segments-segs.result in
    let same : (heap : ℕ) → mid heap ≡ old heap = c.take_segments-segs.ensures.took.part in
    let awaits = awaits_along ask old mid same c.requires.awaits in
    let stands =
    grant_or_refusal_stands segs.asks ask.from ask.number _ (sym c.in-Some-Refused.ensures.first ∙ ap Some c.in-Some-Refused.field-0-is) in
    settles_along _ _ ask old mid new None same
    (settles_at segs.log _ segs.asks _ ask mid new None (sym c.put_back.ensures.back.back.gave.log)
    (sym c.put_back.ensures.back.back.gave.asks)
    (refusal_settles ask mid segs c.take_segments-segs.ensures.took.sound c.take_segments-segs.ensures.took.stands awaits stands.entry
    stands.found _ stands.is
    new c.put_back.ensures.back.parts.part))

pub returns-in-Some-Refused-clause-did : goal.returns-in-Some-Refused-clause-did
returns-in-Some-Refused-clause-did g c =
    let ask = c.args.ask.now in
    let segs = c.take_segments-segs.result in
    let stands =
    grant_or_refusal_stands segs.asks ask.from ask.number _ (sym c.in-Some-Refused.ensures.first ∙ ap Some c.in-Some-Refused.field-0-is) in (
      _,
      did_then c.take_segments-segs.ensures.took.did c.put_back.ensures.back.back.gave.did,
      record {
        taken = segs;
        found = any_of_found (grants_or_refuses ask.from ask.number) segs.asks stands.entry stands.found;
        are = ap (λ given. takes_segments segs ∷ gives_segments given ∷ [])
            (sym (claims_nothing ask.from ask.number segs (grants_none segs ask.from ask.number _ stands)));
      },
    )

pub returns-in-None-clause-did : goal.returns-in-None-clause-did
returns-in-None-clause-did g c = (
  _,
  did_then c.take_segments-segs.ensures.took.did c.put_back-in-None.ensures.back.back.gave.did,
  record { taken = c.take_segments-segs.result; found = none_stands c.take_segments-segs.result.asks c.args.ask.now.from c.args.ask.now.number (sym c.in-None.ensures.first); are = refl },
)

pub returns-in-None-clause-goes_on : goal.returns-in-None-clause-goes_on
returns-in-None-clause-goes_on g c =
    g.met.H.Hall.goes_on_then _ _ _ c.take_segments-segs.ensures.goes_on c.put_back-in-None.ensures.goes_on

pub returns-in-Some-Granted-clause-stays : goal.returns-in-Some-Granted-clause-stays
returns-in-Some-Granted-clause-stays g c =
    let ask = c.args.ask.now in
    let is = c.take_segments-segs.ensures in
    let took : Took ask.from c.take_segments-segs.result (g.H.Hall.state c.args.hall.now) (g.H.Hall.state c.take_segments-segs.new.hall) =
    record { may = c.requires.may; took = is.took; slots = is.slots; others = is.others; measure = is.measure } in
    gave_parts took (ap (λ roster. is_member roster ask.from) (claim_roster ask.from ask.number c.take_segments-segs.result))
    c.claim_taken-run.ensures.back

pub returns-in-Some-Granted-clause-goes_on : goal.returns-in-Some-Granted-clause-goes_on
returns-in-Some-Granted-clause-goes_on g c =
    g.met.H.Hall.goes_on_then _ _ _ c.take_segments-segs.ensures.goes_on c.claim_taken-run.ensures.goes_on

pub returns-in-Some-Refused-clause-stays : goal.returns-in-Some-Refused-clause-stays
returns-in-Some-Refused-clause-stays g c =
    let is = c.take_segments-segs.ensures in
    let took : Took c.args.ask.now.from c.take_segments-segs.result (g.H.Hall.state c.args.hall.now) (g.H.Hall.state c.take_segments-segs.new.hall) =
    record { may = c.requires.may; took = is.took; slots = is.slots; others = is.others; measure = is.measure } in
    put_parts took c.put_back.ensures.back

pub returns-in-Some-Refused-clause-goes_on : goal.returns-in-Some-Refused-clause-goes_on
returns-in-Some-Refused-clause-goes_on g c =
    g.met.H.Hall.goes_on_then _ _ _ c.take_segments-segs.ensures.goes_on c.put_back.ensures.goes_on

pub returns-in-None-clause-found : goal.returns-in-None-clause-found
returns-in-None-clause-found g c = λ heap.
    c.put_back-in-None.ensures.back.parts.part heap ∙ c.take_segments-segs.ensures.took.part heap

pub returns-in-None-clause-stays : goal.returns-in-None-clause-stays
returns-in-None-clause-stays g c =
    let is = c.take_segments-segs.ensures in
    let took : Took c.args.ask.now.from c.take_segments-segs.result (g.H.Hall.state c.args.hall.now) (g.H.Hall.state c.take_segments-segs.new.hall) =
    record { may = c.requires.may; took = is.took; slots = is.slots; others = is.others; measure = is.measure } in
    put_parts took c.put_back-in-None.ensures.back
