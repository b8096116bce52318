-- A grant is claimed, a refusal stands, and else the ask is taken back.
use Rattle.std.proofs.Common.{◌≡◌, ◌∙◌, ℕ, [], ◌∷◌, Some, None, ap, sym, subst}
use Rattle.hp_hall.proofs.StandingFacts.StandingArms.{withdraw_keeps}
use Rattle.hp_hall.proofs.AsksOfHalls.ClaimPuts.{claim_puts}
use Rattle.hp_hall.proofs.StandingFacts.StandingBrings.{claim_brings}
use Rattle.hp_hall.proofs.StandingFacts.StandingClaims.{claim_leaves_others}
use Rattle.hp_hall.proofs.StandingFacts.StandingGrowths.{claimed_can_grow}
use Rattle.hp_hall.proofs.StandingFacts.StandingMoves.{log_calls_leave}
use Rattle.hp_hall.specs.Giving.{GivesSegments}
use Rattle.hp_hall.specs.HallState.{Did, known_to}
use Rattle.hp_hall.specs.Holding.{part_after}
use Rattle.hp_segs.specs.Standing.{standing_of}
use Rattle.hp_hall.specs.declared.kept.Kept.TheVariants.{Segments}
use Rattle.hp_hall.proofs.HallStates.{did_then}
use Rattle.hp_segs.specs.Calls.{IsUnclaimedGrant}
use Rattle.hp_segs.specs.SegsView.{SegsView, is_member}
use Rattle.hp_segs.specs.Steps.{after_claim, claimed_run}
use Rattle.hp_serve.specs.SegmentSlot.{HasSegs}
use Rattle.hp_serve.specs.Serving.{gives_segments}
use Rattle.hp_serve.proofs.AskingFacts.AskLooks.{closing_granted, closing_refused, closing_withdrawn, grant_or_refusal_stands, grants_none, settles_at}
use Rattle.hp_serve.proofs.AskingFacts.AskOutcomes.{can_claim}
use Rattle.hp_serve.proofs.AskingFacts.AskSettled.{claim_asks, claim_log, claim_roster, claim_settles, claims_nothing, refusal_settles, unheld_stay}
use Rattle.hp_serve.proofs.AskingFacts.AskWithdrawn.{is_refused_last, last_grants_none, may_withdraw, stands_as_it_was, withdraw_gives, withdrawal_settles}
use Rattle.hp_serve.proofs.AskingFacts.AskedAlong.{awaits_along, settles_along}
use Rattle.hp_serve.proofs.AskingFacts.Noting.{gives_in_place}
use Rattle.hp_serve.proofs.SegmentSlots.{Took, gave_parts, put_parts, took_has, took_serves}
use Rattle.hp_serve.proofs.settling.settle.Goals as goal

pub take_segments-segs-requires : goal.take_segments-segs-requires
take_segments-segs-requires g c = record { serves = c.requires.may.serves; home = c.requires.may.home }

pub claim_taken-run-requires-clause-serves : goal.claim_taken-run-requires-clause-serves
claim_taken-run-requires-clause-serves g c =
    let is = c.take_segments-segs.ensures in
    let took : Took c.args.ask.now.from c.take_segments-segs.result (g.H.Hall.state c.args.hall.now) (g.H.Hall.state c.take_segments-segs.new.hall) =
    record { may = c.requires.may; took = is.took; slots = is.slots; others = is.others; measure = is.measure } in
    took_serves took

pub claim_taken-run-requires-clause-taken : goal.claim_taken-run-requires-clause-taken
claim_taken-run-requires-clause-taken g c =
    let ask = c.args.ask.now in
    let segs = c.take_segments-segs.result in
    let stood = closing_granted segs.asks ask.from ask.number (sym c.in-Granted.ensures.answer) in
    c.take_segments-segs.ensures.took.taken
    ∙ ap (λ (segs : SegsView). Some (Segments segs))
    (sym (c.in-Granted.ensures.step ∙ stands_as_it_was segs ask.from ask.number c.args.since c.args.now _ stood.1))

pub give_back-requires-clause-serves : goal.give_back-requires-clause-serves
give_back-requires-clause-serves g c =
    let is = c.take_segments-segs.ensures in
    let took : Took c.args.ask.now.from c.take_segments-segs.result (g.H.Hall.state c.args.hall.now) (g.H.Hall.state c.take_segments-segs.new.hall) =
    record { may = c.requires.may; took = is.took; slots = is.slots; others = is.others; measure = is.measure } in
    took_serves took

pub claim_taken-run-requires-clause-granted : goal.claim_taken-run-requires-clause-granted
claim_taken-run-requires-clause-granted g c =
    let ask = c.args.ask.now in
    let mid = (g.H.Hall.state c.take_segments-segs.new.hall).part ask.from in
    let segs = c.take_segments-segs.result in
    let awaits =
    awaits_along ask ((g.H.Hall.state c.args.hall.now).part ask.from) mid c.take_segments-segs.ensures.took.part
    c.requires.awaits in
    let stood = closing_granted segs.asks ask.from ask.number (sym c.in-Granted.ensures.answer) in
    let stands = grant_or_refusal_stands segs.asks ask.from ask.number _ stood.1 in
    let as_it_was = c.in-Granted.ensures.step ∙ stands_as_it_was segs ask.from ask.number c.args.since c.args.now _ stood.1 in
    subst (IsUnclaimedGrant ask.from ask.number) (sym as_it_was)
    (can_claim ask mid segs c.take_segments-segs.ensures.took.sound c.take_segments-segs.ensures.took.stands awaits stands.entry stands.found _
    stands.is)

pub claim_taken-run-requires-clause-held : goal.claim_taken-run-requires-clause-held
claim_taken-run-requires-clause-held g c = λ heap none.
    let ask = c.args.ask.now in
    let mid = (g.H.Hall.state c.take_segments-segs.new.hall).part ask.from in
    let segs = c.take_segments-segs.result in
    let awaits =
    awaits_along ask ((g.H.Hall.state c.args.hall.now).part ask.from) mid c.take_segments-segs.ensures.took.part
    c.requires.awaits in
    let stood = closing_granted segs.asks ask.from ask.number (sym c.in-Granted.ensures.answer) in
    let stands = grant_or_refusal_stands segs.asks ask.from ask.number _ stood.1 in
    let as_it_was = c.in-Granted.ensures.step ∙ stands_as_it_was segs ask.from ask.number c.args.since c.args.now _ stood.1 in
    subst (λ (segs : SegsView). standing_of heap (after_claim ask.from ask.number segs) ≡ standing_of heap segs) (sym as_it_was)
    (unheld_stay ask mid segs c.take_segments-segs.ensures.took.sound c.take_segments-segs.ensures.took.stands awaits stands.entry stands.found _
    stands.is
    claim_leaves_others heap none)

pub put_back-requires : goal.put_back-requires
put_back-requires g c =
    let ask = c.args.ask.now in
    let segs = c.take_segments-segs.result in
    let stood = closing_refused segs.asks ask.from ask.number _ (sym c.in-Refused.ensures.answer) in
    let is = c.take_segments-segs.ensures in
    let took : Took ask.from c.take_segments-segs.result (g.H.Hall.state c.args.hall.now) (g.H.Hall.state c.take_segments-segs.new.hall) =
    record { may = c.requires.may; took = is.took; slots = is.slots; others = is.others; measure = is.measure } in
    record {
      has = subst (λ (segs : SegsView). HasSegs ask.from segs (g.H.Hall.state c.take_segments-segs.new.hall))
          (sym (c.in-Refused.ensures.step ∙ stands_as_it_was segs ask.from ask.number c.args.since c.args.now _ stood.1)) (took_has took);
    }

pub give_back-requires-clause-gives : goal.give_back-requires-clause-gives
give_back-requires-clause-gives g c =
    let ask = c.args.ask.now in
    let mid = g.H.Hall.state c.take_segments-segs.new.hall in
    let segs = c.take_segments-segs.result in
    let awaits =
    awaits_along ask ((g.H.Hall.state c.args.hall.now).part ask.from) (mid.part ask.from)
    c.take_segments-segs.ensures.took.part
    c.requires.awaits in
    let none = closing_withdrawn segs.asks ask.from ask.number (sym c.in-Withdrawn.ensures.answer) in
    let knows = known_to ask.from mid in
    gives_in_place knows segs c.withdraw.new.self c.take_segments-segs.ensures.took.taken
    (subst (GivesSegments knows segs) (sym c.in-Withdrawn.ensures.step)
    (withdraw_gives knows segs ask.from ask.number c.args.since c.args.now withdraw_keeps c.take_segments-segs.ensures.took.sound
    (may_withdraw ask (mid.part ask.from) segs c.take_segments-segs.ensures.took.sound c.take_segments-segs.ensures.took.stands awaits
    c.requires.few)
    none))

pub returns-in-Granted-clause-settles : goal.returns-in-Granted-clause-settles
returns-in-Granted-clause-settles g c =
    let ask = c.args.ask.now in
    let old = (g.H.Hall.state c.args.hall.now).part ask.from in
    let mid = (g.H.Hall.state c.take_segments-segs.new.hall).part ask.from in
    let new = (g.H.Hall.state c.claim_taken-run.new.hall).part ask.from in
    let segs = c.take_segments-segs.result in
    let same : (heap : ℕ) → mid heap ≡ old heap = c.take_segments-segs.ensures.took.part in
    let awaits = awaits_along ask old mid same c.requires.awaits in
    let stood = closing_granted segs.asks ask.from ask.number (sym c.in-Granted.ensures.answer) in
    let stands = grant_or_refusal_stands segs.asks ask.from ask.number _ stood.1 in
    let as_it_was = c.in-Granted.ensures.step ∙ stands_as_it_was segs ask.from ask.number c.args.since c.args.now _ stood.1 in
    settles_along _ _ ask old mid new _ same
    (settles_at segs.log _ segs.asks _ ask mid new _
    (sym c.claim_taken-run.ensures.back.gave.log ∙ (claim_log ask.from ask.number c.withdraw.new.self ∙ ap (λ (segs : SegsView). segs.log) as_it_was))
    (sym c.claim_taken-run.ensures.back.gave.asks ∙ (claim_asks ask.from ask.number c.withdraw.new.self ∙ ap (λ (segs : SegsView). segs.asks) as_it_was))
    (claim_settles ask mid segs c.take_segments-segs.ensures.took.sound c.take_segments-segs.ensures.took.stands awaits stands.entry stands.found
    _ stands.is
    claim_leaves_others claim_puts claim_brings claimed_can_grow c.claim_taken-run.result
    (subst (λ (segs : SegsView). Some c.claim_taken-run.result ≡ claimed_run ask.from ask.number segs) as_it_was
    c.claim_taken-run.ensures.run) new
    (subst (λ (segs : SegsView). (heap : ℕ) → new heap ≡ part_after ask.from (after_claim ask.from ask.number segs) heap (mid heap))
    as_it_was
    c.claim_taken-run.ensures.back.gave.part)))

pub returns-in-Granted-clause-did : goal.returns-in-Granted-clause-did
returns-in-Granted-clause-did g c =
    let ask = c.args.ask.now in (
      c.take_segments-segs.result,
      did_then c.take_segments-segs.ensures.took.did
          (subst (λ given. Did ask.from (gives_segments (after_claim ask.from ask.number given) ∷ []) (g.H.Hall.state c.take_segments-segs.new.hall) (g.H.Hall.state c.claim_taken-run.new.hall)) c.in-Granted.ensures.step c.claim_taken-run.ensures.back.gave.did),
    )

pub returns-in-Refused-clause-settles : goal.returns-in-Refused-clause-settles
returns-in-Refused-clause-settles g c =
    let ask = c.args.ask.now in
    let old = (g.H.Hall.state c.args.hall.now).part ask.from in
    let mid = (g.H.Hall.state c.take_segments-segs.new.hall).part ask.from in
    let new = (g.H.Hall.state c.put_back.new.hall).part ask.from in
    let segs = c.take_segments-segs.result in
    let same : (heap : ℕ) → mid heap ≡ old heap = c.take_segments-segs.ensures.took.part in
    let awaits = awaits_along ask old mid same c.requires.awaits in
    let stood = closing_refused segs.asks ask.from ask.number _ (sym c.in-Refused.ensures.answer) in
    let stands = grant_or_refusal_stands segs.asks ask.from ask.number _ stood.1 in
    let as_it_was = c.in-Refused.ensures.step ∙ stands_as_it_was segs ask.from ask.number c.args.since c.args.now _ stood.1 in
    settles_along _ _ ask old mid new None same
    (settles_at segs.log _ segs.asks _ ask mid new None
    (sym c.put_back.ensures.back.back.gave.log ∙ ap (λ (segs : SegsView). segs.log) as_it_was)
    (sym c.put_back.ensures.back.back.gave.asks ∙ ap (λ (segs : SegsView). segs.asks) as_it_was)
    (refusal_settles ask mid segs c.take_segments-segs.ensures.took.sound c.take_segments-segs.ensures.took.stands awaits stands.entry
    stands.found _ stands.is
    new c.put_back.ensures.back.parts.part))

pub returns-in-Refused-clause-did : goal.returns-in-Refused-clause-did
returns-in-Refused-clause-did g c =
    let ask = c.args.ask.now in
    let segs = c.take_segments-segs.result in
    let stood = closing_refused segs.asks ask.from ask.number _ (sym c.in-Refused.ensures.answer) in
    let stands = grant_or_refusal_stands segs.asks ask.from ask.number _ stood.1 in
    let still = stands_as_it_was segs ask.from ask.number c.args.since c.args.now _ stood.1 in
    let given =
    c.in-Refused.ensures.step ∙ (still ∙ (sym (claims_nothing ask.from ask.number segs (grants_none segs ask.from ask.number _ stands))
    ∙ ap (after_claim ask.from ask.number) (sym still))) in (
      segs,
      did_then c.take_segments-segs.ensures.took.did
          (subst (λ given. Did ask.from (gives_segments given ∷ []) (g.H.Hall.state c.take_segments-segs.new.hall) (g.H.Hall.state c.put_back.new.hall)) given
          c.put_back.ensures.back.back.gave.did),
    )

pub returns-in-Withdrawn-clause-settles : goal.returns-in-Withdrawn-clause-settles
returns-in-Withdrawn-clause-settles g c =
    let ask = c.args.ask.now in
    let old = (g.H.Hall.state c.args.hall.now).part ask.from in
    let mid = (g.H.Hall.state c.take_segments-segs.new.hall).part ask.from in
    let new = (g.H.Hall.state c.give_back.new.hall).part ask.from in
    let segs = c.take_segments-segs.result in
    let same : (heap : ℕ) → mid heap ≡ old heap = c.take_segments-segs.ensures.took.part in
    let awaits = awaits_along ask old mid same c.requires.awaits in
    let none = closing_withdrawn segs.asks ask.from ask.number (sym c.in-Withdrawn.ensures.answer) in
    let step = c.in-Withdrawn.ensures.step in
    settles_along _ _ ask old mid new None same
    (settles_at _ _ _ _ ask mid new None
    (sym c.give_back.ensures.back.gave.log ∙ ap (λ (segs : SegsView). segs.log) step)
    (sym c.give_back.ensures.back.gave.asks ∙ ap (λ (segs : SegsView). segs.asks) step)
    (withdrawal_settles ask mid segs c.take_segments-segs.ensures.took.sound c.take_segments-segs.ensures.took.stands awaits c.requires.few
    c.args.since
    c.args.now log_calls_leave none new
    (subst (λ (segs : SegsView). (heap : ℕ) → new heap ≡ part_after ask.from segs heap (mid heap)) step c.give_back.ensures.back.gave.part)))

pub returns-in-Withdrawn-clause-did : goal.returns-in-Withdrawn-clause-did
returns-in-Withdrawn-clause-did g c =
    let ask = c.args.ask.now in
    let segs = c.take_segments-segs.result in
    let none = closing_withdrawn segs.asks ask.from ask.number (sym c.in-Withdrawn.ensures.answer) in
    let last = is_refused_last segs ask.from ask.number c.args.since c.args.now none in
    let given =
    c.in-Withdrawn.ensures.step
    ∙ sym (claims_nothing ask.from ask.number _ (last_grants_none segs _ ask.from ask.number none last)) in (
      segs,
      did_then c.take_segments-segs.ensures.took.did
          (subst (λ given. Did ask.from (gives_segments given ∷ []) (g.H.Hall.state c.take_segments-segs.new.hall) (g.H.Hall.state c.give_back.new.hall)) given
          c.give_back.ensures.back.gave.did),
    )

pub returns-in-Granted-clause-stays : goal.returns-in-Granted-clause-stays
returns-in-Granted-clause-stays g c =
    let ask = c.args.ask.now in
    let segs = c.take_segments-segs.result in
    let stood = closing_granted segs.asks ask.from ask.number (sym c.in-Granted.ensures.answer) in
    let as_it_was = c.in-Granted.ensures.step ∙ stands_as_it_was segs ask.from ask.number c.args.since c.args.now _ stood.1 in
    let is = c.take_segments-segs.ensures in
    let took : Took ask.from c.take_segments-segs.result (g.H.Hall.state c.args.hall.now) (g.H.Hall.state c.take_segments-segs.new.hall) =
    record { may = c.requires.may; took = is.took; slots = is.slots; others = is.others; measure = is.measure } in
    gave_parts took
    (ap (λ roster. is_member roster ask.from) (claim_roster ask.from ask.number c.withdraw.new.self)
    ∙ ap (λ (segs : SegsView). is_member segs.roster ask.from) as_it_was)
    c.claim_taken-run.ensures.back

pub returns-in-Refused-clause-stays : goal.returns-in-Refused-clause-stays
returns-in-Refused-clause-stays g c =
    let is = c.take_segments-segs.ensures in
    let took : Took c.args.ask.now.from c.take_segments-segs.result (g.H.Hall.state c.args.hall.now) (g.H.Hall.state c.take_segments-segs.new.hall) =
    record { may = c.requires.may; took = is.took; slots = is.slots; others = is.others; measure = is.measure } in
    put_parts took c.put_back.ensures.back

pub returns-in-Withdrawn-clause-stays : goal.returns-in-Withdrawn-clause-stays
returns-in-Withdrawn-clause-stays g c =
    let ask = c.args.ask.now in
    let segs = c.take_segments-segs.result in
    let none = closing_withdrawn segs.asks ask.from ask.number (sym c.in-Withdrawn.ensures.answer) in
    let last = is_refused_last segs ask.from ask.number c.args.since c.args.now none in
    let is = c.take_segments-segs.ensures in
    let took : Took ask.from c.take_segments-segs.result (g.H.Hall.state c.args.hall.now) (g.H.Hall.state c.take_segments-segs.new.hall) =
    record { may = c.requires.may; took = is.took; slots = is.slots; others = is.others; measure = is.measure } in
    gave_parts took
    (ap (λ (segs : SegsView). is_member segs.roster ask.from) c.in-Withdrawn.ensures.step ∙ ap (λ roster. is_member roster ask.from) last.roster)
    c.give_back.ensures.back

pub returns-in-Granted-clause-goes_on : goal.returns-in-Granted-clause-goes_on
returns-in-Granted-clause-goes_on g c =
    g.met.H.Hall.goes_on_then _ _ _ c.take_segments-segs.ensures.goes_on c.claim_taken-run.ensures.goes_on

pub returns-in-Refused-clause-goes_on : goal.returns-in-Refused-clause-goes_on
returns-in-Refused-clause-goes_on g c =
    g.met.H.Hall.goes_on_then _ _ _ c.take_segments-segs.ensures.goes_on c.put_back.ensures.goes_on

pub returns-in-Withdrawn-clause-goes_on : goal.returns-in-Withdrawn-clause-goes_on
returns-in-Withdrawn-clause-goes_on g c =
    g.met.H.Hall.goes_on_then _ _ _ c.take_segments-segs.ensures.goes_on c.give_back.ensures.goes_on
