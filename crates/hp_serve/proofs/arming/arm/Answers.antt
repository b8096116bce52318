-- The participant's earlier ask is settled and no growth of it is open, so it may be armed; and nothing is claimed for the new number.
use Rattle.std.proofs.Common.{◌∙◌, ℕ, ap, refl, sym, subst}
use Rattle.std.specs.Prelude.{IsSome}
use Rattle.hp_hall.specs.Holding.{HeapPart}
use Rattle.hp_hall.proofs.HallStates.{did_then}
use Rattle.hp_segs.specs.declared.ask.Ask.{Ask}
use Rattle.hp_serve.specs.AskSteps.{IsArmedAsBefore}
use Rattle.hp_serve.specs.Asking.{HasSettledAsks, ask_of, next_number}
use Rattle.hp_serve.proofs.AskingFacts.AskKnown.{settled_more}
use Rattle.hp_serve.proofs.AskingFacts.Armed.{earlier_settled, may_arm, next_above, none_claimed}
use Rattle.hp_serve.proofs.AskingFacts.AskedAlong.{held_same, held_then, on_err_any}
use Rattle.hp_serve.proofs.SegmentSlots.{Took, gave_parts, put_parts, put_stays, took_has}
use Rattle.hp_serve.proofs.arming.arm.Goals as goal

pub take_segments-segs-requires : goal.take_segments-segs-requires
take_segments-segs-requires g c = record { serves = c.requires.may.serves; home = c.requires.may.home }

pub put_back-requires : goal.put_back-requires
put_back-requires g c =
    let is = c.take_segments-segs.ensures in
    let took : Took c.args.me c.take_segments-segs.result (g.H.Hall.state c.args.hall.now) (g.H.Hall.state c.take_segments-segs.new.hall) =
    record { may = c.requires.may; took = is.took; slots = is.slots; others = is.others; measure = is.measure } in
    record { has = took_has took }

pub arm_taken-requires-clause-has : goal.arm_taken-requires-clause-has
arm_taken-requires-clause-has g c =
    let is = c.take_segments-segs.ensures in
    let took : Took c.args.me c.take_segments-segs.result (g.H.Hall.state c.args.hall.now) (g.H.Hall.state c.take_segments-segs.new.hall) =
    record { may = c.requires.may; took = is.took; slots = is.slots; others = is.others; measure = is.measure } in
    took_has took

pub arm_taken-requires-clause-sound : goal.arm_taken-requires-clause-sound
arm_taken-requires-clause-sound g c = c.take_segments-segs.ensures.took.sound

pub arm_taken-requires-clause-may : goal.arm_taken-requires-clause-may
arm_taken-requires-clause-may g c =
    let me = c.args.me in
    let old = g.H.Hall.state c.args.hall.now in
    let mid = g.H.Hall.state c.take_segments-segs.new.hall in
    let took = c.take_segments-segs.ensures.took in
    let grown = c.take_segments-segs.ensures.others.later.heard me in
    may_arm me (old.part me) (mid.part me) c.take_segments-segs.result (old.heard me) grown.0 (took.asks ∙ grown.1) took.part took.sound
    took.stands c.requires.settled c.ask_of-ask.result (ap (λ (ask : Ask). ask.from) c.ask_of-ask.ensures) c.requires.few

pub arm_taken-requires-clause-holds : goal.arm_taken-requires-clause-holds
arm_taken-requires-clause-holds g c =
    let me = c.args.me in
    let old = g.H.Hall.state c.args.hall.now in
    let mid = g.H.Hall.state c.take_segments-segs.new.hall in
    let its_heap = ap (λ (ask : Ask). ask.heap) c.ask_of-ask.ensures in
    subst (λ holding. IsSome holding)
    (sym (ap (λ (part : HeapPart). part.holding) (c.take_segments-segs.ensures.took.part c.ask_of-ask.result.heap)
    ∙ ap (λ (heap : ℕ). (old.part me heap).holding) its_heap))
    c.requires.holds

-- its earlier ask is settled, by the value or as it knows
pub arm_taken-requires-clause-settled : goal.arm_taken-requires-clause-settled
arm_taken-requires-clause-settled g c =
    let me = c.args.me in
    let old = g.H.Hall.state c.args.hall.now in
    let mid = g.H.Hall.state c.take_segments-segs.new.hall in
    let took = c.take_segments-segs.ensures.took in
    let grown = c.take_segments-segs.ensures.others.later.heard me in
    earlier_settled me (old.part me) (mid.part me) c.take_segments-segs.result (old.heard me) grown.0 (took.asks ∙ grown.1) took.part
    took.sound took.stands c.requires.settled

pub returns-clause-mapped : goal.returns-clause-mapped
returns-clause-mapped g c = c.in_ok-arm_taken.ensures.ok.gave.mapped

pub returns-in_err-arm_taken-clause-mapped : goal.returns-in_err-arm_taken-clause-mapped
returns-in_err-arm_taken-clause-mapped g c = c.in_err-arm_taken.ensures.err.back.gave.mapped

pub returns-in_default-clause-mapped : goal.returns-in_default-clause-mapped
returns-in_default-clause-mapped g c = c.put_back.ensures.back.back.gave.mapped

pub returns-clause-asked : goal.returns-clause-asked
returns-clause-asked g c =
    let me = c.args.me in
    let asked = c.args.asked.now in
    let same = ap (λ (ask : Ask). ask.number) c.ask_of-ask.ensures in
    record {
      is = c.ask_of-ask.ensures ∙ ap (λ number. ask_of me number asked) (sym same);
      number = same ∙ c.in-Some.ensures ∙ ap (λ asks. next_number c.args.before asks me) (c.in_ok-arm_taken.ensures.ok.gave.asks);
    }

pub returns-clause-awaits : goal.returns-clause-awaits
returns-clause-awaits g c =
    let me = c.args.me in
    let ask = c.ask_of-ask.result in
    let segs = c.take_segments-segs.result in
    let old = g.H.Hall.state c.args.hall.now in
    let new = (g.H.Hall.state c.arm_taken.new.hall).part me in
    let took = c.take_segments-segs.ensures.took in
    let from = ap (λ (ask : Ask). ask.from) c.ask_of-ask.ensures in
    let number = ap (λ (ask : Ask). ask.number) c.ask_of-ask.ensures ∙ c.in-Some.ensures in
    let held = c.in_ok-arm_taken.ensures.held in
    record {
      armed = record {
        armed = c.in_ok-arm_taken.ensures.armed;
        unclaimed = none_claimed me ask new segs (λ heap holding is. took.stands.held heap holding (sym (held heap).holding ∙ is)) from
            (next_above c.args.before ask.number _ number);
      };
      holds =
          let its_heap = ap (λ (ask : Ask). ask.heap) c.ask_of-ask.ensures in
          let stays =
          (held ask.heap).holding
          ∙ (ap (λ (part : HeapPart). part.holding) (took.part ask.heap) ∙ ap (λ (heap : ℕ). (old.part me heap).holding) its_heap) in
          subst (λ holding. IsSome holding) (sym stays) c.requires.holds;
    }

pub returns-clause-held : goal.returns-clause-held
returns-clause-held g c = λ heap.
    held_then _ _ _ (held_same _ _ (c.take_segments-segs.ensures.took.part heap)) (c.in_ok-arm_taken.ensures.held heap)

pub returns-clause-did : goal.returns-clause-did
returns-clause-did g c = (
  c.take_segments-segs.result,
  ap (λ (ask : Ask). ask.number) c.ask_of-ask.ensures ∙ c.in-Some.ensures,
  did_then c.take_segments-segs.ensures.took.did c.in_ok-arm_taken.ensures.ok.gave.did,
)

pub returns-clause-stays : goal.returns-clause-stays
returns-clause-stays g c =
    let is = c.take_segments-segs.ensures in
    let took : Took c.args.me c.take_segments-segs.result (g.H.Hall.state c.args.hall.now) (g.H.Hall.state c.take_segments-segs.new.hall) =
    record { may = c.requires.may; took = is.took; slots = is.slots; others = is.others; measure = is.measure } in
    gave_parts took refl c.in_ok-arm_taken.ensures.ok

pub returns-clause-goes_on : goal.returns-clause-goes_on
returns-clause-goes_on g c = g.met.H.Hall.goes_on_then _ _ _ c.take_segments-segs.ensures.goes_on c.in_ok-arm_taken.ensures.goes_on

pub returns-in_err-arm_taken-clause-held : goal.returns-in_err-arm_taken-clause-held
returns-in_err-arm_taken-clause-held g c = λ heap.
    held_then _ _ _ (held_same _ _ (c.take_segments-segs.ensures.took.part heap)) (c.in_err-arm_taken.ensures.held heap)

pub returns-in_err-arm_taken-clause-stays : goal.returns-in_err-arm_taken-clause-stays
returns-in_err-arm_taken-clause-stays g c =
    let is = c.take_segments-segs.ensures in
    let took : Took c.args.me c.take_segments-segs.result (g.H.Hall.state c.args.hall.now) (g.H.Hall.state c.take_segments-segs.new.hall) =
    record { may = c.requires.may; took = is.took; slots = is.slots; others = is.others; measure = is.measure } in
    put_parts took c.in_err-arm_taken.ensures.err

pub returns-in_err-arm_taken-clause-goes_on : goal.returns-in_err-arm_taken-clause-goes_on
returns-in_err-arm_taken-clause-goes_on g c =
    g.met.H.Hall.goes_on_then _ _ _ c.take_segments-segs.ensures.goes_on c.in_err-arm_taken.ensures.goes_on

pub returns-in_default-clause-held : goal.returns-in_default-clause-held
returns-in_default-clause-held g c = λ heap.
    held_same _ _ (c.put_back.ensures.back.parts.part heap ∙ c.take_segments-segs.ensures.took.part heap)

pub returns-in_default-clause-stays : goal.returns-in_default-clause-stays
returns-in_default-clause-stays g c =
    let is = c.take_segments-segs.ensures in
    let took : Took c.args.me c.take_segments-segs.result (g.H.Hall.state c.args.hall.now) (g.H.Hall.state c.take_segments-segs.new.hall) =
    record { may = c.requires.may; took = is.took; slots = is.slots; others = is.others; measure = is.measure } in
    put_parts took c.put_back.ensures.back

pub returns-in_default-clause-goes_on : goal.returns-in_default-clause-goes_on
returns-in_default-clause-goes_on g c =
    g.met.H.Hall.goes_on_then _ _ _ c.take_segments-segs.ensures.goes_on c.put_back.ensures.goes_on

-- where nothing was armed the value went back as it was, and its asks are settled still: it holds what it held, and outcomes follow
pub returns-in_err-arm_taken-clause-err : goal.returns-in_err-arm_taken-clause-err
returns-in_err-arm_taken-clause-err g c =
    let me = c.args.me in
    let old = g.H.Hall.state c.args.hall.now in
    let new = g.H.Hall.state c.arm_taken.new.hall in
    let took = c.take_segments-segs.ensures.took in
    let is = c.take_segments-segs.ensures in
    let its : Took me c.take_segments-segs.result old (g.H.Hall.state c.take_segments-segs.new.hall) =
    record { may = c.requires.may; took = is.took; slots = is.slots; others = is.others; measure = is.measure } in
    let grown = c.take_segments-segs.ensures.others.later.heard me in
    let back = c.in_err-arm_taken.ensures.err in
    let as_before : IsArmedAsBefore me old new = record {
      did = (c.take_segments-segs.result, did_then took.did back.back.gave.did);
      stays = put_stays its back;
      settled = subst (HasSettledAsks (new.part me)) back.back.gave.asks
          (settled_more c.take_segments-segs.result (old.part me) (new.part me) (old.heard me) grown.0 took.sound (took.asks ∙ grown.1)
          (λ heap. ap (λ (part : HeapPart). part.armed) (back.parts.part heap ∙ took.part heap))
          (λ heap. (returns-in_err-arm_taken-clause-held g c heap).holding) c.requires.settled);
    } in
    on_err_any _ _ as_before

pub returns-in_default-clause-err : goal.returns-in_default-clause-err
returns-in_default-clause-err g c =
    let me = c.args.me in
    let old = g.H.Hall.state c.args.hall.now in
    let new = g.H.Hall.state c.put_back.new.hall in
    let took = c.take_segments-segs.ensures.took in
    let grown = c.take_segments-segs.ensures.others.later.heard me in
    let back = c.put_back.ensures.back in
    let is = c.take_segments-segs.ensures in
    let its : Took me c.take_segments-segs.result old (g.H.Hall.state c.take_segments-segs.new.hall) =
    record { may = c.requires.may; took = is.took; slots = is.slots; others = is.others; measure = is.measure } in
    let as_before : IsArmedAsBefore me old new = record {
      did = (c.take_segments-segs.result, did_then took.did back.back.gave.did);
      stays = put_stays its back;
      settled = subst (HasSettledAsks (new.part me)) back.back.gave.asks
          (settled_more c.take_segments-segs.result (old.part me) (new.part me) (old.heard me) grown.0 took.sound (took.asks ∙ grown.1)
          (λ heap. ap (λ (part : HeapPart). part.armed) (back.parts.part heap ∙ took.part heap))
          (λ heap. (returns-in_default-clause-held g c heap).holding) c.requires.settled);
    } in
    as_before
