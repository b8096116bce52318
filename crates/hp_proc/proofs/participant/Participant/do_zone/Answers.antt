-- The names are taken, the reservation is judged and served with them in hand, and they go back as it leaves them.
use Rattle.std.proofs.Common.{rules, ◌∙◌, ℕ, ap, sym, subst, arith}
use Rattle.hp_hall.specs.HallCalls.{HasGiven}
use Rattle.hp_hall.specs.HallState.{OthersStay}
use Rattle.hp_hall.specs.declared.kept.Kept.TheVariants.{Names}
use Rattle.hp_hall.specs.declared.slot.TheConstants.{NAMES_SLOT}
use Rattle.hp_script.specs.declared.line.Act.TheVariants as act
use Rattle.hp_serve.proofs.AskingFacts.AskedAlong.{on_err_any}
use Rattle.hp_serve.proofs.Carrying.{same_then}
use Rattle.hp_proc.specs.Contexts.{AreFactsOf, Context}
use Rattle.hp_proc.specs.Doing.{Doing}
use Rattle.hp_proc.specs.Handing.{shared_of}
use Rattle.hp_proc.specs.LineInHall.{DoesLineHere, IsKnownMapped, IsMapped}
use Rattle.hp_proc.specs.Lines.{Facts}
use Rattle.hp_proc.specs.NamesInHand.{DoesNamedOnce, HaltsNamedOnce, IsReadyNamed, MayGiveNames}
use Rattle.hp_proc.specs.ZonesInHand.{reserving_by}
use Rattle.hp_proc.proofs.AddressLies.{lies_in_table}
use Rattle.hp_proc.proofs.LinesNamed.{line_named, line_stopped}
use Rattle.hp_proc.proofs.NamesAround.{may_give, named_ready, ready_around}
use Rattle.hp_proc.proofs.ZoneDone.{err_by, ok_by, zone_facts, zone_known, zone_may, zone_not, zone_still, zone_tree}
use Rattle.hp_proc.proofs.participant.Participant.do_zone.Goals as goal

pub reserve_named-given-requires-clause-ready : goal.reserve_named-given-requires-clause-ready
reserve_named-given-requires-clause-ready g c =
    let held = c.in_ok-names.ensures.held in
    subst (λ (who : ℕ). IsReadyNamed who c.take_names.new.self c.in_ok-names.names (g.H.Hall.state c.take_names.new.hall)) (sym held.same.me)
    (named_ready held)

pub give_names-requires : goal.give_names-requires
give_names-requires g c =
    let called = c.reserve_named-given.ensures.ready in
    record {
      may = subst (λ (who : ℕ). MayGiveNames who c.reserve_named-given.new.self c.reserve_named-given.new.names
          (g.H.Hall.state c.reserve_named-given.new.hall)) (sym called.same.me) (may_give called.ready);
    }

pub returns : goal.returns
returns g c =
    let held = c.in_ok-names.ensures.held in
    let called = c.reserve_named-given.ensures.ready in
    let doer = c.args.self.now in
    let me = doer.party.me in
    let mid = c.take_names.new.self in
    let new = c.reserve_named-given.new.self in
    let from = g.H.Hall.state c.args.hall.now in
    let at = g.H.Hall.state c.take_names.new.hall in
    let between = g.H.Hall.state c.reserve_named-given.new.hall in
    let to = g.H.Hall.state c.give_names.new.hall in
    let names = c.in_ok-names.names in
    let now = c.reserve_named-given.new.names in
    let line = c.args.line.now in
    let name = c.args.name.now in
    let len = c.args.len in
    let options = c.args.options.now in
    let its = c.requires.act in
    let mine = held.same.me in
    let own = called.same.me ∙ mine in
    let is = c.give_names.ensures.gave in
    let gave : HasGiven me NAMES_SLOT (Names now) between to = subst (λ (who : ℕ). HasGiven who NAMES_SLOT (Names now) between to) own is.given in
    let others : OthersStay me between to = subst (λ (who : ℕ). OthersStay who between to) own is.others in
    let facts = zone_facts doer mid from at line name len options its c.requires.attached in
    let known = zone_known doer mid from at line name len options its c.requires.attached in
    let still = zone_still doer mid from at line name len options its c.requires.attached held in
    let goes = reserving_by line.act line facts in
    let tree = zone_tree doer mid from at line name len options its c.requires.attached in
    let ready : IsReadyNamed me new now between = subst (λ (who : ℕ). IsReadyNamed who new now between) mine called.ready in
    let joined = ready.but.attached ∙ (ap (λ (context : Context). context.standing.attached) called.context
    ∙ (ap (λ (context : Context). context.standing.attached) held.context ∙ c.requires.attached)) in
    record {
      does = ok_by c.reserve_named-given.result
          (λ given. (facts : Facts) → AreFactsOf mid.party.socket mid.context line facts
          → DoesNamedOnce mid.party.me mid new names now at between (reserving_by line.act line facts (shared_of names)) (Doing.Ended given))
          (λ given. DoesLineHere me doer new from to line given)
          (λ given did. line_named held gave is.slots others line facts known goes tree (act.Zone name len options) given its (zone_may name len options)
          (subst (λ (who : ℕ). DoesNamedOnce who mid new names now at between (goes (shared_of names)) (Doing.Ended given)) mine (did facts still))
          called.context)
          c.reserve_named-given.ensures.does;
      halts = err_by c.reserve_named-given.result
          (λ (did : (facts : Facts) → AreFactsOf mid.party.socket mid.context line facts
          → HaltsNamedOnce mid.party.me mid new names now at between (reserving_by line.act line facts (shared_of names))).
          line_stopped held gave is.slots others line facts known goes tree
          (subst (λ (who : ℕ). HaltsNamedOnce who mid new names now at between (goes (shared_of names))) mine (did facts still)))
          c.reserve_named-given.ensures.halts;
      lies = ok_by c.reserve_named-given.result (IsKnownMapped mid.party.me between) (IsMapped new.party)
          (λ given lies. lies_in_table me new.party between given ready.but.tied joined
          (subst (λ (who : ℕ). IsKnownMapped who between given) mine lies))
          c.reserve_named-given.ensures.lies;
      clock = λ one. omega (arith, c.take_names.ensures.clock one, c.reserve_named-given.ensures.clock one, others.clock, held.same.deadline);
      ready = record {
        same = same_then doer.party mid.party new.party held.same called.same;
        ready = ready_around held gave is.slots others ready;
      };
      goes_on = g.met.H.Hall.goes_on_then _ _ _ c.take_names.ensures.goes_on
          (g.met.H.Hall.goes_on_then _ _ _ c.reserve_named-given.ensures.goes_on c.give_names.ensures.goes_on);
    }

-- somebody stopped before it had them
pub returns-in_err-names : goal.returns-in_err-names
returns-in_err-names g c = record {
  does = search rules;
  halts = on_err_any c.from_residual.result _
      (zone_not c.args.self.now c.take_names.new.self (g.H.Hall.state c.args.hall.now) (g.H.Hall.state c.take_names.new.hall) c.args.line.now
      c.args.name.now c.args.len c.args.options.now c.requires.act c.requires.attached c.in_err-names.ensures.halts);
  lies = search rules;
  clock = λ one. omega (arith, c.take_names.ensures.clock one);
  ready = c.in_err-names.ensures.err.again;
  goes_on = c.take_names.ensures.goes_on;
}
