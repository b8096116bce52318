-- It takes the names, does its line with them, and gives them back.
use Rattle.std.proofs.Common.{◌∙◌, ◌≡◌, [], ap, arith, refl, subst, sym, ℕ}
use Rattle.hp_hall.specs.HallCalls.{HasGiven}
use Rattle.hp_hall.specs.HallState.{OthersStay}
use Rattle.hp_hall.specs.declared.kept.Kept.TheVariants.{Names}
use Rattle.hp_hall.specs.declared.slot.TheConstants.{NAMES_SLOT}
use Rattle.hp_proc.proofs.ExternalLine.{both_ok, external_stopped, line_external, named_same}
use Rattle.hp_proc.proofs.HandFacts.OnceHeld.{once_none}
use Rattle.hp_proc.proofs.Halted.{line_halted}
use Rattle.hp_proc.proofs.LineFacts.{facts_for, facts_known, has_request}
use Rattle.hp_proc.proofs.NamesAround.{may_give, named_ready, ready_around}
use Rattle.hp_proc.proofs.ThereDone.{on_err_map}
use Rattle.hp_proc.specs.Contexts.{Context}
use Rattle.hp_proc.specs.LineInHall.{HaltsLineHere, did_in, moment}
use Rattle.hp_proc.specs.LineTrees.{doing_of}
use Rattle.hp_proc.specs.Lines.{Facts}
use Rattle.hp_proc.specs.NamesInHand.{IsReadyNamed}
use Rattle.hp_serve.proofs.AskingFacts.AskedAlong.{on_err_any}
use Rattle.hp_serve.proofs.Carrying.{same_then}
use Rattle.hp_proc.proofs.participant.Participant.do_external.Goals as goal

-- IT STOPS BEFORE IT HAS THE NAMES

pub returns-in_err-names-clause-halts : goal.returns-in_err-names-clause-halts
returns-in_err-names-clause-halts g c =
    let doer = c.args.self.now in
    let me = doer.party.me in
    let line = c.args.line.now in
    let old = g.H.Hall.state c.args.hall.now in
    let new = g.H.Hall.state c.take_names.new.hall in
    let facts : Facts = facts_for doer.party.socket doer.context line.act (has_request line.act).0 in
    let halts : HaltsLineHere me doer c.take_names.new.self old new line =
    line_halted old.count (did_in me old new) line (moment me doer old) (moment me c.take_names.new.self new) facts
    (facts_known doer.party.socket doer.context line (has_request line.act).0 (has_request line.act).1) (doing_of line line.act facts) refl refl
    ([], once_none, c.in_err-names.ensures.halts (doing_of line line.act facts)) in
    on_err_any _ _ halts

pub returns-in_err-names-clause-ready : goal.returns-in_err-names-clause-ready
returns-in_err-names-clause-ready g c = c.in_err-names.ensures.err.again

-- IT HAS THEM

pub do_named-given-requires-clause-attached : goal.do_named-given-requires-clause-attached
do_named-given-requires-clause-attached g c =
    ap (λ (context : Context). context.standing.attached) c.in_ok-names.ensures.held.context ∙ c.requires.attached

pub do_named-given-requires-clause-ready : goal.do_named-given-requires-clause-ready
do_named-given-requires-clause-ready g c =
    let held = c.in_ok-names.ensures.held in
    let at = g.H.Hall.state c.take_names.new.hall in
    subst (λ (who : ℕ). IsReadyNamed who c.take_names.new.self c.in_ok-names.names at) (sym held.same.me) (named_ready held)

pub give_names-requires : goal.give_names-requires
give_names-requires g c =
    let between = g.H.Hall.state c.do_named-given.new.hall in
    let is = c.do_named-given.ensures in
    let same =
    named_same c.take_names.new.self.party.me c.take_names.new.self c.do_named-given.new.self c.in_ok-names.names c.do_named-given.new.names
    (g.H.Hall.state c.take_names.new.hall) (g.H.Hall.state c.do_named-given.new.hall) _ c.do_named-given.result is.does is.halts in
    record {
      may = may_give
          (subst (λ (who : ℕ). IsReadyNamed who c.do_named-given.new.self c.do_named-given.new.names between) (sym same.me) is.ready);
    }

pub returns : goal.returns
returns g c =
    let doer = c.args.self.now in
    let me = doer.party.me in
    let line = c.args.line.now in
    let held = c.in_ok-names.ensures.held in
    let new = c.do_named-given.new.self in
    let given = c.do_named-given.new.names in
    let between = g.H.Hall.state c.do_named-given.new.hall in
    let to = g.H.Hall.state c.give_names.new.hall in
    let is = c.do_named-given.ensures in
    let back = c.give_names.ensures.gave in
    let same =
    named_same c.take_names.new.self.party.me c.take_names.new.self c.do_named-given.new.self c.in_ok-names.names c.do_named-given.new.names
    (g.H.Hall.state c.take_names.new.hall) (g.H.Hall.state c.do_named-given.new.hall) _ c.do_named-given.result is.does is.halts in
    let mine : new.party.me ≡ me = same.me ∙ held.same.me in
    let gave : HasGiven me NAMES_SLOT (Names given) between to =
    subst (λ (who : ℕ). HasGiven who NAMES_SLOT (Names given) between to) mine back.given in
    let others : OthersStay me between to = subst (λ (who : ℕ). OthersStay who between to) mine back.others in
    record {
      does = both_ok c.do_named-given.result
          (λ said does notes.
          line_external held gave back.slots others line c.requires.external c.requires.own c.requires.attached said does notes) is.does is.noted;
      halts = on_err_map c.do_named-given.result
          (external_stopped held gave back.slots others line c.requires.external c.requires.own c.requires.attached) is.halts;
      clock = λ one. omega (arith, c.take_names.ensures.clock one, is.clock one, back.others.clock);
      ready = record {
        same = same_then doer.party c.take_names.new.self.party new.party held.same same;
        ready = ready_around held gave back.slots others
            (subst (λ (who : ℕ). IsReadyNamed who new given between) held.same.me is.ready);
      };
      goes_on = g.met.H.Hall.goes_on_then _ _ _ c.take_names.ensures.goes_on
          (g.met.H.Hall.goes_on_then _ _ _ is.goes_on c.give_names.ensures.goes_on);
    }
