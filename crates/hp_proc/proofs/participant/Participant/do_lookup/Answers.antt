-- A memzone is looked up among the names, which go back as they were.
use Rattle.std.proofs.Common.{rules, ◌∙◌, List, ℕ, ap, sym, subst, arith}
use Rattle.std.specs.List.{find}
use Rattle.hp_hall.specs.Giving.{IsGiveOf}
use Rattle.hp_hall.specs.HallCalls.{HasGiven}
use Rattle.hp_hall.specs.HallState.{OthersStay, known_to}
use Rattle.hp_hall.specs.declared.kept.Kept.TheVariants.{Names}
use Rattle.hp_hall.specs.declared.slot.TheConstants.{NAMES_SLOT}
use Rattle.hp_zone.specs.Zones.{has_name}
use Rattle.hp_zone.specs.declared.zone.Zone.{Zone}
use Rattle.hp_proc.specs.SharedNames.{zone_named}
use Rattle.hp_proc.specs.ZoneLines.{found_zone}
use Rattle.hp_proc.proofs.NamesRead.{names_read, ready_read}
use Rattle.hp_proc.proofs.ZoneLooked.{looked, looked_not}
use Rattle.hp_serve.proofs.AskingFacts.AskedAlong.{on_err_any}
use Rattle.hp_proc.proofs.participant.Participant.do_lookup.Goals as goal

pub found_answer-answer-requires : goal.found_answer-answer-requires
found_answer-answer-requires g c = record { sound = c.in_ok-names.ensures.held.sound.0 }

pub give_names-requires : goal.give_names-requires
give_names-requires g c =
    let held = c.in_ok-names.ensures.held in
    let at = g.H.Hall.state c.take_names.new.hall in
    record {
      may = record {
        serves = subst at.serves (sym held.same.me) held.but.serves;
        gives = subst (λ (who : ℕ). IsGiveOf (known_to who at) NAMES_SLOT (Names c.in_ok-names.names)) (sym held.same.me) held.gives;
      };
    }

pub returns : goal.returns
returns g c =
    let held = c.in_ok-names.ensures.held in
    let doer = c.args.self.now in
    let me = doer.party.me in
    let mid = c.take_names.new.self in
    let old = g.H.Hall.state c.args.hall.now in
    let at = g.H.Hall.state c.take_names.new.hall in
    let new = g.H.Hall.state c.give_names.new.hall in
    let mine = held.same.me in
    let is = c.give_names.ensures.gave in
    let names = c.in_ok-names.names in
    let name = c.args.name.now in
    let gave : HasGiven me NAMES_SLOT (Names names) at new = subst (λ (who : ℕ). HasGiven who NAMES_SLOT (Names names) at new) mine is.given in
    let others : OthersStay me at new = subst (λ (who : ℕ). OthersStay who at new) mine is.others in
    record {
      does = looked doer mid old new c.args.line.now name c.requires.act c.requires.attached names c.found_answer-answer.result
          (names_read doer mid names old at new held gave is.slots others (λ names. found_zone (zone_named name.text names)))
          (c.found_answer-answer.ensures
          ∙ (ap (λ (text : List ℕ). found_zone (find (has_name text) names.zones.zones)) c.as_bytes.ensures.text
          ∙ ap (λ (zones : List Zone). found_zone (find (has_name name.text) zones)) held.sound.0.replayed)) held.context;
      halts = tt;
      clock = λ one. omega (arith, c.take_names.ensures.clock one, others.clock);
      ready = ready_read doer mid names old at new held gave is.slots others;
      goes_on = g.met.H.Hall.goes_on_then _ _ _ c.take_names.ensures.goes_on c.give_names.ensures.goes_on;
    }

-- somebody stopped before it had them
pub returns-in_err-names : goal.returns-in_err-names
returns-in_err-names g c = record {
  does = search rules;
  halts = on_err_any c.from_residual.result _
      (looked_not c.args.self.now c.take_names.new.self (g.H.Hall.state c.args.hall.now) (g.H.Hall.state c.take_names.new.hall) c.args.line.now
      c.args.name.now c.requires.act c.requires.attached c.in_err-names.ensures.halts);
  clock = c.take_names.ensures.clock;
  ready = c.in_err-names.ensures.err.again;
  goes_on = c.take_names.ensures.goes_on;
}
