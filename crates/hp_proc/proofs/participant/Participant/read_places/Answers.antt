-- The names were taken, and given back as they were.
use Rattle.std.proofs.Common.{rules, ◌≡◌, ◌∙◌, List, [], ℕ, ap, sym, subst, arith}
use Rattle.hp_hall.specs.Giving.{IsGiveOf}
use Rattle.hp_hall.specs.HallCalls.{HasGiven}
use Rattle.hp_hall.specs.HallState.{OthersStay, known_to}
use Rattle.hp_hall.specs.Named.{NamesSeen}
use Rattle.hp_hall.specs.declared.kept.Kept.TheVariants.{Names}
use Rattle.hp_hall.specs.declared.slot.TheConstants.{NAMES_SLOT}
use Rattle.hp_proc.specs.Contexts.{Context}
use Rattle.hp_proc.specs.Doing.{Doing}
use Rattle.hp_proc.specs.Handing.{shared_of}
use Rattle.hp_proc.specs.LineInHall.{HaltsHere, did_in, moment}
use Rattle.hp_proc.specs.Lines.{reading_names}
use Rattle.hp_proc.specs.SharedNames.{SharedNames}
use Rattle.hp_proc.proofs.Halted.{halts_of}
use Rattle.hp_proc.specs.Heaps.{sockets_of}
use Rattle.hp_proc.proofs.HandFacts.Holds.{knew_same}
use Rattle.hp_proc.proofs.NamesRead.{as_leaves, names_read, ready_read}
use Rattle.hp_proc.proofs.WhosePages.{named_places}
use Rattle.hp_serve.proofs.AskingFacts.AskedAlong.{on_err_any}
use Rattle.hp_proc.proofs.participant.Participant.read_places.Goals as goal

pub places_in-found-requires : goal.places_in-found-requires
places_in-found-requires g c = record { sound = c.in_ok-names.ensures.held.sound.1 }

pub give_names-requires : goal.give_names-requires
give_names-requires g c =
    let held = c.in_ok-names.ensures.held in
    let at = g.H.Hall.state c.take_names.new.hall in
    record {
      may = record {
        serves = subst at.serves (sym held.same.me) held.but.serves;
        gives = subst (λ (who : ℕ). IsGiveOf (known_to who at) NAMES_SLOT (Names c.in_ok-names.names)) (sym held.same.me) held.gives;
      };
    }

pub returns : goal.returns
returns g c =
    let held = c.in_ok-names.ensures.held in
    let doer = c.args.self.now in
    let me = doer.party.me in
    let mid = c.take_names.new.self in
    let old = g.H.Hall.state c.args.hall.now in
    let at = g.H.Hall.state c.take_names.new.hall in
    let new = g.H.Hall.state c.give_names.new.hall in
    let mine = held.same.me in
    let is = c.give_names.ensures.gave in
    let names = c.in_ok-names.names in
    let gave : HasGiven me NAMES_SLOT (Names names) at new = subst (λ (who : ℕ). HasGiven who NAMES_SLOT (Names names) at new) mine is.given in
    let others : OthersStay me at new = subst (λ (who : ℕ). OthersStay who at new) mine is.others in
    let sockets : names.heaps.sockets ≡ sockets_of doer.context.pools =
    ap (λ (seen : NamesSeen). seen.sockets) held.seen
    ∙ (held.but.named ∙ ap (λ (context : Context). sockets_of context.pools) held.context) in
    record {
      read = record {
        names = names;
        read = record {
          sockets = sockets;
          leaves = as_leaves doer names held.sound.1 sockets;
          places = named_places names.heaps held.sound.1 doer.context.pools sockets;
          context = held.context;
          reads = names_read doer mid names old at new held gave is.slots others;
        };
        found_are = c.in_ok-places.ensures;
      };
      halts = tt;
      ready = record {
        again = ready_read doer mid names old at new held gave is.slots others;
        context = knew_same doer.context mid.context held.context;
      };
      clock = λ one. omega (arith, c.take_names.ensures.clock one, others.clock);
      goes_on = g.met.H.Hall.goes_on_then _ _ _ c.take_names.ensures.goes_on c.give_names.ensures.goes_on;
    }

-- somebody stopped before it had them
pub returns-in_err-names : goal.returns-in_err-names
returns-in_err-names g c = record {
  read = search rules;
  halts = on_err_any c.from_residual.result _ (λ goes. c.in_err-names.ensures.halts (reading_names goes));
  ready = c.in_err-names.ensures.err;
  clock = c.take_names.ensures.clock;
  goes_on = c.take_names.ensures.goes_on;
}

-- there was no memory for the places
pub returns-in_err-places : goal.returns-in_err-places
returns-in_err-places g c =
    let held = c.in_ok-names.ensures.held in
    let doer = c.args.self.now in
    let me = doer.party.me in
    let mid = c.take_names.new.self in
    let old = g.H.Hall.state c.args.hall.now in
    let at = g.H.Hall.state c.take_names.new.hall in
    let new = g.H.Hall.state c.give_names.new.hall in
    let mine = held.same.me in
    let is = c.give_names.ensures.gave in
    let names = c.in_ok-names.names in
    let gave : HasGiven me NAMES_SLOT (Names names) at new = subst (λ (who : ℕ). HasGiven who NAMES_SLOT (Names names) at new) mine is.given in
    let others : OthersStay me at new = subst (λ (who : ℕ). OthersStay who at new) mine is.others in
    let halts : (goes : SharedNames → Doing) → HaltsHere [] me doer mid old new (reading_names goes) =
    λ goes.
    halts_of old.count (did_in me old new) (reading_names goes) (goes (shared_of names)) (moment me doer old) (moment me mid new)
    (names_read doer mid names old at new held gave is.slots others goes).does in
    record {
      read = search rules;
      halts = on_err_any c.from_residual-in_err-places.result _ halts;
      ready = record {
        again = ready_read doer mid names old at new held gave is.slots others;
        context = knew_same doer.context mid.context held.context;
      };
      clock = λ one. omega (arith, c.take_names.ensures.clock one, others.clock);
      goes_on = g.met.H.Hall.goes_on_then _ _ _ c.take_names.ensures.goes_on c.give_names.ensures.goes_on;
    }
