-- The names were taken, or another one holds them and the participant takes a turn.
use Rattle.std.proofs.Common.{rules, ◌∙◌, ℕ, ◌++◌, List, [], None, refl, ap, sym, subst, arith}
use Rattle.std.specs.Prelude.{◌-◌, ◌^◌}
use Rattle.hp_hall.specs.HallCalls.{HasTaken}
use Rattle.hp_hall.specs.HallState.{Did}
use Rattle.hp_hall.specs.Holding.{HeapPart, IsPartBeside}
use Rattle.hp_hall.specs.Mail.{MailStep}
use Rattle.hp_hall.specs.declared.kept.Kept.{Kept}
use Rattle.hp_hall.specs.declared.kept.Kept.TheVariants.{Names}
use Rattle.hp_hall.specs.declared.slot.TheConstants.{NAMES_SLOT}
use Rattle.hp_hall.proofs.HallStates.{did_same, did_then, later_then}
use Rattle.hp_proc.specs.Acting.{Acts}
use Rattle.hp_proc.specs.Contexts.{Context}
use Rattle.hp_proc.specs.Doing.{Doing}
use Rattle.hp_proc.specs.Heaps.{sockets_of}
use Rattle.hp_proc.specs.LineInHall.{HaltsHere, HasCalled, moment}
use Rattle.hp_serve.proofs.AskingFacts.AskedAlong.{on_err_any}
use Rattle.hp_proc.proofs.Halted.{halts_by, stops_more}
use Rattle.hp_proc.proofs.HandFacts.HandGiven.{ready_still, waits_more}
use Rattle.hp_proc.proofs.HandFacts.Holds.{again_by}
use Rattle.hp_proc.proofs.LinesInHall.{free_but, idle_can, idle_in, idle_may}
use Rattle.hp_proc.proofs.NamesHeld.{are_names, gives_same, ready_beside}
use Rattle.hp_serve.proofs.InHalls.{in_can, in_did, in_may, in_others, in_same, in_then, in_tied, marked_taken, tied_taken}
use Rattle.hp_serve.proofs.Scaled.{own_measure_still}
use Rattle.hp_proc.proofs.HandFacts.HandMarks.{noted_same}
use Rattle.hp_serve.specs.InHall.{marked_in}
use Rattle.hp_proc.proofs.participant.Participant.take_names.Goals as goal

pub taking-init : goal.taking-init
taking-init g c =
    let old = g.H.Hall.state c.args.hall.now in
    record {
      waited = ([], did_same _ old, Acts.nothing None c.args.self.now);
      stays = in_same c.args.self.now.party.me c.args.self.now.party old c.requires.ready.idle.tied;
      context = refl;
      asked = refl;
      goes_on = g.met.H.Hall.goes_on_same _;
      clock = λ one. omega arith;
    }

pub try_take-requires-clause-serves : goal.try_take-requires-clause-serves
try_take-requires-clause-serves g c =
    subst (g.H.Hall.state c.taking.hall).serves (sym c.number.ensures)
    (in_may c.taking.invariant.stays (idle_may c.requires.ready.idle)).serves

pub try_take-requires-clause-home : goal.try_take-requires-clause-home
try_take-requires-clause-home g c =
    c.taking.invariant.stays.waits.slots.home NAMES_SLOT (c.requires.ready.idle.home NAMES_SLOT (omega arith))

pub into_names-requires : goal.into_names-requires
into_names-requires g c = record { names = are_names c.in-Ok.kept c.in-Ok.ensures.took.fits }

-- THEY ARE TAKEN

pub returns-in-Ok : goal.returns-in-Ok
returns-in-Ok g c =
    let was = c.taking.invariant in
    let is = c.in-Ok.ensures in
    let doer = c.args.self.now in
    let me = doer.party.me in
    let old = g.H.Hall.state c.args.hall.now in
    let mid = g.H.Hall.state c.taking.hall in
    let new = g.H.Hall.state c.try_take.new.self in
    let names = c.into_names.result in
    let mine = c.number.ensures ∙ was.stays.same.me in
    let took : HasTaken me NAMES_SLOT (Names names) mid new =
    subst (λ (kept : Kept). HasTaken me NAMES_SLOT kept mid new) c.into_names.ensures
    (subst (λ (who : ℕ). HasTaken who NAMES_SLOT c.in-Ok.kept mid new) mine is.took) in
    let later = later_then was.stays.waits.later is.others.later in
    let before = was.stays.waits.later.heard me in
    let last = is.others.later.heard me in
    let idle = idle_in was.stays c.requires.ready.idle in
    let ready =
    ready_beside c.taking.self (mid.part me) (new.part me) (mid.seen me) (new.seen me) (mid.heard me) (new.heard me) last.0 took.part last.1
    (ready_still doer c.taking.self (old.part me) (mid.part me) (old.seen me) (mid.seen me) (old.heard me) (mid.heard me) before.0 was.stays.same
    was.context was.stays.waits.parts.part before.1 c.requires.ready.ready) in
    record {
      held = record {
        same = was.stays.same;
        context = was.context;
        sound = took.sound;
        seen = took.names;
        taken = took.taken;
        gives = gives_same me mid new names took;
        but = record {
          serves = is.others.later.serves me idle.serves;
          declared = omega (arith, is.others.later.count, idle.declared);
          free = free_but is.slots idle;
          tied = tied_taken me NAMES_SLOT (Names names) c.taking.self.party took is.others.later was.stays.tied;
          ready = ready;
          attached = took.joined
              ∙ (was.stays.waits.parts.joined
              ∙ (c.requires.ready.attached ∙ sym (ap (λ (context : Context). context.standing.attached) was.context)));
          named = (later.named me).sockets
              ∙ (c.requires.ready.named ∙ sym (ap (λ (context : Context). sockets_of context.pools) was.context));
          chunks = λ index.
              noted_same index (marked_in me old index) (marked_in me new index) doer.context c.taking.self.context
              (marked_taken (Names names) (mid.part me) (new.part me) took.part index
              ∙ ap (λ (part : HeapPart). part.marked) (was.stays.waits.parts.part index)) was.context (c.requires.ready.chunks index);
        };
        beside = λ heap.
            subst (λ (part : HeapPart). IsPartBeside part (new.part me heap)) (was.stays.waits.parts.part heap) (took.part heap);
        asked = was.asked;
        waited = was.waited.0;
        did = did_then was.waited.1 took.did;
        acts = was.waited.2;
        later = later;
      };
      halts = tt;
      err = tt;
      clock = λ one. omega (arith, was.clock one, is.others.clock);
      goes_on = g.met.H.Hall.goes_on_then _ _ _ was.goes_on is.goes_on;
    }

-- ANOTHER ONE HOLDS THEM

pub turn-requires : goal.turn-requires
turn-requires g c =
    let was = c.taking.invariant in
    let is = c.in-Err.ensures in
    record {
      can = in_can
          (in_others c.taking.self.party c.number.ensures is.held.slots is.held.mine is.others.later (in_tied was.stays))
          (in_can was.stays (idle_can c.requires.ready.idle));
      before = g.met.H.Hall.busy_pending c.try_take.new.self _ (NAMES_SLOT, _, is.held.found);
    }

pub taking-smaller : goal.taking-smaller
taking-smaller g c =
    let lighter = c.in-Err.ensures.measure in
    let clock = c.in-Err.ensures.others.clock in
    let falls = c.in_ok-turn-in-Err.ensures.falls in
    let until = ap (λ (at : ℕ). g.H.Hall.pending at (2 ^ 64 - 1)) clock in
    let own =
    own_measure_still g.H.Hall.scale g.H.Hall.pending (g.H.Hall.state c.taking.hall).clock (g.H.Hall.state c.try_take.new.self).clock
    c.taking.self.party.core clock in
    omega (arith, lighter, falls, until, own)

pub taking-preserved : goal.taking-preserved
taking-preserved g c =
    let was = c.taking.invariant in
    let tried = c.in-Err.ensures in
    let is = c.turn.ensures in
    let one = c.in_ok-turn-in-Err.ensures.turned in
    let old = g.H.Hall.state c.args.hall.now in
    let mid = g.H.Hall.state c.taking.hall in
    let late = g.H.Hall.state c.try_take.new.self in
    let here = c.number.ensures in
    let looked = in_others c.taking.self.party here tried.held.slots tried.held.mine tried.others.later (in_tied was.stays) in
    let so_far = in_then was.stays looked in
    record {
      waited = (
        was.waited.0 ++ one.0,
        did_then was.waited.1
            (did_then (in_did was.stays (subst (λ (who : ℕ). Did who [] mid late) here tried.held.did)) (in_did so_far one.1)),
        waits_more old.count late.count (2 ^ 64 - 1) c.args.self.now c.taking.self c.turn.new.self c.in_ok-turn-in-Err.field-0 was.waited.0 one.0
            so_far.waits.later.count is.context was.waited.2 one.2,
      );
      stays = in_then so_far is.stays;
      context = is.context ∙ was.context;
      asked = is.asks.asked ∙ was.asked;
      goes_on = g.met.H.Hall.goes_on_then _ _ _ was.goes_on (g.met.H.Hall.goes_on_then _ _ _ tried.goes_on is.goes_on);
      clock = λ one. absurd (one.free c.try_take.new.self (NAMES_SLOT, _, tried.held.found));
    }

-- SOMEBODY STOPPED

pub returns-in_err-turn-in-Err : goal.returns-in_err-turn-in-Err
returns-in_err-turn-in-Err g c =
    let was = c.taking.invariant in
    let tried = c.in-Err.ensures in
    let is = c.turn.ensures in
    let here = c.number.ensures in
    let doer = c.args.self.now in
    let me = doer.party.me in
    let old = g.H.Hall.state c.args.hall.now in
    let mid = g.H.Hall.state c.taking.hall in
    let late = g.H.Hall.state c.try_take.new.self in
    let new = g.H.Hall.state c.turn.new.hall in
    let so_far = in_then was.stays (in_others c.taking.self.party here tried.held.slots tried.held.mine tried.others.later (in_tied was.stays)) in
    let all = in_then so_far is.stays in
    let again : HasCalled me doer c.turn.new.self new = again_by doer c.turn.new.self all (is.context ∙ was.context) c.requires.ready in
    let one = c.in_err-turn-in-Err.ensures.turned in
    let halts : (doing : Doing) → HaltsHere [] me doer c.turn.new.self old new doing =
    λ doing.
    halts_by [] old.count (λ (steps : List MailStep). Did me steps old new) doing (moment me doer old)
    (moment me c.turn.new.self new) (was.waited.0 ++ one.0)
    (did_then was.waited.1
    (did_then (in_did was.stays (subst (λ (who : ℕ). Did who [] mid late) here tried.held.did)) (in_did so_far one.1)))
    (stops_more old.count late.count (2 ^ 64 - 1) doer c.taking.self c.turn.new.self was.waited.0 one.0 so_far.waits.later.count is.context
    was.waited.2 one.2)
    (λ heap. ap (λ (part : HeapPart). part.entries) (all.waits.parts.part heap)) all.same (is.context ∙ was.context) in
    record {
      held = search rules;
      halts = on_err_any c.from_residual.result _ halts;
      err = on_err_any c.from_residual.result _ again;
      clock = λ one. absurd (one.free c.try_take.new.self (NAMES_SLOT, _, tried.held.found));
      goes_on = g.met.H.Hall.goes_on_then _ _ _ was.goes_on (g.met.H.Hall.goes_on_then _ _ _ tried.goes_on is.goes_on);
    }
