-- The lines are looked up, and turns are taken until they are enough.
use Rattle.std.proofs.Common.{rules, ◌≡◌, ◌∙◌, ℕ, ◌+◌, ◌<◌, ◌≤◌, ◌++◌, List, [], ◌∷◌, None, Some, refl, ap, sym, subst, arith, ⊎_elim}
use Rattle.std.specs.Prelude.{◌-◌, ◌^◌, ◌⊎◌}
use Rattle.hp_hall.specs.HallState.{Did, HallState}
use Rattle.hp_hall.specs.Holding.{HeapPart}
use Rattle.hp_hall.specs.Mail.{MailStep, Notes}
use Rattle.hp_hall.specs.declared.note.Note.TheVariants.{LoadedDone}
use Rattle.hp_hall.proofs.HallStates.{did_same, did_then}
use Rattle.hp_proc.specs.Acting.{Acts}
use Rattle.hp_proc.specs.Halting.{ActsOn}
use Rattle.hp_proc.specs.LineInHall.{HaltsLineHere, moment}
use Rattle.hp_proc.specs.LineTrees.{doing_of}
use Rattle.hp_proc.specs.ParticipantView.{ParticipantView}
use Rattle.hp_serve.proofs.AskingFacts.AskedAlong.{on_err_any}
use Rattle.hp_proc.proofs.AwaitedLines.{await_done}
use Rattle.hp_proc.proofs.Halted.{halts_by, line_halted, stops_more}
use Rattle.hp_proc.proofs.HandFacts.HandGiven.{waits_more}
use Rattle.hp_proc.proofs.HandFacts.Holds.{again_by}
use Rattle.hp_proc.proofs.HandFacts.OnceHeld.{once_none}
use Rattle.hp_proc.proofs.LineFacts.{facts_for, facts_known, has_request}
use Rattle.hp_proc.proofs.LinesInHall.{idle_can, idle_may}
use Rattle.hp_script.specs.declared.line.Line.{Line}
use Rattle.hp_serve.specs.Party.{IsSameParty}
use Rattle.hp_serve.proofs.InHalls.{in_can, in_did, in_may, in_others, in_same, in_then, in_tied}
use Rattle.hp_serve.proofs.Scaled.{own_measure_still}
use Rattle.hp_proc.proofs.participant.Participant.do_await.Goals as goal

pub awaiting-init : goal.awaiting-init
awaiting-init g c =
    let old = g.H.Hall.state c.args.hall.now in
    record {
      waited = ([], did_same _ old, Acts.nothing None c.args.self.now);
      stays = in_same c.args.self.now.party.me c.args.self.now.party old c.requires.ready.idle.tied;
      context = refl;
      asked = refl;
      goes_on = g.met.H.Hall.goes_on_same _;
      clock = λ one. omega arith;
    }

pub load_done-requires-clause-serves : goal.load_done-requires-clause-serves
load_done-requires-clause-serves g c =
    subst (g.H.Hall.state c.awaiting.hall).serves (sym c.number.ensures)
    (in_may c.awaiting.invariant.stays (idle_may c.requires.ready.idle)).serves

pub load_done-requires-clause-declared : goal.load_done-requires-clause-declared
load_done-requires-clause-declared g c = omega (arith, c.requires.declared, c.awaiting.invariant.stays.waits.later.count)

-- a look at the lines of another one comes after what was waited
looked_up : {count : ℕ} {doer mid : ParticipantView} (waited : List MailStep) (other lines : ℕ) → Acts count None None [] doer mid [] waited
    → Acts count None None [] doer mid [] (waited ++ Notes (LoadedDone other lines) ∷ [])
looked_up {count} {doer} {mid} waited other lines acts =
    Acts.and_then None None None [] [] doer mid mid [] [] waited (Notes (LoadedDone other lines) ∷ []) acts (Acts.looks_up_lines mid other lines)

-- it never waits where deadlines count: then the lines are done already
no_scale : (scale lines was known found : ℕ) → (lines ≤ was) ⊎ (scale ≡ 0) → was ≤ known → known ≤ found → found < lines → scale ≡ 0
no_scale scale lines was known found can grown at_least few =
    ⊎_elim (λ enough. absurd (omega (arith, enough, grown, at_least, few))) (λ (zero : scale ≡ 0). zero) can

-- ENOUGH ARE DONE

pub returns-then-load_done-lines : goal.returns-then-load_done-lines
returns-then-load_done-lines g c =
    let was = c.awaiting.invariant in
    let is = c.load_done.ensures in
    let doer = c.args.self.now in
    let me = doer.party.me in
    let old = g.H.Hall.state c.args.hall.now in
    let mid = g.H.Hall.state c.awaiting.hall in
    let late = g.H.Hall.state c.load_done.new.self in
    let here = c.number.ensures in
    let looked = in_others c.awaiting.self.party here is.loaded.stays.slots is.loaded.stays.mine is.loaded.stays.others.later (in_tied was.stays) in
    let all = in_then was.stays looked in
    let found = c.load_done.result in
    let last = Notes (LoadedDone c.args.other found) ∷ [] in
    let log = all.waits.later.seen me in
    let asks = all.waits.later.heard me in
    record {
      does = await_done old.count (λ (steps : List MailStep). Did me steps old late) c.args.other c.args.lines found (moment me doer old)
          (moment me c.awaiting.self late) was.waited.0 c.if-load_done-lines.true c.args.line.now c.requires.act refl refl
          (did_then was.waited.1 (in_did was.stays (subst (λ (who : ℕ). Did who last mid late) here is.loaded.did)))
          (looked_up was.waited.0 c.args.other found was.waited.2) (λ heap. ap (λ (part : HeapPart). part.entries) (all.waits.parts.part heap))
          (λ heap. ap (λ (part : HeapPart). part.serves) (all.waits.parts.part heap)) all.same was.context was.asked log.0 log.1 asks.0 asks.1;
      halts = tt;
      clock = λ one. omega (arith, was.clock one, is.loaded.stays.others.clock);
      ready = (again_by doer c.awaiting.self all was.context c.requires.ready).again;
      goes_on = g.met.H.Hall.goes_on_then _ _ _ was.goes_on is.goes_on;
    }

-- SOMEBODY HAS STOPPED

-- it ends so, with no more of its line done
stops_so : (doer after : ParticipantView) (old new : HallState) (line : Line) (steps : List MailStep)
    → Did doer.party.me steps old new → ActsOn old.count None None [] doer after [] steps
    → ((heap : ℕ) → (new.part doer.party.me heap).entries ≡ (old.part doer.party.me heap).entries) → IsSameParty doer.party after.party
    → after.context ≡ doer.context → HaltsLineHere doer.party.me doer after old new line
stops_so doer after old new line steps made stopped entries same known =
    let me = doer.party.me in
    let request = has_request line.act in
    let facts = facts_for doer.party.socket doer.context line.act request.0 in
    line_halted old.count (λ (steps : List MailStep). Did me steps old new) line (moment me doer old) (moment me after new) facts
    (facts_known doer.party.socket doer.context line request.0 request.1) (doing_of line line.act facts) refl refl (
      [],
      once_none,
      halts_by [] old.count (λ (steps : List MailStep). Did me steps old new) (doing_of line line.act facts) (moment me doer old) (moment me after new)
          steps made stopped entries same known,
    )

pub returns-then-stopped : goal.returns-then-stopped
returns-then-stopped g c =
    let was = c.awaiting.invariant in
    let is = c.load_done.ensures in
    let doer = c.args.self.now in
    let me = doer.party.me in
    let old = g.H.Hall.state c.args.hall.now in
    let mid = g.H.Hall.state c.awaiting.hall in
    let late = g.H.Hall.state c.load_done.new.self in
    let here = c.number.ensures in
    let looked = in_others c.awaiting.self.party here is.loaded.stays.slots is.loaded.stays.mine is.loaded.stays.others.later (in_tied was.stays) in
    let all = in_then was.stays looked in
    let found = c.load_done.result in
    let last = Notes (LoadedDone c.args.other found) ∷ [] in
    record {
      does = tt;
      halts = stops_so doer c.awaiting.self old late c.args.line.now (was.waited.0 ++ last)
          (did_then was.waited.1 (in_did was.stays (subst (λ (who : ℕ). Did who last mid late) here is.loaded.did)))
          (ActsOn.acts None None [] doer c.awaiting.self [] (was.waited.0 ++ last) (looked_up was.waited.0 c.args.other found was.waited.2))
          (λ heap. ap (λ (part : HeapPart). part.entries) (all.waits.parts.part heap)) all.same was.context;
      clock = λ one. omega (arith, was.clock one, is.loaded.stays.others.clock);
      ready = (again_by doer c.awaiting.self all was.context c.requires.ready).again;
      goes_on = g.met.H.Hall.goes_on_then _ _ _ was.goes_on is.goes_on;
    }

-- IT TAKES A TURN

pub turn-requires : goal.turn-requires
turn-requires g c =
    let was = c.awaiting.invariant in
    let is = c.load_done.ensures in
    let zero = no_scale g.H.Hall.scale c.args.lines _ _ c.load_done.result c.requires.can (was.stays.waits.later.lines c.args.other) is.loaded.known
    c.if-load_done-lines.false in
    record {
      can = in_can
          (in_others c.awaiting.self.party c.number.ensures is.loaded.stays.slots is.loaded.stays.mine is.loaded.stays.others.later
          (in_tied was.stays))
          (in_can was.stays (idle_can c.requires.ready.idle));
      before = omega (arith, g.met.H.Hall.pending_most (g.H.Hall.state c.load_done.new.self).clock (2 ^ 64 - 1), zero);
    }

pub awaiting-smaller : goal.awaiting-smaller
awaiting-smaller g c =
    let is = c.load_done.ensures in
    let clock = is.loaded.stays.others.clock in
    let falls = c.in_ok-turn.ensures.falls in
    let until = ap (λ (at : ℕ). g.H.Hall.pending at (2 ^ 64 - 1)) clock in
    let own =
    own_measure_still g.H.Hall.scale g.H.Hall.pending (g.H.Hall.state c.awaiting.hall).clock (g.H.Hall.state c.load_done.new.self).clock
    c.awaiting.self.party.core clock in
    omega (arith, is.measure, falls, until, own)

-- a pause that ends at the end of the clock's type carries a clock no further that was there
paused_so : (scale old late new until sooner : ℕ) → late ≤ old → until ≤ late → sooner ≤ until → (new ≡ late) ⊎ (new ≤ sooner) → new ≤ old
paused_so scale old late new until sooner here past within goes =
    ⊎_elim (λ (same : new ≡ late). omega (arith, same, here)) (λ (below : new ≤ sooner). omega (arith, below, within, past, here)) goes

pub awaiting-preserved : goal.awaiting-preserved
awaiting-preserved g c =
    let was = c.awaiting.invariant in
    let loads = c.load_done.ensures in
    let is = c.turn.ensures in
    let one = c.in_ok-turn.ensures.turned in
    let old = g.H.Hall.state c.args.hall.now in
    let mid = g.H.Hall.state c.awaiting.hall in
    let late = g.H.Hall.state c.load_done.new.self in
    let here = c.number.ensures in
    let looked = in_others c.awaiting.self.party here loads.loaded.stays.slots loads.loaded.stays.mine loads.loaded.stays.others.later
    (in_tied was.stays) in
    let so_far = in_then was.stays looked in
    let found = c.load_done.result in
    let last = Notes (LoadedDone c.args.other found) ∷ [] in
    let zero = no_scale g.H.Hall.scale c.args.lines _ _ found c.requires.can (was.stays.waits.later.lines c.args.other) loads.loaded.known
    c.if-load_done-lines.false in
    let paused = c.in_ok-turn.ensures.paused.0 in
    record {
      waited = (
        (was.waited.0 ++ last) ++ one.0,
        did_then (did_then was.waited.1 (in_did was.stays (subst (λ (who : ℕ). Did who last mid late) here loads.loaded.did))) (in_did so_far one.1),
        waits_more old.count late.count (2 ^ 64 - 1) c.args.self.now c.awaiting.self c.turn.new.self c.in_ok-turn.field-0 (was.waited.0 ++ last) one.0
            so_far.waits.later.count is.context (looked_up was.waited.0 c.args.other found was.waited.2) one.2,
      );
      stays = in_then so_far is.stays;
      context = is.context ∙ was.context;
      asked = is.asks.asked ∙ was.asked;
      goes_on = g.met.H.Hall.goes_on_then _ _ _ was.goes_on (g.met.H.Hall.goes_on_then _ _ _ loads.goes_on is.goes_on);
      clock = λ clock.
          let past : 2 ^ 64 - 1 ≤ late.clock =
          clock.reads late.clock (2 ^ 64 - 1) (omega (arith, g.met.H.Hall.pending_most late.clock (2 ^ 64 - 1), zero)) in
          let still : late.clock ≤ old.clock = omega (arith, was.clock clock, loads.loaded.stays.others.clock) in
          let ends = paused_so g.H.Hall.scale old.clock late.clock (g.H.Hall.state c.turn.new.hall).clock (2 ^ 64 - 1) paused.sooner still past
          paused.is_sooner.within paused.goes in
          omega (arith, ends);
    }

pub returns-in_err-turn : goal.returns-in_err-turn
returns-in_err-turn g c =
    let was = c.awaiting.invariant in
    let loads = c.load_done.ensures in
    let is = c.turn.ensures in
    let here = c.number.ensures in
    let doer = c.args.self.now in
    let old = g.H.Hall.state c.args.hall.now in
    let mid = g.H.Hall.state c.awaiting.hall in
    let late = g.H.Hall.state c.load_done.new.self in
    let new = g.H.Hall.state c.turn.new.hall in
    let looked = in_others c.awaiting.self.party here loads.loaded.stays.slots loads.loaded.stays.mine loads.loaded.stays.others.later
    (in_tied was.stays) in
    let so_far = in_then was.stays looked in
    let all = in_then so_far is.stays in
    let found = c.load_done.result in
    let last = Notes (LoadedDone c.args.other found) ∷ [] in
    let one = c.in_err-turn.ensures.turned in
    let halts : HaltsLineHere doer.party.me doer c.turn.new.self old new c.args.line.now =
    stops_so doer c.turn.new.self old new c.args.line.now ((was.waited.0 ++ last) ++ one.0)
    (did_then (did_then was.waited.1 (in_did was.stays (subst (λ (who : ℕ). Did who last mid late) here loads.loaded.did))) (in_did so_far one.1))
    (stops_more old.count late.count (2 ^ 64 - 1) doer c.awaiting.self c.turn.new.self (was.waited.0 ++ last) one.0 so_far.waits.later.count is.context
    (looked_up was.waited.0 c.args.other found was.waited.2) one.2)
    (λ heap. ap (λ (part : HeapPart). part.entries) (all.waits.parts.part heap)) all.same (is.context ∙ was.context) in
    record {
      does = search rules;
      halts = on_err_any c.from_residual.result _ halts;
      clock = λ one. omega (arith, was.clock one, loads.loaded.stays.others.clock, c.in_err-turn.ensures.err.1);
      ready = (again_by doer c.turn.new.self all (is.context ∙ was.context) c.requires.ready).again;
      goes_on = g.met.H.Hall.goes_on_then _ _ _ was.goes_on (g.met.H.Hall.goes_on_then _ _ _ loads.goes_on is.goes_on);
    }
