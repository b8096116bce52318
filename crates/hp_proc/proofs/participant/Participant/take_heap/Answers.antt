-- The heap was taken, or another one holds it and the participant takes a turn.
use Rattle.std.proofs.Common.{rules, ◌≡◌, ◌∙◌, ℕ, ◌++◌, List, [], ◌∷◌, Some, None, refl, ap, sym, subst, arith}
use Rattle.std.proofs.lemmas.Result.{err_from_is_err_and}
use Rattle.std.specs.Prelude.{◌-◌, ◌^◌}
use Rattle.hp_hall.specs.HallState.{Did, HasMapped}
use Rattle.hp_hall.specs.Holding.{HeapPart}
use Rattle.hp_hall.specs.Mail.{MailStep, Takes}
use Rattle.hp_hall.specs.declared.kept.Kept.{Kept}
use Rattle.hp_hall.specs.declared.kept.Kept.TheVariants.{Heap}
use Rattle.hp_hall.proofs.HallStates.{did_same, did_then, later_then, may_still}
use Rattle.hp_proc.specs.Acting.{Acts}
use Rattle.hp_proc.specs.Contexts.{Context}
use Rattle.hp_proc.specs.Doing.{Doing}
use Rattle.hp_proc.specs.Heaps.{sockets_of}
use Rattle.hp_proc.specs.Halting.{Halts}
use Rattle.hp_proc.specs.Doing.Done.{HeapSeen}
use Rattle.hp_proc.specs.LineInHall.{HasCalledBeside, IsBesideTheNames, SeesHeap, moment}
use Rattle.hp_proc.specs.Progress.{Does, in_hand, with_hand}
use Rattle.hp_serve.proofs.AskingFacts.AskedAlong.{on_err_any}
use Rattle.hp_serve.proofs.Carrying.{same_party}
use Rattle.hp_proc.proofs.Halted.{halts_by, stops_more}
use Rattle.hp_proc.proofs.HandFacts.HandCalls.{hand_serves}
use Rattle.hp_proc.proofs.HandFacts.HandGiven.{ready_still, settled_taken, take_shows, taken_in_hand, took_armed, took_hand, took_serves, waits_more}
use Rattle.hp_proc.proofs.HandFacts.BesideNames.{agree_alike, beside_can, beside_in, beside_may, names_but, names_stay, names_then, told_taken, took_agrees}
use Rattle.hp_proc.proofs.HandFacts.Holds.{knew_same}
use Rattle.hp_proc.proofs.HandFacts.SeenHeap.{does_seen, may_taken, on_err_match, waited_told}
use Rattle.hp_proc.proofs.WaitsAside.{turn_aside}
use Rattle.hp_serve.proofs.InHalls.{in_can, in_did, in_may, in_others, in_same, in_then, in_tied, marked_taken, tied_later}
use Rattle.hp_proc.proofs.Joining.{does_still}
use Rattle.hp_serve.proofs.Scaled.{own_measure_still}
use Rattle.hp_proc.proofs.HandFacts.HandMarks.{noted_same}
use Rattle.hp_serve.specs.InHall.{marked_in}
use Rattle.hp_proc.proofs.participant.Participant.take_heap.Goals as goal

pub taking-init : goal.taking-init
taking-init g c =
    let old = g.H.Hall.state c.args.hall.now in
    record {
      waited = ([], did_same _ old, Acts.nothing None c.args.self.now);
      stays = in_same c.args.self.now.party.me c.args.self.now.party old c.requires.ready.tied;
      context = refl;
      asked = refl;
      told = refl;
      goes_on = g.met.H.Hall.goes_on_same _;
      clock = λ one. omega arith;
    }

pub try_take-requires-clause-serves : goal.try_take-requires-clause-serves
try_take-requires-clause-serves g c =
    subst (g.H.Hall.state c.taking.hall).serves (sym c.number.ensures)
    (in_may c.taking.invariant.stays (beside_may c.requires.ready)).serves

pub try_take-requires-clause-home : goal.try_take-requires-clause-home
try_take-requires-clause-home g c =
    c.taking.invariant.stays.waits.slots.home c.args.index
    (c.requires.ready.free.home c.args.index (omega (arith, c.requires.few)) (λ same. omega (arith, c.requires.few, same)))

-- IT IS TAKEN

pub returns-in-Ok : goal.returns-in-Ok
returns-in-Ok g c =
    let was = c.taking.invariant in
    let is = c.in-Ok.ensures in
    let took = is.took in
    let doer = c.args.self.now in
    let me = doer.party.me in
    let old = g.H.Hall.state c.args.hall.now in
    let mid = g.H.Hall.state c.taking.hall in
    let new = g.H.Hall.state c.try_take.new.self in
    let heap = c.into_heap.result.0 in
    let pen = c.into_heap.result.1 in
    let kept = c.in-Ok.kept in
    let mine = c.number.ensures ∙ was.stays.same.me in
    let shown =
    take_shows me c.number.result c.args.index kept heap pen mid.part new.part new.heard mine c.into_heap.ensures took.fits took.sound took.pairs
    took.entries took.marks took.stands took.claimed took.part in
    let marks = marked_taken (Heap heap pen) (mid.part me) (new.part me) (shown.here, shown.apart) in
    let later = later_then was.stays.waits.later is.others.later in
    let seen = later.seen me in
    let heard = later.heard me in
    let before = was.stays.waits.later.heard me in
    let last = is.others.later.heard me in
    let free = (beside_in doer c.taking.self was.stays was.context c.requires.ready).free in
    let joined = subst (λ (who : ℕ). new.joined who ≡ mid.joined who) mine took.joined in
    let step =
    subst (λ (kept : Kept). Did me (Takes heap.plain.index kept ∷ []) mid new) c.into_heap.ensures
    (subst (λ (index : ℕ). Did me (Takes index kept ∷ []) mid new) (sym shown.index)
    (subst (λ (who : ℕ). Did who (Takes c.args.index kept ∷ []) mid new) mine took.did)) in
    let ready =
    ready_still doer doer (old.part me) (mid.part me) (old.seen me) (mid.seen me) (old.heard me) (mid.heard me) before.0 (same_party doer.party) refl
    was.stays.waits.parts.part before.1 c.requires.ready.ready in
    let out =
    subst (λ (kept : Kept). new.taken heap.plain.index ≡ Some kept) c.into_heap.ensures (ap new.taken shown.index ∙ took.taken) in
    let steps : List MailStep = was.waited.0 ++ Takes heap.plain.index (Heap heap pen) ∷ [] in
    let did : Did me steps old new = did_then was.waited.1 step in
    let entries : (index : ℕ) → (with_hand c.taking.self.party.me heap (new.part me) index).entries ≡ (old.part me index).entries =
    λ index.
    subst (λ (who : ℕ). (with_hand who heap (new.part me) index).entries ≡ (mid.part me index).entries) (sym was.stays.same.me)
    (took_hand heap (mid.part me) (new.part me) shown.here shown.apart me shown.has index)
    ∙ ap (λ (part : HeapPart). part.entries) (was.stays.waits.parts.part index) in
    let serves : (index : ℕ) → (with_hand c.taking.self.party.me heap (new.part me) index).serves ≡ (old.part me index).serves =
    λ index.
    hand_serves c.taking.self.party.me heap (new.part me) index
    ∙ took_serves heap (mid.part me) (new.part me) shown.here shown.apart index
    ∙ ap (λ (part : HeapPart). part.serves) (was.stays.waits.parts.part index) in
    record {
      did = λ doing.
          subst (λ (index : ℕ). Does (index ∷ []) old.count (λ (steps : List MailStep). Did me steps old new) doing doing (moment me doer old)
          (in_hand heap (moment me c.taking.self new))) shown.index
          (does_still old.count (λ (steps : List MailStep). Did me steps old new) doing (moment me doer old) (in_hand heap (moment me c.taking.self new))
          steps did
          (Acts.and_then None None (Some heap.plain.index) [] (heap.plain.index ∷ []) doer c.taking.self c.taking.self [] [] was.waited.0
          (Takes heap.plain.index (Heap heap pen) ∷ []) was.waited.2
          (Acts.takes_heap c.taking.self heap pen shown.few))
          entries serves was.stays.same was.context was.asked seen.0 seen.1 heard.0 heard.1);
      sees = λ external goes.
          subst (λ (index : ℕ). SeesHeap index me doer c.taking.self heap old new goes) shown.index
          (let seen_as = does_seen old.count (λ (steps : List MailStep). Did me steps old new) heap goes (moment me doer old)
          (in_hand heap (moment me c.taking.self new)) steps external shown.sound did
          (Acts.and_then None None (Some heap.plain.index) [] (heap.plain.index ∷ []) doer c.taking.self c.taking.self []
          (HeapSeen heap.plain.index heap.history ∷ []) was.waited.0 (Takes heap.plain.index (Heap heap pen) ∷ []) was.waited.2
          (Acts.sees_heap c.taking.self heap pen shown.few))
          entries serves was.stays.same was.context was.asked seen.0 seen.1 heard.0 heard.1 in
          record { does = seen_as.0; history = heap.history; alone = seen_as.1 });
      hand = record {
        holds = record {
          can = record {
            may = may_taken c.requires.few is.others.later is.slots
                (may_still was.stays.waits.slots was.stays.waits.later (beside_may c.requires.ready));
            tied = tied_later me c.taking.self.party is.others.later joined (subst (λ (who : ℕ). new.own who ≡ mid.own who) mine took.own)
                marks was.stays.tied;
          };
          marks = shown.marks ∙ sym (marks heap.plain.index);
          chunks = λ index.
              noted_same index (marked_in me old index) (marked_in me new index) doer.context c.taking.self.context
              (marks index ∙ ap (λ (part : HeapPart). part.marked) (was.stays.waits.parts.part index)) was.context (c.requires.ready.chunks index);
          in_hand = taken_in_hand heap (mid.part me) (new.part me) shown.here shown.apart new.taken doer c.taking.self (mid.seen me)
              (new.seen me) (mid.heard me) (new.heard me) pen was.stays.same was.context ready out shown.pairs shown.few shown.has shown.stands shown.sound;
          settled = settled_taken (mid.part me) (new.part me) (mid.heard me) (new.heard me) last.0 last.1
              (took_armed heap (mid.part me) (new.part me) shown.here shown.apart) ready.settled heap.plain.index shown.claimed
              (λ other away. ap (λ (part : HeapPart). part.holding) (shown.apart other away) ∙ ready.unheld other);
          attached = joined
              ∙ (was.stays.waits.parts.joined
              ∙ (c.requires.ready.attached ∙ sym (ap (λ (context : Context). context.standing.attached) was.context)));
          named = (later.named me).sockets
              ∙ (c.requires.ready.named ∙ sym (ap (λ (context : Context). sockets_of context.pools) was.context));
          mapped = subst (λ (who : ℕ). HasMapped who new) mine took.mapped;
        };
        index = shown.index;
        taken_with = record { heap = heap; out = out };
        as_taken = record { was = heap; pen = pen; out = out; same = refl; left = refl };
      };
      same = was.stays.same;
      context = was.context;
      slots = record {
        taken = λ number apart away. is.slots.taken number apart ∙ free.taken number away;
        home = λ number few apart. is.slots.home number apart (free.home number (omega (arith, few)) (λ same. omega (arith, few, same)));
        names = names_then (names_stay was.stays.waits.slots was.told) (names_but c.requires.few is.slots (told_taken step));
      };
      halts = tt;
      err = tt;
      agreed = λ names agree.
          took_agrees heap (mid.part me) (new.part me) shown.few shown.here shown.apart shown.stands names
          (agree_alike (old.part me) (mid.part me) (λ index. ap (λ (part : HeapPart). part.naming) (was.stays.waits.parts.part index))
          (λ index. ap (λ (part : HeapPart). part.claims) (was.stays.waits.parts.part index)) agree);
      clock = λ one. omega (arith, was.clock one, is.others.clock);
      goes_on = g.met.H.Hall.goes_on_then _ _ _ was.goes_on is.goes_on;
    }

-- ANOTHER ONE HOLDS IT

pub turn-requires : goal.turn-requires
turn-requires g c =
    let was = c.taking.invariant in
    let is = c.in-Err.ensures in
    record {
      can = in_can
          (in_others c.taking.self.party c.number.ensures is.held.slots is.held.mine is.others.later (in_tied was.stays))
          (in_can was.stays (beside_can c.requires.ready));
      before = g.met.H.Hall.busy_pending c.try_take.new.self _ (c.args.index, _, is.held.found);
    }

pub taking-smaller : goal.taking-smaller
taking-smaller g c =
    let lighter = c.in-Err.ensures.measure in
    let clock = c.in-Err.ensures.others.clock in
    let falls = c.in_ok-turn-in-Err.ensures.falls in
    let until = ap (λ (at : ℕ). g.H.Hall.pending at (2 ^ 64 - 1)) clock in
    let own =
    own_measure_still g.H.Hall.scale g.H.Hall.pending (g.H.Hall.state c.taking.hall).clock (g.H.Hall.state c.try_take.new.self).clock
    c.taking.self.party.core clock in
    omega (arith, lighter, falls, until, own)

pub taking-preserved : goal.taking-preserved
taking-preserved g c =
    let was = c.taking.invariant in
    let tried = c.in-Err.ensures in
    let is = c.turn.ensures in
    let one = c.in_ok-turn-in-Err.ensures.turned in
    let old = g.H.Hall.state c.args.hall.now in
    let mid = g.H.Hall.state c.taking.hall in
    let late = g.H.Hall.state c.try_take.new.self in
    let here = c.number.ensures in
    let looked = in_others c.taking.self.party here tried.held.slots tried.held.mine tried.others.later (in_tied was.stays) in
    let so_far = in_then was.stays looked in
    record {
      waited = (
        was.waited.0 ++ one.0,
        did_then was.waited.1
            (did_then (in_did was.stays (subst (λ (who : ℕ). Did who [] mid late) here tried.held.did)) (in_did so_far one.1)),
        waits_more old.count late.count (2 ^ 64 - 1) c.args.self.now c.taking.self c.turn.new.self c.in_ok-turn-in-Err.field-0 was.waited.0 one.0
            so_far.waits.later.count is.context was.waited.2 one.2,
      );
      stays = in_then so_far is.stays;
      context = is.context ∙ was.context;
      asked = is.asks.asked ∙ was.asked;
      told = waited_told c.args.self.now.party.me old mid late (g.H.Hall.state c.turn.new.hall) was.told (in_did was.stays (subst (λ (who : ℕ). Did who [] mid late) here tried.held.did)) one.0
          (turn_aside _ late.count (2 ^ 64 - 1) c.taking.self.party c.turn.new.self.party one.0 _ one.2) (in_did so_far one.1);
      goes_on = g.met.H.Hall.goes_on_then _ _ _ was.goes_on (g.met.H.Hall.goes_on_then _ _ _ tried.goes_on is.goes_on);
      clock = λ one. absurd (one.free c.try_take.new.self (c.args.index, _, tried.held.found));
    }

-- SOMEBODY STOPPED

pub returns-in_err-turn-in-Err : goal.returns-in_err-turn-in-Err
returns-in_err-turn-in-Err g c =
    let was = c.taking.invariant in
    let tried = c.in-Err.ensures in
    let is = c.turn.ensures in
    let here = c.number.ensures in
    let all =
    in_then (in_then was.stays (in_others c.taking.self.party here tried.held.slots tried.held.mine tried.others.later (in_tied was.stays))) is.stays in
    let ready = beside_in c.args.self.now c.turn.new.self all (is.context ∙ was.context) c.requires.ready in
    let doer = c.args.self.now in
    let me = doer.party.me in
    let old = g.H.Hall.state c.args.hall.now in
    let mid = g.H.Hall.state c.taking.hall in
    let late = g.H.Hall.state c.try_take.new.self in
    let new = g.H.Hall.state c.turn.new.hall in
    let so_far = in_then was.stays (in_others c.taking.self.party here tried.held.slots tried.held.mine tried.others.later (in_tied was.stays)) in
    let one = c.in_err-turn-in-Err.ensures.turned in
    let halts : (doing : Doing) → Halts (c.args.index ∷ []) old.count (λ (steps : List MailStep). Did me steps old new) doing
    (moment me doer old) (moment me c.turn.new.self new) =
    λ doing.
    halts_by (c.args.index ∷ []) old.count (λ (steps : List MailStep). Did me steps old new) doing (moment me doer old)
    (moment me c.turn.new.self new) (was.waited.0 ++ one.0)
    (did_then was.waited.1
    (did_then (in_did was.stays (subst (λ (who : ℕ). Did who [] mid late) here tried.held.did)) (in_did so_far one.1)))
    (stops_more old.count late.count (2 ^ 64 - 1) doer c.taking.self c.turn.new.self was.waited.0 one.0 so_far.waits.later.count is.context
    was.waited.2 one.2)
    (λ heap. ap (λ (part : HeapPart). part.entries) (all.waits.parts.part heap)) all.same (is.context ∙ was.context) in
    let names : IsBesideTheNames me old new =
    names_stay all.waits.slots
    (waited_told me old mid late new was.told (in_did was.stays (subst (λ (who : ℕ). Did who [] mid late) here tried.held.did)) one.0
    (turn_aside _ late.count (2 ^ 64 - 1) c.taking.self.party c.turn.new.self.party one.0 _ one.2) (in_did so_far one.1)) in
    let called : HasCalledBeside me doer c.turn.new.self old new = record {
      same = all.same;
      but = ready;
      context = knew_same doer.context c.turn.new.self.context (is.context ∙ was.context);
      names = names;
    } in
    record {
      did = search rules;
      sees = search rules;
      halts = on_err_any c.from_residual.result _ halts;
      hand = search rules;
      slots = record {
        taken = λ number apart away. ready.free.taken number away;
        home = λ number few apart. ready.free.home number (omega (arith, few)) (λ same. omega (arith, few, same));
        names = names;
      };
      err = on_err_any c.from_residual.result _ called;
      agreed = on_err_match c.from_residual.result _ _ (err_from_is_err_and c.from_residual.result c.from_residual.ensures.1).1
          (λ stop names. agree_alike (old.part me) (new.part me) (λ index. ap (λ (part : HeapPart). part.naming) (all.waits.parts.part index))
          (λ index. ap (λ (part : HeapPart). part.claims) (all.waits.parts.part index)));
      same = all.same;
      context = is.context ∙ was.context;
      clock = λ one. absurd (one.free c.try_take.new.self (c.args.index, _, tried.held.found));
      goes_on = g.met.H.Hall.goes_on_then _ _ _ was.goes_on (g.met.H.Hall.goes_on_then _ _ _ tried.goes_on is.goes_on);
    }
