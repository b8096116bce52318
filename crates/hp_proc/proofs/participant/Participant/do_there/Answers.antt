-- The heap is held, the line's act is done with it and the names, and the heap is given back.
use Rattle.std.proofs.Common.{◌∙◌, ◌∷◌, ◌≡◌, [], ap, arith, inr, subst, sym, ℕ}
use Rattle.hp_heap.specs.PlainHeap.{PlainHeap}
use Rattle.hp_proc.proofs.NamedTrees.{Notices, external_at, notices}
use Rattle.hp_proc.proofs.ThereDone.{holds_there, its_number, on_err_map, ready_stopped, ready_there, serves_none, stopped_there, there_does, there_halts, took_there}
use Rattle.hp_proc.proofs.participant.Participant.do_there.Goals as goal
use Rattle.hp_proc.specs.Contexts.{Context}
use Rattle.hp_proc.specs.Doing.{Doing}
use Rattle.hp_proc.specs.Handing.{shared_of}
use Rattle.hp_proc.specs.LineInHall.{MayGiveBeside, SeesHeap, did_in, moment, moment_with}
use Rattle.hp_proc.specs.LineTrees.{doing_held, doing_named}
use Rattle.hp_proc.specs.MarksInHand.{HoldsNamedMarked, NotesAct}
use Rattle.hp_proc.specs.NamesInHand.{DoesNamed, HaltsNamed, IsIndexMeant, IsReadyNamed}
use Rattle.hp_proc.specs.Progress.{AreSettled, Does, IsInHand}
use Rattle.hp_serve.proofs.AskingFacts.AskedAlong.{if_ok, on_err_any}

pub hold-requires-clause-ready : goal.hold-requires-clause-ready
hold-requires-clause-ready g c = c.requires.ready.but

pub hold-requires-clause-beside : goal.hold-requires-clause-beside
hold-requires-clause-beside g c = inr c.requires.ready.told

pub do_held-given-requires-clause-holds : goal.do_held-given-requires-clause-holds
do_held-given-requires-clause-holds g c =
    let doer = c.args.self.now in
    let me = doer.party.me in
    let mid = c.hold.new.self in
    let heap = c.in_ok-heap.heap in
    let names = c.args.names.now in
    let from = g.H.Hall.state c.args.hall.now in
    let at = g.H.Hall.state c.hold.new.hall in
    let hold = c.hold.ensures in
    let took = c.in_ok-heap.ensures in
    let hand = took.hand in
    let did = subst (λ (index : ℕ). (doing : Doing) → Does (index ∷ []) from.count (did_in me from at) doing doing (moment me doer from)
    (moment_with heap me mid at)) (sym hand.index) took.did in
    let holds = holds_there doer mid names heap c.requires.ready hold.same hold.context hold.slots.names hand.holds hand.as_taken took.agreed did in
    subst (λ (who : ℕ). HoldsNamedMarked who mid names heap at) (sym hold.same.me) holds

pub do_held-given-requires-clause-serves : goal.do_held-given-requires-clause-serves
do_held-given-requires-clause-serves g c =
    let doer = c.args.self.now in
    let me = doer.party.me in
    let mid = c.hold.new.self in
    let heap = c.in_ok-heap.heap in
    let names = c.args.names.now in
    let from = g.H.Hall.state c.args.hall.now in
    let at = g.H.Hall.state c.hold.new.hall in
    let hold = c.hold.ensures in
    let took = c.in_ok-heap.ensures in
    let hand = took.hand in
    let did = subst (λ (index : ℕ). (doing : Doing) → Does (index ∷ []) from.count (did_in me from at) doing doing (moment me doer from)
    (moment_with heap me mid at)) (sym hand.index) took.did in
    let holds = holds_there doer mid names heap c.requires.ready hold.same hold.context hold.slots.names hand.holds hand.as_taken took.agreed did in
    let meant = subst (IsIndexMeant c.args.act.now names.heaps.plain) (sym hand.index) c.requires.meant in
    let sockets = c.requires.ready.sockets in
    let none = external_at me doer.context.pools names c.requires.ready.sound.1 sockets c.args.act.now heap.plain.index c.requires.external meant in
    serves_none mid names heap me at holds none

pub put-requires : goal.put-requires
put-requires g c =
    let between = g.H.Hall.state c.do_held-given.new.hall in
    let new = c.do_held-given.new.self in
    let next = c.do_held-given.new.heap in
    let keeps = c.do_held-given.ensures.keeps in
    let own = keeps.same.me in
    let pen = c.in_ok-heap.ensures.hand.taken_with in
    record {
      serves = subst between.serves (sym own) keeps.holds.holds.may.serves;
      in_hand = subst (λ (who : ℕ). IsInHand between.taken (moment who new between) next) (sym own) keeps.holds.holds.in_hand;
      settled = subst (λ (who : ℕ). AreSettled (moment who new between)) (sym own) keeps.holds.holds.settled;
      taken_with = record {
        heap = pen.heap;
        out = ap between.taken keeps.index ∙ (keeps.slots.taken c.in_ok-heap.heap.plain.index ∙ pen.out);
      };
      beside = subst (λ (who : ℕ). MayGiveBeside who between) (sym own) (inr keeps.holds.told);
    }

pub returns : goal.returns
returns g c =
    let doer = c.args.self.now in
    let me = doer.party.me in
    let mid = c.hold.new.self in
    let heap = c.in_ok-heap.heap in
    let names = c.args.names.now in
    let from = g.H.Hall.state c.args.hall.now in
    let at = g.H.Hall.state c.hold.new.hall in
    let hold = c.hold.ensures in
    let took = c.in_ok-heap.ensures in
    let hand = took.hand in
    let did = subst (λ (index : ℕ). (doing : Doing) → Does (index ∷ []) from.count (did_in me from at) doing doing (moment me doer from)
    (moment_with heap me mid at)) (sym hand.index) took.did in
    let holds = holds_there doer mid names heap c.requires.ready hold.same hold.context hold.slots.names hand.holds hand.as_taken took.agreed did in
    let meant = subst (IsIndexMeant c.args.act.now names.heaps.plain) (sym hand.index) c.requires.meant in
    let sockets = c.requires.ready.sockets in
    let none = external_at me doer.context.pools names c.requires.ready.sound.1 sockets c.args.act.now heap.plain.index c.requires.external meant in
    let serves = serves_none mid names heap me at holds none in
    let between = g.H.Hall.state c.do_held-given.new.hall in
    let to = g.H.Hall.state c.put.new.hall in
    let new = c.do_held-given.new.self in
    let next = c.do_held-given.new.heap in
    let given = c.do_held-given.new.names in
    let keeps = c.do_held-given.ensures.keeps in
    let put = c.put.ensures in
    let own : new.party.me ≡ me = keeps.same.me ∙ hold.same.me in
    let shared = shared_of names in
    let pools = doer.context.pools in
    let tree = doing_named me pools c.args.act.now shared in
    let held = doing_held mid.party.me mid.context.pools c.args.act.now shared heap.plain in
    let sees = subst (λ (index : ℕ). (goes : PlainHeap → Doing) → SeesHeap index me doer mid heap from at goes) (sym hand.index) (took.sees serves) in
    let notice = notices me pools names c.requires.ready.sound.1 sockets heap.plain (its_number mid names heap me at holds) c.args.act.now
    c.requires.external meant in
    let takes = took_there doer mid names heap from at tree held did sees
    (subst (λ (who : ℕ). Notices heap.plain tree (doing_held who mid.context.pools c.args.act.now shared heap.plain)) (sym hold.same.me)
    (subst (λ (context : Context). Notices heap.plain tree (doing_held me context.pools c.args.act.now shared heap.plain)) (sym hold.context) notice)) in
    let many = (g.met.H.Hall.goes_on_later _ _ hold.goes_on).count in
    let more = (g.met.H.Hall.goes_on_later _ _ c.do_held-given.ensures.goes_on).count in
    record {
      does = if_ok _ _ c.do_held-given.result
          (λ said was.
          subst (λ (index : ℕ). DoesNamed (index ∷ []) me doer new names given from to tree (Doing.Ended said)) hand.index
          (there_does heap.plain.index doer mid new names given heap next tree held takes hold.same.me own many (more ∙ many) put.does (Doing.Ended said)
          was)) c.do_held-given.ensures.does;
      halts = on_err_map c.do_held-given.result
          (λ was.
          subst (λ (index : ℕ). HaltsNamed (index ∷ []) me doer new names given from to tree) hand.index
          (there_halts heap.plain.index doer mid new names given heap next tree held takes hold.same.me own many (more ∙ many) put.does was))
          c.do_held-given.ensures.halts;
      ready = subst (λ (who : ℕ). IsReadyNamed who new given to) own
          (ready_there me c.args.index new given next hold.slots (subst (λ (who : ℕ). HoldsNamedMarked who new given next between) (sym keeps.same.me) keeps.holds)
          (keeps.index ∙ hand.index) keeps.slots put.does put.ready put.marks put.tied put.table put.agreed put.free put.slots put.others);
      noted = if_ok _ _ c.do_held-given.result
          (λ said was.
          subst (λ (index : ℕ). NotesAct c.args.act.now index said doer.context new.context) hand.index
          (subst (λ (context : Context). NotesAct c.args.act.now heap.plain.index said context new.context) hold.context was)) c.do_held-given.ensures.noted;
      clock = λ one. omega (arith, hold.clock one, keeps.others.clock, put.others.clock);
      goes_on = g.met.H.Hall.goes_on_then _ _ _ hold.goes_on (g.met.H.Hall.goes_on_then _ _ _ c.do_held-given.ensures.goes_on put.goes_on);
    }

-- IT STOPPED BEFORE THAT

pub returns-in_err-heap-clause-halts : goal.returns-in_err-heap-clause-halts
returns-in_err-heap-clause-halts g c =
    let doer = c.args.self.now in
    let names = c.args.names.now in
    let from = g.H.Hall.state c.args.hall.now in
    let to = g.H.Hall.state c.hold.new.hall in
    let tree = doing_named doer.party.me doer.context.pools c.args.act.now (shared_of names) in
    let halts : HaltsNamed (c.args.index ∷ []) doer.party.me doer c.hold.new.self names names from to tree =
    stopped_there doer c.hold.new.self names (c.args.index ∷ []) c.requires.ready c.in_err-heap.ensures.halts tree in
    on_err_any _ _ halts

pub returns-in_err-heap-clause-ready : goal.returns-in_err-heap-clause-ready
returns-in_err-heap-clause-ready g c =
    ready_stopped c.args.self.now c.hold.new.self c.args.names.now (c.args.index ∷ []) c.requires.ready c.in_err-heap.ensures.halts
    c.in_err-heap.ensures.err c.in_err-heap.ensures.agreed
