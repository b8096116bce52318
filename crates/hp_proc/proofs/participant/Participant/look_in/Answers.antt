-- The element is not in the heap, or it was acted on and the coordinator is told where it has to be.
use Rattle.std.proofs.Common.{sym, ℕ, List, [], ◌∷◌, Option, subst, arith}
use Rattle.hp_proc.specs.Freeing.{acting, after_looking, left_of, looking}
use Rattle.hp_proc.specs.Progress.{Does}
use Rattle.hp_proc.specs.declared.element_act.Left.{Left}
use Rattle.hp_proc.specs.declared.searched_heap.SearchedHeap.{SearchedHeap}
use Rattle.hp_serve.proofs.AskingFacts.AskedAlong.{on_err_any}
use Rattle.hp_proc.proofs.Halted.{halts_more}
use Rattle.hp_proc.specs.LineInHall.{HaltsHere, IsReadyIn, did_in, moment}
use Rattle.hp_proc.proofs.HandFacts.Holds.{again_then, does_next}
use Rattle.hp_proc.proofs.participant.Participant.look_in.Goals as goal

pub returns-in_default-clause-does : goal.returns-in_default-clause-does
returns-in_default-clause-does g c = λ places.
    let doer = c.args.self.now in
    let me = doer.party.me in
    let old = g.H.Hall.state c.args.hall.now in
    let new = g.H.Hall.state c.look_there.new.hall in
    let place = c.args.place.now in
    let found = acting c.args.action in
    subst (λ (left : Option Left). Does (place.index ∷ []) old.count (did_in me old new) (looking c.args.tag found (place ∷ places))
    (after_looking place.index (looking c.args.tag found places) left) (moment me doer old) (moment me c.look_there.new.self new)) c.in_default.is
    (c.in_ok-left.ensures.does places)

pub tell-requires : goal.tell-requires
tell-requires g c =
    let me = c.look_there.ensures.ready.again.same.me in
    let looked = c.look_there.new.self in
    let mid = g.H.Hall.state c.look_there.new.hall in
    record { ready = subst (λ (who : ℕ). IsReadyIn who looked mid) (sym me) c.look_there.ensures.ready.again.ready }

pub returns-in_err-answer-clause-clock : goal.returns-in_err-answer-clause-clock
returns-in_err-answer-clause-clock g c = λ one.
    omega (arith, c.look_there.ensures.clock one, c.tell.ensures.clock one, c.look_there.ensures.ready.again.same.deadline)

pub returns-in_err-answer-clause-ready : goal.returns-in_err-answer-clause-ready
returns-in_err-answer-clause-ready g c = again_then c.args.self.now c.look_there.new.self c.tell.new.self c.look_there.ensures.ready c.tell.ensures.ready

pub returns-in_err-answer-clause-goes_on : goal.returns-in_err-answer-clause-goes_on
returns-in_err-answer-clause-goes_on g c = g.met.H.Hall.goes_on_then _ _ _ c.look_there.ensures.goes_on c.tell.ensures.goes_on

pub returns-clause-does : goal.returns-clause-does
returns-clause-does g c = λ places.
    let doer = c.args.self.now in
    let me = doer.party.me in
    let old = g.H.Hall.state c.args.hall.now in
    let mid = g.H.Hall.state c.look_there.new.hall in
    let new = g.H.Hall.state c.tell.new.hall in
    let looked = c.look_there.new.self in
    let place = c.args.place.now in
    let found = acting c.args.action in
    does_next me (moment me doer old) (λ who. moment who looked mid) (λ who. moment who c.tell.new.self new) c.look_there.ensures.ready.again.same.me
    ((g.met.H.Hall.goes_on_later _ _ c.look_there.ensures.goes_on).count)
    (subst (λ (left : Option Left). Does (place.index ∷ []) old.count (did_in me old mid) (looking c.args.tag found (place ∷ places))
    (after_looking place.index (looking c.args.tag found places) left) (moment me doer old) (moment me looked mid)) c.in-Some.is
    (c.in_ok-left.ensures.does places)) c.in_ok-answer.ensures.does

pub returns-clause-clock : goal.returns-clause-clock
returns-clause-clock g c = λ one.
    omega (arith, c.look_there.ensures.clock one, c.tell.ensures.clock one, c.look_there.ensures.ready.again.same.deadline)

pub returns-clause-ready : goal.returns-clause-ready
returns-clause-ready g c = again_then c.args.self.now c.look_there.new.self c.tell.new.self c.look_there.ensures.ready c.tell.ensures.ready

pub returns-clause-goes_on : goal.returns-clause-goes_on
returns-clause-goes_on g c = g.met.H.Hall.goes_on_then _ _ _ c.look_there.ensures.goes_on c.tell.ensures.goes_on

pub returns-in_default-clause-clock : goal.returns-in_default-clause-clock
returns-in_default-clause-clock g c = λ one. omega (arith, c.look_there.ensures.clock one)

pub returns-in_err-left-clause-clock : goal.returns-in_err-left-clause-clock
returns-in_err-left-clause-clock g c = λ one. omega (arith, c.look_there.ensures.clock one)

pub returns-in_err-answer-clause-halts : goal.returns-in_err-answer-clause-halts
returns-in_err-answer-clause-halts g c =
    let doer = c.args.self.now in
    let me = doer.party.me in
    let old = g.H.Hall.state c.args.hall.now in
    let mid = g.H.Hall.state c.look_there.new.hall in
    let new = g.H.Hall.state c.tell.new.hall in
    let looked = c.look_there.new.self in
    let place = c.args.place.now in
    let found = acting c.args.action in
    let halts : (places : List SearchedHeap) → HaltsHere (place.index ∷ []) me doer c.tell.new.self old new (looking c.args.tag found (place ∷ places)) =
    λ places.
    halts_more [] old mid new looked.party.me me (λ moment. moment) (λ moment. moment) looked c.tell.new.self (moment me doer old)
    (looking c.args.tag found (place ∷ places)) c.look_there.ensures.ready.again.same.me
    ((g.met.H.Hall.goes_on_later _ _ c.look_there.ensures.goes_on).count) (left_of place.index c.in-Some.left)
    (subst (λ (left : Option Left). Does (place.index ∷ []) old.count (did_in me old mid) (looking c.args.tag found (place ∷ places))
    (after_looking place.index (looking c.args.tag found places) left) (moment me doer old) (moment me looked mid)) c.in-Some.is
    (c.in_ok-left.ensures.does places)) c.in_err-answer.ensures.halts in
    on_err_any _ _ halts
