-- The names say which heap it is, and its newest statistics are read.
use Rattle.std.proofs.Common.{◌≡◌, ◌∙◌, ◌<◌, ℕ, [], Option, None, refl, sym, subst}
use Rattle.hp_hall.specs.HallCalls.{HasReadPair}
use Rattle.hp_hall.specs.HallState.{Stays}
use Rattle.hp_script.specs.declared.line.Act.{Act}
use Rattle.hp_stats.specs.Pairs.{pair}
use Rattle.hp_proc.specs.LineTrees.{doing_of}
use Rattle.hp_proc.specs.Courses.{HasLineRequest}
use Rattle.hp_proc.specs.LineInHall.{HaltsLineHere, HasReadNames, IsReadyIn, did_in, moment}
use Rattle.hp_proc.specs.declared.searched_heap.SearchedHeap.{SearchedHeap}
use Rattle.hp_serve.proofs.AskingFacts.AskedAlong.{on_err_any}
use Rattle.hp_serve.proofs.InHalls.{in_others}
use Rattle.hp_proc.proofs.Halted.{line_halted}
use Rattle.hp_proc.proofs.HandFacts.Holds.{again_by}
use Rattle.hp_proc.proofs.LineFacts.{facts_for, facts_known}
use Rattle.hp_proc.proofs.LookedUp.{place_is}
use Rattle.hp_proc.proofs.HandFacts.OnceHeld.{once_none}
use Rattle.hp_proc.proofs.StatsLines.{counts_heap, lacks_heap}
use Rattle.hp_proc.proofs.participant.Participant.do_stats.Goals as goal

pub returns-in_default-clause-does : goal.returns-in_default-clause-does
returns-in_default-clause-does g c =
    let doer = c.args.self.now in
    let mid = c.read_place.new.self in
    let old = g.H.Hall.state c.args.hall.now in
    let at = g.H.Hall.state c.read_place.new.hall in
    lacks_heap doer mid old at c.args.line.now c.args.name.now c.requires.act c.requires.attached c.read_place.ensures.ready.again.same.me
    (g.met.H.Hall.goes_on_later _ _ c.read_place.ensures.goes_on).count
    (subst (λ (found : Option SearchedHeap). HasReadNames doer.party.me doer mid c.args.name.now.text found old at) c.in_default.is
    c.in_ok-place.ensures.read)

pub returns-in_default-clause-ready : goal.returns-in_default-clause-ready
returns-in_default-clause-ready g c = c.read_place.ensures.ready.again

pub read-entries-requires-clause-serves : goal.read-entries-requires-clause-serves
read-entries-requires-clause-serves g c =
    subst (g.H.Hall.state c.read_place.new.hall).serves (sym (c.number.ensures ∙ c.read_place.ensures.ready.again.same.me))
    c.read_place.ensures.ready.again.ready.idle.serves

pub read-entries-requires-clause-heap : goal.read-entries-requires-clause-heap
read-entries-requires-clause-heap g c = (place_is c.in_ok-place.ensures.read c.in-Some.place c.in-Some.is).few

pub returns-clause-does : goal.returns-clause-does
returns-clause-does g c =
    let doer = c.args.self.now in
    let mid = c.read_place.new.self in
    let old = g.H.Hall.state c.args.hall.now in
    let at = g.H.Hall.state c.read_place.new.hall in
    let new = g.H.Hall.state c.read-entries.new.self in
    let place = c.in-Some.place in
    let handed = pair c.read-entries.result.0 c.read-entries.result.1 in
    counts_heap doer mid old at c.args.line.now c.args.name.now c.requires.act c.requires.attached c.read_place.ensures.ready.again.same.me
    (g.met.H.Hall.goes_on_later _ _ c.read_place.ensures.goes_on).count place handed new
    (subst (λ (found : Option SearchedHeap). HasReadNames doer.party.me doer mid c.args.name.now.text found old at) c.in-Some.is
    c.in_ok-place.ensures.read)
    (subst (λ (who : ℕ). HasReadPair who place.index handed at new) c.number.ensures c.read-entries.ensures.read)

pub returns-clause-goes_on : goal.returns-clause-goes_on
returns-clause-goes_on g c = g.met.H.Hall.goes_on_then _ _ _ c.read_place.ensures.goes_on c.read-entries.ensures.goes_on

-- what it read leaves it ready
pub returns-clause-ready : goal.returns-clause-ready
returns-clause-ready g c =
    let mid = c.read_place.new.self in
    let at = g.H.Hall.state c.read_place.new.hall in
    let new = g.H.Hall.state c.read-entries.new.self in
    let first = c.read_place.ensures.ready.again in
    let here : IsReadyIn mid.party.me mid at = subst (λ (who : ℕ). IsReadyIn who mid at) (sym first.same.me) first.ready in
    let stays : Stays mid.party.me at new = subst (λ (who : ℕ). Stays who at new) c.number.ensures c.read-entries.ensures.read.stays in
    let again = (again_by mid mid (in_others mid.party refl stays.slots stays.mine stays.others.later here.idle.tied) refl here).again in
    record { same = first.same; ready = subst (λ (who : ℕ). IsReadyIn who mid new) first.same.me again.ready }

-- somebody stopped before it had the names
pub returns-in_err-place-clause-ready : goal.returns-in_err-place-clause-ready
returns-in_err-place-clause-ready g c = c.read_place.ensures.ready.again

pub returns-in_err-place-clause-halts : goal.returns-in_err-place-clause-halts
returns-in_err-place-clause-halts g c =
    let doer = c.args.self.now in
    let me = doer.party.me in
    let old = g.H.Hall.state c.args.hall.now in
    let new = g.H.Hall.state c.read_place.new.hall in
    let line = c.args.line.now in
    let facts = facts_for doer.party.socket doer.context line.act None in
    let halts : HaltsLineHere me doer c.read_place.new.self old new line =
    line_halted old.count (did_in me old new) line (moment me doer old) (moment me c.read_place.new.self new) facts
    (facts_known doer.party.socket doer.context line None (subst (λ (deed : Act). HasLineRequest deed None) (sym c.requires.act) tt))
    (doing_of line line.act facts) refl refl ([], once_none, c.in_err-place.ensures.halts (doing_of line line.act facts)) in
    on_err_any c.from_residual.result _ halts
