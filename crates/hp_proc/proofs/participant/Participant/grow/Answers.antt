-- One page size more is asked for, and a run was granted or none was so far.
use Rattle.std.proofs.Common.{rules, ◌≡◌, ◌≤◌, ◌<◌, ◌∙◌, ◌+◌, ◌∷◌, ℕ, Bool, List, [], drop, get_or, length, true, false, refl, ap, sym, subst, arith}
use Rattle.std.specs.Prelude.{◌^◌}
use Rattle.std.proofs.lemmas.List.{drop_all, drop_more}
use Rattle.hp_proc.specs.Allocating.{asking, after_asking, searching_again}
use Rattle.hp_serve.specs.Clocks.{longest_wait}
use Rattle.hp_proc.specs.Progress.{AreSettled, Does, IsInHand, in_hand}
use Rattle.hp_hall.specs.HallState.{HasMapped, IsBusy}
use Rattle.hp_hall.proofs.HallStates.{did_same, did_then, later_then, slots_then}
use Rattle.hp_heap.specs.History.{HeapView}
use Rattle.hp_proc.specs.Contexts.{Context}
use Rattle.hp_serve.specs.InHall.{IsTiedIn}
use Rattle.hp_proc.specs.LineInHall.{HaltsHeld, KnowsAsBefore, did_in, moment}
use Rattle.hp_base.specs.declared.tag.Tag.{Tag}
use Rattle.hp_proc.specs.Doing.{Doing}
use Rattle.hp_proc.specs.Halting.{Halts}
use Rattle.hp_proc.specs.Heaps.{page_sizes_for}
use Rattle.hp_serve.proofs.AskingFacts.AskedAlong.{on_err_any}
use Rattle.hp_proc.proofs.Halted.{halts_same, then_halts}
use Rattle.hp_proc.proofs.HallMoments.{does_more, told_alike}
use Rattle.hp_proc.proofs.HandFacts.BesideNames.{knows_same, knows_then}
use Rattle.hp_proc.proofs.HandFacts.Holds.{holds_on, keeps_after, keeps_same, knew_same}
use Rattle.hp_serve.proofs.InHalls.{in_same, remains_by}
use Rattle.hp_proc.proofs.Joining.{does_same}
use Rattle.hp_proc.proofs.Rising.{few_page_sizes, rises_more, rises_within}
use Rattle.hp_serve.specs.SegmentSlot.{MarksStay}
use Rattle.hp_hall.specs.Naming.{marked_by, naming_of}
use Rattle.hp_proc.proofs.participant.Participant.grow.Goals as goal

pub loop-page-init : goal.loop-page-init
loop-page-init g c = record {
  pages = search rules;
  does = λ tag otherwise. does_same _ _ _ _ (did_same _ _);
  holds = c.requires.holds;
  heap = refl;
  context = refl;
  knows = knows_same c.args.self.now.party.me (g.H.Hall.state c.args.hall.now);
  remains = remains_by (in_same c.args.self.now.party.me c.args.self.now.party (g.H.Hall.state c.args.hall.now) c.requires.holds.can.tied);
  goes_on = g.met.H.Hall.goes_on_same _;
  along = omega arith;
  clock = λ one. omega arith;
}

pub ask_in-requires-clause-holds : goal.ask_in-requires-clause-holds
ask_in-requires-clause-holds g c = c.loop-page.invariant.holds

pub ask_in-requires-clause-room : goal.ask_in-requires-clause-room
ask_in-requires-clause-room g c =
    let was = c.loop-page.invariant in
    record {
      spare = subst (λ (heap : HeapView). 1 ≤ heap.spare) (sym was.heap) c.requires.room.spare;
      counted = subst (λ (context : Context). context.calls + 1 < 2 ^ 64) (sym was.context) c.requires.room.counted;
    }

-- IT STOPPED

pub returns-in_err-ask_in-clause-keeps : goal.returns-in_err-ask_in-clause-keeps
returns-in_err-ask_in-clause-keeps g c = keeps_after c.loop-page.invariant.remains c.loop-page.invariant.knows c.loop-page.invariant.context c.loop-page.invariant.heap c.ask_in.ensures.keeps

pub returns-in_err-ask_in-clause-goes_on : goal.returns-in_err-ask_in-clause-goes_on
returns-in_err-ask_in-clause-goes_on g c = g.met.H.Hall.goes_on_then _ _ _ c.loop-page.invariant.goes_on c.ask_in.ensures.goes_on

pub returns-in_err-ask_in-clause-halts : goal.returns-in_err-ask_in-clause-halts
returns-in_err-ask_in-clause-halts g c =
    let items = c.deref-page-items.result.now in
    let was = c.loop-page.invariant in
    let doer = c.args.self.now in
    let me = doer.party.me in
    let first = g.H.Hall.state c.args.hall.now in
    let second = g.H.Hall.state c.loop-page.hall in
    let third = g.H.Hall.state c.ask_in.new.hall in
    let index = c.args.place.now.index in
    let socket = c.args.place.now.socket in
    let request = c.args.request.now in
    let before = in_hand c.args.heap.now (moment me doer first) in
    let count = (g.met.H.Hall.goes_on_later _ _ was.goes_on).count in
    let halts : (tag : Tag) (otherwise : Doing) → HaltsHeld me doer c.ask_in.new.self c.args.heap.now c.ask_in.new.heap first third
    (asking index socket request tag otherwise (page_sizes_for doer.context.pools socket request.flags)) =
    λ tag otherwise.
    let next = asking index socket request tag otherwise (drop (c.loop-page.page-index + 1) items) in
    let left = asking index socket request tag otherwise (get_or items c.loop-page.page-index 0 ∷ drop (c.loop-page.page-index + 1) items) in
    let here =
    subst (λ (left : List ℕ). Does [] first.count (did_in me first second) (asking index socket request tag otherwise items)
    (asking index socket request tag otherwise left) before (in_hand c.loop-page.heap (moment me c.loop-page.self second)))
    (drop_more items c.loop-page.page-index 0 c.loop-page-test.true) (was.does tag otherwise) in
    let there : Halts [] first.count (did_in me second third) left (in_hand c.loop-page.heap (moment me c.loop-page.self second))
    (in_hand c.ask_in.new.heap (moment me c.ask_in.new.self third)) =
    told_alike (λ count did before behind. Halts [] count did left before behind) second.count first.count second third c.loop-page.self.party.me me
    (in_hand c.loop-page.heap) (in_hand c.ask_in.new.heap) c.loop-page.self c.ask_in.new.self was.remains.same.me count
    (c.in_err-ask_in.ensures.halts tag next) in
    subst (λ (pages : List ℕ). Halts [] first.count (did_in me first third) (asking index socket request tag otherwise pages) before
    (in_hand c.ask_in.new.heap (moment me c.ask_in.new.self third))) was.pages
    (then_halts first.count (did_in me first second) (did_in me second third) (did_in me first third) before
    (in_hand c.loop-page.heap (moment me c.loop-page.self second)) (in_hand c.ask_in.new.heap (moment me c.ask_in.new.self third))
    (λ one two. did_then) [] (asking index socket request tag otherwise items) left here there) in
    on_err_any _ _ halts

pub returns-in_err-ask_in-clause-says : goal.returns-in_err-ask_in-clause-says
returns-in_err-ask_in-clause-says g c =
    c.ask_in.ensures.says ∙ ap (λ (heap : HeapView). naming_of heap.plain) c.loop-page.invariant.heap

-- A RUN WAS GRANTED

pub returns-then-branch-clause-says : goal.returns-then-branch-clause-says
returns-then-branch-clause-says g c =
    c.ask_in.ensures.says ∙ ap (λ (heap : HeapView). naming_of heap.plain) c.loop-page.invariant.heap

pub returns-then-branch-clause-keeps : goal.returns-then-branch-clause-keeps
returns-then-branch-clause-keeps g c = keeps_after c.loop-page.invariant.remains c.loop-page.invariant.knows c.loop-page.invariant.context c.loop-page.invariant.heap c.ask_in.ensures.keeps

pub returns-then-branch-clause-goes_on : goal.returns-then-branch-clause-goes_on
returns-then-branch-clause-goes_on g c = g.met.H.Hall.goes_on_then _ _ _ c.loop-page.invariant.goes_on c.ask_in.ensures.goes_on

pub returns-then-branch-clause-does : goal.returns-then-branch-clause-does
returns-then-branch-clause-does g c = λ tag otherwise.
    let items = c.deref-page-items.result.now in
    let was = c.loop-page.invariant in
    let me = c.args.self.now.party.me in
    let first = c.args.hall.now in
    let second = c.loop-page.hall in
    let third = c.ask_in.new.hall in
    let index = c.args.place.now.index in
    let socket = c.args.place.now.socket in
    let request = c.args.request.now in
    let next = asking index socket request tag otherwise (drop (c.loop-page.page-index + 1) items) in
    let before = in_hand c.args.heap.now (moment me c.args.self.now (g.H.Hall.state first)) in
    let here =
    subst (λ (left : List ℕ). Does [] (g.H.Hall.state first).count (did_in me (g.H.Hall.state first) (g.H.Hall.state second)) (asking index socket request tag otherwise items)
    (asking index socket request tag otherwise left) before (in_hand c.loop-page.heap (moment me c.loop-page.self (g.H.Hall.state second))))
    (drop_more items c.loop-page.page-index 0 c.loop-page-test.true) (was.does tag otherwise) in
    let there =
    subst (λ (granted : Bool). Does [] (g.H.Hall.state second).count (did_in c.loop-page.self.party.me (g.H.Hall.state second) (g.H.Hall.state third))
    (asking index socket request tag otherwise (get_or items c.loop-page.page-index 0 ∷ drop (c.loop-page.page-index + 1) items))
    (after_asking index request tag next granted)
    (in_hand c.loop-page.heap (moment c.loop-page.self.party.me c.loop-page.self (g.H.Hall.state second)))
    (in_hand c.ask_in.new.heap (moment c.loop-page.self.party.me c.ask_in.new.self (g.H.Hall.state third))))
    c.if-branch.true (c.in_ok-ask_in.ensures.does tag next) in
    subst (λ (pages : List ℕ). Does [] (g.H.Hall.state c.args.hall.now).count (did_in c.args.self.now.party.me (g.H.Hall.state c.args.hall.now) (g.H.Hall.state c.ask_in.new.hall))
    (asking c.args.place.now.index c.args.place.now.socket c.args.request.now tag otherwise pages) (searching_again c.args.place.now.index c.args.request.now tag)
    (in_hand c.args.heap.now (moment c.args.self.now.party.me c.args.self.now (g.H.Hall.state c.args.hall.now)))
    (in_hand c.ask_in.new.heap (moment c.args.self.now.party.me c.ask_in.new.self (g.H.Hall.state c.ask_in.new.hall))))
    c.loop-page.invariant.pages
    (does_more (g.H.Hall.state first) (g.H.Hall.state second) (g.H.Hall.state third) c.loop-page.self.party.me me (in_hand c.loop-page.heap) (in_hand c.ask_in.new.heap) c.loop-page.self c.ask_in.new.self before (asking index socket request tag otherwise items) (asking index socket request tag otherwise (get_or items c.loop-page.page-index 0 ∷ drop (c.loop-page.page-index + 1) items)) (after_asking index request tag next true) was.remains.same.me
    ((g.met.H.Hall.goes_on_later first second was.goes_on).count) here there)

-- NONE WAS

pub loop-page-preserved : goal.loop-page-preserved
loop-page-preserved g c =
    let was = c.loop-page.invariant in
    let one = c.ask_in.ensures in
    let hall = c.ask_in.new.hall in
    let doer = c.ask_in.new.self in
    let passed = c.in_ok-ask_in.ensures.passed c.if-branch.false in
    record {
      pages = was.pages;
      does = λ tag otherwise.
          let items = c.deref-page-items.result.now in
          let was = c.loop-page.invariant in
          let me = c.args.self.now.party.me in
          let first = c.args.hall.now in
          let second = c.loop-page.hall in
          let third = c.ask_in.new.hall in
          let index = c.args.place.now.index in
          let socket = c.args.place.now.socket in
          let request = c.args.request.now in
          let next = asking index socket request tag otherwise (drop (c.loop-page.page-index + 1) items) in
          let before = in_hand c.args.heap.now (moment me c.args.self.now (g.H.Hall.state first)) in
          let here =
          subst (λ (left : List ℕ). Does [] (g.H.Hall.state first).count (did_in me (g.H.Hall.state first) (g.H.Hall.state second)) (asking index socket request tag otherwise items)
          (asking index socket request tag otherwise left) before (in_hand c.loop-page.heap (moment me c.loop-page.self (g.H.Hall.state second))))
          (drop_more items c.loop-page.page-index 0 c.loop-page-test.true) (was.does tag otherwise) in
          let there =
          subst (λ (granted : Bool). Does [] (g.H.Hall.state second).count (did_in c.loop-page.self.party.me (g.H.Hall.state second) (g.H.Hall.state third))
          (asking index socket request tag otherwise (get_or items c.loop-page.page-index 0 ∷ drop (c.loop-page.page-index + 1) items))
          (after_asking index request tag next granted)
          (in_hand c.loop-page.heap (moment c.loop-page.self.party.me c.loop-page.self (g.H.Hall.state second)))
          (in_hand c.ask_in.new.heap (moment c.loop-page.self.party.me c.ask_in.new.self (g.H.Hall.state third))))
          c.if-branch.false (c.in_ok-ask_in.ensures.does tag next) in
          does_more (g.H.Hall.state first) (g.H.Hall.state second) (g.H.Hall.state third) c.loop-page.self.party.me me (in_hand c.loop-page.heap) (in_hand c.ask_in.new.heap) c.loop-page.self c.ask_in.new.self before (asking index socket request tag otherwise items) (asking index socket request tag otherwise (get_or items c.loop-page.page-index 0 ∷ drop (c.loop-page.page-index + 1) items)) (after_asking index request tag next false) was.remains.same.me
          ((g.met.H.Hall.goes_on_later first second was.goes_on).count) here there;
      holds = holds_on one.keeps was.holds;
      heap = passed.0 ∙ was.heap;
      context = passed.1 ∙ was.context;
      knows = knows_then was.knows
          (subst (λ (who : ℕ). KnowsAsBefore who (g.H.Hall.state c.loop-page.hall) (g.H.Hall.state hall)) was.remains.same.me one.keeps.knows);
      remains = record {
        same = record {
          me = one.keeps.remains.same.me ∙ was.remains.same.me;
          socket = one.keeps.remains.same.socket ∙ was.remains.same.socket;
          plan = one.keeps.remains.same.plan ∙ was.remains.same.plan;
          deadline = one.keeps.remains.same.deadline ∙ was.remains.same.deadline;
        };
        tied = subst (λ (who : ℕ). IsTiedIn who doer.party (g.H.Hall.state hall)) was.remains.same.me one.keeps.remains.tied;
        slots = slots_then was.remains.slots one.keeps.remains.slots;
        marked = λ index.
            (subst (λ (who : ℕ). MarksStay who (g.H.Hall.state c.loop-page.hall) (g.H.Hall.state hall)) was.remains.same.me one.keeps.remains.marked) index
            ∙ was.remains.marked index;
        joined = subst (λ (who : ℕ). (g.H.Hall.state hall).joined who ≡ (g.H.Hall.state c.loop-page.hall).joined who) was.remains.same.me
            one.keeps.remains.joined ∙ was.remains.joined;
        lines = subst (λ (who : ℕ). (g.H.Hall.state hall).lines who ≡ (g.H.Hall.state c.loop-page.hall).lines who) was.remains.same.me
            one.keeps.remains.lines ∙ was.remains.lines;
        later = later_then was.remains.later one.keeps.remains.later;
      };
      goes_on = g.met.H.Hall.goes_on_then _ _ _ was.goes_on one.goes_on;
      along = omega (arith, c.loop-page-test.true);
      clock = rises_more g.H.Hall.pending (λ hall. IsBusy (g.H.Hall.state hall)) c.loop-page.page-index (longest_wait c.args.self.now.party.deadline)
          (longest_wait c.loop-page.self.party.deadline) (g.H.Hall.state c.args.hall.now).clock (g.H.Hall.state c.loop-page.hall).clock (g.H.Hall.state hall).clock
          (ap longest_wait was.remains.same.deadline) was.clock one.clock;
    }

pub returns-clause-keeps : goal.returns-clause-keeps
returns-clause-keeps g c =
    let was = c.loop-page.invariant in
    let me = was.remains.same.me in
    record {
      in_hand = subst
          (λ (who : ℕ). IsInHand (g.H.Hall.state c.loop-page.hall).taken (moment who c.loop-page.self (g.H.Hall.state c.loop-page.hall)) c.loop-page.heap) me
          was.holds.in_hand;
      index = ap (λ (heap : HeapView). heap.plain.index) was.heap;
      its_socket = ap (λ (heap : HeapView). heap.plain.serves) was.heap;
      marks = ap (λ (heap : HeapView). marked_by c.args.self.now.party.me heap.plain) was.heap;
      context = knew_same c.args.self.now.context c.loop-page.self.context was.context;
      settled = subst (λ (who : ℕ). AreSettled (moment who c.loop-page.self (g.H.Hall.state c.loop-page.hall))) me was.holds.settled;
      mapped = subst (λ (who : ℕ). HasMapped who (g.H.Hall.state c.loop-page.hall)) me was.holds.mapped;
      knows = was.knows;
      remains = was.remains;
    }

pub returns-clause-says : goal.returns-clause-says
returns-clause-says g c = ap (λ (heap : HeapView). naming_of heap.plain) c.loop-page.invariant.heap

pub returns-clause-does : goal.returns-clause-does
returns-clause-does g c = λ tag otherwise.
    let items = c.deref-page-items.result.now in
    subst (λ (pages : List ℕ). Does [] (g.H.Hall.state c.args.hall.now).count (did_in c.args.self.now.party.me (g.H.Hall.state c.args.hall.now) (g.H.Hall.state c.loop-page.hall))
    (asking c.args.place.now.index c.args.place.now.socket c.args.request.now tag otherwise pages) otherwise
    (in_hand c.args.heap.now (moment c.args.self.now.party.me c.args.self.now (g.H.Hall.state c.args.hall.now)))
    (in_hand c.loop-page.heap (moment c.args.self.now.party.me c.loop-page.self (g.H.Hall.state c.loop-page.hall))))
    c.loop-page.invariant.pages
    (subst (λ (left : List ℕ). Does [] (g.H.Hall.state c.args.hall.now).count (did_in c.args.self.now.party.me (g.H.Hall.state c.args.hall.now) (g.H.Hall.state c.loop-page.hall))
    (asking c.args.place.now.index c.args.place.now.socket c.args.request.now tag otherwise items)
    (asking c.args.place.now.index c.args.place.now.socket c.args.request.now tag otherwise left)
    (in_hand c.args.heap.now (moment c.args.self.now.party.me c.args.self.now (g.H.Hall.state c.args.hall.now)))
    (in_hand c.loop-page.heap (moment c.args.self.now.party.me c.loop-page.self (g.H.Hall.state c.loop-page.hall))))
    (drop_all c.loop-page.page-index items (omega (arith, c.loop-page-test.false))) (c.loop-page.invariant.does tag otherwise))

-- BY HOW MUCH IT CARRIES THE CLOCK

pub returns-in_err-ask_in-clause-clock : goal.returns-in_err-ask_in-clause-clock
returns-in_err-ask_in-clause-clock g c =
    let was = c.loop-page.invariant in
    let doer = c.args.self.now in
    let old = (g.H.Hall.state c.args.hall.now).clock in
    let new = (g.H.Hall.state c.ask_in.new.hall).clock in
    rises_within g.H.Hall.pending (λ hall. IsBusy (g.H.Hall.state hall)) (c.loop-page.page-index + 1) 8 (longest_wait doer.party.deadline) old new
    (omega (
      arith,
      c.loop-page-test.true,
      ap length was.pages,
      few_page_sizes doer.context.pools c.args.place.now.socket c.args.request.now.flags,
    ))
    (rises_more g.H.Hall.pending (λ hall. IsBusy (g.H.Hall.state hall)) c.loop-page.page-index (longest_wait doer.party.deadline)
    (longest_wait c.loop-page.self.party.deadline) old (g.H.Hall.state c.loop-page.hall).clock new (ap longest_wait was.remains.same.deadline) was.clock
    c.ask_in.ensures.clock)

pub returns-then-branch-clause-clock : goal.returns-then-branch-clause-clock
returns-then-branch-clause-clock g c =
    let was = c.loop-page.invariant in
    let doer = c.args.self.now in
    let old = (g.H.Hall.state c.args.hall.now).clock in
    let new = (g.H.Hall.state c.ask_in.new.hall).clock in
    rises_within g.H.Hall.pending (λ hall. IsBusy (g.H.Hall.state hall)) (c.loop-page.page-index + 1) 8 (longest_wait doer.party.deadline) old new
    (omega (
      arith,
      c.loop-page-test.true,
      ap length was.pages,
      few_page_sizes doer.context.pools c.args.place.now.socket c.args.request.now.flags,
    ))
    (rises_more g.H.Hall.pending (λ hall. IsBusy (g.H.Hall.state hall)) c.loop-page.page-index (longest_wait doer.party.deadline)
    (longest_wait c.loop-page.self.party.deadline) old (g.H.Hall.state c.loop-page.hall).clock new (ap longest_wait was.remains.same.deadline) was.clock
    c.ask_in.ensures.clock)

pub returns-clause-clock : goal.returns-clause-clock
returns-clause-clock g c =
    let was = c.loop-page.invariant in
    let doer = c.args.self.now in
    rises_within g.H.Hall.pending (λ hall. IsBusy (g.H.Hall.state hall)) c.loop-page.page-index 8 (longest_wait doer.party.deadline)
    (g.H.Hall.state c.args.hall.now).clock (g.H.Hall.state c.loop-page.hall).clock
    (omega (arith, was.along, ap length was.pages, few_page_sizes doer.context.pools c.args.place.now.socket c.args.request.now.flags))
    was.clock

pub returns-in_err-pages-clause-keeps : goal.returns-in_err-pages-clause-keeps
returns-in_err-pages-clause-keeps g c = keeps_same c.args.self.now.party.me c.args.self.now c.args.heap.now c.requires.holds

-- without memory for the page sizes nothing was done
pub returns-in_err-pages-clause-halts : goal.returns-in_err-pages-clause-halts
returns-in_err-pages-clause-halts g c =
    let doer = c.args.self.now in
    let me = doer.party.me in
    let hall = g.H.Hall.state c.args.hall.now in
    let at = in_hand c.args.heap.now (moment me doer hall) in
    let halts : (tag : Tag) (otherwise : Doing) → HaltsHeld me doer doer c.args.heap.now c.args.heap.now hall hall
    (asking c.args.place.now.index c.args.place.now.socket c.args.request.now tag otherwise
    (page_sizes_for doer.context.pools c.args.place.now.socket c.args.request.now.flags)) =
    λ tag otherwise. halts_same [] hall.count (did_in me hall hall) _ at (did_same me hall) in
    on_err_any _ _ halts
