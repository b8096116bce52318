-- The element is found, and then acted on, or it is not there.
use Rattle.std.proofs.Common.{◌≡◌, ◌∙◌, ℕ, [], List, Option, refl, ap, sym, subst, ◌∷◌}
use Rattle.hp_base.specs.declared.tag.Tag.{Tag}
use Rattle.hp_hall.specs.Holding.{HeapPart}
use Rattle.hp_hall.specs.Mail.{MailStep}
use Rattle.hp_heap.specs.History.{HeapView, IsCall}
use Rattle.hp_heap.specs.declared.entry.HeapAnswer.{HeapAnswer}
use Rattle.hp_heap.specs.declared.entry.HeapAnswer.TheVariants as gives
use Rattle.hp_heap.specs.declared.entry.HeapCall.TheVariants as call
use Rattle.hp_log.specs.declared.log_record.LogRecord.{LogRecord}
use Rattle.hp_segs.specs.declared.outcome.AskLog.{AskLog}
use Rattle.hp_proc.specs.Doing.{Deed, Doing}
use Rattle.hp_proc.specs.Freeing.{acting, after_looking, going_on, looking}
use Rattle.hp_heap.specs.HistoryLaws.{run_cut}
use Rattle.hp_proc.specs.ParticipantView.{ParticipantView, after_call}
use Rattle.hp_proc.specs.Progress.{Does, caller_of, in_hand, moment_of}
use Rattle.hp_proc.specs.declared.element_act.Left.{Left}
use Rattle.hp_proc.specs.declared.searched_heap.SearchedHeap.{SearchedHeap}
use Rattle.hp_proc.proofs.HandFacts.HandCalls.{call_index, call_serves, does_call}
use Rattle.hp_proc.proofs.HandFacts.HandCut.{found_whole}
use Rattle.hp_proc.proofs.OrdinaryElements.{may_act}
use Rattle.hp_proc.proofs.PagesStay.{find_pages}
use Rattle.hp_hall.specs.HallState.{OthersStay}
use Rattle.hp_hall.proofs.HallStates.{did_same, others_same}
use Rattle.hp_proc.specs.LineInHall.{did_in, moment_with}
use Rattle.hp_proc.proofs.HandFacts.Holds.{does_next, holds_on, keeps_called, keeps_then, room_called}
use Rattle.hp_proc.proofs.participant.Participant.look_held.Goals as goal

-- the heap was searched, and the line goes on by what that gave
looked_here : (count : ℕ) (did : List MailStep → Type 0) (doer after : ParticipantView) (parts : ℕ → HeapPart) (log : List LogRecord)
    (asks : List AskLog) (heap next : HeapView) (place : SearchedHeap) (tag : Tag) (given : HeapAnswer)
    → IsCall (caller_of doer) (call.Find tag) given heap next → after ≡ after_call doer → did [] → run_cut given ≡ []
    → place.index ≡ heap.plain.index → (found : SearchedHeap → ℕ → Doing) (places : List SearchedHeap)
    → Does [] count did (looking tag found (place ∷ places)) (going_on (found place) (looking tag found places) given)
    (in_hand heap (moment_of doer parts log asks)) (in_hand next (moment_of after parts log asks))
looked_here count did doer after parts log asks heap next place tag given step counted none whole its found places =
    subst (λ (index : ℕ). Does [] count did (Doing.Then (Deed.Call index (call.Find tag))
    (going_on (found place) (looking tag found places)))
    (going_on (found place) (looking tag found places) given) (in_hand heap (moment_of doer parts log asks))
    (in_hand next (moment_of after parts log asks))) (sym its)
    (does_call doer parts log asks (call.Find tag) given heap next step count did (going_on (found place) (looking tag found places)) after
    counted none whole)

pub returns-in_err-addr : goal.returns-in_err-addr
returns-in_err-addr g c =
    let doer = c.args.self.now in
    let me = doer.party.me in
    let hall = g.H.Hall.state c.args.hall.now in
    let heap = c.args.heap.now in
    let next = c.find_in.new.heap in
    let after = c.find_in.new.self in
    let place = c.args.place.now in
    let found = acting c.args.action in
    let step = c.find_in.ensures.step in
    let counted = c.find_in.ensures.counted in
    record {
      does = λ places.
          subst (λ (result : Option Left). Does [] hall.count (did_in me hall hall) (looking c.args.tag found (place ∷ places))
          (after_looking place.index (looking c.args.tag found places) result) (moment_with heap me doer hall) (moment_with next me after hall))
          (sym c.from_residual.ensures)
          (looked_here hall.count (did_in me hall hall) doer after (hall.part me) (hall.seen me) (hall.heard me) heap next place c.args.tag
          gives.Nothing c.in_err-addr.ensures.step counted (did_same me hall) refl c.requires.its found places);
      keeps = keeps_called doer after heap next step counted (find_pages _ c.args.tag _ heap next step) refl (found_whole c.find_in.result) tt tt c.requires.holds;
      others = others_same me hall;
      goes_on = g.met.H.Hall.goes_on_same _;
    }

-- what is meant for a tag may be done with the element that has it
pub act_held-requires-clause-may : goal.act_held-requires-clause-may
act_held-requires-clause-may g c =
    may_act c.args.tag c.args.action c.in_ok-addr.addr c.find_in.new.heap.plain c.requires.size c.in_ok-addr.ensures.there

pub act_held-requires-clause-holds : goal.act_held-requires-clause-holds
act_held-requires-clause-holds g c =
    let doer = c.args.self.now in
    let mid = c.find_in.new.self in
    let heap = c.args.heap.now in
    let next = c.find_in.new.heap in
    let step = c.find_in.ensures.step in
    let counted = c.find_in.ensures.counted in
    holds_on (keeps_called doer mid heap next step counted (find_pages _ c.args.tag _ heap next step) refl (found_whole c.find_in.result) tt tt c.requires.holds) c.requires.holds

pub act_held-requires-clause-its : goal.act_held-requires-clause-its
act_held-requires-clause-its g c = c.requires.its ∙ sym (call_index _ _ _ _ _ c.find_in.ensures.step)

pub act_held-requires-clause-of_socket : goal.act_held-requires-clause-of_socket
act_held-requires-clause-of_socket g c = c.requires.of_socket ∙ sym (call_serves _ _ _ _ _ c.find_in.ensures.step)

pub act_held-requires-clause-room : goal.act_held-requires-clause-room
act_held-requires-clause-room g c =
    room_called 2 c.args.self.now c.find_in.new.self c.args.heap.now c.find_in.new.heap c.find_in.ensures.step.spare c.find_in.ensures.counted
    c.requires.room

pub returns : goal.returns
returns g c =
    let doer = c.args.self.now in
    let me = doer.party.me in
    let old = g.H.Hall.state c.args.hall.now in
    let new = g.H.Hall.state c.act_held.new.hall in
    let heap = c.args.heap.now in
    let next = c.find_in.new.heap in
    let last = c.act_held.new.heap in
    let mid = c.find_in.new.self in
    let after = c.act_held.new.self in
    let step = c.find_in.ensures.step in
    let counted = c.find_in.ensures.counted in
    let here = ap (λ (doer : ParticipantView). doer.party.me) counted in
    let is = c.act_held.ensures in
    record {
      does = λ places.
          does_next me (moment_with heap me doer old) (λ who. moment_with next who mid old) (λ who. moment_with last who after new) here refl
          (looked_here old.count (did_in me old old) doer mid (old.part me) (old.seen me) (old.heard me) heap next c.args.place.now c.args.tag
          (gives.Address c.in_ok-addr.addr) c.in_ok-addr.ensures.step counted (did_same me old) refl c.requires.its (acting c.args.action) places)
          is.does;
      keeps = keeps_then (keeps_called doer mid heap next step counted (find_pages _ c.args.tag _ heap next step) refl (found_whole c.find_in.result) tt tt c.requires.holds) is.keeps;
      others = subst (λ (who : ℕ). OthersStay who old new) here is.others;
      goes_on = is.goes_on;
    }
