-- The element is freed, and where it was one its pages are cut.
use Rattle.std.proofs.Common.{◌≡◌, ◌∙◌, ℕ, false, [], List, Option, Some, None, refl, ap, sym, subst}
use Rattle.hp_hall.specs.Holding.{HeapPart}
use Rattle.hp_hall.specs.Mail.{MailStep}
use Rattle.hp_heap.specs.Freeing.{fault_answer}
use Rattle.hp_heap.specs.History.{HeapView, IsCall}
use Rattle.hp_heap.specs.declared.entry.HeapAnswer.{HeapAnswer}
use Rattle.hp_heap.specs.declared.entry.HeapAnswer.TheVariants as gives
use Rattle.hp_heap.specs.declared.entry.HeapCall.TheVariants as call
use Rattle.hp_heap.specs.declared.freeing.FreeFault.{FreeFault}
use Rattle.hp_log.specs.declared.log_record.LogRecord.{LogRecord}
use Rattle.hp_segs.specs.declared.outcome.AskLog.{AskLog}
use Rattle.hp_proc.specs.Doing.{Deed, Doing}
use Rattle.hp_proc.specs.Freeing.{freed, freeing}
use Rattle.hp_proc.specs.ParticipantView.{ParticipantView, after_call}
use Rattle.hp_proc.specs.Progress.{Does, caller_of, in_hand, moment_of}
use Rattle.hp_proc.specs.declared.searched_heap.SearchedHeap.{SearchedHeap}
use Rattle.hp_proc.proofs.HandFacts.HandCalls.{call_index, call_serves, does_call}
use Rattle.hp_proc.proofs.HandFacts.HandCut.{freed_whole}
use Rattle.hp_proc.proofs.PagesStay.{free_pages}
use Rattle.hp_hall.specs.HallState.{OthersStay}
use Rattle.hp_hall.proofs.HallStates.{did_same, others_same}
use Rattle.hp_proc.specs.LineInHall.{did_in, moment_with}
use Rattle.hp_proc.proofs.HandFacts.Holds.{does_next, holds_on, keeps_called, keeps_then, room_called}
use Rattle.hp_proc.proofs.participant.Participant.free_held.Goals as goal

-- the free was called, with what comes of it
freed_here : (count : ℕ) (did : List MailStep → Type 0) (doer after : ParticipantView) (parts : ℕ → HeapPart) (log : List LogRecord) (asks : List AskLog)
    (heap next : HeapView) (place : SearchedHeap) (addr : ℕ) (fault : Option FreeFault)
    → IsCall (caller_of doer) (call.Free addr false) (fault_answer fault) heap next → after ≡ after_call doer → did []
    → place.index ≡ heap.plain.index → (given : HeapAnswer) → fault_answer fault ≡ given
    → Does [] count did (freeing place addr) (freed place addr given) (in_hand heap (moment_of doer parts log asks))
    (in_hand next (moment_of after parts log asks))
freed_here count did doer after parts log asks heap next place addr fault step counted none its given is =
    subst (λ (given : HeapAnswer). Does [] count did (freeing place addr) (freed place addr given) (in_hand heap (moment_of doer parts log asks))
    (in_hand next (moment_of after parts log asks))) is
    (subst (λ (index : ℕ). Does [] count did (Doing.Then (Deed.Call index (call.Free addr false)) (freed place addr))
    (freed place addr (fault_answer fault))
    (in_hand heap (moment_of doer parts log asks)) (in_hand next (moment_of after parts log asks))) (sym its)
    (does_call doer parts log asks (call.Free addr false) (fault_answer fault) heap next step count did (freed place addr) after counted
    none (freed_whole fault)))

pub cut_held-requires : goal.cut_held-requires
cut_held-requires g c =
    let doer = c.args.self.now in
    let mid = c.free_in.new.self in
    let heap = c.args.heap.now in
    let next = c.free_in.new.heap in
    let step = c.free_in.ensures.step in
    let counted = c.free_in.ensures.counted in
    record {
      holds = holds_on
          (keeps_called doer mid heap next step counted (free_pages _ _ false _ heap next step) refl (freed_whole _) refl tt c.requires.holds)
          c.requires.holds;
      its = c.requires.its ∙ sym (call_index _ _ _ _ _ step);
      of_socket = c.requires.of_socket ∙ sym (call_serves _ _ _ _ _ step);
      room = room_called 1 doer mid heap next step.spare counted c.requires.room;
    }

pub returns-in-Err-NotAnElement : goal.returns-in-Err-NotAnElement
returns-in-Err-NotAnElement g c =
    let doer = c.args.self.now in
    let me = doer.party.me in
    let hall = g.H.Hall.state c.args.hall.now in
    let after = c.free_in.new.self in
    let heap = c.args.heap.now in
    let next = c.free_in.new.heap in
    let step = c.free_in.ensures.step in
    let counted = c.free_in.ensures.counted in
    record {
      does = freed_here hall.count (did_in me hall hall) doer after (hall.part me) (hall.seen me) (hall.heard me) heap next c.args.place.now
          c.args.addr (Some c.in-Err-NotAnElement.field-0) c.in-Err-NotAnElement.ensures.step counted (did_same me hall) c.requires.its gives.NotAnElement
          (ap (λ (fault : FreeFault). fault_answer (Some fault)) c.in-Err-NotAnElement.field-0-is);
      keeps = keeps_called doer after heap next step counted (free_pages _ _ false _ heap next step) refl (freed_whole _) refl tt c.requires.holds;
      others = others_same me hall;
      goes_on = g.met.H.Hall.goes_on_same _;
    }

pub returns-in-Err-IsZone : goal.returns-in-Err-IsZone
returns-in-Err-IsZone g c =
    let doer = c.args.self.now in
    let me = doer.party.me in
    let hall = g.H.Hall.state c.args.hall.now in
    let after = c.free_in.new.self in
    let heap = c.args.heap.now in
    let next = c.free_in.new.heap in
    let step = c.free_in.ensures.step in
    let counted = c.free_in.ensures.counted in
    record {
      does = freed_here hall.count (did_in me hall hall) doer after (hall.part me) (hall.seen me) (hall.heard me) heap next c.args.place.now
          c.args.addr (Some c.in-Err-IsZone.field-0) c.in-Err-IsZone.ensures.step counted (did_same me hall) c.requires.its gives.IsZone
          (ap (λ (fault : FreeFault). fault_answer (Some fault)) c.in-Err-IsZone.field-0-is);
      keeps = keeps_called doer after heap next step counted (free_pages _ _ false _ heap next step) refl (freed_whole _) refl tt c.requires.holds;
      others = others_same me hall;
      goes_on = g.met.H.Hall.goes_on_same _;
    }

pub returns-in-Ok : goal.returns-in-Ok
returns-in-Ok g c =
    let doer = c.args.self.now in
    let me = doer.party.me in
    let old = g.H.Hall.state c.args.hall.now in
    let new = g.H.Hall.state c.cut_held.new.hall in
    let heap = c.args.heap.now in
    let next = c.free_in.new.heap in
    let last = c.cut_held.new.heap in
    let mid = c.free_in.new.self in
    let after = c.cut_held.new.self in
    let step = c.free_in.ensures.step in
    let counted = c.free_in.ensures.counted in
    let here = ap (λ (doer : ParticipantView). doer.party.me) counted in
    let is = c.cut_held.ensures in
    record {
      does = does_next me (moment_with heap me doer old) (λ who. moment_with next who mid old) (λ who. moment_with last who after new) here refl
          (freed_here old.count (did_in me old old) doer mid (old.part me) (old.seen me) (old.heard me) heap next c.args.place.now c.args.addr None
          c.in-Ok.ensures.step counted (did_same me old) c.requires.its gives.Done refl) is.does;
      keeps = keeps_then
          (keeps_called doer mid heap next step counted (free_pages _ _ false _ heap next step) refl (freed_whole _) refl tt c.requires.holds) is.keeps;
      others = subst (λ (who : ℕ). OthersStay who old new) here is.others;
      goes_on = is.goes_on;
    }
