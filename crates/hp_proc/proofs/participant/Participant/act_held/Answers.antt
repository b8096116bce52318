-- The element is freed or resized.
use Rattle.std.proofs.Common.{◌≡◌, ◌∙◌, ℕ, Bool, [], true, false, refl, ap, sym, subst}
use Rattle.hp_heap.specs.History.{HeapView, IsCall}
use Rattle.hp_heap.specs.Step.{resize_answer}
use Rattle.hp_heap.specs.declared.entry.HeapCall.TheVariants as call
use Rattle.hp_script.specs.declared.answer.Answer.{Answer}
use Rattle.hp_script.specs.declared.answer.Answer.TheVariants as answer
use Rattle.hp_proc.specs.Doing.{Deed, Doing}
use Rattle.hp_hall.specs.Naming.{IsBesideNames}
use Rattle.hp_proc.specs.Freeing.{MayAct, acting, resized, resized_answer, resizing}
use Rattle.hp_proc.specs.ParticipantView.{ParticipantView, after_call}
use Rattle.hp_proc.specs.Progress.{Does, caller_of}
use Rattle.hp_proc.specs.declared.element_act.ElementAct.{ElementAct}
use Rattle.hp_proc.specs.declared.searched_heap.SearchedHeap.{SearchedHeap}
use Rattle.hp_proc.proofs.HandFacts.HandCalls.{does_call}
use Rattle.hp_proc.proofs.HandFacts.HandCut.{resized_whole}
use Rattle.hp_proc.proofs.Joining.{does_same}
use Rattle.hp_proc.proofs.PagesStay.{resize_pages}
use Rattle.hp_hall.specs.HallState.{HallState}
use Rattle.hp_hall.proofs.HallStates.{did_same, others_same}
use Rattle.hp_proc.specs.LineInHall.{HoldsIn, KeepsHeld, did_in, moment_with}
use Rattle.hp_proc.proofs.HandFacts.Holds.{keeps_called, keeps_same}
use Rattle.hp_proc.proofs.participant.Participant.act_held.Goals as goal

-- the line ends with the answer of a resize
resized_is : (had : Bool) → resized (resize_answer had) ≡ Doing.Ended (resized_answer had)
resized_is true = refl
resized_is false = refl

module _ (doer : ParticipantView) (hall : HallState) (heap : HeapView) (size addr : ℕ) (place : SearchedHeap) (its : place.index ≡ heap.plain.index)
    (holds : HoldsIn doer.party.me doer heap hall) where
  abbrev me : ℕ
  me = doer.party.me

  -- what was done of a resize, and what is known then
  record IsResized (zone : Bool) (given : Answer) (next : HeapView) (after : ParticipantView) : Type 0 where
    pub does : Does [] hall.count (did_in me hall hall) (resizing zone size place addr) (Doing.Ended given) (moment_with heap me doer hall)
        (moment_with next me after hall)
    pub keeps : KeepsHeld me doer after heap next hall hall

  is_refused : IsResized true answer.IsZone heap doer
  is_refused = record {
    does = does_same hall.count (did_in me hall hall) (Doing.Ended answer.IsZone) (moment_with heap me doer hall) (did_same me hall);
    keeps = keeps_same me doer heap holds;
  }

  is_resized : (zone : Bool) (given : Answer) (next : HeapView) (after : ParticipantView)
      → (zone ≡ true → (given ≡ answer.IsZone) × (next ≡ heap) × (after ≡ doer))
      → (zone ≡ false → IsBesideNames (call.Resize addr size) heap.plain)
      → (zone ≡ false → (had : Bool) × (given ≡ resized_answer had) × (after ≡ after_call doer)
      × IsCall (caller_of doer) (call.Resize addr size) (resize_answer had) heap next) → IsResized zone given next after
  is_resized true given next after refused beside done =
      let is = refused refl in
      subst (λ (given : Answer). IsResized true given next after) (sym is.0)
      (subst (λ (next : HeapView). IsResized true answer.IsZone next after) (sym is.1)
      (subst (IsResized true answer.IsZone heap) (sym is.2) is_refused))
  is_resized false given next after refused beside done =
      let is = done refl in
      record {
        does = subst (λ (rest : Doing). Does [] hall.count (did_in me hall hall) (resizing false size place addr) rest
            (moment_with heap me doer hall) (moment_with next me after hall))
            (resized_is is.0 ∙ ap (λ (given : Answer). Doing.Ended given) (sym is.1))
            (subst (λ (index : ℕ). Does [] hall.count (did_in me hall hall) (Doing.Then (Deed.Call index (call.Resize addr size)) resized)
            (resized (resize_answer is.0)) (moment_with heap me doer hall) (moment_with next me after hall)) (sym its)
            (does_call doer (hall.part me) (hall.seen me) (hall.heard me) (call.Resize addr size) (resize_answer is.0) heap next is.3 hall.count
            (did_in me hall hall) resized after is.2 (did_same me hall) (resized_whole is.0)));
        keeps = keeps_called doer after heap next is.3 is.2 (resize_pages (caller_of doer) addr size (resize_answer is.0) heap next is.3) refl
            (resized_whole is.0) (beside refl) tt holds;
      }

pub resize_held-requires-clause-may : goal.resize_held-requires-clause-may
resize_held-requires-clause-may g c = λ ordinary.
    (subst (λ (action : ElementAct). MayAct action c.args.addr c.args.heap.now.plain) c.in-Resize.is c.requires.may ordinary).0

pub returns-in-Resize : goal.returns-in-Resize
returns-in-Resize g c =
    let doer = c.args.self.now in
    let me = doer.party.me in
    let hall = g.H.Hall.state c.args.hall.now in
    let heap = c.args.heap.now in
    let next = c.resize_held.new.heap in
    let after = c.resize_held.new.self in
    let is =
    is_resized doer hall heap c.in-Resize.size c.args.addr c.args.place.now c.requires.its c.requires.holds c.in-Resize.zone c.resize_held.result
    next after c.resize_held.ensures.zone
    (λ ordinary. (subst (λ (action : ElementAct). MayAct action c.args.addr heap.plain) c.in-Resize.is c.requires.may ordinary).1)
    c.resize_held.ensures.resized in
    record {
      does = subst (λ (action : ElementAct). Does [] hall.count (did_in me hall hall) (acting action c.args.place.now c.args.addr)
          (Doing.Ended c.resize_held.result) (moment_with heap me doer hall) (moment_with next me after hall)) (sym c.in-Resize.is) is.does;
      keeps = is.keeps;
      others = others_same me hall;
      goes_on = g.met.H.Hall.goes_on_same _;
    }
