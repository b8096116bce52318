-- The pages are cut, and the run of them is given up while the heap is in hand.
use Rattle.std.proofs.Common.{◌≡◌, ◌≢◌, ◌∙◌, ℕ, Bool, true, false, not, cond, is_some, [], ◌∷◌, Some, refl, ap, sym, subst, ⊎_elim}
use Rattle.std.proofs.lemmas.Bool.{cases_eq}
use Rattle.hp_hall.specs.Holding.{HeapPart, IsHeldWith}
use Rattle.hp_heap.specs.PlainHeap.{PlainHeap}
use Rattle.hp_heap.specs.declared.entry.HeapAnswer.TheVariants as gives
use Rattle.hp_heap.specs.declared.entry.HeapCall.TheVariants as call
use Rattle.hp_segs.specs.Steps.{after_retire}
use Rattle.hp_script.specs.declared.answer.Answer.TheVariants as answer
use Rattle.hp_proc.specs.Acting.{Acts}
use Rattle.hp_serve.specs.Asking.{GivesUp, HasSettledAsks}
use Rattle.hp_proc.specs.Doing.{Deed, Doing}
use Rattle.hp_proc.specs.Freeing.{cutting, giving_up, left_of}
use Rattle.hp_proc.specs.ParticipantView.{ParticipantView}
use Rattle.hp_proc.specs.Progress.{Does, caller_of, in_hand, moment_of}
use Rattle.hp_serve.specs.Serving.{gives_segments, takes_segments}
use Rattle.hp_proc.specs.declared.element_act.Left.TheVariants.{GaveUp}
use Rattle.hp_proc.specs.declared.searched_heap.SearchedHeap.{SearchedHeap}
use Rattle.hp_serve.proofs.Carrying.{same_party}
use Rattle.hp_proc.proofs.HandFacts.HandCalls.{call_index, call_serves, does_acted, does_call}
use Rattle.hp_proc.proofs.HandFacts.HandCut.{cut_from_held, cut_nothing, given_up_part, held_behind_cut}
use Rattle.hp_proc.proofs.HandFacts.HandMoved.{hand_moved, hand_same}
use Rattle.hp_proc.proofs.Joining.{does_same, does_still, does_then}
use Rattle.hp_hall.specs.HallState.{Did, HasMapped, OthersStay}
use Rattle.hp_serve.specs.SegmentSlot.{MarksStay, MayHold}
use Rattle.hp_hall.proofs.HallStates.{did_same, did_then, others_same}
use Rattle.hp_proc.specs.LineInHall.{did_in, moment_with}
use Rattle.hp_proc.proofs.HandFacts.Holds.{keeps_called, keeps_same, knew_called, remains_called}
use Rattle.hp_serve.proofs.InHalls.{in_same, remains_by, tied_later}
use Rattle.hp_serve.proofs.SegmentSlots.{may_hold}
use Rattle.hp_hall.proofs.NamesLeft.{call_leaves}
use Rattle.hp_proc.proofs.ChunksLeft.{call_marks}
use Rattle.hp_proc.proofs.WaitsAside.{hands_aside}
use Rattle.hp_proc.proofs.participant.Participant.cut_held.Goals as goal

external_ends : (place : SearchedHeap) (addr : ℕ) (none : Bool) → none ≡ true → is_some place.serves ≡ not none
    → cutting place addr ≡ Doing.Ended answer.Done
external_ends place addr none missing is =
    ap (λ (has : Bool). cond has (Doing.Then (Deed.Call place.index (call.Cut addr)) (giving_up place.index)) (Doing.Ended answer.Done))
    (is ∙ ap not missing)

socket_cuts : (place : SearchedHeap) (addr index : ℕ) (none : Bool) → none ≡ false → is_some place.serves ≡ not none → place.index ≡ index
    → cutting place addr ≡ Doing.Then (Deed.Call index (call.Cut addr)) (giving_up place.index)
socket_cuts place addr index none is_not is same =
    ap (λ (has : Bool). cond has (Doing.Then (Deed.Call place.index (call.Cut addr)) (giving_up place.index)) (Doing.Ended answer.Done))
    (is ∙ ap not is_not)
    ∙ ap (λ (index : ℕ). Doing.Then (Deed.Call index (call.Cut addr)) (giving_up place.index)) same

pub returns-then-is_none : goal.returns-then-is_none
returns-then-is_none g c =
    let doer = c.args.self.now in
    let me = doer.party.me in
    let hall = g.H.Hall.state c.args.hall.now in
    let heap = c.args.heap.now in
    let at = moment_with heap me doer hall in
    record {
      does = subst (λ (doing : Doing). Does [] hall.count (did_in me hall hall) doing (Doing.Ended answer.Done) at at)
          (sym (external_ends c.args.place.now c.args.addr c.is_none.result c.if-is_none.true c.is_none.ensures))
          (does_same hall.count (did_in me hall hall) (Doing.Ended answer.Done) at (did_same me hall));
      keeps = keeps_same me doer heap c.requires.holds;
      says = refl;
      others = others_same me hall;
      goes_on = g.met.H.Hall.goes_on_same _;
    }

pub retire-requires : goal.retire-requires
retire-requires g c =
    let me = c.args.self.now.party.me in
    let hall = g.H.Hall.state c.args.hall.now in
    let part = hall.part in
    let heap = c.args.heap.now in
    let place = c.args.place.now in
    let is_me = ap (λ (doer : ParticipantView). doer.party.me) c.cut_in.ensures.counted in
    let held = subst (λ (index : ℕ). IsHeldWith heap (part me index).holding) (sym c.requires.its) c.requires.holds.in_hand.held in
    record {
      may = subst (λ (who : ℕ). MayHold who hall) (sym is_me) (may_hold c.requires.holds.can.may);
      cut = cut_from_held c.args.addr place.index c.in-Some.run' heap (part c.cut_in.new.self.party.me place.index).holding c.requires.its
          (subst (λ (who : ℕ). IsHeldWith heap (part who place.index).holding) (sym is_me) held) c.in-Some.ensures.pages;
    }

pub returns-in-None : goal.returns-in-None
returns-in-None g c =
    let doer = c.args.self.now in
    let me = doer.party.me in
    let hall = g.H.Hall.state c.args.hall.now in
    let heap = c.args.heap.now in
    let next = c.cut_in.new.heap in
    let after = c.cut_in.new.self in
    let place = c.args.place.now in
    let part = hall.part me in
    let seen = hall.seen me in
    let heard = hall.heard me in
    let step = c.in-None.ensures.step in
    let counted = c.cut_in.ensures.counted in
    record {
      does = subst (λ (doing : Doing). Does [] hall.count (did_in me hall hall) doing (Doing.Ended answer.Done) (moment_with heap me doer hall)
          (moment_with next me after hall))
          (sym (socket_cuts place c.args.addr heap.plain.index c.is_none.result c.if-is_none.false c.is_none.ensures c.requires.its))
          (does_call doer part seen heard (call.Cut c.args.addr) gives.Nothing heap next step hall.count (did_in me hall hall)
          (giving_up place.index) after counted (did_same me hall) refl);
      keeps = keeps_called doer after heap next step counted
          (ap (λ (heap : PlainHeap). heap.pages) (cut_nothing (caller_of doer) c.args.addr heap next step)) refl refl tt tt c.requires.holds;
      says = (call_leaves (caller_of doer) (call.Cut c.args.addr) gives.Nothing heap next step c.requires.holds.in_hand.sound.tiled tt).naming;
      others = others_same me hall;
      goes_on = g.met.H.Hall.goes_on_same _;
    }

pub returns-in-Some : goal.returns-in-Some
returns-in-Some g c =
    let doer = c.args.self.now in
    let after = c.cut_in.new.self in
    let me = doer.party.me in
    let old = g.H.Hall.state c.args.hall.now in
    let new = g.H.Hall.state c.retire.new.hall in
    let heap = c.args.heap.now in
    let cut = c.cut_in.new.heap in
    let place = c.args.place.now in
    let part = old.part me in
    let later = new.part me in
    let seen = old.seen me in
    let heard = old.heard me in
    let run = c.in-Some.run' in
    let step = c.in-Some.ensures.step in
    let counted = c.cut_in.ensures.counted in
    let is_me = ap (λ (doer : ParticipantView). doer.party.me) counted in
    let is = c.retire.ensures in
    let gives_up = subst (λ (who : ℕ). GivesUp place.index run (old.part who place.index) (new.part who place.index)) is_me is.gives_up in
    let apart = subst (λ (who : ℕ). (other : ℕ) → other ≢ place.index → new.part who other ≡ old.part who other) is_me is.others in
    let others = subst (λ (who : ℕ). OthersStay who old new) is_me is.stays.others in
    let own = subst (λ (who : ℕ). new.own who ≡ old.own who) is_me is.stays.own in
    let joined = subst (λ (who : ℕ). new.joined who ≡ old.joined who) is_me is.stays.joined in
    let lines = subst (λ (who : ℕ). new.lines who ≡ old.lines who) is_me is.stays.lines in
    let marked = subst (λ (who : ℕ). MarksStay who old new) is_me is.stays.marked in
    let more = others.later.seen me in
    let outcomes = others.later.heard me in
    let parts = given_up_part place.index run part later gives_up apart in
    let same = hand_same after.party.me cut part later parts in
    let left : Doing = left_of place.index (GaveUp run) in
    let taken = is.did.0 in
    let held = subst (λ (index : ℕ). IsHeldWith heap (part index).holding) (sym c.requires.its) c.requires.holds.in_hand.held in
    let called = remains_called doer after (remains_by (in_same me doer.party old c.requires.holds.can.tied)) counted in
    record {
      does = subst (λ (doing : Doing). Does [] old.count (did_in me old new) doing left (moment_with heap me doer old) (moment_with cut me after new))
          (sym (socket_cuts place c.args.addr heap.plain.index c.is_none.result c.if-is_none.false c.is_none.ensures c.requires.its))
          (does_then old.count (did_in me old new) (did_in me new new) (did_in me old new)
          (Doing.Then (Deed.Call heap.plain.index (call.Cut c.args.addr)) (giving_up place.index)) left left (moment_with heap me doer old)
          (in_hand cut (moment_of after part seen heard)) (moment_with cut me after new) (λ first second. did_then)
          (does_acted doer part seen heard (call.Cut c.args.addr) (gives.Pages run) heap cut step old.count (did_in me old new)
          (giving_up place.index) after (takes_segments taken ∷ gives_segments (after_retire heap.plain.index run taken) ∷ []) counted
          (subst (λ (index : ℕ). Did me (takes_segments taken ∷ gives_segments (after_retire index run taken) ∷ []) old new) c.requires.its
          (subst (λ (who : ℕ). Did who (takes_segments taken ∷ gives_segments (after_retire place.index run taken) ∷ []) old new) is_me is.did.1))
          (Acts.cuts_run doer heap.plain.index c.args.addr run taken))
          (does_still old.count (did_in me new new) left (in_hand cut (moment_of after part seen heard)) (moment_with cut me after new) []
          (did_same me new) (Acts.nothing (Some cut.plain.index) after) (λ at. (same at).entries) (λ at. (same at).serves) (same_party after.party) refl refl more.0 more.1 outcomes.0
          outcomes.1));
      keeps = record {
        in_hand = hand_moved doer part seen heard (call.Cut c.args.addr) (gives.Pages run) heap cut step old.taken c.requires.holds.in_hand new.taken
            after later (new.seen me) (new.heard me) is.stays.slots.taken
            called.same (ap (λ (doer : ParticipantView). doer.context) counted) parts
            (λ other far. ap (λ (part : HeapPart). part.holding) (apart other (λ same. far (same ∙ c.requires.its))))
            (subst (λ (index : ℕ). IsHeldWith cut (later index).holding) c.requires.its
            (held_behind_cut (caller_of doer) c.args.addr place.index run heap cut (part place.index) (later place.index) c.requires.its held
            c.in-Some.ensures.pages step gives_up)) tt;
        index = call_index _ _ _ _ _ step;
        its_socket = call_serves _ _ _ _ _ step;
        marks = call_marks me (caller_of doer) (call.Cut c.args.addr) (gives.Pages run) heap cut step tt;
        context = knew_called doer doer after refl counted;
        settled = subst
            (λ (who : ℕ). HasSettledAsks (old.part who) (old.heard who) → HasSettledAsks (new.part who) (new.heard who)) is_me is.settled
            c.requires.holds.settled;
        mapped = subst (λ (who : ℕ). HasMapped who new) is_me is.mapped;
        knows = record {
          naming = λ index.
              ⊎_elim
              (λ (here : index ≡ place.index). subst (λ (at : ℕ). (new.part me at).naming ≡ (old.part me at).naming) (sym here)
              (ap (λ (part : HeapPart). part.naming) gives_up.left))
              (λ (away : index ≢ place.index). ap (λ (part : HeapPart). part.naming) (apart index away)) (cases_eq index place.index);
          claims = λ index. (parts index).claims;
          told = hands_aside (takes_segments taken ∷ gives_segments (after_retire place.index run taken) ∷ [])
              (refl, refl, tt, (refl, refl, tt, refl))
              (subst (λ (who : ℕ). Did who (takes_segments taken ∷ gives_segments (after_retire place.index run taken) ∷ []) old new) is_me
              is.did.1);
        };
        remains = record {
          same = called.same;
          tied = tied_later me after.party others.later joined own marked called.tied;
          slots = is.stays.slots;
          marked = marked;
          joined = joined;
          lines = lines;
          later = others.later;
        };
      };
      says = (call_leaves (caller_of doer) (call.Cut c.args.addr) (gives.Pages run) heap cut step c.requires.holds.in_hand.sound.tiled tt).naming;
      others = others;
      goes_on = is.goes_on;
    }
