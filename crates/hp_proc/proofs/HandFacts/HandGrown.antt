-- A participant asked for pages for the heap in its hand, and the heap took in what was granted.
use Rattle.std.proofs.Common.{◌≡◌, ◌≢◌, ◌∙◌, ℕ, ◌+◌, ◌≤◌, Bool, true, false, List, [], ◌∷◌, Option, Some, None, IfNone, IfSome, IsSome, refl, ap, sym, subst, ⊎_elim, arith}
use Rattle.std.proofs.lemmas.Bool.{cases_eq}
use Rattle.hp_base.specs.declared.row.Run.{Run}
use Rattle.hp_base.specs.declared.tag.Tag.{Tag}
use Rattle.hp_hall.specs.HallState.{Did, HallState, HasMapped}
use Rattle.hp_hall.specs.Mail.{MailStep}
use Rattle.hp_hall.specs.Naming.{naming_of}
use Rattle.hp_hall.specs.Telling.{has_names}
use Rattle.hp_hall.proofs.NamesLeft.{call_leaves}
use Rattle.hp_hall.proofs.HallStates.{did_same, did_then}
use Rattle.hp_heap.specs.Allowed.{IsAllowed}
use Rattle.hp_heap.specs.History.{HeapView, IsCall}
use Rattle.hp_heap.specs.declared.entry.HeapAnswer.TheVariants as gives
use Rattle.hp_heap.specs.declared.entry.HeapCall.TheVariants as call
use Rattle.hp_proc.specs.Allocating.{after_asking, searching_again, with_run}
use Rattle.hp_proc.specs.Contexts.{Context}
use Rattle.hp_hall.specs.Holding.{HeapPart}
use Rattle.hp_proc.specs.Doing.{Deed, Doing}
use Rattle.hp_proc.specs.Halting.{ActsOn, Halts}
use Rattle.hp_proc.specs.LineInHall.{HoldsIn, KeepsHeld, KnowsAsBefore, did_in, moment_with}
use Rattle.hp_proc.specs.ParticipantView.{ParticipantView, after_call, with_party}
use Rattle.hp_proc.specs.Progress.{Does, IsInHand, caller_of, in_hand, moment_of}
use Rattle.hp_proc.specs.Denying.{denials_of}
use Rattle.hp_serve.specs.Asking.{GrowsHeld, HasSettledAsks, IsAsked, IsHeldAsBefore}
use Rattle.hp_serve.specs.AskSteps.{AsksNothing, DoesAsk, DoesAskOn}
use Rattle.hp_serve.specs.InHall.{RemainsIn}
use Rattle.hp_serve.specs.Party.{Party}
use Rattle.hp_serve.specs.Serving.{gives_segments, takes_segments}
use Rattle.hp_serve.specs.declared.pages_asked.PagesAsked.{PagesAsked}
use Rattle.hp_proc.proofs.Halted.{halts_by}
use Rattle.hp_proc.proofs.ChunksLeft.{call_marks}
use Rattle.hp_proc.proofs.HandFacts.HandAsked.{asked_entries, asked_serves, can_grow, does_ask, halts_ask, hand_asked, hand_grown, hand_same, none_asked}
use Rattle.hp_proc.proofs.HandFacts.HandCalls.{call_index, call_serves, does_call}
use Rattle.hp_proc.proofs.HandFacts.Holds.{knew_called, knew_same, remains_called}
use Rattle.hp_proc.proofs.Joining.{does_same, does_then, goes_as}
use Rattle.hp_proc.proofs.WaitsAside.{ask_on_aside, hands_aside}

-- by the run that was granted a heap grew, or it did not
abbrev pub GrewBy : Option Run → Bool → HeapView → HeapView → ParticipantView → ParticipantView → Type 0
GrewBy None granted heap next after last = (granted ≡ false) × (next ≡ heap) × (last ≡ after)
GrewBy (Some run) granted heap next after last =
    (granted ≡ true) × (last ≡ after_call after) × IsCall (caller_of after) (call.Grow run) gives.Done heap next

pub grew_by : (run : Option Run) (granted : Bool) (heap next : HeapView) (after last : ParticipantView)
    → IfNone run ((granted ≡ false) × (next ≡ heap) × (last ≡ after))
    → IfSome run (λ run. (granted ≡ true) × (last ≡ after_call after) × IsCall (caller_of after) (call.Grow run) gives.Done heap next)
    → GrewBy run granted heap next after last
grew_by None granted heap next after last none some = none
grew_by (Some run) granted heap next after last none some = some

-- by an ask it has the names in hand, or has not, as before
pub told_asked : (doer after : ParticipantView) (a b : HallState) (asked : PagesAsked) (run : Option Run) (stopped : Bool)
    → ((steps : List MailStep) × Did doer.party.me steps a b
    × DoesAskOn (denials_of doer.context.standing) a.count doer.party after.party asked steps run stopped)
    → has_names (b.done doer.party.me) ≡ has_names (a.done doer.party.me)
told_asked doer after a b asked run stopped did =
    hands_aside did.0 (ask_on_aside (denials_of doer.context.standing) a.count doer.party after.party asked did.0 run stopped did.2) did.1

pub told_unasked : (me : ℕ) (old new : Party) (a b : HallState) → AsksNothing me old new a b → has_names (b.done me) ≡ has_names (a.done me)
told_unasked me old new a b nothing =
    let segs = nothing.armed.did.0 in
    hands_aside (takes_segments segs ∷ gives_segments segs ∷ []) (refl, refl, tt, (refl, refl, tt, refl)) nothing.armed.did.1

module _ (doer after : ParticipantView) (a b : HallState) (heap : HeapView) (asked : PagesAsked) (holds : HoldsIn doer.party.me doer heap a)
    (its : asked.heap ≡ heap.plain.index) (known : after.context ≡ doer.context) (remains : RemainsIn doer.party.me doer.party after.party a b)
    (settled : HasSettledAsks (b.part doer.party.me) (b.heard doer.party.me)) (mapped : HasMapped doer.party.me b)
    (told : has_names (b.done doer.party.me) ≡ has_names (a.done doer.party.me)) where
  abbrev me : ℕ
  me = doer.party.me

  -- where all is held as before, it has the heap in hand still
  pub keeps_asked : ((index : ℕ) → IsHeldAsBefore (a.part me index) (b.part me index)) → KeepsHeld me doer after heap heap a b
  keeps_asked held = record {
    in_hand = hand_asked doer after (a.part me) (b.part me) (a.seen me) (b.seen me) (a.heard me) (b.heard me) heap remains.same known a.taken
        b.taken remains.slots.taken holds.in_hand held;
    index = refl;
    its_socket = refl;
    marks = refl;
    context = knew_same doer.context after.context known;
    settled = settled;
    mapped = mapped;
    knows = record { naming = λ index. (held index).naming; claims = λ index. (held index).claims; told = told };
    remains = remains;
  }

  -- where it could not be armed it asked for nothing
  pub halts_unasked : (doing : Doing) → AsksNothing me doer.party after.party a b
      → Halts [] a.count (did_in me a b) doing (moment_with heap me doer a) (moment_with heap me after b)
  halts_unasked doing nothing =
      let segs = nothing.armed.did.0 in
      let steps : List MailStep = takes_segments segs ∷ gives_segments segs ∷ [] in
      let same : doer ≡ after = ap (λ (party : Party). with_party party doer) (sym nothing.party) ∙ goes_as doer after known in
      halts_by [] a.count (did_in me a b) doing (moment_with heap me doer a) (moment_with heap me after b) steps nothing.armed.did.1
      (subst (λ (after : ParticipantView). ActsOn a.count (Some heap.plain.index) (Some heap.plain.index) [] doer after [] steps) same
      (ActsOn.asks_nothing doer heap.plain.index segs))
      (hand_same me after.party.me heap (a.part me) (b.part me) remains.same.me
      (λ index. ap (λ (part : HeapPart). part.entries) (nothing.armed.stays.mine.parts.part index)))
      remains.same known

  -- what was granted it may take in
  pub allowed_by : ((index : ℕ) → index ≢ asked.heap → IsHeldAsBefore (a.part me index) (b.part me index)) → (who : ℕ) (run : Option Run)
      → GrowsHeld asked.heap run (a.part me asked.heap) (b.part me asked.heap) → IsSome heap.plain.serves
      → IfSome run (λ run. IsAllowed who (call.Grow run) heap.plain)
  allowed_by others who None grows some = tt
  allowed_by others who (Some run) grows some =
      can_grow doer (a.part me) (b.part me) (a.seen me) (b.seen me) (a.heard me) (b.heard me) heap a.taken holds.in_hand asked.heap run its others
      grows some

  module _ (others : (index : ℕ) → index ≢ asked.heap → IsHeldAsBefore (a.part me index) (b.part me index)) (next : HeapView)
      (last : ParticipantView) where
    hand : IsInHand b.taken (moment_of after (a.part me) (a.seen me) (a.heard me)) heap
    hand = hand_asked doer after (a.part me) (a.part me) (a.seen me) (a.seen me) (a.heard me) (a.heard me) heap remains.same known a.taken
        b.taken remains.slots.taken holds.in_hand
        (λ index. record { entries = refl; marked = refl; serves = refl; told = refl; naming = refl; claims = refl; holding = refl })

    knows_grown : (run : Run) → GrowsHeld asked.heap (Some run) (a.part me asked.heap) (b.part me asked.heap) → KnowsAsBefore me a b
    knows_grown run grows = record {
      naming = λ index.
          ⊎_elim (λ (here : index ≡ asked.heap). subst (λ (at : ℕ). (b.part me at).naming ≡ (a.part me at).naming) (sym here) grows.naming)
          (λ (apart : index ≢ asked.heap). (others index apart).naming) (cases_eq index asked.heap);
      claims = λ index.
          ⊎_elim (λ (here : index ≡ asked.heap). subst (λ (at : ℕ). (b.part me at).claims ≡ (a.part me at).claims) (sym here) grows.claims)
          (λ (apart : index ≢ asked.heap). (others index apart).claims) (cases_eq index asked.heap);
      told = told;
    }

    keeps_brought : (run : Run) → GrowsHeld asked.heap (Some run) (a.part me asked.heap) (b.part me asked.heap) → last ≡ after_call after
        → IsCall (caller_of after) (call.Grow run) gives.Done heap next → KeepsHeld me doer last heap next a b
    keeps_brought run grows counted step = record {
      in_hand = hand_grown after (a.part me) (b.part me) (a.seen me) (b.seen me) (a.heard me) (b.heard me) heap b.taken hand asked.heap run its
          others grows next last counted step;
      index = call_index _ _ _ _ _ step;
      its_socket = call_serves _ _ _ _ _ step;
      marks = call_marks me (caller_of after) (call.Grow run) gives.Done heap next step tt;
      context = knew_called doer after last known counted;
      settled = settled;
      mapped = mapped;
      knows = knows_grown run grows;
      remains = remains_called after last remains counted;
    }

    -- it has the heap in hand with what was granted
    pub keeps_grown : (run : Option Run) (granted : Bool) → GrowsHeld asked.heap run (a.part me asked.heap) (b.part me asked.heap)
        → GrewBy run granted heap next after last → KeepsHeld me doer last heap next a b
    keeps_grown None granted grows grew =
        subst (λ (next : HeapView). KeepsHeld me doer last heap next a b) (sym grew.1)
        (subst (λ (last : ParticipantView). KeepsHeld me doer last heap heap a b) (sym grew.2)
        (keeps_asked (none_asked asked.heap (a.part me) (b.part me) others grows)))
    keeps_grown (Some run) granted grows grew = keeps_brought run grows grew.1 grew.2

    -- and what the names speak of, of that, is as it was
    pub says_grown : (run : Option Run) (granted : Bool) → GrewBy run granted heap next after last → naming_of next.plain ≡ naming_of heap.plain
    says_grown None granted grew = ap (λ (heap : HeapView). naming_of heap.plain) grew.1
    says_grown (Some run) granted grew =
        (call_leaves (caller_of after) (call.Grow run) gives.Done heap next grew.2 holds.in_hand.sound.tiled tt).naming

    -- where none was, heap and calls are as they were
    pub passed_by : (run : Option Run) (granted : Bool) → GrewBy run granted heap next after last → granted ≡ false
        → (next ≡ heap) × (last.context ≡ doer.context)
    passed_by None granted grew none = (grew.1, ap (λ (doer : ParticipantView). doer.context) grew.2 ∙ known)
    passed_by (Some run) granted grew none = cc

    -- it used room for one call at most
    pub spare_by : (run : Option Run) (granted : Bool) → GrewBy run granted heap next after last → heap.spare ≤ next.spare + 1
    spare_by None granted grew = omega (arith, ap (λ (heap : HeapView). heap.spare) grew.1)
    spare_by (Some run) granted grew = omega (arith, grew.2.spare)

    pub calls_by : (run : Option Run) (granted : Bool) → GrewBy run granted heap next after last
        → last.context.calls ≤ doer.context.calls + 1
    calls_by None granted grew =
        omega (arith, ap (λ (doer : ParticipantView). doer.context.calls) grew.2, ap (λ (context : Context). context.calls) known)
    calls_by (Some run) granted grew =
        omega (arith, ap (λ (doer : ParticipantView). doer.context.calls) grew.1, ap (λ (context : Context). context.calls) known)

    module _ (tag : Tag) (otherwise : Doing) (steps : List MailStep) (made : Did me steps a b) where
      abbrev Asking : Option Run → Type 0
      Asking run = Does [] a.count (did_in me a b) (Doing.Then (Deed.Ask asked) (with_run asked.heap asked.request tag otherwise))
          (with_run asked.heap asked.request tag otherwise run) (moment_with heap me doer a)
          (in_hand heap (moment_of after (b.part me) (b.seen me) (b.heard me)))

      does_asking : (run : Option Run) → GrowsHeld asked.heap run (a.part me asked.heap) (b.part me asked.heap)
          → DoesAsk (denials_of doer.context.standing) a.count doer.party after.party asked steps run
          → IsAsked (b.seen me) (b.heard me) me doer.party.asked after.party.asked asked run → Asking run
      does_asking run grows acts is =
          let seen = remains.later.seen me in
          let heard = remains.later.heard me in
          does_ask doer after (a.part me) (b.part me) (a.seen me) (b.seen me) (a.heard me) (b.heard me) heap remains.same known a.count
          (did_in me a b) asked (with_run asked.heap asked.request tag otherwise) run steps its made acts is
          (asked_entries asked.heap run (a.part me) (b.part me) others grows)
          (asked_serves asked.heap run (a.part me) (b.part me) others grows) seen.0 seen.1 heard.0 heard.1

      -- what it asked for and took in are the next things of its line
      pub does_grown : (run : Option Run) (granted : Bool) → GrowsHeld asked.heap run (a.part me asked.heap) (b.part me asked.heap)
          → GrewBy run granted heap next after last
          → DoesAsk (denials_of doer.context.standing) a.count doer.party after.party asked steps run
          → IsAsked (b.seen me) (b.heard me) me doer.party.asked after.party.asked asked run
          → Does [] a.count (did_in me a b) (Doing.Then (Deed.Ask asked) (with_run asked.heap asked.request tag otherwise))
          (after_asking asked.heap asked.request tag otherwise granted) (moment_with heap me doer a) (moment_with next me last b)
      does_grown None granted grows grew acts is =
          subst (λ (granted : Bool). Does [] a.count (did_in me a b)
          (Doing.Then (Deed.Ask asked) (with_run asked.heap asked.request tag otherwise))
          (after_asking asked.heap asked.request tag otherwise granted) (moment_with heap me doer a) (moment_with next me last b)) (sym grew.0)
          (subst (λ (next : HeapView). Does [] a.count (did_in me a b)
          (Doing.Then (Deed.Ask asked) (with_run asked.heap asked.request tag otherwise)) otherwise (moment_with heap me doer a)
          (moment_with next me last b)) (sym grew.1)
          (subst (λ (last : ParticipantView). Does [] a.count (did_in me a b)
          (Doing.Then (Deed.Ask asked) (with_run asked.heap asked.request tag otherwise)) otherwise (moment_with heap me doer a)
          (moment_with heap me last b)) (sym grew.2)
          (does_asking None grows acts is)))
      does_grown (Some run) granted grows grew acts is =
          let then : Doing = searching_again asked.heap asked.request tag in
          let mid = in_hand heap (moment_of after (b.part me) (b.seen me) (b.heard me)) in
          let called =
          subst (λ (index : ℕ). Does [] a.count (did_in me b b) (Doing.Then (Deed.Call index (call.Grow run)) (λ _. then)) then mid
          (moment_with next me last b)) (sym its)
          (does_call after (b.part me) (b.seen me) (b.heard me) (call.Grow run) gives.Done heap next grew.2 a.count (did_in me b b) (λ _. then)
          last grew.1 (did_same me b) refl) in
          subst (λ (granted : Bool). Does [] a.count (did_in me a b)
          (Doing.Then (Deed.Ask asked) (with_run asked.heap asked.request tag otherwise))
          (after_asking asked.heap asked.request tag otherwise granted) (moment_with heap me doer a) (moment_with next me last b)) (sym grew.0)
          (does_then a.count (did_in me a b) (did_in me b b) (did_in me a b)
          (Doing.Then (Deed.Ask asked) (with_run asked.heap asked.request tag otherwise))
          (with_run asked.heap asked.request tag otherwise (Some run)) then (moment_with heap me doer a) mid (moment_with next me last b)
          (λ first second. did_then) (does_asking (Some run) grows acts is) called)

      -- so it is where somebody stopped meanwhile
      pub halts_grown : (run : Option Run) (granted : Bool) → GrowsHeld asked.heap run (a.part me asked.heap) (b.part me asked.heap)
          → GrewBy run granted heap next after last
          → DoesAskOn (denials_of doer.context.standing) a.count doer.party after.party asked steps run true
          → Halts [] a.count (did_in me a b) (Doing.Then (Deed.Ask asked) (with_run asked.heap asked.request tag otherwise))
          (moment_with heap me doer a)
          (moment_with next me last b)
      halts_grown None granted grows grew acts =
          let mid = in_hand heap (moment_of after (b.part me) (b.seen me) (b.heard me)) in
          subst (λ (next : HeapView). Halts [] a.count (did_in me a b)
          (Doing.Then (Deed.Ask asked) (with_run asked.heap asked.request tag otherwise))
          (moment_with heap me doer a) (moment_with next me last b)) (sym grew.1)
          (subst (λ (last : ParticipantView). Halts [] a.count (did_in me a b)
          (Doing.Then (Deed.Ask asked) (with_run asked.heap asked.request tag otherwise)) (moment_with heap me doer a)
          (moment_with heap me last b)) (sym grew.2)
          (halts_ask doer after (a.part me) (b.part me) (a.seen me) (b.seen me) (a.heard me) (b.heard me) heap remains.same known a.count
          (did_in me a b) (did_in me b b) (did_in me a b) asked (with_run asked.heap asked.request tag otherwise) None steps its made acts
          (asked_entries asked.heap None (a.part me) (b.part me) others grows) (λ first second. did_then) otherwise mid
          (does_same a.count (did_in me b b) otherwise mid (did_same me b))))
      halts_grown (Some run) granted grows grew acts =
          let then : Doing = searching_again asked.heap asked.request tag in
          let mid = in_hand heap (moment_of after (b.part me) (b.seen me) (b.heard me)) in
          let called =
          subst (λ (index : ℕ). Does [] a.count (did_in me b b) (Doing.Then (Deed.Call index (call.Grow run)) (λ _. then)) then mid
          (moment_with next me last b)) (sym its)
          (does_call after (b.part me) (b.seen me) (b.heard me) (call.Grow run) gives.Done heap next grew.2 a.count (did_in me b b) (λ _. then)
          last grew.1 (did_same me b) refl) in
          halts_ask doer after (a.part me) (b.part me) (a.seen me) (b.seen me) (a.heard me) (b.heard me) heap remains.same known a.count
          (did_in me a b) (did_in me b b) (did_in me a b) asked (with_run asked.heap asked.request tag otherwise) (Some run) steps its made acts
          (asked_entries asked.heap (Some run) (a.part me) (b.part me) others grows) (λ first second. did_then) then (moment_with next me last b)
          called
