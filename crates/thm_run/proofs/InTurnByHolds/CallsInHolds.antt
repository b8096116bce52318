-- A line takes no heap twice, so what it made there came in one hold.
use Rattle.std.proofs.Common.{◌≡◌, ◌∙◌, ◌==◌, ℕ, ◌+◌, ◌≤◌, Bool, true, false, cond, List, [], ◌∷◌, ◌++◌, drop, length, None, Some, Option, inl, inr, refl, ap, sym, subst, arith, append-nil, length-append}
use Rattle.std.specs.List.{All}
use Rattle.std.specs.Prelude.{count_by, flat_map}
use Rattle.std.proofs.lemmas.List.{drop_at}
use Rattle.std.proofs.lemmas.List.Elements.{All-head}
use Rattle.hp_hall.specs.Mail.{Fetches, Gives, MailStep, Notes, Posts, Takes}
use Rattle.hp_hall.specs.declared.kept.Kept.TheVariants.{Heap, Names, Segments}
use Rattle.hp_hall.specs.declared.slot.TheConstants.{NAMES_SLOT}
use Rattle.hp_heap.proofs.HistoryFacts.Counting.{count_by-cons}
use Rattle.hp_heap.specs.History.{HeapView}
use Rattle.hp_heap.specs.declared.entry.Entry.{Entry}
use Rattle.hp_proc.proofs.Joining.{calls_on}
use Rattle.hp_proc.specs.Acting.{Acts}
use Rattle.hp_proc.specs.Courses.{calls_in}
use Rattle.hp_proc.specs.Denying.{denials_of}
use Rattle.hp_proc.specs.Doing.{Done}
use Rattle.hp_proc.specs.Histories.{entries_for}
use Rattle.hp_proc.specs.LinesDone.{Course, trace_of}
use Rattle.hp_proc.specs.ParticipantView.{ParticipantView}
use Rattle.hp_serve.specs.Attaching.{after_attaching}
use Rattle.hp_serve.specs.Serving.{acks_after, gives_segments, takes_segments}
use Rattle.hp_weave.specs.Holds.{Hold}
use Rattle.thm_run.proofs.HeapGivers.{GiveNoHeap}
use Rattle.thm_run.proofs.ServesNoHeap.{none_both}
use Rattle.thm_run.proofs.WaitsNoHeap.{acks_none, ask_none, notice_none, turn_none}
use Rattle.thm_run.specs.OwnHolds.{AreInHolds, StandTogether}
use Rattle.thm_run.specs.OwnLines.{AddsToHeap, CallsByLines, WentByLines, added_in, heap_holds_from, hold_ended}

-- HOW OFTEN A HEAP IS TAKEN

-- how often these steps take the heap of that index
abbrev takes_in : ℕ → List MailStep → ℕ
takes_in heap [] = 0
takes_in heap (Takes slot (Heap taken pen) ∷ steps) = cond {A = ℕ} (taken.plain.index == heap) 1 0 + takes_in heap steps
takes_in heap (step ∷ steps) = takes_in heap steps

sum_on : (here all first last : ℕ) → all ≡ first + last → here + all ≡ here + first + last
sum_on here all first last is = omega (arith, is)

takes_both : (heap : ℕ) (first last : List MailStep) → takes_in heap (first ++ last) ≡ takes_in heap first + takes_in heap last
takes_both heap [] last = omega arith
takes_both heap (Takes slot (Heap taken pen) ∷ first) last =
    sum_on (cond {A = ℕ} (taken.plain.index == heap) 1 0) (takes_in heap (first ++ last)) (takes_in heap first) (takes_in heap last)
    (takes_both heap first last)
takes_both heap (Takes slot (Segments segs) ∷ first) last = takes_both heap first last
takes_both heap (Takes slot (Names names) ∷ first) last = takes_both heap first last
takes_both heap (Gives slot kept ∷ first) last = takes_both heap first last
takes_both heap (Posts to frame action posted ∷ first) last = takes_both heap first last
takes_both heap (Fetches frame ∷ first) last = takes_both heap first last
takes_both heap (Notes note ∷ first) last = takes_both heap first last

takes_none : (heap : ℕ) (steps : List MailStep) → GiveNoHeap steps → takes_in heap steps ≡ 0
takes_none heap [] none = refl
takes_none heap (Takes slot (Heap taken pen) ∷ steps) none = absurd none.0
takes_none heap (Takes slot (Segments segs) ∷ steps) none = takes_none heap steps none.1
takes_none heap (Takes slot (Names names) ∷ steps) none = takes_none heap steps none.1
takes_none heap (Gives slot kept ∷ steps) none = takes_none heap steps none.1
takes_none heap (Posts to frame action posted ∷ steps) none = takes_none heap steps none.1
takes_none heap (Fetches frame ∷ steps) none = takes_none heap steps none.1
takes_none heap (Notes note ∷ steps) none = takes_none heap steps none.1

-- how often an index stands in a list
abbrev times_in : ℕ → List ℕ → ℕ
times_in heap [] = 0
times_in heap (other ∷ held) = cond {A = ℕ} (other == heap) 1 0 + times_in heap held

times_both : (heap : ℕ) (first last : List ℕ) → times_in heap (first ++ last) ≡ times_in heap first + times_in heap last
times_both heap [] last = omega arith
times_both heap (other ∷ first) last =
    sum_on (cond {A = ℕ} (other == heap) 1 0) (times_in heap (first ++ last)) (times_in heap first) (times_in heap last)
    (times_both heap first last)

times_counted : (heap : ℕ) (held : List ℕ) → times_in heap held ≡ count_by (λ other. other == heap) held
times_counted heap [] = refl
times_counted heap (other ∷ held) =
    let cons : count_by (λ other. other == heap) (other ∷ held)
    ≡ cond {A = ℕ} (other == heap) 1 0 + count_by (λ other. other == heap) held = count_by-cons (λ other. other == heap) other held in
    ap (λ count. cond {A = ℕ} (other == heap) 1 0 + count) (times_counted heap held) ∙ sym cons

-- what is done of a line takes each heap as often as it says
acts_take : {count : ℕ} {hand fin : Option ℕ} {held : List ℕ} {doer after : ParticipantView} {trace : List Done} {steps : List MailStep}
    → Acts count hand fin held doer after trace steps → (heap : ℕ) → takes_in heap steps ≡ times_in heap held
acts_take (Acts.nothing hand doer) heap = refl
acts_take {count} (Acts.waits_turn until doer after moved steps turned) heap =
    takes_none heap steps (turn_none (denials_of doer.context.standing) count until doer.party after steps moved turned)
acts_take (Acts.takes_heap doer taken pen few) heap = refl
acts_take (Acts.gives_heap doer given pen) heap = refl
acts_take (Acts.makes_call doer its call answer uncut) heap = refl
acts_take (Acts.cuts_run doer its addr run taken) heap = refl
acts_take {count} (Acts.asks_pages doer after asked run steps does) heap =
    takes_none heap steps (ask_none (denials_of doer.context.standing) count doer.party after asked steps run does)
acts_take {count} (Acts.notifies_run doer after its run steps does) heap =
    takes_none heap steps (notice_none (denials_of doer.context.standing) count doer.party after its run steps does)
acts_take (Acts.attaches doer after taken caught tried) heap =
    let acks : List MailStep = acks_after caught (length taken.log) in
    let gives : List MailStep = gives_segments (after_attaching doer.party.me caught taken) ∷ [] in
    takes_none heap (takes_segments taken ∷ (acks ++ gives)) (tt, none_both acks gives (acks_none caught (length taken.log)) (tt, tt))
acts_take (Acts.detaches doer taken told above left bare heard) heap = refl
acts_take (Acts.notes_left doer elements) heap = refl
acts_take (Acts.reads_names doer names) heap = refl
acts_take (Acts.looks_up_lines doer other lines) heap = refl
acts_take (Acts.reads_stats doer its pair) heap = refl
acts_take (Acts.changes_names hand doer change) heap = refl
acts_take (Acts.holds_names held doer after taken given trace steps inner changes) heap =
    omega (arith, takes_both heap steps (Gives NAMES_SLOT (Names given) ∷ []), acts_take inner heap)
acts_take (Acts.sees_heap doer seen pen few) heap = refl
acts_take (Acts.looks_at_segs doer its taken) heap = refl
acts_take (Acts.plans_range doer its addr len page taken) heap = refl
acts_take (Acts.claims doer its chunk taken plan) heap = refl
acts_take (Acts.releases doer its chunk taken) heap = refl
acts_take (Acts.maps_chunk doer its chunk after ended did) heap = refl
acts_take (Acts.shares doer its chunk same) heap = refl
acts_take (Acts.leaves doer its chunk after did) heap = refl
acts_take (Acts.and_then hand between fin held more doer mid after first rest before behind one two) heap =
    omega (arith, takes_both heap before behind, times_both heap held more, acts_take one heap, acts_take two heap)

-- AND HOW OFTEN IT IS HELD

-- whether a value was taken before
abbrev held_once : Option HeapView → ℕ
held_once None = 0
held_once (Some taken) = 1

module _ (who heap : ℕ) where
  -- a hold ends what was taken
  few_taken : (is : Bool) (taken : Option HeapView) (next now : List (Hold HeapView)) (more : ℕ) → length next ≤ more + 1
      → length now ≤ more + held_once taken → length (cond is next now) ≤ cond {A = ℕ} is 1 0 + more + held_once taken
  few_taken true taken next now more one other = omega (arith, one)
  few_taken false taken next now more one other = omega (arith, other)

  few_given : (is : Bool) (taken : Option HeapView) (given : HeapView) (next now : List (Hold HeapView)) (more : ℕ)
      → length next ≤ more + 0 → length now ≤ more + held_once taken
      → length (cond is (hold_ended who taken given ++ next) now) ≤ more + held_once taken
  few_given true None given next now more one other = one
  few_given true (Some taken) given next now more one other = omega (arith, one)
  few_given false taken given next now more one other = other

  few_holds : (taken : Option HeapView) (steps : List MailStep)
      → length (heap_holds_from who heap taken steps) ≤ takes_in heap steps + held_once taken
  few_holds taken [] = omega arith
  few_holds taken (Takes slot (Heap other pen) ∷ steps) =
      few_taken (other.plain.index == heap) taken (heap_holds_from who heap (Some other) steps) (heap_holds_from who heap taken steps)
      (takes_in heap steps) (few_holds (Some other) steps) (few_holds taken steps)
  few_holds taken (Takes slot (Segments segs) ∷ steps) = few_holds taken steps
  few_holds taken (Takes slot (Names names) ∷ steps) = few_holds taken steps
  few_holds taken (Gives slot (Heap other pen) ∷ steps) =
      few_given (other.plain.index == heap) taken other (heap_holds_from who heap None steps) (heap_holds_from who heap taken steps)
      (takes_in heap steps) (few_holds None steps) (few_holds taken steps)
  few_holds taken (Gives slot (Segments segs) ∷ steps) = few_holds taken steps
  few_holds taken (Gives slot (Names names) ∷ steps) = few_holds taken steps
  few_holds taken (Posts to frame action posted ∷ steps) = few_holds taken steps
  few_holds taken (Fetches frame ∷ steps) = few_holds taken steps
  few_holds taken (Notes note ∷ steps) = few_holds taken steps

-- so what came in these holds came in one
together_by : (holds : List (Hold HeapView)) (entries : List Entry) → length holds ≤ 1 → All AddsToHeap holds
    → flat_map added_in holds ≡ entries → StandTogether entries
together_by [] entries few each are = inl (sym are)
together_by (hold ∷ []) entries few each are =
    let adds = All-head AddsToHeap hold [] each in
    let more : added_in hold ≡ adds.more =
    ap (drop (length hold.taken.history)) adds.history
    ∙ drop_at hold.taken.history adds.more (length hold.taken.history) refl in
    let its : adds.more ≡ entries = sym more ∙ (sym (append-nil (added_in hold)) ∙ are) in
    inr (record { hold = hold; sound = adds.sound; came = adds.history ∙ ap (λ more. hold.taken.history ++ more) its })
together_by (hold ∷ (other ∷ holds)) entries few each are = absurd (omega (arith, few))

-- ALL LINES

in_holds_more : (who number : ℕ) (courses : List Course) (course : Course) → AreInHolds who number courses
    → ((heap : ℕ) → StandTogether (entries_for who heap (number + length (calls_in (trace_of courses))) (calls_in course.trace)))
    → AreInHolds who number (courses ++ course ∷ [])
in_holds_more who number [] course has stand =
    let same : number + 0 ≡ number = omega arith in
    (λ heap. subst (λ number. StandTogether (entries_for who heap number (calls_in course.trace))) same (stand heap), tt)
in_holds_more who number (first ∷ courses) course has stand =
    let next : ℕ = number + length (calls_in first.trace) in
    let same : number + length (calls_in (trace_of (first ∷ courses))) ≡ next + length (calls_in (trace_of courses)) =
    omega (
      arith,
      ap length (calls_on first.trace (trace_of courses)),
      length-append (calls_in first.trace) (calls_in (trace_of courses)),
    ) in (
      has.0,
      in_holds_more who next courses course has.1
          (λ heap. subst (λ number. StandTogether (entries_for who heap number (calls_in course.trace))) same (stand heap)),
    )

pub calls_by_lines : CallsByLines
calls_by_lines count who _ _ _ _ (WentByLines.begins seat) adds = tt
calls_by_lines count who _ _ _ _ (WentByLines.beside first old new courses before steps went path same stays none) adds =
    calls_by_lines count who first old courses before went adds
calls_by_lines count who _ _ _ _ (WentByLines.does_line first old new courses course before steps went is) adds =
    in_holds_more who 1 courses course (calls_by_lines count who first old courses before went adds.0) (λ heap.
    let its = adds.1 heap in
    let few : length (heap_holds_from who heap None steps) ≤ 1 =
    omega (arith, few_holds who heap None steps, acts_take is.acts heap, times_counted heap is.held, is.once heap) in
    together_by (heap_holds_from who heap None steps)
    (entries_for who heap (1 + length (calls_in (trace_of courses))) (calls_in course.trace)) few its.each its.are)
