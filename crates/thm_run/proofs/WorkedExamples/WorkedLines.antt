-- Worked values: a line that makes one call of a heap, with its steps, is a way, and its call came in one hold of the heap. And what is kept
-- out: another's growth for a heap in hand, and a line that takes a heap twice.
use Rattle.std.proofs.Common.{◌≡◌, ◌≢◌, ◌∙◌, ◌==◌, ℕ, ◌<◌, ◌≤◌, Bool, true, false, cond, List, [], ◌∷◌, ◌++◌, drop, length, None, Some, IfSome, refl, ap, sym, subst, arith, append-nil}
use Rattle.std.specs.List.{All}
use Rattle.std.specs.Prelude.{flat_map}
use Rattle.std.proofs.lemmas.List.{drop_at}
use Rattle.std.proofs.lemmas.List.Elements.{All-cons, All-nil}
use Rattle.hp_base.specs.declared.limits.TheConstants.{MAX_HEAPS}
use Rattle.hp_hall.specs.HeapPairs.{pair_of}
use Rattle.hp_hall.specs.Mail.{Gives, MailStep, Notes, Takes}
use Rattle.hp_hall.specs.declared.kept.Kept.TheVariants.{Heap}
use Rattle.hp_hall.specs.declared.note.Note.TheVariants.{Published}
use Rattle.hp_heap.specs.History as heaps
use Rattle.hp_heap.specs.History.{HeapView}
use Rattle.hp_heap.specs.HistoryLaws.{run_cut}
use Rattle.hp_heap.specs.declared.entry.HeapAnswer.{HeapAnswer}
use Rattle.hp_heap.specs.declared.entry.HeapCall.{HeapCall}
use Rattle.hp_script.specs.declared.answer.Answer.{Answer}
use Rattle.hp_script.specs.declared.line.Line.{Line}
use Rattle.hp_segs.specs.SegsView.{SegsView}
use Rattle.hp_segs.specs.declared.growth.Growth.{Growth}
use Rattle.hp_serve.specs.Serving.{gives_segments, takes_segments}
use Rattle.hp_stats.specs.StatViews.{PenView}
use Rattle.hp_proc.specs.Acting.{Acts}
use Rattle.hp_proc.specs.Awaiting.{HasAwaited}
use Rattle.hp_proc.specs.Courses.{OwnCall, Standing, after_line, numbered_in}
use Rattle.hp_proc.specs.Doing.{Done}
use Rattle.hp_proc.specs.Doing.Done.{Called}
use Rattle.hp_proc.specs.Histories.{entries_for, entry_for}
use Rattle.hp_proc.specs.LinesDone.{Course}
use Rattle.hp_proc.specs.NamesOfLines.{NamesOfLine}
use Rattle.hp_proc.specs.ParticipantView.{ParticipantView, after_call, after_registering}
use Rattle.hp_proc.specs.Progress.{AreOnce}
use Rattle.hp_weave.specs.Holds.{Hold}
use Rattle.thm_run.proofs.InTurnByHolds.CallsInHolds.{calls_by_lines}
use Rattle.thm_run.proofs.PathSteps.Paths.{Comes}
use Rattle.thm_run.proofs.PathSteps.PathsActing.{ended_after, line_path}
use Rattle.thm_run.proofs.PathSteps.PathsAsking.{longest}
use Rattle.thm_run.specs.OwnHolds.{AreInHolds}
use Rattle.thm_run.specs.OwnLines.{AddsToHeap, AreAddedIn, IsLineOf, NoneElseGrowsAlong, WentByLines, added_in, heap_holds_from}
use Rattle.thm_run.specs.Seats.{EndedLine, Seat}

one_at_most : (is : Bool) → cond {A = ℕ} is 1 0 ≤ 1
one_at_most true = omega arith
one_at_most false = omega arith

module _ (count who : ℕ) (doer : ParticipantView) (me : doer.party.me ≡ who) (deadline : doer.party.deadline ≤ longest) (seat : Seat)
    (party : seat.party ≡ doer.party) (standing : seat.standing ≡ doer.context.standing) (taken given : HeapView) (pen : PenView)
    (call : HeapCall) (answer : HeapAnswer) (uncut : run_cut answer ≡ []) (same : given.plain.index ≡ taken.plain.index)
    (few : taken.plain.index < MAX_HEAPS) (line : Line) (result : Answer) (awaits : (steps : List MailStep) → HasAwaited line.act steps)
    (leaves : (after_registering line.act result (after_call doer)).context.standing
    ≡ after_line line result (Called taken.plain.index call answer ∷ []) doer.context.standing) where
  abbrev heap : ℕ
  heap = taken.plain.index

  abbrev own : OwnCall
  own = record { heap = heap; call = call; answer = answer }

  abbrev giving : List MailStep
  giving = Notes (Published given.plain.index (pair_of given)) ∷ Gives given.plain.index (Heap given pen) ∷ []

  abbrev steps : List MailStep
  steps = Takes heap (Heap taken pen) ∷ giving

  abbrev course : Course
  course = record { line = line; answer = result; trace = Called heap call answer ∷ [] }

  gives : Acts count (Some heap) None [] (after_call doer) (after_call doer) [] giving
  gives =
      subst (λ heap. Acts count (Some heap) None [] (after_call doer) (after_call doer) [] giving) same
      (Acts.gives_heap (after_call doer) given pen)

  acts : Acts count None None (heap ∷ []) doer (after_call doer) course.trace steps
  acts =
      Acts.and_then None (Some heap) None (heap ∷ []) [] doer doer (after_call doer) [] (Called heap call answer ∷ [])
      (Takes heap (Heap taken pen) ∷ []) giving (Acts.takes_heap doer taken pen few)
      (Acts.and_then (Some heap) (Some heap) None [] [] doer (after_call doer) (after_call doer) (Called heap call answer ∷ []) [] [] giving
      (Acts.makes_call doer heap call answer uncut) gives)

  -- the one that it is once its line has ended
  abbrev behind : ParticipantView
  behind = after_registering line.act result (after_call doer)

  abbrev ended : EndedLine
  ended = ended_after (after_call doer) line.act result (seat.trace ++ course.trace)

  comes : Comes count who behind.party behind.context.standing (ended ∷ []) course.trace steps seat
  comes = line_path count who (heap ∷ []) doer (after_call doer) line.act result course.trace steps acts me deadline seat party standing

  once : AreOnce (heap ∷ [])
  once other = omega (arith, one_at_most (heap == other))

  is_line : IsLineOf count who seat comes.new course steps
  is_line = record {
    doer = doer;
    mid = after_call doer;
    begins = party;
    ends = comes.party;
    me = me;
    deadline = deadline;
    held = heap ∷ [];
    once = once;
    acts = acts;
    names = NamesOfLine.none refl refl refl;
    awaited = awaits steps;
    path = comes.path;
    trace = comes.trace;
    lines = comes.lines
        ∙ ap (λ (left : Standing). seat.lines ++ record ended { records = left.records } ∷ []) (sym comes.standing)
        ∙ ap
        (λ (trace : List Done). seat.lines
        ++ record ended { records = comes.new.standing.records; numbered = length (numbered_in trace) } ∷ []) (sym comes.trace);
    left = comes.standing ∙ (leaves ∙ ap (after_line line result course.trace) (sym standing));
  }

  way : WentByLines count who seat comes.new (course ∷ []) steps
  way = WentByLines.does_line seat seat comes.new [] course [] steps (WentByLines.begins seat) is_line

  -- what came to the heap is the entry of that call
  module _ (sound : heaps.IsSound given) (history : given.history ≡ taken.history ++ entry_for who 1 own ∷ []) where
    abbrev hold : Hold HeapView
    hold = record { who = who; taken = taken; given = given }

    its : added_in hold ≡ entry_for who 1 own ∷ []
    its =
        ap (drop (length taken.history)) history
        ∙ drop_at taken.history (entry_for who 1 own ∷ []) (length taken.history) refl

    abbrev held : Bool → Bool → List (Hold HeapView)
    held first last = cond first (cond last (hold ∷ []) []) (cond last [] [])

    none_held : (last : Bool) → cond {A = List (Hold HeapView)} last [] [] ≡ []
    none_held true = refl
    none_held false = refl

    added : (other : ℕ) (is : Bool) → (heap == other) ≡ is
        → All AddsToHeap (cond is (hold ∷ []) []) × (flat_map added_in (cond is (hold ∷ []) []) ≡ cond is (entry_for who 1 own ∷ []) [])
    added other true is = (
      All-cons AddsToHeap hold [] (record { sound = sound; more = entry_for who 1 own ∷ []; history = history }) (All-nil AddsToHeap),
      append-nil (added_in hold) ∙ its,
    )
    added other false is = (All-nil AddsToHeap, refl)

    held_is : (other : ℕ) (is : Bool) → (heap == other) ≡ is → heap_holds_from who other None steps ≡ cond is (hold ∷ []) []
    held_is other true is =
        let also : (given.plain.index == other) ≡ true = ap (λ index. index == other) same ∙ is in
        ap (λ first. held first (given.plain.index == other)) is ∙ ap (λ last. held true last) also
    held_is other false is =
        ap (λ first. held first (given.plain.index == other)) is ∙ none_held (given.plain.index == other)

    adds : (other : ℕ) → AreAddedIn who other steps (entries_for who other 1 (own ∷ []))
    adds other =
        let is = held_is other (heap == other) refl in
        let so = added other (heap == other) refl in
        record { each = subst (All AddsToHeap) (sym is) so.0; are = ap (flat_map added_in) is ∙ so.1 }

    in_one_hold : AreInHolds who 1 (course ∷ [])
    unfolding way
    in_one_hold = calls_by_lines count who seat comes.new (course ∷ []) steps way (tt, adds)

-- a line takes no heap twice into its hand
never_twice : AreOnce (3 ∷ 3 ∷ []) → ⊥
never_twice once = omega (arith, once 3)

-- while 1 has a heap in hand, no growth of 2 is open for it
module _ (heap : HeapView) (pen : PenView) (segs : SegsView) (growth : Growth) (is : segs.growth ≡ Some growth) (from : growth.ask.from ≡ 2) where
  abbrev looks : List MailStep
  looks = Takes heap.plain.index (Heap heap pen) ∷ takes_segments segs ∷ gives_segments segs ∷ []

  never_for_it : growth.ask.heap ≡ heap.plain.index → NoneElseGrowsAlong 1 None looks → ⊥
  never_for_it its along =
      let alone : IfSome (Some growth) (λ growth. growth.ask.heap ≡ heap.plain.index → growth.ask.from ≡ 1) =
      subst (λ growth. IfSome growth (λ growth. growth.ask.heap ≡ heap.plain.index → growth.ask.from ≡ 1)) is along.0 in
      omega (arith, alone its, from)

  -- but one for another heap may be
  for_another : growth.ask.heap ≢ heap.plain.index → NoneElseGrowsAlong 1 None looks
  for_another apart =
      let alone : IfSome segs.growth (λ growth. growth.ask.heap ≡ heap.plain.index → growth.ask.from ≡ 1) =
      subst (λ growth. IfSome growth (λ growth. growth.ask.heap ≡ heap.plain.index → growth.ask.from ≡ 1)) (sym is)
      (λ same. absurd (apart same)) in
      (alone, (alone, tt))
