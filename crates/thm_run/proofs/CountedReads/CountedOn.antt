-- After a line more what lines are handed of names, of heaps and of statistics is what the lines before them leave.
use Rattle.std.proofs.Common.{◌≡◌, ◌⊎◌, ◌∙◌, ℕ, ◌+◌, ◌<◌, List, [], ◌∷◌, ◌++◌, append-nil, arith, length, Option, Some, None, refl, ap, sym, subst, inl, inr, ⊎_elim}
use Rattle.std.specs.List.{AllByRecursion}
use Rattle.std.specs.Option.{option_map}
use Rattle.std.specs.Prelude.{slice_get}
use Rattle.std.proofs.lemmas.List.Elements.{All-push}
use Rattle.std.proofs.lemmas.Option.{same_Some, slice_get-map}
use Rattle.hp_hall.specs.Mail.{MailStep, steps_of}
use Rattle.hp_hall.specs.Values.{history_of}
use Rattle.hp_hall.specs.declared.kept.Kept.{Kept}
use Rattle.hp_hall.specs.declared.kept.Kept.TheVariants.{Heap, Names, Segments}
use Rattle.hp_heap.specs.History.{HeapView, replay}
use Rattle.hp_heap.specs.PlainHeap.{PlainHeap, opening_heap}
use Rattle.hp_heap.specs.Statistics.{statistics_of}
use Rattle.hp_heap.specs.declared.entry.Entry.{Entry}
use Rattle.hp_base.specs.declared.stats.Stats.{Stats}
use Rattle.hp_plain.specs.HallView.{HallView, IsHall, IsHome, SlotView, history_in, lines_at, newest_by, newest_of, slot_at}
use Rattle.hp_plain.specs.Keeping.{values_in}
use Rattle.hp_plain.specs.Told.{told_of}
use Rattle.hp_proc.proofs.Joining.{calls_on}
use Rattle.hp_proc.specs.Courses.{OwnCall, calls_in}
use Rattle.hp_proc.specs.Doing.{Counted, Done}
use Rattle.hp_proc.specs.Doing.Done.{HeapSeen, NamesRead, StatsRead}
use Rattle.hp_proc.specs.Ends.{history_by, none_made}
use Rattle.hp_proc.specs.Handing.{counted_in}
use Rattle.hp_proc.specs.Heaps.{sockets_of}
use Rattle.hp_proc.specs.Histories.{entries_for}
use Rattle.hp_proc.specs.LinesDone.{Course}
use Rattle.hp_proc.specs.NamesAtEnd.{AreHandedTogether}
use Rattle.hp_proc.specs.NamesOfLines.{NamesOfLine}
use Rattle.hp_proc.specs.OneThread.{IsLeftBy, IsMoment, counted_by, names_by}
use Rattle.hp_proc.specs.Progress.{HoldsNone}
use Rattle.hp_proc.specs.SharedNames.{SharedNames}
use Rattle.hp_script.specs.declared.answer.Answer.{Answer}
use Rattle.hp_script.specs.declared.line.Act.{Act}
use Rattle.hp_script.specs.declared.line.Act.TheVariants as act
use Rattle.hp_script.specs.declared.line.Line.{Line}
use Rattle.hp_script.specs.declared.workload.Workload.{Workload}
use Rattle.hp_serve.specs.Party.{Party}
use Rattle.hp_stats.specs.declared.stat_pair.StatPair.{StatPair}
use Rattle.thm_run.proofs.CountedReads.HandedNames.{read_first}
use Rattle.thm_run.proofs.CountedReads.HandedStates.{seen_left}
use Rattle.thm_run.proofs.CountedReads.HandedTogether.{line_together}
use Rattle.thm_run.proofs.CountedReads.HomeHeaps.{home_replay}
use Rattle.thm_run.proofs.CountedReads.NewestRead.{IsBare, IsNoPair, IsReadOf, IsReadSo, PublishNothing, acts_bare, acts_read, all_at, all_both, all_read, all_split, first_nil, gives_publish}
use Rattle.thm_run.proofs.CountedReads.ReadlessLines.{AsksNoStats, IsReadless, line_readless}
use Rattle.thm_run.proofs.GrownHeaps.GrownLines.{calls_made, history_append}
use Rattle.thm_run.proofs.HeapGivers.{GiveNoHeap}
use Rattle.thm_run.proofs.JudgedGrowths.JudgedOn.{IsLastOrEarlier, last_or_earlier}
use Rattle.thm_run.proofs.LineSteps.LineComes.{course_of, later, line_gives, names_left, trace}
use Rattle.thm_run.proofs.NamesAlong.{names_more}
use Rattle.thm_run.proofs.NamesEnd.LinesHeld.{unread_first}
use Rattle.thm_run.proofs.PathSteps.WaysOn.{steps_done}
use Rattle.thm_run.proofs.RunFacts.SoFarFacts.{slots_so_far}
use Rattle.thm_run.proofs.PickedFronts.{at}
use Rattle.thm_run.specs.EndLaws.{GoesBy, IsGiven, tells_one_more}
use Rattle.thm_run.specs.Handing.{AreOfLinesBefore, CountedGoesOnByLine, ReadsFirst}
use Rattle.thm_run.specs.SoFar.{SoFar}

-- nothing was allocated in a heap that opens
opening_zeros : (index : ℕ) (serves : Option ℕ)
    → record { total = 0; free = 0; used = 0; greatest = 0; busy = 0; frees = 0 } ≡ statistics_of (opening_heap index serves)
unfolding statistics_of
opening_zeros index serves = refl

-- a line asks for no statistics that were published, or holds no heap
no_stats_or_bare : (deed : Act) (held : List ℕ) → HoldsNone deed held → AsksNoStats deed ⊎ (held ≡ [])
no_stats_or_bare (act.Stats heap) held none = inr none
no_stats_or_bare _ held none = inl tt

-- what a hall of a workload has for newest of a slot is what the lines so far leave
module _ (workload : Workload) (courses : List Course) (parties : List Party) (hall : HallView) (is_hall : IsHall hall)
    (so : SoFar workload courses parties hall) (heap : ℕ) (slot : SlotView) (at_slot : slot_at hall heap ≡ Some slot) where
  abbrev Leaves : Kept → Type 0
  Leaves kept = counted_in (newest_by kept None) ≡ counted_by workload heap courses

  its_history : history_of slot.kept ≡ history_by heap none_made courses
  its_history = ap history_in (sym at_slot) ∙ so.in_order heap

  of_heap : (own : HeapView) (pen : _) → slot.kept ≡ Heap own pen → Leaves (Heap own pen)
  of_heap own pen is =
      let history : own.history ≡ history_by heap none_made courses = ap history_of (sym is) ∙ its_history in
      let opening : PlainHeap = opening_heap heap (slice_get (sockets_of workload.pools.items) heap) in
      let counted : ℕ → Stats → Counted = λ entries stats. record { entries = entries; stats = stats } in
      ap (λ (plain : PlainHeap). counted (length own.history) (statistics_of plain))
      (home_replay workload courses parties hall so heap slot own pen at_slot is)
      ∙ ap (λ (entries : List Entry). counted (length entries) (statistics_of (replay opening entries))) history

  -- a slot that keeps no heap has no history
  of_none : (kept : Kept) → [] ≡ history_by heap none_made courses
      → record { entries = 0; stats = record { total = 0; free = 0; used = 0; greatest = 0; busy = 0; frees = 0 } } ≡ counted_by workload heap courses
  of_none kept history =
      let opening : PlainHeap = opening_heap heap (slice_get (sockets_of workload.pools.items) heap) in
      let counted : ℕ → Stats → Counted = λ entries stats. record { entries = entries; stats = stats } in
      ap (counted 0) (opening_zeros heap (slice_get (sockets_of workload.pools.items) heap))
      ∙ ap (λ (entries : List Entry). counted (length entries) (statistics_of (replay opening entries))) history

  by_kept : (kept : Kept) → slot.kept ≡ kept → Leaves kept
  by_kept (Heap own pen) is = of_heap own pen is
  by_kept (Segments segs) is = of_none (Segments segs) (ap history_of (sym is) ∙ its_history)
  by_kept (Names names) is = of_none (Names names) (ap history_of (sym is) ∙ its_history)

  pub newest_left : counted_in (newest_of slot) ≡ counted_by workload heap courses
  newest_left =
      let home : slot.holder ≡ None =
      subst IsHome at_slot (so.home heap (slots_so_far workload courses parties hall so heap slot at_slot)) in
      ap (λ (told : Option StatPair). counted_in (newest_by slot.kept told)) (is_hall.untold heap slot at_slot home) ∙ by_kept slot.kept refl

module _ (workload : Workload) (courses : List Course) (parties behind : List Party) (old new : HallView) (line : Line) (answer : Answer)
    (given : IsGiven workload) (is_hall : IsHall old) (so : SoFar workload courses parties old)
    (goes : GoesBy workload courses line answer parties behind old new) where
  abbrev one : Course
  one = course_of workload courses parties behind old new line answer given so goes

  abbrev lines : List Course
  lines = later workload courses parties behind old new line answer given so goes

  abbrev its_trace : List Done
  its_trace = trace workload courses parties behind old new line answer given so goes

  abbrev newest : List StatPair
  newest = (told_of old).newest

  -- the steps by which it tells that the line is done, and all its steps
  abbrev tells : List MailStep
  tells = tells_one_more line.participant (lines_at old line.participant)

  own_steps : steps_of line.participant goes.course.steps ≡ goes.does.does.does.steps ++ tells
  own_steps = steps_done old new goes.course line.participant (goes.does.does.does.steps ++ tells) goes.does.does.does.made

  module _ (held : goes.does.does.held ≡ []) where
    bare : IsBare goes.does.does.mid.hand its_trace goes.does.does.does.steps
    bare = acts_bare goes.does.does.does.acts held refl

    -- nobody publishes anything
    nobody : (who : ℕ) → who < length old.owns → PublishNothing (steps_of who goes.course.steps)
    nobody who below =
        ⊎_elim
        (λ (own : who ≡ line.participant).
        subst PublishNothing
        (sym (ap (λ (who : ℕ). steps_of who goes.course.steps) own ∙ own_steps))
        (all_both IsNoPair goes.does.does.does.steps tells bare.publishes (tt, (tt, tt))))
        (λ (none : GiveNoHeap (steps_of who goes.course.steps)). gives_publish (steps_of who goes.course.steps) none)
        (line_gives workload courses parties behind old new line answer given so goes who below)

    -- so the line reads the newest statistics of before
    line_reads : AllByRecursion (IsReadSo newest) its_trace
    line_reads =
        acts_read newest goes.does.does.does.acts
        (all_split (IsReadOf newest) goes.does.does.does.steps tells
        (subst (AllByRecursion (IsReadOf newest)) own_steps
        (all_read (length old.owns) goes.course.steps (values_in old) (values_in new) (told_of old) (told_of new) goes.course.kept
        goes.course.told nobody line.participant))).0

    module _ (heap : ℕ) (counted : Counted) (first rest : List Done) (at_read : its_trace ≡ first ++ StatsRead heap counted ∷ rest) where
      its_read : IsReadSo newest (StatsRead heap counted)
      its_read =
          all_at (IsReadSo newest) first (StatsRead heap counted) rest (subst (AllByRecursion (IsReadSo newest)) at_read line_reads)

      -- which are what the lines before left
      read_left : counted ≡ counted_by workload heap courses
      read_left = its_read.2 ∙ by_slot (slot_at old heap) refl
        where
          by_slot : (slot : Option SlotView) → slot_at old heap ≡ slot → counted_in its_read.0 ≡ counted_by workload heap courses
          by_slot None none =
              let nothing : None ≡ Some its_read.0 =
              sym (slice_get-map newest_of old.slots heap ∙ ap (option_map newest_of) none) ∙ its_read.1 in
              cc
          by_slot (Some slot) there =
              let own : newest_of slot ≡ its_read.0 =
              same_Some (newest_of slot) its_read.0
              (sym (slice_get-map newest_of old.slots heap ∙ ap (option_map newest_of) there) ∙ its_read.1) in
              ap counted_in (sym own) ∙ newest_left workload courses parties old is_hall so heap slot there

      -- the line itself called no heap
      no_calls : calls_in first ≡ []
      no_calls =
          first_nil (calls_in first) (calls_in (StatsRead heap counted ∷ rest))
          (sym (calls_on first (StatsRead heap counted ∷ rest)) ∙ ap calls_in (sym at_read) ∙ bare.calls)

      same_left : counted_by workload heap (courses ++ at one first ∷ []) ≡ counted_by workload heap courses
      same_left =
          let opening : PlainHeap = opening_heap heap (slice_get (sockets_of workload.pools.items) heap) in
          let who : ℕ = line.participant in
          let history : history_by heap none_made (courses ++ at one first ∷ []) ≡ history_by heap none_made courses =
          history_append heap none_made courses (at one first)
          ∙ ap (λ (calls : List OwnCall).
          history_by heap none_made courses ++ entries_for who heap (calls_made none_made who courses + 1) calls) no_calls
          ∙ append-nil (history_by heap none_made courses) in
          ap (λ (entries : List Entry). record { entries = length entries; stats = statistics_of (replay opening entries) }) history

      pub read_so : counted ≡ counted_by workload heap (courses ++ at one first ∷ [])
      read_so = read_left ∙ sym same_left

  -- a reading of the line
  last_read : (so_far : List Course) (who heap : ℕ) (counted : Counted) (moment : IsMoment lines so_far who (StatsRead heap counted))
      → moment.earlier ≡ courses → moment.course ≡ one → counted ≡ counted_by workload heap so_far
  last_read so_far who heap counted moment first_is course_is =
      ⊎_elim
      (λ (asks : AsksNoStats line.act).
      absurd (all_at IsReadless moment.first (StatsRead heap counted) moment.rest
      (subst (AllByRecursion IsReadless) at_read
      (line_readless line line.act goes.does.does.facts asks its_trace answer goes.does.does.does.leads))))
      (λ (held : goes.does.does.held ≡ []).
      read_so held heap counted moment.first moment.rest at_read ∙ ap (counted_by workload heap) (sym until))
      (no_stats_or_bare line.act goes.does.does.held goes.does.does.none)
    where
      at_read : its_trace ≡ moment.first ++ StatsRead heap counted ∷ moment.rest
      at_read = ap (λ (course : Course). course.trace) (sym course_is) ∙ moment.trace

      until : so_far ≡ courses ++ at one moment.first ∷ []
      until =
          moment.until
          ∙ ap (λ (earlier : List Course). earlier ++ at moment.course moment.first ∷ []) first_is
          ∙ ap (λ (course : Course). courses ++ at course moment.first ∷ []) course_is

  module _ (so_far : List Course) (who : ℕ) (done : Done) (moment : IsMoment lines so_far who done) (first_is : moment.earlier ≡ courses)
      (course_is : moment.course ≡ one) where
    at_done : its_trace ≡ moment.first ++ done ∷ moment.rest
    at_done = ap (λ (course : Course). course.trace) (sym course_is) ∙ moment.trace

    until_then : so_far ≡ courses ++ at one moment.first ∷ []
    until_then =
        moment.until
        ∙ ap (λ (earlier : List Course). earlier ++ at moment.course moment.first ∷ []) first_is
        ∙ ap (λ (course : Course). courses ++ at course moment.first ∷ []) course_is

  -- the names of the line
  last_names : (so_far : List Course) (who : ℕ) (read : SharedNames) (moment : IsMoment lines so_far who (NamesRead read))
      → moment.earlier ≡ courses → moment.course ≡ one → read ≡ names_by so_far
  last_names so_far who read moment first_is course_is =
      let leaves = (names_left workload courses parties behind old new line answer given so goes).1 in
      let its =
      read_first so.names its_trace moment.first moment.rest read leaves.reads
      (at_done so_far who (NamesRead read) moment first_is course_is) in
      let stay : names_by (courses ++ at one [] ∷ []) ≡ names_by courses = names_more courses (at one []) in
      its.its
      ∙ so.leave
      ∙ sym stay
      ∙ ap (λ (first : List Done). names_by (courses ++ at one first ∷ [])) (sym its.none)
      ∙ ap names_by (sym (until_then so_far who (NamesRead read) moment first_is course_is))

  last_handed : (so_far : List Course) (who : ℕ) (done : Done) (moment : IsMoment lines so_far who done) → moment.earlier ≡ courses
      → moment.course ≡ one → IsLeftBy workload so_far done
  last_handed so_far who (StatsRead heap counted) moment first_is course_is =
      last_read so_far who heap counted moment first_is course_is
  last_handed so_far who (NamesRead read) moment first_is course_is = last_names so_far who read moment first_is course_is
  last_handed so_far who (HeapSeen heap history) moment first_is course_is =
      seen_left workload courses parties behind old new line answer given is_hall so goes heap history moment.first moment.rest (at_done so_far who (HeapSeen heap history) moment first_is course_is)
      ∙ ap (history_by heap none_made) (sym (until_then so_far who (HeapSeen heap history) moment first_is course_is))
  last_handed so_far who _ moment first_is course_is = tt

  handed_all : AreOfLinesBefore workload courses → (so_far : List Course) (who : ℕ) (done : Done) → IsMoment lines so_far who done
      → IsLeftBy workload so_far done
  handed_all are so_far who done moment =
      by_place (last_or_earlier courses one moment.earlier moment.course moment.later moment.lines)
    where
      by_place : IsLastOrEarlier courses one moment.earlier moment.course moment.later → IsLeftBy workload so_far done
      by_place (IsLastOrEarlier.last first_is course_is) = last_handed so_far who done moment first_is course_is
      by_place (IsLastOrEarlier.early more is) =
          are.handed so_far who done
          (record {
            earlier = moment.earlier;
            course = moment.course;
            later = more;
            first = moment.first;
            rest = moment.rest;
            lines = is;
            trace = moment.trace;
            its = moment.its;
            until = moment.until;
          })

  -- it is handed the names first
  line_reads_first : (done : List Done) {steps : List MailStep} → NamesOfLine done steps → ReadsFirst done
  line_reads_first done (NamesOfLine.none nothing unread unchanged) = unread_first done unread unchanged
  line_reads_first done (NamesOfLine.once taken given rest two is unread changed) = subst ReadsFirst (sym is) unread

  pub counted_all : AreOfLinesBefore workload courses → AreOfLinesBefore workload lines
  counted_all are = record {
    reads = All-push (λ (course : Course). ReadsFirst course.trace) courses one are.reads (line_reads_first its_trace goes.does.does.names);
    handed = handed_all are;
    together = All-push (AreHandedTogether workload.pools.items) courses one are.together
        (line_together workload courses parties behind old new line answer given is_hall so goes);
  }

-- so it is after each line
pub counted_goes_on : CountedGoesOnByLine
counted_goes_on workload courses parties behind old new line answer given is_hall so goes are =
    counted_all workload courses parties behind old new line answer given is_hall so goes are
