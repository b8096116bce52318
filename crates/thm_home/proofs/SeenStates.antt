-- Each state of a heap that a participant is handed on its way has its place among the steps, where it took the heap.
use Rattle.std.proofs.Common.{◌≡◌, ◌≢◌, ◌⊎◌, ◌∙◌, ℕ, ◌+◌, ◌<◌, ◌≤◌, cond, eq-eqb, List, [], ◌∷◌, ◌++◌, append-nil, append_assoc, length, Option, Some, None, ⊎_elim, refl, ap, ap₂, sym, subst, arith}
use Rattle.std.specs.Prelude.{◌==◌, count_by}
use Rattle.std.proofs.lemmas.Bool.{cond-true}
use Rattle.hp_chair.specs.FoundEmptyLaws.{nothing_among, split_at, tail_of}
use Rattle.hp_hall.specs.Mail.{Gives, MailStep, Takes}
use Rattle.hp_hall.specs.declared.kept.Kept.TheVariants.{Heap, Names}
use Rattle.hp_hall.specs.declared.slot.TheConstants.{NAMES_SLOT}
use Rattle.hp_heap.proofs.HistoryFacts.Counting.{count_by-append, count_by-cons}
use Rattle.hp_heap.specs.History.{HeapView}
use Rattle.hp_heap.specs.declared.entry.Entry.{Entry}
use Rattle.hp_proc.proofs.Joining.{calls_on}
use Rattle.hp_proc.proofs.LawLemmas.{entries_go_on}
use Rattle.hp_proc.specs.Acting.{Acts}
use Rattle.hp_proc.specs.Courses.{calls_in}
use Rattle.hp_proc.specs.Doing.{Done}
use Rattle.hp_proc.specs.Doing.Done.{HeapSeen, NamesRead}
use Rattle.hp_proc.specs.Handing.{shared_of}
use Rattle.hp_proc.specs.Histories.{entries_for}
use Rattle.hp_proc.specs.LinesDone.{Course, trace_of}
use Rattle.hp_proc.specs.ParticipantView.{ParticipantView}
use Rattle.hp_stats.specs.StatViews.{PenView}
use Rattle.thm_run.proofs.LineSteps.LineMore.{trace_more}
use Rattle.thm_run.specs.OwnLines.{AddsByLines, IsLineOf, WentByLines}
use Rattle.thm_run.specs.Seats.{Seat}
use Rattle.thm_home.proofs.ActsApart.{acts_apart, none_of}
use Rattle.thm_home.proofs.BesideHeap.{AreBeside, added, added_then, beside_both, held_after, held_beside, held_both, none_added}
use Rattle.thm_home.proofs.WaysCame.{way_came}

-- IN A LINE'S DOINGS

-- how often a heap's state was handed, and how often it was taken
abbrev sees : ℕ → List Done → ℕ
sees index [] = 0
sees index (HeapSeen heap history ∷ trace) = cond {A = ℕ} (heap == index) 1 0 + sees index trace
sees index (_ ∷ trace) = sees index trace

sum_on : (here all first last : ℕ) → all ≡ first + last → here + all ≡ here + first + last
sum_on here all first last is = omega (arith, is)

sees_both : (index : ℕ) (first rest : List Done) → sees index (first ++ rest) ≡ sees index first + sees index rest
sees_both index [] rest = omega arith
sees_both index (HeapSeen heap history ∷ first) rest =
    sum_on (cond {A = ℕ} (heap == index) 1 0) (sees index (first ++ rest)) (sees index first) (sees index rest) (sees_both index first rest)
sees_both index (_ ∷ first) rest = sees_both index first rest

abbrev times : ℕ → List ℕ → ℕ
times index held = count_by (λ other. other == index) held

-- it was not handed more often than it was taken
seen_counted : {count : ℕ} {hand fin : Option ℕ} {held : List ℕ} {doer after : ParticipantView} {trace : List Done} {steps : List MailStep}
    → Acts count hand fin held doer after trace steps → (index : ℕ) → sees index trace ≤ times index held
seen_counted (Acts.sees_heap doer heap pen few) index =
    let all : times index (heap.plain.index ∷ []) ≡ cond {A = ℕ} (heap.plain.index == index) 1 0 + times index [] =
    count_by-cons (λ (other : ℕ). other == index) heap.plain.index [] in
    omega (arith, all)
seen_counted (Acts.holds_names held doer after names given trace steps does changes) index = seen_counted does index
seen_counted (Acts.and_then hand between fin held more doer mid after begun ended before behind one two) index =
    let both = count_by-append (λ (other : ℕ). other == index) held more in
    let seen = sees_both index begun ended in
    let here = seen_counted one index in
    let there = seen_counted two index in
    omega (arith, both, seen, here, there)
seen_counted _ index = omega arith

-- where it is handed, that counts
seen_some : (index : ℕ) (trace first rest : List Done) (history : List Entry) → trace ≡ first ++ HeapSeen index history ∷ rest
    → 0 < sees index trace
seen_some index trace first rest history is =
    let all : sees index trace ≡ sees index first + (cond {A = ℕ} (index == index) 1 0 + sees index rest) =
    ap (sees index) is ∙ sees_both index first (HeapSeen index history ∷ rest) in
    let one : cond {A = ℕ} (index == index) 1 0 ≡ 1 = cond-true (index == index) 1 0 (eq-eqb index index refl) in
    omega (arith, all, one)

none_counted : 0 < 0 → ⊥
none_counted some = omega (arith, some)

-- so no state of one heap is handed twice where that is taken once
seen_twice : (index : ℕ) (trace first rest early between : List Done) (history other : List Entry)
    → trace ≡ first ++ HeapSeen index history ∷ rest → first ≡ early ++ HeapSeen index other ∷ between → sees index trace ≤ 1 → ⊥
seen_twice index trace first rest early between history other is also few =
    let all : sees index trace ≡ sees index first + (cond {A = ℕ} (index == index) 1 0 + sees index rest) =
    ap (sees index) is ∙ sees_both index first (HeapSeen index history ∷ rest) in
    let one : cond {A = ℕ} (index == index) 1 0 ≡ 1 = cond-true (index == index) 1 0 (eq-eqb index index refl) in
    let some = seen_some index first early between other also in
    omega (arith, all, one, some, few)

-- that heap was taken when its state was handed; until then none of these steps touched it, and no call was of it
pub record IsSeenIn (index : ℕ) (held : List ℕ) (first : List Done) (history : List Entry) (steps : List MailStep) : Type 0 where
  pub heap : HeapView
  pub pen : PenView
  pub index_is : heap.plain.index ≡ index
  pub history_is : heap.history ≡ history
  pub before : List MailStep
  pub behind : List MailStep
  pub steps_are : steps ≡ before ++ Takes heap.plain.index (Heap heap pen) ∷ behind
  pub beside : AreBeside index before
  pub calls : (who number : ℕ) → entries_for who index number (calls_in first) ≡ []

-- who takes it here has done nothing before
seen_here : (index : ℕ) (heap : HeapView) (pen : PenView) (history : List Entry) → heap.plain.index ≡ index → heap.history ≡ history
    → IsSeenIn index (heap.plain.index ∷ []) [] history (Takes heap.plain.index (Heap heap pen) ∷ [])
seen_here index heap pen history same its = record {
  heap = heap;
  pen = pen;
  index_is = same;
  history_is = its;
  before = [];
  behind = [];
  steps_are = refl;
  beside = tt;
  calls = λ who number. refl;
}

-- after other steps, by which it is left alone, or before others
seen_after : (index : ℕ) (held more : List ℕ) (begun left first : List Done) (history : List Entry) (early steps : List MailStep)
    → first ≡ begun ++ left → AreBeside index early → ((who number : ℕ) → entries_for who index number (calls_in begun) ≡ [])
    → IsSeenIn index more left history steps → IsSeenIn index (held ++ more) first history (early ++ steps)
seen_after index held more begun left first history early steps is beside none seen = record {
  heap = seen.heap;
  pen = seen.pen;
  index_is = seen.index_is;
  history_is = seen.history_is;
  before = early ++ seen.before;
  behind = seen.behind;
  steps_are = ap (λ (l : List MailStep). early ++ l) seen.steps_are
      ∙ sym (append_assoc early seen.before (Takes seen.heap.plain.index (Heap seen.heap seen.pen) ∷ seen.behind));
  beside = beside_both index early seen.before beside seen.beside;
  calls = λ who number.
      ap (λ (l : List Done). entries_for who index number (calls_in l)) is
      ∙ (ap (entries_for who index number) (calls_on begun left)
      ∙ (entries_go_on who index number (calls_in begun) (calls_in left)
      ∙ (ap (λ (l : List Entry). l ++ entries_for who index (number + length (calls_in begun)) (calls_in left)) (none who number)
      ∙ seen.calls who (number + length (calls_in begun)))));
}

seen_before : (index : ℕ) (held more : List ℕ) (first : List Done) (history : List Entry) (steps late : List MailStep)
    → IsSeenIn index held first history steps → IsSeenIn index (held ++ more) first history (steps ++ late)
seen_before index held more first history steps late seen = record {
  heap = seen.heap;
  pen = seen.pen;
  index_is = seen.index_is;
  history_is = seen.history_is;
  before = seen.before;
  behind = seen.behind ++ late;
  steps_are = ap (λ (l : List MailStep). l ++ late) seen.steps_are
      ∙ append_assoc seen.before (Takes seen.heap.plain.index (Heap seen.heap seen.pen) ∷ seen.behind) late;
  beside = seen.beside;
  calls = seen.calls;
}

pub acts_seen : {count : ℕ} {hand fin : Option ℕ} {held : List ℕ} {doer after : ParticipantView} {trace : List Done} {steps : List MailStep}
    → Acts count hand fin held doer after trace steps → (index : ℕ) (first rest : List Done) (history : List Entry)
    → trace ≡ first ++ HeapSeen index history ∷ rest → hand ≢ Some index → times index held ≤ 1 → IsSeenIn index held first history steps
acts_seen (Acts.sees_heap doer heap pen few) index [] rest history is apart once =
    let same : heap.plain.index ≡ index = cc in
    let its : heap.history ≡ history = cc in
    seen_here index heap pen history same its
acts_seen (Acts.sees_heap doer heap pen few) index (done ∷ first) rest history is apart once =
    absurd (nothing_among first rest (HeapSeen index history) (ap tail_of is))
acts_seen (Acts.holds_names held doer after names given trace steps does changes) index [] rest history is apart once = cc
acts_seen (Acts.holds_names held doer after names given trace steps does changes) index (done ∷ first) rest history is apart once =
    let inner = acts_seen does index first rest history (ap tail_of is) apart once in
    let read : done ≡ NamesRead (shared_of names) = sym (ap (head_or done) is) in
    seen_after index [] held (done ∷ []) first (done ∷ first) history (Takes NAMES_SLOT (Names names) ∷ [])
    (steps ++ Gives NAMES_SLOT (Names given) ∷ []) refl (tt, tt)
    (λ who number. ap (λ (one : Done). entries_for who index number (calls_in (one ∷ []))) read)
    (subst (λ (l : List ℕ). IsSeenIn index l first history (steps ++ Gives NAMES_SLOT (Names given) ∷ [])) (append-nil held)
    (seen_before index held [] first history steps (Gives NAMES_SLOT (Names given) ∷ []) inner))
  where
    head_or : Done → List Done → Done
    head_or other [] = other
    head_or other (one ∷ trace) = one
acts_seen (Acts.and_then hand between fin held more doer mid after begun ended before behind one two) index first rest history is apart once =
    let both = count_by-append (λ (other : ℕ). other == index) held more in
    ⊎_elim
    (λ (early : (left : List Done) × (begun ≡ first ++ HeapSeen index history ∷ left)).
    seen_before index held more first history before behind
    (acts_seen one index first early.0 history early.1 apart (omega (arith, both, once))))
    (λ (late : (left : List Done) × (first ≡ begun ++ left) × (ended ≡ left ++ HeapSeen index history ∷ rest)).
    let counted = seen_counted two index in
    let some = seen_some index ended late.0 rest history late.2 in
    let none = acts_apart one index apart (omega (arith, both, once, some, counted)) in
    seen_after index held more begun late.0 first history before behind late.1 none.beside none.calls
    (acts_seen two index late.0 rest history late.2 none.last (omega (arith, both, once))))
    (split_at begun ended first rest (HeapSeen index history) is)
acts_seen _ index first rest history is apart once = absurd (none_counted (seen_some index _ first rest history is))

-- ON ITS WAY

-- it had the heap in hand by then with this state
pub record IsTakenIn (index : ℕ) (history : List Entry) (steps : List MailStep) : Type 0 where
  pub heap : HeapView
  pub pen : PenView
  pub index_is : heap.plain.index ≡ index
  pub history_is : heap.history ≡ history
  pub before : List MailStep
  pub behind : List MailStep
  pub steps_are : steps ≡ before ++ Takes heap.plain.index (Heap heap pen) ∷ behind

pub taken_further : (index : ℕ) (history : List Entry) (steps more : List MailStep) → IsTakenIn index history steps
    → IsTakenIn index history (steps ++ more)
taken_further index history steps more taken = record {
  heap = taken.heap;
  pen = taken.pen;
  index_is = taken.index_is;
  history_is = taken.history_is;
  before = taken.before;
  behind = taken.behind ++ more;
  steps_are = ap (λ (l : List MailStep). l ++ more) taken.steps_are
      ∙ append_assoc taken.before (Takes taken.heap.plain.index (Heap taken.heap taken.pen) ∷ taken.behind) more;
}

-- It was handed that state after the first part of its trace, as it took the heap: by then it did not have the heap in hand, what it had added to it
-- are its calls so far, and each state that it was handed before it had taken before.
pub record IsSeenAt (who index : ℕ) (first : List Done) (history : List Entry) (steps : List MailStep) : Type 0 where
  pub taken : IsTakenIn index history steps
  pub free : held_after index None taken.before ≡ None
  pub made : added who index None taken.before ≡ entries_for who index 1 (calls_in first)
  pub shown : (other : List Entry) (early between : List Done) → first ≡ early ++ HeapSeen index other ∷ between
      → IsTakenIn index other taken.before

seen_further : (who index : ℕ) (first : List Done) (history : List Entry) (steps more : List MailStep) → IsSeenAt who index first history steps
    → IsSeenAt who index first history (steps ++ more)
unfolding taken_further
seen_further who index first history steps more at = record {
  taken = taken_further index history steps more at.taken;
  free = at.free;
  made = at.made;
  shown = at.shown;
}

-- a line that is handed it
line_seen : {count who : ℕ} {begun old new : Seat} {courses : List Course} {steps more : List MailStep} (course : Course) (index : ℕ)
    (first left rest : List Done) (history : List Entry) → (way : WentByLines count who begun old courses steps) → AddsByLines way
    → ((other : List Entry) (early between : List Done) → trace_of courses ≡ early ++ HeapSeen index other ∷ between
    → IsTakenIn index other steps)
    → first ≡ trace_of courses ++ left → course.trace ≡ left ++ HeapSeen index history ∷ rest → IsLineOf count who old new course more
    → IsSeenAt who index first history (steps ++ more)
line_seen {count} {who} {begun} {old} {new} {courses} {steps} {more} course index first left rest history way adds earlier first_is is line =
    let seen = acts_seen line.acts index left rest history is (none_of index) (line.once index) in
    let came = way_came way adds index in
    let calls = calls_in (trace_of courses) in
    record {
      taken = record {
        heap = seen.heap;
        pen = seen.pen;
        index_is = seen.index_is;
        history_is = seen.history_is;
        before = steps ++ seen.before;
        behind = seen.behind;
        steps_are = ap (λ (l : List MailStep). steps ++ l) seen.steps_are
            ∙ sym (append_assoc steps seen.before (Takes seen.heap.plain.index (Heap seen.heap seen.pen) ∷ seen.behind));
      };
      free = held_both index None steps seen.before
          ∙ (held_beside index (held_after index None steps) seen.before seen.beside ∙ came.free);
      made = added_then who index steps seen.before came.free
          ∙ (ap₂ (λ (a b : List Entry). a ++ b) came.made
          (none_added who index seen.before seen.beside ∙ sym (seen.calls who (1 + length calls)))
          ∙ (sym (entries_go_on who index 1 calls (calls_in left))
          ∙ (ap (entries_for who index 1) (sym (calls_on (trace_of courses) left))
          ∙ ap (λ (l : List Done). entries_for who index 1 (calls_in l)) (sym first_is))));
      shown = λ other early between there.
          ⊎_elim
          (λ (past : (more : List Done) × (trace_of courses ≡ early ++ HeapSeen index other ∷ more)).
          taken_further index other steps seen.before (earlier other early past.0 past.1))
          (λ (now : (mid : List Done) × (early ≡ trace_of courses ++ mid) × (left ≡ mid ++ HeapSeen index other ∷ between)).
          let counted = seen_counted line.acts index in
          let once = line.once index in
          absurd (seen_twice index course.trace left rest now.0 between history other is now.2 (omega (arith, counted, once))))
          (split_at (trace_of courses) left early between (HeapSeen index other) (sym first_is ∙ there));
    }

pub way_seen : {count who : ℕ} {begun last : Seat} {courses : List Course} {steps : List MailStep}
    → (way : WentByLines count who begun last courses steps) → AddsByLines way → (index : ℕ) (history : List Entry) (first rest : List Done)
    → trace_of courses ≡ first ++ HeapSeen index history ∷ rest → IsSeenAt who index first history steps
way_seen (WentByLines.begins seat) adds index history first rest is = absurd (nothing_among first rest (HeapSeen index history) is)
way_seen {count} {who} (WentByLines.beside begun old new courses before steps went path same stays none) adds index history first rest is =
    seen_further who index first history before steps (way_seen went adds index history first rest is)
way_seen {count} {who} (WentByLines.does_line begun old new courses course before steps went line) adds index history first rest is =
    let whole : trace_of courses ++ course.trace ≡ first ++ HeapSeen index history ∷ rest = sym (trace_more courses course) ∙ is in
    ⊎_elim
    (λ (past : (left : List Done) × (trace_of courses ≡ first ++ HeapSeen index history ∷ left)).
    seen_further who index first history before steps (way_seen went adds.0 index history first past.0 past.1))
    (λ (now : (left : List Done) × (first ≡ trace_of courses ++ left) × (course.trace ≡ left ++ HeapSeen index history ∷ rest)).
    line_seen course index first now.0 rest history went adds.0
    (λ other early between there. (way_seen went adds.0 index other early between there).taken) now.1 now.2 line)
    (split_at (trace_of courses) course.trace first rest (HeapSeen index history) whole)
