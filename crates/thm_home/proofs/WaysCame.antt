-- What came to each heap by a participant's way are the calls of its lines.
use Rattle.std.proofs.Common.{◌≡◌, ◌∙◌, ℕ, List, ◌++◌, append-nil, None, refl, ap, ap₂, sym}
use Rattle.hp_hall.specs.Mail.{MailStep}
use Rattle.hp_heap.specs.declared.entry.Entry.{Entry}
use Rattle.hp_proc.proofs.LawLemmas.{entries_go_on}
use Rattle.hp_proc.specs.Courses.{calls_in}
use Rattle.hp_proc.specs.Histories.{entries_for}
use Rattle.hp_proc.specs.LinesDone.{Course, trace_of}
use Rattle.thm_run.proofs.LineSteps.LineMore.{calls_more}
use Rattle.thm_run.specs.OwnLines.{AddsByLines, WentByLines}
use Rattle.thm_run.specs.Seats.{Seat}
use Rattle.thm_home.proofs.ActsApart.{none_of}
use Rattle.thm_home.proofs.BesideHeap.{acts_free, added, added_then, held_after, held_beside, held_both, none_added, others_beside}

-- the heap is not in hand, and what came to it are the calls of the way's lines
pub record HasCame (who heap : ℕ) (courses : List Course) (steps : List MailStep) : Type 0 where
  pub free : held_after heap None steps ≡ None
  pub made : added who heap None steps ≡ entries_for who heap 1 (calls_in (trace_of courses))

pub way_came : {count who : ℕ} {first last : Seat} {courses : List Course} {steps : List MailStep}
    → (way : WentByLines count who first last courses steps) → AddsByLines way → (heap : ℕ) → HasCame who heap courses steps
way_came (WentByLines.begins seat) adds heap = record { free = refl; made = refl }
way_came {count} {who} (WentByLines.beside first old new courses before steps went path same stays none) adds heap =
    let was = way_came went adds heap in
    let beside = others_beside heap steps none in
    record {
      free = held_both heap None before steps ∙ (held_beside heap (held_after heap None before) steps beside ∙ was.free);
      made = added_then who heap before steps was.free
          ∙ (ap (λ (l : List Entry). added who heap None before ++ l) (none_added who heap steps beside)
          ∙ (append-nil (added who heap None before) ∙ was.made));
    }
way_came {count} {who} (WentByLines.does_line first old new courses course before steps went is) adds heap =
    let was = way_came went adds.0 heap in
    let calls = calls_in (trace_of courses) in
    record {
      free = held_both heap None before steps ∙ acts_free is.acts heap (held_after heap None before) (λ apart. was.free) (none_of heap);
      made = added_then who heap before steps was.free
          ∙ (ap₂ (λ (a b : List Entry). a ++ b) was.made (adds.1 heap).are
          ∙ (sym (entries_go_on who heap 1 calls (calls_in course.trace)) ∙ ap (entries_for who heap 1) (sym (calls_more courses course))));
    }
