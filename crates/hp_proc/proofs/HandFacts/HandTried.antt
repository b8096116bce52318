-- What was done of a line with a heap in hand joins with what is done next, and shows the heap of its last call.
use Rattle.std.proofs.Common.{◌≡◌, ◌∙◌, ℕ, List, [], ◌∷◌, ◌++◌, length, append-nil, Option, Some, None, refl, ap, sym, subst, arith}
use Rattle.hp_hall.specs.Holding.{HeapPart}
use Rattle.hp_hall.specs.Mail.{MailStep}
use Rattle.hp_heap.specs.History.{HeapView, IsCall}
use Rattle.hp_heap.specs.declared.entry.HeapAnswer.{HeapAnswer}
use Rattle.hp_heap.specs.declared.entry.HeapCall.{HeapCall}
use Rattle.hp_log.specs.declared.log_record.LogRecord.{LogRecord}
use Rattle.hp_script.specs.declared.answer.Answer.{Answer}
use Rattle.hp_script.specs.declared.answer.Answer.TheVariants as gives
use Rattle.hp_segs.specs.declared.outcome.AskLog.{AskLog}
use Rattle.hp_proc.specs.Allocating.{unless_answered}
use Rattle.hp_proc.specs.Contexts.{Context}
use Rattle.hp_proc.specs.Courses.{OwnCall, calls_in, last_heap}
use Rattle.hp_proc.specs.Doing.{Deed, Doing, Done}
use Rattle.hp_heap.specs.HistoryLaws.{run_cut}
use Rattle.hp_proc.specs.ParticipantView.{ParticipantView, after_call}
use Rattle.hp_proc.specs.Progress.{AreOnce, Brings, Does, DoesIn, Moment, Tries, caller_of, in_hand, moment_of}
use Rattle.hp_proc.proofs.HandFacts.HandCalls.{call_in}
use Rattle.hp_proc.proofs.Joining.{calls_on, does_then, then_trace}

-- the last of calls that come after others
pub last_on : (first rest : List OwnCall) (heap : ℕ) → last_heap rest ≡ Some heap → last_heap (first ++ rest) ≡ Some heap
last_on [] rest heap is = is
last_on (own ∷ []) [] heap is = absurd (none_is is)
  where
    none_is : None ≡ Some heap → ⊥
    none_is equal = cc
last_on (own ∷ []) (next ∷ rest) heap is = is
last_on (own ∷ (next ∷ first)) rest heap is = last_on (next ∷ first) rest heap is

no_length : {X : Type 0} → (xs : List X) → length xs ≡ 0 → xs ≡ []
no_length [] same = refl
no_length (x ∷ xs) same = absurd (omega (arith, same))

-- where the count of calls stays, none was made
pub no_calls : {held : List ℕ} (count : ℕ) (did : List MailStep → Type 0) (doing rest : Doing) (old new : Moment)
    → (does : Does held count did doing rest old new) → new.context.calls ≡ old.context.calls → calls_in does.trace ≡ []
no_calls count did doing rest old new does same =
    no_length (calls_in does.trace) (omega (arith, ap (λ (context : Context). context.calls) does.counted, same))

module _ {held more : List ℕ} (count : ℕ) (here_did there_did did : List MailStep → Type 0) (doing left : Doing) (old mid new : Moment)
    (join : (first second : List MailStep) → here_did first → there_did second → did (first ++ second)) where
  last_then : (rest : Doing) (here : Does held count here_did doing left old mid) (there : Does more count there_did left rest mid new) (heap : ℕ)
      → last_heap (calls_in there.trace) ≡ Some heap
      → last_heap (calls_in (does_then count here_did there_did did doing left rest old mid new join here there).trace) ≡ Some heap
  last_then rest here there heap last =
      ap (λ (trace : List Done). last_heap (calls_in trace)) (then_trace count here_did there_did did doing left rest old mid new join here there)
      ∙ ap last_heap (calls_on here.trace there.trace)
      ∙ last_on (calls_in here.trace) (calls_in there.trace) heap last

  pub tries_then : (otherwise : Doing) (given : Option Answer) (heap : ℕ) → Does held count here_did doing left old mid
      → Tries heap more count there_did left otherwise given mid new → Tries heap (held ++ more) count did doing otherwise given old new
  tries_then otherwise given heap here there = record {
    does = does_then count here_did there_did did doing left (unless_answered otherwise given) old mid new join here there.does;
    last = λ address is. last_then (unless_answered otherwise given) here there.does heap (there.last address is);
  }

  pub brings_then : (otherwise : Doing) (answer : Answer) (heap : ℕ) → Does held count here_did doing left old mid
      → Tries heap more count there_did left otherwise (Some answer) mid new → AreOnce (held ++ more) → Brings heap count did doing answer old new
  brings_then otherwise answer heap here there once = record {
    held = held ++ more;
    once = once;
    does = does_then count here_did there_did did doing left (Doing.Ended answer) old mid new join here there.does;
    last = λ address is. last_then (Doing.Ended answer) here there.does heap (there.last address (ap Some is));
  }

-- the last call is one after what was done before with the heap in hand
pub in_then : (count : ℕ) (here_did there_did did : List MailStep → Type 0) (doing left : Doing) (old mid new : Moment)
    → ((first second : List MailStep) → here_did first → there_did second → did (first ++ second)) → (rest : Doing) (heap : ℕ)
    → Does [] count here_did doing left old mid → DoesIn heap count there_did left rest mid new → DoesIn heap count did doing rest old new
in_then count here_did there_did did doing left old mid new join rest heap here there = record {
  does = does_then count here_did there_did did doing left rest old mid new join here there.does;
  last = last_then count here_did there_did did doing left old mid new join rest here there.does heap there.last;
}

-- where nothing is called after, the calls are those from before
module _ {held more : List ℕ} (count : ℕ) (here_did there_did did : List MailStep → Type 0) (doing left rest : Doing) (old mid new : Moment)
    (join : (first second : List MailStep) → here_did first → there_did second → did (first ++ second))
    (here : Does held count here_did doing left old mid) (there : Does more count there_did left rest mid new)
    (same : new.context.calls ≡ mid.context.calls) where
  pub calls_stay : calls_in (does_then count here_did there_did did doing left rest old mid new join here there).trace ≡ calls_in here.trace
  calls_stay =
      ap (λ (trace : List Done). calls_in trace) (then_trace count here_did there_did did doing left rest old mid new join here there)
      ∙ calls_on here.trace there.trace
      ∙ ap (λ (more : List OwnCall). calls_in here.trace ++ more) (no_calls count there_did left rest mid new there same)
      ∙ append-nil (calls_in here.trace)

-- as when the heap is given back
module _ {held more : List ℕ} (count : ℕ) (here_did there_did did : List MailStep → Type 0) (doing otherwise : Doing) (given : Option Answer)
    (heap : ℕ) (old mid new : Moment) (join : (first second : List MailStep) → here_did first → there_did second → did (first ++ second))
    (here : Tries heap held count here_did doing otherwise given old mid)
    (there : Does more count there_did (unless_answered otherwise given) (unless_answered otherwise given) mid new)
    (same : new.context.calls ≡ mid.context.calls) where
  abbrev left : Doing
  left = unless_answered otherwise given

  pub tries_passed : Tries heap (held ++ more) count did doing otherwise given old new
  tries_passed = record {
    does = does_then count here_did there_did did doing left left old mid new join here.does there;
    last = λ address is.
        ap last_heap (calls_stay count here_did there_did did doing left left old mid new join here.does there same) ∙ here.last address is;
  }

-- an answer of the heap's last call, or that it is passed
pub tries_in : (heap count : ℕ) (did : List MailStep → Type 0) (doing otherwise : Doing) (answer : Answer) (old new : Moment)
    → DoesIn heap count did doing (Doing.Ended answer) old new → Tries heap [] count did doing otherwise (Some answer) old new
tries_in heap count did doing otherwise answer old new is = record { does = is.does; last = λ address same. is.last }

pub tries_on : {held : List ℕ} (heap count : ℕ) (did : List MailStep → Type 0) (doing otherwise : Doing) (old new : Moment)
    → Does held count did doing otherwise old new → Tries heap held count did doing otherwise None old new
tries_on heap count did doing otherwise old new is = record { does = is; last = λ address same. absurd (none_is address same) }
  where
    none_is : (address : ℕ) → None ≡ Some (gives.Address address) → ⊥
    none_is address equal = cc

-- a call makes no step in the hall
pub none_done : (did : List MailStep → Type 0) (first second : List MailStep) → did first → second ≡ [] → did (first ++ second)
none_done did first second made none =
    subst did (sym (ap (λ (more : List MailStep). first ++ more) none ∙ append-nil first)) made

module _ (doer after : ParticipantView) (parts : ℕ → HeapPart) (log : List LogRecord) (asks : List AskLog) (call : HeapCall) (answer : HeapAnswer)
    (heap next : HeapView) (is : IsCall (caller_of doer) call answer heap next) (counted : after ≡ after_call doer) (index : ℕ)
    (its : index ≡ heap.plain.index) (count : ℕ) (did : List MailStep → Type 0) (doing : Doing) (then_on : HeapAnswer → Doing) (old : Moment) where
  -- a call of the heap in hand after what was done before
  pub called_then : run_cut answer ≡ []
      → Does [] count did doing (Doing.Then (Deed.Call index call) then_on) old (in_hand heap (moment_of doer parts log asks))
      → DoesIn index count did doing (then_on answer) old (in_hand next (moment_of after parts log asks))
  called_then whole here =
      subst (λ (index : ℕ). DoesIn index count did doing (then_on answer) old (in_hand next (moment_of after parts log asks))) (sym its)
      (in_then count did (λ steps. steps ≡ []) did doing (Doing.Then (Deed.Call heap.plain.index call) then_on) old
      (in_hand heap (moment_of doer parts log asks)) (in_hand next (moment_of after parts log asks)) (none_done did) (then_on answer)
      heap.plain.index
      (subst (λ (index : ℕ). Does [] count did doing (Doing.Then (Deed.Call index call) then_on) old
      (in_hand heap (moment_of doer parts log asks))) its here)
      (call_in doer parts log asks call answer heap next is count (λ steps. steps ≡ []) then_on after counted refl whole))
