-- What was settled along what comes before and after: who asked has its answer, and its asks are settled.
use Rattle.std.proofs.Common.{◌≡◌, ◌∙◌, ℕ, Bool, true, false, ◌||◌, List, ◌++◌, Option, Some, refl, ap, sym, subst}
use Rattle.std.specs.Prelude.{IfOk, IsSome, OnErr, Result, Ok, Err}
use Rattle.hp_base.specs.declared.row.Run.{Run}
use Rattle.hp_hall.specs.Asks.{IsKnownSettled}
use Rattle.hp_hall.specs.Holding.{HeapPart}
use Rattle.hp_log.specs.declared.log_record.LogRecord.{LogRecord}
use Rattle.hp_segs.specs.declared.ask.Ask.{Ask}
use Rattle.hp_segs.specs.declared.outcome.AskLog.{AskLog}
use Rattle.hp_serve.specs.Asking.{GrowsHeld, HasAnswer, HasSettledAsks, IsAsked, IsAwaiting, IsHeldAsBefore, Settles, ask_of, next_number}
use Rattle.hp_serve.specs.declared.pages_asked.PagesAsked.{PagesAsked}

-- it awaits its answer as before, where its parts are as they were
pub awaits_along : (ask : Ask) (old new : ℕ → HeapPart) → ((heap : ℕ) → new heap ≡ old heap) → IsAwaiting ask old → IsAwaiting ask new
awaits_along ask old new same awaits = record {
  armed = record {
    armed = λ heap. ap (λ (part : HeapPart). part.armed) (same heap) ∙ awaits.armed.armed heap;
    unclaimed = λ heap holding entry is among from.
        awaits.armed.unclaimed heap holding entry (ap (λ (part : HeapPart). part.holding) (sym (same heap)) ∙ is) among from;
  };
  holds = subst (λ (part : HeapPart). IsSome part.holding) (sym (same ask.heap)) awaits.holds;
}

grows_along : (index : ℕ) (run : Option Run) (old mid new : HeapPart) → IsHeldAsBefore old mid → GrowsHeld index run mid new
    → GrowsHeld index run old new
grows_along index run old mid new same grows = record {
  entries = grows.entries ∙ same.entries;
  marked = grows.marked ∙ same.marked;
  serves = grows.serves ∙ same.serves;
  told = grows.told ∙ same.told;
  naming = grows.naming ∙ same.naming;
  claims = grows.claims ∙ same.claims;
  before = grows.before;
  behind = grows.behind;
  held = sym same.holding ∙ grows.held;
  holds = grows.holds;
  grows = grows.grows;
}

pub held_same : (old new : HeapPart) → new ≡ old → IsHeldAsBefore old new
held_same old new same = record {
  entries = ap (λ (part : HeapPart). part.entries) same;
  marked = ap (λ (part : HeapPart). part.marked) same;
  serves = ap (λ (part : HeapPart). part.serves) same;
  told = ap (λ (part : HeapPart). part.told) same;
  naming = ap (λ (part : HeapPart). part.naming) same;
  claims = ap (λ (part : HeapPart). part.claims) same;
  holding = ap (λ (part : HeapPart). part.holding) same;
}

pub held_then : (old mid new : HeapPart) → IsHeldAsBefore old mid → IsHeldAsBefore mid new → IsHeldAsBefore old new
held_then old mid new here next = record {
  entries = next.entries ∙ here.entries;
  marked = next.marked ∙ here.marked;
  serves = next.serves ∙ here.serves;
  told = next.told ∙ here.told;
  naming = next.naming ∙ here.naming;
  claims = next.claims ∙ here.claims;
  holding = next.holding ∙ here.holding;
}

-- what was settled, where the parts before it were as they were earlier on
pub settles_along : (log : List LogRecord) (asks : List AskLog) (ask : Ask) (old mid new : ℕ → HeapPart) (run : Option Run)
    → ((heap : ℕ) → mid heap ≡ old heap) → Settles log asks ask mid new run → Settles log asks ask old new run
settles_along log asks ask old mid new run same settles = record {
  answer = settles.answer;
  known = settles.known;
  grows = grows_along ask.heap run (old ask.heap) (mid ask.heap) (new ask.heap) (held_same (old ask.heap) (mid ask.heap) (same ask.heap))
      settles.grows;
  others = λ heap apart. settles.others heap apart ∙ same heap;
  armed = λ heap. settles.armed heap ∙ ap (λ (part : HeapPart). part.armed) (same heap);
}

-- what grew from what was held as before
pub grows_from : (log : List LogRecord) (asks : List AskLog) (ask : Ask) (old mid new : ℕ → HeapPart) (run : Option Run)
    → ((heap : ℕ) → IsHeldAsBefore (old heap) (mid heap)) → Settles log asks ask mid new run
    → GrowsHeld ask.heap run (old ask.heap) (new ask.heap)
grows_from log asks ask old mid new run same settles =
    grows_along ask.heap run (old ask.heap) (mid ask.heap) (new ask.heap) (same ask.heap) settles.grows

-- a participant that is armed with the ask knows then that its asks are settled
pub settled_by : (log : List LogRecord) (asks : List AskLog) (ask : Ask) (mid new : ℕ → HeapPart) (run : Option Run)
    → ((heap : ℕ) → (mid heap).armed ≡ Some ask) → Settles log asks ask mid new run → HasSettledAsks new asks
settled_by log asks ask mid new run armed settles heap other is its =
    let both : Some ask ≡ Some other = sym (settles.armed heap ∙ armed heap) ∙ is in
    let same : ask ≡ other = cc in
    subst (λ (heap : ℕ). IsKnownSettled asks (new heap).holding other) its
    (subst (λ (asked : Ask). IsKnownSettled asks (new asked.heap).holding asked) same settles.known)

-- it asked by the next number, and was answered so
pub is_asked : (log : List LogRecord) (asks found since : List AskLog) (who before after : ℕ) (asked : PagesAsked) (ask : Ask)
    (mid new : ℕ → HeapPart) (run : Option Run) → ask ≡ ask_of who ask.number asked → after ≡ ask.number
    → ask.number ≡ next_number before found who
    → asks ≡ found ++ since → Settles log asks ask mid new run → IsAsked log asks who before after asked run
is_asked log asks found since who before after asked ask mid new run ask_is after_is number_is grown settles = record {
  found = found;
  since = since;
  heard = grown;
  number = after_is ∙ number_is;
  answer = subst (λ number. HasAnswer log asks (ask_of who number asked) run) (sym after_is)
      (subst (λ ask. HasAnswer log asks ask run) ask_is settles.answer);
}

-- where of two waits together nobody stopped, nobody did in either
pub stops_neither : (first second all : Bool) → all ≡ (first || second) → all ≡ false → (first ≡ false) × (second ≡ false)
stops_neither true second all is none = let wrong : true ≡ false = sym is ∙ none in absurd (cc)
stops_neither false true all is none = let wrong : true ≡ false = sym is ∙ none in absurd (cc)
stops_neither false false all is none = (refl, refl)

-- what an answer that is there shows
pub if_ok : {T E : Type 0} (P Q : T → Type 0) (result : Result T E) → ((value : T) → P value → Q value) → IfOk result P → IfOk result Q
if_ok P Q (Ok value) shows is = shows value is
if_ok P Q (Err refusal) shows is = tt

-- what holds holds on a refusal
pub on_err_any : {T E : Type 0} (result : Result T E) (P : Type 0) → P → OnErr result P
on_err_any (Ok value) P holds = tt
on_err_any (Err refusal) P holds = holds
