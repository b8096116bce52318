-- A heap for external memory is handed over with its state when it is taken; and what a wait before that leaves.
use Rattle.std.proofs.Common.{◌≡◌, ◌≢◌, ◌∙◌, ℕ, ◌<◌, ◌++◌, List, [], ◌∷◌, Option, None, Result, Ok, Err, append-nil, refl, ap, sym, subst, arith}
use Rattle.std.specs.Prelude.{MatchResult}
use Rattle.hp_base.specs.declared.limits.TheConstants.{MAX_HEAPS}
use Rattle.hp_hall.specs.HallState.{Did, HallState, IsLater, MayServe, SlotsStayBut}
use Rattle.hp_hall.specs.Mail.{MailStep}
use Rattle.hp_hall.specs.Telling.{has_names}
use Rattle.hp_heap.specs.History.{HeapView, SameButSpare, opening_of, replay}
use Rattle.hp_heap.specs.History as heaps
use Rattle.hp_heap.specs.PlainHeap.{PlainHeap, opening_heap}
use Rattle.hp_heap.specs.declared.entry.Entry.{Entry}
use Rattle.hp_log.specs.declared.log_record.LogRecord.{LogRecord}
use Rattle.hp_segs.specs.declared.outcome.AskLog.{AskLog}
use Rattle.hp_serve.specs.Party.{IsSameParty}
use Rattle.hp_proc.specs.Acting.{Acts, AreAsked}
use Rattle.hp_proc.specs.Doing.{Doing, Goes, Leads}
use Rattle.hp_proc.specs.Doing.Done.{HeapSeen}
use Rattle.hp_proc.specs.ExternalLines.{external_heap, seeing_heap}
use Rattle.hp_proc.specs.LineInHall.{SeesHeap, moment, moment_with}
use Rattle.hp_proc.specs.ParticipantView.{ParticipantView}
use Rattle.hp_proc.specs.Progress.{Does, Moment, doer_at}
use Rattle.hp_proc.proofs.Joining.{asked_none, context_still}
use Rattle.hp_proc.proofs.WaitsAside.{hands_aside}
use Rattle.hp_proc.proofs.ServesAside.{IsAside}

-- a heap for external memory is what its history leaves
pub external_is : (heap : HeapView) → heap.plain.serves ≡ None → heaps.IsSound heap → external_heap heap.plain.index heap.history ≡ heap.plain
unfolding external_heap
external_is heap external sound =
    ap (λ (serves : Option ℕ). replay (opening_heap heap.plain.index serves) heap.history) (sym external) ∙ sym sound.stands.left

-- it was taken, and its state is what its taker was handed
pub does_seen : {held : List ℕ} (count : ℕ) (did : List MailStep → Type 0) (heap : HeapView) (goes : PlainHeap → Doing) (old new : Moment)
    (steps : List MailStep) → heap.plain.serves ≡ None → heaps.IsSound heap → did steps
    → Acts count old.hand new.hand held (doer_at old) (doer_at new) (HeapSeen heap.plain.index heap.history ∷ []) steps
    → ((index : ℕ) → (new.parts index).entries ≡ (old.parts index).entries)
    → ((index : ℕ) → (new.parts index).serves ≡ (old.parts index).serves) → IsSameParty old.party new.party → new.context ≡ old.context
    → new.party.asked ≡ old.party.asked → (more : List LogRecord) → new.log ≡ old.log ++ more → (outcomes : List AskLog)
    → new.asks ≡ old.asks ++ outcomes → (does : Does held count did (seeing_heap heap.plain.index goes) (goes heap.plain) old new)
    × (does.trace ≡ HeapSeen heap.plain.index heap.history ∷ [])
unfolding Leads Goes AreAsked
does_seen {held} count did heap goes old new steps external sound made acts entries serves same known asked more log outcomes asks = (
  record {
    trace = HeapSeen heap.plain.index heap.history ∷ [];
    steps = steps;
    leads = (heap.history, refl, ap goes (sym (external_is heap external sound)));
    made = made;
    acts = acts;
    entries = λ index. entries index ∙ sym (append-nil (old.parts index).entries);
    serves = serves;
    counted = context_still old.context new.context known;
    same = same;
    asked = asked;
    more = more;
    log = log;
    outcomes = outcomes;
    asks = asks;
  },
  refl,
)

-- so it is with a heap that is the same but for the room of its history
pub sees_spared : (before behind : HeapView) → SameButSpare before behind → (index me : ℕ) (old new : ParticipantView) (from to : HallState)
    (goes : PlainHeap → Doing) → SeesHeap index me old new before from to goes → SeesHeap index me old new behind from to goes
sees_spared before behind same index me old new from to goes sees =
    let both : (does : Does (index ∷ []) from.count (λ steps. Did me steps from to) (seeing_heap index goes) (goes behind.plain) (moment me old from)
    (moment_with behind me new to)) × ((history : List Entry) × (does.trace ≡ HeapSeen index history ∷ [])) =
    subst (λ (plain : PlainHeap). (does : Does (index ∷ []) from.count (λ steps. Did me steps from to) (seeing_heap index goes) (goes plain)
    (moment me old from) (moment_with (record behind { plain = plain }) me new to))
    × ((history : List Entry) × (does.trace ≡ HeapSeen index history ∷ []))) (sym same.plain)
    (subst (λ (left : List Entry). (does : Does (index ∷ []) from.count (λ steps. Did me steps from to) (seeing_heap index goes) (goes before.plain)
    (moment me old from) (moment_with (record behind { plain = before.plain; history = left }) me new to))
    × ((history : List Entry) × (does.trace ≡ HeapSeen index history ∷ []))) (sym same.history) (sees.does, (sees.history, sees.alone))) in
    record { does = both.0; history = both.1.0; alone = both.1.1 }

-- who has taken a heap may serve
pub may_taken : {me slot : ℕ} {a b : HallState} → slot < MAX_HEAPS → IsLater a b → SlotsStayBut slot a b → MayServe me a → MayServe me b
may_taken {me} {slot} few later slots may =
    let apart : MAX_HEAPS ≢ slot = λ same. omega (arith, few, same) in
    record {
      serves = later.serves me may.serves;
      declared = omega (arith, later.count, may.declared);
      free = slots.taken MAX_HEAPS apart ∙ may.free;
      home = slots.home MAX_HEAPS apart may.home;
    }

-- it waited a turn more, by which it has the names in hand, or has not, as before
pub waited_told : (me : ℕ) (a b c d : HallState) → has_names (b.done me) ≡ has_names (a.done me) → Did me [] b c → (steps : List MailStep)
    → IsAside steps → Did me steps c d → has_names (d.done me) ≡ has_names (a.done me)
waited_told me a b c d told none steps aside did =
    hands_aside steps aside did ∙ (hands_aside [] refl none ∙ told)

-- what holds for each refusal holds for this
pub on_err_match : {T E : Type 0} (result : Result T E) (P : T → Type 0) (Q : E → Type 0) {stop : E} → result ≡ Err stop → ((stop : E) → Q stop)
    → MatchResult result P Q
on_err_match (Ok value) P Q {stop} is all = cc
on_err_match (Err stop) P Q is all = all stop
