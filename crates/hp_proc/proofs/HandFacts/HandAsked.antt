-- A heap in hand, and what an ask for pages makes of what is known.
use Rattle.std.proofs.Common.{◌≡◌, ◌≢◌, ◌∙◌, ℕ, ◌<◌, List, [], ◌∷◌, ◌++◌, length, append-nil, true, Option, Some, None, refl, ap, sym, subst, ⊎_elim, arith}
use Rattle.std.proofs.lemmas.Bool.Decides.{eqb_tells}
use Rattle.std.proofs.lemmas.List.{length-append}
use Rattle.std.specs.List.{range_with_len}
use Rattle.std.specs.Prelude.{IsSome, slice_get}
use Rattle.hp_base.specs.declared.limits.TheConstants.{MAX_HEAPS}
use Rattle.hp_base.specs.declared.row.Run.{Run}
use Rattle.hp_heap.proofs.FreeFacts.EntriesLaw.{calls_add_runs}
use Rattle.hp_heap.proofs.HistoryFacts.FrontsLaw.{calls_keep_sound}
use Rattle.hp_heap.proofs.GrowLaw.{no_chunks}
use Rattle.hp_heap.specs.Growing.{CanGrow}
use Rattle.hp_heap.specs.History.{HeapView, IsCall, entries_of}
use Rattle.hp_heap.specs.HistoryLaws.{runs_cut}
use Rattle.hp_heap.specs.PlainHeap.{PlainHeap}
use Rattle.hp_heap.specs.Step.{after}
use Rattle.hp_heap.specs.declared.entry.Entry.{Entry}
use Rattle.hp_heap.specs.declared.entry.HeapAnswer.TheVariants as gives
use Rattle.hp_heap.specs.declared.entry.HeapCall.TheVariants as call
use Rattle.hp_hall.specs.Giving.{IsNumbered, entries_made}
use Rattle.hp_hall.specs.Holding.{HasHolding, HasPages, HeapPart, IsHeldWith}
use Rattle.hp_segs.specs.Standing.{Holding}
use Rattle.hp_hall.specs.Mail.{MailStep}
use Rattle.hp_hall.specs.Naming.{MarksStayBut}
use Rattle.hp_hall.proofs.NamesLeft.{call_leaves}
use Rattle.hp_hall.specs.declared.kept.Kept.{Kept}
use Rattle.hp_hall.specs.declared.slot.TheConstants.{NAMES_SLOT, SLOTS}
use Rattle.hp_log.specs.declared.log_record.LogRecord.{LogRecord}
use Rattle.hp_segs.specs.declared.outcome.AskLog.{AskLog}
use Rattle.hp_proc.specs.Acting.{Acts, AreAsked}
use Rattle.hp_proc.specs.Denying.{denials_of}
use Rattle.hp_serve.specs.AskSteps.{DoesAsk, DoesAskOn}
use Rattle.hp_serve.specs.Asking.{GrowsHeld, IsAsked, IsHeldAsBefore}
use Rattle.hp_proc.specs.Contexts.{Context}
use Rattle.hp_proc.specs.Doing.{Deed, Doing, Goes, Leads}
use Rattle.hp_proc.specs.Doing.Done.{Asked}
use Rattle.hp_proc.specs.Halting.{ActsOn, Halts}
use Rattle.hp_proc.specs.Heaps.{sockets_of}
use Rattle.hp_serve.specs.Party.{IsSameParty}
use Rattle.hp_proc.specs.ParticipantView.{ParticipantView, after_call}
use Rattle.hp_proc.specs.Progress.{Does, IsInHand, Moment, caller_of, in_hand, moment_of, with_hand}
use Rattle.hp_serve.specs.declared.pages_asked.PagesAsked.{PagesAsked}
use Rattle.hp_proc.proofs.HandFacts.HandCalls.{call_index, call_serves, hand_apart, hand_here, hand_serves, numbered_next, own_behind}
use Rattle.hp_proc.proofs.HandFacts.HandGiven.{sums_same}
use Rattle.hp_proc.proofs.HandFacts.HeldOn.{GoesOnHeld, leaves_held}
use Rattle.hp_proc.proofs.Halted.{halts_then}
use Rattle.hp_proc.proofs.Joining.{context_still, goes_as}

-- parts with the same entries have as many
pub made_same : (old new : ℕ → HeapPart) → ((heap : ℕ) → (new heap).entries ≡ (old heap).entries) → entries_made new ≡ entries_made old
made_same old new same =
    sums_same (λ heap. length (old heap).entries) (λ heap. length (new heap).entries) (range_with_len 0 SLOTS)
    (λ heap. ap (λ (entries : List Entry). length entries) (same heap))

-- a heap in hand has the same of its holder's entries, where the parts of others have
pub hand_same : (who now : ℕ) (heap : HeapView) (old new : ℕ → HeapPart) → now ≡ who → ((index : ℕ) → (new index).entries ≡ (old index).entries)
    → (index : ℕ) → (with_hand now heap new index).entries ≡ (with_hand who heap old index).entries
hand_same who now heap old new same entries index = ⊎_elim
    (λ here.
    hand_here now heap new index here.1 ∙ ap (λ (who : ℕ). entries_of who heap.history) same ∙ sym (hand_here who heap old index here.1))
    (λ other.
    ap (λ (part : HeapPart). part.entries) (hand_apart now heap new index other.0) ∙ entries index
    ∙ sym (ap (λ (part : HeapPart). part.entries) (hand_apart who heap old index other.0)))
    (eqb_tells index heap.plain.index)

-- what an ask for a heap that is held leaves of the asker's parts, and what it brings
module _ (asked : ℕ) (run : Option Run) (old new : ℕ → HeapPart) (others : (heap : ℕ) → heap ≢ asked → IsHeldAsBefore (old heap) (new heap))
    (grows : GrowsHeld asked run (old asked) (new asked)) where
  pub asked_entries : (heap : ℕ) → (new heap).entries ≡ (old heap).entries
  asked_entries heap = ⊎_elim
      (λ here. subst (λ heap. (new heap).entries ≡ (old heap).entries) (sym here.1) grows.entries)
      (λ there. (others heap there.1).entries) (eqb_tells heap asked)

  pub asked_serves : (heap : ℕ) → (new heap).serves ≡ (old heap).serves
  asked_serves heap = ⊎_elim
      (λ here. subst (λ heap. (new heap).serves ≡ (old heap).serves) (sym here.1) grows.serves)
      (λ there. (others heap there.1).serves) (eqb_tells heap asked)

  pub asked_told : (heap : ℕ) → (new heap).told ≡ (old heap).told
  asked_told heap = ⊎_elim
      (λ here. subst (λ heap. (new heap).told ≡ (old heap).told) (sym here.1) grows.told)
      (λ there. (others heap there.1).told) (eqb_tells heap asked)

  pub asked_claims : (heap : ℕ) → (new heap).claims ≡ (old heap).claims
  asked_claims heap = ⊎_elim
      (λ here. subst (λ heap. (new heap).claims ≡ (old heap).claims) (sym here.1) grows.claims)
      (λ there. (others heap there.1).claims) (eqb_tells heap asked)

-- where no run came, all is held as before
pub none_grows : (asked : ℕ) (old new : HeapPart) → GrowsHeld asked None old new → IsHeldAsBefore old new
none_grows asked old new grows = record {
  entries = grows.entries;
  marked = grows.marked;
  serves = grows.serves;
  told = grows.told;
  naming = grows.naming;
  claims = grows.claims;
  holding = grows.holds ∙ ap Some grows.grows ∙ sym grows.held;
}

pub none_asked : (asked : ℕ) (old new : ℕ → HeapPart) → ((heap : ℕ) → heap ≢ asked → IsHeldAsBefore (old heap) (new heap))
    → GrowsHeld asked None (old asked) (new asked) → (heap : ℕ) → IsHeldAsBefore (old heap) (new heap)
none_asked asked old new others grows heap = ⊎_elim
    (λ here. subst (λ heap. IsHeldAsBefore (old heap) (new heap)) (sym here.1) (none_grows asked (old asked) (new asked) grows))
    (λ there. others heap there.1) (eqb_tells heap asked)

-- what is held is held
pub held_some : (heap : HeapView) (held : Option Holding) → IsHeldWith heap held → IsSome held
held_some heap None held = absurd held
held_some heap (Some holding) held = refl

held_holding : (heap : HeapView) (holding : Option Holding) (one : Holding) → holding ≡ Some one → IsHeldWith heap holding
    → HasHolding heap one
held_holding heap holding one is held = subst (λ (holding : Option Holding). IsHeldWith heap holding) is held

module _ (doer after : ParticipantView) (old new : ℕ → HeapPart) (log later : List LogRecord) (asks heard : List AskLog) (heap : HeapView)
    (same : IsSameParty doer.party after.party) (known : after.context ≡ doer.context) where
  -- the next thing that its line does is that ask
  pub does_ask : (count : ℕ) (did : List MailStep → Type 0) (asked : PagesAsked) (then_on : Option Run → Doing) (run : Option Run)
      (steps : List MailStep) → asked.heap ≡ heap.plain.index → did steps
      → DoesAsk (denials_of doer.context.standing) count doer.party after.party asked steps run
      → IsAsked later heard doer.party.me doer.party.asked after.party.asked asked run → ((index : ℕ) → (new index).entries ≡ (old index).entries)
      → ((index : ℕ) → (new index).serves ≡ (old index).serves) → (more : List LogRecord) → later ≡ log ++ more
      → (outcomes : List AskLog) → heard ≡ asks ++ outcomes → Does [] count did (Doing.Then (Deed.Ask asked) then_on) (then_on run)
      (in_hand heap (moment_of doer old log asks)) (in_hand heap (moment_of after new later heard))
  unfolding Leads Goes AreAsked
  does_ask count did asked then_on run steps its made acts is entries serves more log_is outcomes asks_are = record {
    trace = Asked asked run ∷ [];
    steps = steps;
    leads = (run, refl, refl);
    made = made;
    acts = subst (λ (index : ℕ). Acts count (Some index) (Some index) [] doer after (Asked asked run ∷ []) steps) its
        (subst (λ (after : ParticipantView). Acts count (Some asked.heap) (Some asked.heap) [] doer after (Asked asked run ∷ []) steps)
        (goes_as doer after known) (Acts.asks_pages doer after.party asked run steps acts));
    entries = λ index.
        hand_same doer.party.me after.party.me heap old new same.me entries index ∙ sym (append-nil (with_hand doer.party.me heap old index).entries);
    serves = λ index.
        hand_serves after.party.me heap new index ∙ serves index ∙ sym (hand_serves doer.party.me heap old index);
    counted = context_still doer.context after.context known;
    same = same;
    asked = (after.party.asked, is, refl);
    more = more;
    log = log_is;
    outcomes = outcomes;
    asks = asks_are;
  }

  -- somebody stopped while it asked, and it went on with the heap in its hand
  pub halts_ask : (count : ℕ) (did there_did whole : List MailStep → Type 0) (asked : PagesAsked) (then_on : Option Run → Doing) (run : Option Run)
      (steps : List MailStep) → asked.heap ≡ heap.plain.index → did steps
      → DoesAskOn (denials_of doer.context.standing) count doer.party after.party asked steps run true
      → ((index : ℕ) → (new index).entries ≡ (old index).entries)
      → ((first second : List MailStep) → did first → there_did second → whole (first ++ second)) → (rest : Doing) (last : Moment)
      → Does [] count there_did (then_on run) rest (in_hand heap (moment_of after new later heard)) last
      → Halts [] count whole (Doing.Then (Deed.Ask asked) then_on) (in_hand heap (moment_of doer old log asks)) last
  unfolding Leads Goes
  halts_ask count did there_did whole asked then_on run steps its made acts entries join rest last there =
      halts_then count did there_did whole (in_hand heap (moment_of doer old log asks)) (in_hand heap (moment_of after new later heard)) last join []
      (Doing.Then (Deed.Ask asked) then_on)
      (record {
        rest = then_on run;
        trace = Asked asked run ∷ [];
        steps = steps;
        held = [];
        others = [];
        front = refl;
        leads = (run, refl, refl);
        made = made;
        acts = subst (λ (index : ℕ). ActsOn count (Some index) (Some index) [] doer after (Asked asked run ∷ []) steps) its
            (subst (λ (after : ParticipantView). ActsOn count (Some asked.heap) (Some asked.heap) [] doer after (Asked asked run ∷ []) steps)
            (goes_as doer after known) (ActsOn.asks_on doer after.party asked run steps acts));
        entries = λ index.
            hand_same doer.party.me after.party.me heap old new same.me entries index
            ∙ sym (append-nil (with_hand doer.party.me heap old index).entries);
        counted = context_still doer.context after.context known;
        same = same;
      }) rest there

module _ (doer after : ParticipantView) (old new : ℕ → HeapPart) (log later : List LogRecord) (asks heard : List AskLog) (heap : HeapView)
    (same : IsSameParty doer.party after.party) (known : after.context ≡ doer.context) (taken out : ℕ → Option Kept) (still : (number : ℕ) → out number ≡ taken number)
    (hand : IsInHand taken (moment_of doer old log asks) heap) where
  -- the heap is in hand still, where all is held as before
  pub hand_asked : ((index : ℕ) → IsHeldAsBefore (old index) (new index)) → IsInHand out (moment_of after new later heard) heap
  hand_asked held = record {
    was = hand.was;
    pen = hand.pen;
    taken_is = still heap.plain.index ∙ hand.taken_is;
    pairs = hand.pairs;
    untold = (held heap.plain.index).told ∙ hand.untold;
    few = hand.few;
    index = hand.index;
    serves = hand.serves;
    own = hand.own;
    history = hand.history;
    numbered = subst (λ (count : ℕ). IsNumbered after.party.me count hand.own) (sym (made_same old new (λ index. (held index).entries)))
        (subst (λ (who : ℕ). IsNumbered who (entries_made old) hand.own) (sym same.me) hand.numbered);
    earlier = ap (λ (who : ℕ). entries_of who hand.was.history) same.me ∙ hand.earlier ∙ sym (held heap.plain.index).entries;
    held = subst (λ (holding : Option Holding). IsHeldWith heap holding) (sym (held heap.plain.index).holding) hand.held;
    sound = hand.sound;
    named = λ none. hand.named (sym (still NAMES_SLOT) ∙ none);
    marks = subst (λ (who : ℕ). MarksStayBut who hand.was.plain heap.plain) (sym same.me) hand.marks;
    claimed = λ these chunk knows. hand.claimed these chunk (sym (held heap.plain.index).claims ∙ knows);
    its_socket = hand.its_socket ∙ sym (held heap.plain.index).serves;
    sockets = λ index.
        (held index).serves ∙ hand.sockets index
        ∙ ap (λ (context : Context). slice_get (sockets_of context.pools) index) (sym known);
    others = λ other apart. (held other).holding ∙ hand.others other apart;
    counted = omega (
      arith,
      ap (λ (context : Context). context.calls) known,
      hand.counted,
      made_same old new (λ index. (held index).entries),
    );
  }

module _ (after : ParticipantView) (old new : ℕ → HeapPart) (log later : List LogRecord) (asks heard : List AskLog) (heap : HeapView)
    (out : ℕ → Option Kept) (hand : IsInHand out (moment_of after old log asks) heap) (asked : ℕ) (run : Run)
    (its : asked ≡ heap.plain.index) (others : (index : ℕ) → index ≢ asked → IsHeldAsBefore (old index) (new index))
    (grows : GrowsHeld asked (Some run) (old asked) (new asked)) where
  had : HasHolding heap grows.before
  had =
      held_holding heap (old heap.plain.index).holding grows.before (ap (λ index. (old index).holding) (sym its) ∙ grows.held) hand.held

  -- a run that came may be taken in
  pub can_grow : IsSome heap.plain.serves → CanGrow run heap.plain
  can_grow some = grows.grows.may heap.plain (sym its) had.pages some (no_chunks heap.plain some hand.sound.tiled.kind)

  module _ (next : HeapView) (counted : ParticipantView) (counted_is : counted ≡ after_call after)
      (is : IsCall (caller_of after) (call.Grow run) gives.Done heap next) where
    abbrev entry : Entry
    entry = record { caller = caller_of after; call = call.Grow run; answer = gives.Done }

    entries : (index : ℕ) → (new index).entries ≡ (old index).entries
    entries = asked_entries asked (Some run) old new others grows

    serves : (index : ℕ) → (new index).serves ≡ (old index).serves
    serves = asked_serves asked (Some run) old new others grows

    told : (index : ℕ) → (new index).told ≡ (old index).told
    told = asked_told asked (Some run) old new others grows

    index_is : next.plain.index ≡ heap.plain.index
    index_is = call_index (caller_of after) (call.Grow run) gives.Done heap next is

    its_next : asked ≡ next.plain.index
    its_next = its ∙ sym index_is

    holds : (new next.plain.index).holding ≡ Some grows.behind
    holds = ap (λ index. (new index).holding) (sym its_next) ∙ grows.holds

    pages : HasPages next.plain.pages grows.behind.owned
    unfolding after
    pages =
        subst (λ (plain : PlainHeap). HasPages plain.pages grows.behind.owned) (sym is.heap) (grows.grows.pages heap.plain (sym its) had.pages)

    -- the run comes after those that came before, by its history and by what it has claimed
    brought : HasHolding next grows.behind
    brought =
        let adds = calls_add_runs (caller_of after) (call.Grow run) gives.Done heap next is in
        record {
          pages = pages;
          grown = adds.grown ∙ ap (λ (came : List Run). came ++ run ∷ []) had.grown ∙ sym grows.grows.came;
          cut = adds.cut ∙ append-nil (runs_cut heap.history) ∙ had.cut ∙ sym grows.grows.retired;
        }

    claims : (index : ℕ) → (new index).claims ≡ (old index).claims
    claims = asked_claims asked (Some run) old new others grows

    goes : GoesOnHeld out after.party.me (old heap.plain.index).claims heap.plain next.plain
    goes =
        leaves_held out after.party.me (old heap.plain.index).claims heap.plain next.plain
        (call_leaves (caller_of after) (call.Grow run) gives.Done heap next is hand.sound.tiled tt) hand.claimed

    -- once it has, the heap is in hand with it
    pub hand_grown : IsInHand out (moment_of counted new later heard) next
    hand_grown =
        subst (λ (counted : ParticipantView). IsInHand out (moment_of counted new later heard) next) (sym counted_is) (record {
          was = hand.was;
          pen = hand.pen;
          taken_is = ap out index_is ∙ hand.taken_is;
          pairs = hand.pairs;
          untold = ap (λ (index : ℕ). (new index).told) index_is ∙ told heap.plain.index ∙ hand.untold;
          few = subst (λ (index : ℕ). index < MAX_HEAPS) (sym index_is) hand.few;
          index = index_is ∙ hand.index;
          serves = call_serves (caller_of after) (call.Grow run) gives.Done heap next is ∙ hand.serves;
          own = hand.own ++ entry ∷ [];
          history = is.history ∙ sym (own_behind after old log asks (call.Grow run) gives.Done heap next is out hand);
          numbered = subst (λ (count : ℕ). IsNumbered after.party.me count (hand.own ++ entry ∷ [])) (sym (made_same old new entries))
              (numbered_next after old log asks (call.Grow run) gives.Done heap next is out hand);
          earlier = hand.earlier ∙ ap (λ (index : ℕ). (old index).entries) (sym index_is) ∙ sym (entries next.plain.index);
          held = subst (λ (holding : Option Holding). IsHeldWith next holding) (sym holds) brought;
          sound = calls_keep_sound (caller_of after) (call.Grow run) gives.Done heap next hand.sound is;
          named = λ none. goes.named none ∙ hand.named none;
          marks = λ other apart. goes.marks other apart ∙ hand.marks other apart;
          claimed = λ these chunk knows.
              goes.claimed these chunk
              (ap (λ (index : ℕ). (old index).claims) (sym index_is) ∙ (sym (claims next.plain.index) ∙ knows));
          its_socket = call_serves (caller_of after) (call.Grow run) gives.Done heap next is ∙ hand.its_socket
              ∙ ap (λ (index : ℕ). (old index).serves) (sym index_is) ∙ sym (serves next.plain.index);
          sockets = λ index. serves index ∙ hand.sockets index;
          others = λ other apart.
              (others other (λ same. apart (same ∙ its_next))).holding ∙ hand.others other (λ same. apart (same ∙ sym index_is));
          counted = omega (arith, hand.counted, length-append hand.own (entry ∷ []), made_same old new entries);
        })
