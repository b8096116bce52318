-- A heap that comes into a participant's hand, and that goes back.
use Rattle.std.proofs.Common.{◌≡◌, ◌≢◌, ◌∙◌, ℕ, Bool, true, ◌||◌, suc, zero, ◌+◌, ◌<◌, ◌≤◌, eqb, eq-eqb, List, [], ◌∷◌, ◌++◌, length, append-nil, Option, Some, None, refl, ap, sym, subst, ⊎_elim, arith}
use Rattle.std.specs.Prelude.{◌==◌, if◌then◌else◌, slice_get, sum_by}
use Rattle.hp_proc.specs.Contexts.{Context}
use Rattle.hp_proc.specs.Heaps.{sockets_of}
use Rattle.std.specs.List.{list_any, range_with_len}
use Rattle.std.proofs.lemmas.Bool.{cond-false, cond-true}
use Rattle.std.proofs.lemmas.Bool.Decides.{eqb_tells}
use Rattle.std.proofs.lemmas.List.{length-append}
use Rattle.std.proofs.lemmas.List.Folds.{list_any-append}
use Rattle.std.proofs.lemmas.List.Sums.{sum_by-cons}
use Rattle.hp_base.specs.declared.limits.TheConstants.{MAX_HEAPS}
use Rattle.hp_base.specs.declared.tag.Caller.{Caller}
use Rattle.hp_heap.specs.History.{HeapView, entries_of}
use Rattle.hp_heap.specs.History as heaps
use Rattle.hp_heap.specs.declared.entry.Entry.{Entry}
use Rattle.hp_hall.specs.Giving.{IsNumbered, entries_made}
use Rattle.hp_hall.specs.Asks.{ClaimsGrants, IsClaimedIn}
use Rattle.hp_hall.specs.Holding.{AreApart, HeapPart, IsAsPart, IsClaimedFor, IsPartTaken, IsSettledFor, IsTakenAs, StandsFor, part_ended}
use Rattle.hp_hall.specs.Naming.{marked_by}
use Rattle.hp_hall.specs.declared.kept.Kept.{Kept}
use Rattle.hp_hall.specs.declared.kept.Kept.TheVariants.{Heap}
use Rattle.hp_hall.specs.declared.slot.TheConstants.{SLOTS}
use Rattle.hp_hall.specs.Mail.{MailStep}
use Rattle.hp_hall.specs.HeapPairs.{ArePairsOf}
use Rattle.hp_hall.specs.Values.{Fits, HasClaimed, HasEntries, HasMarks, HasPairs, IsSoundKept}
use Rattle.hp_proc.specs.Acting.{Acts}
use Rattle.hp_proc.specs.Denying.{denials_of}
use Rattle.hp_serve.specs.Asking.{HasSettledAsks}
use Rattle.hp_serve.specs.Waiting.{IsTurned}
use Rattle.hp_log.specs.declared.log_record.LogRecord.{LogRecord}
use Rattle.hp_segs.specs.SegsView.{grants_or_refuses}
use Rattle.hp_segs.specs.Standing.{Holding}
use Rattle.hp_segs.specs.declared.ask.Ask.{Ask}
use Rattle.hp_segs.specs.declared.outcome.AskLog.{AskLog}
use Rattle.hp_stats.specs.StatViews.{PenView}
use Rattle.hp_serve.specs.Party.{IsSameParty}
use Rattle.hp_proc.specs.ParticipantView.{ParticipantView}
use Rattle.hp_proc.specs.Progress.{AreSettled, IsInHand, MayDo, moment_of, with_hand}
use Rattle.hp_proc.proofs.Joining.{goes_as}
use Rattle.hp_proc.proofs.HandFacts.HandCalls.{entries_of_on, hand_apart, hand_here}

-- what was heard of an ask is heard still
heard_still : (from number : ℕ) (asks now more : List AskLog) → now ≡ asks ++ more → list_any (grants_or_refuses from number) asks ≡ true
    → list_any (grants_or_refuses from number) now ≡ true
heard_still from number asks now more grown heard =
    ap (λ (asks : List AskLog). list_any (grants_or_refuses from number) asks) grown
    ∙ list_any-append (grants_or_refuses from number) asks more
    ∙ ap (λ (before : Bool). before || list_any (grants_or_refuses from number) more) heard

-- of a heap that is not in hand nothing is to be claimed
claims_none : (heard : List AskLog) (holding : Option Holding) (ask : Ask) → holding ≡ None → ClaimsGrants heard holding ask
claims_none heard holding ask none entry generation among who which granted =
    subst (λ (holding : Option Holding). IsClaimedIn holding entry) (sym none) tt

module _ (old new : ℕ → HeapPart) (asks now more : List AskLog) (grown : now ≡ asks ++ more)
    (armed : (heap : ℕ) → (new heap).armed ≡ (old heap).armed) (settled : HasSettledAsks old asks) where
  settled_in : (heap : ℕ) → IsClaimedFor heap now (new heap) → IsSettledFor heap now (new heap)
  settled_in heap claimed ask is its = record {
    answered = heard_still ask.from ask.number asks now more grown (settled heap ask (sym (armed heap) ∙ is) its).answered;
    claims = claimed ask is its;
  }

  -- settled asks stay settled while it has no heap in hand
  pub settled_unheld : ((heap : ℕ) → (new heap).holding ≡ None) → HasSettledAsks new now
  settled_unheld unheld heap = settled_in heap (λ ask is its. claims_none now (new heap).holding ask (unheld heap))

  -- and once it has taken one, which has claimed what was granted to its ask for that
  pub settled_taken : (index : ℕ) → IsClaimedFor index now (new index) → ((other : ℕ) → other ≢ index → (new other).holding ≡ None)
      → HasSettledAsks new now
  settled_taken index claimed unheld heap = settled_in heap
      (⊎_elim (λ here. subst (λ (at : ℕ). IsClaimedFor at now (new at)) (sym here.1) claimed)
      (λ other. λ ask is its. claims_none now (new heap).holding ask (unheld heap other.1)) (eqb_tells heap index))

-- entries that are numbered on are all of that participant
own_all : (who count : ℕ) (own : List Entry) → IsNumbered who count own → entries_of who own ≡ own
unfolding entries_of
own_all who count [] numbered = refl
own_all who count (entry ∷ own) numbered =
    cond-true (eqb entry.caller.participant who) (entry ∷ entries_of who own) (entries_of who own)
    (eq-eqb entry.caller.participant who (ap (λ (caller : Caller). caller.participant) numbered.0))
    ∙ ap (λ (own : List Entry). entry ∷ own) (own_all who (count + 1) own numbered.1)

-- two sums over the same numbers
pub sums_same : (f g : ℕ → ℕ) (numbers : List ℕ) → ((number : ℕ) → g number ≡ f number) → sum_by g numbers ≡ sum_by f numbers
sums_same f g [] same = refl
sums_same f g (number ∷ numbers) same =
    omega (arith, sum_by-cons f number numbers, sum_by-cons g number numbers, same number, sums_same f g numbers same)

sums_above : (f g : ℕ → ℕ) (at from count : ℕ) → ((number : ℕ) → number ≢ at → g number ≡ f number) → at < from
    → sum_by g (range_with_len from count) ≡ sum_by f (range_with_len from count)
sums_above f g at from zero same below = refl
sums_above f g at from (suc count) same below =
    omega (
      arith,
      sum_by-cons f from (range_with_len (from + 1) count),
      sum_by-cons g from (range_with_len (from + 1) count),
      same from (λ (here : from ≡ at). omega (arith, here, below)),
      sums_above f g at (from + 1) count same (omega (arith, below)),
    )

-- and where one of them counts for more
sums_more : (f g : ℕ → ℕ) (at more from count : ℕ) → ((number : ℕ) → number ≢ at → g number ≡ f number) → g at ≡ f at + more
    → from ≤ at → at < from + count → sum_by g (range_with_len from count) ≡ sum_by f (range_with_len from count) + more
sums_more f g at more from zero same here above below = omega (arith, above, below)
sums_more f g at more from (suc count) same here above below =
    let first = sum_by-cons f from (range_with_len (from + 1) count) in
    let second = sum_by-cons g from (range_with_len (from + 1) count) in
    ⊎_elim
    (λ its.
    let is : g from ≡ f from + more = subst (λ number. g number ≡ f number + more) (sym its.1) here in
    omega (arith, first, second, is, sums_above f g at (from + 1) count same (omega (arith, its.1))))
    (λ other.
    omega (
      arith,
      first,
      second,
      same from other.1,
      sums_more f g at more (from + 1) count same here (next_above from at other.1 above) (omega (arith, below)),
    ))
    (eqb_tells from at)
  where
    next_above : (from at : ℕ) → from ≢ at → from ≤ at → from + 1 ≤ at
    next_above from at apart above = omega (arith, apart, above)

module _ (who : ℕ) (heap : HeapView) (old new : ℕ → HeapPart) (here : new heap.plain.index ≡ part_ended who heap (old heap.plain.index))
    (apart : AreApart heap.plain.index old new) where
  -- after a give its entries are those of the heap that was in hand, and all else but that it holds it stays
  pub given_entries : (index : ℕ) → (new index).entries ≡ (with_hand who heap old index).entries
  given_entries index = ⊎_elim
      (λ its.
      ap (λ (index : ℕ). (new index).entries) its.1 ∙ ap (λ (part : HeapPart). part.entries) here ∙ sym (hand_here who heap old index its.1))
      (λ other. ap (λ (part : HeapPart). part.entries) (apart index other.1 ∙ sym (hand_apart who heap old index other.0)))
      (eqb_tells index heap.plain.index)

  pub given_serves : (index : ℕ) → (new index).serves ≡ (old index).serves
  given_serves index = ⊎_elim
      (λ its.
      ap (λ (index : ℕ). (new index).serves) its.1 ∙ ap (λ (part : HeapPart). part.serves) here
      ∙ ap (λ (index : ℕ). (old index).serves) (sym its.1))
      (λ other. ap (λ (part : HeapPart). part.serves) (apart index other.1)) (eqb_tells index heap.plain.index)

  -- and its marks there are those of that heap
  pub given_marked : (index : ℕ) → (new index).marked ≡ (if index == heap.plain.index then marked_by who heap.plain else (old index).marked)
  given_marked index = ⊎_elim
      (λ its.
      ap (λ (index : ℕ). (new index).marked) its.1 ∙ ap (λ (part : HeapPart). part.marked) here
      ∙ sym (cond-true (eqb index heap.plain.index) (marked_by who heap.plain) (old index).marked its.0))
      (λ other.
      ap (λ (part : HeapPart). part.marked) (apart index other.1)
      ∙ sym (cond-false (eqb index heap.plain.index) (marked_by who heap.plain) (old index).marked other.0))
      (eqb_tells index heap.plain.index)

  pub given_armed : (index : ℕ) → (new index).armed ≡ (old index).armed
  given_armed index = ⊎_elim
      (λ its.
      ap (λ (index : ℕ). (new index).armed) its.1 ∙ ap (λ (part : HeapPart). part.armed) here
      ∙ ap (λ (index : ℕ). (old index).armed) (sym its.1))
      (λ other. ap (λ (part : HeapPart). part.armed) (apart index other.1)) (eqb_tells index heap.plain.index)

  given_unheld : ((other : ℕ) → other ≢ heap.plain.index → (old other).holding ≡ None) → (index : ℕ) → (new index).holding ≡ None
  given_unheld free index = ⊎_elim
      (λ its. ap (λ (index : ℕ). (new index).holding) its.1 ∙ ap (λ (part : HeapPart). part.holding) here)
      (λ other. ap (λ (part : HeapPart). part.holding) (apart index other.1) ∙ free index other.1) (eqb_tells index heap.plain.index)

  given_made : (was own : List Entry) → heap.plain.index < MAX_HEAPS → heap.history ≡ was ++ own → entries_of who own ≡ own
      → entries_of who was ≡ (old heap.plain.index).entries → entries_made new ≡ entries_made old + length own
  given_made was own few history its earlier =
      let all : entries_of who heap.history ≡ (old heap.plain.index).entries ++ own =
      ap (entries_of who) history ∙ entries_of_on who was own ∙ ap (λ (own : List Entry). entries_of who was ++ own) its
      ∙ ap (λ (was : List Entry). was ++ own) earlier in
      let count : length (new heap.plain.index).entries ≡ length (old heap.plain.index).entries + length own =
      ap (λ (part : HeapPart). length part.entries) here ∙ ap (λ (entries : List Entry). length entries) all
      ∙ length-append (old heap.plain.index).entries own in
      sums_more (λ index. length (old index).entries) (λ index. length (new index).entries) heap.plain.index (length own) 0 SLOTS
      (λ index other. ap (λ (part : HeapPart). length part.entries) (apart index other)) count (omega arith) (omega (arith, few))

  -- so it is ready for its next heap
  pub ready_given : (taken : ℕ → Option Kept) (doer : ParticipantView) (log later : List LogRecord) (asks now more : List AskLog) → who ≡ doer.party.me
      → IsInHand taken (moment_of doer old log asks) heap → now ≡ asks ++ more → AreSettled (moment_of doer old log asks)
      → MayDo (moment_of doer new later now)
  ready_given taken doer log later asks now more same hand grown settled = record {
    sockets = λ index. given_serves index ∙ hand.sockets index;
    unheld = given_unheld hand.others;
    settled = settled_unheld old new asks now more grown given_armed settled (given_unheld hand.others);
    counted = hand.counted
        ∙ sym (given_made hand.was.history hand.own hand.few hand.history
        (own_all who (entries_made old) hand.own (subst (λ (who : ℕ). IsNumbered who (entries_made old) hand.own) (sym same) hand.numbered))
        (subst (λ (who : ℕ). entries_of who hand.was.history ≡ (old heap.plain.index).entries) (sym same) hand.earlier));
  }

module _ (heap : HeapView) (old new : ℕ → HeapPart) (here : IsPartTaken (old heap.plain.index) (new heap.plain.index))
    (apart : AreApart heap.plain.index old new) where
  -- a take leaves entries, sockets and the armed ask
  pub took_entries : (index : ℕ) → (new index).entries ≡ (old index).entries
  took_entries index = ⊎_elim
      (λ its.
      ap (λ (index : ℕ). (new index).entries) its.1 ∙ here.entries ∙ ap (λ (index : ℕ). (old index).entries) (sym its.1))
      (λ other. ap (λ (part : HeapPart). part.entries) (apart index other.1)) (eqb_tells index heap.plain.index)

  pub took_serves : (index : ℕ) → (new index).serves ≡ (old index).serves
  took_serves index = ⊎_elim
      (λ its.
      ap (λ (index : ℕ). (new index).serves) its.1 ∙ here.serves ∙ ap (λ (index : ℕ). (old index).serves) (sym its.1))
      (λ other. ap (λ (part : HeapPart). part.serves) (apart index other.1)) (eqb_tells index heap.plain.index)

  pub took_armed : (index : ℕ) → (new index).armed ≡ (old index).armed
  took_armed index = ⊎_elim
      (λ its.
      ap (λ (index : ℕ). (new index).armed) its.1 ∙ here.armed ∙ ap (λ (index : ℕ). (old index).armed) (sym its.1))
      (λ other. ap (λ (part : HeapPart). part.armed) (apart index other.1)) (eqb_tells index heap.plain.index)

  -- the heap has its taker's entries as they were
  pub took_hand : (who : ℕ) → entries_of who heap.history ≡ (old heap.plain.index).entries
      → (index : ℕ) → (with_hand who heap new index).entries ≡ (old index).entries
  took_hand who has index = ⊎_elim
      (λ its. hand_here who heap new index its.1 ∙ has ∙ ap (λ (index : ℕ). (old index).entries) (sym its.1))
      (λ other. ap (λ (part : HeapPart). part.entries) (hand_apart who heap new index other.0) ∙ took_entries index)
      (eqb_tells index heap.plain.index)

  -- and is in its taker's hand, where that was ready
  pub taken_in_hand : (taken : ℕ → Option Kept) (before doer : ParticipantView) (log later : List LogRecord) (asks now : List AskLog) (pen : PenView)
      → IsSameParty before.party doer.party → doer.context ≡ before.context → MayDo (moment_of before old log asks)
      → taken heap.plain.index ≡ Some (Heap heap pen) → ArePairsOf heap pen
      → heap.plain.index < MAX_HEAPS → entries_of before.party.me heap.history ≡ (old heap.plain.index).entries
      → IsAsPart (new heap.plain.index) heap → heaps.IsSound heap → IsInHand taken (moment_of doer new later now) heap
  taken_in_hand taken before doer log later asks now pen same known ready out pairs few has stands sound = record {
    was = heap;
    pen = pen;
    taken_is = out;
    pairs = pairs;
    untold = here.untold;
    few = few;
    index = refl;
    serves = refl;
    own = [];
    history = sym (append-nil heap.history);
    numbered = tt;
    earlier = subst (λ (who : ℕ). entries_of who heap.history ≡ (new heap.plain.index).entries) (sym same.me) (has ∙ sym here.entries);
    held = stands.held;
    sound = sound;
    named = λ none. refl;
    marks = λ other away. refl;
    claimed = stands.claimed;
    its_socket = stands.serves;
    sockets = λ index. took_serves index ∙ ready.sockets index ∙ ap (λ (context : Context). slice_get (sockets_of context.pools) index) (sym known);
    others = λ other away. ap (λ (part : HeapPart). part.holding) (apart other away) ∙ ready.unheld other;
    counted = omega (
      arith,
      ap (λ (context : Context). context.calls) known,
      ready.counted,
      sums_same (λ index. length (old index).entries) (λ index. length (new index).entries) (range_with_len 0 SLOTS)
          (λ index. ap (λ (entries : List Entry). length entries) (took_entries index)),
    );
  }

-- what a take of a heap with its pen shows
pub record IsTook (who number : ℕ) (heap : HeapView) (pen : PenView) (old new : ℕ → HeapPart) (heard : List AskLog) : Type 0 where
  pub index : heap.plain.index ≡ number
  pub few : heap.plain.index < MAX_HEAPS
  pub sound : heaps.IsSound heap
  pub pairs : ArePairsOf heap pen
  pub has : entries_of who heap.history ≡ (old heap.plain.index).entries
  pub marks : marked_by who heap.plain ≡ (old heap.plain.index).marked
  pub stands : IsAsPart (new heap.plain.index) heap
  pub claimed : IsClaimedFor heap.plain.index heard (new heap.plain.index)
  pub here : IsPartTaken (old heap.plain.index) (new heap.plain.index)
  pub apart : AreApart heap.plain.index old new

pub take_shows : (who inside number : ℕ) (kept : Kept) (heap : HeapView) (pen : PenView) (old new : ℕ → ℕ → HeapPart) (heard : ℕ → List AskLog)
    → inside ≡ who → kept ≡ Heap heap pen → Fits number kept → IsSoundKept kept → HasPairs kept → HasEntries inside (old inside) kept
    → HasMarks inside (old inside) kept → StandsFor inside (new inside) kept → HasClaimed (heard inside) (new inside) kept → IsTakenAs kept (old inside) (new inside)
    → IsTook who number heap pen (old who) (new who) (heard who)
take_shows who inside number kept heap pen old new heard mine is fits sound pairs has marks stands claimed taken =
    let fit : Fits number (Heap heap pen) = subst (λ (kept : Kept). Fits number kept) is fits in
    let took : IsTakenAs (Heap heap pen) (old who) (new who) =
    subst (λ (who : ℕ). IsTakenAs (Heap heap pen) (old who) (new who)) mine
    (subst (λ (kept : Kept). IsTakenAs kept (old inside) (new inside)) is taken) in
    record {
      index = fit.0;
      few = subst (λ (index : ℕ). index < MAX_HEAPS) (sym fit.0) fit.1;
      sound = subst (λ (kept : Kept). IsSoundKept kept) is sound;
      pairs = subst (λ (kept : Kept). HasPairs kept) is pairs;
      has = subst (λ (who : ℕ). HasEntries who (old who) (Heap heap pen)) mine (subst (λ (kept : Kept). HasEntries inside (old inside) kept) is has);
      marks = subst (λ (who : ℕ). HasMarks who (old who) (Heap heap pen)) mine (subst (λ (kept : Kept). HasMarks inside (old inside) kept) is marks);
      stands = subst (λ (who : ℕ). StandsFor who (new who) (Heap heap pen)) mine
          (subst (λ (kept : Kept). StandsFor inside (new inside) kept) is stands);
      claimed = subst (λ (who : ℕ). HasClaimed (heard who) (new who) (Heap heap pen)) mine
          (subst (λ (kept : Kept). HasClaimed (heard inside) (new inside) kept) is claimed);
      here = took.0;
      apart = took.1;
    }

-- a participant is ready still, where its parts are as they were and outcomes follow
pub ready_still : (before doer : ParticipantView) (old new : ℕ → HeapPart) (log later : List LogRecord) (asks now more : List AskLog)
    → IsSameParty before.party doer.party → doer.context ≡ before.context → ((heap : ℕ) → new heap ≡ old heap) → now ≡ asks ++ more → MayDo (moment_of before old log asks)
    → MayDo (moment_of doer new later now)
ready_still before doer old new log later asks now more same known parts grown ready = record {
  sockets = λ heap. ap (λ (part : HeapPart). part.serves) (parts heap) ∙ ready.sockets heap
      ∙ ap (λ (context : Context). slice_get (sockets_of context.pools) heap) (sym known);
  unheld = λ heap. ap (λ (part : HeapPart). part.holding) (parts heap) ∙ ready.unheld heap;
  settled = settled_unheld old new asks now more grown (λ heap. ap (λ (part : HeapPart). part.armed) (parts heap)) ready.settled
      (λ heap. ap (λ (part : HeapPart). part.holding) (parts heap) ∙ ready.unheld heap);
  counted = omega (
    arith,
    ap (λ (context : Context). context.calls) known,
    ready.counted,
    sums_same (λ index. length (old index).entries) (λ index. length (new index).entries) (range_with_len 0 SLOTS)
        (λ index. ap (λ (part : HeapPart). length part.entries) (parts index)),
  );
}

-- it waited one turn more
pub waits_more : (count counted until : ℕ) (doer mid after : ParticipantView) (moved : Bool) (first last : List MailStep) → counted ≡ count
    → after.context ≡ mid.context → Acts count None None [] doer mid [] first
    → IsTurned (denials_of mid.context.standing) counted until mid.party after.party last (Some moved)
    → Acts count None None [] doer after [] (first ++ last)
waits_more count counted until doer mid after moved first last same knew waited turned =
    Acts.and_then None None None [] [] doer mid after [] [] first last waited
    (subst (λ (after : ParticipantView). Acts count None None [] mid after [] last) (goes_as mid after knew)
    (Acts.waits_turn until mid after.party moved last
    (subst (λ (count : ℕ). IsTurned (denials_of mid.context.standing) count until mid.party after.party last (Some moved)) same turned)))

-- a slot that was found held is as it was, beside all others
pub still_free : (old new : ℕ → Option Kept) (index : ℕ) → ((number : ℕ) → old number ≡ None)
    → ((number : ℕ) → number ≢ index → new number ≡ old number) → new index ≡ old index → (number : ℕ) → new number ≡ None
still_free old new index free others same number = ⊎_elim
    (λ its. ap new its.1 ∙ same ∙ free index) (λ other. others number other.1 ∙ free number) (eqb_tells number index)

pub still_home : (old new : ℕ → Type 0) (index : ℕ) → ((number : ℕ) → number ≤ MAX_HEAPS → old number)
    → ((number : ℕ) → number ≢ index → old number → new number) → new index → (number : ℕ) → number ≤ MAX_HEAPS → new number
still_home old new index home others still number few = ⊎_elim
    (λ its. subst new (sym its.1) still) (λ other. others number other.1 (home number few)) (eqb_tells number index)
