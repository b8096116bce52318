-- Values that may be given: the taken one itself, a heap after a call, and the segment value after its giver came into the roster or left, or
-- claimed external memory.
use Rattle.std.proofs.Common.{◌≡◌, ◌≢◌, ℕ, ◌+◌, ◌≤◌, true, false, true≢false, List, [], ◌∷◌, ◌++◌, drop, length, Option, Some, None, Ok, refl, sym, ap, subst, ◌∙◌, inl, ⊎_elim, arith, cond, count_by}
use Rattle.std.specs.Prelude.{Contains}
use Rattle.std.specs.List.{All, range_with_len, sum_by}
use Rattle.std.proofs.lemmas.Bool.{cases_eq}
use Rattle.std.proofs.lemmas.List.{append-nil, get_or-set_other}
use Rattle.std.proofs.lemmas.List.Elements.{All-cons, All-nil, Contains-append_left}
use Rattle.std.proofs.lemmas.List.Sums.{sum_by-le-sum_by}
use Rattle.hp_base.specs.declared.chunk.Chunk.{Chunk}
use Rattle.hp_base.specs.declared.tag.Caller.{Caller}
use Rattle.hp_heap.specs.declared.entry.Entry.{Entry}
use Rattle.hp_heap.specs.declared.entry.HeapAnswer.{HeapAnswer}
use Rattle.hp_heap.specs.declared.entry.HeapCall.{HeapCall}
use Rattle.hp_heap.specs.History.{HeapView, IsCall, SameButSpare}
use Rattle.hp_heap.specs.HistoryLaws.{run_cut, run_grown, runs_cut, runs_grown}
use Rattle.hp_heap.proofs.FreeFacts.EntriesLaw.{calls_add_runs}
use Rattle.hp_heap.specs.PlainHeap.{HeapPage, PlainHeap}
use Rattle.hp_log.proofs.Counts.{count_cons}
use Rattle.hp_segs.proofs.Moves.{calls_move, moves_stay}
use Rattle.hp_segs.specs.Calls.{MayJoin, MayLeave}
use Rattle.hp_segs.specs.LaterSteps.{after_join, after_leave}
use Rattle.hp_segs.specs.Moved.{SegsCall, Reserve, OpenRun, CloseAsk, LogStale, NoteFailed, Agree, Cancel, Claim, Arm, Withdraw, Retire, DropRetiring, LogFreed, JoinRoster, LeaveRoster, ClaimRange, ReleaseRange, IsMovedBy, is_growth_step, is_log_call, is_range_call, is_roster_call}
use Rattle.hp_segs.specs.Ranges.{after_claim_range, range_plan}
use Rattle.hp_segs.specs.SegsView.{SegsView}
use Rattle.hp_segs.specs.declared.external_range.ExternalRange.{ExternalRange}
use Rattle.hp_segs.specs.declared.outcome.AskLog.{AskLog}
use Rattle.hp_segs.specs.declared.row_state.Segment.{Segment}
use Rattle.hp_hall.specs.declared.kept.Kept.{Kept}
use Rattle.hp_hall.specs.declared.kept.Kept.TheVariants.{Heap, Names, Segments}
use Rattle.hp_hall.specs.declared.slot.TheConstants.{SLOTS}
use Rattle.hp_hall.specs.AgreedNames.{chunk_memory}
use Rattle.hp_hall.specs.Asks.{OpensForArmed}
use Rattle.hp_hall.specs.Giving.{Knows, GivesFor, GivesHeap, GivesSegments, IsGiveOf, claims_ranges, entries_made, enrols, logs}
use Rattle.hp_hall.specs.HeapPairs.{KeepsPen, pair_of}
use Rattle.hp_hall.specs.Holding.{AgreeWith, HasPages, HeapPart, IsHeldWith, IsSettledFor, IsTakenAs}
use Rattle.hp_hall.specs.Named.{seen_of_names}
use Rattle.hp_hall.specs.Naming.{LeavesNames, marked_by, naming_of}
use Rattle.hp_hall.specs.Views.{HeldHeap}
use Rattle.hp_hall.proofs.HallStates.{names_same}
use Rattle.hp_zone.specs.declared.names.Names.{Names as NamesView}
use Rattle.hp_zone.specs.declared.zone.ZoneChange.TheVariants.{Put}
use Rattle.hp_segs.specs.Standing.{Holding}

pub has_nothing : {X : Type 0} (x : X) → Contains [] x → ⊥
has_nothing x has = let inside = has.1 in omega arith

nothing_behind : {X : Type 0} (xs : List X) → drop (length xs) xs ≡ []
nothing_behind [] = refl
nothing_behind (x ∷ xs) = nothing_behind xs

-- calls of which none opens or grants a growth open none
no_growth : (taken : SegsView) (call : SegsCall) → cond (is_growth_step call) 1 0 ≤ 0 → OpensForArmed taken call
no_growth taken (Reserve n) few = tt
no_growth taken (OpenRun ask run) few = absurd (omega (arith, few))
no_growth taken (CloseAsk ask cause) few = tt
no_growth taken (LogStale from number) few = tt
no_growth taken (NoteFailed participant call row got) few = tt
no_growth taken (Agree acks) few = tt
no_growth taken (Cancel cause) few = tt
no_growth taken (Claim from number) few = tt
no_growth taken (Arm ask) few = tt
no_growth taken (Withdraw from number since now) few = tt
no_growth taken (Retire heap run) few = tt
no_growth taken DropRetiring few = tt
no_growth taken (LogFreed from number) few = tt
no_growth taken (JoinRoster participant acked) few = tt
no_growth taken (LeaveRoster participant) few = tt
no_growth taken (ClaimRange list addr len page socket) few = tt
no_growth taken (ReleaseRange list) few = tt

pub none_opens : (taken : SegsView) (calls : List SegsCall) → count_by is_growth_step calls ≤ 0 → All (OpensForArmed taken) calls
none_opens taken [] few = All-nil (OpensForArmed taken)
none_opens taken (call ∷ calls) few =
    let split = count_cons is_growth_step call calls in
    All-cons (OpensForArmed taken) call calls (no_growth taken call (omega (arith, few, split)))
    (none_opens taken calls (omega (arith, few, split)))

-- the segment value as it was taken
pub segs_same : (knows : Knows) (segs : SegsView) → GivesSegments knows segs segs
segs_same knows segs =
    let none : IsMovedBy is_log_call 0 segs segs = moves_stay is_log_call segs in
    record {
      more = [];
      log = sym (append-nil segs.log);
      form = logs (record {
        give = record {
          moved = record { calls = none.calls; leads = none.leads; only = none.only; few = omega (arith, none.few) };
          agreed = λ entry generation member has granted is.
              absurd (has_nothing entry (subst (λ (l : List AskLog). Contains l entry) (nothing_behind segs.asks) has));
        };
        arms = record {
          others = λ other apart. refl;
          for_held = λ ask is. inl is;
          settled = λ ask is. inl is;
          of_armed = λ armed. armed;
          answers = λ armed entry ask has kept.
              absurd (has_nothing entry (subst (λ (l : List AskLog). Contains l entry) (nothing_behind segs.asks) has));
        };
        opens = λ armed. none_opens segs none.calls none.few;
      });
    }

-- a heap with the pages and the runs of another has what the other's holding names
held_with : (a b : HeapView) (holding : Option Holding) → b.plain ≡ a.plain → runs_grown b.history ≡ runs_grown a.history
    → runs_cut b.history ≡ runs_cut a.history → IsHeldWith a holding → IsHeldWith b holding
held_with a b None same grown cut held = absurd held
held_with a b (Some holding) same grown cut held = record {
  pages = subst (λ (p : PlainHeap). HasPages p.pages holding.owned) (sym same) held.pages;
  grown = grown ∙ held.grown;
  cut = cut ∙ held.cut;
}

-- so has a heap after a call of the giver that leaves it as it was, by which no run comes or goes
pub held_called : (taken mid given : HeapView) (part : ℕ → HeapPart) (caller : Caller) (call : HeapCall) (answer : HeapAnswer)
    → SameButSpare taken mid → IsCall caller call answer mid given → given.plain ≡ taken.plain → run_grown call ≡ [] → run_cut answer ≡ []
    → IsHeldWith taken (part taken.plain.index).holding → IsHeldWith given (part given.plain.index).holding
held_called taken mid given part caller call answer same is plain none_grown none_cut held =
    let adds = calls_add_runs caller call answer mid given is in
    let grown : runs_grown given.history ≡ runs_grown taken.history =
    adds.grown
    ∙ (ap (λ l. runs_grown mid.history ++ l) none_grown ∙ (append-nil (runs_grown mid.history) ∙ ap runs_grown same.history)) in
    let cut : runs_cut given.history ≡ runs_cut taken.history =
    adds.cut ∙ (ap (λ l. runs_cut mid.history ++ l) none_cut ∙ (append-nil (runs_cut mid.history) ∙ ap runs_cut same.history)) in
    subst (λ (p : PlainHeap). IsHeldWith given (part p.index).holding) (sym plain)
    (held_with taken given (part taken.plain.index).holding plain grown cut held)

-- a heap without pages, of which no segment is its own
pub bare_pages : (pages : List HeapPage) (owned : List Segment) → pages ≡ [] → owned ≡ [] → HasPages pages owned
bare_pages pages owned bare none = record {
  owns = λ page has. absurd (has_nothing page (subst (λ (l : List HeapPage). Contains l page) bare has));
  pages_of = λ segment has. absurd (has_nothing segment (subst (λ (l : List Segment). Contains l segment) none has));
}

-- a take leaves the taker's entries
pub entries_taken : (kept : Kept) (old new : ℕ → HeapPart) → IsTakenAs kept old new → (heap : ℕ) → (new heap).entries ≡ (old heap).entries
entries_taken (Heap taken pen) old new is heap =
    ⊎_elim
    (λ (same : heap ≡ taken.plain.index). ap (λ (n : ℕ). (new n).entries) same ∙ is.0.entries ∙ ap (λ (n : ℕ). (old n).entries) (sym same))
    (λ (apart : heap ≢ taken.plain.index). ap (λ (part : HeapPart). part.entries) (is.1 heap apart))
    (cases_eq heap taken.plain.index)
entries_taken (Segments segs) old new is heap = ap (λ (part : HeapPart). part.entries) (is heap)
entries_taken (Names names) old new is heap = (is heap).entries

-- and the ask with which the taker is armed
pub armed_taken : (kept : Kept) (old new : ℕ → HeapPart) → IsTakenAs kept old new → (heap : ℕ) → (new heap).armed ≡ (old heap).armed
armed_taken (Heap taken pen) old new is heap =
    ⊎_elim
    (λ (same : heap ≡ taken.plain.index). ap (λ (n : ℕ). (new n).armed) same ∙ is.0.armed ∙ ap (λ (n : ℕ). (old n).armed) (sym same))
    (λ (apart : heap ≢ taken.plain.index). ap (λ (part : HeapPart). part.armed) (is.1 heap apart))
    (cases_eq heap taken.plain.index)
armed_taken (Segments segs) old new is heap = ap (λ (part : HeapPart). part.armed) (is heap)
armed_taken (Names names) old new is heap = (is heap).armed

-- who is armed with no ask owes none
pub unarmed_settled : (heap : ℕ) (heard : List AskLog) (part : HeapPart) → part.armed ≡ None → IsSettledFor heap heard part
unarmed_settled heap heard part none ask is its =
    let wrong : None ≡ Some ask = sym none ∙ is in
    absurd (cc)

-- what may stand in place of the taken value may be given
pub gives_taken : (knows : Knows) (number : ℕ) (taken given : Kept) → knows.taken number ≡ Some taken → GivesFor knows (Some taken) given
    → IsGiveOf knows number given
gives_taken knows number taken given out gives = subst (λ kept. GivesFor knows kept given) (sym out) gives

-- the segment value as it was taken
pub gives_same : (knows : Knows) (number : ℕ) (segs : SegsView) → knows.taken number ≡ Some (Segments segs) → IsGiveOf knows number (Segments segs)
gives_same knows number segs out = gives_taken knows number (Segments segs) (Segments segs) out (segs_same knows segs)

-- a heap with its pen, once the giver has published its pair
pub gives_published : (knows : Knows) (number : ℕ) (taken given : HeldHeap) → knows.taken number ≡ Some (Heap taken.heap taken.pen)
    → GivesHeap knows taken.heap given.heap → (knows.part given.heap.plain.index).told ≡ Some (pair_of given.heap)
    → KeepsPen taken.pen given.heap given.pen → IsGiveOf knows number (Heap given.heap given.pen)
gives_published knows number taken given out gives told keeps =
    gives_taken knows number (Heap taken.heap taken.pen) (Heap given.heap given.pen) out (record { heap = gives; told = told; pen = keeps })

-- the names as they were taken, where they still agree with what they speak of
pub gives_names : (knows : Knows) (number : ℕ) (names : NamesView) → knows.naming ≡ true → knows.taken number ≡ Some (Names names)
    → AgreeWith knows.part names → IsGiveOf knows number (Names names)
gives_names knows number names naming out agrees = gives_taken knows number (Names names) (Names names) out (record {
  naming = naming;
  names = record { goes_on = names_same (seen_of_names names); allocated = λ zone has. absurd (has_nothing (Put zone) has) };
  agrees = agrees;
})

-- a heap after one call of the giver, which changes neither its index nor whom it serves, and leaves it what its holding names and what the
-- names say of it; the giver's ask for it is settled, and the memory of its chunks is claimed, as far as the giver knows of that
pub gives_call : (knows : Knows) (taken mid given : HeapView) (caller : Caller) (call : HeapCall) (answer : HeapAnswer) → SameButSpare taken mid
    → IsCall caller call answer mid given → given.plain.index ≡ mid.plain.index → given.plain.serves ≡ mid.plain.serves
    → caller ≡ record { participant = knows.who; number = entries_made knows.part + 1 }
    → IsHeldWith given (knows.part given.plain.index).holding
    → IsSettledFor given.plain.index knows.heard (knows.part given.plain.index) → LeavesNames knows.who mid.plain given.plain
    → ((claims : List ExternalRange) (chunk : Chunk) → (knows.part given.plain.index).claims ≡ Some claims → Contains given.plain.chunks chunk
    → Contains claims (chunk_memory chunk)) → GivesHeap knows taken given
gives_call knows taken mid given caller call answer same is index serves next held settled leaves claimed = record {
  index = index ∙ ap (λ (p : PlainHeap). p.index) same.plain;
  serves = serves ∙ ap (λ (p : PlainHeap). p.serves) same.plain;
  own = record { caller = caller; call = call; answer = answer } ∷ [];
  history = is.history ∙ ap (λ (h : List Entry). h ++ record { caller = caller; call = call; answer = answer } ∷ []) same.history;
  numbered = (next, tt);
  held = held;
  settled = settled;
  named = λ none. leaves.naming ∙ ap naming_of same.plain;
  claimed = λ has. claimed;
  marks = λ other apart. leaves.marks other apart ∙ ap (marked_by other) same.plain;
}

-- who made no entry has made none in all heaps
pub entries_made-none : (part : ℕ → HeapPart) → ((heap : ℕ) → (part heap).entries ≡ []) → entries_made part ≡ 0
entries_made-none part none =
    let most : entries_made part ≤ sum_by (λ (heap : ℕ). 0) (range_with_len 0 SLOTS) =
    sum_by-le-sum_by (λ (heap : ℕ). length (part heap).entries) (λ (heap : ℕ). 0) (range_with_len 0 SLOTS)
    (λ heap. omega (arith, ap length (none heap))) in
    let zero_sum : sum_by (λ (heap : ℕ). 0) (range_with_len 0 SLOTS) ≡ 0 = refl in
    omega arith

-- the segment value once its giver has left the roster, and once it has come in with the whole log taken in
pub gives_leave : (knows : Knows) (segs : SegsView) → MayLeave knows.who segs → knows.emptied ≡ true
    → GivesSegments knows segs (after_leave knows.who segs)
gives_leave knows segs may emptied = record {
  more = [];
  log = sym (append-nil segs.log);
  form = enrols (record {
    moved = calls_move is_roster_call (LeaveRoster knows.who) segs refl may;
    others = λ other apart. get_or-set_other segs.roster knows.who other false false apart;
    joins = λ out came. absurd (true≢false (sym may.member ∙ out));
    caught_up = λ out came. absurd (true≢false (sym may.member ∙ out));
    leaves = λ was gone. emptied;
  });
}

pub gives_join : (knows : Knows) (segs : SegsView) → MayJoin knows.who knows.number segs → knows.acked ≡ Some (length segs.log)
    → GivesSegments knows segs (after_join knows.who segs)
gives_join knows segs may acked = record {
  more = [];
  log = sym (append-nil segs.log);
  form = enrols (record {
    moved = calls_move is_roster_call (JoinRoster knows.who knows.number) segs refl may;
    others = λ other apart. get_or-set_other segs.roster knows.who other true false apart;
    joins = λ out came. may.all;
    caught_up = λ out came. acked;
    leaves = λ was gone. absurd (true≢false (sym was ∙ may.out));
  });
}

-- the segment value once its giver, who has the names in hand, has claimed external memory
pub gives_claimed : (knows : Knows) (segs : SegsView) (list addr len page socket : ℕ) → range_plan addr len page segs ≡ Ok list
    → knows.naming ≡ true → GivesSegments knows segs (after_claim_range list addr len page socket segs)
gives_claimed knows segs list addr len page socket may naming = record {
  more = [];
  log = sym (append-nil segs.log);
  form = claims_ranges (record {
    give = record { moved = calls_move is_range_call (ClaimRange list addr len page socket) segs refl may };
    naming = naming;
    released = λ range has.
        inl (Contains-append_left segs.ranges (record { list = list; addr = addr; len = len; page = page; socket = socket } ∷ []) range has);
  });
}
