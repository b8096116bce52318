-- What may be given by participants that reserve and free memzones by turns, and what they have afterwards.
use Rattle.std.proofs.Common.{◌≡◌, ◌∙◌, ℕ, ◌+◌, ◌<◌, true, false, List, [], ◌∷◌, ◌++◌, drop, length, Option, Some, None, refl, sym, ap, subst, arith, lit<, inl}
use Rattle.std.specs.List.{All, Contains}
use Rattle.std.specs.Option.{is_some}
use Rattle.std.proofs.Math.Seq.{drop-append_seam}
use Rattle.std.proofs.lemmas.List.{append_assoc, append-nil, length-append, length-map}
use Rattle.std.proofs.lemmas.List.Elements.{All-append, All-map, All-nil}
use Rattle.atomic_table.specs.Seated.{TableId}
use Rattle.hp_base.specs.declared.tag.Caller.{Caller}
use Rattle.hp_heap.proofs.FreeFacts.EntriesLaw.{calls_add_runs}
use Rattle.hp_heap.proofs.HistoryFacts.HistoryLaw.{IsSameHeap, after-same}
use Rattle.hp_heap.specs.ChunkOrder.{AreInOrder}
use Rattle.hp_heap.specs.History.{HeapView, IsCall, SameButSpare}
use Rattle.hp_heap.specs.HistoryLaws.{run_cut, run_grown, runs_cut, runs_grown}
use Rattle.hp_heap.specs.PlainHeap.{PlainHeap}
use Rattle.hp_heap.specs.Tiling.{IsTiled}
use Rattle.hp_heap.specs.declared.entry.Entry.{Entry}
use Rattle.hp_heap.specs.declared.entry.HeapAnswer.{HeapAnswer}
use Rattle.hp_heap.specs.declared.entry.HeapCall.{HeapCall}
use Rattle.hp_segs.specs.LaterSteps.{armed_ask}
use Rattle.hp_segs.specs.SegsView.{SegsView}
use Rattle.hp_segs.specs.declared.ask.Ask.{Ask}
use Rattle.hp_zone.specs.declared.names.Names.{Names as NamesView}
use Rattle.hp_zone.specs.declared.zone.Zone.{Zone}
use Rattle.hp_zone.specs.declared.zone.ZoneChange.TheVariants.{Put}
use Rattle.hp_stats.specs.StatViews.{PenView}
use Rattle.hp_hall.specs.Giving.{IsNumbered, claims_ranges, entries_made}
use Rattle.hp_hall.specs.Holding.{AgreeWith, IsHeldWith, StandsFor}
use Rattle.hp_hall.specs.Named.{IsAllocated, NamesGoOn, seen_of_names}
use Rattle.hp_hall.specs.Naming.{MarksStayBut, marked_by, naming_of}
use Rattle.hp_hall.specs.declared.kept.Kept.{Kept}
use Rattle.hp_hall.specs.declared.kept.Kept.TheVariants.{Heap, Names, Segments}
use Rattle.hp_hall.proofs.Gives.{unarmed_settled}
use Rattle.hp_hall.proofs.HeldPairs.{keeps_pen}
use Rattle.hp_hall.proofs.MarksLeft.{calls_mark_alone}
use Rattle.hp_board.specs.declared.view.Mine.{Mine}
use Rattle.hp_board.specs.declared.words.TheConstants.{SLOTS}
use Rattle.hp_board.specs.Giving.{IsGiveAt}
use Rattle.hp_board.specs.Handed.{HasTakenLater, IsHanded}
use Rattle.hp_board.specs.KeptValues.{entries_added}
use Rattle.hp_board.specs.Knowing.{heap_part, knows_of}
use Rattle.hp_board.specs.BoardView.{BoardView}
use Rattle.hp_board.specs.SeatView.{SeatView, new_seat}
use Rattle.hp_board.specs.Views.{after_give, holds_names, made_in, under, value_of, without}
use Rattle.hp_board.proofs.Counted.{made_counted}
use Rattle.hp_board.proofs.OwnershipFacts.GivenTaken.{gives_at}
use Rattle.hp_board.proofs.Gives.{held_stays}
use Rattle.hp_board.proofs.Histories.{IsNumbered-append}
use Rattle.test_board.specs.Playing.{IsBack}
use Rattle.test_board.specs.Zoned.{HasCalls, HasClaimed}
use Rattle.test_board.specs.Zoning.{IsFree, Sits}
use Rattle.test_board.proofs.ZoneHands.{AreKnownClaimed, IsInHand}

-- CALLS OF A HEAP

-- no call was made, but there may be room for some
pub none_called : (who made : ℕ) (taken given : HeapView) → SameButSpare taken given → HasCalls who made made taken given
none_called who made taken given same = record {
  index = ap (λ (h : PlainHeap). h.index) same.plain;
  serves = ap (λ (h : PlainHeap). h.serves) same.plain;
  own = [];
  history = same.history ∙ sym (append-nil taken.history);
  numbered = tt;
  count = omega arith;
  pages = ap (λ (h : PlainHeap). h.pages) same.plain;
  grown = ap runs_grown same.history;
  cut = ap runs_cut same.history;
  marks = λ other apart. ap (marked_by other) same.plain;
}

-- a call was made by which no page and no run came or went
pub one_called : (who made : ℕ) (taken given : HeapView) (caller : Caller) (its : HeapCall) (answer : HeapAnswer)
    → caller ≡ record { participant = who; number = made + 1 } → IsCall caller its answer taken given → IsTiled taken.plain → AreInOrder taken.plain.chunks
    → given.plain.pages ≡ taken.plain.pages → run_grown its ≡ [] → run_cut answer ≡ [] → HasCalls who made (made + 1) taken given
one_called who made taken given caller its answer is step tiled order pages none_grown none_cut =
    let same : IsSameHeap taken.plain given.plain = subst (IsSameHeap taken.plain) (sym step.heap) (after-same caller.participant its taken.plain) in
    let runs = calls_add_runs caller its answer taken given step in
    let marks : MarksStayBut caller.participant taken.plain given.plain =
    subst (MarksStayBut caller.participant taken.plain) (sym step.heap) (calls_mark_alone caller.participant its taken.plain tiled order step.allowed) in
    record {
      index = same.index;
      serves = same.serves;
      own = record { caller = caller; call = its; answer = answer } ∷ [];
      history = step.history;
      numbered = (is, tt);
      count = refl;
      pages = pages;
      grown = runs.grown ∙ (ap (λ l. runs_grown taken.history ++ l) none_grown ∙ append-nil (runs_grown taken.history));
      cut = runs.cut ∙ (ap (λ l. runs_cut taken.history ++ l) none_cut ∙ append-nil (runs_cut taken.history));
      marks = subst (λ (c : Caller). MarksStayBut c.participant taken.plain given.plain) is marks;
    }

-- calls one after another
pub then_called : (who a b c : ℕ) (taken between given : HeapView) → HasCalls who a b taken between → HasCalls who b c between given → HasCalls who a c taken given
then_called who a b c taken between given first next = record {
  index = next.index ∙ first.index;
  serves = next.serves ∙ first.serves;
  own = first.own ++ next.own;
  history = next.history ∙ (ap (λ (h : List Entry). h ++ next.own) first.history ∙ append_assoc taken.history first.own next.own);
  numbered = IsNumbered-append who a first.own next.own first.numbered (subst (λ (n : ℕ). IsNumbered who n next.own) first.count next.numbered);
  count = omega (arith, length-append first.own next.own, first.count, next.count);
  pages = next.pages ∙ first.pages;
  grown = next.grown ∙ first.grown;
  cut = next.cut ∙ first.cut;
  marks = λ other apart. next.marks other apart ∙ first.marks other apart;
}

-- the entries of one call
pub one_own : (who made : ℕ) (taken given : HeapView) (caller : Caller) (its : HeapCall) (answer : HeapAnswer) (is : caller ≡ record { participant = who; number = made + 1 })
    (step : IsCall caller its answer taken given) (tiled : IsTiled taken.plain) (order : AreInOrder taken.plain.chunks) (pages : given.plain.pages ≡ taken.plain.pages)
    (none_grown : run_grown its ≡ []) (none_cut : run_cut answer ≡ [])
    → (one_called who made taken given caller its answer is step tiled order pages none_grown none_cut).own ≡ record { caller = caller; call = its; answer = answer } ∷ []
unfolding one_called
one_own who made taken given caller its answer is step tiled order pages none_grown none_cut = refl

-- room was made first, and the entries are the same
pub room_called : (who before after : ℕ) (taken between given : HeapView) → SameButSpare taken between → HasCalls who before after between given → HasCalls who before after taken given
room_called who before after taken between given same calls = record {
  index = calls.index ∙ ap (λ (h : PlainHeap). h.index) same.plain;
  serves = calls.serves ∙ ap (λ (h : PlainHeap). h.serves) same.plain;
  own = calls.own;
  history = calls.history ∙ ap (λ (h : List Entry). h ++ calls.own) same.history;
  numbered = calls.numbered;
  count = calls.count;
  pages = calls.pages ∙ ap (λ (h : PlainHeap). h.pages) same.plain;
  grown = calls.grown ∙ ap runs_grown same.history;
  cut = calls.cut ∙ ap runs_cut same.history;
  marks = λ other apart. calls.marks other apart ∙ ap (marked_by other) same.plain;
}

pub room_own : (who before after : ℕ) (taken between given : HeapView) (same : SameButSpare taken between) (calls : HasCalls who before after between given)
    → (room_called who before after taken between given same calls).own ≡ calls.own
unfolding room_called
room_own who before after taken between given same calls = refl

-- A SLOT IS TAKEN

pub sits_take : (id : TableId) (who made : ℕ) (held : List (ℕ × Kept)) (old new : SeatView) → Sits id who made held old → new.board ≡ old.board → (slot : ℕ) (kept : Kept)
    → HasTakenLater slot kept old.mine new.mine → Sits id who made ((slot, kept) ∷ held) new
sits_take id who made held old new sits here slot kept taken = record {
  board_is = here ∙ sits.board_is;
  three = ap (λ (m : Mine). m.opening.participants) taken.view.1 ∙ sits.three;
  who_is = ap (λ (m : Mine). m.who) taken.view.1 ∙ sits.who_is;
  held_is = ap (λ (m : Mine). m.held) taken.view.1 ∙ ap (λ (l : List (ℕ × Kept)). (slot, kept) ∷ l) sits.held_is;
  unarmed = ap (λ (m : Mine). m.armed) taken.view.1 ∙ sits.unarmed;
  placed = subst (λ (m : Mine). All (λ (pair : ℕ × Entry). pair.0 < SLOTS) m.made) (sym taken.view.1) sits.placed;
  count = ap (λ (m : Mine). length m.made) taken.view.1 ∙ sits.count;
}

module _ (id : TableId) (who made : ℕ) (held : List (ℕ × Kept)) (old new : SeatView) (sits : Sits id who made held old) (here : new.board ≡ old.board) (kept : Kept) where
  pub sits_heap : (heap : HeapView) (pen : PenView) → kept ≡ Heap heap pen → HasTakenLater 1 kept old.mine new.mine → Sits id who made ((1, Heap heap pen) ∷ held) new
  sits_heap heap pen is taken = subst (λ (k : Kept). Sits id who made ((1, k) ∷ held) new) is (sits_take id who made held old new sits here 1 kept taken)

  pub sits_segs : (segs : SegsView) → kept ≡ Segments segs → HasTakenLater 32 kept old.mine new.mine → Sits id who made ((32, Segments segs) ∷ held) new
  sits_segs segs is taken = subst (λ (k : Kept). Sits id who made ((32, k) ∷ held) new) is (sits_take id who made held old new sits here 32 kept taken)

  pub sits_names : (names : NamesView) → kept ≡ Names names → HasTakenLater 33 kept old.mine new.mine → Sits id who made ((33, Names names) ∷ held) new
  sits_names names is taken = subst (λ (k : Kept). Sits id who made ((33, k) ∷ held) new) is (sits_take id who made held old new sits here 33 kept taken)

-- HEAP 1 IS GIVEN

module _ (id : TableId) (who made after : ℕ) (more : List (ℕ × Kept)) (seat : SeatView) (heap given : HeapView) (pen : PenView) (sits : Sits id who made ((1, Heap heap pen) ∷ more) seat)
    (calls : HasCalls who made after heap given) where
  held : value_of 1 seat.mine.held ≡ Some (Heap heap pen)
  held = ap (value_of 1) sits.held_is

  numbers : entries_made (heap_part seat.mine) ≡ made
  numbers = made_counted seat.mine sits.placed ∙ sits.count

  -- where the names are in hand, or all that they speak of is as it was; and the memory of its chunks is claimed
  pub heap_gives : IsInHand heap pen seat.mine → (holds_names seat.mine ≡ false → naming_of given.plain ≡ naming_of heap.plain) → AreKnownClaimed seat.mine.claims given.plain.chunks
      → IsGiveAt (knows_of seat.mine) 1 (Heap given pen)
  heap_gives hand named claimed =
      gives_at (knows_of seat.mine) 1 (Heap heap pen) (Heap given pen) held (record {
        heap = record {
          index = calls.index;
          serves = calls.serves;
          own = calls.own;
          history = calls.history;
          numbered = subst (λ (w : ℕ). IsNumbered w (entries_made (heap_part seat.mine)) calls.own) (sym sits.who_is)
              (subst (λ (n : ℕ). IsNumbered who n calls.own) (sym numbers) calls.numbered);
          held = subst (λ (index : ℕ). IsHeldWith given (heap_part seat.mine index).holding) (sym calls.index)
              (held_stays heap given (heap_part seat.mine heap.plain.index).holding calls.pages calls.grown calls.cut hand.held);
          settled = unarmed_settled given.plain.index seat.mine.heard (heap_part seat.mine given.plain.index) sits.unarmed;
          named = named;
          claimed = λ has. claimed;
          marks = λ other apart. calls.marks other (λ same. apart (same ∙ sym sits.who_is));
        };
        pen = keeps_pen heap given calls.own pen calls.index calls.serves calls.history hand.pairs;
      })

  -- the entries are its giver's then
  pub heap_made : (new : Mine) → new ≡ after_give 1 (Heap given pen) seat.mine → new.made ≡ seat.mine.made ++ under 1 calls.own
  heap_made new gave =
      let added : entries_added (value_of 1 seat.mine.held) (Heap given pen) ≡ calls.own =
      ap (λ o. entries_added o (Heap given pen)) held ∙ (ap (λ (l : List Entry). drop (length heap.history) l) calls.history ∙ drop-append_seam heap.history calls.own) in
      ap (λ (m : Mine). m.made) gave ∙ ap (λ (l : List Entry). seat.mine.made ++ under 1 l) added

  pub heap_given : (new : SeatView) → without 1 more ≡ more → new.board ≡ seat.board → new.mine ≡ after_give 1 (Heap given pen) seat.mine → Sits id who after more new
  heap_given new rest here gave =
      let all = heap_made new.mine gave in
      record {
        board_is = here ∙ sits.board_is;
        three = ap (λ (m : Mine). m.opening.participants) gave ∙ sits.three;
        who_is = ap (λ (m : Mine). m.who) gave ∙ sits.who_is;
        held_is = ap (λ (m : Mine). m.held) gave ∙ (ap (without 1) sits.held_is ∙ rest);
        unarmed = ap (λ (m : Mine). m.armed) gave ∙ sits.unarmed;
        placed = subst (All (λ (pair : ℕ × Entry). pair.0 < SLOTS)) (sym all)
            (All-append (λ (pair : ℕ × Entry). pair.0 < SLOTS) seat.mine.made (under 1 calls.own) sits.placed
            (All-map (λ (pair : ℕ × Entry). pair.0 < SLOTS) (λ (entry : Entry). (1, entry)) calls.own (λ k d within. lit< tt)));
        count =
            let long = length-append seat.mine.made (under 1 calls.own) in
            let own : length (under 1 calls.own) ≡ length calls.own = length-map calls.own (λ (entry : Entry). (1, entry)) in
            omega (arith, ap length all, long, own, sits.count, calls.count);
      }

-- NAMES ARE GIVEN

module _ (id : TableId) (who made : ℕ) (more : List (ℕ × Kept)) (seat : SeatView) (names given : NamesView) (sits : Sits id who made ((33, Names names) ∷ more) seat) where
  pub names_gives : (goes : NamesGoOn (seen_of_names names) (seen_of_names given)) → ((zone : Zone) → Contains goes.more_zones (Put zone) → IsAllocated zone.addr (made_in zone.heap seat.mine))
      → AgreeWith (heap_part seat.mine) given → IsGiveAt (knows_of seat.mine) 33 (Names given)
  names_gives goes allocated agree =
      gives_at (knows_of seat.mine) 33 (Names names) (Names given) (ap (value_of 33) sits.held_is) (record {
        naming = ap (λ (l : List (ℕ × Kept)). is_some (value_of 33 l)) sits.held_is;
        names = record { goes_on = goes; allocated = allocated };
        agrees = agree;
      })

  pub names_given : (new : SeatView) → without 33 more ≡ more → new.board ≡ seat.board → new.mine ≡ after_give 33 (Names given) seat.mine → Sits id who made more new
  names_given new rest here gave =
      let none : entries_added (value_of 33 seat.mine.held) (Names given) ≡ [] = ap (λ (l : List (ℕ × Kept)). entries_added (value_of 33 l) (Names given)) sits.held_is in
      let all : new.mine.made ≡ seat.mine.made =
      ap (λ (m : Mine). m.made) gave ∙ (ap (λ (l : List Entry). seat.mine.made ++ under 33 l) none ∙ append-nil seat.mine.made) in
      record {
        board_is = here ∙ sits.board_is;
        three = ap (λ (m : Mine). m.opening.participants) gave ∙ sits.three;
        who_is = ap (λ (m : Mine). m.who) gave ∙ sits.who_is;
        held_is = ap (λ (m : Mine). m.held) gave ∙ (ap (without 33) sits.held_is ∙ rest);
        unarmed = ap (λ (m : Mine). m.armed) gave ∙ sits.unarmed;
        placed = subst (All (λ (pair : ℕ × Entry). pair.0 < SLOTS)) (sym all) sits.placed;
        count = ap length all ∙ sits.count;
      }

-- THE SEGMENT VALUE IS GIVEN, with external memory claimed

module _ (id : TableId) (who made : ℕ) (more : List (ℕ × Kept)) (seat : SeatView) (segs given : SegsView) (sits : Sits id who made ((32, Segments segs) ∷ more) seat)
    (claims : HasClaimed segs given) where
  pub segs_gives : holds_names seat.mine ≡ true → IsGiveAt (knows_of seat.mine) 32 (Segments given)
  segs_gives naming =
      gives_at (knows_of seat.mine) 32 (Segments segs) (Segments given) (ap (value_of 32) sits.held_is) (record {
        more = [];
        log = claims.log ∙ sym (append-nil segs.log);
        form = claims_ranges (record {
          give = record { moved = claims.moved };
          naming = naming;
          released = λ range has. inl (claims.still range has);
        });
      })

  pub segs_given : armed_ask segs who ≡ None → (new : SeatView) → without 32 more ≡ more → new.board ≡ seat.board → new.mine ≡ after_give 32 (Segments given) seat.mine
      → Sits id who made more new
  segs_given none new rest here gave =
      let added : entries_added (value_of 32 seat.mine.held) (Segments given) ≡ [] = ap (λ (l : List (ℕ × Kept)). entries_added (value_of 32 l) (Segments given)) sits.held_is in
      let all : new.mine.made ≡ seat.mine.made =
      ap (λ (m : Mine). m.made) gave ∙ (ap (λ (l : List Entry). seat.mine.made ++ under 32 l) added ∙ append-nil seat.mine.made) in
      let armed : armed_ask given seat.mine.who ≡ None =
      ap (armed_ask given) sits.who_is ∙ (ap (λ (l : List (Option Ask)). armed_ask (record segs { armed = l }) who) claims.armed ∙ none) in
      record {
        board_is = here ∙ sits.board_is;
        three = ap (λ (m : Mine). m.opening.participants) gave ∙ sits.three;
        who_is = ap (λ (m : Mine). m.who) gave ∙ sits.who_is;
        held_is = ap (λ (m : Mine). m.held) gave ∙ (ap (without 32) sits.held_is ∙ rest);
        unarmed = ap (λ (m : Mine). m.armed) gave ∙ armed;
        placed = subst (All (λ (pair : ℕ × Entry). pair.0 < SLOTS)) (sym all) sits.placed;
        count = ap length all ∙ sits.count;
      }

-- who holds the names knows it
pub has_names : (id : TableId) (who made : ℕ) (all : List (ℕ × Kept)) (names : NamesView) (seat : SeatView) → Sits id who made all seat → value_of 33 all ≡ Some (Names names)
    → holds_names seat.mine ≡ true
has_names id who made all names seat sits has = ap is_some (ap (value_of 33) sits.held_is ∙ has)

-- a seat at a new board
pub newcomer_free : (board : BoardView) (who : ℕ) (seat : SeatView) → board.opening.participants ≡ 3 → seat ≡ new_seat board who → IsFree board.id who 0 seat
newcomer_free board who seat three is =
    subst (IsFree board.id who 0) (sym is)
    (record { board_is = refl; three = three; who_is = refl; held_is = refl; unarmed = refl; placed = All-nil (λ (pair : ℕ × Entry). pair.0 < SLOTS); count = refl })

-- who holds nothing comes back so
pub free_back : (id : TableId) (who made : ℕ) (seat : SeatView) → IsFree id who made seat → IsBack id who seat
free_back id who made seat free = record { board_is = free.board_is; three = free.three; who_is = free.who_is; held = free.held_is }

-- who holds nothing before it takes the segment value has no ask in that
pub unarmed_in : (old new : Mine) (kept : Kept) (segs : SegsView) → IsHanded old 32 kept new → kept ≡ Segments segs → new.armed ≡ None → armed_ask segs old.who ≡ None
unarmed_in old new kept segs handed is none =
    let stands = subst (StandsFor old.who (heap_part new)) is handed.stands in
    sym (stands.armed 0) ∙ none
