-- What the participants' rounds rest on: calls of a heap leave it its pages and runs, and so it may be given.
use Rattle.std.proofs.Common.{◌≡◌, ◌∙◌, ℕ, ◌+◌, ◌<◌, false, List, [], ◌∷◌, ◌++◌, drop, length, Option, Some, None, refl, sym, ap, subst, arith, lit<}
use Rattle.std.specs.List.{All}
use Rattle.std.proofs.Math.Seq.{drop-append_seam}
use Rattle.std.proofs.lemmas.List.{append_assoc, append-nil, length-append, length-map}
use Rattle.std.proofs.lemmas.List.Elements.{All-append, All-map}
use Rattle.atomic_table.specs.Seated.{TableId}
use Rattle.hp_base.specs.declared.request.Request.{Request}
use Rattle.hp_base.specs.declared.tag.Caller.{Caller}
use Rattle.hp_base.specs.declared.tag.Tag.{Tag}
use Rattle.hp_heap.proofs.FreeFacts.EntriesLaw.{calls_add_runs}
use Rattle.hp_heap.specs.Freeing.{fault_answer}
use Rattle.hp_heap.specs.History.{HeapView, IsCall, SameButSpare}
use Rattle.hp_heap.specs.HistoryLaws.{run_cut, run_grown, runs_cut, runs_grown}
use Rattle.hp_heap.specs.PlainHeap.{PlainHeap}
use Rattle.hp_heap.specs.Step.{address_answer}
use Rattle.hp_heap.specs.declared.entry.Entry.{Entry}
use Rattle.hp_heap.specs.declared.entry.HeapAnswer.{HeapAnswer}
use Rattle.hp_heap.specs.declared.entry.HeapCall.{HeapCall}
use Rattle.hp_heap.specs.declared.entry.HeapCall.TheVariants as call
use Rattle.hp_heap.specs.declared.freeing.FreeFault.{FreeFault}
use Rattle.hp_hall.specs.Giving.{IsNumbered, entries_made}
use Rattle.hp_hall.specs.Naming.{IsBesideNames, LeavesNames}
use Rattle.hp_hall.proofs.NamesLeft.{call_leaves, leaves_same, leaves_then}
use Rattle.hp_heap.proofs.HistoryFacts.StepLaw.{after-tiled}
use Rattle.hp_heap.specs.Tiling.{IsTiled}
use Rattle.hp_hall.specs.HeapPairs.{ArePairsOf}
use Rattle.hp_hall.specs.Holding.{IsAsPart, IsHeldWith, StandsFor}
use Rattle.hp_hall.specs.declared.kept.Kept.{Kept}
use Rattle.hp_hall.specs.declared.kept.Kept.TheVariants.{Heap}
use Rattle.hp_board.specs.declared.words.TheConstants.{SLOTS}
use Rattle.hp_hall.proofs.Gives.{unarmed_settled}
use Rattle.hp_hall.proofs.HeldPairs.{keeps_pen}
use Rattle.hp_stats.specs.StatViews.{PenView}
use Rattle.hp_board.specs.Giving.{IsGiveAt}
use Rattle.hp_board.specs.Handed.{HasTakenLater, IsHanded}
use Rattle.hp_board.specs.KeptValues.{IsKeptAt, entries_added}
use Rattle.hp_board.specs.Knowing.{heap_part, knows_of}
use Rattle.hp_board.specs.SeatView.{SeatView}
use Rattle.hp_board.specs.Views.{after_give, lines_told, under, value_of, without}
use Rattle.hp_board.specs.declared.view.Mine.{Mine}
use Rattle.hp_board.proofs.Counted.{made_counted}
use Rattle.hp_board.proofs.Gives.{gives_call, gives_heap, held_stays}
use Rattle.hp_board.proofs.Histories.{AddsCalls, AddsHeld, IsNumbered-append}
use Rattle.hp_board.proofs.OwnershipFacts.PagesLeft.{alloc_pages, found_none, free_pages, freed_none}
use Rattle.bench_board.specs.Rounds.{CallsUpTo, IsWorking}

-- CALLS OF A HEAP

-- no call was made
pub none_made : (who made : ℕ) (taken given : HeapView) → SameButSpare taken given → CallsUpTo who made made taken given
none_made who made taken given same = record {
  index = ap (λ (h : PlainHeap). h.index) same.plain;
  serves = ap (λ (h : PlainHeap). h.serves) same.plain;
  own = [];
  history = same.history ∙ sym (append-nil taken.history);
  numbered = tt;
  count = omega arith;
  pages = ap (λ (h : PlainHeap). h.pages) same.plain;
  grown = ap runs_grown same.history;
  cut = ap runs_cut same.history;
  tiled = λ tiled. subst (λ (h : PlainHeap). IsTiled h) (sym same.plain) tiled;
  names = λ tiled. leaves_same who taken.plain given.plain same.plain;
}

-- a call was made by which no page and no run came or went, and which is beside the names
one_made : (who made : ℕ) (taken given : HeapView) (caller : Caller) (made_call : HeapCall) (answer : HeapAnswer) → caller ≡ record { participant = who; number = made + 1 }
    → IsCall caller made_call answer taken given → given.plain.pages ≡ taken.plain.pages → run_grown made_call ≡ [] → run_cut answer ≡ []
    → IsBesideNames made_call taken.plain → CallsUpTo who made (made + 1) taken given
one_made who made taken given caller made_call answer is step pages none_grown none_cut beside =
    let adds = gives_call who made taken given caller made_call answer is step in
    let runs = calls_add_runs caller made_call answer taken given step in
    record {
      index = adds.index;
      serves = adds.serves;
      own = record { caller = caller; call = made_call; answer = answer } ∷ [];
      history = step.history;
      numbered = (is, tt);
      count = refl;
      pages = pages;
      grown = runs.grown ∙ (ap (λ l. runs_grown taken.history ++ l) none_grown ∙ append-nil (runs_grown taken.history));
      cut = runs.cut ∙ (ap (λ l. runs_cut taken.history ++ l) none_cut ∙ append-nil (runs_cut taken.history));
      tiled = λ tiled.
          subst (λ (h : PlainHeap). IsTiled h) (sym step.heap) (after-tiled caller.participant made_call taken.plain tiled step.allowed);
      names = λ tiled.
          subst (λ (c : Caller). LeavesNames c.participant taken.plain given.plain) is (call_leaves caller made_call answer taken given step tiled beside);
    }

-- calls one after another
then_made : (who a b c : ℕ) (taken between given : HeapView) → CallsUpTo who a b taken between → CallsUpTo who b c between given → CallsUpTo who a c taken given
then_made who a b c taken between given first next = record {
  index = next.index ∙ first.index;
  serves = next.serves ∙ first.serves;
  own = first.own ++ next.own;
  history = next.history ∙ (ap (λ (h : List Entry). h ++ next.own) first.history ∙ append_assoc taken.history first.own next.own);
  numbered = IsNumbered-append who a first.own next.own first.numbered (subst (λ (n : ℕ). IsNumbered who n next.own) first.count next.numbered);
  count = omega (arith, length-append first.own next.own, first.count, next.count);
  pages = next.pages ∙ first.pages;
  grown = next.grown ∙ first.grown;
  cut = next.cut ∙ first.cut;
  tiled = λ tiled. next.tiled (first.tiled tiled);
  names = λ tiled. leaves_then who taken.plain between.plain given.plain (first.names tiled) (next.names (first.tiled tiled));
}

-- a heap got room, and its holder allocated and freed
pub two_made : (who made : ℕ) (taken between middle given : HeapView) (first second : Caller) (request : Request) (tag : Tag) (found : Option ℕ) (addr : ℕ) (fault : Option FreeFault)
    → SameButSpare taken between → first ≡ record { participant = who; number = made + 1 } → second ≡ record { participant = who; number = made + 2 }
    → IsCall first (call.Alloc request tag) (address_answer found) between middle → IsCall second (call.Free addr false) (fault_answer fault) middle given
    → tag.zone ≡ false → CallsUpTo who made (made + 2) taken given
two_made who made taken between middle given first second request tag found addr fault same is then-is one two ordinary =
    let later : made + 2 ≡ (made + 1) + 1 = omega arith in
    then_made who made made (made + 2) taken between given (none_made who made taken between same)
    (then_made who made (made + 1) (made + 2) between middle given
    (one_made who made between middle first (call.Alloc request tag) (address_answer found) is one (alloc_pages first request tag (address_answer found) between middle one) refl (found_none found) ordinary)
    (subst (λ (n : ℕ). CallsUpTo who (made + 1) n middle given) (sym later)
    (one_made who (made + 1) middle given second (call.Free addr false) (fault_answer fault) (then-is ∙ ap (λ (n : ℕ). record { participant = who; number = n }) later) two
    (free_pages second addr false (fault_answer fault) middle given two) refl (freed_none fault) refl)))

-- entries of a slot of the board are such
under_placed : (slot : ℕ) (entries : List Entry) → slot < SLOTS → All (λ (pair : ℕ × Entry). pair.0 < SLOTS) (under slot entries)
under_placed slot entries inside = All-map (λ (pair : ℕ × Entry). pair.0 < SLOTS) (λ (entry : Entry). (slot, entry)) entries (λ k d within. inside)

under_length : (slot : ℕ) (entries : List Entry) → length (under slot entries) ≡ length entries
under_length slot entries = length-map entries (λ (entry : Entry). (slot, entry))

-- A ROUND

module _ (id : TableId) (old : SeatView) (made after : ℕ) (working : IsWorking id old.mine.who made old) (first : Mine) (kept : Kept) (heap given : HeapView) (pen : PenView) (handed : IsHanded old.mine 0 kept first)
    (taken : HasTakenLater 0 kept old.mine first) (is : kept ≡ Heap heap pen) (calls : CallsUpTo old.mine.who made after heap given) where
  held : value_of 0 first.held ≡ Some (Heap heap pen)
  held = ap (λ (m : Mine). value_of 0 m.held) taken.view.1 ∙ ap (λ (k : Kept). Some k) is

  made_is : first.made ≡ old.mine.made
  made_is = ap (λ (m : Mine). m.made) taken.view.1

  armed_is : first.armed ≡ None
  armed_is = ap (λ (m : Mine). m.armed) taken.view.1 ∙ working.unarmed

  stands : IsAsPart (heap_part first heap.plain.index) heap
  stands = subst (StandsFor old.mine.who (heap_part first)) is handed.stands

  numbers : entries_made (heap_part first) ≡ made
  numbers = made_counted first (subst (All (λ (pair : ℕ × Entry). pair.0 < SLOTS)) (sym made_is) working.placed) ∙ (ap length made_is ∙ working.count)

  adds : AddsCalls first.who (entries_made (heap_part first)) heap given
  adds = record {
    index = calls.index;
    serves = calls.serves;
    own = calls.own;
    history = calls.history;
    numbered = subst (λ (w : ℕ). IsNumbered w (entries_made (heap_part first)) calls.own) (sym (ap (λ (m : Mine). m.who) taken.view.1))
        (subst (λ (n : ℕ). IsNumbered old.mine.who n calls.own) (sym numbers) calls.numbered);
  }

  pairs : ArePairsOf heap pen
  pairs = (subst (IsKeptAt old.mine.opening 0) is handed.at).pen.pairs

  adds_held : AddsHeld first.who (entries_made (heap_part first)) (record { heap = heap; pen = pen }) (record { heap = given; pen = pen })
  adds_held = record { calls = adds; pen = keeps_pen heap given calls.own pen calls.index calls.serves calls.history pairs }

  has : IsHeldWith given (heap_part first given.plain.index).holding
  has = subst (λ (index : ℕ). IsHeldWith given (heap_part first index).holding) (sym calls.index)
      (held_stays heap given (heap_part first heap.plain.index).holding calls.pages calls.grown calls.cut stands.held)

  names : LeavesNames first.who heap.plain given.plain
  names = subst (λ (w : ℕ). LeavesNames w heap.plain given.plain) (sym (ap (λ (m : Mine). m.who) taken.view.1))
      (calls.names (subst (IsKeptAt old.mine.opening 0) is handed.at).heap.sound.tiled)

  -- the heap may be given
  pub round_gives : IsGiveAt (knows_of first) 0 (Heap given pen)
  round_gives =
      gives_heap first 0 (record { heap = heap; pen = pen }) (record { heap = given; pen = pen }) held adds_held has
      (unarmed_settled given.plain.index first.heard (heap_part first given.plain.index) armed_is) names stands.claimed

  -- and then the participant is ready for the next round
  pub round_done : (new : SeatView) → new.board ≡ id → new.mine ≡ after_give 0 (Heap given pen) first → IsWorking id old.mine.who after new
  round_done new here gave =
      let added : entries_added (value_of 0 first.held) (Heap given pen) ≡ calls.own =
      ap (λ o. entries_added o (Heap given pen)) held ∙ (ap (λ (l : List Entry). drop (length heap.history) l) calls.history ∙ drop-append_seam heap.history calls.own) in
      let all : new.mine.made ≡ old.mine.made ++ under 0 calls.own =
      ap (λ (m : Mine). m.made) gave ∙ (ap (λ (l : List Entry). first.made ++ under 0 l) added ∙ ap (λ (l : List (ℕ × Entry)). l ++ under 0 calls.own) made_is) in
      record {
        board_is = here;
        who_is = ap (λ (m : Mine). m.who) gave ∙ ap (λ (m : Mine). m.who) taken.view.1;
        free = ap (λ (m : Mine). m.held) gave ∙ (ap (λ (m : Mine). without 0 m.held) taken.view.1 ∙ ap (λ h. without 0 ((0, kept) ∷ h)) working.free);
        unarmed = ap (λ (m : Mine). m.armed) gave ∙ armed_is;
        untold = ap lines_told gave ∙ (ap lines_told taken.view.1 ∙ working.untold);
        placed = subst (All (λ (pair : ℕ × Entry). pair.0 < SLOTS)) (sym all)
            (All-append (λ (pair : ℕ × Entry). pair.0 < SLOTS) old.mine.made (under 0 calls.own) working.placed (under_placed 0 calls.own (lit< tt)));
        count =
            let long = length-append old.mine.made (under 0 calls.own) in
            let own = under_length 0 calls.own in
            omega (arith, ap length all, long, own, working.count, calls.count);
      }
