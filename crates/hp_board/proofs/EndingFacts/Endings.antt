-- A board whose every participant has come back and holds nothing has every value at home.
use Rattle.std.proofs.Common.{◌≡◌, ◌≢◌, ℕ, ◌-◌, ◌<◌, ◌≤◌, true, List, [], map, get_or, Option, Some, None, refl, sym, ap, subst, ◌∙◌, arith}
use Rattle.std.specs.List.{Contains, All, flat_map, range_with_len, slice_get}
use Rattle.std.specs.List.Sorted.{IsPermutation}
use Rattle.std.proofs.lemmas.List.Sorted.{IsPermutation-trans}
use Rattle.std.proofs.lemmas.Option.{slice_get-get_or, slice_get_past, slice_get_within}
use Rattle.std.proofs.lemmas.List.Elements.{All-contains}
use mathlib.Core.Logic.{dite}
use mathlib.Core.Option.{some, some-injective}
use native.Mathlib.Decide.{ℕ_discrete}
use lib.ListN.{get_elem?}
use Rattle.atomic_table.specs.Table.{State, Seen, Final}
use Rattle.hp_base.specs.declared.limits.TheConstants.{MAX_HEAPS}
use Rattle.hp_heap.specs.History.{HeapView, entries_of}
use Rattle.hp_segs.specs.SegsView.{SegsView, is_member}
use Rattle.hp_stats.specs.StatViews.{PenView}
use Rattle.hp_segs.specs.Sound.{IsSound}
use Rattle.hp_hall.specs.declared.kept.Kept.{Kept}
use Rattle.hp_hall.specs.declared.kept.Kept.TheVariants.{Heap, Names, Segments}
use Rattle.hp_hall.specs.declared.slot.TheConstants.{NAMES_SLOT}
use Rattle.hp_heap.specs.PlainHeap.{opening_heap}
use Rattle.hp_hall.specs.AgreedNames.{AreAgreedNames}
use Rattle.hp_hall.specs.Named.{IsAllocated}
use Rattle.hp_hall.specs.Naming.{naming_of}
use Rattle.hp_hall.proofs.AgreedAlike.{agree_alike}
use Rattle.hp_board.specs.Agreed.{AreNamesAgreed, naming_in}
use Rattle.hp_zone.specs.declared.names.Names.{Names as NamesView}
use Rattle.hp_zone.specs.declared.zone.Zone.{Zone}
use Rattle.hp_zone.specs.declared.zone.ZoneChange.TheVariants.{Put}
use Rattle.hp_board.proofs.KeptAt.{heap_kept}
use Rattle.hp_board.specs.declared.opening.Opening.{Opening}
use Rattle.hp_board.specs.declared.words.TheConstants.{SLOTS}
use Rattle.hp_board.specs.declared.view.Mine.{Mine}
use Rattle.hp_board.specs.declared.view.View.{View}
use Rattle.hp_board.specs.BoardRule.{IsBoard}
use Rattle.hp_board.specs.BoardView.{BoardView}
use Rattle.hp_board.specs.Agreement.{IsDeclaredRoster}
use Rattle.hp_board.proofs.TakenIn.{HasTakenIn, member_taken}
use Rattle.hp_base.specs.declared.row.Run.{Run}
use Rattle.hp_heap.specs.HistoryLaws.{runs_cut}
use Rattle.hp_segs.specs.Returned.{gone_in}
use Rattle.hp_segs.specs.Standing.{Holding, given_up_by, standing_of}
use Rattle.hp_hall.specs.Holding.{HasHolding}
use Rattle.hp_board.specs.Lines.{AreLines, IsAwaited, StandsBefore}
use Rattle.hp_board.specs.Words.{lines_by}
use Rattle.hp_heap.specs.declared.entry.Entry.{Entry}
use Rattle.std.specs.Prelude.{unwrap_or}
use Rattle.std.specs.Option.{option_map, option_map_or}
use Rattle.hp_board.specs.Closing.{HandedOut, history_at, left_naming, IsFreeSeat, IsAmong, IsLeftIn, IsNotedUpTo, IsReservedIn, AreHeaps, AreLeftNames, AreLeftSegs, AreOwnedAtLast, HaveMoved, KeepCallsOf, KeepsTableOf}
use Rattle.hp_board.specs.MovesKept.{AreAlike, AreMoved, Replays, all_free, holds_in, slots_by}
use Rattle.hp_board.specs.Ownership.{AreOwned, IsOwnedIn}
use Rattle.hp_board.proofs.EndingFacts.MoveChains.{chained, pending_free}
use Rattle.hp_board.proofs.StepsOfSeats.MoveSteps.{replay-alike}
use Rattle.hp_board.proofs.OwnershipFacts.GivenUpRuns.{all_given, given_below, pieces_placed}
use Rattle.hp_board.proofs.OwnershipFacts.OwnedLeft.{all_settled, granted_are, none_open}
use Rattle.hp_board.specs.Lag.{IsLagging}
use Rattle.hp_board.specs.NamesKept.{AreNamed}
use Rattle.hp_board.specs.Words.{ack_word}
use Rattle.hp_board.proofs.OwnershipFacts.TablesLeft.{keeps_table}
use Rattle.hp_board.specs.Gathered.{AreFrom}
use Rattle.hp_board.specs.KeptValues.{IsKeptAt, IsPenAt}
use Rattle.hp_hall.specs.Giving.{IsNumbered}
use Rattle.hp_hall.specs.Values.{history_of, marks_of}
use Rattle.hp_board.specs.SeatView.{SeatView}
use Rattle.hp_board.specs.Views.{value_of, made_in, marked_in, all_made, lines_known, lines_told, noted_of, seen_of, values_of, BeginsWith}
use Rattle.hp_board.proofs.StepsOfSeats.LockSteps.{held_yes}

-- each participant's part is in the view, and holds nothing
pub record HasAll (o : Opening) (view : View) : Type 0 where
  pub each : (who : ℕ) → who < o.participants → (part : Mine) × Contains view.parts part × (part.who ≡ who) × (part.held ≡ [])

-- the view that took in every seat has a part of each participant
pub has_all : (o : Opening) (view : View) (board : BoardView) (seats : List SeatView) → board.opening ≡ o → All (IsFreeSeat board) seats
    → ((who : ℕ) → who < board.opening.participants → IsAmong seats who) → ((seat : SeatView) → Contains seats seat → Contains view.parts seat.mine) → HasAll o view
has_all o view board seats same free everyone parts = record {
  each = λ who may.
      let is = everyone who (subst (λ (p : Opening). who < p.participants) (sym same) may) in
      (is.seat.mine, parts is.seat is.there, is.who_is, (All-contains (IsFreeSeat board) seats is.seat free is.there).holds);
}

module _ (o : Opening) (s : State (Option Kept) View) (board : IsBoard o s) (id : ℕ) (view : View) (at : get_elem? s.views id ≡ some view) where
  -- a part of the view is what its participant knows
  part_known : (part : Mine) → Contains view.parts part → (part.who < o.participants) × (part ≡ board.mine part.who)
  part_known part has = let is = board.seated.part id view part at has in (is.declared, is.known)

  -- every lock word is 0
  free : HasAll o view → (slot : ℕ) → slot < SLOTS → get_or s.words slot 0 ≡ 0
  free all slot within =
      dite (ℕ_discrete (get_or s.words slot 0) 0) (λ zero-now. zero-now) (λ held. absurd (nobody held))
    where
      nobody : get_or s.words slot 0 ≢ 0 → ⊥
      nobody held =
          let low = board.locked.low slot within in
          let who : ℕ = get_or s.words slot 0 - 1 in
          let may : who < o.participants = omega arith in
          let (part, has, is, empty) = all.each who may in
          let known = part_known part has in
          let yes = held_yes who (get_or s.words slot 0) (board.kept slot) (omega arith) in
          let holds : value_of slot part.held ≡ Some (board.kept slot) =
          ap (λ (m : Mine). value_of slot m.held) known.1 ∙ ap (λ (w : ℕ). value_of slot (board.mine w).held) is ∙ board.locked.held who slot may within ∙ yes in
          let none-held : value_of slot part.held ≡ None = ap (value_of slot) empty in
          cc

  -- so every value is at home
  home : HasAll o view → (slot : ℕ) → slot < SLOTS → get_elem? s.homes slot ≡ some (some (Some (board.kept slot)))
  home all slot within = board.locked.home slot within (free all slot within)

-- what the values of a closed table have
pub record IsTold (o : Opening) (view : View) (items : List (Option Kept)) : Type 0 where
  pub kept : ℕ → Kept
  pub mine : ℕ → Mine
  pub words : List ℕ
  pub freed : (slot : ℕ) → slot < SLOTS → get_or words slot 0 ≡ 0
  pub part_is : (part : Mine) → Contains view.parts part → (part.who < o.participants) × (part ≡ mine part.who)
  pub unheld : (who : ℕ) → who < o.participants → (mine who).held ≡ []
  pub owned : AreOwned o.participants words kept mine
  pub moved : AreMoved o words kept mine
  pub values : (slot : ℕ) → slot < SLOTS → get_elem? items slot ≡ some (Some (kept slot))
  pub at : (slot : ℕ) → slot < SLOTS → IsKeptAt o slot (kept slot)
  pub strange : (who slot : ℕ) → o.participants ≤ who → slot < SLOTS → entries_of who (history_of (kept slot)) ≡ []
  pub own : (part : Mine) (slot : ℕ) → Contains view.parts part → slot < SLOTS → entries_of part.who (history_of (kept slot)) ≡ made_in slot part
  pub marks : (part : Mine) (slot : ℕ) → Contains view.parts part → slot < SLOTS → marks_of part.who (kept slot) ≡ marked_in slot part
  pub unmarked : (who slot : ℕ) → o.participants ≤ who → slot < SLOTS → marks_of who (kept slot) ≡ []
  pub seen : (part : Mine) (slot : ℕ) → Contains view.parts part → slot < SLOTS → BeginsWith (history_of (kept slot)) (seen_of slot part)
  pub numbered : (part : Mine) → Contains view.parts part → IsNumbered part.who 0 (all_made part)
  pub segs : SegsView
  pub there : kept MAX_HEAPS ≡ Segments segs
  pub roster : IsDeclaredRoster o.participants segs
  pub lagging : (part : Mine) → Contains view.parts part → IsLagging segs part.who part
  pub agreed : (part : Mine) → Contains view.parts part → HasTakenIn segs part.who part
  pub noted : (part other : Mine) → Contains view.parts part → Contains view.parts other → noted_of other.who part ≤ other.number
  pub lines : AreLines o words kept mine
  pub named : AreNamed o kept mine
  pub agrees : AreNamesAgreed o.participants words kept mine

pub ends : (o : Opening) (id : ℕ) (view : View) (words : List ℕ) (items : List (Option Kept)) → HasAll o view → Final (Seen (IsBoard o) id view) words items → IsTold o view items
ends o id view words items all (s, (board, at), words_are, long, each) = record {
  kept = board.kept;
  mine = board.mine;
  words = s.words;
  freed = λ slot within. free o s board id view at all slot within;
  part_is = λ part has. part_known o s board id view at part has;
  unheld = λ who may.
      let (part, has, is, empty) = all.each who may in
      let known = part_known o s board id view at part has in
      ap (λ (w : ℕ). (board.mine w).held) (sym is) ∙ (ap (λ (m : Mine). m.held) (sym known.1) ∙ empty);
  owned = board.owned;
  moved = board.moved;
  values = λ slot within. each slot (Some (board.kept slot)) (home o s board id view at all slot within);
  at = board.heaps.at;
  strange = board.heaps.strange;
  own = λ part slot has within. let known = part_known o s board id view at part has in
      board.heaps.own part.who slot known.0 within ∙ ap (made_in slot) (sym known.1);
  marks = λ part slot has within. let known = part_known o s board id view at part has in
      board.marked.own part.who slot known.0 within ∙ ap (marked_in slot) (sym known.1);
  unmarked = board.marked.strange;
  seen = λ part slot has within. let known = part_known o s board id view at part has in
      subst (λ (m : Mine). BeginsWith (history_of (board.kept slot)) (seen_of slot m)) (sym known.1) (board.prefixes.seen part.who slot known.0 within);
  numbered = λ part has. let known = part_known o s board id view at part has in
      subst (λ (m : Mine). IsNumbered part.who 0 (all_made m)) (sym known.1) (board.heaps.numbered part.who known.0);
  segs = board.segments.segs;
  there = board.segments.there;
  roster = board.segments.roster;
  lagging = λ part has. let known = part_known o s board id view at part has in
      subst (IsLagging board.segments.segs part.who) (sym known.1) (board.segments.lagging part.who known.0);
  agreed = λ part has. let known = part_known o s board id view at part has in
      subst (HasTakenIn board.segments.segs part.who) (sym known.1) (member_taken o.participants s.words board.kept board.mine board.segments part.who known.0);
  noted = λ part other has has-other.
      let known = part_known o s board id view at part has in
      let known-other = part_known o s board id view at other has-other in
      let low : noted_of other.who part ≤ get_or s.words (ack_word other.who) 0 =
      subst (λ (m : Mine). noted_of other.who m ≤ get_or s.words (ack_word other.who) 0) (sym known.1) ((board.segments.told part.who known.0).noted other.who known-other.0) in
      let word : get_or s.words (ack_word other.who) 0 ≡ other.number = (board.segments.told other.who known-other.0).own ∙ ap (λ (m : Mine). m.number) (sym known-other.1) in
      omega (arith, low, word);
  named = board.named;
  agrees = board.agreed;
  lines = board.lines;
}

module _ (o : Opening) (view : View) (items : List (Option Kept)) (told : IsTold o view items) (out : HandedOut) (from : AreFrom items out) where
  abbrev heaps : List HeapView
  heaps = out.heaps

  abbrev pens : List PenView
  pens = out.pens

  abbrev segs : SegsView
  segs = out.segs

  -- a heap is the value of its slot, with the pen of its place
  is_kept : (slot : ℕ) (heap : HeapView) → slice_get heaps slot ≡ Some heap → (slot < SLOTS) × (pen : PenView) × (told.kept slot ≡ Heap heap pen) × (slice_get pens slot ≡ Some pen)
  is_kept slot heap there =
      let within : slot < SLOTS = let count = from.count in omega (arith, slice_get_within heaps slot heap there) in
      let its = from.each slot heap there in
      let same : Some (told.kept slot) ≡ Some (Heap heap its.pen) =
      some-injective (Some (told.kept slot)) (Some (Heap heap its.pen)) (sym (told.values slot within) ∙ its.there) in
      let kept_is : told.kept slot ≡ Heap heap its.pen = cc in
      (within, its.pen, kept_is, its.its)

  pub heaps_are : AreHeaps o heaps pens
  heaps_are = record {
    count = from.count;
    pen_count = from.pen_count;
    at = λ slot heap there. let is = is_kept slot heap there in (subst (IsKeptAt o slot) is.2 (told.at slot is.0)).heap;
    pen_at = λ slot heap pen there its.
        let is = is_kept slot heap there in
        let both : Some is.1 ≡ Some pen = sym is.3 ∙ its in
        let same : is.1 ≡ pen = cc in
        subst (IsPenAt o slot heap) same (subst (IsKeptAt o slot) is.2 (told.at slot is.0)).pen;
    strange = λ who slot heap strange there. let is = is_kept slot heap there in ap (λ k. entries_of who (history_of k)) (sym is.2) ∙ told.strange who slot strange is.0;
    unmarked = λ who slot heap strange there. let is = is_kept slot heap there in ap (marks_of who) (sym is.2) ∙ told.unmarked who slot strange is.0;
  }

  -- the history at a place is that of the slot's value
  history_is : (slot : ℕ) (kept : Kept) → slot < SLOTS → told.kept slot ≡ kept → IsKeptAt o slot kept → history_at heaps slot ≡ history_of (told.kept slot)
  history_is slot (Heap heap pen) within is at =
      let below = at.heap.below in
      let there : slice_get heaps slot ≡ Some (get_or heaps slot heap) = slice_get-get_or heaps slot heap (let count = from.count in omega (arith, count, below)) in
      ap (λ o. unwrap_or (option_map (λ heap. heap.history) o) []) there ∙ ap history_of (sym (is_kept slot (get_or heaps slot heap) there).2)
  history_is slot (Segments other) within is at =
      let last = at.last in
      ap (λ o. unwrap_or (option_map (λ heap. heap.history) o) []) (slice_get_past heaps slot (let count = from.count in omega (arith, count, last))) ∙ ap history_of (sym is)
  history_is slot (Names names) within is at =
      let last = at.last in
      ap (λ o. unwrap_or (option_map (λ heap. heap.history) o) []) (slice_get_past heaps slot (let count = from.count in omega (arith, count, last))) ∙ ap history_of (sym is)

  pub noted_are : (part other : Mine) → Contains view.parts part → Contains view.parts other → IsNotedUpTo heaps part other
  noted_are part other has has-other =
      let its = told.part_is part has in
      let their = told.part_is other has-other in
      record {
        number = told.noted part other has has-other;
        lines =
            let low = subst (λ (m : Mine). lines_known other.who m ≤ lines_by told.words other.who) (sym its.1) (told.lines.known part.who other.who its.0 their.0) in
            let word : lines_by told.words other.who ≡ lines_told other = told.lines.told other.who their.0 ∙ ap lines_told (sym their.1) in
            omega (arith, low, word);
        awaited = λ awaited among.
            let is : IsAwaited (λ slot. history_of (told.kept slot)) part other awaited =
            subst (λ (m : Mine). IsAwaited (λ slot. history_of (told.kept slot)) m other awaited) (sym its.1)
            (subst (λ (m : Mine). IsAwaited (λ slot. history_of (told.kept slot)) (told.mine part.who) m awaited) (sym their.1)
            (told.lines.awaited part.who other.who awaited its.0 their.0 (subst (λ (m : Mine). Contains m.awaited (other.who, awaited)) its.1 among))) in
            record {
              mark = is.mark;
              told = is.told;
              lines = is.lines;
              before = λ slot within.
                  subst (λ (l : List Entry). StandsBefore slot l part other is.mark awaited) (sym (history_is slot (told.kept slot) within refl (told.at slot within))) (is.before slot within);
              taken = is.taken;
            };
      }

  pub calls_are : (part : Mine) → Contains view.parts part → KeepCallsOf heaps part
  calls_are part has = record {
    own = λ slot heap there. let is = is_kept slot heap there in ap (λ k. entries_of part.who (history_of k)) (sym is.2) ∙ told.own part slot has is.0;
    marks = λ slot heap there. let is = is_kept slot heap there in ap (marks_of part.who) (sym is.2) ∙ told.marks part slot has is.0;
    seen = λ slot heap there. let is = is_kept slot heap there in subst (λ k. BeginsWith (history_of k) (seen_of slot part)) is.2 (told.seen part slot has is.0);
    numbered = told.numbered part has;
  }

  -- the segment value is that of the last slot
  segs_is : told.segs ≡ segs
  segs_is =
      let same : Some (told.kept MAX_HEAPS) ≡ Some (Segments segs) =
      some-injective (Some (told.kept MAX_HEAPS)) (Some (Segments segs)) (sym (told.values MAX_HEAPS (omega arith)) ∙ from.segs) in
      let there = told.there in
      cc

  segs_sound : IsSound segs
  segs_sound = (subst (IsKeptAt o MAX_HEAPS) (told.there ∙ ap (λ (s : SegsView). Segments s) segs_is) (told.at MAX_HEAPS (omega arith))).sound

  roster_is : IsDeclaredRoster o.participants segs
  roster_is = subst (IsDeclaredRoster o.participants) segs_is told.roster

  taken_in : (part : Mine) → Contains view.parts part → HasTakenIn segs part.who part
  taken_in part has = subst (λ (s : SegsView). HasTakenIn s part.who part) segs_is (told.agreed part has)

  pub segs_are : (seats : List SeatView) → ((who : ℕ) → who < o.participants → IsAmong seats who)
      → ((seat : SeatView) → Contains seats seat → Contains view.parts seat.mine) → AreLeftSegs o seats segs
  segs_are seats everyone among = record {
    sound = segs_sound;
    roster = roster_is;
    agreed = λ number its entry generation member has granted is.
        let one = everyone member (roster_is member is) in
        let taken = taken_in one.seat.mine (among one.seat one.there) in
        let low = taken.granted (subst (λ (n : ℕ). is_member segs.roster n ≡ true) (sym one.who_is) is) entry generation has granted in
        let same : number member ≡ one.seat.mine.number = ap number (sym one.who_is) ∙ its one.seat one.there in
        omega (arith, low, same);
  }

  pub tables_are : (part : Mine) → Contains view.parts part → part.held ≡ [] → KeepsTableOf segs part
  tables_are part has free =
      keeps_table segs part segs_sound (subst (λ (s : SegsView). IsLagging s part.who part) segs_is (told.lagging part has))
      (taken_in part has) free

  -- so is that of which ownership speaks
  owned_is : told.owned.segs ≡ segs
  owned_is =
      let both : Segments told.segs ≡ Segments told.owned.segs = sym told.there ∙ told.owned.there in
      let same : told.segs ≡ told.owned.segs = cc in
      sym same ∙ segs_is

  owned_sound : IsSound told.owned.segs
  owned_sound = subst IsSound (sym owned_is) segs_sound

  heap_has : (slot : ℕ) (heap : HeapView) → slice_get heaps slot ≡ Some heap → HasHolding heap (standing_of slot told.owned.segs)
  heap_has slot heap there =
      let is = is_kept slot heap there in
      subst (IsOwnedIn told.owned.segs slot) is.2 (told.owned.home slot is.0 (told.freed slot is.0))

  -- the runs that were cut are those that were given up
  cut_is : flat_map (λ (heap : HeapView). runs_cut heap.history) heaps ≡ flat_map (λ (slot : ℕ). given_up_by slot told.owned.segs.retired) (range_with_len 0 MAX_HEAPS)
  cut_is =
      pieces_placed (λ (heap : HeapView). runs_cut heap.history) (λ (slot : ℕ). given_up_by slot told.owned.segs.retired) 0 heaps
      (λ place heap there. (heap_has place heap there).cut ∙ ap (λ (slot : ℕ). given_up_by slot told.owned.segs.retired) (omega arith))
      ∙ ap (λ (n : ℕ). flat_map (λ (slot : ℕ). given_up_by slot told.owned.segs.retired) (range_with_len 0 n)) from.count

  gone_are : IsPermutation (flat_map (λ (heap : HeapView). runs_cut heap.history) heaps) (gone_in told.owned.segs)
  gone_are =
      let retired = told.owned.segs.retired in
      let pieces : List Run = flat_map (λ (slot : ℕ). given_up_by slot retired) (range_with_len 0 MAX_HEAPS) in
      subst (λ (l : List Run). IsPermutation l (gone_in told.owned.segs)) (sym cut_is)
      (IsPermutation-trans pieces (map (λ (given : ℕ × Run). given.1) retired) (gone_in told.owned.segs)
      (all_given MAX_HEAPS retired (given_below MAX_HEAPS retired (λ heap high. ap (λ (h : Holding). h.retired) (told.owned.none heap high)))) owned_sound.returned)

  pub owned_are : (seats : List SeatView) → ((seat : SeatView) → Contains seats seat → Contains view.parts seat.mine) → AreOwnedAtLast seats heaps segs
  owned_are seats among =
      subst (AreOwnedAtLast seats heaps) owned_is (record {
        has = heap_has;
        granted = λ slot heap there.
            (heap_has slot heap there).grown ∙ granted_are o.participants told.words told.kept told.mine told.owned told.unheld owned_sound slot;
        gone = gone_are;
        growth = none_open o.participants told.words told.kept told.mine told.owned told.unheld owned_sound;
        armed = λ seat there.
            let its = told.part_is seat.mine (among seat there) in
            (told.owned.owners seat.mine.who its.0).armed ∙ ap (λ (m : Mine). m.armed) (sym its.1);
        settled = all_settled o.participants told.words told.kept told.mine told.owned told.unheld owned_sound;
        none = told.owned.none;
      })

  -- the names are those of their slot
  names_is : told.named.names ≡ out.names
  names_is =
      let same : Some (told.kept NAMES_SLOT) ≡ Some (Names out.names) =
      some-injective (Some (told.kept NAMES_SLOT)) (Some (Names out.names)) (sym (told.values NAMES_SLOT (omega arith)) ∙ from.names) in
      let there = told.named.there in
      cc

  -- each zone lies where an allocation was answered
  reserved_in : (zone : Zone) → zone.heap < MAX_HEAPS → IsAllocated zone.addr (history_of (told.kept zone.heap)) → IsReservedIn heaps zone
  reserved_in zone below is =
      let kept = heap_kept o zone.heap (told.kept zone.heap) below (told.at zone.heap (omega (arith, below))) in
      let heap : HeapView = get_or heaps zone.heap kept.0.heap in
      let there : slice_get heaps zone.heap ≡ Some heap = slice_get-get_or heaps zone.heap kept.0.heap (let count = from.count in omega (arith, count, below)) in
      record {
        heap = heap;
        there = there;
        allocated = subst (λ (v : Kept). IsAllocated zone.addr (history_of v)) (is_kept zone.heap heap there).2 is;
      }

  -- they agree with the heaps and with the external memory that is claimed
  agreed_names : told.agrees.names ≡ out.names
  agreed_names =
      let same : Some (told.kept NAMES_SLOT) ≡ Some (Names out.names) =
      some-injective (Some (told.kept NAMES_SLOT)) (Some (Names out.names)) (sym (told.values NAMES_SLOT (omega arith)) ∙ from.names) in
      let there = told.agrees.there in
      cc

  agreed_segs : told.agrees.segs ≡ segs
  agreed_segs =
      let both : Segments told.agrees.segs ≡ Segments told.segs = sym told.agrees.segs_there ∙ told.there in
      let same : told.agrees.segs ≡ told.segs = cc in
      same ∙ segs_is

  naming_is : (slot : ℕ) → slot < MAX_HEAPS → left_naming heaps slot ≡ naming_in (told.kept slot)
  naming_is slot below =
      let kept = heap_kept o slot (told.kept slot) below (told.at slot (omega (arith, below))) in
      let heap : HeapView = get_or heaps slot kept.0.heap in
      let there : slice_get heaps slot ≡ Some heap = slice_get-get_or heaps slot kept.0.heap (let count = from.count in omega (arith, count, below)) in
      ap (λ (h : Option HeapView). option_map_or (λ heap. naming_of heap.plain) h (naming_of (opening_heap slot None))) there
      ∙ ap naming_in (sym (is_kept slot heap there).2)

  names_agree : AreAgreedNames out.names (left_naming heaps) segs.ranges
  names_agree =
      subst (λ (n : NamesView). AreAgreedNames n (left_naming heaps) segs.ranges) agreed_names
      (agree_alike told.agrees.names (λ slot. naming_in (told.kept slot)) (left_naming heaps) segs.ranges naming_is
      (subst (λ (s : SegsView). AreAgreedNames told.agrees.names (λ slot. naming_in (told.kept slot)) s.ranges) agreed_segs
      (told.agrees.home (told.freed NAMES_SLOT (omega arith)))))

  pub names_are : (seats : List SeatView) → ((seat : SeatView) → Contains seats seat → Contains view.parts seat.mine) → AreLeftNames o seats heaps segs out.names
  names_are seats among =
      let at = subst (IsKeptAt o NAMES_SLOT) (told.named.there ∙ ap (λ (n : NamesView). Names n) names_is) (told.at NAMES_SLOT (omega arith)) in
      record {
        zones = at.zones;
        directory = at.heaps;
        sockets = at.sockets;
        zones_seen = λ seat there.
            let its = told.part_is seat.mine (among seat there) in
            subst (λ (n : NamesView). BeginsWith n.zones.log seat.mine.zones) names_is
            (subst (λ (m : Mine). BeginsWith told.named.names.zones.log m.zones) (sym its.1) (told.named.zones seat.mine.who its.0));
        names_seen = λ seat there.
            let its = told.part_is seat.mine (among seat there) in
            subst (λ (n : NamesView). BeginsWith n.heaps.log seat.mine.names) names_is
            (subst (λ (m : Mine). BeginsWith told.named.names.heaps.log m.names) (sym its.1) (told.named.heaps seat.mine.who its.0));
        reserved = λ zone has.
            let was = told.named.reserved zone (subst (λ (n : NamesView). Contains n.zones.log (Put zone)) (sym names_is) has) in
            reserved_in zone was.below was.allocated;
        agreed = names_agree;
      }

  -- who held each slot
  left_by : (slot : ℕ) (kept : Kept) → slot < SLOTS → told.kept slot ≡ kept → IsKeptAt o slot kept → IsLeftIn out slot kept
  left_by slot (Heap heap pen) within is at =
      let below = at.heap.below in
      let there : slice_get heaps slot ≡ Some (get_or heaps slot heap) = slice_get-get_or heaps slot heap (let count = from.count in omega (arith, count, below)) in
      let its = is_kept slot (get_or heaps slot heap) there in
      let both : Heap heap pen ≡ Heap (get_or heaps slot heap) its.1 = sym is ∙ its.2 in
      let same : heap ≡ get_or heaps slot heap = cc in
      let pen_is : pen ≡ its.1 = cc in
      (there ∙ ap (λ (h : HeapView). Some h) (sym same), its.3 ∙ ap (λ (p : PenView). Some p) (sym pen_is))
  left_by slot (Segments other) within is at =
      let both : Segments other ≡ Segments told.segs = sym is ∙ (ap told.kept at.last ∙ told.there) in
      let same : other ≡ told.segs = cc in
      same ∙ segs_is
  left_by slot (Names names) within is at =
      let both : Names names ≡ Names told.named.names = sym is ∙ (ap told.kept at.last ∙ told.named.there) in
      let same : names ≡ told.named.names = cc in
      same ∙ names_is

  own_moves : (part : Mine) → Contains view.parts part → values_of part.who told.moved.moves ≡ part.moves
  own_moves part has =
      let its = told.part_is part has in
      told.moved.own part.who its.0 ∙ ap (λ (m : Mine). m.moves) (sym its.1)

  all_home : AreAlike (slots_by told.kept told.words) (all_free told.kept)
  all_home = record { value = λ slot within. refl; word = λ slot within. sym (told.freed slot within) }

  whole : Replays (all_free told.moved.first) told.moved.moves (all_free told.kept)
  whole = replay-alike (all_free told.moved.first) (slots_by told.kept told.words) (all_free told.kept) told.moved.moves told.moved.replay all_home

  pub moved_are : (seats : List SeatView) → ((seat : SeatView) → Contains seats seat → Contains view.parts seat.mine) → HaveMoved o seats out
  moved_are seats among = record {
    first = told.moved.first;
    last = told.kept;
    moves = told.moved.moves;
    opened = told.moved.opened;
    left = λ slot within. left_by slot (told.kept slot) within refl (told.at slot within);
    replay = whole;
    chain = λ slot within.
        let has = chained slot within (all_free told.kept) told.moved.moves (all_free told.moved.first) whole in
        record {
          holds = has.holds;
          chain = has.chain;
          own = λ who.
              has.own who ∙ ap (λ pending. holds_in who slot pending (values_of who told.moved.moves)) (pending_free slot told.moved.first who);
        };
    own = λ seat there. own_moves seat.mine (among seat there);
    strange = told.moved.strange;
  }
