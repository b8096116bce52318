-- A try of a lock word keeps the rule: the slot is taken, or its word is found held.
use Rattle.std.proofs.Common.{⊎_elim, false, ◌≡◌, ◌≢◌, ℕ, ◌+◌, ◌<◌, ◌≤◌, List, length, get_or, set, Option, Some, None, refl, sym, ap, subst, ◌∙◌, arith, length-set}
use Rattle.std.proofs.lemmas.Bool.{false≢true}
use mathlib.Core.Option.{some, none}
use lib.ListN.{get_elem?}
use lib.Seq.{set-get_or}
use prog.Atomic.{either}
use Rattle.atomic_table.specs.Table.{step, keeps, takes, Allows}
use Rattle.atomic_table.proofs.Lists.{exchanged}
use Rattle.hp_hall.specs.declared.kept.Kept.{Kept}
use Rattle.hp_board.specs.declared.opening.Opening.{Opening}
use Rattle.hp_board.specs.declared.words.TheConstants.{SLOTS}
use Rattle.hp_board.specs.declared.view.Mine.{Mine}
use Rattle.hp_board.specs.BoardRule.{IsBoard}
use Rattle.hp_board.specs.KeptValues.{IsKeptAt}
use Rattle.hp_base.specs.declared.chunk.Chunk.{Chunk}
use Rattle.hp_hall.specs.AgreedNames.{AreAgreedNames, AreClaimedOr, chunk_memory}
use Rattle.hp_hall.specs.Values.{chunks_of, history_of, marks_of}
use Rattle.hp_hall.proofs.ClaimedChunks.{claimed_all}
use Rattle.hp_board.specs.Claimed.{IsWithNames}
use Rattle.hp_segs.specs.declared.external_range.ExternalRange.{ExternalRange}
use Rattle.std.specs.List.{Contains}
use Rattle.hp_hall.specs.declared.kept.Kept.TheVariants.{Heap, Names, Segments}
use Rattle.hp_board.specs.Seated.{IsSeatedAt}
use Rattle.hp_board.specs.Words.{done_word}
use Rattle.hp_board.proofs.StepsOfSeats.ClaimedSteps.{claimed_same, claimed_take, marks_are_claimed, marks_are_named}
use Rattle.hp_board.proofs.StepsOfSeats.SegsSteps.{agreed_part, lag_part, segs_look, segs_take}
use Rattle.hp_board.specs.Steps.{Sat, Tries}
use Rattle.hp_board.specs.Views.{Learned, claims_taken, namings_taken, value_of, made_in, marked_in, seen_of, BeginsWith, after_take, after_look}
use Rattle.hp_board.specs.Parts.{part_of, one_part}
use Rattle.hp_board.specs.Handed.{GoesOnFrom, IsHanded, IsHeldWord}
use Rattle.hp_hall.specs.Holding.{StandsFor}
use Rattle.hp_hall.specs.Naming.{Naming}
use Rattle.hp_hall.specs.declared.slot.TheConstants.{NAMES_SLOT}
use Rattle.hp_zone.specs.declared.names.Names.{Names as NamesView}
use Rattle.hp_board.specs.Agreed.{AreNamesAgreed, naming_in}
use Rattle.hp_hall.specs.Values.{HasClaimed, HasMember}
use Rattle.hp_segs.specs.SegsView.{SegsView}
use Rattle.hp_segs.specs.SettledAsks.{IsSettled}
use Rattle.hp_segs.specs.Standing.{Holding, standing_of}
use Rattle.hp_segs.specs.declared.ask.Ask.{Ask}
use Rattle.hp_board.specs.Knowing.{heap_part, holds_heap}
use Rattle.hp_board.specs.Lag.{IsLagging}
use Rattle.hp_board.specs.declared.view.Move.TheVariants as moved_by
use Rattle.hp_board.specs.MovesKept.{AreMoved}
use Rattle.hp_board.specs.Ownership.{IsOwnedIn, IsOwner}
use Rattle.hp_board.proofs.StepsOfSeats.AgreedSteps.{agreed_rises}
use Rattle.hp_board.proofs.EndingFacts.GoodMoves.{good_kept}
use Rattle.hp_board.proofs.OwnershipFacts.Holders.{holds_no, holds_yes}
use Rattle.hp_board.proofs.StepsOfSeats.LagSteps.{lag_take}
use Rattle.hp_board.proofs.Learned.{heap_claims, heap_stands, mapped_held, segs_stand}
use Rattle.hp_board.proofs.StepsOfSeats.MarkSteps.{marked_same}
use Rattle.hp_board.proofs.StepsOfSeats.MoveSteps.{moved_one, moved_same, taken_slots}
use Rattle.hp_board.proofs.LinesMade.{lines_same, lines_take}
use Rattle.hp_board.proofs.StepsOfSeats.NamesSteps.{named_same, named_take}
use Rattle.hp_board.proofs.StepsOfSeats.NamingSteps.{agreed_same, claims_known, learns, names_known, naming_known, namings_at}
use Rattle.hp_board.proofs.NamesFacts.NamingGives.{agreed_take}
use Rattle.hp_board.proofs.StepsOfSeats.OwnedSteps.{owned_same, owned_take, owner_part}
use Rattle.hp_board.proofs.StepsOfSeats.OwnerSteps.{owner_take}
use Rattle.hp_board.proofs.Pairs.{value_of-here}
use Rattle.hp_board.proofs.TakenIn.{HasTakenIn}
use Rattle.hp_board.proofs.Updates.{with_at}
use Rattle.hp_board.proofs.StepsOfSeats.LockSteps.{held_yes, held_no, locked_take}
use Rattle.hp_board.proofs.StepsOfSeats.HeapSteps.{kept_same}
use Rattle.hp_board.proofs.StepsOfSeats.PrefixSteps.{seen_look, seen_take}
use Rattle.hp_board.proofs.StepsOfSeats.SeatSteps.{seated_step}
use Rattle.hp_board.proofs.BoardParts.{BoardState, state, Goes, who_is, one_segs, owned_sound, its, in_words}
use Rattle.hp_board.proofs.Updates.{each}
use Rattle.hp_board.specs.Locks.{AreLocked, held_by}
use Rattle.hp_board.specs.SegsKept.{AreSegs}
use Rattle.std.proofs.Common.{eqb}

module _ (opening : Opening) (s : BoardState) (board : IsBoard opening s) (id slot : ℕ) (inside : slot < SLOTS) (part : Mine)
    (at : get_elem? s.views id ≡ some (one_part part)) where
  seat : IsSeatedAt opening.participants board.seat_of board.mine id part
  seat = its opening s board id part at

  -- what the segment value has for the slot's heap, and the view of who takes that
  abbrev holding : Holding
  holding = standing_of slot board.owned.segs

  -- and what the names speak of, if it takes these
  abbrev learned : Learned
  learned = learns holding (namings_at board.kept) board.agreed.segs.ranges

  abbrev taker : Mine
  taker = after_take slot (board.kept slot) learned part

  taker_owner : IsOwner board.owned.segs part.who taker
  taker_owner =
      owner_take board.owned.segs part.who part (owner_part opening s.words board.kept board.mine board.owned part seat.known seat.declared) (namings_at board.kept)
      board.agreed.segs.ranges opening slot (board.kept slot)
      (board.heaps.at slot inside)

  taker_lag : IsLagging board.owned.segs part.who taker
  taker_lag =
      subst (λ (v : SegsView). IsLagging v part.who taker) (one_segs opening s board)
      (lag_take board.segments.segs part.who part (lag_part opening s.words board.kept board.mine board.segments part seat.known seat.declared) opening slot (board.kept slot) learned
      (board.heaps.at slot inside) (λ same. ap board.kept same ∙ board.segments.there))

  taker_agreed : HasTakenIn board.owned.segs part.who taker
  taker_agreed =
      subst (λ (v : SegsView). HasTakenIn v part.who taker) (one_segs opening s board)
      (agreed_rises board.segments.segs part.who part taker (omega arith) (agreed_part opening s.words board.kept board.mine board.segments part seat.known seat.declared))

  opened_is : part.opening ≡ opening
  opened_is = ap (λ (m : Mine). m.opening) seat.known ∙ board.prefixes.opened part.who seat.declared

  -- what a taker learns of ownership
  unheld : get_or s.words slot 0 ≡ 0 → value_of slot part.held ≡ None
  unheld free =
      ap (λ (m : Mine). value_of slot m.held) seat.known
      ∙ (board.locked.held part.who slot seat.declared inside ∙ held_no part.who (get_or s.words slot 0) (board.kept slot) (λ same. omega (arith, same, free)))

  stands : get_or s.words slot 0 ≡ 0 → StandsFor part.who (heap_part taker) (board.kept slot)
  stands free = by (board.kept slot) (board.heaps.at slot inside) refl
    where
      by : (kept : Kept) → IsKeptAt opening slot kept → board.kept slot ≡ kept → StandsFor part.who (heap_part taker) (board.kept slot)
      by (Heap heap pen) at is =
          subst (StandsFor part.who (heap_part taker)) (sym is)
          (heap_stands board.owned.segs part.who taker (owned_sound opening s board) taker_owner opening slot heap opened_is at.heap
          (holds_yes slot taker (board.kept slot) at.heap.below (value_of-here slot (board.kept slot) part.held))
          (subst (IsOwnedIn board.owned.segs slot) is (board.owned.home slot inside free))
          (λ naming knows.
          let its : value_of slot (board.mine part.who).namings ≡ Some naming =
          ap (λ (m : Mine). value_of slot m.namings) (sym seat.known)
          ∙ (ap (λ (v : Kept). value_of slot (namings_taken v learned part.namings)) (sym is)
          ∙ (ap (λ (k : ℕ). (heap_part taker k).naming) (sym at.heap.index) ∙ knows)) in
          ap naming_in (sym is)
          ∙ naming_known opening.participants s.words board.kept board.mine board.agreed part.who slot naming seat.declared at.heap.below its)
          (λ claims chunk knows has.
          let its : (board.mine part.who).claims ≡ Some claims =
          ap (λ (m : Mine). m.claims) (sym seat.known) ∙ (ap (λ (v : Kept). claims_taken v learned part.claims) (sym is) ∙ knows) in
          let both : Segments board.claimed.segs ≡ Segments board.agreed.segs = sym board.claimed.there ∙ board.agreed.segs_there in
          let one : board.claimed.segs ≡ board.agreed.segs = cc in
          let same : board.claimed.segs.ranges ≡ claims =
          ap (λ (v : SegsView). v.ranges) one
          ∙ claims_known opening.participants s.words board.kept board.mine board.agreed part.who claims seat.declared its in
          subst (λ (l : List ExternalRange). Contains l (chunk_memory chunk)) same
          (claimed_all (IsWithNames s.words slot) board.claimed.segs.ranges heap.plain.chunks (λ hand. hand.0 free)
          (subst (λ (v : Kept). AreClaimedOr (IsWithNames s.words slot) board.claimed.segs.ranges (chunks_of v)) is
          (board.claimed.chunks slot at.heap.below)) chunk has)))
      by (Segments other) at is =
          let same : Segments other ≡ Segments board.owned.segs = sym is ∙ (ap board.kept at.last ∙ board.owned.there) in
          subst (StandsFor part.who (heap_part taker)) (sym (is ∙ same))
          (segs_stand board.owned.segs part.who taker (owned_sound opening s board) taker_owner refl board.owned.armed board.owned.pending
          (λ claims knows.
          let its : (board.mine part.who).claims ≡ Some claims =
          ap (λ (m : Mine). m.claims) (sym seat.known) ∙ (ap (λ (v : Kept). claims_taken v learned part.claims) (sym is) ∙ knows) in
          let both : Segments board.owned.segs ≡ Segments board.agreed.segs = sym board.owned.there ∙ board.agreed.segs_there in
          let one : board.owned.segs ≡ board.agreed.segs = cc in
          ap (λ (v : SegsView). v.ranges) one
          ∙ claims_known opening.participants s.words board.kept board.mine board.agreed part.who claims seat.declared its)
          (λ heap chunk below has.
          let marks : Contains (marks_of part.who (board.kept heap)) chunk =
          subst (λ (l : List Chunk). Contains l chunk)
          (ap (marked_in heap) seat.known ∙ sym (board.marked.own part.who heap seat.declared (omega (arith, below)))) has in
          let both : Segments board.owned.segs ≡ Segments board.claimed.segs = sym board.owned.there ∙ board.claimed.there in
          let one : board.owned.segs ≡ board.claimed.segs = cc in
          subst (λ (v : SegsView). Contains v.ranges (chunk_memory chunk)) (sym one)
          (marks_are_claimed s.words board.kept board.claimed part.who heap below chunk marks))
          (λ heap naming chunk below knows has.
          let its : value_of heap (board.mine part.who).namings ≡ Some naming =
          ap (λ (m : Mine). value_of heap m.namings) (sym seat.known)
          ∙ (ap (λ (v : Kept). value_of heap (namings_taken v learned part.namings)) (sym is) ∙ knows) in
          let marks : Contains (marks_of part.who (board.kept heap)) chunk =
          subst (λ (l : List Chunk). Contains l chunk)
          (ap (marked_in heap) seat.known ∙ sym (board.marked.own part.who heap seat.declared (omega (arith, below)))) has in
          subst (λ (n : Naming). Contains n.chunks chunk)
          (naming_known opening.participants s.words board.kept board.mine board.agreed part.who heap naming seat.declared below its)
          (marks_are_named part.who (board.kept heap) chunk marks)))
      by (Names names) at is =
          let both : Names names ≡ Names board.agreed.names = sym is ∙ (ap board.kept at.last ∙ board.agreed.there) in
          let same : names ≡ board.agreed.names = cc in
          let home : get_or s.words NAMES_SLOT 0 ≡ 0 = ap (λ (k : ℕ). get_or s.words k 0) (sym at.last) ∙ free in
          subst (StandsFor part.who (heap_part taker)) (sym is) (record {
            namings = λ heap. naming_in (board.kept heap);
            claims = board.agreed.segs.ranges;
            known = λ heap below.
                ap (λ (v : Kept). value_of heap (namings_taken v learned part.namings)) is ∙ names_known board.kept heap below;
            claimed = λ heap. ap (λ (v : Kept). claims_taken v learned part.claims) is;
            agreed = subst (λ (n : NamesView). AreAgreedNames n (λ heap. naming_in (board.kept heap)) board.agreed.segs.ranges) (sym same) (board.agreed.home home);
          })

  claimed : get_or s.words slot 0 ≡ 0 → HasClaimed taker.heard (heap_part taker) (board.kept slot)
  claimed free = by (board.kept slot) (board.heaps.at slot inside) refl
    where
      settled : (ask : Ask) → part.armed ≡ Some ask → ask.heap ≡ slot → IsSettled ask.from ask.number board.owned.segs
      settled ask is same =
          ⊎_elim (λ was. was)
          (λ holds.
          let none-held : holds_heap ask.heap part ≡ false = ap (λ (k : ℕ). holds_heap k part) same ∙ holds_no slot part (unheld free) in
          absurd (false≢true (sym none-held ∙ holds)))
          ((owner_part opening s.words board.kept board.mine board.owned part seat.known seat.declared).asking ask is)

      by : (kept : Kept) → IsKeptAt opening slot kept → board.kept slot ≡ kept → HasClaimed taker.heard (heap_part taker) (board.kept slot)
      by (Heap heap pen) at is =
          subst (HasClaimed taker.heard (heap_part taker)) (sym is)
          (heap_claims board.owned.segs part.who taker (owned_sound opening s board) taker_owner slot heap at.heap.index
          (holds_yes slot taker (board.kept slot) at.heap.below (value_of-here slot (board.kept slot) part.held)) board.owned.armed taker_lag.heard settled)
      by (Segments other) at is = subst (HasClaimed taker.heard (heap_part taker)) (sym is) tt
      by (Names names) at is = subst (HasClaimed taker.heard (heap_part taker)) (sym is) tt

  -- what a taker learns
  handed : get_or s.words slot 0 ≡ 0 → IsHanded part slot (board.kept slot) taker
  handed free =
      let known = seat.known in
      record {
        stands = stands free;
        claimed = claimed free;
        mapped = mapped_held board.owned.segs part.who taker (owned_sound opening s board) taker_owner refl taker_lag taker_agreed;
        at = subst (λ o. IsKeptAt o slot (board.kept slot)) (sym (ap (λ (m : Mine). m.opening) known ∙ board.prefixes.opened part.who seat.declared)) (board.heaps.at slot inside);
        own = board.heaps.own part.who slot seat.declared inside ∙ ap (made_in slot) (sym known);
        marks = board.marked.own part.who slot seat.declared inside ∙ ap (marked_in slot) (sym known);
        seen = subst (λ (m : Mine). BeginsWith (history_of (board.kept slot)) (seen_of slot m)) (sym known) (board.prefixes.seen part.who slot seat.declared inside);
        free = unheld free;
        front = front_by (board.kept slot) (board.heaps.at slot inside) refl;
        roster = roster_by (board.kept slot) (board.heaps.at slot inside) refl;
      }
    where
      front_by : (kept : Kept) → IsKeptAt opening slot kept → board.kept slot ≡ kept → GoesOnFrom part (board.kept slot)
      front_by (Names names) at is =
          let same : Names names ≡ Names board.named.names = sym is ∙ (ap board.kept at.last ∙ board.named.there) in
          subst (GoesOnFrom part) (sym (is ∙ same))
          (subst (λ (m : Mine). GoesOnFrom m (Names board.named.names)) (sym seat.known) (board.named.zones part.who seat.declared, board.named.heaps part.who seat.declared))
      front_by (Heap heap pen) at is = subst (GoesOnFrom part) (sym is) tt
      front_by (Segments segs) at is =
          let same : Segments segs ≡ Segments board.segments.segs = sym is ∙ (ap board.kept at.last ∙ board.segments.there) in
          let lag = board.segments.lagging part.who seat.declared in
          subst (GoesOnFrom part) (sym (is ∙ same)) (subst (λ (m : Mine). GoesOnFrom m (Segments board.segments.segs)) (sym seat.known) (lag.log, lag.heard))

      roster_by : (kept : Kept) → IsKeptAt opening slot kept → board.kept slot ≡ kept → HasMember part.who part.joined (board.kept slot)
      roster_by (Names names) at is = subst (HasMember part.who part.joined) (sym is) tt
      roster_by (Heap heap pen) at is = subst (HasMember part.who part.joined) (sym is) tt
      roster_by (Segments segs) at is =
          let same : Segments segs ≡ Segments board.segments.segs = sym is ∙ (ap board.kept at.last ∙ board.segments.there) in
          let lag = board.segments.lagging part.who seat.declared in
          subst (HasMember part.who part.joined) (sym (is ∙ same)) (lag.joined ∙ ap (λ (m : Mine). m.joined) (sym seat.known))

  -- and what one learns who finds the word held
  looked : get_or s.words slot 0 ≢ 0 → IsHeldWord part slot (get_or s.words slot 0)
  looked held =
      let known = seat.known in
      let is = ap (λ (m : Mine). value_of slot m.held) known ∙ board.locked.held part.who slot seat.declared inside in
      record {
        held = held;
        holder = subst (λ (o : Opening). get_or s.words slot 0 ≤ o.participants) (sym (ap (λ (m : Mine). m.opening) known ∙ board.prefixes.opened part.who seat.declared)) (board.locked.low slot inside);
        own = λ same none-held. let yes = is ∙ held_yes part.who (get_or s.words slot 0) (board.kept slot) same in cc;
        other = λ apart. is ∙ held_no part.who (get_or s.words slot 0) (board.kept slot) apart;
      }

  takes_slot : (new : ℕ) → new ≡ part.who + 1 → get_or s.words slot 0 ≡ 0
      → IsBoard opening (state (set s.words slot new) (set s.homes slot none) (set s.views id (one_part taker)))
  takes_slot new is free = record {
    kept = board.kept;
    mine = with_at part.who taker board.mine;
    seat_of = board.seat_of;
    words = length-set s.words slot new ∙ board.words;
    few = board.few;
    seated = seated_step opening.participants s.views board.seat_of board.mine board.seated id part taker at refl;
    locked = subst (λ (n : ℕ). AreLocked opening.participants (set s.words slot n) (set s.homes slot none) board.kept (with_at part.who taker board.mine)) (sym is)
        (locked_take opening.participants s.words s.homes board.kept board.mine board.locked board.words slot inside part seat.known seat.declared learned free);
    heaps = kept_same opening board.kept board.mine board.heaps part seat.known (taker) refl;
    prefixes = seen_take opening board.kept board.mine board.prefixes part seat.known slot learned;
    marked = marked_same opening board.kept board.mine board.marked part seat.known taker refl;
    named = named_take opening board.kept board.mine board.named part seat.known slot learned (board.heaps.at slot inside);
    agreed = subst (λ (n : ℕ). AreNamesAgreed opening.participants (set s.words slot n) board.kept (with_at part.who taker board.mine)) (sym is)
        (agreed_take opening opening.participants s.words board.kept board.mine board.agreed part seat.known seat.declared board.words slot inside holding free
        (board.heaps.at slot inside));
    claimed = claimed_take s.words board.kept slot new free board.claimed;
    lines = lines_take opening s.words board.kept board.mine board.lines part seat.known seat.declared board.words slot inside board.heaps board.named (who_is opening s board) new learned;
    segments = segs_take opening s.words board.kept board.mine board.segments part seat.known seat.declared slot new learned inside (board.heaps.at slot inside);
    owned = owned_take opening s.words board.kept board.mine board.owned part seat.known seat.declared (namings_at board.kept) board.agreed.segs.ranges slot new (in_words opening s board slot inside) (λ zero-now. omega (arith, is, zero-now)) (board.heaps.at slot inside);
    moved = subst (λ (n : ℕ). AreMoved opening (set s.words slot n) board.kept (with_at part.who taker board.mine)) (sym is)
        (moved_one opening s.words board.kept board.mine board.moved part seat.known seat.declared (moved_by.Took slot (board.kept slot)) (set s.words slot (part.who + 1)) board.kept taker refl
        (inside, free, refl, good_kept opening s.words s.homes board.kept board.mine board.locked board.owned slot (board.kept slot) refl (board.heaps.at slot inside))
        (taken_slots part.who slot (board.kept slot) board.kept s.words (in_words opening s board slot inside)));
  }

  -- a step that only notes something in the view
  notes_word : (word : ℕ) → IsBoard opening (state (set s.words slot (get_or s.words slot 0)) s.homes (set s.views id (one_part (after_look slot word part))))
  notes_word word =
      let same : set s.words slot (get_or s.words slot 0) ≡ s.words = set-get_or s.words slot 0 in
      record {
        kept = board.kept;
        mine = with_at part.who (after_look slot word part) board.mine;
        seat_of = board.seat_of;
        words = ap length same ∙ board.words;
        few = board.few;
        seated = seated_step opening.participants s.views board.seat_of board.mine board.seated id part (after_look slot word part) at refl;
        locked = record {
          low = λ k within. subst (λ (ws : List ℕ). get_or ws k 0 ≤ opening.participants) (sym same) (board.locked.low k within);
          home = λ k within free. board.locked.home k within (ap (λ (ws : List ℕ). get_or ws k 0) (sym same) ∙ free);
          held = λ who k may within.
              held_same who k ∙ board.locked.held who k may within ∙ ap (λ (ws : List ℕ). held_by who (get_or ws k 0) (board.kept k)) (sym same);
        };
        heaps = kept_same opening board.kept board.mine board.heaps part seat.known (after_look slot word part) refl;
        prefixes = seen_look opening board.kept board.mine board.prefixes part seat.known slot word;
        marked = marked_same opening board.kept board.mine board.marked part seat.known (after_look slot word part) refl;
        named = named_same opening board.kept board.mine board.named part seat.known (after_look slot word part) refl refl;
        agreed = agreed_same opening.participants s.words board.kept board.mine board.agreed part seat.known seat.declared (set s.words slot (get_or s.words slot 0)) (after_look slot word part)
            (ap (λ (ws : List ℕ). get_or ws NAMES_SLOT 0) same) refl refl;
        claimed = claimed_same s.words (set s.words slot (get_or s.words slot 0)) board.kept board.claimed (λ k within. ap (λ (ws : List ℕ). get_or ws k 0) same);
        lines = lines_same opening s.words board.kept board.mine board.lines part seat.known seat.declared (set s.words slot (get_or s.words slot 0)) (after_look slot word part)
            refl refl refl refl refl refl refl (λ w may. ap (λ (ws : List ℕ). get_or ws (done_word w) 0) same);
        segments = subst (λ (ws : List ℕ). AreSegs opening.participants ws board.kept (with_at part.who (after_look slot word part) board.mine)) (sym same)
            (segs_look opening s.words board.kept board.mine board.segments part seat.known seat.declared slot word);
        owned = owned_same opening s.words board.kept board.mine board.owned part seat.known seat.declared (set s.words slot (get_or s.words slot 0)) (after_look slot word part) refl refl refl
            (λ k within. ap (λ (ws : List ℕ). get_or ws k 0) same);
        moved = moved_same opening s.words board.kept board.mine board.moved part seat.known (set s.words slot (get_or s.words slot 0)) (after_look slot word part) refl
            (λ k within. ap (λ (ws : List ℕ). get_or ws k 0) same);
      }
    where
      held_same : (who k : ℕ) → value_of k (with_at part.who (after_look slot word part) board.mine who).held ≡ value_of k (board.mine who).held
      held_same who k = each (λ w m. value_of k m.held ≡ value_of k (board.mine w).held) part.who (after_look slot word part) board.mine
          (ap (λ (m : Mine). value_of k m.held) seat.known) (λ w apart. refl) who

-- a try of a lock word
pub tries : (opening : Opening) (slots id : ℕ) (me : Sat) (slot new : ℕ) (said : mathlib.Core.Option.Option (Option Kept)) → slot < SLOTS → me.0 ≡ one_part (part_of me.0) → new ≡ (part_of me.0).who + 1
    → Allows (IsBoard opening) slots id me slot (λ n. either (eqb n 0) new n) (Tries (step slots slot 0 new said) me)
tries opening slots id me slot new said inside one is s board wide there small =
    let part = part_of me.0 in
    let at : get_elem? s.views id ≡ some (one_part part) = there ∙ ap some one in
    exchanged (get_or s.words slot 0) 0 new (Goes opening s slot id me (Tries (step slots slot 0 new said) me))
    (λ free. (
      one_part (taker opening s board id slot inside part at),
      takes slot (Some (board.kept slot)),
      board.locked.home slot inside free,
      takes_slot opening s board id slot inside part at new is free,
      record {
        free = λ _. record {
          kept = board.kept slot;
          view = taker opening s board id slot inside part at;
          taken = record { learned = learned opening s board id slot inside part at; view = refl };
          handed = handed opening s board id slot inside part at free;
          out = refl;
        };
        held = λ held. absurd (held free);
      },
    ))
    (λ held. (
      one_part (after_look slot (get_or s.words slot 0) part),
      keeps,
      tt,
      notes_word opening s board id slot inside part at (get_or s.words slot 0),
      record {
        free = λ free. absurd (held free);
        held = λ _. record { held = looked opening s board id slot inside part at held; noted = refl };
      },
    ))
