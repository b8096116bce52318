-- What a taker learns of ownership, and that the table of a member has the pages of the heaps that it holds.
use Rattle.std.proofs.Common.{◌≡◌, ◌∙◌, ⊎_elim, inl, inr, ℕ, ◌<◌, true, List, Option, Some, None, sym, ap, subst, unwrap_or}
use Rattle.std.specs.Prelude.{Contains, slice_get}
use Rattle.std.specs.Option.{is_some}
use Rattle.std.proofs.lemmas.List.Elements.{Contains-append_left}
use Rattle.hp_heap.specs.History.{HeapView}
use Rattle.hp_base.specs.declared.chunk.Chunk.{Chunk}
use Rattle.hp_base.specs.declared.limits.TheConstants.{MAX_HEAPS}
use Rattle.hp_base.specs.declared.row.Row.{Row}
use Rattle.hp_segs.specs.LaterSteps.{armed_ask}
use Rattle.hp_segs.specs.PendingRuns.{ArePending}
use Rattle.hp_segs.specs.SegsView.{SegsView}
use Rattle.hp_segs.specs.SettledAsks.{IsSettled}
use Rattle.hp_segs.specs.Sound.{IsSound}
use Rattle.hp_segs.specs.Standing.{Holding, IsArmed, owned_by, standing_of}
use Rattle.hp_segs.specs.declared.ask.Ask.{Ask}
use Rattle.hp_segs.specs.declared.outcome.AskLog.{AskLog}
use Rattle.hp_segs.specs.declared.external_range.ExternalRange.{ExternalRange}
use Rattle.hp_hall.specs.AgreedNames.{chunk_memory}
use Rattle.hp_hall.specs.Asks.{ClaimsGrants}
use Rattle.hp_hall.specs.Naming.{Naming, naming_of}
use Rattle.hp_hall.specs.Holding.{HasHolding, IsAsPart, IsClaimedFor, IsHeldWith, AreStanding}
use Rattle.hp_hall.proofs.AsksOfHalls.GivenAsks.{asker_is}
use Rattle.hp_hall.proofs.AsksOfHalls.KnownAsks.{settled_is_claimed}
use Rattle.hp_hall.proofs.OwnedKnown.{owned_known}
use Rattle.hp_board.proofs.TakenIn.{HasTakenIn}
use Rattle.hp_board.specs.KeptValues.{IsHeapAt}
use Rattle.hp_board.specs.Knowing.{HasMappedHeld, heap_part, holds_heap}
use Rattle.hp_board.specs.Lag.{IsLagging}
use Rattle.hp_board.specs.Ownership.{IsOwner}
use Rattle.hp_board.specs.Views.{BeginsWith, marked_in, own_of, value_of}
use Rattle.hp_board.specs.declared.opening.Opening.{Opening}
use Rattle.hp_board.specs.declared.view.Mine.{Mine}
use Rattle.hp_board.proofs.OwnershipFacts.Holders.{known_if, known_yes}
use Rattle.hp_board.proofs.OwnershipFacts.TablesKnown.{known_front}
use Rattle.hp_board.proofs.OwnershipFacts.TablesLeft.{table_joined}

module _ (segs : SegsView) (who : ℕ) (mine : Mine) (sound : IsSound segs) (owner : IsOwner segs who mine) where
  -- the table of a member has the pages of the heaps that it holds
  pub mapped_held : mine.who ≡ who → IsLagging segs who mine → HasTakenIn segs who mine → HasMappedHeld mine
  mapped_held its lag taken joined heap holding segment is among =
      let known = known_if (holds_heap heap mine) heap segs holding (sym (owner.known heap) ∙ is) in
      let own : Contains (owned_by heap segs) segment = subst (λ (h : Holding). Contains h.owned segment) known.1 among in
      let member = lag.joined ∙ joined in
      let row = owned_known segs (own_of mine) heap segment sound (λ entry generation has grants. taken.granted member entry generation has grants) own in
      subst (λ (rows : List Row). Contains rows segment.row) (sym (table_joined mine joined ∙ known_front segs.log mine.log (own_of mine) lag.log lag.behind lag.within)) row

  -- a heap that it holds is as its part says
  pub heap_stands : (opening : Opening) (slot : ℕ) (heap : HeapView) → mine.opening ≡ opening → IsHeapAt opening slot heap → holds_heap slot mine ≡ true
      → HasHolding heap (standing_of slot segs) → ((naming : Naming) → (heap_part mine heap.plain.index).naming ≡ Some naming → naming_of heap.plain ≡ naming)
      → ((claims : List ExternalRange) (chunk : Chunk) → mine.claims ≡ Some claims → Contains heap.plain.chunks chunk
      → Contains claims (chunk_memory chunk)) → IsAsPart (heap_part mine heap.plain.index) heap
  heap_stands opening slot heap opens at holds has named claimed = record {
    serves =
        sym (ap (λ (k : ℕ). (heap_part mine k).serves) at.index
        ∙ (ap (λ (o : Opening). unwrap_or (slice_get o.serves slot) None) opens ∙ ap (λ (s : Option (Option ℕ)). unwrap_or s None) at.serves));
    held = subst (IsHeldWith heap) (sym (ap (λ (k : ℕ). value_of k mine.holdings) at.index ∙ (owner.known slot ∙ known_yes (holds_heap slot mine) slot segs holds))) has;
    named = named;
    claimed = claimed;
  }

  -- and has claimed what was granted to its ask for it, as far as it has heard, where that is settled
  pub heap_claims : (slot : ℕ) (heap : HeapView) → heap.plain.index ≡ slot → holds_heap slot mine ≡ true → IsArmed segs → BeginsWith segs.asks mine.heard
      → ((ask : Ask) → mine.armed ≡ Some ask → ask.heap ≡ slot → IsSettled ask.from ask.number segs) → IsClaimedFor heap.plain.index mine.heard (heap_part mine heap.plain.index)
  heap_claims slot heap index holds armed heard settled ask is same =
      let its : ask.heap ≡ slot = same ∙ index in
      let armed_now : armed_ask segs who ≡ Some ask = owner.armed ∙ is in
      let from : ask.from ≡ who = asker_is segs who ask sound armed_now in
      let claims : ClaimsGrants segs.asks (Some (standing_of ask.heap segs)) ask =
      settled_is_claimed segs ask sound armed.kept (ap (armed_ask segs) from ∙ armed_now) (settled ask is its) in
      let held : Some (standing_of ask.heap segs) ≡ value_of heap.plain.index mine.holdings =
      ap (λ (k : ℕ). Some (standing_of k segs)) its
      ∙ (sym (owner.known slot ∙ known_yes (holds_heap slot mine) slot segs holds) ∙ ap (λ (k : ℕ). value_of k mine.holdings) (sym index)) in
      subst (λ (h : Option Holding). ClaimsGrants mine.heard h ask) held
      (λ entry generation among from number granted.
      claims entry generation (subst (λ (l : List AskLog). Contains l entry) (sym heard.1) (Contains-append_left mine.heard heard.0 entry among)) from number granted)

  -- the segment value has what it knows
  pub segs_stand : mine.who ≡ who → IsArmed segs → ArePending segs → ((claims : List ExternalRange) → mine.claims ≡ Some claims → segs.ranges ≡ claims)
      → ((heap : ℕ) (chunk : Chunk) → heap < MAX_HEAPS → Contains (marked_in heap mine) chunk → Contains segs.ranges (chunk_memory chunk))
      → ((heap : ℕ) (naming : Naming) (chunk : Chunk) → heap < MAX_HEAPS → value_of heap mine.namings ≡ Some naming
      → Contains (marked_in heap mine) chunk → Contains naming.chunks chunk) → AreStanding mine.who (heap_part mine) segs
  segs_stand its armed pending claims marked named = record {
    held = λ heap holding is. (known_if (holds_heap heap mine) heap segs holding (sym (owner.known heap) ∙ is)).1;
    armed = λ heap. sym owner.armed ∙ ap (armed_ask segs) (sym its);
    asking = λ ask is.
        ⊎_elim (λ settled. inl settled)
        (λ holds. inr (ap is_some (owner.known ask.heap ∙ known_yes (holds_heap ask.heap mine) ask.heap segs holds)))
        (owner.asking ask (sym owner.armed ∙ (ap (armed_ask segs) (sym its) ∙ is)));
    sound = armed;
    pending = pending;
    claims = λ heap known is. claims known is;
    marked = marked;
    named = named;
  }
