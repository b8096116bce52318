-- Ownership is kept by each kind of step.
use Rattle.std.proofs.Common.{◌≡◌, ◌≢◌, ◌∙◌, ◌⊎◌, inl, inr, ⊎_elim, ℕ, ◌+◌, ◌<◌, ◌≤◌, Bool, true, false, eqb, eq-eqb, eqb-true, List, length, get_or, set, Option, Some, None, refl, sym, ap, subst, arith, get_or-set_other}
use Rattle.std.proofs.lemmas.Bool.{cases_lt}
use mathlib.Core.Option as maybe
use Rattle.hp_base.specs.declared.limits.TheConstants.{MAX_HEAPS}
use Rattle.hp_heap.specs.History.{HeapView}
use Rattle.hp_segs.specs.LaterSteps.{armed_ask}
use Rattle.hp_segs.specs.SegsView.{SegsView}
use Rattle.hp_segs.specs.SettledAsks.{IsSettled}
use Rattle.hp_segs.specs.Sound.{IsSound}
use Rattle.hp_segs.specs.Standing.{Holding, standing_of}
use Rattle.hp_stats.specs.StatViews.{PenView}
use Rattle.hp_segs.specs.declared.ask.Ask.{Ask}
use Rattle.hp_segs.specs.declared.external_range.ExternalRange.{ExternalRange}
use Rattle.hp_hall.specs.Naming.{Naming}
use Rattle.hp_hall.specs.Asks.{IsKnownSettled}
use Rattle.hp_hall.specs.Giving.{GivesForm, GivesHeap, GivesSegments, GivesTheNames}
use Rattle.hp_zone.specs.declared.names.Names.{Names as NamesView}
use Rattle.hp_hall.specs.Views.{HeldHeap}
use Rattle.hp_hall.specs.Holding.{HasHolding, IsHeldWith}
use Rattle.hp_hall.specs.declared.kept.Kept.{Kept}
use Rattle.hp_hall.specs.declared.kept.Kept.TheVariants.{Heap, Names, Segments}
use Rattle.hp_board.specs.declared.words.TheConstants.{SLOTS}
use Rattle.hp_hall.proofs.Formed.{armed_given, asks_given, standing_given}
use Rattle.hp_hall.proofs.AsksOfHalls.GivenAsks.{armed_by_give, pending_given, settled_given}
use Rattle.hp_hall.proofs.AsksOfHalls.KnownAsks.{known_is_settled}
use Rattle.hp_board.specs.Giving.{GivesAt, GivesHeldAt}
use Rattle.hp_board.specs.KeptValues.{IsKeptAt}
use Rattle.hp_board.specs.Knowing.{holds_heap, knows_of}
use Rattle.hp_board.specs.Locks.{AreLocked}
use Rattle.hp_board.specs.Ownership.{AreOwned, HasBegun, IsOwnedIn, IsOwner, holding_by}
use Rattle.hp_board.specs.Views.{BeginsWith, after_give, after_take, value_of}
use Rattle.hp_board.specs.declared.opening.Opening.{Opening}
use Rattle.hp_board.specs.declared.view.Mine.{Mine}
use Rattle.hp_board.proofs.StepsOfSeats.NamingSteps.{learns}
use Rattle.hp_board.proofs.OwnershipFacts.GivenTaken.{by_gives}
use Rattle.hp_board.proofs.OwnershipFacts.Holders.{holds_beyond, holds_word, known_no, known_yes}
use Rattle.hp_board.proofs.StepsOfSeats.OwnerSteps.{held_known, owner_give, owner_give_heap, owner_give_names, owner_other, owner_same, owner_take}
use Rattle.hp_board.proofs.OwnershipFacts.StandingGrows.{begun_has, begun_on}
use Rattle.hp_board.proofs.Updates.{with_at, with_at-here, with_at-else, each, each_word}

-- a heap held with what is known has what the segment value has for it
held_with : (heap : HeapView) (segs : SegsView) (slot : ℕ) (holds : Bool) → IsHeldWith heap (holding_by holds slot segs) → (holds ≡ true) × HasHolding heap (standing_of slot segs)
held_with heap segs slot true held = (refl, held)
held_with heap segs slot false held = absurd held

module _ (opening : Opening) (words : List ℕ) (kept : ℕ → Kept) (mine : ℕ → Mine) (old : AreOwned opening.participants words kept mine)
    (part : Mine) (known : part ≡ mine part.who) (declared : part.who < opening.participants) where
  pub owner_part : IsOwner old.segs part.who part
  owner_part = subst (IsOwner old.segs part.who) (sym known) (old.owners part.who declared)

  -- one view changes, and lock words that are 0 afterwards were so; values stay
  owned_stays : (words' : List ℕ) (new : Mine) → IsOwner old.segs part.who new → ((slot : ℕ) → slot < SLOTS → get_or words' slot 0 ≡ 0 → get_or words slot 0 ≡ 0)
      → AreOwned opening.participants words' kept (with_at part.who new mine)
  owned_stays words' new owner free = record {
    segs = old.segs;
    there = old.there;
    owners = each (λ w m. w < opening.participants → IsOwner old.segs w m) part.who new mine (λ _. owner) (λ w apart. old.owners w);
    home = λ slot within zero-now. old.home slot within (free slot within zero-now);
    begun = old.begun;
    none = old.none;
    armed = old.armed;
    pending = old.pending;
    nobody = old.nobody;
  }

  -- a step that changes nothing of it
  pub owned_same : (words' : List ℕ) (new : Mine) → new.armed ≡ part.armed → new.holdings ≡ part.holdings → new.held ≡ part.held
      → ((slot : ℕ) → slot < SLOTS → get_or words' slot 0 ≡ get_or words slot 0) → AreOwned opening.participants words' kept (with_at part.who new mine)
  owned_same words' new armed holdings held same =
      owned_stays words' new (owner_same old.segs part.who part owner_part new armed holdings held) (λ slot within zero-now. sym (same slot within) ∙ zero-now)

  -- a slot is taken
  pub owned_take : (namings : List (ℕ × Naming)) (claims : List ExternalRange) (slot word : ℕ) → slot < length words → word ≢ 0 → IsKeptAt opening slot (kept slot)
      → AreOwned opening.participants (set words slot word) kept (with_at part.who (after_take slot (kept slot) (learns (standing_of slot old.segs) namings claims) part) mine)
  owned_take namings claims slot word inside held at =
      owned_stays (set words slot word) (after_take slot (kept slot) (learns (standing_of slot old.segs) namings claims) part) (owner_take old.segs part.who part owner_part namings claims opening slot (kept slot) at)
      (each_word (λ k w. k < SLOTS → w ≡ 0 → get_or words k 0 ≡ 0) words slot word inside (λ _ zero-now. absurd (held zero-now)) (λ k apart _ zero-now. zero-now))

  module _ (homes : List (maybe.Option (Option Kept))) (locked : AreLocked opening.participants words homes kept mine) (slot : ℕ) (inside : slot < length words) where
    -- who holds a heap by the lock words
    abbrev holder : ℕ → ℕ → Bool
    holder who heap = eqb (get_or words heap 0) (who + 1)

    one_holder : (who other heap : ℕ) → holder who heap ≡ true → holder other heap ≡ true → who ≡ other
    one_holder who other heap first second =
        omega (arith, eqb-true (get_or words heap 0) (who + 1) first, eqb-true (get_or words heap 0) (other + 1) second)

    -- the participant knows nothing of a heap that another holds, nor of one at home
    unknown : (heap : ℕ) → holds_heap heap part ≡ false → value_of heap part.holdings ≡ None
    unknown heap not-held = owner_part.known heap ∙ known_no (holds_heap heap part) heap old.segs not-held

    holds_not : (heap : ℕ) → get_or words heap 0 ≢ part.who + 1 → holds_heap heap part ≡ false
    holds_not heap apart = by (holds_heap heap part) refl
      where
        by : (holds : Bool) → holds_heap heap part ≡ holds → holds_heap heap part ≡ false
        by false is = is
        by true is =
            let its = holds_word opening.participants words homes kept mine locked part.who heap declared (ap (holds_heap heap) (sym known) ∙ is) in
            absurd (apart its.1)

    -- a heap is given
    module _ (taken given : HeapView) (below : slot < MAX_HEAPS) (index : taken.plain.index ≡ slot) (sound : IsSound old.segs) (heard : BeginsWith old.segs.asks part.heard)
        (gives : GivesHeap (knows_of part) taken given) where
      at : given.plain.index ≡ slot
      at = gives.index ∙ index

      its : (holds_heap slot part ≡ true) × HasHolding given (standing_of slot old.segs)
      its =
          held_with given old.segs slot (holds_heap slot part)
          (subst (IsHeldWith given) (ap (λ (k : ℕ). value_of k part.holdings) at ∙ owner_part.known slot) gives.held)

      settled : (ask : Ask) → part.armed ≡ Some ask → ask.heap ≡ slot → IsSettled ask.from ask.number old.segs
      settled ask is same =
          let of_heap : value_of given.plain.index part.holdings ≡ Some (standing_of ask.heap old.segs) =
          ap (λ (k : ℕ). value_of k part.holdings) at ∙ (owner_part.known slot ∙ (known_yes (holds_heap slot part) slot old.segs its.0
          ∙ ap (λ (k : ℕ). Some (standing_of k old.segs)) (sym same))) in
          known_is_settled old.segs part.heard heard.0 ask sound heard.1
          (subst (λ (h : Option Holding). IsKnownSettled part.heard h ask) of_heap (gives.settled ask is (same ∙ sym at)))

      pub owned_give_heap : (pen : PenView)
          → AreOwned opening.participants (set words slot 0) (with_at slot (Heap given pen) kept) (with_at part.who (after_give slot (Heap given pen) part) mine)
      owned_give_heap pen = record {
        segs = old.segs;
        there = with_at-else slot (Heap given pen) kept MAX_HEAPS (λ same. omega (arith, below, same)) ∙ old.there;
        owners = each (λ w m. w < opening.participants → IsOwner old.segs w m) part.who (after_give slot (Heap given pen) part) mine
            (λ _. owner_give_heap old.segs part.who part owner_part slot given pen settled) (λ w apart. old.owners w);
        home = each (λ k v. k < SLOTS → get_or (set words slot 0) k 0 ≡ 0 → IsOwnedIn old.segs k v) slot (Heap given pen) kept
            (λ _ _. its.1) (λ k apart within zero-now. old.home k within (sym (get_or-set_other words slot k 0 0 apart) ∙ zero-now));
        begun = each (λ k v. k < SLOTS → HasBegun old.segs k v) slot (Heap given pen) kept (λ _. begun_has old.segs slot given pen its.1) (λ k apart. old.begun k);
        none = old.none;
        armed = old.armed;
        pending = old.pending;
        nobody = old.nobody;
      }

    -- the segment value is given
    module _ (given : SegsView) (last : slot ≡ MAX_HEAPS) (sound : IsSound old.segs) (sound' : IsSound given) (form : GivesForm (knows_of part) old.segs given) where
      owners' : (who : ℕ) → who < opening.participants → IsOwner given who (with_at part.who (after_give slot (Segments given) part) mine who)
      owners' =
          each (λ w m. w < opening.participants → IsOwner given w m) part.who (after_give slot (Segments given) part) mine
          (λ _. owner_give old.segs given part sound sound' old.armed form slot (omega (arith, last)) owner_part)
          (λ w apart may.
          owner_other old.segs given part sound sound' old.armed form w (mine w) apart (λ heap holds.
          let held = holds_word opening.participants words homes kept mine locked w heap may holds in
          unknown heap (holds_not heap (λ same. apart (omega (arith, held.1, same)))))
          (old.owners w may))

      -- each armed ask is settled, or its participant has the heap of that by the lock words
      asking : (who : ℕ) (ask : Ask) → armed_ask given who ≡ Some ask → IsSettled ask.from ask.number given ⊎ (holder who ask.heap ≡ true)
      asking who ask is = ⊎_elim (λ may. by_owner may) (λ strange. nobody strange) (cases_lt who opening.participants)
        where
          word_of : who < opening.participants → holds_heap ask.heap (mine who) ≡ true → holder who ask.heap ≡ true
          word_of may holds = eq-eqb (get_or words ask.heap 0) (who + 1) (holds_word opening.participants words homes kept mine locked who ask.heap may holds).1

          by_owner : who < opening.participants → IsSettled ask.from ask.number given ⊎ (holder who ask.heap ≡ true)
          by_owner may =
              let owner = old.owners who may in
              ⊎_elim
              (λ was.
              ⊎_elim (λ settled. inl (settled_given (knows_of part) old.segs given sound sound' old.armed form ask.from ask.number settled))
              (λ holds. inr (word_of may holds)) (owner.asking ask (sym owner.armed ∙ was)))
              (λ arms.
              let holds = held_known old.segs part.who part owner_part ask.heap arms.1 in
              inr (word_of may (ap (λ (m : Mine). holds_heap ask.heap m) (ap mine arms.0 ∙ sym known) ∙ holds)))
              (armed_by_give (knows_of part) old.segs given form who ask is)

          nobody : opening.participants ≤ who → IsSettled ask.from ask.number given ⊎ (holder who ask.heap ≡ true)
          nobody strange =
              let was : armed_ask given who ≡ armed_ask old.segs who = asks_given (knows_of part) old.segs given form who (λ same. omega (arith, same, strange, declared)) in
              let wrong : None ≡ Some ask = sym (was ∙ old.nobody who strange) ∙ is in
              absurd (cc)

      pub owned_give_segs : AreOwned opening.participants (set words slot 0) (with_at slot (Segments given) kept) (with_at part.who (after_give slot (Segments given) part) mine)
      owned_give_segs = record {
        segs = given;
        there = ap (with_at slot (Segments given) kept) (sym last) ∙ with_at-here slot (Segments given) kept;
        owners = owners';
        home = each (λ k v. k < SLOTS → get_or (set words slot 0) k 0 ≡ 0 → IsOwnedIn given k v) slot (Segments given) kept
            (λ _ _. tt)
            (λ k apart within zero-now.
            let was : get_or words k 0 ≡ 0 = sym (get_or-set_other words slot k 0 0 apart) ∙ zero-now in
            home_still k (kept k) was (old.home k within was));
        begun = each (λ k v. k < SLOTS → HasBegun given k v) slot (Segments given) kept (λ _. tt)
            (λ k apart within. begun_on (knows_of part) old.segs given sound old.pending form k (kept k) (old.begun k within));
        none = λ heap high. standing_given (knows_of part) old.segs given sound form heap (unknown heap (holds_beyond heap part high)) ∙ old.none heap high;
        armed = armed_given (knows_of part) old.segs given form old.armed;
        pending = pending_given (knows_of part) old.segs given sound sound' old.armed form holder asking one_holder old.pending;
        nobody = λ who strange. asks_given (knows_of part) old.segs given form who (λ same. omega (arith, same, strange, declared)) ∙ old.nobody who strange;
      }
        where
          home_still : (k : ℕ) (value : Kept) → get_or words k 0 ≡ 0 → IsOwnedIn old.segs k value → IsOwnedIn given k value
          home_still k (Heap heap pen) free holding =
              subst (HasHolding heap)
              (sym (standing_given (knows_of part) old.segs given sound form k (unknown k (holds_not k (λ same. omega (arith, same, free)))))) holding
          home_still k (Segments other) free holding = tt
          home_still k (Names names) free holding = tt

    -- names are given
    owned_give_names : (given : NamesView) → MAX_HEAPS < slot
        → AreOwned opening.participants (set words slot 0) (with_at slot (Names given) kept) (with_at part.who (after_give slot (Names given) part) mine)
    owned_give_names given above = record {
      segs = old.segs;
      there = with_at-else slot (Names given) kept MAX_HEAPS (λ same. omega (arith, above, same)) ∙ old.there;
      owners = each (λ w m. w < opening.participants → IsOwner old.segs w m) part.who (after_give slot (Names given) part) mine
          (λ _. owner_give_names old.segs part.who part owner_part slot given (omega (arith, above))) (λ w apart. old.owners w);
      home = each (λ k v. k < SLOTS → get_or (set words slot 0) k 0 ≡ 0 → IsOwnedIn old.segs k v) slot (Names given) kept
          (λ _ _. tt) (λ k apart within zero-now. old.home k within (sym (get_or-set_other words slot k 0 0 apart) ∙ zero-now));
      begun = each (λ k v. k < SLOTS → HasBegun old.segs k v) slot (Names given) kept (λ _. tt) (λ k apart. old.begun k);
      none = old.none;
      armed = old.armed;
      pending = old.pending;
      nobody = old.nobody;
    }

    -- what a give leaves, once the slot's value is known
    abbrev GoesOn : Kept → Kept → Type 0
    GoesOn taken given = kept slot ≡ taken → IsKeptAt opening slot taken → IsKeptAt opening slot given
        → AreOwned opening.participants (set words slot 0) (with_at slot given kept) (with_at part.who (after_give slot given part) mine)

    -- a value is given
    pub owned_give : (taken given : Kept) → kept slot ≡ taken → IsKeptAt opening slot taken → IsKeptAt opening slot given → IsSound old.segs → BeginsWith old.segs.asks part.heard
        → GivesAt (knows_of part) taken given → AreOwned opening.participants (set words slot 0) (with_at slot given kept) (with_at part.who (after_give slot given part) mine)
    owned_give taken given is at at' sound heard gives = by_gives (knows_of part) GoesOn of_heap of_segs of_names taken given gives is at at'
      where
        of_heap : (taken given : HeldHeap) → GivesHeldAt (knows_of part) taken given → GoesOn (Heap taken.heap taken.pen) (Heap given.heap given.pen)
        of_heap taken given gives is at at' = owned_give_heap taken.heap given.heap at.heap.below at.heap.index sound heard gives.heap given.pen

        of_segs : (taken given : SegsView) → GivesSegments (knows_of part) taken given → GoesOn (Segments taken) (Segments given)
        of_segs taken given gives is at at' =
            let same : Segments taken ≡ Segments old.segs = sym is ∙ (ap kept at.last ∙ old.there) in
            let segs_is : taken ≡ old.segs = cc in
            owned_give_segs given at.last sound at'.sound (subst (λ (s : SegsView). GivesForm (knows_of part) s given) segs_is gives.form)

        of_names : (taken given : NamesView) → GivesTheNames (knows_of part) taken given → GoesOn (Names taken) (Names given)
        of_names taken given gives is at at' = let last = at.last in owned_give_names given (omega (arith, last))
