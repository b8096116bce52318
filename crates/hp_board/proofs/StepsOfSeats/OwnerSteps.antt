-- What a participant owns is kept by each kind of step: of the one who makes it, and of the others.
use Rattle.std.proofs.Common.{◌≡◌, ◌≢◌, ◌∙◌, inl, inr, ⊎_elim, ℕ, ◌<◌, ◌≤◌, Bool, true, false, List, ◌∷◌, Some, None, refl, sym, ap, subst, arith}
use Rattle.std.specs.Option.{IsSome, is_some, option_map}
use Rattle.std.proofs.lemmas.Bool.{false≢true}
use mathlib.Core.Logic.{dite}
use native.Mathlib.Decide.{ℕ_discrete}
use Rattle.hp_base.specs.declared.limits.TheConstants.{MAX_HEAPS}
use Rattle.hp_heap.specs.History.{HeapView}
use Rattle.hp_segs.specs.SegsView.{SegsView}
use Rattle.hp_segs.specs.SettledAsks.{IsSettled}
use Rattle.hp_stats.specs.StatViews.{PenView}
use Rattle.hp_segs.specs.Sound.{IsSound}
use Rattle.hp_segs.specs.Standing.{IsArmed, standing_of}
use Rattle.hp_segs.specs.declared.ask.Ask.{Ask}
use Rattle.hp_segs.specs.declared.external_range.ExternalRange.{ExternalRange}
use Rattle.hp_hall.specs.Naming.{Naming}
use Rattle.hp_hall.specs.Giving.{GivesForm}
use Rattle.hp_hall.specs.declared.kept.Kept.{Kept}
use Rattle.hp_hall.specs.declared.kept.Kept.TheVariants.{Heap, Names, Segments}
use Rattle.hp_zone.specs.declared.names.Names.{Names as NamesView}
use Rattle.hp_hall.proofs.Formed.{asks_given, standing_given}
use Rattle.hp_hall.proofs.AsksOfHalls.GivenAsks.{armed_by_give, settled_given}
use Rattle.hp_board.specs.KeptValues.{IsKeptAt}
use Rattle.hp_board.specs.Knowing.{holds_heap, knows_of}
use Rattle.hp_board.specs.Ownership.{IsOwner, holding_by}
use Rattle.hp_board.specs.Views.{after_give, after_take, value_of, without}
use Rattle.hp_board.specs.declared.opening.Opening.{Opening}
use Rattle.hp_board.specs.declared.view.Mine.{Mine}
use Rattle.hp_board.proofs.StepsOfSeats.NamingSteps.{learns}
use Rattle.hp_board.proofs.OwnershipFacts.Holders.{holding_alike, holding_told, holdings_told, holds_alike, holds_beyond, holds_no, holds_yes, known_no, known_yes}
use Rattle.hp_board.proofs.Pairs.{value_of-here, value_of-else, value_of-without, value_of-without_else}

-- a participant that holds what another view holds, knows of it what that does, and is armed alike, is an owner alike
pub owner_by : (segs : SegsView) (who : ℕ) (mine new : Mine) → IsOwner segs who mine → new.armed ≡ mine.armed
    → ((heap : ℕ) → value_of heap new.holdings ≡ value_of heap mine.holdings) → ((heap : ℕ) → holds_heap heap new ≡ holds_heap heap mine) → IsOwner segs who new
owner_by segs who mine new owner armed known holds = record {
  armed = owner.armed ∙ sym armed;
  known = λ heap. known heap ∙ (owner.known heap ∙ ap (λ (b : Bool). holding_by b heap segs) (sym (holds heap)));
  asking = λ ask is. ⊎_elim (λ settled. inl settled) (λ held. inr (holds ask.heap ∙ held)) (owner.asking ask (sym armed ∙ is));
}

module _ (segs : SegsView) (who : ℕ) (mine : Mine) (owner : IsOwner segs who mine) where
  -- what else changes in a view leaves it an owner
  pub owner_same : (new : Mine) → new.armed ≡ mine.armed → new.holdings ≡ mine.holdings → new.held ≡ mine.held → IsOwner segs who new
  owner_same new armed holdings held =
      owner_by segs who mine new owner armed (λ heap. ap (value_of heap) holdings) (λ heap. holds_alike heap mine new (ap (value_of heap) held))

  module _ (namings : List (ℕ × Naming)) (claims : List ExternalRange) (slot : ℕ) (heap : HeapView) (pen : PenView) (below : slot < MAX_HEAPS) where
    -- who has taken a heap, of which the segment value has this
    abbrev taker : Mine
    taker = after_take slot (Heap heap pen) (learns (standing_of slot segs) namings claims) mine

    taker_holds : holds_heap slot taker ≡ true
    taker_holds = holds_yes slot taker (Heap heap pen) below (value_of-here slot (Heap heap pen) mine.held)

    taker_others : (k : ℕ) → k ≢ slot → holds_heap k taker ≡ holds_heap k mine
    taker_others k apart = holds_alike k mine taker (value_of-else slot k (Heap heap pen) mine.held apart)

    taker_still : (k : ℕ) → holds_heap k mine ≡ true → holds_heap k taker ≡ true
    taker_still k held =
        dite (ℕ_discrete k slot) (λ same. subst (λ (j : ℕ). holds_heap j taker ≡ true) (sym same) taker_holds) (λ apart. taker_others k apart ∙ held)

    taken_heap : IsOwner segs who taker
    taken_heap = record {
      armed = owner.armed;
      known = λ k.
          dite (ℕ_discrete k slot)
          (λ same.
          subst (λ (j : ℕ). value_of j ((slot, standing_of slot segs) ∷ mine.holdings) ≡ holding_by (holds_heap j taker) j segs) (sym same)
          (value_of-here slot (standing_of slot segs) mine.holdings ∙ sym (known_yes (holds_heap slot taker) slot segs taker_holds)))
          (λ apart.
          value_of-else slot k (standing_of slot segs) mine.holdings apart
          ∙ (owner.known k ∙ ap (λ (b : Bool). holding_by b k segs) (sym (taker_others k apart))));
      asking = λ ask is. ⊎_elim (λ settled. inl settled) (λ held. inr (taker_still ask.heap held)) (owner.asking ask is);
    }

  -- a slot is taken, of which the segment value has this
  pub owner_take : (namings : List (ℕ × Naming)) (claims : List ExternalRange) (opening : Opening) (slot : ℕ) (kept : Kept) → IsKeptAt opening slot kept → IsOwner segs who (after_take slot kept (learns (standing_of slot segs) namings claims) mine)
  owner_take namings claims opening slot (Heap heap pen) at = taken_heap namings claims slot heap pen at.heap.below
  owner_take namings claims opening slot (Segments other) at =
      owner_by segs who mine (after_take slot (Segments other) (learns (standing_of slot segs) namings claims) mine) owner refl (λ heap. refl) (λ heap.
      dite (ℕ_discrete heap slot)
      (λ same.
      let high : MAX_HEAPS ≤ heap = omega (arith, same, at.last) in
      holds_beyond heap (after_take slot (Segments other) (learns (standing_of slot segs) namings claims) mine) high ∙ sym (holds_beyond heap mine high))
      (λ apart. holds_alike heap mine (after_take slot (Segments other) (learns (standing_of slot segs) namings claims) mine) (value_of-else slot heap (Segments other) mine.held apart)))
  owner_take namings claims opening slot (Names names) at =
      owner_by segs who mine (after_take slot (Names names) (learns (standing_of slot segs) namings claims) mine) owner refl (λ heap. refl) (λ heap.
      dite (ℕ_discrete heap slot)
      (λ same.
      let high : MAX_HEAPS ≤ heap = omega (arith, same, at.last) in
      holds_beyond heap (after_take slot (Names names) (learns (standing_of slot segs) namings claims) mine) high ∙ sym (holds_beyond heap mine high))
      (λ apart. holds_alike heap mine (after_take slot (Names names) (learns (standing_of slot segs) namings claims) mine) (value_of-else slot heap (Names names) mine.held apart)))

  -- names are given
  pub owner_give_names : (slot : ℕ) (names : NamesView) → MAX_HEAPS ≤ slot → IsOwner segs who (after_give slot (Names names) mine)
  owner_give_names slot names above =
      owner_by segs who mine (after_give slot (Names names) mine) owner refl (λ heap. refl) (λ heap.
      dite (ℕ_discrete heap slot)
      (λ same.
      let high : MAX_HEAPS ≤ heap = omega (arith, same, above) in
      holds_beyond heap (after_give slot (Names names) mine) high ∙ sym (holds_beyond heap mine high))
      (λ apart. holds_alike heap mine (after_give slot (Names names) mine) (value_of-without_else slot heap mine.held apart)))

  module _ (slot : ℕ) (heap : HeapView) (pen : PenView) where
    -- who has given a heap
    abbrev left : Mine
    left = after_give slot (Heap heap pen) mine

    left_others : (k : ℕ) → k ≢ slot → holds_heap k left ≡ holds_heap k mine
    left_others k apart = holds_alike k mine left (value_of-without_else slot k mine.held apart)

    -- its ask for the heap, where it is armed with one, is settled
    pub owner_give_heap : ((ask : Ask) → mine.armed ≡ Some ask → ask.heap ≡ slot → IsSettled ask.from ask.number segs) → IsOwner segs who left
    owner_give_heap settled = record {
      armed = owner.armed;
      known = λ k.
          dite (ℕ_discrete k slot)
          (λ same.
          subst (λ (j : ℕ). value_of j (without slot mine.holdings) ≡ holding_by (holds_heap j left) j segs) (sym same)
          (value_of-without slot mine.holdings ∙ sym (known_no (holds_heap slot left) slot segs (holds_no slot left (value_of-without slot mine.held)))))
          (λ apart.
          value_of-without_else slot k mine.holdings apart ∙ (owner.known k ∙ ap (λ (b : Bool). holding_by b k segs) (sym (left_others k apart))));
      asking = λ ask is.
          dite (ℕ_discrete ask.heap slot)
          (λ same. inl (settled ask is same))
          (λ apart. ⊎_elim (λ was. inl was) (λ held. inr (left_others ask.heap apart ∙ held)) (owner.asking ask is));
    }

  -- what it knows of a heap in hand, and that of no other heap it knows anything
  pub held_known : (heap : ℕ) → IsSome (value_of heap mine.holdings) → holds_heap heap mine ≡ true
  held_known heap some = by (holds_heap heap mine) refl
    where
      by : (holds : Bool) → holds_heap heap mine ≡ holds → holds_heap heap mine ≡ true
      by true is = is
      by false is = absurd (false≢true (sym (ap is_some (owner.known heap ∙ known_no (holds_heap heap mine) heap segs is)) ∙ some))

-- the segment value is given
module _ (taken given : SegsView) (part : Mine) (sound : IsSound taken) (sound' : IsSound given) (armed : IsArmed taken)
    (form : GivesForm (knows_of part) taken given) where
  module _ (slot : ℕ) (high : MAX_HEAPS ≤ slot) where
    -- by the participant itself
    abbrev giver : Mine
    giver = after_give slot (Segments given) part

    giver_holds : (k : ℕ) → holds_heap k giver ≡ holds_heap k part
    giver_holds k =
        dite (ℕ_discrete k slot)
        (λ is.
        let above : MAX_HEAPS ≤ k = omega (arith, is, high) in
        holds_beyond k giver above ∙ sym (holds_beyond k part above))
        (λ apart. holds_alike k part giver (value_of-without_else slot k part.held apart))

    pub owner_give : IsOwner taken part.who part → IsOwner given part.who giver
    owner_give owner = record {
      armed = refl;
      known = λ k.
          holdings_told k given part.holdings
          ∙ (ap (option_map (λ holding. standing_of k given)) (owner.known k)
          ∙ (holding_told (holds_heap k part) k taken given ∙ ap (λ (b : Bool). holding_by b k given) (sym (giver_holds k))));
      asking = λ ask is.
          ⊎_elim
          (λ was.
          ⊎_elim (λ settled. inl (settled_given (knows_of part) taken given sound sound' armed form ask.from ask.number settled))
          (λ held. inr (giver_holds ask.heap ∙ held)) (owner.asking ask (sym owner.armed ∙ was)))
          (λ arms. inr (giver_holds ask.heap ∙ held_known taken part.who part owner ask.heap arms.1))
          (armed_by_give (knows_of part) taken given form part.who ask is);
    }

  -- by another: of the heaps that it holds the giver knows nothing
  pub owner_other : (who : ℕ) (mine : Mine) → who ≢ part.who → ((heap : ℕ) → holds_heap heap mine ≡ true → value_of heap part.holdings ≡ None)
      → IsOwner taken who mine → IsOwner given who mine
  owner_other who mine apart none owner = record {
    armed = asks_given (knows_of part) taken given form who apart ∙ owner.armed;
    known = λ heap.
        owner.known heap
        ∙ holding_alike (holds_heap heap mine) heap taken given (λ holds. standing_given (knows_of part) taken given sound form heap (none heap holds));
    asking = λ ask is.
        ⊎_elim (λ settled. inl (settled_given (knows_of part) taken given sound sound' armed form ask.from ask.number settled))
        (λ held. inr held) (owner.asking ask is);
  }
