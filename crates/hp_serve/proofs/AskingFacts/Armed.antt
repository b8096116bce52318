-- What arms a participant with a new ask: its earlier one is settled, no growth of it is open, nothing is claimed for the new number, and
-- the value may be given back.
use Rattle.std.proofs.Common.{◌≡◌, ◌∙◌, ℕ, ◌+◌, ◌<◌, ◌≤◌, max, false, true, not, List, [], ◌++◌, length, drop, append-nil, Option, Some, None, IfSome, refl, ap, sym, subst, inl, inr, arith}
use Rattle.std.specs.Prelude.{Contains, IsSome, slice_index_or, slice_set}
use Rattle.std.specs.List.{fold}
use Rattle.std.specs.Option.{option_map, option_map_or}
use Rattle.std.proofs.lemmas.Bool.{and_parts}
use Rattle.std.proofs.lemmas.List.{drop_all, get_or-set_other, get_or-set_same}
use Rattle.std.proofs.lemmas.List.Sums.{fold-append}
use Rattle.hp_hall.specs.Giving.{GivesSegments, Knows, logs}
use Rattle.hp_hall.specs.Holding.{AreStanding, HeapPart, part_after}
use Rattle.hp_segs.specs.Standing.{Holding, is_claimed_for, standing_of}
use Rattle.hp_hall.specs.Standings.{ArmKeeps}
use Rattle.hp_hall.specs.Asks.{IsKnownSettled}
use Rattle.hp_hall.proofs.Gives.{none_opens}
use Rattle.hp_hall.proofs.AsksOfHalls.KnownAsks.{known_is_settled}
use Rattle.hp_hall.proofs.StandingFacts.StandingAsks.{closed_above}
use Rattle.hp_heap.proofs.AllocFacts.ChoiceLaw.{Contains-filter}
use Rattle.hp_segs.proofs.GrowthSteps.GrantLemmas.{closing, closing_grows}
use Rattle.hp_segs.specs.Calls.{HasNoGrowth, MayArm}
use Rattle.hp_segs.specs.GrowthLaws.{IsOfArmed}
use Rattle.hp_segs.specs.LaterSteps.{after_arm, armed_ask}
use Rattle.hp_segs.specs.Moved.{Arm, IsMovedBy, is_log_call}
use Rattle.hp_segs.specs.SegsView.{SegsView, closed_number, granted_by, is_stale, is_unclaimed}
use Rattle.hp_segs.specs.SettledAsks.{IsSettled}
use Rattle.hp_segs.specs.Sound.{IsSound}
use Rattle.hp_segs.specs.declared.ask.Ask.{Ask}
use Rattle.hp_segs.specs.declared.growth.Growth.{Growth}
use Rattle.hp_segs.specs.declared.outcome.AskLog.{AskLog}
use Rattle.hp_segs.specs.declared.outcome.Outcome.{Outcome}
use Rattle.hp_segs.specs.declared.outcome.Outcome.TheVariants.{Granted, Refused, Stale, Freed}
use Rattle.hp_segs.specs.declared.row_state.Segment.{Segment}
use Rattle.hp_segs.proofs.Moves.{calls_move}
use Rattle.hp_segs.proofs.AskFacts.SettledLaws.{above_is_unsettled}
use Rattle.hp_serve.specs.Asking.{IsHeldAsBefore, HasSettledAsks}
use Rattle.hp_serve.proofs.Standing.{claims_same}

-- nothing stands after all outcomes
pub none_more : (asks : List AskLog) (entry : AskLog) → Contains (drop (length asks) asks) entry → ⊥
none_more asks entry among =
    let none = drop_all (length asks) asks (omega arith) in
    omega (arith, among.1, ap (λ (asks : List AskLog). length asks) none)

-- a closed number does not fall where outcomes follow
pub closed_more : (asks more : List AskLog) (who : ℕ) → closed_number asks who ≤ closed_number (asks ++ more) who
closed_more asks more who =
    let whole : closed_number (asks ++ more) who ≡ fold (closing who) (closed_number asks who) more = fold-append (closing who) 0 asks
    more in
    omega (arith, whole, closing_grows who (closed_number asks who) more)

-- an open growth of a participant is of the ask with which it is armed, and that is not settled
open_apart : (who : ℕ) (segs : SegsView) (growth : Option Growth) → IfSome growth (IsOfArmed segs.asks segs.armed)
    → ((ask : Ask) → armed_ask segs who ≡ Some ask → IsSettled ask.from ask.number segs) → HasNoGrowth who growth
open_apart who segs None is settled = tt
open_apart who segs (Some growth) is settled = λ same.
    let its : armed_ask segs who ≡ Some growth.ask =
    ap (λ from. slice_index_or segs.armed from None) (sym same) ∙ is.its_ask in
    above_is_unsettled segs growth.ask.from growth.ask.number is.above (settled growth.ask its)

-- an ask whose heap is in hand is settled where its participant knows so
settled_in_hand : (segs : SegsView) (heard more : List AskLog) (ask : Ask) (held : Option Holding) → IsSound segs
    → segs.asks ≡ heard ++ more → ((holding : Holding) → held ≡ Some holding → holding ≡ standing_of ask.heap segs) → IsSome held → IsKnownSettled heard held ask
    → IsSettled ask.from ask.number segs
settled_in_hand segs heard more ask None sound grown has holds known = cc
settled_in_hand segs heard more ask (Some holding) sound grown has holds known =
    known_is_settled segs heard more ask sound grown
    (subst (λ (holding : Holding). IsKnownSettled heard (Some holding) ask) (has holding refl) known)

module _ (who : ℕ) (parts now : ℕ → HeapPart) (segs : SegsView) (heard more : List AskLog) (grown : segs.asks ≡ heard ++ more)
    (same : (heap : ℕ) → now heap ≡ parts heap) (sound : IsSound segs) (standing : AreStanding who now segs)
    (settled : HasSettledAsks parts heard) where
  -- the ask with which it is armed is settled: by the value, or as the participant knows that has the ask's heap in hand
  pub earlier_settled : (earlier : Ask) → armed_ask segs who ≡ Some earlier → IsSettled earlier.from earlier.number segs
  earlier_settled earlier is = elim (standing.asking earlier is) [
    | inl done ↦ done
    | inr holds ↦
        let mine : (parts earlier.heap).armed ≡ Some earlier =
        ap (λ (part : HeapPart). part.armed) (sym (same earlier.heap)) ∙ (standing.armed earlier.heap ∙ is) in
        let known =
        subst (λ (part : HeapPart). IsKnownSettled heard part.holding earlier) (sym (same earlier.heap))
        (settled earlier.heap earlier mine refl) in
        settled_in_hand segs heard more earlier (now earlier.heap).holding sound grown (standing.held earlier.heap) holds known
  ]

  -- it may be armed with any ask of its own
  pub may_arm : (ask : Ask) → ask.from ≡ who → who < 16 → MayArm ask segs
  may_arm ask own few = record {
    participant = subst (λ from. from < 16) (sym own) few;
    alone = subst (λ from. HasNoGrowth from segs.growth) (sym own)
        (open_apart who segs segs.growth standing.sound.growth earlier_settled);
  }

-- the next number is above the last one and the closed one
pub next_above : (before number closed : ℕ) → number ≡ max before closed + 1 → closed < number
next_above before number closed is = grind (arith, is)

pub next_later : (before number closed : ℕ) → number ≡ max before closed + 1 → before < number
next_later before number closed is = grind (arith, is)

-- what is claimed was granted, and so is not Stale
granted_fresh : (segments : List Segment) (outcome : Outcome)
    → option_map_or (λ generation. not (is_unclaimed segments generation)) (granted_by outcome) false ≡ true → is_stale outcome ≡ false
granted_fresh segments (Granted generation) is = refl
granted_fresh segments (Refused cause) is = cc
granted_fresh segments (Stale done) is = cc
granted_fresh segments (Freed generation) is = cc

-- what is claimed for a heap has a number that is not above the closed one
claimed_below : (segs : SegsView) (heap : ℕ) (entry : AskLog) → Contains (standing_of heap segs).claimed entry
    → entry.number ≤ closed_number segs.asks entry.from
claimed_below segs heap entry among =
    let kept = Contains-filter (is_claimed_for heap segs.segments) segs.asks entry among in
    let both = and_parts _ _ kept.0 in
    closed_above segs.asks entry kept.1 (granted_fresh segs.segments entry.outcome both.1)

-- the participant is armed with the ask afterwards
armed_now : (who : ℕ) (ask : Ask) (segs : SegsView) → ask.from ≡ who → who < 16 → IsSound segs
    → armed_ask (after_arm ask segs) who ≡ Some ask
armed_now who ask segs own few sound =
    subst (λ from. slice_index_or (slice_set segs.armed ask.from (Some ask)) from None ≡ Some ask) own
    (get_or-set_same segs.armed ask.from (Some ask) None (omega (arith, few, own, sound.places.armed_places)))

held_now : (heap : ℕ) (segs : SegsView) (old : Option Holding) (holding : Holding)
    → option_map (λ holding. standing_of heap segs) old ≡ Some holding
    → holding ≡ standing_of heap segs
held_now heap segs None holding is = cc
held_now heap segs (Some old) holding is = cc

held_alike : (heap : ℕ) (segs : SegsView) (old : Option Holding)
    → ((holding : Holding) → old ≡ Some holding → holding ≡ standing_of heap segs)
    → option_map (λ holding. standing_of heap segs) old ≡ old
held_alike heap segs None is = refl
held_alike heap segs (Some old) is = ap Some (sym (is old refl))

module _ (who : ℕ) (ask : Ask) (parts now : ℕ → HeapPart) (segs : SegsView) (sound : IsSound segs) (standing : AreStanding who parts segs)
    (own : ask.from ≡ who) (is : (heap : ℕ) → now heap ≡ part_after who (after_arm ask segs) heap (parts heap)) where
  -- once the value is given back the participant is armed with the ask
  pub is_armed : who < 16 → (heap : ℕ) → (now heap).armed ≡ Some ask
  is_armed few heap = ap (λ (part : HeapPart). part.armed) (is heap) ∙ armed_now who ask segs own few sound

  -- and holds what it held
  pub still_held : (heap : ℕ) → IsHeldAsBefore (parts heap) (now heap)
  still_held heap = record {
    entries = ap (λ (part : HeapPart). part.entries) (is heap);
    marked = ap (λ (part : HeapPart). part.marked) (is heap);
    serves = ap (λ (part : HeapPart). part.serves) (is heap);
    told = ap (λ (part : HeapPart). part.told) (is heap);
    naming = ap (λ (part : HeapPart). part.naming) (is heap);
    claims = ap (λ (part : HeapPart). part.claims) (is heap) ∙ claims_same (parts heap).claims segs.ranges (standing.claims heap);
    holding = ap (λ (part : HeapPart). part.holding) (is heap) ∙ held_alike heap segs (parts heap).holding (standing.held heap);
  }

-- a participant that holds what a value has for its heaps has claimed nothing for a number above the closed one
pub none_claimed : (who : ℕ) (ask : Ask) (parts : ℕ → HeapPart) (segs : SegsView)
    → ((heap : ℕ) (holding : Holding) → (parts heap).holding ≡ Some holding → holding ≡ standing_of heap segs) → ask.from ≡ who
    → closed_number segs.asks who < ask.number → (heap : ℕ) (holding : Holding) (entry : AskLog) → (parts heap).holding ≡ Some holding
    → Contains holding.claimed entry → entry.from ≡ ask.from → entry.number < ask.number
none_claimed who ask parts segs held own above heap holding entry is among from =
    let there = subst (λ (holding : Holding). Contains holding.claimed entry) (held heap holding is) among in
    let closed : closed_number segs.asks entry.from ≡ closed_number segs.asks who = ap (closed_number segs.asks) (from ∙ own) in
    omega (arith, claimed_below segs heap entry there, closed, above)

-- the heap of the ask that is armed is held
is_held : (knows : Knows) (ask other : Ask) (segs : SegsView) → IsSound segs → MayArm ask segs → ask.from ≡ knows.who
    → IsSome (knows.part ask.heap).holding → armed_ask (after_arm ask segs) knows.who ≡ Some other
    → IsSome (knows.part other.heap).holding
is_held knows ask other segs sound may own holds is =
    let few : knows.who < 16 = subst (λ from. from < 16) own may.participant in
    let both : Some ask ≡ Some other = sym (armed_now knows.who ask segs own few sound) ∙ is in
    let same : ask.heap ≡ other.heap = ap (λ (o : Option Ask). option_map_or (λ (ask : Ask). ask.heap) o 0) both in
    subst (λ heap. IsSome (knows.part heap).holding) same holds

-- a settled ask is so still once another is armed
settled_still : (ask : Ask) (segs : SegsView) (from number : ℕ) → IsSettled from number segs → IsSettled from number (after_arm ask segs)
settled_still ask segs from number settled = record { answered = settled.answered; claimed = settled.claimed }

-- the value with the ask armed may be given back by its participant, whose earlier ask is settled
pub arm_gives : (knows : Knows) (ask : Ask) (segs : SegsView) → ArmKeeps → IsSound segs → MayArm ask segs → ask.from ≡ knows.who
    → closed_number segs.asks ask.from < ask.number → IsSome (knows.part ask.heap).holding
    → ((earlier : Ask) → armed_ask segs knows.who ≡ Some earlier → IsSettled earlier.from earlier.number segs)
    → GivesSegments knows segs (after_arm ask segs)
arm_gives knows ask segs keeps sound may own above holds settled =
    let arms : IsMovedBy is_log_call 0 segs (after_arm ask segs) = calls_move is_log_call (Arm ask) segs refl may in
    record {
      more = [];
      log = sym (append-nil segs.log);
      form = logs (record {
        give = record {
          moved = record { calls = arms.calls; leads = arms.leads; only = arms.only; few = omega (arith, arms.few) };
          agreed = λ entry generation member among granted joined. absurd (none_more segs.asks entry among);
        };
        arms = record {
          others = λ other apart. get_or-set_other segs.armed ask.from other (Some ask) None (λ same. apart (same ∙ own));
          for_held = λ other is. inr (is_held knows ask other segs sound may own holds is);
          settled = λ earlier is. inr (settled_still ask segs earlier.from earlier.number (settled earlier is));
          of_armed = λ armed. keeps segs ask sound armed may above;
          answers = λ armed entry other among kept. absurd (none_more segs.asks entry among);
        };
        opens = λ armed. none_opens segs arms.calls arms.few;
      });
    }
