-- What the participant that asks rests on: it may be armed, its refused ask is settled, and so it may give its heap as it was taken.
use Rattle.std.proofs.Common.{◌≡◌, ◌∙◌, ℕ, true, List, [], ◌∷◌, map, Option, Some, None, IfNone, IfSome, refl, sym, ap, subst, arith}
use Rattle.std.specs.Prelude.{IsSome, slice_index_or, slice_set}
use Rattle.std.specs.List.{find}
use Rattle.std.specs.Option.{option_map}
use Rattle.std.proofs.lemmas.List.{get_or-set_same}
use Rattle.hp_heap.specs.History.{SameButSpare}
use Rattle.hp_segs.specs.Calls.{HasNoGrowth, MayArm}
use Rattle.hp_segs.specs.GrowthLaws.{IsOfArmed}
use Rattle.hp_segs.specs.LaterSteps.{after_arm, armed_ask}
use Rattle.hp_segs.specs.SegsView.{SegsView, closed_number, grant_or_refusal_of, grants_or_refuses}
use Rattle.hp_segs.specs.Sound.{IsSound}
use Rattle.hp_segs.specs.Standing.{Holding, IsArmed, standing_of}
use Rattle.hp_segs.specs.declared.ask.Ask.{Ask}
use Rattle.hp_segs.specs.declared.growth.Growth.{Growth}
use Rattle.hp_segs.specs.declared.outcome.AskLog.{AskLog}
use Rattle.hp_segs.specs.declared.outcome.Cause.{Cause}
use Rattle.hp_segs.specs.declared.outcome.Outcome.{Outcome}
use Rattle.hp_segs.specs.declared.outcome.Outcome.TheVariants.{Granted, Refused, Stale, Freed}
use Rattle.hp_hall.proofs.NamesLeft.{leaves_itself}
use Rattle.hp_hall.specs.Giving.{GivesSegments, entries_made}
use Rattle.hp_hall.specs.Views.{HeldHeap}
use Rattle.std.proofs.lemmas.List.{append-nil}
use Rattle.hp_board.specs.Giving.{IsGiveAt}
use Rattle.hp_hall.specs.Holding.{AreStanding, IsAsPart, IsHeldWith, StandsFor}
use Rattle.hp_hall.specs.declared.kept.Kept.{Kept}
use Rattle.hp_hall.specs.declared.kept.Kept.TheVariants.{Heap}
use Rattle.hp_hall.proofs.StandingFacts.StandingArms.{arm_keeps}
use Rattle.hp_serve.proofs.AskingFacts.Armed.{arm_gives}
use Rattle.hp_serve.proofs.AskingFacts.AskKnown.{only_answer, refused_known}
use Rattle.hp_board.specs.Handed.{HasTakenLater, IsHanded}
use Rattle.hp_board.specs.KeptValues.{IsKeptAt}
use Rattle.hp_board.specs.Knowing.{heap_part, knows_of}
use Rattle.hp_board.specs.Views.{claims_taken, holdings_taken, value_of, without}
use Rattle.hp_board.specs.declared.view.Mine.{Mine}
use Rattle.hp_board.proofs.Gives.{gives_heap, gives_same}
use Rattle.test_board.proofs.PlayLemmas.{noted_none}
use Rattle.test_board.specs.Asking.{IsArmedWith, IsAsking, IsRefusedIn, refuses}
use Rattle.test_board.specs.Playing.{HasGiven, HasSegs, HasTurned}

-- REFUSED

refused_by : (segs : SegsView) (from number : ℕ) (cause : Cause) (found : Option AskLog) → IsSound segs → find (grants_or_refuses from number) segs.asks ≡ found
    → option_map (λ (entry : AskLog). entry.outcome) found ≡ Some (Refused cause) → IsRefusedIn segs.asks from number
refused_by segs from number cause None sound is refused = absurd (cc)
refused_by segs from number cause (Some entry) sound is refused = λ ask holding whose numbered.
    let found : find (grants_or_refuses ask.from ask.number) segs.asks ≡ Some entry =
    ap (λ (n : ℕ). find (grants_or_refuses n ask.number) segs.asks) whose ∙ (ap (λ (n : ℕ). find (grants_or_refuses from n) segs.asks) numbered ∙ is) in
    let outcome : entry.outcome ≡ Refused cause = cc in
    refused_known segs.asks holding ask entry cause found (only_answer segs ask entry sound found) outcome

-- an ask whose logged answer is a refusal is settled, whatever its heap has
refused_in : (segs : SegsView) (from number : ℕ) (cause : Cause) → IsSound segs → grant_or_refusal_of segs.asks from number ≡ Some (Refused cause) → IsRefusedIn segs.asks from number
refused_in segs from number cause sound is = refused_by segs from number cause (find (grants_or_refuses from number) segs.asks) sound refl is

-- an answer that refuses is a refusal
refusal_of : (outcome : Option Outcome) → refuses outcome ≡ true → (cause : Cause) × (outcome ≡ Some (Refused cause))
refusal_of None is = absurd (cc)
refusal_of (Some (Granted generation)) is = absurd (cc)
refusal_of (Some (Refused cause)) is = (cause, refl)
refusal_of (Some (Stale done)) is = absurd (cc)
refusal_of (Some (Freed generation)) is = absurd (cc)

pub refused_when : (segs : SegsView) (from number : ℕ) → IsSound segs → refuses (grant_or_refusal_of segs.asks from number) ≡ true → IsRefusedIn segs.asks from number
refused_when segs from number sound is =
    let refusal = refusal_of (grant_or_refusal_of segs.asks from number) is in
    refused_in segs from number refusal.0 sound refusal.1

-- ARMED

-- who has no ask has no growth open
no_growth : (segs : SegsView) (growth : Option Growth) → IfSome growth (IsOfArmed segs.asks segs.armed) → armed_ask segs 1 ≡ None → HasNoGrowth 1 growth
no_growth segs None is none = tt
no_growth segs (Some growth) is none = λ same.
    let its : armed_ask segs 1 ≡ Some growth.ask = ap (λ (from : ℕ). slice_index_or segs.armed from None) (sym same) ∙ is.its_ask in
    let wrong : None ≡ Some growth.ask = sym none ∙ its in
    absurd (cc)

pub may_be_armed : (segs : SegsView) (ask : Ask) → IsArmed segs → armed_ask segs 1 ≡ None → ask.from ≡ 1 → MayArm ask segs
may_be_armed segs ask armed none own = record {
  participant = omega (arith, own);
  alone = subst (λ (from : ℕ). HasNoGrowth from segs.growth) (sym own) (no_growth segs segs.growth armed.growth none);
}

armed_now : (ask : Ask) (segs : SegsView) → ask.from ≡ 1 → IsSound segs → armed_ask (after_arm ask segs) 1 ≡ Some ask
armed_now ask segs own sound =
    subst (λ (from : ℕ). slice_index_or (slice_set segs.armed ask.from (Some ask)) from None ≡ Some ask) own
    (get_or-set_same segs.armed ask.from (Some ask) None (omega (arith, own, sound.places.armed_places)))

is_some : {A : Type 0} (o : Option A) (x : A) → o ≡ Some x → IsSome o
is_some o x is = subst IsSome (sym is) refl

module _ (old mid : Mine) (segs : SegsView) (heap : HeldHeap) (asking : IsAsking heap None old) (has : HasSegs old segs mid) (sound : IsSound segs)
    (standing : AreStanding mid.who (heap_part mid) segs) where
  who_is : mid.who ≡ 1
  who_is = has.who ∙ asking.who

  known : value_of 0 mid.holdings ≡ Some asking.holding
  known = ap (value_of 0) (has.holdings ∙ asking.holdings)

  -- it has no ask in the value
  pub unarmed : armed_ask segs 1 ≡ None
  unarmed = subst (λ (w : ℕ). armed_ask segs w ≡ None) who_is (sym (standing.armed 0) ∙ (has.armed ∙ asking.armed))

  module _ (ask : Ask) (given : SegsView) (arms : IsArmedWith ask segs given) where
    -- the value may be given with the ask armed
    pub arms_gives : GivesSegments (knows_of mid) segs given
    arms_gives =
        subst (GivesSegments (knows_of mid) segs) (sym arms.step)
        (arm_gives (knows_of mid) ask segs arm_keeps sound arms.may (arms.from ∙ sym who_is)
        (let above = arms.above in let same : closed_number segs.asks ask.from ≡ closed_number segs.asks 1 = ap (closed_number segs.asks) arms.from in omega (arith, above, same))
        (is_some (value_of ask.heap mid.holdings) asking.holding (ap (λ (k : ℕ). value_of k mid.holdings) arms.heap ∙ known))
        (λ earlier is.
        let wrong : None ≡ Some earlier = sym (ap (armed_ask segs) who_is ∙ unarmed) ∙ is in
        absurd (cc)))

    -- and then the participant is armed with it, and has what it had
    pub arms_asking : (new : Mine) → HasGiven mid given new → IsAsking heap (Some ask) new
    arms_asking new gives =
        let same : asking.holding ≡ standing_of 0 segs = standing.held 0 asking.holding known in
        let still : standing_of 0 given ≡ asking.holding = ap (standing_of 0) arms.step ∙ sym same in
        record {
          holding = asking.holding;
          who = gives.who ∙ who_is;
          held = gives.held ∙ (ap (without 32) has.held ∙ ap (without 32) asking.held);
          holdings =
              gives.holdings ∙ (ap (map {B = ℕ × Holding} (λ (pair : ℕ × Holding). (pair.0, standing_of pair.0 given))) (has.holdings ∙ asking.holdings)
              ∙ ap (λ (h : Holding). (0, h) ∷ []) still);
          pairs = asking.pairs;
          has = asking.has;
          index = asking.index;
          unclaimed = gives.unclaimed (has.claims ∙ asking.unclaimed);
          armed = gives.armed ∙ (ap (armed_ask given) who_is ∙ (ap (λ (s : SegsView). armed_ask s 1) arms.step ∙ armed_now ask segs arms.from sound));
          made = gives.made ∙ (has.made ∙ asking.made);
        }

-- HEAP IN HAND

-- it has taken the heap
pub took_heap : (old new : Mine) (kept : Kept) (heap : HeldHeap) → old.who ≡ 1 → old.held ≡ [] → old.holdings ≡ [] → old.armed ≡ None → old.made ≡ [] → old.claims ≡ None → kept ≡ Heap heap.heap heap.pen
    → IsHanded old 0 kept new → HasTakenLater 0 kept old new → IsAsking heap None new
took_heap old new kept heap first free nothing unarmed none unclaimed is handed takes =
    let at : IsKeptAt old.opening 0 (Heap heap.heap heap.pen) = subst (IsKeptAt old.opening 0) is handed.at in
    let holdings : new.holdings ≡ (0, takes.learned.holding) ∷ [] =
    ap (λ (m : Mine). m.holdings) takes.view.1 ∙ (ap (λ (k : Kept). holdings_taken 0 k takes.learned.holding old.holdings) is
    ∙ ap (λ (l : List (ℕ × Holding)). (0, takes.learned.holding) ∷ l) nothing) in
    let stands : IsAsPart (heap_part new heap.heap.plain.index) heap.heap = subst (StandsFor old.who (heap_part new)) is handed.stands in
    let known : value_of heap.heap.plain.index new.holdings ≡ Some takes.learned.holding = ap (λ (k : ℕ). value_of k new.holdings) at.heap.index ∙ ap (value_of 0) holdings in
    record {
      holding = takes.learned.holding;
      who = ap (λ (m : Mine). m.who) takes.view.1 ∙ first;
      held =
          ap (λ (m : Mine). m.held) takes.view.1
          ∙ (ap (λ (l : List (ℕ × Kept)). (0, kept) ∷ l) free ∙ ap (λ (k : Kept). (0, k) ∷ []) is);
      holdings = holdings;
      pairs = at.pen.pairs;
      has = subst (IsHeldWith heap.heap) known stands.held;
      index = at.heap.index;
      unclaimed = ap (λ (m : Mine). m.claims) takes.view.1 ∙ (ap (λ (k : Kept). claims_taken k takes.learned old.claims) is ∙ unclaimed);
      armed = ap (λ (m : Mine). m.armed) takes.view.1 ∙ unarmed;
      made = ap (λ (m : Mine). m.made) takes.view.1 ∙ none;
    }

-- it has the heap in hand over a turn
pub asking_on : (heap : HeldHeap) (armed : Option Ask) (old new : Mine) → IsAsking heap armed old → HasTurned old new → IsAsking heap armed new
asking_on heap armed old new asking turned = record {
  holding = asking.holding;
  who = turned.who ∙ asking.who;
  held = turned.held ∙ ap (without 32) asking.held;
  holdings = turned.holdings 0 asking.holding asking.holdings ∙ asking.holdings;
  pairs = asking.pairs;
  has = asking.has;
  index = asking.index;
  unclaimed = turned.unclaimed asking.unclaimed;
  armed = turned.armed ∙ asking.armed;
  made = turned.made ∙ asking.made;
}

-- once its ask is refused it may give the heap as it was taken
pub gives_refused : (heap : HeldHeap) (ask : Ask) (mine : Mine) → IsAsking heap (Some ask) mine → ask.from ≡ 1 → IsRefusedIn mine.heard mine.who ask.number
    → IsGiveAt (knows_of mine) 0 (Heap heap.heap heap.pen)
gives_refused heap ask mine asking own refused =
    let same : SameButSpare heap.heap heap.heap = record { plain = refl; lists = refl; history = refl } in
    let known : value_of heap.heap.plain.index mine.holdings ≡ Some asking.holding =
    ap (λ (k : ℕ). value_of k mine.holdings) asking.index ∙ ap (value_of 0) asking.holdings in
    gives_heap mine 0 heap heap (ap (value_of 0) asking.held)
    (record {
      calls = gives_same mine.who (entries_made (heap_part mine)) heap.heap heap.heap same;
      pen = record { cell = refl; more = []; published = sym (append-nil heap.pen.published); pairs = asking.pairs };
    })
    (subst (IsHeldWith heap.heap) (sym known) asking.has)
    (λ other armed its.
    let both : Some other ≡ Some ask = sym armed ∙ asking.armed in
    let is : other ≡ ask = cc in
    refused other (heap_part mine heap.heap.plain.index).holding (ap (λ (a : Ask). a.from) is ∙ (own ∙ sym asking.who)) (ap (λ (a : Ask). a.number) is))
    (leaves_itself mine.who heap.heap.plain)
    (λ claims chunk knows among.
    let both : None ≡ Some claims = sym asking.unclaimed ∙ knows in
    absurd (cc))

-- EITHER WAY

-- it was armed, or not
module _ (old mid : Mine) (segs given : SegsView) (asking : (heap : HeldHeap) × IsAsking heap None old) (has : HasSegs old segs mid) (sound : IsSound segs)
    (standing : AreStanding mid.who (heap_part mid) segs) where
  pub gives_either : (o : Option Ask) → IfSome o (λ ask. IsArmedWith ask segs given) → IfNone o (given ≡ segs) → GivesSegments (knows_of mid) segs given
  gives_either None some none = subst (GivesSegments (knows_of mid) segs) (sym none) ((noted_none segs).gives (knows_of mid))
  gives_either (Some ask) some none = arms_gives old mid segs asking.0 asking.1 has sound standing ask given some

  pub asks_either : (new : Mine) (o : Option Ask) → IfSome o (λ ask. IsArmedWith ask segs given) → HasGiven mid given new
      → IfSome o (λ ask. (heap : HeldHeap) → IsAsking heap None old → IsAsking heap (Some ask) new)
  asks_either new None some gives = tt
  asks_either new (Some ask) some gives = λ heap was. arms_asking old mid segs heap was has sound standing ask given some new gives

pub roster_either : (segs given : SegsView) (o : Option Ask) → IfSome o (λ ask. IsArmedWith ask segs given) → IfNone o (given ≡ segs) → given.roster ≡ segs.roster
roster_either segs given None some none = ap (λ (s : SegsView). s.roster) none
roster_either segs given (Some ask) some none = ap (λ (s : SegsView). s.roster) some.step

pub from_either : (segs given : SegsView) (o : Option Ask) → IfSome o (λ ask. IsArmedWith ask segs given) → IfSome o (λ ask. ask.from ≡ 1)
from_either segs given None some = tt
from_either segs given (Some ask) some = some.from
