-- What settles an ask: a grant is claimed, a refusal stands, or the ask is taken back.
use Rattle.std.proofs.Common.{◌≡◌, ◌≢◌, ◌∙◌, ℕ, List, [], ◌∷◌, ◌++◌, append-nil, Option, Some, None, refl, ap, sym, subst}
use Rattle.std.specs.Prelude.{Contains, IsSome, slice_index_or}
use Rattle.std.specs.List.{find}
use Rattle.std.specs.Option.{option_and_then, option_map}
use Rattle.std.proofs.lemmas.List.Elements.{Contains-append_right}
use Rattle.hp_base.specs.declared.row.Run.{Run}
use Rattle.hp_heap.proofs.AllocFacts.ChoiceLaw.{Contains-here}
use Rattle.hp_hall.specs.Asks.{IsClaimedIn}
use Rattle.hp_hall.specs.Giving.{GivesSegments, Knows, owns}
use Rattle.hp_hall.specs.Holding.{AreStanding, HasPages, HeapPart, part_after}
use Rattle.hp_segs.specs.Standing.{Holding, owned_by, standing_of}
use Rattle.hp_hall.specs.Standings.{ClaimBrings, ClaimLeavesOthers, ClaimPuts, ClaimedCanGrow, IsGrantFor, PutsClaim}
use Rattle.hp_heap.specs.Growing.{after_grow}
use Rattle.hp_segs.specs.Calls.{IsUnclaimedGrant}
use Rattle.hp_segs.specs.LaterSteps.{armed_ask}
use Rattle.hp_segs.specs.Moved.{Claim, is_owner_call}
use Rattle.hp_segs.specs.SegsView.{SegsView, grant_of, grants_or_refuses, run_of}
use Rattle.hp_segs.specs.Sound.{IsSound}
use Rattle.hp_segs.specs.Steps.{after_claim, claimed_grant, claimed_run}
use Rattle.hp_segs.specs.declared.ask.Ask.{Ask}
use Rattle.hp_segs.specs.declared.external_range.ExternalRange.{ExternalRange}
use Rattle.hp_segs.specs.declared.outcome.AskLog.{AskLog}
use Rattle.hp_segs.specs.declared.outcome.Cause.{Cause}
use Rattle.hp_segs.specs.declared.outcome.Outcome.TheVariants.{Granted, Refused}
use Rattle.hp_segs.proofs.Moves.{calls_move}
use Rattle.hp_serve.specs.Asking.{BringsPages, Gives, IsAwaiting, MayCome, Settles}
use Rattle.hp_serve.proofs.Standing.{claims_same}
use Rattle.hp_serve.proofs.AskingFacts.AskKnown.{known_by, only_answer, refused_known}
use Rattle.hp_serve.proofs.AskingFacts.AskOutcomes.{can_claim, grant_for, grant_is, is_among, keeps_the_ask}

-- a part after a give is as it was, where the value has the same for its heap and its participant is armed with the same ask
pub part_alike : (who heap : ℕ) (segs : SegsView) (part : HeapPart)
    → option_map (λ holding. standing_of heap segs) part.holding ≡ part.holding
    → armed_ask segs who ≡ part.armed → ((known : List ExternalRange) → part.claims ≡ Some known → segs.ranges ≡ known)
    → part_after who segs heap part ≡ part
part_alike who heap segs part held armed ranges =
    let claims : Option (List ExternalRange) = option_map (λ (known : List ExternalRange). segs.ranges) part.claims in
    ap (λ (holding : Option Holding). record part { holding = holding; armed = armed_ask segs who; claims = claims }) held
    ∙ ap (λ (ask : Option Ask). record part { armed = ask; claims = claims }) armed
    ∙ ap (λ (known : Option (List ExternalRange)). record part { claims = known }) (claims_same part.claims segs.ranges ranges)

-- what is held of a heap is as it was, where the value has the same for that
pub held_by : (heap : ℕ) (old new : SegsView) (held : Option Holding) → standing_of heap new ≡ standing_of heap old
    → ((holding : Holding) → held ≡ Some holding → holding ≡ standing_of heap old)
    → option_map (λ holding. standing_of heap new) held ≡ held
held_by heap old new None same is = refl
held_by heap old new (Some holding) same is = ap Some (same ∙ sym (is holding refl))

pub some_holding : (held : Option Holding) → IsSome held → (holding : Holding) × (held ≡ Some holding)
some_holding None some = cc
some_holding (Some holding) some = (holding, refl)

-- a claim leaves the outcomes, the log and the armed asks
module _ (who number : ℕ) (segs : SegsView) where
  log_by : (grant : Option ℕ) → (claimed_grant segs grant).log ≡ segs.log
  log_by None = refl
  log_by (Some generation) = refl

  asks_by : (grant : Option ℕ) → (claimed_grant segs grant).asks ≡ segs.asks
  asks_by None = refl
  asks_by (Some generation) = refl

  armed_by : (grant : Option ℕ) → (claimed_grant segs grant).armed ≡ segs.armed
  armed_by None = refl
  armed_by (Some generation) = refl

  roster_by : (grant : Option ℕ) → (claimed_grant segs grant).roster ≡ segs.roster
  roster_by None = refl
  roster_by (Some generation) = refl

  ranges_by : (grant : Option ℕ) → (claimed_grant segs grant).ranges ≡ segs.ranges
  ranges_by None = refl
  ranges_by (Some generation) = refl

  pub claim_ranges : (after_claim who number segs).ranges ≡ segs.ranges
  claim_ranges = ranges_by (grant_of segs.asks who number)

  pub claim_roster : (after_claim who number segs).roster ≡ segs.roster
  claim_roster = roster_by (grant_of segs.asks who number)

  pub claim_log : (after_claim who number segs).log ≡ segs.log
  claim_log = log_by (grant_of segs.asks who number)

  pub claim_asks : (after_claim who number segs).asks ≡ segs.asks
  claim_asks = asks_by (grant_of segs.asks who number)

  pub claim_armed : (from : ℕ) → armed_ask (after_claim who number segs) from ≡ armed_ask segs from
  claim_armed from = ap (λ armed. slice_index_or armed from None) (armed_by (grant_of segs.asks who number))

  -- without a grant nothing is claimed
  pub claims_nothing : grant_of segs.asks who number ≡ None → after_claim who number segs ≡ segs
  claims_nothing none = ap (claimed_grant segs) none

-- the value with a claim may be given back by the holder of the heap
pub claim_gives : (knows : Knows) (who number : ℕ) (segs : SegsView) → IsUnclaimedGrant who number segs
    → ((heap : ℕ) → (knows.part heap).holding ≡ None → standing_of heap (after_claim who number segs) ≡ standing_of heap segs)
    → GivesSegments knows segs (after_claim who number segs)
claim_gives knows who number segs may others = record {
  more = [];
  log = claim_log who number segs ∙ sym (append-nil segs.log);
  form = owns (record { give = record { moved = calls_move is_owner_call (Claim who number) segs refl may }; others = others });
}

module _ (ask : Ask) (parts : ℕ → HeapPart) (segs : SegsView) (sound : IsSound segs) (standing : AreStanding ask.from parts segs)
    (awaits : IsAwaiting ask parts) (entry : AskLog) (found : find (grants_or_refuses ask.from ask.number) segs.asks ≡ Some entry) where
  abbrev held : (holding : Holding) × ((parts ask.heap).holding ≡ Some holding)
  held = some_holding (parts ask.heap).holding awaits.holds

  module _ (generation : ℕ) (granted : entry.outcome ≡ Granted generation) (leaves : ClaimLeavesOthers) where
    -- the claim leaves what the value has for all other heaps
    pub others_stay : (heap : ℕ) → heap ≢ ask.heap → standing_of heap (after_claim ask.from ask.number segs) ≡ standing_of heap segs
    others_stay =
        leaves segs ask.heap ask.from ask.number generation entry sound
        (grant_is ask parts segs sound standing awaits entry found generation granted)
        (is_among ask parts segs sound standing awaits entry found generation granted)
        (grant_for ask parts segs sound standing awaits entry found generation granted)

    -- so it leaves what it has for heaps that the participant does not hold
    pub unheld_stay : (heap : ℕ) → (parts heap).holding ≡ None
        → standing_of heap (after_claim ask.from ask.number segs) ≡ standing_of heap segs
    unheld_stay heap none = others_stay heap (λ same.
        let no : (parts ask.heap).holding ≡ None = ap (λ heap. (parts heap).holding) (sym same) ∙ none in
        let wrong : Some held.0 ≡ None = sym held.1 ∙ no in
        cc)

    module _ (puts : ClaimPuts) (brings : ClaimBrings) (grows : ClaimedCanGrow) (run : Run) (run_is : Some run ≡ claimed_run ask.from ask.number segs)
        (now : ℕ → HeapPart) (is : (heap : ℕ) → now heap ≡ part_after ask.from (after_claim ask.from ask.number segs) heap (parts heap))
      where
        abbrev given : SegsView
        given = after_claim ask.from ask.number segs

        its_run : run_of segs.log generation ≡ Some run
        its_run =
            ap (option_and_then (run_of segs.log)) (sym (grant_is ask parts segs sound standing awaits entry found generation granted))
            ∙ sym run_is

        holds_now : (now ask.heap).holding ≡ Some (standing_of ask.heap given)
        holds_now =
            ap (λ (part : HeapPart). part.holding) (is ask.heap) ∙ ap (option_map (λ holding. standing_of ask.heap given)) held.1

        may : MayCome ask.heap run held.0
        may heap index had serves chunks =
            grows segs ask.from ask.number run heap sound
            (can_claim ask parts segs sound standing awaits entry found generation granted) (sym run_is) serves chunks
            (subst (λ index. HasPages heap.pages (owned_by index segs)) (sym index)
            (subst (λ (holding : Holding). HasPages heap.pages holding.owned) (standing.held ask.heap held.0 held.1) had))

        pages : BringsPages ask.heap run held.0 (standing_of ask.heap given)
        pages heap index had =
            subst (λ index. HasPages (after_grow run heap).pages (owned_by index given)) index
            (brings segs ask.from ask.number generation entry run heap sound
            (grant_is ask parts segs sound standing awaits entry found generation granted)
            (is_among ask parts segs sound standing awaits entry found generation granted)
            (subst (λ index. IsGrantFor index generation entry) (sym index)
            (grant_for ask parts segs sound standing awaits entry found generation granted))
            (can_claim ask parts segs sound standing awaits entry found generation granted) (sym run_is)
            (subst (λ index. HasPages heap.pages (owned_by index segs)) (sym index)
            (subst (λ (holding : Holding). HasPages heap.pages holding.owned) (standing.held ask.heap held.0 held.1) had)))

        -- the grant and the run come after what the heap had claimed
        its_puts : PutsClaim entry run (standing_of ask.heap segs) (standing_of ask.heap given)
        its_puts =
            puts segs ask.heap ask.from ask.number generation entry run sound standing.pending.last
            (grant_is ask parts segs sound standing awaits entry found generation granted)
            (is_among ask parts segs sound standing awaits entry found generation granted)
            (grant_for ask parts segs sound standing awaits entry found generation granted)
            (can_claim ask parts segs sound standing awaits entry found generation granted) (sym run_is)

        -- so it is claimed
        claimed_now : IsClaimedIn (now ask.heap).holding entry
        claimed_now =
            subst (λ (holding : Option Holding). IsClaimedIn holding entry) (sym holds_now)
            (subst (λ asks. Contains asks entry) (sym its_puts.claimed)
            (Contains-append_right (standing_of ask.heap segs).claimed (entry ∷ []) entry (Contains-here entry [])))

        armed_now : (heap : ℕ) → (now heap).armed ≡ (parts heap).armed
        armed_now heap =
            ap (λ (part : HeapPart). part.armed) (is heap) ∙ (claim_armed ask.from ask.number segs ask.from ∙ sym (standing.armed heap))

        -- a claim settles the ask
        pub claim_settles : Settles segs.log segs.asks ask parts now (Some run)
        claim_settles = record {
          answer = record {
            entry = entry;
            logged = found;
            kept = keeps_the_ask ask parts segs sound standing awaits entry found;
            given = subst (λ outcome. Gives segs.log outcome (Some run)) (sym granted) its_run;
          };
          known = known_by segs.asks (now ask.heap).holding ask entry found (only_answer segs ask entry sound found) (λ stamp granted. claimed_now);
          grows = record {
            entries = ap (λ (part : HeapPart). part.entries) (is ask.heap);
            marked = ap (λ (part : HeapPart). part.marked) (is ask.heap);
            serves = ap (λ (part : HeapPart). part.serves) (is ask.heap);
            told = ap (λ (part : HeapPart). part.told) (is ask.heap);
            naming = ap (λ (part : HeapPart). part.naming) (is ask.heap);
            claims = ap (λ (part : HeapPart). part.claims) (is ask.heap)
                ∙ claims_same (parts ask.heap).claims given.ranges
                (λ known is. claim_ranges ask.from ask.number segs ∙ standing.claims ask.heap known is);
            before = held.0;
            behind = standing_of ask.heap given;
            held = held.1;
            holds = holds_now;
            grows = record {
              may = may;
              pages = pages;
              came = its_puts.came ∙ ap (λ (holding : Holding). holding.came ++ run ∷ []) (sym (standing.held ask.heap held.0 held.1));
              retired = its_puts.retired ∙ ap (λ (holding : Holding). holding.retired) (sym (standing.held ask.heap held.0 held.1));
            };
          };
          others = λ heap apart. is heap ∙ part_alike ask.from heap given (parts heap)
              (held_by heap segs given (parts heap).holding (others_stay heap apart) (standing.held heap))
              (claim_armed ask.from ask.number segs ask.from ∙ sym (standing.armed heap))
              (λ known is. claim_ranges ask.from ask.number segs ∙ standing.claims heap known is);
          armed = armed_now;
        }

  -- a refusal that stands settles it
  pub refusal_settles : (cause : Cause) → entry.outcome ≡ Refused cause → (now : ℕ → HeapPart) → ((heap : ℕ) → now heap ≡ parts heap)
      → Settles segs.log segs.asks ask parts now None
  refusal_settles cause refused now is = record {
    answer = record {
      entry = entry;
      logged = found;
      kept = keeps_the_ask ask parts segs sound standing awaits entry found;
      given = subst (λ outcome. Gives segs.log outcome None) (sym refused) tt;
    };
    known = refused_known segs.asks (now ask.heap).holding ask entry cause found (only_answer segs ask entry sound found) refused;
    grows = record {
      entries = ap (λ (part : HeapPart). part.entries) (is ask.heap);
      marked = ap (λ (part : HeapPart). part.marked) (is ask.heap);
      serves = ap (λ (part : HeapPart). part.serves) (is ask.heap);
      told = ap (λ (part : HeapPart). part.told) (is ask.heap);
      naming = ap (λ (part : HeapPart). part.naming) (is ask.heap);
      claims = ap (λ (part : HeapPart). part.claims) (is ask.heap);
      before = held.0;
      behind = held.0;
      held = held.1;
      holds = ap (λ (part : HeapPart). part.holding) (is ask.heap) ∙ held.1;
      grows = refl;
    };
    others = λ heap apart. is heap;
    armed = λ heap. ap (λ (part : HeapPart). part.armed) (is heap);
  }
