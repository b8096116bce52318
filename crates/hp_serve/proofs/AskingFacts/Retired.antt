-- A run that was cut from a heap is its own, and what the value has for that heap is without the run's rows once it is given up.
use Rattle.std.proofs.Common.{◌≡◌, ◌≢◌, ◌∙◌, ℕ, List, [], ◌++◌, append-nil, Option, Some, None, refl, ap, sym, subst, inl, inr}
use Rattle.std.proofs.lemmas.Bool.{cases_eq}
use Rattle.std.specs.Option.{option_map}
use Rattle.hp_base.specs.declared.row.Run.{Run}
use Rattle.hp_hall.specs.Giving.{GivesSegments, Knows, owns}
use Rattle.hp_hall.specs.Asks.{IsKnownSettled}
use Rattle.hp_hall.specs.Holding.{AreStanding, HasPages, HeapPart, IsSettledFor, part_after}
use Rattle.hp_segs.specs.Standing.{Holding, owned_by, standing_of}
use Rattle.hp_hall.specs.Standings.{IsGivenUpWith, RetireLeavesOthers, RetireTakesPages, RetireTakesRows}
use Rattle.hp_heap.specs.Cut.{after_cut}
use Rattle.hp_heap.specs.PlainHeap.{PlainHeap}
use Rattle.hp_segs.specs.Calls.{OwnsRun}
use Rattle.hp_segs.specs.LaterSteps.{armed_ask}
use Rattle.hp_segs.specs.Moved.{Retire, is_owner_call}
use Rattle.hp_segs.specs.SegsView.{SegsView}
use Rattle.hp_segs.specs.Sound.{IsSound}
use Rattle.hp_segs.specs.Steps.{after_retire}
use Rattle.hp_segs.specs.declared.ask.Ask.{Ask}
use Rattle.hp_segs.specs.declared.outcome.AskLog.{AskLog}
use Rattle.hp_segs.proofs.Moves.{calls_move}
use Rattle.hp_segs.specs.declared.external_range.ExternalRange.{ExternalRange}
use Rattle.hp_serve.proofs.Standing.{claims_same}
use Rattle.hp_serve.specs.Asking.{GivesUp, HasSettledAsks, IsCutFrom, without_run}
use Rattle.hp_serve.proofs.AskingFacts.AskKnown.{known_more}
use Rattle.hp_serve.proofs.AskingFacts.AskSettled.{held_by, part_alike}

module _ (who heap : ℕ) (run : Run) (parts : ℕ → HeapPart) (segs : SegsView) (sound : IsSound segs) (standing : AreStanding who parts segs)
    (holding : Holding) (held : (parts heap).holding ≡ Some holding) (takes : RetireTakesPages) where
  -- of a heap from which it was cut
  given_up : (left : PlainHeap) (cut : IsCutFrom heap run holding left) → IsGivenUpWith cut.address cut.whole run segs
  given_up left cut =
      takes segs cut.address cut.whole run sound cut.cut
      (subst (λ index. HasPages cut.whole.pages (owned_by index segs)) (sym cut.its_index)
      (subst (λ (holding : Holding). HasPages cut.whole.pages holding.owned) (standing.held heap holding held) cut.pages))

  module _ (left : PlainHeap) (cut : IsCutFrom heap run holding left) where
    -- the heap owns the run
    pub owns_run : OwnsRun heap run segs
    owns_run = subst (λ index. OwnsRun index run segs) cut.its_index (given_up left cut).own

    module _ (leaves : RetireLeavesOthers) where
      others_stay : (other : ℕ) → other ≢ heap → standing_of other (after_retire heap run segs) ≡ standing_of other segs
      others_stay = leaves segs heap run sound owns_run

      -- the value without it may be given back by the holder of the heap
      pub retire_gives : (knows : Knows) → ((other : ℕ) → knows.part other ≡ parts other) → GivesSegments knows segs (after_retire heap run segs)
      retire_gives knows same = record {
        more = [];
        log = sym (append-nil segs.log);
        form = owns (record {
          give = record { moved = calls_move is_owner_call (Retire heap run) segs refl owns_run };
          others = λ other none. others_stay other (λ is.
              let here : (parts heap).holding ≡ None =
              ap (λ other. (parts other).holding) (sym is) ∙ (ap (λ (part : HeapPart). part.holding) (sym (same other)) ∙ none) in
              let wrong : Some holding ≡ None = sym held ∙ here in
              cc);
        });
      }

      module _ (rows : RetireTakesRows) (now : ℕ → HeapPart)
          (is : (other : ℕ) → now other ≡ part_after who (after_retire heap run segs) other (parts other)) where
        abbrev given : SegsView
        given = after_retire heap run segs

        left_is : standing_of heap given ≡ without_run run holding
        left_is = rows segs heap run sound owns_run ∙ ap (without_run run) (sym (standing.held heap holding held))

        -- what is known of the external memory that is claimed, after it
        abbrev known : Option (List ExternalRange)
        known = option_map (λ (claims : List ExternalRange). given.ranges) (parts heap).claims

        -- the part in another heap stays
        pub part_stays : (other : ℕ) → other ≢ heap → now other ≡ parts other
        part_stays other apart =
            is other ∙ part_alike who other given (parts other)
            (held_by other segs given (parts other).holding (others_stay other apart) (standing.held other)) (sym (standing.armed other))
            (standing.claims other)

        -- and the part in this one is without the run
        pub gives_up : GivesUp heap run (parts heap) (now heap)
        gives_up = record {
          before = holding;
          held = held;
          left = is heap
              ∙ (ap (λ (holding : Option Holding). record (parts heap) { holding = holding; armed = armed_ask given who; claims = known })
              (ap (option_map (λ holding. standing_of heap given)) held ∙ ap Some left_is)
              ∙ ap (λ (ask : Option Ask). record (parts heap) { holding = Some (without_run run holding); armed = ask; claims = known })
              (sym (standing.armed heap))
              ∙ ap (λ (claims : Option (List ExternalRange)). record (parts heap) { holding = Some (without_run run holding); claims = claims })
              (claims_same (parts heap).claims given.ranges (standing.claims heap)));
          pages = λ left cut.
              subst (λ (heap : PlainHeap). HasPages heap.pages (without_run run holding).owned) (sym cut.left_is)
              (subst (λ (holding : Holding). HasPages (after_cut cut.address cut.whole).pages holding.owned) left_is
              (subst (λ index. HasPages (after_cut cut.address cut.whole).pages (owned_by index given)) cut.its_index
              (given_up left cut).pages));
        }

-- who gives up a run stays settled in its asks: what the heap has claimed stays, and outcomes follow
pub settled_behind : (heap : ℕ) (run : Run) (old new : ℕ → HeapPart) (segs : SegsView) (heard more : List AskLog) → IsSound segs
    → segs.asks ≡ heard ++ more → GivesUp heap run (old heap) (new heap) → ((other : ℕ) → other ≢ heap → new other ≡ old other)
    → HasSettledAsks old heard → HasSettledAsks new segs.asks
settled_behind heap run old new segs heard more sound grown gives others settled other = elim (cases_eq other heap) [
  | inl same ↦ subst (λ index. IsSettledFor index segs.asks (new index)) (sym same) (λ ask armed its.
      let was : (old heap).armed ≡ Some ask = sym (ap (λ (part : HeapPart). part.armed) gives.left) ∙ armed in
      let known : IsKnownSettled segs.asks (Some gives.before) ask =
      subst (λ (held : Option Holding). IsKnownSettled segs.asks held ask) gives.held
      (known_more segs heard more (old heap).holding ask sound grown (settled heap ask was its)) in
      let left : (new heap).holding ≡ Some (without_run run gives.before) = ap (λ (part : HeapPart). part.holding) gives.left in
      subst (λ (held : Option Holding). IsKnownSettled segs.asks held ask) (sym left)
      (record { answered = known.answered; claims = known.claims }))
  | inr apart ↦ subst (λ (part : HeapPart). IsSettledFor other segs.asks part) (sym (others other apart)) (λ ask armed its.
      known_more segs heard more (old other).holding ask sound grown (settled other ask armed its))
]
