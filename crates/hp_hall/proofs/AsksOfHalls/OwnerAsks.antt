-- Asks under a give by which heaps take and give up rows: less is pending, and what is settled stays so.
use Rattle.std.proofs.Common.{◌≡◌, ◌==◌, ◌∙◌, ℕ, Bool, true, false, ◌&&◌, ◌||◌, List, [], ◌∷◌, map, Option, Some, None, IsTrue, refl, ap, sym, subst, if◌then◌else◌}
use Rattle.std.specs.Prelude.{Contains, slice_index_or}
use Rattle.std.specs.List.{All, list_any}
use Rattle.std.proofs.lemmas.Bool.{and_parts, false_from_ne_true, or_right}
use Rattle.std.proofs.lemmas.List.Elements.{All-head, All-tail}
use Rattle.hp_log.specs.Rows.{in_run}
use Rattle.hp_segs.specs.LaterSteps.{armed_ask}
use Rattle.hp_segs.specs.Moved.{SegsCall, Reserve, OpenRun, CloseAsk, LogStale, NoteFailed, Agree, Cancel, Claim, Arm, Withdraw, Retire, DropRetiring, LogFreed, JoinRoster, LeaveRoster, ClaimRange, ReleaseRange, IsMovedBy, Leads, after, is_owner_call}
use Rattle.hp_segs.specs.PendingRuns.{IsPending, PendingIsAlone, PendingIsArmed, PendingIsLast}
use Rattle.hp_segs.specs.SegsView.{SegsView, grant_of, is_agreed, is_outcome_for, is_unclaimed}
use Rattle.hp_segs.specs.SettledAsks.{IsSettled}
use Rattle.hp_segs.specs.Steps.{claimed_grant, claimed_segment, claimed_state, retired_segment, segment_of}
use Rattle.hp_segs.specs.declared.ask.Ask.{Ask}
use Rattle.hp_segs.specs.declared.outcome.AskLog.{AskLog}
use Rattle.hp_segs.specs.declared.row_state.RowState.{RowState}
use Rattle.hp_segs.specs.declared.row_state.RowState.TheVariants.{Opened, Agreed, Owned, Retiring}
use Rattle.hp_segs.specs.declared.row_state.Segment.{Segment}
use Rattle.hp_segs.proofs.GrowthSteps.GrantLemmas.{any_mapped}
use Rattle.hp_hall.specs.AskLaws.{OwnerCallsSettle, OwnerGivesLeave}
use Rattle.hp_hall.specs.Standings.{LeavesAsks}
use Rattle.hp_hall.proofs.StandingFacts.StandingMoves.{owner_calls_leave}

more_by : {X : Type 0} (p q : X → Bool) (x : X) (xs : List X) (b : Bool) → p x ≡ b → (p x ≡ true → q x ≡ true) → (b || list_any p xs) ≡ true
    → (list_any p xs ≡ true → list_any q xs ≡ true) → (q x || list_any q xs) ≡ true
more_by p q x xs true is implies any rest = ap (λ b. b || list_any q xs) (implies is)
more_by p q x xs false is implies any rest = or_right (q x) (list_any q xs) (rest any)

pub any_more : {X : Type 0} (p q : X → Bool) → ((x : X) → p x ≡ true → q x ≡ true) → (xs : List X) → list_any p xs ≡ true → list_any q xs ≡ true
any_more p q implies [] any = absurd (cc)
any_more p q implies (x ∷ xs) any = more_by p q x xs (p x) refl (implies x) any (any_more p q implies xs)

-- rows that are changed are Agreed where they were
changed_by : (f : Segment → Segment) (generation : ℕ) (segments : List Segment)
    → ((segment : Segment) → is_agreed (f segment).state ≡ true → f segment ≡ segment)
    → is_unclaimed (map f segments) generation ≡ true → is_unclaimed segments generation ≡ true
changed_by f generation segments fixed any =
    any_more (λ segment. ((f segment).row.generation == generation) && is_agreed (f segment).state) (λ segment. (segment.row.generation == generation) && is_agreed segment.state)
    (λ segment passes.
    let parts = and_parts ((f segment).row.generation == generation) (is_agreed (f segment).state) passes in
    let same : f segment ≡ segment = fixed segment parts.1 in
    ap (λ (s : Segment). (s.row.generation == generation) && is_agreed s.state) (sym same) ∙ passes)
    segments (sym (any_mapped (λ segment. (segment.row.generation == generation) && is_agreed segment.state) f segments) ∙ any)

claimed_not : (state : RowState) → is_agreed (claimed_state state) ≡ true → ⊥
claimed_not Opened is = cc
claimed_not (Agreed heap) is = cc
claimed_not (Owned heap) is = cc
claimed_not Retiring is = cc

claimed_fixed : (generation : ℕ) (segment : Segment) (own : Bool) → is_agreed (if own then segment_of (claimed_state segment.state) segment.row else segment).state ≡ true
    → (if own then segment_of (claimed_state segment.state) segment.row else segment) ≡ segment
claimed_fixed generation segment true is = absurd (claimed_not segment.state is)
claimed_fixed generation segment false is = refl

retired_fixed : (segment : Segment) (inside : Bool) → is_agreed (if inside then segment_of Retiring segment.row else segment).state ≡ true
    → (if inside then segment_of Retiring segment.row else segment) ≡ segment
retired_fixed segment true is = absurd (cc)
retired_fixed segment false is = refl

claimed_fewer : (segs : SegsView) (grant : Option ℕ) (generation : ℕ) → is_unclaimed (claimed_grant segs grant).segments generation ≡ true → is_unclaimed segs.segments generation ≡ true
claimed_fewer segs None generation is = is
claimed_fewer segs (Some stamp) generation is =
    changed_by (claimed_segment stamp) generation segs.segments (λ segment. claimed_fixed stamp segment (segment.row.generation == stamp)) is

owner_fewer : (call : SegsCall) (segs : SegsView) (generation : ℕ) → IsTrue (is_owner_call call) → is_unclaimed (after call segs).segments generation ≡ true
    → is_unclaimed segs.segments generation ≡ true
owner_fewer (Reserve n) segs generation only is = is
owner_fewer (OpenRun ask run) segs generation only is = cc
owner_fewer (CloseAsk ask cause) segs generation only is = cc
owner_fewer (LogStale from number) segs generation only is = cc
owner_fewer (NoteFailed participant call row got) segs generation only is = cc
owner_fewer (Agree acks) segs generation only is = cc
owner_fewer (Cancel cause) segs generation only is = cc
owner_fewer (Claim from number) segs generation only is = claimed_fewer segs (grant_of segs.asks from number) generation is
owner_fewer (Arm ask) segs generation only is = cc
owner_fewer (Withdraw from number since now) segs generation only is = cc
owner_fewer (Retire owner run) segs generation only is =
    changed_by (retired_segment run) generation segs.segments (λ segment. retired_fixed segment (in_run run segment.row)) is
owner_fewer DropRetiring segs generation only is = cc
owner_fewer (LogFreed from number) segs generation only is = cc
owner_fewer (JoinRoster participant acked) segs generation only is = cc
owner_fewer (LeaveRoster participant) segs generation only is = cc
owner_fewer (ClaimRange list addr len page socket) segs generation only is = cc
owner_fewer (ReleaseRange list) segs generation only is = cc

fewer : (generation : ℕ) (calls : List SegsCall) (old new : SegsView) → Leads calls old new → All (λ call. IsTrue (is_owner_call call)) calls
    → is_unclaimed new.segments generation ≡ true → is_unclaimed old.segments generation ≡ true
fewer generation [] old new leads only is = ap (λ (s : SegsView). is_unclaimed s.segments generation) (sym leads) ∙ is
fewer generation (call ∷ calls) old new leads only is =
    owner_fewer call old generation (All-head (λ c. IsTrue (is_owner_call c)) call calls only)
    (fewer generation calls (after call old) new leads.1 (All-tail (λ c. IsTrue (is_owner_call c)) call calls only) is)

module _ (taken given : SegsView) (moved : IsMovedBy is_owner_call 0 taken given) where
  left : LeavesAsks taken given
  left = owner_calls_leave 0 taken given moved

  pub pending_was_owned : (ask : Ask) (generation : ℕ) (entry : AskLog) → IsPending given ask generation entry → IsPending taken ask generation entry
  pending_was_owned ask generation entry pending = record {
    logged = subst (λ (l : List AskLog). Contains l entry) left.asks pending.logged;
    its_ask = pending.its_ask;
    granted = pending.granted;
    unclaimed = fewer generation moved.calls taken given moved.leads moved.only pending.unclaimed;
  }

  pub settled_stays_owned : (from number : ℕ) → IsSettled from number taken → IsSettled from number given
  settled_stays_owned from number settled = record {
    answered = ap (list_any (is_outcome_for from number)) left.asks ∙ settled.answered;
    claimed = λ generation granted.
        let was = settled.claimed generation (ap (λ (l : List AskLog). grant_of l from number) (sym left.asks) ∙ granted) in
        false_from_ne_true (is_unclaimed given.segments generation) (λ on.
        let wrong : true ≡ false = sym (fewer generation moved.calls taken given moved.leads moved.only on) ∙ was in
        cc);
  }

  armed_same : (who : ℕ) → armed_ask given who ≡ armed_ask taken who
  armed_same who = ap (λ (l : List (Option Ask)). slice_index_or l who None) left.armed

  pub pending_armed_owned : PendingIsArmed taken → PendingIsArmed given
  pending_armed_owned old entry ask generation pending = armed_same ask.from ∙ old entry ask generation (pending_was_owned ask generation entry pending)

  pub pending_alone_owned : PendingIsAlone taken → PendingIsAlone given
  pending_alone_owned old entry ask generation growth pending open_now = old entry ask generation growth (pending_was_owned ask generation entry pending) (sym left.growth ∙ open_now)

  pub pending_last_owned : PendingIsLast taken → PendingIsLast given
  pending_last_owned old entry other ask asked generation number pending among kept granted same =
      old entry other ask asked generation number (pending_was_owned ask generation entry pending) (subst (λ (l : List AskLog). Contains l other) left.asks among) kept granted same

-- the laws
pub owner_calls_settle : OwnerCallsSettle
owner_calls_settle old new moved = settled_stays_owned old new moved

pub owner_gives_leave : OwnerGivesLeave
owner_gives_leave old new moved pending = record {
  of_armed = pending_armed_owned old new moved pending.of_armed;
  alone = pending_alone_owned old new moved pending.alone;
  last = pending_last_owned old new moved pending.last;
}
