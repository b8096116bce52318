-- Which runs no heap has claimed yet: calls that log leave that of each run that was granted before, and a claim or a giving up brings none.
use Rattle.std.proofs.Common.{◌≡◌, ◌≢◌, ◌==◌, ◌∙◌, ℕ, ◌+◌, Bool, true, false, ◌&&◌, ◌||◌, List, [], ◌∷◌, ◌++◌, map, length, get_or, Option, Some, None, IfSome, IsTrue, refl, ap, sym, subst, if◌then◌else◌}
use Rattle.std.specs.List.{All, list_any}
use Rattle.std.proofs.lemmas.Bool.{and_left, eqb-true, ne_eqb}
use Rattle.std.proofs.lemmas.List.Elements.{All-head, All-tail}
use Rattle.std.proofs.lemmas.List.Folds.{list_any-append}
use Rattle.hp_log.specs.Rows.{rows_of}
use Rattle.hp_segs.specs.LaterSteps.{armed_ask, grows_for, is_noted, noting, withdrawn_growth, withdrawn_unless}
use Rattle.hp_segs.specs.Moved.{SegsCall, Reserve, OpenRun, CloseAsk, LogStale, NoteFailed, Agree, Cancel, Claim, Arm, Withdraw, Retire, DropRetiring, LogFreed, JoinRoster, LeaveRoster, ClaimRange, ReleaseRange, Appends, Leads, after, is_log_call}
use Rattle.hp_segs.specs.SegsView.{SegsView, grant_or_refusal_of, is_agreed, is_unclaimed}
use Rattle.hp_segs.specs.Sound.{IsSound}
use Rattle.hp_segs.specs.SoundAsks.{is_granted, grants}
use Rattle.hp_segs.specs.Steps.{after_failure, agreed_growth, agreed_segment, cancelled_growth, granted_unless, lowest_member_below, segment_of}
use Rattle.hp_segs.specs.declared.ask.Ask.{Ask}
use Rattle.hp_segs.specs.declared.fault.NotAll.{NotAll}
use Rattle.hp_segs.specs.declared.growth.Growth.{Growth}
use Rattle.hp_segs.specs.declared.outcome.AskLog.{AskLog}
use Rattle.hp_segs.specs.declared.outcome.Cause.{Cause}
use Rattle.hp_segs.specs.declared.outcome.Cause.TheVariants.{MapFailed, Withdrawn}
use Rattle.hp_segs.specs.declared.outcome.Outcome.{Outcome}
use Rattle.hp_segs.specs.declared.row_state.RowState.TheVariants.{Agreed}
use Rattle.hp_segs.specs.declared.row_state.Segment.{Segment}
use Rattle.hp_segs.proofs.Appending.{calls_append}
use Rattle.hp_segs.proofs.GrowthSteps.GrantLemmas.{any_mapped}
use Rattle.hp_segs.proofs.Moves.{calls_keep}
use Rattle.hp_hall.proofs.StandingFacts.StandingMoves.{counted_dropped, counted_failed, counted_more}
use Rattle.hp_hall.proofs.CountedRows.{any_alike, unclaimed_same}

-- rows of another generation become Agreed
agreed_by : (generation heap other : ℕ) (segment : Segment) (own : Bool) → (segment.row.generation == generation) ≡ own → other ≢ generation
    → (((if own then segment_of (Agreed heap) segment.row else segment).row.generation == other)
    && is_agreed (if own then segment_of (Agreed heap) segment.row else segment).state)
    ≡ ((segment.row.generation == other) && is_agreed segment.state)
agreed_by generation heap other segment true is apart =
    let stamp : segment.row.generation ≡ generation = eqb-true segment.row.generation generation is in
    let off : (segment.row.generation == other) ≡ false = ne_eqb segment.row.generation other (λ same. apart (sym same ∙ stamp)) in
    and_left (segment.row.generation == other) true off ∙ sym (and_left (segment.row.generation == other) (is_agreed segment.state) off)
agreed_by generation heap other segment false is apart = refl

unclaimed_agreed : (generation heap other : ℕ) (segments : List Segment) → other ≢ generation
    → is_unclaimed (map (agreed_segment generation heap) segments) other ≡ is_unclaimed segments other
unclaimed_agreed generation heap other segments apart =
    any_mapped (λ segment. (segment.row.generation == other) && is_agreed segment.state) (agreed_segment generation heap) segments
    ∙ any_alike _ (λ segment. (segment.row.generation == other) && is_agreed segment.state) segments
    (λ k d within. agreed_by generation heap other (get_or segments k d) ((get_or segments k d).row.generation == generation) refl apart)

module _ (segs : SegsView) (sound : IsSound segs) (generation : ℕ) (was : is_granted segs.asks generation ≡ true) where
  failed : (growth : Growth) (cause : Cause) (ask : Option Ask) (places : ℕ) → segs.growth ≡ Some growth
      → is_unclaimed (after_failure growth cause ask places segs).segments generation ≡ is_unclaimed segs.segments generation
  failed growth cause ask places open_now = unclaimed_same segs.segments (after_failure growth cause ask places segs).segments generation (counted_failed segs sound growth open_now)

  noted_by : (cause : Cause) (taken : Bool)
      → is_unclaimed (if taken then record segs { growth = noting cause segs.growth } else segs).segments generation ≡ is_unclaimed segs.segments generation
  noted_by cause true = refl
  noted_by cause false = refl

  granted : (growth : Growth) (member : Option NotAll) → segs.growth ≡ Some growth
      → is_unclaimed (granted_unless growth segs member).segments generation ≡ is_unclaimed segs.segments generation
  granted growth None open_now =
      let ungranted : is_granted segs.asks growth.generation ≡ false = subst (λ g. IfSome g (λ growth. is_granted segs.asks growth.generation ≡ false)) open_now sound.asks.ungranted in
      unclaimed_agreed growth.generation growth.ask.heap generation segs.segments
      (λ same. let wrong : true ≡ false = sym was ∙ ap (is_granted segs.asks) same ∙ ungranted in cc)
  granted growth (Some member) open_now = refl

  agreed : (acks : List ℕ) (growth : Option Growth) → segs.growth ≡ growth
      → is_unclaimed (agreed_growth acks segs growth).segments generation ≡ is_unclaimed segs.segments generation
  agreed acks None is = refl
  agreed acks (Some growth) is = granted growth (lowest_member_below segs.roster acks growth.generation) is

  cancelled : (cause : Cause) (growth : Option Growth) → segs.growth ≡ growth
      → is_unclaimed (cancelled_growth cause segs growth).segments generation ≡ is_unclaimed segs.segments generation
  cancelled cause None is = refl
  cancelled cause (Some growth) is = failed growth cause (Some growth.ask) 2 is

  module _ (from number : ℕ) (cause : Cause) where
    withdrawn_by : (growth : Growth) (own : Bool) → segs.growth ≡ Some growth
        → is_unclaimed (if own then after_failure growth cause (armed_ask segs from) 0 segs else withdrawn_growth from number cause segs None).segments generation
        ≡ is_unclaimed segs.segments generation
    withdrawn_by growth true is = failed growth cause (armed_ask segs from) 0 is
    withdrawn_by growth false is = refl

    withdrawn : (growth : Option Growth) → segs.growth ≡ growth
        → is_unclaimed (withdrawn_growth from number cause segs growth).segments generation ≡ is_unclaimed segs.segments generation
    withdrawn None is = refl
    withdrawn (Some growth) is = withdrawn_by growth (grows_for from number growth) is

    withdrawn_where : (standing : Option Outcome)
        → is_unclaimed (withdrawn_unless from number cause segs standing).segments generation ≡ is_unclaimed segs.segments generation
    withdrawn_where (Some outcome) = refl
    withdrawn_where None = withdrawn segs.growth refl

-- a call that logs leaves each run that was granted claimed, or not, as it was
pub log_call_unclaimed : (generation : ℕ) (call : SegsCall) (segs : SegsView) → IsSound segs → is_granted segs.asks generation ≡ true → IsTrue (is_log_call call)
    → is_unclaimed (after call segs).segments generation ≡ is_unclaimed segs.segments generation
log_call_unclaimed generation (Reserve n) segs sound was is = refl
log_call_unclaimed generation (OpenRun ask run) segs sound was is =
    unclaimed_same segs.segments (after (OpenRun ask run) segs).segments generation (counted_more segs.segments (rows_of run (length segs.log + 1)))
log_call_unclaimed generation (CloseAsk ask cause) segs sound was is = refl
log_call_unclaimed generation (LogStale from number) segs sound was is = refl
log_call_unclaimed generation (NoteFailed participant call row got) segs sound was is =
    noted_by segs sound generation was (MapFailed participant call row.addr got) (is_noted segs participant call row segs.growth)
log_call_unclaimed generation (Agree acks) segs sound was is = agreed segs sound generation was acks segs.growth refl
log_call_unclaimed generation (Cancel cause) segs sound was is = cancelled segs sound generation was cause segs.growth refl
log_call_unclaimed generation (Claim from number) segs sound was is = cc
log_call_unclaimed generation (Arm ask) segs sound was is = refl
log_call_unclaimed generation (Withdraw from number since now) segs sound was is =
    withdrawn_where segs sound generation was from number (Withdrawn since now) (grant_or_refusal_of segs.asks from number)
log_call_unclaimed generation (Retire owner run) segs sound was is = cc
log_call_unclaimed generation DropRetiring segs sound was is =
    unclaimed_same segs.segments (after DropRetiring segs).segments generation (counted_dropped segs.segments)
log_call_unclaimed generation (LogFreed from number) segs sound was is = refl
log_call_unclaimed generation (JoinRoster participant acked) segs sound was is = cc
log_call_unclaimed generation (LeaveRoster participant) segs sound was is = cc
log_call_unclaimed generation (ClaimRange list addr len page socket) segs sound was is = cc
log_call_unclaimed generation (ReleaseRange list) segs sound was is = cc

-- a grant stays logged
granted_on : (asks outcomes : List AskLog) (generation : ℕ) → is_granted asks generation ≡ true → is_granted (asks ++ outcomes) generation ≡ true
granted_on asks outcomes generation was =
    list_any-append (grants generation) asks outcomes ∙ ap (λ b. b || list_any (grants generation) outcomes) was

pub granted_stays : (call : SegsCall) (segs : SegsView) (generation : ℕ) → is_granted segs.asks generation ≡ true → is_granted (after call segs).asks generation ≡ true
granted_stays call segs generation was =
    let came : Appends segs (after call segs) = calls_append call segs in
    subst (λ (l : List AskLog). is_granted l generation ≡ true) (sym came.asks) (granted_on segs.asks came.outcomes generation was)

pub logged_unclaimed : (generation : ℕ) (calls : List SegsCall) (old new : SegsView) → IsSound old → is_granted old.asks generation ≡ true → Leads calls old new
    → All (λ call. IsTrue (is_log_call call)) calls → is_unclaimed new.segments generation ≡ is_unclaimed old.segments generation
logged_unclaimed generation [] old new sound was leads only = ap (λ (s : SegsView). is_unclaimed s.segments generation) leads
logged_unclaimed generation (call ∷ calls) old new sound was leads only =
    logged_unclaimed generation calls (after call old) new (calls_keep call old sound leads.0) (granted_stays call old generation was) leads.1
    (All-tail (λ c. IsTrue (is_log_call c)) call calls only)
    ∙ log_call_unclaimed generation call old sound was (All-head (λ c. IsTrue (is_log_call c)) call calls only)
