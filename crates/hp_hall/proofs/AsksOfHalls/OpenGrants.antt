-- What calls that log bring: outcomes, the grants among which are of the growth that was open.
use Rattle.std.proofs.Common.{◌≡◌, ◌∙◌, ℕ, ◌+◌, ◌≤◌, Bool, true, false, List, [], ◌∷◌, ◌++◌, cond, Option, Some, None, IsTrue, refl, ap, sym, subst, arith, if◌then◌else◌, inl, inr, ◌⊎◌, ⊎_elim, count_by}
use Rattle.std.specs.List.{All, Contains}
use Rattle.std.proofs.lemmas.List.Elements.{All-head, All-tail, Contains-push_cases}
use Rattle.hp_log.proofs.Counts.{count_cons}
use Rattle.hp_segs.specs.LaterSteps.{armed_ask, grows_for, is_noted, noting, withdrawn_growth, withdrawn_unless}
use Rattle.hp_segs.specs.Moved.{SegsCall, Reserve, OpenRun, CloseAsk, LogStale, NoteFailed, Agree, Cancel, Claim, Arm, Withdraw, Retire, DropRetiring, LogFreed, JoinRoster, LeaveRoster, ClaimRange, ReleaseRange, IsMovedBy, Leads, after, is_growth_step, is_log_call}
use Rattle.hp_segs.specs.SegsView.{SegsView, grant_or_refusal_of, granted_by}
use Rattle.hp_segs.specs.Steps.{after_failure, agreed_growth, cancelled_growth, granted_unless, lowest_member_below}
use Rattle.hp_segs.specs.declared.ask.Ask.{Ask}
use Rattle.hp_segs.specs.declared.fault.NotAll.{NotAll}
use Rattle.hp_segs.specs.declared.growth.Growth.{Growth}
use Rattle.hp_segs.specs.declared.outcome.AskLog.{AskLog}
use Rattle.hp_segs.specs.declared.outcome.Cause.{Cause}
use Rattle.hp_segs.specs.declared.outcome.Cause.TheVariants.{MapFailed, Withdrawn}
use Rattle.hp_segs.specs.declared.outcome.Outcome.{Outcome}

-- a growth is the one that was open, with the same ask and generation
pub record IsGrowthOf (opened : Option Growth) (growth : Growth) : Type 0 where
  pub was : Growth
  pub there : opened ≡ Some was
  pub its_ask : growth.ask ≡ was.ask
  pub stamp : growth.generation ≡ was.generation

-- an outcome grants the growth that was open
pub record GrantsOpen (opened : Option Growth) (entry : AskLog) (generation : ℕ) : Type 0 where
  pub was : Growth
  pub there : opened ≡ Some was
  pub its_ask : entry.ask ≡ Some was.ask
  pub stamp : generation ≡ was.generation

-- each grant is an old one, or grants the growth that was open
abbrev pub GrantsCame : SegsView → SegsView → Type 0
GrantsCame taken given = (entry : AskLog) (generation : ℕ) → Contains given.asks entry → granted_by entry.outcome ≡ Some generation
    → Contains taken.asks entry ⊎ GrantsOpen taken.growth entry generation

module _ (segs : SegsView) where
  -- each grant of the outcomes is an old one, or of the open growth
  abbrev Comes : Bool → List AskLog → Type 0
  Comes step asks = (entry : AskLog) (generation : ℕ) → Contains asks entry → granted_by entry.outcome ≡ Some generation
      → Contains segs.asks entry ⊎ (step ≡ true) × GrantsOpen segs.growth entry generation

  comes_none : (step : Bool) → Comes step segs.asks
  comes_none step entry generation among granted = inl among

  -- an outcome that grants nothing comes
  comes_one : (step : Bool) (last : AskLog) → granted_by last.outcome ≡ None → Comes step (segs.asks ++ last ∷ [])
  comes_one step last none entry generation among granted =
      elim (Contains-push_cases segs.asks last entry among) [
        | inl before ↦ inl before
        | inr here ↦
            let wrong : None ≡ Some generation = sym none ∙ (ap (λ (e : AskLog). granted_by e.outcome) here ∙ granted) in
            absurd (cc)
      ]

  comes_noted : (cause : Cause) (taken : Bool) → Comes false (if taken then record segs { growth = noting cause segs.growth } else segs).asks
  comes_noted cause true = comes_none false
  comes_noted cause false = comes_none false

  comes_granted : (growth : Growth) (member : Option NotAll) → segs.growth ≡ Some growth → Comes true (granted_unless growth segs member).asks
  comes_granted growth None open_now entry generation among granted =
      elim (Contains-push_cases segs.asks _ entry among) [
        | inl before ↦ inl before
        | inr here ↦
            let stamp : Some growth.generation ≡ Some generation = ap (λ (e : AskLog). granted_by e.outcome) here ∙ granted in
            let same : generation ≡ growth.generation = cc in
            inr (refl, record { was = growth; there = open_now; its_ask = sym (ap (λ (e : AskLog). e.ask) here); stamp = same })
      ]
  comes_granted growth (Some member) open_now entry generation among granted = inl among

  comes_agreed : (acks : List ℕ) (growth : Option Growth) → segs.growth ≡ growth → Comes true (agreed_growth acks segs growth).asks
  comes_agreed acks None is = comes_none true
  comes_agreed acks (Some growth) is = comes_granted growth (lowest_member_below segs.roster acks growth.generation) is

  comes_cancelled : (cause : Cause) (growth : Option Growth) → Comes false (cancelled_growth cause segs growth).asks
  comes_cancelled cause None = comes_none false
  comes_cancelled cause (Some growth) = comes_one false _ refl

  module _ (from number : ℕ) (cause : Cause) where
    withdrawn_by : (growth : Growth) (own : Bool)
        → Comes false (if own then after_failure growth cause (armed_ask segs from) 0 segs else withdrawn_growth from number cause segs None).asks
    withdrawn_by growth true = comes_one false _ refl
    withdrawn_by growth false = comes_one false _ refl

    withdrawn : (growth : Option Growth) → Comes false (withdrawn_growth from number cause segs growth).asks
    withdrawn None = comes_one false _ refl
    withdrawn (Some growth) = withdrawn_by growth (grows_for from number growth)

    comes_withdrawn : (standing : Option Outcome) → Comes false (withdrawn_unless from number cause segs standing).asks
    comes_withdrawn (Some outcome) = comes_none false
    comes_withdrawn None = withdrawn segs.growth

-- so it is with each call that logs
call_comes : (call : SegsCall) (segs : SegsView) → IsTrue (is_log_call call) → Comes segs (is_growth_step call) (after call segs).asks
call_comes (Reserve n) segs is = comes_none segs false
call_comes (OpenRun ask run) segs is = comes_none segs true
call_comes (CloseAsk ask cause) segs is = comes_one segs false _ refl
call_comes (LogStale from number) segs is = comes_one segs false _ refl
call_comes (NoteFailed participant call row got) segs is = comes_noted segs (MapFailed participant call row.addr got) (is_noted segs participant call row segs.growth)
call_comes (Agree acks) segs is = comes_agreed segs acks segs.growth refl
call_comes (Cancel cause) segs is = comes_cancelled segs cause segs.growth
call_comes (Claim from number) segs is = cc
call_comes (Arm ask) segs is = comes_none segs false
call_comes (Withdraw from number since now) segs is = comes_withdrawn segs from number (Withdrawn since now) (grant_or_refusal_of segs.asks from number)
call_comes (Retire owner run) segs is = cc
call_comes DropRetiring segs is = comes_none segs false
call_comes (LogFreed from number) segs is = comes_one segs false _ refl
call_comes (JoinRoster participant acked) segs is = cc
call_comes (LeaveRoster participant) segs is = cc
call_comes (ClaimRange list addr len page socket) segs is = cc
call_comes (ReleaseRange list) segs is = cc

-- the open growth, where there is one, is the one that was open
abbrev Stays : Option Growth → Option Growth → Type 0
Stays old new = (growth : Growth) → new ≡ Some growth → IsGrowthOf old growth

stays_itself : (old : Option Growth) → Stays old old
stays_itself old growth is = record { was = growth; there = is; its_ask = refl; stamp = refl }

stays_none : (old : Option Growth) → Stays old None
stays_none old growth is = absurd (cc)

stays_noting : (cause : Cause) (old : Option Growth) → Stays old (noting cause old)
stays_noting cause None growth is = absurd (cc)
stays_noting cause (Some was) growth is =
    let same : record was { noted = Some cause } ≡ growth = cc in
    record { was = was; there = refl; its_ask = sym (ap (λ (g : Growth). g.ask) same); stamp = sym (ap (λ (g : Growth). g.generation) same) }

stays_then : (first second third : Option Growth) → Stays first second → Stays second third → Stays first third
stays_then first second third one two growth is =
    let later = two growth is in
    let earlier = one later.was later.there in
    record { was = earlier.was; there = earlier.there; its_ask = later.its_ask ∙ earlier.its_ask; stamp = later.stamp ∙ earlier.stamp }

module _ (segs : SegsView) where
  stays_noted : (cause : Cause) (taken : Bool) → Stays segs.growth (if taken then record segs { growth = noting cause segs.growth } else segs).growth
  stays_noted cause true = stays_noting cause segs.growth
  stays_noted cause false = stays_itself segs.growth

  stays_cancelled : (cause : Cause) (growth : Option Growth) → Stays segs.growth (cancelled_growth cause segs growth).growth
  stays_cancelled cause None = stays_itself segs.growth
  stays_cancelled cause (Some growth) = stays_none segs.growth

  stays_withdrawn_by : (from number : ℕ) (cause : Cause) (growth : Growth) (own : Bool)
      → Stays segs.growth (if own then after_failure growth cause (armed_ask segs from) 0 segs else withdrawn_growth from number cause segs None).growth
  stays_withdrawn_by from number cause growth true = stays_none segs.growth
  stays_withdrawn_by from number cause growth false = stays_itself segs.growth

  stays_withdrawn_growth : (from number : ℕ) (cause : Cause) (growth : Option Growth) → Stays segs.growth (withdrawn_growth from number cause segs growth).growth
  stays_withdrawn_growth from number cause None = stays_itself segs.growth
  stays_withdrawn_growth from number cause (Some growth) = stays_withdrawn_by from number cause growth (grows_for from number growth)

  stays_withdrawn : (from number : ℕ) (cause : Cause) (standing : Option Outcome) → Stays segs.growth (withdrawn_unless from number cause segs standing).growth
  stays_withdrawn from number cause (Some outcome) = stays_itself segs.growth
  stays_withdrawn from number cause None = stays_withdrawn_growth from number cause segs.growth

call_stays : (call : SegsCall) (segs : SegsView) → IsTrue (is_log_call call) → (is_growth_step call ≡ true) ⊎ Stays segs.growth (after call segs).growth
call_stays (Reserve n) segs is = inr (stays_itself segs.growth)
call_stays (OpenRun ask run) segs is = inl refl
call_stays (CloseAsk ask cause) segs is = inr (stays_itself segs.growth)
call_stays (LogStale from number) segs is = inr (stays_itself segs.growth)
call_stays (NoteFailed participant call row got) segs is = inr (stays_noted segs (MapFailed participant call row.addr got) (is_noted segs participant call row segs.growth))
call_stays (Agree acks) segs is = inl refl
call_stays (Cancel cause) segs is = inr (stays_cancelled segs cause segs.growth)
call_stays (Claim from number) segs is = cc
call_stays (Arm ask) segs is = inr (stays_itself segs.growth)
call_stays (Withdraw from number since now) segs is = inr (stays_withdrawn segs from number (Withdrawn since now) (grant_or_refusal_of segs.asks from number))
call_stays (Retire owner run) segs is = cc
call_stays DropRetiring segs is = inr (stays_itself segs.growth)
call_stays (LogFreed from number) segs is = inr (stays_itself segs.growth)
call_stays (JoinRoster participant acked) segs is = cc
call_stays (LeaveRoster participant) segs is = cc
call_stays (ClaimRange list addr len page socket) segs is = cc
call_stays (ReleaseRange list) segs is = cc

few_by : (step : Bool) (rest : ℕ) → cond step 1 0 + rest ≤ 1 → (step ≡ false) ⊎ (rest ≡ 0)
few_by true rest few = inr (omega arith)
few_by false rest few = inl refl

-- where a growth step is the first, the others are none, and grant what it left open, which is none where it granted
pub grants_came : (calls : List SegsCall) (old new : SegsView) → Leads calls old new → All (λ call. IsTrue (is_log_call call)) calls → count_by is_growth_step calls ≤ 1
    → GrantsCame old new
grants_came calls old new leads only few = came calls old new leads only few
  where
    none : (calls : List SegsCall) (old new : SegsView) → Leads calls old new → All (λ call. IsTrue (is_log_call call)) calls → count_by is_growth_step calls ≡ 0
        → (entry : AskLog) (generation : ℕ) → Contains new.asks entry → granted_by entry.outcome ≡ Some generation → Contains old.asks entry
    none [] old new leads only zero entry generation among granted = subst (λ (s : SegsView). Contains s.asks entry) leads among
    none (call ∷ calls) old new leads only zero entry generation among granted =
        let head = All-head (λ c. IsTrue (is_log_call c)) call calls only in
        let tail = All-tail (λ c. IsTrue (is_log_call c)) call calls only in
        let counts = count_cons is_growth_step call calls in
        let before = none calls (after call old) new leads.1 tail (omega (arith, counts, zero)) entry generation among granted in
        ⊎_elim (λ was. was)
        (λ came. let one : ◌≡◌ {A = ℕ} (cond (is_growth_step call) 1 0) 1 = ap (λ b. cond b 1 0) came.0 in absurd (omega (arith, counts, zero, one)))
        (call_comes call old head entry generation before granted)

    came : (calls : List SegsCall) (old new : SegsView) → Leads calls old new → All (λ call. IsTrue (is_log_call call)) calls → count_by is_growth_step calls ≤ 1
        → GrantsCame old new
    came [] old new leads only few entry generation among granted = inl (subst (λ (s : SegsView). Contains s.asks entry) leads among)
    came (call ∷ calls) old new leads only few entry generation among granted =
        let head = All-head (λ c. IsTrue (is_log_call c)) call calls only in
        let tail = All-tail (λ c. IsTrue (is_log_call c)) call calls only in
        let counts = count_cons is_growth_step call calls in
        elim (few_by (is_growth_step call) (count_by is_growth_step calls) (omega (arith, counts, few))) [
          | inl no-step ↦
              ⊎_elim
              (λ between. ⊎_elim (λ was. inl was) (λ comes. inr comes.1) (call_comes call old head entry generation between granted))
              (λ opened.
              ⊎_elim (λ step. let wrong : true ≡ false = sym step ∙ no-step in absurd (cc))
              (λ stays. let was = stays opened.was opened.there in
              inr (record { was = was.was; there = was.there; its_ask = opened.its_ask ∙ ap (λ (a : Ask). Some a) was.its_ask; stamp = opened.stamp ∙ was.stamp }))
              (call_stays call old head))
              (came calls (after call old) new leads.1 tail (omega (arith, counts, few)) entry generation among granted)
          | inr rest ↦
              let between = none calls (after call old) new leads.1 tail rest entry generation among granted in
              ⊎_elim (λ was. inl was) (λ comes. inr comes.1) (call_comes call old head entry generation between granted)
        ]

-- each grant in a value that moved by calls that log is an old one, or of the growth that was open
pub moved_grants : (old new : SegsView) → IsMovedBy is_log_call 1 old new → GrantsCame old new
moved_grants old new moved = grants_came moved.calls old new moved.leads moved.only moved.few
