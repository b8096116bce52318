-- A claim puts its grant, and the run, after those that the heap has claimed.
use Rattle.std.proofs.Common.{◌≡◌, ◌≢◌, ◌==◌, ◌∙◌, ℕ, zero, suc, ◌<◌, ◌≤◌, Bool, true, false, not, ◌&&◌, cond, List, [], ◌∷◌, ◌++◌, filter, map, length, get_or, count_by, Option, Some, None, IsTrue, refl, ap, sym, subst, arith, ⊎_elim, if◌then◌else◌}
use Rattle.std.specs.Prelude.{Contains, IsSomeAnd}
use Rattle.std.specs.List.{All}
use Rattle.std.specs.Option.{option_and_then, option_map_or, option_to_list}
use Rattle.std.proofs.lemmas.Grind.{flat_map-append}
use Rattle.std.proofs.lemmas.Bool.{and_from, and_parts, and_right, eq-eqb, false_from_ne_true, cases_lt}
use Rattle.std.proofs.lemmas.List.{get_or_default}
use Rattle.std.proofs.lemmas.List.Folds.{list_any_none}
use Rattle.std.proofs.lemmas.List.Elements.{All-cons, All-contains_itself, All-head, All-nil, All-tail}
use Rattle.hp_base.specs.declared.pool_line.PoolLine.{PoolLine}
use Rattle.hp_log.proofs.Counts.{count_cons}
use Rattle.hp_log.specs.declared.log_record.LogRecord.{LogRecord}
use Rattle.hp_segs.specs.Causes.{AllCaused, HasCause}
use Rattle.hp_base.specs.declared.row.Run.{Run}
use Rattle.hp_segs.specs.SegsView.{SegsView, grant_of, granted_by, is_agreed, is_unclaimed, run_of}
use Rattle.hp_segs.specs.Sound.{IsSound}
use Rattle.hp_segs.specs.SoundAsks.{grants, is_grant_of}
use Rattle.hp_segs.specs.Steps.{claimed_grant, claimed_segment, claimed_state, segment_of}
use Rattle.hp_segs.specs.declared.ask.Ask.{Ask}
use Rattle.hp_segs.specs.declared.outcome.AskLog.{AskLog}
use Rattle.hp_segs.specs.declared.outcome.Outcome.{Outcome}
use Rattle.hp_segs.specs.declared.outcome.Outcome.TheVariants.{Granted, Refused, Stale, Freed}
use Rattle.hp_segs.specs.declared.row_state.RowState.{RowState}
use Rattle.hp_segs.specs.declared.row_state.RowState.TheVariants.{Opened, Agreed, Owned, Retiring}
use Rattle.hp_segs.specs.declared.row_state.Segment.{Segment}
use Rattle.hp_segs.proofs.GrowthSteps.GrantLemmas.{any_mapped}
use Rattle.hp_segs.specs.Standing.{claimed_by, is_claimed_for, run_granted, runs_granted, standing_of}
use Rattle.hp_hall.specs.Standings.{ClaimPuts, IsGrantFor, PutsClaim}
use Rattle.hp_segs.specs.PendingRuns.{IsPending, PendingIsLast}
use Rattle.hp_hall.proofs.CountedRows.{claimed_alike}
use Rattle.hp_hall.proofs.StandingFacts.StandingClaims.{ask_for, unclaimed_apart}

-- what a filter keeps where one element more passes, and none after it did
module _ {X : Type 0} (p q : X → Bool) where
  none_behind : (xs : List X) → All (λ x. (q x ≡ p x) × (p x ≡ false)) xs → (filter q xs ≡ []) × (filter p xs ≡ [])
  none_behind [] off = (refl, refl)
  none_behind (x ∷ xs) off =
      let rest = none_behind xs (All-tail (λ x. (q x ≡ p x) × (p x ≡ false)) x xs off) in
      let here = All-head (λ x. (q x ≡ p x) × (p x ≡ false)) x xs off in
      (ap (λ b. cond b (x ∷ filter q xs) (filter q xs)) (here.0 ∙ here.1) ∙ rest.0, ap (λ b. cond b (x ∷ filter p xs) (filter p xs)) here.1 ∙ rest.1)

  put_by : (b : Bool) (x y : X) (before after : List X) → after ≡ before ++ y ∷ [] → cond b (x ∷ after) after ≡ cond b (x ∷ before) before ++ y ∷ []
  put_by true x y before after is = ap (λ l. x ∷ l) is
  put_by false x y before after is = is

  pub filter_puts : (xs : List X) (k : ℕ) (y : X) → k < length xs → get_or xs k y ≡ y → p y ≡ false → q y ≡ true
      → ((i : ℕ) (d : X) → i < length xs → i ≢ k → q (get_or xs i d) ≡ p (get_or xs i d))
      → ((i : ℕ) (d : X) → k < i → i < length xs → p (get_or xs i d) ≡ false)
      → filter q xs ≡ filter p xs ++ y ∷ []
  filter_puts [] k y within here off on same behind = absurd (omega (arith, within))
  filter_puts (x ∷ xs) zero y within here off on same behind =
      let rest = none_behind xs (λ i d inside. (same (suc i) d (omega (arith, inside)) (λ wrong. omega (arith, wrong)), behind (suc i) d (omega arith) (omega (arith, inside)))) in
      ap (λ b. cond b (x ∷ filter q xs) (filter q xs)) (ap q here ∙ on)
      ∙ (ap (λ l. x ∷ l) rest.0
      ∙ (ap (λ z. z ∷ []) here
      ∙ sym (ap (λ b. cond b (x ∷ filter p xs) (filter p xs) ++ y ∷ []) (ap p here ∙ off) ∙ ap (λ l. l ++ y ∷ []) rest.1)))
  filter_puts (x ∷ xs) (suc k) y within here off on same behind =
      let rest = filter_puts xs k y (omega (arith, within)) here off on
      (λ i d inside apart. same (suc i) d (omega (arith, inside)) (λ is. apart (omega (arith, is))))
      (λ i d above inside. behind (suc i) d (omega (arith, above)) (omega (arith, inside))) in
      ap (λ b. cond b (x ∷ filter q xs) (filter q xs)) (same zero x (omega (arith, within)) (λ wrong. omega (arith, wrong)))
      ∙ put_by (p x) x y (filter p xs) (filter q xs) rest

counted_of : {X : Type 0} (p : X → Bool) (xs : List X) (k : ℕ) (d : X) → k < length xs → p (get_or xs k d) ≡ true → 0 < count_by p xs
counted_of p [] k d within passes = absurd (omega (arith, within))
counted_of p (x ∷ xs) zero d within passes =
    let one : ◌≡◌ {A = ℕ} (cond (p x) 1 0) 1 = ap (λ b. cond b 1 0) passes in
    omega (arith, one, count_cons p x xs)
counted_of p (x ∷ xs) (suc k) d within passes = omega (arith, count_cons p x xs, counted_of p xs k d (omega (arith, within)) passes)

-- two places at which a test passes that passes once are one
passes_once : {X : Type 0} (p : X → Bool) (xs : List X) (i k : ℕ) (d : X) → count_by p xs ≤ 1 → i < k → k < length xs → p (get_or xs i d) ≡ true → p (get_or xs k d) ≡ true → ⊥
passes_once p [] i k d once below within one other = omega (arith, within)
passes_once p (x ∷ xs) zero (suc k) d once below within one other =
    let here : ◌≡◌ {A = ℕ} (cond (p x) 1 0) 1 = ap (λ b. cond b 1 0) one in
    let more : 0 < count_by p xs = counted_of p xs k d (omega (arith, within)) other in
    omega (arith, here, once, more, count_cons p x xs)
passes_once p (x ∷ xs) (suc i) zero d once below within one other = omega (arith, below)
passes_once p (x ∷ xs) zero zero d once below within one other = omega (arith, below)
passes_once p (x ∷ xs) (suc i) (suc k) d once below within one other =
    passes_once p xs i k d (omega (arith, once, count_cons p x xs)) (omega (arith, below)) (omega (arith, within)) one other

-- a grant keeps its ask, and its generation is the number of records when it was logged
record IsKept (entry : AskLog) : Type 0 where
  pub of : (generation : ℕ) → granted_by entry.outcome ≡ Some generation → generation ≡ entry.at

kept_by : (pools : List PoolLine) (log : List LogRecord) (before : List AskLog) (entry : AskLog) (outcome : Outcome) (generation : ℕ)
    → HasCause pools log before entry outcome → granted_by outcome ≡ Some generation → generation ≡ entry.at
kept_by pools log before entry (Granted stamp) generation has granted = let same : stamp ≡ generation = cc in sym same ∙ has.3
kept_by pools log before entry (Refused cause) generation has granted = absurd (cc)
kept_by pools log before entry (Stale done) generation has granted = absurd (cc)
kept_by pools log before entry (Freed stamp) generation has granted = absurd (cc)

kept_from : (pools : List PoolLine) (log : List LogRecord) (before asks : List AskLog) → AllCaused pools log before asks → All IsKept asks
kept_from pools log before [] caused = All-nil IsKept
kept_from pools log before (entry ∷ asks) caused =
    All-cons IsKept entry asks (record { of = λ generation granted. kept_by pools log before entry entry.outcome generation caused.0.cause granted })
    (kept_from pools log (before ++ entry ∷ []) asks caused.1)

-- the grant is claimed: the rows of its generation are Agreed no longer
claimed_agreed : (state : RowState) → is_agreed (claimed_state state) ≡ false
claimed_agreed Opened = refl
claimed_agreed (Agreed heap) = refl
claimed_agreed (Owned heap) = refl
claimed_agreed Retiring = refl

here_by : (generation : ℕ) (segment : Segment) (own : Bool) → (segment.row.generation == generation) ≡ own
    → (((if own then segment_of (claimed_state segment.state) segment.row else segment).row.generation == generation)
    && is_agreed (if own then segment_of (claimed_state segment.state) segment.row else segment).state) ≡ false
here_by generation segment true is = and_right (segment.row.generation == generation) (is_agreed (claimed_state segment.state)) (claimed_agreed segment.state)
here_by generation segment false is = ap (λ b. b && is_agreed segment.state) is

grants_is : (generation : ℕ) (outcome : Outcome) → granted_by outcome ≡ Some generation → is_grant_of generation outcome ≡ true
grants_is generation (Granted stamp) is = let same : stamp ≡ generation = cc in eq-eqb stamp generation same
grants_is generation (Refused cause) is = absurd (cc)
grants_is generation (Stale done) is = absurd (cc)
grants_is generation (Freed stamp) is = absurd (cc)

-- what an outcome that is claimed granted
some_by : (segments : List Segment) (granted : Option ℕ) → option_map_or (λ generation. not (is_unclaimed segments generation)) granted false ≡ true
    → (generation : ℕ) × (granted ≡ Some generation)
some_by segments None is = absurd (cc)
some_by segments (Some generation) is = (generation, refl)

module _ (segs : SegsView) (sound : IsSound segs) (last : PendingIsLast segs) (entry : AskLog) (ask : Ask) (generation : ℕ) (pending : IsPending segs ask generation entry) where
  abbrev made : List Segment
  made = map (claimed_segment generation) segs.segments

  place : ℕ
  place = pending.logged.0

  stamp_of : (i : ℕ) (d : AskLog) (number : ℕ) → i < length segs.asks → granted_by (get_or segs.asks i d).outcome ≡ Some number → number ≡ (get_or segs.asks i d).at
  stamp_of i d number within granted = (kept_from segs.pools segs.log [] segs.asks sound.asks.caused i d within).of number granted

  -- no outcome at another place grants the generation
  apart : (i : ℕ) (d : AskLog) → i < length segs.asks → i ≢ pending.logged.0 → granted_by (get_or segs.asks i d).outcome ≡ Some generation → ⊥
  apart i d within other granted =
      let k : ℕ = pending.logged.0 in
      let one : grants generation (get_or segs.asks i d) ≡ true = grants_is generation (get_or segs.asks i d).outcome granted in
      let here : get_or segs.asks k d ≡ entry = get_or_default segs.asks k d entry pending.logged.1 ∙ pending.logged.2 in
      let two : grants generation (get_or segs.asks k d) ≡ true =
      ap (grants generation) here ∙ grants_is generation entry.outcome pending.granted in
      ⊎_elim
      (λ less. passes_once (grants generation) segs.asks i k d (sound.asks.granted_once generation) less pending.logged.1 one two)
      (λ more. passes_once (grants generation) segs.asks k i d (sound.asks.granted_once generation) (omega (arith, more, other)) within two one)
      (cases_lt i k)

  -- the heap's claimed grants are those of before and this one
  pub claimed_puts : filter (is_claimed_for ask.heap made) segs.asks ≡ filter (is_claimed_for ask.heap segs.segments) segs.asks ++ entry ∷ []
  claimed_puts =
      filter_puts (is_claimed_for ask.heap segs.segments) (is_claimed_for ask.heap made) segs.asks pending.logged.0 entry pending.logged.1 pending.logged.2
      (and_right (option_map_or (λ a. a.heap == ask.heap) entry.ask false) _
      (ap (λ (granted : Option ℕ). option_map_or (λ g. not (is_unclaimed segs.segments g)) granted false) pending.granted ∙ ap not pending.unclaimed))
      (and_from (option_map_or (λ a. a.heap == ask.heap) entry.ask false) _
      (ap (λ (a : Option Ask). option_map_or (λ a. a.heap == ask.heap) a false) pending.its_ask ∙ eq-eqb ask.heap ask.heap refl)
      (ap (λ (granted : Option ℕ). option_map_or (λ g. not (is_unclaimed made g)) granted false) pending.granted ∙ ap not claimed_now))
      (λ i d within other. claimed_alike ask.heap segs.segments made (get_or segs.asks i d)
      (λ number granted. unclaimed_apart generation number segs.segments
      (λ same. apart i d within other (subst (λ (n : ℕ). granted_by (get_or segs.asks i d).outcome ≡ Some n) same granted))))
      (λ i d above within. false_from_ne_true (is_claimed_for ask.heap segs.segments (get_or segs.asks i d)) (λ passes. behind i d above within passes))
    where
      claimed_now : is_unclaimed made generation ≡ false
      claimed_now =
          any_mapped (λ segment. (segment.row.generation == generation) && is_agreed segment.state) (claimed_segment generation) segs.segments
          ∙ list_any_none _ segs.segments (λ k d within. here_by generation (get_or segs.segments k d) ((get_or segs.segments k d).row.generation == generation) refl)

      behind : (i : ℕ) (d : AskLog) → pending.logged.0 < i → i < length segs.asks → is_claimed_for ask.heap segs.segments (get_or segs.asks i d) ≡ true → ⊥
      behind i d above within passes =
          let other : AskLog = get_or segs.asks i d in
          let k : ℕ = pending.logged.0 in
          let parts = and_parts (option_map_or (λ a. a.heap == ask.heap) other.ask false) _ passes in
          let its = ask_for ask.heap other.ask parts.0 in
          let number = some_by segs.segments (granted_by other.outcome) parts.1 in
          let low : number.0 ≤ generation = last entry other ask its.ask generation number.0 pending (All-contains_itself segs.asks i d within) its.is number.1 its.its_heap in
          let here : get_or segs.asks k d ≡ entry = get_or_default segs.asks k d entry pending.logged.1 ∙ pending.logged.2 in
          let at_here : generation ≡ (get_or segs.asks k d).at = stamp_of k d generation pending.logged.1 (ap (λ (e : AskLog). granted_by e.outcome) here ∙ pending.granted) in
          let at_there : number.0 ≡ other.at = stamp_of i d number.0 within number.1 in
          let rises : (get_or segs.asks k d).at ≤ (get_or segs.asks i d).at = sound.asks.in_time k i d (omega (arith, above)) within in
          let same : number.0 ≡ generation = omega (arith, low, at_here, at_there, rises) in
          apart i d within (λ is. omega (arith, above, is)) (subst (λ (n : ℕ). granted_by other.outcome ≡ Some n) same number.1)

-- the run that the outcome granted comes after those that the heap had claimed
came_by : (log : List LogRecord) (before : List AskLog) (entry : AskLog) (generation : ℕ) (run : Run) → granted_by entry.outcome ≡ Some generation
    → run_of log generation ≡ Some run → runs_granted log (before ++ entry ∷ []) ≡ runs_granted log before ++ run ∷ []
came_by log before entry generation run granted is =
    flat_map-append (run_granted log) before (entry ∷ [])
    ∙ ap (λ l. runs_granted log before ++ (l ++ []))
    (ap (λ g. option_to_list (option_and_then (run_of log) g)) granted ∙ ap option_to_list is)

unclaimed_of : (segs : SegsView) (grant : Option ℕ) (generation : ℕ) → grant ≡ Some generation
    → IsSomeAnd grant (λ generation. IsTrue (is_unclaimed segs.segments generation)) → is_unclaimed segs.segments generation ≡ true
unclaimed_of segs grant generation is unclaimed =
    subst (λ g. IsSomeAnd g (λ generation. IsTrue (is_unclaimed segs.segments generation))) is unclaimed

puts_by : (segs : SegsView) (heap generation : ℕ) (entry : AskLog) (run : Run) → IsSound segs → PendingIsLast segs → Contains segs.asks entry
    → IsGrantFor heap generation entry → is_unclaimed segs.segments generation ≡ true → run_of segs.log generation ≡ Some run
    → PutsClaim entry run (standing_of heap segs) (standing_of heap (claimed_grant segs (Some generation)))
puts_by segs heap generation entry run sound last among is unclaimed added =
    let granted : granted_by entry.outcome ≡ Some generation = ap granted_by is.granted in
    let puts : claimed_by heap (claimed_grant segs (Some generation)) ≡ claimed_by heap segs ++ entry ∷ [] =
    subst (λ h. claimed_by h (claimed_grant segs (Some generation)) ≡ claimed_by h segs ++ entry ∷ []) is.its_heap
    (claimed_puts segs sound last entry is.ask generation
    (record { logged = among; its_ask = is.kept; granted = granted; unclaimed = unclaimed })) in
    record {
      claimed = puts;
      came = ap (runs_granted segs.log) puts ∙ came_by segs.log (claimed_by heap segs) entry generation run granted added;
      retired = refl;
    }

pub claim_puts : ClaimPuts
claim_puts segs heap from number generation entry run sound last grant among is unclaimed added =
    subst (λ g. PutsClaim entry run (standing_of heap segs) (standing_of heap (claimed_grant segs g))) (sym grant)
    (puts_by segs heap generation entry run sound last among is (unclaimed_of segs (grant_of segs.asks from number) generation grant unclaimed)
    (ap (option_and_then (run_of segs.log)) (sym grant) ∙ added))
