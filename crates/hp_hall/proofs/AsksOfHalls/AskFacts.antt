-- Grants and their asks in sound values.
use Rattle.std.proofs.Common.{◌≡◌, ◌==◌, ◌∙◌, ℕ, zero, suc, ◌<◌, ◌≤◌, Bool, true, false, ◌||◌, cond, List, [], ◌∷◌, ◌++◌, length, get_or, Option, Some, None, refl, ap, sym, arith}
use Rattle.std.specs.Prelude.{Contains}
use Rattle.std.specs.List.{All, find, list_any}
use Rattle.std.specs.Option.{option_and_then, option_map}
use Rattle.std.proofs.lemmas.Bool.{and_parts, eqb-true, eq-eqb, or_right}
use Rattle.std.proofs.lemmas.List.Elements.{All-cons, All-contains, All-nil}
use Rattle.hp_base.specs.declared.pool_line.PoolLine.{PoolLine}
use Rattle.hp_log.specs.declared.log_record.LogRecord.{LogRecord}
use Rattle.hp_segs.specs.Causes.{AllCaused, HasCause}
use Rattle.hp_segs.specs.SegsView.{SegsView, grant_of, granted_by, grants_or_refuses}
use Rattle.hp_segs.specs.Sound.{IsSound}
use Rattle.hp_segs.specs.SoundAsks.{grants, is_grant_of, is_granted}
use Rattle.hp_segs.specs.declared.ask.Ask.{Ask}
use Rattle.hp_segs.specs.declared.outcome.AskLog.{AskLog}
use Rattle.hp_segs.specs.declared.outcome.Outcome.{Outcome}
use Rattle.hp_segs.specs.declared.outcome.Outcome.TheVariants.{Granted, Refused, Stale, Freed}
use Rattle.hp_segs.specs.SoundAsks.{IsGranted}
use Rattle.hp_segs.proofs.GrowthSteps.ClaimLemmas.{record_within}
use Rattle.hp_segs.specs.PendingRuns.{IsPending}
use Rattle.hp_segs.specs.SettledAsks.{IsSettled}
use Rattle.hp_hall.proofs.StandingFacts.StandingAsks.{own_grant, told}
use Rattle.hp_hall.proofs.StandingFacts.StandingClaims.{granted_is}

any_by : {X : Type 0} (p : X → Bool) (xs : List X) (y : X) (k : ℕ) → p y ≡ true → k < length xs → get_or xs k y ≡ y → list_any p xs ≡ true
any_by p [] y k passes within here = absurd (omega (arith, within))
any_by p (x ∷ xs) y zero passes within here = ap (λ b. b || list_any p xs) (ap p here ∙ passes)
any_by p (x ∷ xs) y (suc k) passes within here = or_right (p x) (list_any p xs) (any_by p xs y k passes (omega (arith, within)) here)

-- a test that an element passes
pub any_there : {X : Type 0} (p : X → Bool) (xs : List X) (y : X) → Contains xs y → p y ≡ true → list_any p xs ≡ true
any_there p xs y among passes = any_by p xs y among.0 passes among.1 among.2

grants_by : (outcome : Outcome) (generation : ℕ) → granted_by outcome ≡ Some generation → is_grant_of generation outcome ≡ true
grants_by (Granted stamp) generation is = let same : stamp ≡ generation = cc in eq-eqb stamp generation same
grants_by (Refused cause) generation is = absurd (cc)
grants_by (Stale done) generation is = absurd (cc)
grants_by (Freed stamp) generation is = absurd (cc)

pub granted_there : (asks : List AskLog) (entry : AskLog) (generation : ℕ) → Contains asks entry → granted_by entry.outcome ≡ Some generation → is_granted asks generation ≡ true
granted_there asks entry generation among granted = any_there (grants generation) asks entry among (grants_by entry.outcome generation granted)

-- the kept ask of an outcome is its participant's
record IsOf (entry : AskLog) : Type 0 where
  pub whose : (ask : Ask) → entry.ask ≡ Some ask → ask.from ≡ entry.from

of_by : (pools : List PoolLine) (log : List LogRecord) (before : List AskLog) (entry : AskLog) (outcome : Outcome) (ask : Ask)
    → HasCause pools log before entry outcome → entry.ask ≡ Some ask → ask.from ≡ entry.from
of_by pools log before entry (Granted generation) ask has kept =
    let asked : Some has.0 ≡ Some ask = sym has.2.kept ∙ kept in
    let its_ask : has.0 ≡ ask = cc in
    sym (ap (λ (ask : Ask). ask.from) its_ask) ∙ has.2.who
of_by pools log before entry (Refused cause) ask has kept =
    let asked : Some has.0 ≡ Some ask = sym has.1.kept ∙ kept in
    let its_ask : has.0 ≡ ask = cc in
    sym (ap (λ (ask : Ask). ask.from) its_ask) ∙ has.1.who
of_by pools log before entry (Stale done) ask has kept = let none : None ≡ Some ask = sym has.2 ∙ kept in absurd (cc)
of_by pools log before entry (Freed generation) ask has kept = let none : None ≡ Some ask = sym has.1 ∙ kept in absurd (cc)

of_from : (pools : List PoolLine) (log : List LogRecord) (before asks : List AskLog) → AllCaused pools log before asks → All IsOf asks
of_from pools log before [] caused = All-nil IsOf
of_from pools log before (entry ∷ asks) caused =
    All-cons IsOf entry asks (record { whose = λ ask kept. of_by pools log before entry entry.outcome ask caused.0.cause kept })
    (of_from pools log (before ++ entry ∷ []) asks caused.1)

pub whose : (segs : SegsView) (entry : AskLog) (ask : Ask) → IsSound segs → Contains segs.asks entry → entry.ask ≡ Some ask → ask.from ≡ entry.from
whose segs entry ask sound among kept = (All-contains IsOf segs.asks entry (of_from segs.pools segs.log [] segs.asks sound.asks.caused) among).whose ask kept

-- the grant of a kept ask is that of its outcome
pub kept_grant : (segs : SegsView) (entry : AskLog) (ask : Ask) (generation : ℕ) → IsSound segs → Contains segs.asks entry → entry.ask ≡ Some ask
    → granted_by entry.outcome ≡ Some generation → grant_of segs.asks ask.from ask.number ≡ Some generation
kept_grant segs entry ask generation sound among kept granted =
    let who = whose segs entry ask sound among kept in
    let which : ask.number ≡ entry.number = ((told segs entry sound among).closes ask kept).which in
    ap (λ n. grant_of segs.asks n ask.number) who ∙ (ap (grant_of segs.asks entry.from) which ∙ own_grant segs entry generation sound among (granted_is entry.outcome generation granted))

-- a pending ask is not settled
pub pending_unsettled : (segs : SegsView) (ask : Ask) (generation : ℕ) (entry : AskLog) → IsSound segs → IsPending segs ask generation entry → IsSettled ask.from ask.number segs → ⊥
pending_unsettled segs ask generation entry sound pending settled =
    let off = settled.claimed generation (kept_grant segs entry ask generation sound pending.logged pending.its_ask pending.granted) in
    let wrong : true ≡ false = sym pending.unclaimed ∙ off in
    cc

-- the outcome that is found is there, and passes
pub record IsFound {X : Type 0} (p : X → Bool) (xs : List X) (y : X) : Type 0 where
  pub there : Contains xs y
  pub passes : p y ≡ true

found_by : {X : Type 0} (p : X → Bool) (x y : X) (xs : List X) (b : Bool) → p x ≡ b → cond b (Some x) (find p xs) ≡ Some y → (find p xs ≡ Some y → IsFound p xs y) → IsFound p (x ∷ xs) y
found_by p x y xs true is found rest = let same : x ≡ y = cc in record { there = (0, omega arith, same); passes = ap p (sym same) ∙ is }
found_by p x y xs false is found rest =
    let later = rest found in
    let among = later.there in
    let within = among.1 in
    record { there = (suc among.0, omega (arith, within), among.2); passes = later.passes }

pub found_there : {X : Type 0} (p : X → Bool) (xs : List X) (y : X) → find p xs ≡ Some y → IsFound p xs y
found_there p [] y found = absurd (cc)
found_there p (x ∷ xs) y found = found_by p x y xs (p x) refl found (found_there p xs y)

-- the outcome by which an ask was granted
pub record IsGrantIn (asks : List AskLog) (from number generation : ℕ) : Type 0 where
  pub entry : AskLog
  pub there : Contains asks entry
  pub who : entry.from ≡ from
  pub which : entry.number ≡ number
  pub granted : granted_by entry.outcome ≡ Some generation

grant_by : (asks : List AskLog) (from number generation : ℕ) (found : Option AskLog) → find (grants_or_refuses from number) asks ≡ found
    → option_and_then granted_by (option_map (λ entry. entry.outcome) found) ≡ Some generation → IsGrantIn asks from number generation
grant_by asks from number generation None found is = absurd (cc)
grant_by asks from number generation (Some entry) found is =
    let its = found_there (grants_or_refuses from number) asks entry found in
    let parts = and_parts (entry.from == from) _ its.passes in
    let more = and_parts (entry.number == number) _ parts.1 in
    record { entry = entry; there = its.there; who = eqb-true entry.from from parts.0; which = eqb-true entry.number number more.0; granted = is }

pub grant_in : (asks : List AskLog) (from number generation : ℕ) → grant_of asks from number ≡ Some generation → IsGrantIn asks from number generation
grant_in asks from number generation is = grant_by asks from number generation (find (grants_or_refuses from number) asks) refl is

-- a granted record is one of the log
granted_within_by : (log : List LogRecord) (outcome : Outcome) (generation : ℕ) → IsGranted log outcome → granted_by outcome ≡ Some generation → generation ≤ length log
granted_within_by log (Granted stamp) generation granted is =
    let within = record_within log stamp granted.1.0 granted.1.1 in
    let same : stamp ≡ generation = cc in
    omega (arith, within, granted.0, same)
granted_within_by log (Refused cause) generation granted is = absurd (cc)
granted_within_by log (Stale done) generation granted is = absurd (cc)
granted_within_by log (Freed stamp) generation granted is = absurd (cc)

pub granted_within : (segs : SegsView) → IsSound segs → (entry : AskLog) (generation : ℕ) → Contains segs.asks entry → granted_by entry.outcome ≡ Some generation
    → generation ≤ length segs.log
granted_within segs sound entry generation among granted =
    granted_within_by segs.log entry.outcome generation (All-contains (λ (e : AskLog). IsGranted segs.log e.outcome) segs.asks entry sound.asks.granted among) granted

-- a grant keeps its ask
record KeepsAsk (entry : AskLog) : Type 0 where
  pub of : (generation : ℕ) → granted_by entry.outcome ≡ Some generation → (ask : Ask) × (entry.ask ≡ Some ask)

keeps_by : (pools : List PoolLine) (log : List LogRecord) (before : List AskLog) (entry : AskLog) (outcome : Outcome) (generation : ℕ)
    → HasCause pools log before entry outcome → granted_by outcome ≡ Some generation → (ask : Ask) × (entry.ask ≡ Some ask)
keeps_by pools log before entry (Granted stamp) generation has granted = (has.0, has.2.kept)
keeps_by pools log before entry (Refused cause) generation has granted = absurd (cc)
keeps_by pools log before entry (Stale done) generation has granted = absurd (cc)
keeps_by pools log before entry (Freed stamp) generation has granted = absurd (cc)

keeps_from : (pools : List PoolLine) (log : List LogRecord) (before asks : List AskLog) → AllCaused pools log before asks → All KeepsAsk asks
keeps_from pools log before [] caused = All-nil KeepsAsk
keeps_from pools log before (entry ∷ asks) caused =
    All-cons KeepsAsk entry asks (record { of = λ generation granted. keeps_by pools log before entry entry.outcome generation caused.0.cause granted })
    (keeps_from pools log (before ++ entry ∷ []) asks caused.1)

pub keeps_ask : (segs : SegsView) (entry : AskLog) (generation : ℕ) → IsSound segs → Contains segs.asks entry → granted_by entry.outcome ≡ Some generation
    → (ask : Ask) × (entry.ask ≡ Some ask)
keeps_ask segs entry generation sound among granted =
    (All-contains KeepsAsk segs.asks entry (keeps_from segs.pools segs.log [] segs.asks sound.asks.caused) among).of generation granted
