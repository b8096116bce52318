-- The asks that outcomes keep: whose they are, and which heap a grant is for.
use Rattle.std.proofs.Common.{◌≡◌, ◌==◌, ◌∙◌, ℕ, zero, suc, ◌<◌, ◌≤◌, max, Bool, true, false, not, ◌&&◌, cond, List, [], ◌∷◌, ◌++◌, length, filter, get_or, Option, Some, None, IsTrue, refl, ap, sym, subst, arith, count_by, eq-eqb, if◌then◌else◌}
use Rattle.std.specs.Prelude.{Contains, IsSomeAnd}
use Rattle.std.specs.List.{All, find, fold}
use Rattle.std.specs.Option.{option_and_then, option_map, option_map_or}
use Rattle.std.proofs.lemmas.Bool.{and_from, false_from_ne_true, true_from_ne_false}
use Rattle.std.proofs.lemmas.List.Elements.{All-cons, All-contains, All-nil, Contains-append_right}
use Rattle.hp_base.specs.declared.pool_line.PoolLine.{PoolLine}
use Rattle.hp_log.specs.Log.{IsAddFor}
use Rattle.hp_log.specs.declared.log_record.LogRecord.{LogRecord}
use Rattle.hp_log.proofs.Counts.{count_cons}
use Rattle.hp_segs.specs.Causes.{AllCaused, HasCause}
use Rattle.hp_segs.specs.SegsView.{SegsView, closed_number, grant_of, granted_by, grants_or_refuses, is_grant_or_refusal, is_stale, is_unclaimed}
use Rattle.hp_segs.specs.Sound.{IsSound}
use Rattle.hp_segs.specs.declared.ask.Ask.{Ask}
use Rattle.hp_segs.specs.declared.outcome.AskLog.{AskLog}
use Rattle.hp_segs.specs.declared.outcome.Outcome.{Outcome}
use Rattle.hp_segs.specs.declared.outcome.Outcome.TheVariants.{Granted, Refused, Stale, Freed}
use Rattle.hp_segs.proofs.GrowthSteps.GrantLemmas.{closing, closing_grows}
use Rattle.hp_segs.specs.Standing.{is_claimed_for}
use Rattle.hp_hall.specs.Standings.{RestCanBeClaimed}

-- an outcome that keeps an ask closes the number of that ask
pub record Closes (outcome : Outcome) (number : ℕ) (ask : Ask) : Type 0 where
  pub which : ask.number ≡ number
  pub fresh : is_stale outcome ≡ false

-- what the kept ask of an outcome says of it
pub record IsToldBy (log : List LogRecord) (entry : AskLog) : Type 0 where
  pub closes : (ask : Ask) → entry.ask ≡ Some ask → Closes entry.outcome entry.number ask
  pub heap : (ask : Ask) (generation : ℕ) → entry.ask ≡ Some ask → entry.outcome ≡ Granted generation → IsAddFor log generation ask.heap

closes_by : (pools : List PoolLine) (log : List LogRecord) (before : List AskLog) (entry : AskLog) (outcome : Outcome) (ask : Ask)
    → HasCause pools log before entry outcome → entry.ask ≡ Some ask → Closes outcome entry.number ask
closes_by pools log before entry (Granted generation) ask has kept =
    let asked : Some has.0 ≡ Some ask = sym has.2.kept ∙ kept in
    let its_ask : has.0 ≡ ask = cc in
    record { which = sym (ap (λ (ask : Ask). ask.number) its_ask) ∙ has.2.which; fresh = refl }
closes_by pools log before entry (Refused cause) ask has kept =
    let asked : Some has.0 ≡ Some ask = sym has.1.kept ∙ kept in
    let its_ask : has.0 ≡ ask = cc in
    record { which = sym (ap (λ (ask : Ask). ask.number) its_ask) ∙ has.1.which; fresh = refl }
closes_by pools log before entry (Stale done) ask has kept =
    let none : None ≡ Some ask = sym has.2 ∙ kept in
    cc
closes_by pools log before entry (Freed generation) ask has kept =
    let none : None ≡ Some ask = sym has.1 ∙ kept in
    cc

heap_by : (pools : List PoolLine) (log : List LogRecord) (before : List AskLog) (entry : AskLog) (ask : Ask) (generation : ℕ)
    → HasCause pools log before entry entry.outcome → entry.ask ≡ Some ask → entry.outcome ≡ Granted generation
    → IsAddFor log generation ask.heap
heap_by pools log before entry ask generation cause kept granted =
    let has = subst (HasCause pools log before entry) granted cause in
    let asked : Some has.0 ≡ Some ask = sym has.2.kept ∙ kept in
    let its_ask : has.0 ≡ ask = cc in
    subst (λ (ask : Ask). IsAddFor log generation ask.heap) its_ask
    (subst (λ g. IsAddFor log g has.0.heap) (sym has.3) (record { run = has.1; added = has.4.added }))

told_from : (pools : List PoolLine) (log : List LogRecord) (before asks : List AskLog) → AllCaused pools log before asks
    → All (IsToldBy log) asks
told_from pools log before [] caused = All-nil (IsToldBy log)
told_from pools log before (entry ∷ asks) caused =
    All-cons (IsToldBy log) entry asks
    (record {
      closes = λ ask kept. closes_by pools log before entry entry.outcome ask caused.0.cause kept;
      heap = λ ask generation kept granted. heap_by pools log before entry ask generation caused.0.cause kept granted;
    })
    (told_from pools log (before ++ entry ∷ []) asks caused.1)

pub told : (segs : SegsView) (entry : AskLog) → IsSound segs → Contains segs.asks entry → IsToldBy segs.log entry
told segs entry sound among =
    All-contains (IsToldBy segs.log) segs.asks entry (told_from segs.pools segs.log [] segs.asks sound.asks.caused) among

-- the closed number is no lower than that of an outcome that is not Stale
abbrev IsClosedBy : ℕ → ℕ → AskLog → Type 0
IsClosedBy from done entry = entry.from ≡ from → is_stale entry.outcome ≡ false → entry.number ≤ done

closed_here : (from done : ℕ) (entry : AskLog) → IsClosedBy from (closing from done entry) entry
closed_here from done entry who fresh =
    let counts : ((entry.from == from) && not (is_stale entry.outcome)) ≡ true =
    and_from (entry.from == from) (not (is_stale entry.outcome)) (eq-eqb entry.from from who) (ap not fresh) in
    let is : closing from done entry ≡ max done entry.number = ap (λ b. if b then max done entry.number else done) counts in
    omega (arith, is)

closed_from : (from done : ℕ) (asks : List AskLog) → All (IsClosedBy from (fold (closing from) done asks)) asks
closed_from from done [] = All-nil (IsClosedBy from done)
closed_from from done (entry ∷ asks) =
    let next : ℕ = closing from done entry in
    All-cons (IsClosedBy from (fold (closing from) next asks)) entry asks
    (λ who fresh.
    let here = closed_here from done entry who fresh in
    omega (arith, here, closing_grows from next asks))
    (closed_from from next asks)

pub closed_above : (asks : List AskLog) (entry : AskLog) → Contains asks entry → is_stale entry.outcome ≡ false
    → entry.number ≤ closed_number asks entry.from
closed_above asks entry among fresh =
    All-contains (IsClosedBy entry.from (closed_number asks entry.from)) asks entry (closed_from entry.from 0 asks) among refl fresh

kept_by : {X : Type 0} (p : X → Bool) (passes : Bool) (x y : X) (xs : List X) → Contains (filter p xs) y
    → Contains (cond passes (x ∷ filter p xs) (filter p xs)) y
kept_by p true x y xs among = Contains-append_right (x ∷ []) (filter p xs) y among
kept_by p false x y xs among = among

kept_from : {X : Type 0} (p : X → Bool) (xs : List X) (y : X) (k : ℕ) → p y ≡ true → k < length xs → get_or xs k y ≡ y
    → Contains (filter p xs) y
kept_from p [] y k passes within here = absurd (omega (arith, within))
kept_from p (x ∷ xs) y zero passes within here =
    let first : p x ≡ true = ap p here ∙ passes in
    subst (λ b. Contains (cond b (x ∷ filter p xs) (filter p xs)) y) (sym first) (0, omega arith, here)
kept_from p (x ∷ xs) y (suc k) passes within here =
    kept_by p (p x) x y xs (kept_from p xs y k passes (omega (arith, within)) here)

-- what passes a test is among what a filter keeps
pub contains_kept : {X : Type 0} (p : X → Bool) (xs : List X) (y : X) → Contains xs y → p y ≡ true → Contains (filter p xs) y
contains_kept p xs y among passes = kept_from p xs y among.0 passes among.1 among.2

counted_by : {X : Type 0} (p : X → Bool) (xs : List X) (y : X) (k : ℕ) → p y ≡ true → k < length xs → get_or xs k y ≡ y → 0 < count_by p xs
counted_by p [] y k passes within here = absurd (omega (arith, within))
counted_by p (x ∷ xs) y zero passes within here =
    let one : ◌≡◌ {A = ℕ} (cond (p x) 1 0) 1 = ap (λ z. cond (p z) 1 0) here ∙ ap (λ b. cond b 1 0) passes in
    omega (arith, one, count_cons p x xs)
counted_by p (x ∷ xs) y (suc k) passes within here =
    omega (arith, count_cons p x xs, counted_by p xs y k passes (omega (arith, within)) here)

found_by : {X : Type 0} (p : X → Bool) (xs : List X) (y : X) (k : ℕ) → count_by p xs ≤ 1 → p y ≡ true → k < length xs → get_or xs k y ≡ y
    → find p xs ≡ Some y
found_by p [] y k once passes within here = absurd (omega (arith, within))
found_by p (x ∷ xs) y zero once passes within here =
    ap (λ b. cond b (Some x) (find p xs)) (ap p here ∙ passes) ∙ ap Some here
found_by p (x ∷ xs) y (suc k) once passes within here =
    let more : 0 < count_by p xs = counted_by p xs y k passes (omega (arith, within)) here in
    let off : p x ≡ false =
    false_from_ne_true (p x) (λ on.
    let one : ◌≡◌ {A = ℕ} (cond (p x) 1 0) 1 = ap (λ b. cond b 1 0) on in
    absurd (omega (arith, one, once, more, count_cons p x xs))) in
    let rest : count_by p xs ≤ 1 = omega (arith, once, count_cons p x xs) in
    ap (λ b. cond b (Some x) (find p xs)) off ∙ found_by p xs y k rest passes (omega (arith, within)) here

-- where one element passes at most, it is found
pub found_once : {X : Type 0} (p : X → Bool) (xs : List X) (y : X) → count_by p xs ≤ 1 → Contains xs y → p y ≡ true → find p xs ≡ Some y
found_once p xs y once among passes = found_by p xs y among.0 once passes among.1 among.2

-- the grant of an outcome's ask is its own
pub own_grant : (segs : SegsView) (entry : AskLog) (generation : ℕ) → IsSound segs → Contains segs.asks entry
    → entry.outcome ≡ Granted generation → grant_of segs.asks entry.from entry.number ≡ Some generation
own_grant segs entry generation sound among granted =
    let own : grants_or_refuses entry.from entry.number entry ≡ true =
    and_from (entry.from == entry.from) _ (eq-eqb entry.from entry.from refl)
    (and_from (entry.number == entry.number) _ (eq-eqb entry.number entry.number refl) (ap is_grant_or_refusal granted)) in
    let found =
    found_once (grants_or_refuses entry.from entry.number) segs.asks entry (sound.asks.once entry.from entry.number) among own in
    ap (λ (found : Option AskLog). option_and_then granted_by (option_map (λ entry. entry.outcome) found)) found ∙ ap granted_by granted

pub rest_can_be_claimed : RestCanBeClaimed
rest_can_be_claimed segs heap generation entry sound among is rest =
    let rows : is_unclaimed segs.segments generation ≡ true =
    true_from_ne_false (is_unclaimed segs.segments generation) (λ off.
    let for_it : option_map_or (λ ask. ask.heap == heap) entry.ask false ≡ true =
    ap (λ (ask : Option Ask). option_map_or (λ ask. ask.heap == heap) ask false) is.kept ∙ eq-eqb is.ask.heap heap is.its_heap in
    let gone : option_map_or (λ generation. not (is_unclaimed segs.segments generation)) (granted_by entry.outcome) false ≡ true =
    ap
    (λ (outcome : Outcome). option_map_or (λ generation. not (is_unclaimed segs.segments generation)) (granted_by outcome) false) is.granted
    ∙ ap not off in
    rest (contains_kept (is_claimed_for heap segs.segments) segs.asks entry among (and_from _ _ for_it gone))) in
    let grant = own_grant segs entry generation sound among is.granted in
    record {
      grant = grant;
      rows = rows;
      may = subst (λ g. IsSomeAnd g (λ generation. IsTrue (is_unclaimed segs.segments generation))) (sym grant) rows;
    }
