-- Grants come in turn: those of later asks have later generations, and each is of the run that its ask was granted.
use Rattle.std.proofs.Common.{◌≡◌, ◌∙◌, ℕ, zero, suc, ◌<◌, ◌≤◌, true, false, List, [], ◌∷◌, ◌++◌, take, get_or, Some, None, Contains, slice_get, refl, ap, sym, subst, arith, inl, inr}
use Rattle.std.specs.List.{All}
use Rattle.std.specs.List.Sorted.{IsNonDecreasingBy}
use Rattle.std.proofs.lemmas.Bool.{cases_lt, eq-eqb, eqb-true}
use Rattle.std.proofs.lemmas.List.Elements.{All-cons, All-contains, All-nil}
use Rattle.std.proofs.lemmas.Option.{get_or_from_slice_get, slice_get_within}
use Rattle.hp_base.specs.declared.pool_line.PoolLine.{PoolLine}
use Rattle.hp_base.specs.declared.row.Run.{Run}
use Rattle.hp_hall.proofs.StandingFacts.StandingAsks.{closed_above}
use Rattle.hp_heap.proofs.AllocFacts.ChoiceLaw.{Contains-here, Contains-there}
use Rattle.hp_heap.proofs.Members.{counted_once}
use Rattle.hp_log.specs.declared.log_record.LogRecord.{LogRecord}
use Rattle.hp_segs.proofs.SlotFacts.SlotRows.{read_at}
use Rattle.hp_segs.specs.Causes.{AllCaused, HasCause}
use Rattle.hp_segs.specs.Refusals.{IsAddOf}
use Rattle.hp_segs.specs.SegsView.{SegsView, closed_number, is_stale}
use Rattle.hp_segs.specs.Sound.{IsSound}
use Rattle.hp_segs.specs.SoundAsks.{grants, is_grant_of}
use Rattle.hp_segs.specs.declared.ask.Ask.{Ask}
use Rattle.hp_segs.specs.declared.outcome.AskLog.{AskLog}
use Rattle.hp_segs.specs.declared.outcome.Outcome.TheVariants.{Granted, Refused, Stale, Freed}
use Rattle.hp_segs.specs.declared.outcome.Outcome.{Outcome}
use Rattle.thm_run.proofs.Turns.{AreRising}

-- what is read at a place is an element of the list, and one of those before a later place
pub read_among : {X : Type 0} (xs : List X) (place : ℕ) (x : X) → slice_get xs place ≡ Some x → Contains xs x
read_among [] place x there = cc
read_among (y ∷ xs) zero x there = let same : y ≡ x = cc in subst (λ z. Contains (y ∷ xs) z) same (Contains-here y xs)
read_among (y ∷ xs) (suc place) x there = Contains-there y x xs (read_among xs place x there)

read_before : {X : Type 0} (xs : List X) (place other : ℕ) (x : X) → place < other → slice_get xs place ≡ Some x
    → Contains (take other xs) x
read_before [] place other x before there = cc
read_before (y ∷ xs) place zero x before there = absurd (omega (arith, before))
read_before (y ∷ xs) zero (suc other) x before there =
    let same : y ≡ x = cc in subst (λ z. Contains (y ∷ take other xs) z) same (Contains-here y (take other xs))
read_before (y ∷ xs) (suc place) (suc other) x before there =
    Contains-there y x (take other xs) (read_before xs place other x (omega (arith, before)) there)

-- an element of a list is read at a place
pub among_read : {X : Type 0} (xs : List X) (x : X) → Contains xs x → (place : ℕ) × (slice_get xs place ≡ Some x)
among_read xs x (place, within, is) = (place, read_at xs place x x within (sym is))

-- nothing is read of no elements
pub nothing_read : {X : Type 0} (place : ℕ) → slice_get {X = X} [] place ≡ None
nothing_read zero = refl
nothing_read (suc place) = refl

never_falls : {X : Type 0} (n : X → ℕ) (xs : List X) (first second : ℕ) (x y : X) → IsNonDecreasingBy n xs → first < second
    → slice_get xs first ≡ Some x → slice_get xs second ≡ Some y → n x ≤ n y
never_falls n xs first second x y rises before one two =
    let holds = rises first second x (omega (arith, before)) (slice_get_within xs second y two) in
    let is_one : n (get_or xs first x) ≡ n x = ap n (get_or_from_slice_get xs first x x one) in
    let is_two : n (get_or xs second x) ≡ n y = ap n (get_or_from_slice_get xs second y x two) in
    omega (arith, holds, is_one, is_two)

-- an outcome other than Stale of a participant, at its place
pub record IsAnswerAt (asks : List AskLog) (who place : ℕ) (entry : AskLog) : Type 0 where
  pub there : slice_get asks place ≡ Some entry
  pub from : entry.from ≡ who
  pub fresh : is_stale entry.outcome ≡ false

module _ (asks : List AskLog) (who : ℕ) (turn : AreRising asks) where
  -- of two of them the earlier one has the lower number
  pub numbers_rise : (first second : ℕ) (x y : AskLog) → IsAnswerAt asks who first x → IsAnswerAt asks who second y → first < second
      → x.number < y.number
  numbers_rise first second x y one two before =
      let closed = closed_above (take second asks) x (read_before asks first second x before one.there) one.fresh in
      let same : closed_number (take second asks) x.from ≡ closed_number (take second asks) y.from =
      ap (closed_number (take second asks)) (one.from ∙ sym two.from) in
      omega (arith, closed, same, turn second y two.there two.fresh)

  -- the one with the lower number comes earlier
  pub earlier : (first second : ℕ) (x y : AskLog) → IsAnswerAt asks who first x → IsAnswerAt asks who second y → x.number < y.number
      → first < second
  earlier first second x y one two lower = elim (cases_lt first second) [
    | inl before ↦ before
    | inr behind ↦ elim (cases_lt second first) [
      | inl later ↦ absurd (omega (arith, lower, numbers_rise second first y x two one later))
      | inr level ↦ (let place : first ≡ second = omega (arith, behind, level) in
          let same : Some x ≡ Some y = sym one.there ∙ (ap (slice_get asks) place ∙ two.there) in
          let is : x ≡ y = cc in
          absurd (omega (arith, lower, ap (λ (entry : AskLog). entry.number) is)))
    ]
  ]

  -- a number has one of them
  pub only : (first second : ℕ) (x y : AskLog) → IsAnswerAt asks who first x → IsAnswerAt asks who second y → x.number ≡ y.number → x ≡ y
  only first second x y one two level = elim (cases_lt first second) [
    | inl before ↦ absurd (omega (arith, level, numbers_rise first second x y one two before))
    | inr behind ↦ elim (cases_lt second first) [
      | inl later ↦ absurd (omega (arith, level, numbers_rise second first y x two one later))
      | inr same ↦ (let place : first ≡ second = omega (arith, behind, same) in
          let is : Some x ≡ Some y = sym one.there ∙ (ap (slice_get asks) place ∙ two.there) in
          cc)
    ]
  ]

-- what a grant is: the generation is that of the last record then, which is the Add for the kept ask
pub record IsGrantFor (pools : List PoolLine) (log : List LogRecord) (entry : AskLog) (generation : ℕ) (ask : Ask) (run : Run)
    : Type 0 where
  pub at : generation ≡ entry.at
  pub kept : entry.ask ≡ Some ask
  pub number : ask.number ≡ entry.number
  pub grown : IsAddOf pools log generation ask run

abbrev pub IsGrantOfSome : List PoolLine → List LogRecord → AskLog → Type 0
IsGrantOfSome pools log entry = (generation : ℕ) → entry.outcome ≡ Granted generation
    → (ask : Ask) × (run : Run) × IsGrantFor pools log entry generation ask run

granted_by_cause : (pools : List PoolLine) (log : List LogRecord) (before : List AskLog) (entry : AskLog)
    → HasCause pools log before entry entry.outcome → IsGrantOfSome pools log entry
granted_by_cause pools log before entry cause generation granted =
    let has = subst (HasCause pools log before entry) granted cause in (
      has.0,
      has.1,
      record {
        at = has.3;
        kept = has.2.kept;
        number = has.2.which;
        grown = subst (λ g. IsAddOf pools log g has.0 has.1) (sym has.3) has.4;
      },
    )

granted_from : (pools : List PoolLine) (log : List LogRecord) (before asks : List AskLog) → AllCaused pools log before asks
    → All (IsGrantOfSome pools log) asks
granted_from pools log before [] caused = All-nil (IsGrantOfSome pools log)
granted_from pools log before (entry ∷ asks) caused =
    All-cons (IsGrantOfSome pools log) entry asks (granted_by_cause pools log before entry caused.0.cause)
    (granted_from pools log (before ++ entry ∷ []) asks caused.1)

pub grant_is : (segs : SegsView) (entry : AskLog) → IsSound segs → Contains segs.asks entry → IsGrantOfSome segs.pools segs.log entry
grant_is segs entry sound among =
    All-contains (IsGrantOfSome segs.pools segs.log) segs.asks entry (granted_from segs.pools segs.log [] segs.asks sound.asks.caused) among

-- what grants a generation is a grant of it
pub grant_of_generation : (generation : ℕ) (outcome : Outcome) → is_grant_of generation outcome ≡ true → outcome ≡ Granted generation
grant_of_generation generation (Granted granted) is = ap Granted (eqb-true granted generation is)
grant_of_generation generation (Refused cause) is = cc
grant_of_generation generation (Stale done) is = cc
grant_of_generation generation (Freed freed) is = cc

grants_it : (generation : ℕ) (entry : AskLog) → entry.outcome ≡ Granted generation → grants generation entry ≡ true
grants_it generation entry granted = rw (granted, eq-eqb generation generation refl) refl

fresh_grant : (generation : ℕ) (entry : AskLog) → entry.outcome ≡ Granted generation → is_stale entry.outcome ≡ false
fresh_grant generation entry granted = ap is_stale granted

-- the grant of a later ask has a later generation
pub generations_rise : (segs : SegsView) (who : ℕ) (x y : AskLog) (first second : ℕ) → IsSound segs → AreRising segs.asks
    → Contains segs.asks x → Contains segs.asks y → x.from ≡ who → y.from ≡ who → x.outcome ≡ Granted first → y.outcome ≡ Granted second
    → x.number < y.number → first < second
generations_rise segs who x y first second sound turn x_among y_among x_from y_from x_granted y_granted lower =
    let (place, one) = among_read segs.asks x x_among in
    let (later, two) = among_read segs.asks y y_among in
    let before = earlier segs.asks who turn place later x y (record { there = one; from = x_from; fresh = fresh_grant first x x_granted })
    (record { there = two; from = y_from; fresh = fresh_grant second y y_granted }) lower in
    let falls = never_falls (λ (entry : AskLog). entry.at) segs.asks place later x y sound.asks.in_time before one two in
    let x_at = (grant_is segs x sound x_among first x_granted).2.at in
    let y_at = (grant_is segs y sound y_among second y_granted).2.at in
    elim (cases_lt first second) [
      | inl rise ↦ rise
      | inr level ↦ (let one_generation : second ≡ first = omega (arith, level, falls, x_at, y_at) in
          let same : x ≡ y = counted_once (grants first) segs.asks x y (sound.asks.granted_once first)
          (grants_it first x x_granted, x_among)
          (grants_it first y (y_granted ∙ ap Granted one_generation), y_among) in
          absurd (omega (arith, lower, ap (λ (entry : AskLog). entry.number) same)))
    ]
