-- In a sound value the runs that a heap has claimed are, by the log, those of its claimed outcomes in the order of these.
use Rattle.std.proofs.Common.{◌≡◌, ◌∙◌, ℕ, zero, suc, ◌<◌, ◌≤◌, Bool, true, false, not, ◌&&◌, ◌||◌, cond, eqb, eq-eqb, List, [], ◌∷◌, ◌++◌, length, filter, get_or, count_by, Option, Some, None, refl, sym, ap, subst, arith, ◌⊎◌, ⊎_elim}
use Rattle.std.specs.Prelude.{Contains, slice_get}
use Rattle.std.specs.List.{All}
use Rattle.std.specs.Option.{option_and_then, option_map_or, option_to_list}
use Rattle.std.proofs.lemmas.Bool.{and_from, and_parts, cases_lt, eqb-true}
use Rattle.std.proofs.lemmas.List.Elements.{All-cons, All-contains, All-nil, Contains-append_right}
use Rattle.std.proofs.lemmas.List.Folds.{list_any_at}
use Rattle.hp_base.specs.declared.pool_line.PoolLine.{PoolLine}
use Rattle.hp_log.proofs.Counts.{count_cons}
use Rattle.hp_log.specs.Log.{IsAddFor}
use Rattle.hp_log.specs.declared.log_record.LogRecord.{LogRecord}
use Rattle.hp_log.specs.declared.log_record.LogRecord.TheVariants.{Add}
use Rattle.hp_segs.specs.Causes.{AllCaused, HasCause}
use Rattle.hp_segs.specs.GrantedRuns.{ClaimedInOrder, claimed_runs}
use Rattle.hp_segs.specs.SegsView.{SegsView, granted_by, is_unclaimed, run_of}
use Rattle.hp_segs.specs.Sound.{IsSound}
use Rattle.hp_segs.specs.SoundAsks.{IsGranted, grants, is_grant_of, is_granted}
use Rattle.hp_segs.specs.Standing.{claimed_by, is_claimed_for, runs_granted}
use Rattle.hp_segs.specs.declared.ask.Ask.{Ask}
use Rattle.hp_segs.specs.declared.outcome.AskLog.{AskLog}
use Rattle.hp_segs.specs.declared.outcome.Outcome.{Outcome}
use Rattle.hp_segs.specs.declared.outcome.Outcome.TheVariants.{Granted, Refused, Stale, Freed}
use Rattle.hp_segs.specs.declared.row_state.Segment.{Segment}
use Rattle.hp_segs.proofs.AddedRuns.{IsAddOf, IsRising, added_by_numbers, runs_at}

counted_of : {X : Type 0} (p : X → Bool) (xs : List X) (k : ℕ) (d : X) → k < length xs → p (get_or xs k d) ≡ true → 0 < count_by p xs
counted_of p [] k d within passes = absurd (omega (arith, within))
counted_of p (x ∷ xs) zero d within passes =
    let one : ◌≡◌ {A = ℕ} (cond (p x) 1 0) 1 = ap (λ b. cond b 1 0) passes in
    omega (arith, one, count_cons p x xs)
counted_of p (x ∷ xs) (suc k) d within passes =
    omega (arith, count_cons p x xs, counted_of p xs k d (omega (arith, within)) passes)

passes_once : {X : Type 0} (p : X → Bool) (xs : List X) (i k : ℕ) (d : X) → count_by p xs ≤ 1 → i < k → k < length xs
    → p (get_or xs i d) ≡ true → p (get_or xs k d) ≡ true → ⊥
passes_once p [] i k d once below within one other = omega (arith, within)
passes_once p (x ∷ xs) zero (suc k) d once below within one other =
    let here : ◌≡◌ {A = ℕ} (cond (p x) 1 0) 1 = ap (λ b. cond b 1 0) one in
    let more : 0 < count_by p xs = counted_of p xs k d (omega (arith, within)) other in
    omega (arith, here, once, more, count_cons p x xs)
passes_once p (x ∷ xs) (suc i) zero d once below within one other = omega (arith, below)
passes_once p (x ∷ xs) zero zero d once below within one other = omega (arith, below)
passes_once p (x ∷ xs) (suc i) (suc k) d once below within one other =
    passes_once p xs i k d (omega (arith, once, count_cons p x xs)) (omega (arith, below)) (omega (arith, within)) one other

granted_is : (outcome : Outcome) (generation : ℕ) → granted_by outcome ≡ Some generation → outcome ≡ Granted generation
granted_is (Granted stamp) generation is =
    let same : stamp ≡ generation = cc in
    ap Granted same
granted_is (Refused cause) generation is = cc
granted_is (Stale done) generation is = cc
granted_is (Freed stamp) generation is = cc

grants_is : (outcome : Outcome) (generation : ℕ) → granted_by outcome ≡ Some generation → is_grant_of generation outcome ≡ true
grants_is outcome generation is = ap (is_grant_of generation) (granted_is outcome generation is) ∙ eq-eqb generation generation refl

of_outcome : (outcome : Outcome) (generation : ℕ) → is_grant_of generation outcome ≡ true → granted_by outcome ≡ Some generation
of_outcome (Granted stamp) generation is = ap (λ (n : ℕ). Some n) (eqb-true stamp generation is)
of_outcome (Refused cause) generation is = absurd (cc)
of_outcome (Stale done) generation is = absurd (cc)
of_outcome (Freed stamp) generation is = absurd (cc)

-- a grant keeps the ask for whose heap its record adds, and its generation is the number of records when it was logged
record IsGrantTold (log : List LogRecord) (entry : AskLog) (generation : ℕ) : Type 0 where
  at : generation ≡ entry.at
  ask : Ask
  kept : entry.ask ≡ Some ask
  adds : IsAddFor log generation ask.heap

abbrev AreTold : List LogRecord → AskLog → Type 0
AreTold log entry = (generation : ℕ) → granted_by entry.outcome ≡ Some generation → IsGrantTold log entry generation

told_by : (pools : List PoolLine) (log : List LogRecord) (before : List AskLog) (entry : AskLog) (generation : ℕ)
    → HasCause pools log before entry entry.outcome → entry.outcome ≡ Granted generation → IsGrantTold log entry generation
told_by pools log before entry generation cause granted =
    let has = subst (HasCause pools log before entry) granted cause in record {
      at = has.3;
      ask = has.0;
      kept = has.2.kept;
      adds = subst (λ g. IsAddFor log g has.0.heap) (sym has.3) (record { run = has.1; added = has.4.added });
    }

told_from : (pools : List PoolLine) (log : List LogRecord) (before asks : List AskLog) → AllCaused pools log before asks → All (AreTold log) asks
told_from pools log before [] caused = All-nil (AreTold log)
told_from pools log before (entry ∷ asks) caused =
    All-cons (AreTold log) entry asks
    (λ generation granted. told_by pools log before entry generation caused.0.cause (granted_is entry.outcome generation granted))
    (told_from pools log (before ++ entry ∷ []) asks caused.1)

-- grants are logged by rising generation
abbrev AreInOrder : List AskLog → Type 0
AreInOrder asks = (i j : ℕ) (d : AskLog) (first second : ℕ) → i < j → j < length asks → granted_by (get_or asks i d).outcome ≡ Some first
    → granted_by (get_or asks j d).outcome ≡ Some second → first < second

in_order : (segs : SegsView) → IsSound segs → AreInOrder segs.asks
in_order segs sound i j d first second less inside one two =
    let told = told_from segs.pools segs.log [] segs.asks sound.asks.caused in
    let at_i = (told i d (omega (arith, less, inside)) first one).at in
    let at_j = (told j d inside second two).at in
    let rises = sound.asks.in_time i j d (omega (arith, less)) inside in
    ⊎_elim (λ below. below)
    (λ same_or.
    let same : first ≡ second = omega (arith, at_i, at_j, rises, same_or) in
    absurd (passes_once (grants second) segs.asks i j d (sound.asks.granted_once second) less inside
    (grants_is (get_or segs.asks i d).outcome second (one ∙ ap (λ (n : ℕ). Some n) same)) (grants_is (get_or segs.asks j d).outcome second two)))
    (cases_lt first second)

-- the generations of the grants among the outcomes that pass a test, in their order
abbrev stamp_of : Bool → Option ℕ → List ℕ
stamp_of true granted = option_to_list granted
stamp_of false granted = []

abbrev stamps : (AskLog → Bool) → List AskLog → List ℕ
stamps p [] = []
stamps p (entry ∷ asks) = stamp_of (p entry) (granted_by entry.outcome) ++ stamps p asks

-- their runs are those that the outcomes granted
runs_by : (log : List LogRecord) (p : AskLog → Bool) (entry : AskLog) (asks : List AskLog) (here : Bool) (granted : Option ℕ)
    → granted_by entry.outcome ≡ granted → runs_at log (stamps p asks) ≡ runs_granted log (filter p asks)
    → runs_at log (stamp_of here granted ++ stamps p asks) ≡ runs_granted log (cond here (entry ∷ filter p asks) (filter p asks))
runs_by log p entry asks false granted is rest = rest
runs_by log p entry asks true None is rest =
    rest
    ∙ ap (λ (g : Option ℕ). option_to_list (option_and_then (run_of log) g) ++ runs_granted log (filter p asks)) (sym is)
runs_by log p entry asks true (Some generation) is rest =
    ap (λ l. option_to_list (run_of log generation) ++ l) rest
    ∙ ap (λ (g : Option ℕ). option_to_list (option_and_then (run_of log) g) ++ runs_granted log (filter p asks)) (sym is)

runs_are : (log : List LogRecord) (p : AskLog → Bool) (asks : List AskLog) → runs_at log (stamps p asks) ≡ runs_granted log (filter p asks)
runs_are log p [] = refl
runs_are log p (entry ∷ asks) = runs_by log p entry asks (p entry) (granted_by entry.outcome) refl (runs_are log p asks)

-- the generations rise
stamp_cases : (low : ℕ) (here : Bool) (granted : Option ℕ) (more : List ℕ) → ((number : ℕ) → granted ≡ Some number → (low < number) × IsRising number more)
    → IsRising low more → IsRising low (stamp_of here granted ++ more)
stamp_cases low false granted more first else = else
stamp_cases low true None more first else = else
stamp_cases low true (Some number) more first else = first number refl

rising : (p : AskLog → Bool) (low : ℕ) (asks : List AskLog) → AreInOrder asks
    → ((k : ℕ) (d : AskLog) (number : ℕ) → k < length asks → granted_by (get_or asks k d).outcome ≡ Some number → low < number)
    → IsRising low (stamps p asks)
rising p low [] order all = tt
rising p low (entry ∷ asks) order all =
    let tail : AreInOrder asks =
    λ i j d first second less inside one two. order (suc i) (suc j) d first second (omega (arith, less)) (omega (arith, inside)) one two in
    stamp_cases low (p entry) (granted_by entry.outcome) (stamps p asks)
    (λ number is. (
      all 0 entry number (omega arith) is,
      rising p number asks tail (λ k d other inside granted. order 0 (suc k) d number other (omega arith) (omega (arith, inside)) is granted),
    ))
    (rising p low asks tail (λ k d number inside granted. all (suc k) d number (omega (arith, inside)) granted))

-- a grant's generation is there, where its outcome passes
stamp_there : (p : AskLog → Bool) (asks : List AskLog) (k number : ℕ) (d : AskLog) → k < length asks → p (get_or asks k d) ≡ true
    → granted_by (get_or asks k d).outcome ≡ Some number → Contains (stamps p asks) number
stamp_there p [] k number d inside passes granted = absurd (omega arith)
stamp_there p (entry ∷ asks) zero number d inside passes granted =
    subst (λ (b : Bool). Contains (stamp_of b (granted_by entry.outcome) ++ stamps p asks) number) (sym passes)
    (subst (λ (g : Option ℕ). Contains (option_to_list g ++ stamps p asks) number) (sym granted) (0, omega arith, refl))
stamp_there p (entry ∷ asks) (suc k) number d inside passes granted =
    Contains-append_right (stamp_of (p entry) (granted_by entry.outcome)) (stamps p asks) number
    (stamp_there p asks k number d (omega (arith, inside)) passes granted)

-- and each generation is that of a grant whose outcome passes
record IsStampOf (p : AskLog → Bool) (asks : List AskLog) (number : ℕ) : Type 0 where
  entry : AskLog
  there : Contains asks entry
  passes : p entry ≡ true
  granted : granted_by entry.outcome ≡ Some number

behind : (p : AskLog → Bool) (first : AskLog) (asks : List AskLog) (number : ℕ) → IsStampOf p asks number → IsStampOf p (first ∷ asks) number
behind p first asks number is =
    let inside = is.there.1 in
    record { entry = is.entry; there = (suc is.there.0, omega (arith, inside), is.there.2); passes = is.passes; granted = is.granted }

stamp_from : (p : AskLog → Bool) (entry : AskLog) (asks : List AskLog) (number : ℕ) (here : Bool) (granted : Option ℕ) → p entry ≡ here
    → granted_by entry.outcome ≡ granted → (Contains (stamps p asks) number → IsStampOf p asks number)
    → Contains (stamp_of here granted ++ stamps p asks) number → IsStampOf p (entry ∷ asks) number
stamp_from p entry asks number false granted passes is rest among = behind p entry asks number (rest among)
stamp_from p entry asks number true None passes is rest among = behind p entry asks number (rest among)
stamp_from p entry asks number true (Some stamp) passes is rest (zero, inside, here) =
    record { entry = entry; there = (0, omega arith, refl); passes = passes; granted = is ∙ ap (λ (n : ℕ). Some n) here }
stamp_from p entry asks number true (Some stamp) passes is rest (suc k, inside, here) =
    behind p entry asks number (rest (k, omega (arith, inside), here))

stamp_is : (p : AskLog → Bool) (asks : List AskLog) (number : ℕ) → Contains (stamps p asks) number → IsStampOf p asks number
stamp_is p [] number among = absurd (let inside = among.1 in omega arith)
stamp_is p (entry ∷ asks) number among =
    stamp_from p entry asks number (p entry) (granted_by entry.outcome) refl refl (stamp_is p asks number) among

-- who granted a generation
record IsGrantedBy (asks : List AskLog) (generation : ℕ) : Type 0 where
  entry : AskLog
  there : Contains asks entry
  granted : granted_by entry.outcome ≡ Some generation

granted_from : (generation : ℕ) (entry : AskLog) (asks : List AskLog) (here : Bool) → grants generation entry ≡ here
    → (here || is_granted asks generation) ≡ true → (is_granted asks generation ≡ true → IsGrantedBy asks generation)
    → IsGrantedBy (entry ∷ asks) generation
granted_from generation entry asks true is any rest =
    record { entry = entry; there = (0, omega arith, refl); granted = of_outcome entry.outcome generation is }
granted_from generation entry asks false is any rest =
    let later = rest any in
    let inside = later.there.1 in
    record { entry = later.entry; there = (suc later.there.0, omega (arith, inside), later.there.2); granted = later.granted }

granted_entry : (asks : List AskLog) (generation : ℕ) → is_granted asks generation ≡ true → IsGrantedBy asks generation
granted_entry [] generation is = absurd (cc)
granted_entry (entry ∷ asks) generation is =
    granted_from generation entry asks (grants generation entry) refl is (granted_entry asks generation)

-- a claimed outcome's parts
record IsClaimedOf (heap : ℕ) (segments : List Segment) (entry : AskLog) (generation : ℕ) : Type 0 where
  heap_is : option_map_or (λ ask. eqb ask.heap heap) entry.ask false ≡ true
  gone : not (is_unclaimed segments generation) ≡ true

claimed_parts : (heap generation : ℕ) (segments : List Segment) (entry : AskLog) → is_claimed_for heap segments entry ≡ true
    → granted_by entry.outcome ≡ Some generation → IsClaimedOf heap segments entry generation
claimed_parts heap generation segments entry claimed granted =
    let parts = and_parts _ _ claimed in
    record { heap_is = parts.0; gone = sym (ap (λ (g : Option ℕ). option_map_or (λ generation. not (is_unclaimed segments generation)) g false) granted) ∙ parts.1 }

heap_of : (heap : ℕ) (kept : Option Ask) (ask : Ask) → kept ≡ Some ask → option_map_or (λ ask. eqb ask.heap heap) kept false ≡ true → ask.heap ≡ heap
heap_of heap kept ask is passes =
    eqb-true ask.heap heap (sym (ap (λ (kept : Option Ask). option_map_or (λ ask. eqb ask.heap heap) kept false) is) ∙ passes)

module _ (segs : SegsView) (heap : ℕ) (sound : IsSound segs) where
  abbrev claims : AskLog → Bool
  claims = is_claimed_for heap segs.segments

  abbrev counts : ℕ → Bool
  counts generation = is_granted segs.asks generation && not (is_unclaimed segs.segments generation)

  told : (entry : AskLog) (generation : ℕ) → Contains segs.asks entry → granted_by entry.outcome ≡ Some generation
      → IsGrantTold segs.log entry generation
  told entry generation among granted =
      All-contains (AreTold segs.log) segs.asks entry (told_from segs.pools segs.log [] segs.asks sound.asks.caused) among generation granted

  -- an Add for the heap that counts is that of a claimed outcome
  from_add : (number : ℕ) → IsAddOf heap counts segs.log number → Contains (stamps claims segs.asks) number
  from_add number add =
      let parts = and_parts (is_granted segs.asks number) _ add.counts in
      let by = granted_entry segs.asks number parts.0 in
      let its = told by.entry number by.there by.granted in
      let both : Some (Add its.adds.run its.ask.heap) ≡ Some (Add add.run heap) = sym its.adds.added ∙ add.record_is in
      let same : its.ask.heap ≡ heap = cc in
      let owner : option_map_or (λ ask. eqb ask.heap heap) by.entry.ask false ≡ true =
      ap (λ (kept : Option Ask). option_map_or (λ ask. eqb ask.heap heap) kept false) its.kept ∙ eq-eqb its.ask.heap heap same in
      let gone : option_map_or (λ generation. not (is_unclaimed segs.segments generation)) (granted_by by.entry.outcome) false ≡ true =
      ap (λ (g : Option ℕ). option_map_or (λ generation. not (is_unclaimed segs.segments generation)) g false) by.granted ∙ parts.1 in
      stamp_there claims segs.asks by.there.0 number by.entry by.there.1
      (ap claims by.there.2 ∙ and_from _ _ owner gone) (ap (λ (e : AskLog). granted_by e.outcome) by.there.2 ∙ by.granted)

  -- and so it is the other way
  to_add : (number : ℕ) → Contains (stamps claims segs.asks) number → IsAddOf heap counts segs.log number
  to_add number among =
      let is = stamp_is claims segs.asks number among in
      let its = told is.entry number is.there is.granted in
      let parts = claimed_parts heap number segs.segments is.entry is.passes is.granted in
      let same = heap_of heap is.entry.ask its.ask its.kept parts.heap_is in
      record {
        run = its.adds.run;
        record_is = its.adds.added ∙ ap (λ (h : ℕ). Some (Add its.adds.run h)) same;
        counts = and_from (is_granted segs.asks number) _
            (list_any_at (grants number) segs.asks is.there.0 is.entry is.there.1
            (ap (grants number) is.there.2 ∙ grants_is is.entry.outcome number is.granted))
            parts.gone;
      }

  some : (k : ℕ) (d : AskLog) (number : ℕ) → k < length segs.asks → granted_by (get_or segs.asks k d).outcome ≡ Some number → 0 < number
  some k d number inside granted =
      let is = sound.asks.granted k d inside in
      (subst (IsGranted segs.log) (granted_is (get_or segs.asks k d).outcome number granted) is).0

  pub claimed_are : claimed_runs heap segs ≡ runs_granted segs.log (claimed_by heap segs)
  claimed_are =
      added_by_numbers heap counts segs.log segs.log 0 (stamps claims segs.asks) (λ k. ap (slice_get segs.log) (omega arith))
      (rising claims 0 segs.asks (in_order segs sound) some) (λ number up add. from_add number add) to_add
      ∙ runs_are segs.log claims segs.asks

pub claimed_in_order : ClaimedInOrder
claimed_in_order segs heap sound = claimed_are segs heap sound
