-- The runs that records add for a heap, of generations that pass a test, are those of the generations, where these rise.
use Rattle.std.proofs.Common.{◌≡◌, ◌≢◌, ◌∙◌, ℕ, zero, suc, ◌+◌, ◌-◌, ◌<◌, Bool, true, false, ◌&&◌, cond, eqb, eq-eqb, List, [], ◌∷◌, ◌++◌, Option, Some, None, refl, sym, ap, subst, arith}
use Rattle.std.specs.Prelude.{Contains, slice_get, ⊤}
use Rattle.std.specs.Option.{option_and_then, option_to_list}
use Rattle.std.proofs.lemmas.Bool.{and_parts, eqb-true}
use mathlib.Core.Logic.{dite}
use native.Mathlib.Decide.{ℕ_discrete}
use Rattle.hp_base.specs.declared.row.Run.{Run}
use Rattle.hp_log.specs.declared.log_record.LogRecord.{LogRecord}
use Rattle.hp_log.specs.declared.log_record.LogRecord.TheVariants.{Add, Drop}
use Rattle.hp_segs.specs.GrantedRuns.{added_for, runs_added}
use Rattle.hp_segs.specs.SegsView.{added_run, run_of}

-- the runs of records by their generations
abbrev pub runs_at : List LogRecord → List ℕ → List Run
runs_at log [] = []
runs_at log (generation ∷ more) = option_to_list (run_of log generation) ++ runs_at log more

-- numbers rise, and are all above a number
abbrev pub IsRising : ℕ → List ℕ → Type 0
IsRising low [] = ⊤
IsRising low (number ∷ numbers) = (low < number) × IsRising number numbers

above : (low : ℕ) (numbers : List ℕ) (number : ℕ) → IsRising low numbers → Contains numbers number → low < number
above low [] number rising among = absurd (let inside = among.1 in omega arith)
above low (first ∷ numbers) number rising (zero, inside, is) = let up = rising.0 in omega (arith, up, is)
above low (first ∷ numbers) number rising (suc k, inside, is) =
    let up = rising.0 in
    let more = above first numbers number rising.1 (k, omega (arith, inside), is) in
    omega (arith, up, more)

in_tail : (first number : ℕ) (numbers : List ℕ) → Contains (first ∷ numbers) number → number ≢ first → Contains numbers number
in_tail first number numbers (zero, inside, is) apart = absurd (apart (sym is))
in_tail first number numbers (suc k, inside, is) apart = (k, omega (arith, inside), is)

after_first : (first number : ℕ) (numbers : List ℕ) → Contains numbers number → Contains (first ∷ numbers) number
after_first first number numbers among = let inside = among.1 in (suc among.0, omega (arith, inside), among.2)

-- the next number is the first, where it is there
record StartsWith (low : ℕ) (numbers : List ℕ) : Type 0 where
  rest : List ℕ
  is : numbers ≡ (low + 1) ∷ rest
  rising : IsRising (low + 1) rest

starts : (low : ℕ) (numbers : List ℕ) → IsRising low numbers → Contains numbers (low + 1) → StartsWith low numbers
starts low [] rising among = absurd (let inside = among.1 in omega arith)
starts low (first ∷ numbers) rising among =
    dite (ℕ_discrete first (low + 1))
    (λ same. record { rest = numbers; is = ap (λ (n : ℕ). n ∷ numbers) same; rising = subst (λ (n : ℕ). IsRising n numbers) same rising.1 })
    (λ apart.
    let later = above first numbers (low + 1) rising.1 (in_tail first (low + 1) numbers among (λ is. apart (sym is))) in
    let up = rising.0 in
    absurd (omega (arith, later, up)))

skips : (low : ℕ) (numbers : List ℕ) → IsRising low numbers → ¬ (Contains numbers (low + 1)) → IsRising (low + 1) numbers
skips low [] rising none = tt
skips low (first ∷ numbers) rising none =
    dite (ℕ_discrete first (low + 1))
    (λ same. absurd (none (0, omega arith, same)))
    (λ apart. let up = rising.0 in (omega (arith, up, apart), rising.1))

-- what a record adds for the heap
data IsAdded (heap : ℕ) (counts : Bool) (entry : LogRecord) : Type 0 where
  adds : (run : Run) → entry ≡ Add run heap → counts ≡ true → added_for heap counts entry ≡ run ∷ [] → IsAdded heap counts entry
  none : ((run : Run) → entry ≡ Add run heap → counts ≡ true → ⊥) → added_for heap counts entry ≡ [] → IsAdded heap counts entry

added_by : (heap : ℕ) (counts : Bool) (run : Run) (for : ℕ) (b : Bool) → (counts && eqb for heap) ≡ b → IsAdded heap counts (Add run for)
added_by heap counts run for true is =
    let parts = and_parts counts (eqb for heap) is in
    adds run (ap (Add run) (eqb-true for heap parts.1)) parts.0 (ap (λ b. cond b (run ∷ []) []) is)
added_by heap counts run for false is =
    none
    (λ other same on.
    let its : for ≡ heap = cc in
    let yes : (counts && eqb for heap) ≡ true = ap (λ b. b && eqb for heap) on ∙ eq-eqb for heap its in
    let wrong : true ≡ false = sym yes ∙ is in
    cc)
    (ap (λ b. cond b (run ∷ []) []) is)

added : (heap : ℕ) (counts : Bool) (entry : LogRecord) → IsAdded heap counts entry
added heap counts (Add run for) = added_by heap counts run for (counts && eqb for heap) refl
added heap counts (Drop run) = none (λ other same on. absurd (cc)) refl

module _ (heap : ℕ) (passes : ℕ → Bool) (log : List LogRecord) where
  -- the record of a generation adds for the heap, and the generation passes
  pub record IsAddOf (generation : ℕ) : Type 0 where
    pub run : Run
    pub record_is : slice_get log (generation - 1) ≡ Some (Add run heap)
    pub counts : passes generation ≡ true

  -- the records from a place on, and the generations after that place whose records add for the heap
  pub added_by_numbers : (rest : List LogRecord) (low : ℕ) (numbers : List ℕ) → ((k : ℕ) → slice_get rest k ≡ slice_get log (low + k))
      → IsRising low numbers → ((number : ℕ) → low < number → IsAddOf number → Contains numbers number)
      → ((number : ℕ) → Contains numbers number → IsAddOf number) → runs_added heap passes (low + 1) rest ≡ runs_at log numbers
  added_by_numbers [] low [] tie rising all sound = refl
  added_by_numbers [] low (number ∷ numbers) tie rising all sound =
      let its = sound number (0, omega arith, refl) in
      let up = rising.0 in
      let place : low + (number - 1 - low) ≡ number - 1 = omega (arith, up) in
      let wrong : None ≡ Some (Add its.run heap) = tie (number - 1 - low) ∙ (ap (slice_get log) place ∙ its.record_is) in
      absurd (cc)
  added_by_numbers (entry ∷ rest) low numbers tie rising all sound =
      let here : Some entry ≡ slice_get log low = tie 0 ∙ ap (slice_get log) (omega arith) in
      let next : low + 1 - 1 ≡ low = omega arith in
      let tie' : (k : ℕ) → slice_get rest k ≡ slice_get log (low + 1 + k) =
      λ k.
      let place : low + suc k ≡ low + 1 + k = omega arith in
      tie (suc k) ∙ ap (slice_get log) place in
      elim (added heap (passes (low + 1)) entry) [
        | adds run is counts adds_it ↦
            let add : IsAddOf (low + 1) = record {
              run = run;
              record_is = ap (slice_get log) next ∙ (sym here ∙ ap (λ (e : LogRecord). Some e) is);
              counts = counts;
            } in
            let first = starts low numbers rising (all (low + 1) (omega arith) add) in
            let later =
            added_by_numbers rest (low + 1) first.rest tie' first.rising
            (λ number up its.
            in_tail (low + 1) number first.rest (subst (λ (l : List ℕ). Contains l number) first.is (all number (omega (arith, up)) its))
            (λ same. omega (arith, up, same)))
            (λ number among.
            sound number (subst (λ (l : List ℕ). Contains l number) (sym first.is) (after_first (low + 1) number first.rest among))) in
            let run_is : option_to_list (run_of log (low + 1)) ≡ run ∷ [] =
            ap (λ (e : Option LogRecord). option_to_list (option_and_then added_run e)) add.record_is in
            ap (λ l. l ++ runs_added heap passes (low + 1 + 1) rest) adds_it
            ∙ (ap (λ l. run ∷ l) later
            ∙ sym (ap (runs_at log) first.is ∙ ap (λ l. l ++ runs_at log first.rest) run_is))
        | none not_it adds_none ↦
            let skip =
            skips low numbers rising (λ among.
            let its = sound (low + 1) among in
            let same : Some entry ≡ Some (Add its.run heap) = here ∙ (ap (slice_get log) (sym next) ∙ its.record_is) in
            let is : entry ≡ Add its.run heap = cc in
            not_it its.run is its.counts) in
            ap (λ l. l ++ runs_added heap passes (low + 1 + 1) rest) adds_none
            ∙ added_by_numbers rest (low + 1) numbers tie' skip (λ number up its. all number (omega (arith, up)) its) sound
      ]
