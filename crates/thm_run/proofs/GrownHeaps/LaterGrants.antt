-- Where records and outcomes come after others, and what is granted then are later records, what was granted and what had failed stays.
use Rattle.std.proofs.Common.{◌≡◌, ◌∙◌, ℕ, zero, suc, ◌-◌, ◌<◌, ◌≤◌, Bool, true, false, not, ◌&&◌, ◌||◌, List, ◌++◌, length, Contains, nat_lt, inl, inr, refl, ap, sym, arith}
use Rattle.std.specs.List.{slice_get}
use Rattle.std.specs.Option.{option_map_or}
use Rattle.std.proofs.lemmas.Bool.{cases_lt, false_from_ne_true}
use Rattle.std.proofs.lemmas.List.Folds.{list_any-append}
use Rattle.hp_hall.proofs.StandingFacts.StandingLists.{found_in}
use Rattle.hp_log.specs.declared.log_record.LogRecord.{LogRecord}
use Rattle.hp_segs.proofs.AskFacts.Settled.{get_before}
use Rattle.hp_segs.specs.SoundAsks.{grants, is_granted}
use Rattle.hp_segs.specs.declared.outcome.AskLog.{AskLog}
use Rattle.hp_segs.specs.declared.outcome.Outcome.TheVariants.{Granted}
use Rattle.hp_proc.specs.Seen.{adds_for, has_failed}
use Rattle.thm_run.proofs.GrownHeaps.GrantTurns.{grant_of_generation}

-- what is granted by these outcomes is later than so many records
abbrev pub GrantsLater : ℕ → List AskLog → Type 0
GrantsLater start others =
    (entry : AskLog) (generation : ℕ) → Contains others entry → entry.outcome ≡ Granted generation → start < generation

module _ (log more : List LogRecord) (asks others : List AskLog) (later : GrantsLater (length log) others) where
  none_later : (generation : ℕ) → generation ≤ length log → is_granted others generation ≡ false
  none_later generation within =
      false_from_ne_true (is_granted others generation) (λ granted.
      let found = found_in (grants generation) others granted in
      omega (
        arith,
        within,
        later found.element generation found.among (grant_of_generation generation found.element.outcome found.passes),
      ))

  -- a record that was there is granted still, or is not
  pub granted_stays : (generation : ℕ) → generation ≤ length log → is_granted (asks ++ others) generation ≡ is_granted asks generation
  granted_stays generation within =
      list_any-append (grants generation) asks others
      ∙ (ap (λ b. is_granted asks generation || b) (none_later generation within) ∙ or_none (is_granted asks generation))
    where
      or_none : (b : Bool) → (b || false) ≡ b
      or_none true = refl
      or_none false = refl

  -- a growth that had failed has failed still
  pub failed_stays : (heap generation : ℕ) → generation ≤ length log
      → has_failed (log ++ more) (asks ++ others) heap generation ≡ has_failed log asks heap generation
  failed_stays heap generation within =
      elim (cases_lt 0 generation) [
        | inl some ↦
            let record_stays : slice_get (log ++ more) (generation - 1) ≡ slice_get log (generation - 1) =
            get_before log more (generation - 1) (omega (arith, some, within)) in
            ap
            (λ found. nat_lt 0 generation && (option_map_or (adds_for heap) found false && not (is_granted (asks ++ others) generation)))
            record_stays
            ∙ ap
            (λ granted. nat_lt 0 generation
            && (option_map_or (adds_for heap) (slice_get log (generation - 1)) false && not granted))
            (granted_stays generation within)
        | inr none ↦
            let off : nat_lt 0 generation ≡ false = le_off generation none in
            ap (λ b. b && (option_map_or (adds_for heap) (slice_get (log ++ more) (generation - 1)) false && not
            (is_granted (asks ++ others) generation))) off
            ∙ sym (ap (λ b. b && (option_map_or (adds_for heap) (slice_get log (generation - 1)) false && not
            (is_granted asks generation))) off)
      ]
    where
      le_off : (generation : ℕ) → generation ≤ 0 → nat_lt 0 generation ≡ false
      le_off zero none = refl
      le_off (suc generation) none = absurd (omega (arith, none))
