-- The counts of lost and of doubled messages as one more is sent: they do not fall.
use Rattle.std.proofs.Common.{◌≡◌, ◌∙◌, ℕ, Bool, zero, suc, ◌+◌, ◌-◌, ◌^◌, ◌<◌, ◌≤◌, ◌&&◌, true, List, [], ◌∷◌, inl, inr, refl, ap, subst, arith, false}
use Rattle.std.proofs.lemmas.Bool.{and_from, cases_Bool, cases_lt, cond-false}
use Rattle.std.proofs.lemmas.List.Elements.{All-head, All-tail}
use Rattle.std.specs.List.{All}
use Rattle.std.specs.Option.{option_map_or}
use Rattle.std.specs.Prelude.{Some, find}
use Rattle.hp_base.specs.Plans.{action_of, entry_action, names_message}
use Rattle.hp_base.specs.declared.limits.TheConstants.{MAX_COUNT}
use Rattle.hp_base.specs.declared.plan.Action.TheVariants.{Deliver}
use Rattle.hp_base.specs.declared.plan_entry.MsgKind.{MsgKind}
use Rattle.hp_base.specs.declared.plan_entry.PlanEntry.{PlanEntry}
use Rattle.hp_base.specs.declared.plan_entry.PlanEntry.TheVariants.{Mapping, Message}
use Rattle.hp_base.specs.declared.plan.Action.{Action}
use Rattle.hp_serve.specs.Party.{one_more}
use Rattle.thm_causes.specs.Counting.{LosesNothing, doubled_among, is_doubled, is_lost, is_sent, lost_among}
use Rattle.thm_causes.specs.RoundTrip.{IsCounted}
use Rattle.thm_causes.proofs.CountingLemmas.{delivered, named_number, one_if}
use Rattle.thm_causes.proofs.Owing.NothingLost.{none_lost}

other_number : (kind : MsgKind) (party k : ℕ) (entry : PlanEntry) → IsCounted entry → MAX_COUNT < k → names_message kind party k entry ≡ true
    → ⊥
other_number kind party k (Message its_kind its_party number twice line) counted beyond named =
    omega (arith, named_number kind party k (Message its_kind its_party number twice line) named, counted, beyond)
other_number kind party k (Mapping its_party call elsewhere line) counted beyond named = cc

-- a message with a number that no workload may have is delivered
beyond_entries : (plan : List PlanEntry) (kind : MsgKind) (party k : ℕ) → All IsCounted plan → MAX_COUNT < k
    → action_of plan kind party k ≡ Deliver
beyond_entries [] kind party k counted beyond = refl
beyond_entries (entry ∷ plan) kind party k counted beyond = elim (cases_Bool (names_message kind party k entry)) [
  | inl named ↦ absurd (other_number kind party k entry (All-head IsCounted entry plan counted) beyond named)
  | inr other ↦ ap (λ found. option_map_or entry_action found Deliver)
      (cond-false (names_message kind party k entry) (Some entry) (find (names_message kind party k) plan) other)
      ∙ beyond_entries plan kind party k (All-tail IsCounted entry plan counted) beyond
]

-- a count of those messages that a plan treats in some way, which grows by single messages
module _ (plan : List PlanEntry) (kind : MsgKind) (party : ℕ) (counted : All IsCounted plan) (count : ℕ → ℕ) (is : Action → Bool)
    (kept : is Deliver ≡ false) (next : (n : ℕ) → count (suc n) ≡ count n + one_if (is (action_of plan kind party (suc n)))) where
  none_there : (k : ℕ) → MAX_COUNT < k → one_if (is (action_of plan kind party k)) ≡ 0
  none_there k beyond = ap (λ (action : Action). one_if (is action)) (beyond_entries plan kind party k counted beyond) ∙ ap one_if kept

  -- after the greatest number of a workload it stays
  stays_beyond : (m n : ℕ) → MAX_COUNT ≤ m → m ≤ n → count n ≡ count m
  stays_beyond m zero far before = ap count (none m before)
    where
      none : (m : ℕ) → m ≤ 0 → 0 ≡ m
      none m below = omega (arith, below)
  stays_beyond m (suc n) far before =
      elim (cases_lt n m) [
        | inl at ↦ ap count (last m n at before)
        | inr behind ↦
            let same : count n ≡ count m = stays_beyond m n far behind in
            let no_more = none_there (suc n) (omega (arith, far, behind)) in
            omega (arith, next n, same, no_more)
      ]
    where
      last : (m n : ℕ) → n < m → m ≤ suc n → suc n ≡ m
      last m n at before = omega (arith, at, before)

  -- it grows by the next message alone
  goes_up : (n : ℕ) → count (one_more n) ≡ count n + one_if (is (action_of plan kind party (one_more n)))
  goes_up n =
      elim (cases_lt n (2 ^ 64 - 1)) [
        | inl before ↦
            subst (λ (k : ℕ). count k ≡ count n + one_if (is (action_of plan kind party k))) (next_is n before) (next n)
        | inr past ↦
            let same : count n ≡ count (one_more n) = stays_beyond (one_more n) n (far n past) (before n past) in
            let no_more = none_there (one_more n) (beyond n past) in
            omega (arith, same, no_more)
      ]
    where
      next_is : (n : ℕ) → n < 2 ^ 64 - 1 → suc n ≡ one_more n
      next_is n below = omega (arith, below)

      far : (n : ℕ) → 2 ^ 64 - 1 ≤ n → MAX_COUNT ≤ one_more n
      far n past = omega (arith, past)

      beyond : (n : ℕ) → 2 ^ 64 - 1 ≤ n → MAX_COUNT < one_more n
      beyond n past = omega (arith, past)

      before : (n : ℕ) → 2 ^ 64 - 1 ≤ n → one_more n ≤ n
      before n past = omega (arith, past)

module _ (plan : List PlanEntry) (kind : MsgKind) (party : ℕ) (counted : All IsCounted plan) (n : ℕ) where
  lost_next : (n : ℕ) → lost_among plan kind party (suc n)
      ≡ lost_among plan kind party n + one_if (is_sent kind party && is_lost (action_of plan kind party (suc n)))
  unfolding lost_among
  lost_next n = refl

  doubled_next : (n : ℕ) → doubled_among plan kind party (suc n)
      ≡ doubled_among plan kind party n + one_if (is_doubled (action_of plan kind party (suc n)))
  unfolding doubled_among
  doubled_next n = refl

  -- one more that is sent is lost, or comes twice, where the plan has it so
  pub lost_more : lost_among plan kind party (one_more n)
      ≡ lost_among plan kind party n + one_if (is_sent kind party && is_lost (action_of plan kind party (one_more n)))
  lost_more =
      goes_up plan kind party counted (lost_among plan kind party) (λ what. is_sent kind party && is_lost what)
      (delivered (is_sent kind party)) lost_next n

  pub doubled_more : doubled_among plan kind party (one_more n)
      ≡ doubled_among plan kind party n + one_if (is_doubled (action_of plan kind party (one_more n)))
  doubled_more = goes_up plan kind party counted (doubled_among plan kind party) is_doubled refl doubled_next n

  -- so no fewer are lost, and one more where the plan loses it and there is such a message
  pub lost_rises : lost_among plan kind party n ≤ lost_among plan kind party (one_more n)
  lost_rises = omega (arith, lost_more)

  pub one_lost : is_sent kind party ≡ true → is_lost (action_of plan kind party (one_more n)) ≡ true
      → lost_among plan kind party n + 1 ≤ lost_among plan kind party (one_more n)
  one_lost sent is =
      let one : one_if (is_sent kind party && is_lost (action_of plan kind party (one_more n))) ≡ one_if true =
      ap one_if (and_from (is_sent kind party) (is_lost (action_of plan kind party (one_more n))) sent is) in
      omega (arith, lost_more, one)

  -- by a plan that loses nothing it is not lost
  pub never_lost : is_sent kind party ≡ true → LosesNothing plan → is_lost (action_of plan kind party (one_more n)) ≡ true → ⊥
  never_lost sent nothing lost = omega (arith, one_lost sent lost, none_lost plan kind party (one_more n) nothing)
