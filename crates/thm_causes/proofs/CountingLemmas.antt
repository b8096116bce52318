-- A plan loses at most as many messages as it has lines that do so, and doubles at most as many; and how the counts go on.
use Rattle.std.proofs.Common.{◌≡◌, ℕ, zero, suc, ◌+◌, ◌≤◌, Bool, true, false, ◌&&◌, ◌==◌, cond, List, [], ◌∷◌, count_by, refl, sym, ap, ◌∙◌, arith, inl, inr}
use Rattle.std.proofs.lemmas.Bool.{both_ways, cases_Bool, cases_eq, cond-true, cond-false, and_parts, and_from, eqb-true}
use Rattle.std.proofs.lemmas.List.Sums.{sum_by-cons}
use Rattle.std.specs.Option.{option_map_or}
use Rattle.std.specs.Prelude.{Some, find, if◌then◌else◌}
use Rattle.hp_base.specs.Plans.{action_of, count_of, entry_action, kind_place, names_message}
use Rattle.hp_base.specs.declared.plan.Action.{Action}
use Rattle.hp_base.specs.declared.plan.Action.TheVariants.{Deliver}
use Rattle.hp_base.specs.declared.plan_entry.MsgKind.{MsgKind}
use Rattle.hp_base.specs.declared.plan_entry.PlanEntry.{PlanEntry}
use Rattle.hp_base.specs.declared.plan_entry.PlanEntry.TheVariants.{Message, Mapping}
use Rattle.thm_causes.specs.Counting.{LosesAsPlanned, RepeatsAsPlanned, doubled_among, entry_loses, entry_repeats, is_doubled, is_lost, is_sent, lost_among}

-- how many of the numbers from 1 to n pass
passing : (ℕ → Bool) → ℕ → ℕ
passing test zero = 0
passing test (suc n) = passing test n + cond (test (suc n)) 1 0

passing-more : (test : ℕ → Bool) (n : ℕ) → passing test (suc n) ≡ passing test n + cond (test (suc n)) 1 0
unfolding passing
passing-more test n = refl

passing-zero : (test : ℕ → Bool) → passing test zero ≡ 0
unfolding passing
passing-zero test = refl

one : {b : Bool} → b ≡ true → cond {A = ℕ} b 1 0 ≡ 1
one passes = ap (λ b. cond {A = ℕ} b 1 0) passes

nothing : {b : Bool} → b ≡ false → cond {A = ℕ} b 1 0 ≡ 0
nothing fails = ap (λ b. cond {A = ℕ} b 1 0) fails

-- 1 where a test passes
abbrev pub one_if : Bool → ℕ
one_if passes = cond passes 1 0

pub at_most_one : (b : Bool) → one_if b ≤ 1
at_most_one true = omega arith
at_most_one false = omega arith

-- where none passes
passing_none : (test : ℕ → Bool) (n : ℕ) → ((k : ℕ) → test k ≡ false) → passing test n ≡ 0
passing_none test zero none = passing-zero test
passing_none test (suc n) none = omega (arith, passing-more test n, passing_none test n none, nothing (none (suc n)))

-- a test that passes, up to n, no number but those that another test passes
passing_fewer : (test other : ℕ → Bool) (n : ℕ) → ((k : ℕ) → k ≤ n → test k ≡ true → other k ≡ true) → passing test n ≤ passing other n
passing_fewer test other zero within = omega (arith, passing-zero test, passing-zero other)
passing_fewer test other (suc n) within =
    let before = passing_fewer test other n (λ k below. within k (omega arith)) in
    elim (cases_Bool (test (suc n))) [
      | inl passes ↦
          omega (arith, passing-more test n, passing-more other n, before, one passes, one (within (suc n) (omega arith) passes))
      | inr fails ↦ omega (arith, passing-more test n, passing-more other n, before, nothing fails)
    ]

-- and one number more
passing_one_more : (test other : ℕ → Bool) (place n : ℕ) → ((k : ℕ) → (k ≡ place → ⊥) → test k ≡ true → other k ≡ true)
    → passing test n ≤ passing other n + 1
passing_one_more test other place zero within = omega (arith, passing-zero test)
passing_one_more test other place (suc n) within = elim (cases_eq (suc n) place) [
  | inl same ↦ (let before = passing_fewer test other n (λ k below. within k (λ here. omega (arith, same, below, here))) in
      omega (arith, passing-more test n, passing-more other n, before, at_most_one (test (suc n))))
  | inr apart ↦ (let before = passing_one_more test other place n within in
      elim (cases_Bool (test (suc n))) [
        | inl passes ↦ omega (arith, passing-more test n, passing-more other n, before, one passes, one (within (suc n) apart passes))
        | inr fails ↦ omega (arith, passing-more test n, passing-more other n, before, nothing fails)
      ])
]

-- an entry names messages with its own number alone
pub named_number : (kind : MsgKind) (party k : ℕ) (entry : PlanEntry) → names_message kind party k entry ≡ true → k ≡ count_of entry
named_number kind party k (Message its_kind its_party its_k twice line) named =
    let rest = and_parts (kind_place kind == kind_place its_kind) ((party == its_party) && (k == its_k)) named in
    eqb-true k its_k (and_parts (party == its_party) (k == its_k) rest.1).1
named_number kind party k (Mapping its_party its_call elsewhere line) named = cc

module _ (kind : MsgKind) (party : ℕ) (is : Action → Bool) (does : PlanEntry → Bool) (not_delivered : is Deliver ≡ false)
    (its_doing : (k : ℕ) (entry : PlanEntry) → names_message kind party k entry ≡ true → is (entry_action entry) ≡ true
    → does entry ≡ true) where
  -- what becomes of a message is what the first entry does where that names it, and else what the others do
  action-cons : (entry : PlanEntry) (plan : List PlanEntry) (k : ℕ) (b : Bool) → names_message kind party k entry ≡ b
      → action_of (entry ∷ plan) kind party k ≡ cond b (entry_action entry) (action_of plan kind party k)
  action-cons entry plan k true named =
      ap (λ found. option_map_or entry_action found Deliver)
      (cond-true (names_message kind party k entry) (Some entry) (find (names_message kind party k) plan) named)
  action-cons entry plan k false other =
      ap (λ found. option_map_or entry_action found Deliver)
      (cond-false (names_message kind party k entry) (Some entry) (find (names_message kind party k) plan) other)

  -- of the first messages at most as many are treated so as a plan has lines that do so
  treated_as_planned : (plan : List PlanEntry) (count : ℕ)
      → passing (λ k. is (action_of plan kind party k)) count ≤ count_by does plan
  treated_as_planned [] count = omega (arith, passing_none (λ k. is (action_of [] kind party k)) count (λ k. not_delivered))
  treated_as_planned (entry ∷ plan) count =
      let later = treated_as_planned plan count in
      let all = sum_by-cons (λ one. cond {A = ℕ} (does one) 1 0) entry plan in
      elim (cases_Bool (does entry)) [
        | inl does_so ↦ omega (
          arith,
          later,
          all,
          one does_so,
          passing_one_more (λ k. is (action_of (entry ∷ plan) kind party k)) (λ k. is (action_of plan kind party k)) (count_of entry) count
              (λ k apart passes. by_another k passes (λ named. apart (named_number kind party k entry named))),
        )
        | inr does_not ↦ omega (
          arith,
          later,
          all,
          nothing does_not,
          passing_fewer (λ k. is (action_of (entry ∷ plan) kind party k)) (λ k. is (action_of plan kind party k)) count
              (λ k below passes. by_another k passes (λ named. both_ways (does entry) does_not
              (its_doing k entry named (sym (ap is (action-cons entry plan k true named)) ∙ passes)))),
        )
      ]
    where
      by_another : (k : ℕ) → is (action_of (entry ∷ plan) kind party k) ≡ true → (names_message kind party k entry ≡ true → ⊥)
          → is (action_of plan kind party k) ≡ true
      by_another k passes unnamed = elim (cases_Bool (names_message kind party k entry)) [
        | inl named ↦ absurd (unnamed named)
        | inr other ↦ sym (ap is (action-cons entry plan k false other)) ∙ passes
      ]

lost_is : (plan : List PlanEntry) (kind : MsgKind) (party n : ℕ)
    → lost_among plan kind party n ≡ passing (λ k. is_sent kind party && is_lost (action_of plan kind party k)) n
unfolding lost_among passing
lost_is plan kind party zero = refl
lost_is plan kind party (suc n) =
    ap (λ before. before + (if is_sent kind party && is_lost (action_of plan kind party (suc n)) then 1 else 0)) (lost_is plan kind party n)

doubled_is : (plan : List PlanEntry) (kind : MsgKind) (party n : ℕ)
    → doubled_among plan kind party n ≡ passing (λ k. is_doubled (action_of plan kind party k)) n
unfolding doubled_among passing
doubled_is plan kind party zero = refl
doubled_is plan kind party (suc n) =
    ap (λ before. before + (if is_doubled (action_of plan kind party (suc n)) then 1 else 0)) (doubled_is plan kind party n)

-- an entry that names a message and loses it is a line that does so, and one that doubles it
loses_so : (kind : MsgKind) (party k : ℕ) (entry : PlanEntry) → names_message kind party k entry ≡ true
    → (is_sent kind party && is_lost (entry_action entry)) ≡ true → entry_loses kind party entry ≡ true
loses_so kind party k (Message its_kind its_party its_k true line) named lost =
    let none = (and_parts (is_sent kind party) false lost).1 in
    cc
loses_so kind party k (Message its_kind its_party its_k false line) named lost =
    let rest = and_parts (kind_place kind == kind_place its_kind) ((party == its_party) && (k == its_k)) named in
    and_from (is_sent kind party) ((kind_place kind == kind_place its_kind) && ((party == its_party) && true))
    (and_parts (is_sent kind party) true lost).0
    (and_from (kind_place kind == kind_place its_kind) ((party == its_party) && true) rest.0
    (and_from (party == its_party) true (and_parts (party == its_party) (k == its_k) rest.1).0 refl))
loses_so kind party k (Mapping its_party its_call elsewhere line) named lost = cc

-- a message that is delivered is not lost, whether there is one or not
pub delivered : (sent : Bool) → (sent && false) ≡ false
delivered true = refl
delivered false = refl

repeats_so : (kind : MsgKind) (party k : ℕ) (entry : PlanEntry) → names_message kind party k entry ≡ true
    → is_doubled (entry_action entry) ≡ true → entry_repeats kind party entry ≡ true
repeats_so kind party k (Message its_kind its_party its_k true line) named doubled =
    let rest = and_parts (kind_place kind == kind_place its_kind) ((party == its_party) && (k == its_k)) named in
    and_from (kind_place kind == kind_place its_kind) ((party == its_party) && true) rest.0
    (and_from (party == its_party) true (and_parts (party == its_party) (k == its_k) rest.1).0 refl)
repeats_so kind party k (Message its_kind its_party its_k false line) named doubled = cc
repeats_so kind party k (Mapping its_party its_call elsewhere line) named doubled = cc

pub lost_as_planned : LosesAsPlanned
lost_as_planned plan kind party count =
    omega (
      arith,
      lost_is plan kind party count,
      treated_as_planned kind party (λ what. is_sent kind party && is_lost what)
          (entry_loses kind party) (delivered (is_sent kind party)) (loses_so kind party) plan count,
    )

pub doubled_as_planned : RepeatsAsPlanned
doubled_as_planned plan kind party count =
    omega (
      arith,
      doubled_is plan kind party count,
      treated_as_planned kind party is_doubled (entry_repeats kind party) refl
          (repeats_so kind party) plan count,
    )
