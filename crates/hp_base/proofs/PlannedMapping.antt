-- A plan names a mapping call exactly where it has an entry for it.
use Rattle.std.proofs.Common.{◌≡◌, ℕ, zero, suc, List, [], ◌∷◌, Bool, true, false, cond, ◌==◌, refl, sym, subst, ap, ◌∙◌, arith, inl, inr}
use Rattle.std.proofs.lemmas.Bool.{both_ways, cases_Bool, and_parts, and_from, eqb-true, eq-eqb}
use Rattle.std.proofs.lemmas.List.Elements.{Contains-append_right}
use Rattle.std.proofs.lemmas.List.Folds.{list_any_at}
use Rattle.std.specs.List.{list_any}
use Rattle.std.specs.Option.{option_map_or}
use Rattle.std.specs.Prelude.{Contains, None, Option, Some, find, ⊤}
use Rattle.hp_base.specs.Laws.{PlansMapping}
use Rattle.hp_base.specs.Mapping.{FailingCall, Misplaces, Refuses, may_fail_at}
use Rattle.hp_base.specs.Plans.{entry_map_action, failure_of, map_action_of, names_mapping, planned_calls, plans_mapping}
use Rattle.hp_base.specs.declared.plan.MapAction.{MapAction}
use Rattle.hp_base.specs.declared.plan.MapAction.TheVariants as action
use Rattle.hp_base.specs.declared.plan.MapAction.TheVariants.{Ask}
use Rattle.hp_base.specs.declared.plan_entry.PlanEntry.{PlanEntry}
use Rattle.hp_base.specs.declared.plan_entry.PlanEntry.TheVariants.{Message, Mapping}

-- where no element passes, none is found
none_found : {X : Type 0} (p : X → Bool) (xs : List X) → list_any p xs ≡ false → find p xs ≡ None
none_found p [] none = refl
none_found p (x ∷ xs) none = elim (cases_Bool (p x)) [
  | inl passes ↦ absurd (grind (arith, passes, none))
  | inr fails ↦ grind (arith, fails, none, none_found p xs)
]

-- a number is another one whichever stands first
same_either_way : (n m : ℕ) → (n == m) ≡ (m == n)
same_either_way n m = elim (cases_Bool (n == m)) [
  | inl same ↦ same ∙ sym (eq-eqb m n (sym (eqb-true n m same)))
  | inr other ↦ elim (cases_Bool (m == n)) [
    | inl same ↦ absurd (both_ways (n == m) other (eq-eqb n m (sym (eqb-true m n same))))
    | inr apart ↦ other ∙ sym apart
  ]
]

-- an entry that names a mapping call is one for it
entry_named : (party call : ℕ) (entry : PlanEntry) → names_mapping party call entry ≡ true
    → (elsewhere : Bool) × (line : ℕ) × (entry ≡ Mapping party call elsewhere line)
entry_named party call (Message kind its_party k twice line) named = cc
entry_named party call (Mapping its_party its_call elsewhere line) named =
    let (parties, calls) = and_parts (party == its_party) (call == its_call) named in
    let its : its_party ≡ party = sym (eqb-true party its_party parties) in
    let number : its_call ≡ call = sym (eqb-true call its_call calls) in
    (elsewhere, line, ap (λ (p : ℕ). Mapping p its_call elsewhere line) its ∙ ap (λ (n : ℕ). Mapping party n elsewhere line) number)

-- a plan that names a mapping call has an entry for it
pub named_entry : (plan : List PlanEntry) (party call : ℕ) → plans_mapping plan party call ≡ true
    → (elsewhere : Bool) × (line : ℕ) × Contains plan (Mapping party call elsewhere line)
named_entry [] party call named = cc
named_entry (entry ∷ plan) party call named = elim (cases_Bool (names_mapping party call entry)) [
  | inl names ↦
      (let (elsewhere, line, is) = entry_named party call entry names in
      (elsewhere, line, subst (λ (one : PlanEntry). Contains (entry ∷ plan) one) is (0, omega arith, refl)))
  | inr other ↦
      (let (elsewhere, line, has) = named_entry plan party call (grind (arith, other, named)) in
      (elsewhere, line, Contains-append_right (entry ∷ []) plan (Mapping party call elsewhere line) has))
]

-- and a plan with such an entry names the call
pub entry_names : (plan : List PlanEntry) (party call : ℕ) (elsewhere : Bool) (line : ℕ) → Contains plan (Mapping party call elsewhere line)
    → plans_mapping plan party call ≡ true
entry_names plan party call elsewhere line (place, below, here) =
    let itself : names_mapping party call (Mapping party call elsewhere line) ≡ true =
    and_from (party == party) (call == call) (eq-eqb party party refl) (eq-eqb call call refl) in
    list_any_at (names_mapping party call) plan place (Mapping party call elsewhere line) below
    (subst (λ (entry : PlanEntry). names_mapping party call entry ≡ true) (sym here) itself)

-- where no entry names the call, the mapper is asked
pub unnamed_asks : (plan : List PlanEntry) (party call : ℕ) → plans_mapping plan party call ≡ false → map_action_of plan party call ≡ Ask
unnamed_asks plan party call unnamed =
    ap (λ (found : Option PlanEntry). option_map_or entry_map_action found Ask) (none_found (names_mapping party call) plan unnamed)

-- the call is among the planned ones of the party exactly where an entry names it
pub listed_call : (plan : List PlanEntry) (party call : ℕ) → may_fail_at (Some (planned_calls plan party)) call ≡ plans_mapping plan party call
listed_call [] party call = refl
listed_call (Message kind its_party k twice line ∷ plan) party call = listed_call plan party call
listed_call (Mapping its_party its_call elsewhere line ∷ plan) party call = elim (cases_Bool (party == its_party)) [
  | inl its ↦ grind (arith, its, same_either_way its_call call, listed_call plan party call)
  | inr other ↦ grind (arith, other, listed_call plan party call)
]

-- an entry's call of another party is none of the party's
planned_beside : (party its_party its_call : ℕ) (elsewhere : Bool) (line : ℕ) (plan : List PlanEntry) → (party == its_party) ≡ false
    → planned_calls (Mapping its_party its_call elsewhere line ∷ plan) party ≡ planned_calls plan party
planned_beside party its_party its_call elsewhere line plan other =
    ap (λ b. cond b (record { call = its_call; how = failure_of elsewhere } ∷ planned_calls plan party) (planned_calls plan party)) other

-- one of the party stands first among its own
planned_first : (party its_party its_call : ℕ) (elsewhere : Bool) (line : ℕ) (plan : List PlanEntry) → (party == its_party) ≡ true
    → planned_calls (Mapping its_party its_call elsewhere line ∷ plan) party
    ≡ record { call = its_call; how = failure_of elsewhere } ∷ planned_calls plan party
planned_first party its_party its_call elsewhere line plan its =
    ap (λ b. cond b (record { call = its_call; how = failure_of elsewhere } ∷ planned_calls plan party) (planned_calls plan party)) its

-- what is planned stays so with one entry more in front
planned_more : (entry : PlanEntry) (plan : List PlanEntry) (party : ℕ) (one : FailingCall) → Contains (planned_calls plan party) one
    → Contains (planned_calls (entry ∷ plan) party) one
planned_more (Message kind its_party k twice line) plan party one has = has
planned_more (Mapping its_party its_call elsewhere line) plan party one has = elim (cases_Bool (party == its_party)) [
  | inl its ↦
      subst (λ calls. Contains calls one) (sym (planned_first party its_party its_call elsewhere line plan its))
      (Contains-append_right (record { call = its_call; how = failure_of elsewhere } ∷ []) (planned_calls plan party) one has)
  | inr other ↦
      subst (λ calls. Contains calls one) (sym (planned_beside party its_party its_call elsewhere line plan other)) has
]

-- the call of an entry is among the planned ones of its party, and fails as the entry says
pub entry_planned : (plan : List PlanEntry) (party call : ℕ) (elsewhere : Bool) (line : ℕ)
    → Contains plan (Mapping party call elsewhere line)
    → Contains (planned_calls plan party) (record { call = call; how = failure_of elsewhere })
entry_planned [] party call elsewhere line (place, within, is) = absurd (omega (arith, within))
entry_planned (entry ∷ plan) party call elsewhere line (zero, within, is) =
    subst (λ (one : PlanEntry). Contains (planned_calls (one ∷ plan) party) (record { call = call; how = failure_of elsewhere })) (sym is)
    (subst (λ (calls : List FailingCall). Contains calls (record { call = call; how = failure_of elsewhere }))
    (sym (planned_first party party call elsewhere line plan (eq-eqb party party refl))) (0, omega arith, refl))
entry_planned (entry ∷ plan) party call elsewhere line (suc place, within, is) =
    planned_more entry plan party (record { call = call; how = failure_of elsewhere })
    (entry_planned plan party call elsewhere line (place, omega (arith, within), is))

-- the way in which a call fails tells what its entry says
same_failure : (elsewhere other : Bool) → failure_of elsewhere ≡ failure_of other → elsewhere ≡ other
same_failure false false same = refl
same_failure true true same = refl
same_failure false true same = cc
same_failure true false same = cc

-- a call that stands first among planned ones is that of the entry, or it is among the others
first_or_behind : (plan : List PlanEntry) (party call : ℕ) (elsewhere : Bool) (its_party its_call : ℕ) (its_elsewhere : Bool) (its_line : ℕ)
    → (party == its_party) ≡ true
    → (Contains (planned_calls plan party) (record { call = call; how = failure_of elsewhere })
    → (line : ℕ) × Contains plan (Mapping party call elsewhere line))
    → Contains (record { call = its_call; how = failure_of its_elsewhere } ∷ planned_calls plan party)
    (record { call = call; how = failure_of elsewhere })
    → (line : ℕ) × Contains (Mapping its_party its_call its_elsewhere its_line ∷ plan) (Mapping party call elsewhere line)
first_or_behind plan party call elsewhere its_party its_call its_elsewhere its_line its rest (zero, within, is) =
    let own : its_party ≡ party = sym (eqb-true party its_party its) in
    let number : its_call ≡ call = ap (λ (one : FailingCall). one.call) is in
    let so : its_elsewhere ≡ elsewhere = same_failure its_elsewhere elsewhere (ap (λ (one : FailingCall). one.how) is) in (
      its_line,
      (
        0,
        omega arith,
        ap (λ (p : ℕ). Mapping p its_call its_elsewhere its_line) own ∙ ap (λ (n : ℕ). Mapping party n its_elsewhere its_line) number
            ∙ ap (λ (b : Bool). Mapping party call b its_line) so,
      ),
    )
first_or_behind plan party call elsewhere its_party its_call its_elsewhere its_line its rest (suc place, within, is) =
    let (line, entry) = rest (place, omega (arith, within), is) in
    (line, Contains-append_right (Mapping its_party its_call its_elsewhere its_line ∷ []) plan (Mapping party call elsewhere line) entry)

-- and each call that is planned is that of an entry
pub planned_entry : (plan : List PlanEntry) (party call : ℕ) (elsewhere : Bool)
    → Contains (planned_calls plan party) (record { call = call; how = failure_of elsewhere })
    → (line : ℕ) × Contains plan (Mapping party call elsewhere line)
planned_entry [] party call elsewhere (place, within, is) = absurd (omega (arith, within))
planned_entry (Message kind its_party k twice its_line ∷ plan) party call elsewhere has =
    let (line, entry) = planned_entry plan party call elsewhere has in
    (line, Contains-append_right (Message kind its_party k twice its_line ∷ []) plan (Mapping party call elsewhere line) entry)
planned_entry (Mapping its_party its_call its_elsewhere its_line ∷ plan) party call elsewhere has =
    elim (cases_Bool (party == its_party)) [
      | inl its ↦
          first_or_behind plan party call elsewhere its_party its_call its_elsewhere its_line its
          (λ rest. planned_entry plan party call elsewhere rest)
          (subst (λ (calls : List FailingCall). Contains calls (record { call = call; how = failure_of elsewhere }))
          (planned_first party its_party its_call its_elsewhere its_line plan its) has)
      | inr other ↦
          (let (line, entry) =
          planned_entry plan party call elsewhere
          (subst (λ (calls : List FailingCall). Contains calls (record { call = call; how = failure_of elsewhere }))
          (planned_beside party its_party its_call its_elsewhere its_line plan other) has) in
          (line, Contains-append_right (Mapping its_party its_call its_elsewhere its_line ∷ []) plan (Mapping party call elsewhere line) entry))
    ]

-- what an action makes of a mapping call: where it fails, it is among the planned ones, and fails so
abbrev pub IsPlannedSo : List PlanEntry → ℕ → ℕ → MapAction → Type 0
IsPlannedSo plan party call (action.Refuse line) = Contains (planned_calls plan party) (record { call = call; how = Refuses })
IsPlannedSo plan party call (action.Elsewhere line) = Contains (planned_calls plan party) (record { call = call; how = Misplaces })
IsPlannedSo plan party call action.Ask = ⊤

planned_still : (entry : PlanEntry) (plan : List PlanEntry) (party call : ℕ) (what : MapAction) → IsPlannedSo plan party call what
    → IsPlannedSo (entry ∷ plan) party call what
planned_still entry plan party call (action.Refuse line) has = planned_more entry plan party (record { call = call; how = Refuses }) has
planned_still entry plan party call (action.Elsewhere line) has = planned_more entry plan party (record { call = call; how = Misplaces }) has
planned_still entry plan party call action.Ask has = tt

-- what an entry does to its call is planned so
entry_does : (plan : List PlanEntry) (party call : ℕ) (elsewhere : Bool) (line : ℕ) → Contains plan (Mapping party call elsewhere line)
    → IsPlannedSo plan party call (entry_map_action (Mapping party call elsewhere line))
entry_does plan party call false line has = entry_planned plan party call false line has
entry_does plan party call true line has = entry_planned plan party call true line has

first_does : (entry : PlanEntry) (plan : List PlanEntry) (party call : ℕ) → IsPlannedSo plan party call (map_action_of plan party call)
    → (named : Bool) → names_mapping party call entry ≡ named
    → IsPlannedSo (entry ∷ plan) party call
    (option_map_or entry_map_action (cond named (Some entry) (find (names_mapping party call) plan)) Ask)
first_does entry plan party call rest true names =
    let (elsewhere, line, is) = entry_named party call entry names in
    subst (λ (one : PlanEntry). IsPlannedSo (one ∷ plan) party call (entry_map_action one)) (sym is)
    (entry_does (Mapping party call elsewhere line ∷ plan) party call elsewhere line (0, omega arith, refl))
first_does entry plan party call rest false other = planned_still entry plan party call (map_action_of plan party call) rest

-- so is what the plan has of a mapping call
pub action_planned : (plan : List PlanEntry) (party call : ℕ) → IsPlannedSo plan party call (map_action_of plan party call)
action_planned [] party call = tt
action_planned (entry ∷ plan) party call =
    first_does entry plan party call (action_planned plan party call) (names_mapping party call entry) refl

pub plans_mapping_by : (plan : List PlanEntry) (party call : ℕ) → PlansMapping plan party call
plans_mapping_by plan party call = record {
  named = (named_entry plan party call, λ (elsewhere, line, has). entry_names plan party call elsewhere line has);
  listed = listed_call plan party call;
  so = λ elsewhere. (planned_entry plan party call elsewhere, λ (line, has). entry_planned plan party call elsewhere line has);
  asked = unnamed_asks plan party call;
}
