-- At which calls a mapper with a plan may fail, and how.
use Rattle.std.proofs.Common.{◌≡◌, ◌⊎◌, ◌≤◌, ◌<◌, ◌+◌, ◌==◌, ℕ, List, [], ◌∷◌, ◌++◌, Option, Some, None, cond, length, map, take, refl, ap, ◌∙◌, sym, subst, arith, inl, inr, count_by, length-append}
use Rattle.std.specs.Prelude.{Contains, IfSome}
use Rattle.std.proofs.lemmas.Bool.{cases_Bool}
use Rattle.std.proofs.lemmas.List.{get_or_push, map-append, take_at}
use Rattle.std.proofs.lemmas.List.Elements.{All-get_or, All-take}
use Rattle.hp_base.specs.Mapping.{ArePlaced, CanMapAll, FailingCall, FailsSo, Failure, Held, Misplaces, Refuses, failed_answer, has_addr, next_place, own_place}
use Rattle.hp_base.specs.Plans.{map_action_of, planned_calls}
use Rattle.hp_base.specs.declared.map_answer.MapAnswer.{MapAnswer}
use Rattle.hp_base.specs.declared.map_answer.MapAnswer.TheVariants.{At, Refused}
use Rattle.hp_base.specs.declared.plan.MapAction.{MapAction}
use Rattle.hp_base.specs.declared.plan.MapAction.TheVariants as action
use Rattle.hp_base.specs.declared.plan_entry.PlanEntry.{PlanEntry}
use Rattle.hp_base.specs.declared.row.Row.{Row}
use Rattle.hp_base.proofs.PlannedMapping.{IsPlannedSo, action_planned, listed_call}
use Rattle.hp_log.proofs.Counts.{count_append}
use Rattle.hp_maps.specs.PlannedLayout.{misplaced_held}
use Rattle.hp_maps.specs.PlannedView.{AreAsked, FailsByPlan, PlannedView, action_for, may_fail_by}

-- over a steady mapper the calls are those that the plan names
pub fails_by_plan : (plan : List PlanEntry) (party : ℕ) (other_may_fail : Option (List FailingCall)) → FailsByPlan plan party other_may_fail
fails_by_plan plan party None steady call = cc
fails_by_plan plan party (Some []) steady call = listed_call plan party call
fails_by_plan plan party (Some (other ∷ others)) steady call = cc

-- a call that the plan names fails as the plan says, whatever the other mapper may do
planned_told : (plan : List PlanEntry) (party call : ℕ) (other_may_fail : Option (List FailingCall)) (row : Row) (how : Failure)
    → Contains (planned_calls plan party) (record { call = call; how = how })
    → FailsSo (may_fail_by plan party other_may_fail) call row (failed_answer how row)
planned_told plan party call None row how has = tt
planned_told plan party call (Some []) row how has = record { how = how; its = has; is = refl }
planned_told plan party call (Some (other ∷ others)) row how has = tt

-- what the plan has of the mapping of a row, where it has anything, is what it has of the call
planned_for : (plan : List PlanEntry) (party call : ℕ) (row : Row) (what : MapAction) → action_for plan party call row ≡ what
    → (what ≡ action.Ask → ⊥) → map_action_of plan party call ≡ what
planned_for plan party call row what is other = elim (cases_Bool (row.page == 0)) [
  | inl empty ↦ absurd (other (sym is ∙ ap (λ b. cond b action.Ask (map_action_of plan party call)) empty))
  | inr paged ↦ sym (ap (λ b. cond b action.Ask (map_action_of plan party call)) paged) ∙ is
]

-- where it refuses, the answer is so
pub refused_told : (plan : List PlanEntry) (party call : ℕ) (other_may_fail : Option (List FailingCall)) (row : Row) (line : ℕ)
    → action_for plan party call row ≡ action.Refuse line → FailsSo (may_fail_by plan party other_may_fail) call row Refused
refused_told plan party call other_may_fail row line is =
    planned_told plan party call other_may_fail row Refuses
    (subst (IsPlannedSo plan party call) (planned_for plan party call row (action.Refuse line) is (λ same. cc))
    (action_planned plan party call))

-- and where it misplaces
pub misplaced_told : (plan : List PlanEntry) (party call : ℕ) (other_may_fail : Option (List FailingCall)) (row : Row) (line : ℕ)
    → action_for plan party call row ≡ action.Elsewhere line → FailsSo (may_fail_by plan party other_may_fail) call row (next_place row)
misplaced_told plan party call other_may_fail row line is =
    planned_told plan party call other_may_fail row Misplaces
    (subst (IsPlannedSo plan party call) (planned_for plan party call row (action.Elsewhere line) is (λ same. cc))
    (action_planned plan party call))

-- where the other mapper is asked, it answers the row's own place or is not steady
pub asked_told : (plan : List PlanEntry) (party own call : ℕ) (other_may_fail : Option (List FailingCall)) (row : Row) (got : MapAnswer)
    → (got ≡ own_place row) ⊎ FailsSo other_may_fail own row got
    → (got ≡ own_place row) ⊎ FailsSo (may_fail_by plan party other_may_fail) call row got
asked_told plan party own call None row got told = inr tt
asked_told plan party own call (Some []) row got told = elim told [
  | inl its_own ↦ inl its_own
  | inr so ↦ absurd (omega (arith, so.its.1))
]
asked_told plan party own call (Some (other ∷ others)) row got told = inr tt

-- a plan without an entry has nothing of any call
pub nothing_planned : (plan : List PlanEntry) (party call : ℕ) (row : Row) → length plan ≡ 0 → action_for plan party call row ≡ action.Ask
nothing_planned [] party call row none = elim (cases_Bool (row.page == 0)) [
  | inl empty ↦ ap (λ b. cond b action.Ask action.Ask) empty
  | inr paged ↦ ap (λ b. cond b action.Ask action.Ask) paged
]
nothing_planned (entry ∷ plan) party call row none = absurd (omega (arith, none))

-- and nothing of many
pub nothing_asked : (plan : List PlanEntry) (party call : ℕ) (rows : List Row) → length plan ≡ 0 → AreAsked plan party call rows
nothing_asked plan party call [] none = tt
nothing_asked plan party call (row ∷ rows) none = (nothing_planned plan party call row none, nothing_asked plan party (call + 1) rows none)

-- where all that is held is at its own place, none is misplaced
pub none_aside : (misplaced : Option Row) (held : List Held) → ArePlaced (held ++ misplaced_held misplaced)
    → IfSome misplaced (λ (row : Row). 0 < row.page) → misplaced_held misplaced ≡ []
none_aside None held placed aside = refl
none_aside (Some row) held placed aside =
    let IsPlaced = λ (one : Held). one.got ≡ own_place one.row in
    let last : Held = record { row = row; got = next_place row } in
    let here = All-get_or IsPlaced (held ++ last ∷ []) (length held) last (omega (arith, length-append held (last ∷ []))) placed in
    let its_own : next_place row ≡ own_place row = subst IsPlaced (get_or_push held last last (length held) refl) here in
    absurd (omega (arith, ap addr_of its_own, aside))
  where
    addr_of : MapAnswer → ℕ
    addr_of (At addr page socket) = addr
    addr_of Refused = 0

-- where rows may be mapped after what is held, they may be after some of it, which took no more calls
pub can_map_inner : (rows : List Row) (held aside : List Held) (capacity calls asked : ℕ) → CanMapAll rows (held ++ aside) capacity calls → asked ≤ calls
    → CanMapAll rows held capacity asked
can_map_inner rows held aside capacity calls asked can fewer =
    let row_of = λ (one : Held). one.row in
    record {
      apart = λ addr.
          omega (
            arith,
            can.apart addr,
            count_append (has_addr addr) (map row_of (held ++ aside)) rows,
            count_append (has_addr addr) (map row_of held) rows,
            ap (count_by (has_addr addr)) (map-append row_of held aside),
            count_append (has_addr addr) (map row_of held) (map row_of aside),
          );
      placed = subst ArePlaced (take_at held aside (length held) refl)
          (All-take (λ (one : Held). one.got ≡ own_place one.row) (length held) (held ++ aside) can.placed);
      room = omega (arith, can.room, length-append held aside);
      countable = omega (arith, can.countable, fewer);
      within = can.within;
    }

abbrev made : List Held → ℕ → List MapAnswer → List MapAnswer → ℕ → Option (List FailingCall) → List PlanEntry → ℕ → PlannedView
made held capacity answers asked faults other_may_fail plan party = record {
  held = held;
  capacity = capacity;
  answers = answers;
  asked = asked;
  faults = faults;
  other_may_fail = other_may_fail;
  plan = plan;
  party = party;
}

-- two mappers with one plan are the same where all that they say is
pub view_made : {held held' : List Held} {room room' : ℕ} {answers answers' asked asked' : List MapAnswer} {faults faults' : ℕ}
    {may may' : Option (List FailingCall)} (plan : List PlanEntry) (party : ℕ) → held ≡ held' → room ≡ room' → answers ≡ answers' → asked ≡ asked'
    → faults ≡ faults' → may ≡ may' → made held room answers asked faults may plan party ≡ made held' room' answers' asked' faults' may' plan party
view_made {held} {held'} {room} {room'} {answers} {answers'} {asked} {asked'} {faults} {faults'} {may} {may'} plan party h r a s f m =
    ap (λ (x : List Held). made x room answers asked faults may plan party) h
    ∙ (ap (λ (x : ℕ). made held' x answers asked faults may plan party) r
    ∙ (ap (λ (x : List MapAnswer). made held' room' x asked faults may plan party) a
    ∙ (ap (λ (x : List MapAnswer). made held' room' answers' x faults may plan party) s
    ∙ (ap (λ (x : ℕ). made held' room' answers' asked' x may plan party) f
    ∙ ap (λ (x : Option (List FailingCall)). made held' room' answers' asked' faults' x plan party) m))))
