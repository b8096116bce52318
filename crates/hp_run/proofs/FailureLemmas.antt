-- A mapping that failed did as the plan has it, or its mapper is not steady.
use Rattle.std.proofs.Common.{◌≡◌, ◌∙◌, ◌⊎◌, ℕ, ◌+◌, ◌<◌, inl, inr, List, [], ◌∷◌, length, map, true, false, Contains, Option, Some, None, refl, sym, ap, subst, arith}
use Rattle.std.specs.List.{slice_get}
use Rattle.std.specs.Option.{option_map}
use Rattle.std.proofs.lemmas.List.{length-map}
use Rattle.std.proofs.lemmas.Option.{get_or_from_slice_get, same_Some, slice_get-map, slice_get_within}
use Rattle.hp_base.specs.Mapping.{FailingCall, Failure, Misplaces, Refuses, failed_answer, may_fail_at}
use Rattle.hp_base.specs.Plans.{planned_calls}
use Rattle.hp_base.specs.declared.limits.TheConstants.{MAX_HEAPS}
use Rattle.hp_base.specs.declared.map_answer.MapAnswer.{MapAnswer}
use Rattle.hp_base.specs.declared.map_answer.MapAnswer.TheVariants.{At}
use Rattle.hp_base.specs.declared.plan_entry.PlanEntry.{PlanEntry}
use Rattle.hp_base.specs.declared.row.Row.{Row}
use Rattle.hp_base.proofs.PlannedMapping.{planned_entry}
use Rattle.hp_plain.specs.HallView.{segs_in, slot_at}
use Rattle.hp_maps.specs.PlannedView.{may_fail_by}
use Rattle.hp_maps.proofs.PlannedLemmas.{fails_by_plan}
use Rattle.hp_script.specs.declared.answer.Answer.{Answer}
use Rattle.hp_script.specs.declared.answer.Answer.TheVariants.{Refused}
use Rattle.hp_script.specs.declared.line.Line.{Line}
use Rattle.hp_script.specs.declared.workload.Workload.{Workload}
use Rattle.hp_segs.specs.SegsView.{SegsView}
use Rattle.hp_segs.specs.declared.ask.Ask.{Ask}
use Rattle.hp_proc.specs.LinesDone.{Course}
use Rattle.hp_serve.specs.Party.{Party}
use Rattle.hp_solo.specs.Solo.{AloneView, SoloView}
use Rattle.thm_run.specs.EndLaws.{FailsByReason, FailsFor, FailsOnce, IsGiven, IsRefusedMapping, MapsPages, MayHaveFailed, MayHaveFailedSo, RefusesByReason, RefusesOnce}
use Rattle.hp_run.specs.Ending.{AreAsMay, AreNamed}
use Rattle.hp_run.specs.Failures.{IsFailedAsPlanned, IsFailureNamed, IsRefusedAt, IsUnsteady, MayFailIn, MayFailSoIn, planned_answer}
use Rattle.hp_run.specs.Opening.{HaveCome}
use Rattle.hp_run.specs.Running.{FailAsBefore, HaveDoneLines}
use Rattle.hp_run.proofs.Places.{party_there, there_below}

-- where a mapper with a plan may fail, the plan names the call, or the mapper below it is not steady
pub named_there : (plan : List PlanEntry) (mappers : List (Option (List FailingCall))) (who : ℕ) (may_fail : Option (List FailingCall)) (call : ℕ)
    → slice_get mappers who ≡ Some may_fail → may_fail_at (may_fail_by plan who may_fail) call ≡ true
    → IsFailureNamed plan mappers who call
named_there plan mappers who None call there may = inr (record { may_fail = None; its = there; unsteady = λ steady. cc })
named_there plan mappers who (Some []) call there may = inl (sym (fails_by_plan plan who (Some []) refl call) ∙ may)
named_there plan mappers who (Some (other ∷ others)) call there may =
    inr (record { may_fail = Some (other ∷ others); its = there; unsteady = λ steady. cc })

-- where the mapper of a first one may fail at a call, that is named
named_of : (workload : Workload) (mappers : List (Option (List FailingCall))) (servers : List AloneView) (who call : ℕ)
    → HaveCome workload mappers servers → MayFailIn servers who call → IsFailureNamed workload.plan.items mappers who call
named_of workload mappers servers who call come may =
    let over = come.each who may.party (sym (party_there servers come.parties come.are who) ∙ may.its) in
    let began : may.party.maps.may_fail ≡ may_fail_by workload.plan.items who over.may_fail =
    ap (λ (party : Party). party.maps.may_fail) over.planned.is ∙ over.planned.fails in
    named_there workload.plan.items mappers who over.may_fail call over.its
    (ap (λ (may_fail : Option (List FailingCall)). may_fail_at may_fail call) (sym began) ∙ may.may)

-- what a planned call answers a row that has the page size and the socket of an ask
planned_row : (row : Row) (ask : Ask) (addr : ℕ) → row.addr ≡ addr → row.page ≡ ask.page → row.socket ≡ ask.socket
    → failed_answer Misplaces row ≡ planned_answer true addr ask
planned_row row ask addr its_addr page socket =
    ap (λ (n : ℕ). At (n + row.page) row.page row.socket) its_addr ∙ ap (λ (n : ℕ). At (addr + n) n row.socket) page
    ∙ ap (λ (n : ℕ). At (addr + ask.page) ask.page n) socket

-- a failing call of a plan is an entry's, and what it answers is what the entry says
planned_so : (plan : List PlanEntry) (who call addr : ℕ) (got : MapAnswer) (kept : Option Ask) (fails : FailsFor (Some (planned_calls plan who)) call addr got kept)
    → IsFailedAsPlanned plan who call addr got kept
planned_so plan who call addr got kept fails = by_kind fails.so.how fails.so.its fails.so.is
  where
    by_kind : (how : Failure) → Contains (planned_calls plan who) (record { call = call; how = how })
        → got ≡ failed_answer how fails.row → IsFailedAsPlanned plan who call addr got kept
    by_kind Refuses has is =
        let found = planned_entry plan who call false has in
        record { elsewhere = false; line = found.0; planned = found.1; ask = fails.ask; asked = fails.kept_is; answered = is }
    by_kind Misplaces has is =
        let found = planned_entry plan who call true has in
        record {
          elsewhere = true;
          line = found.0;
          planned = found.1;
          ask = fails.ask;
          asked = fails.kept_is;
          answered = is ∙ planned_row fails.row fails.ask addr fails.its_addr fails.page fails.socket;
        }

-- where a mapper with a plan may fail so, the plan has it, or the mapper below it is not steady
pub failed_there : (plan : List PlanEntry) (mappers : List (Option (List FailingCall))) (who : ℕ) (may_fail : Option (List FailingCall))
    (call addr : ℕ) (got : MapAnswer) (kept : Option Ask) → slice_get mappers who ≡ Some may_fail
    → FailsFor (may_fail_by plan who may_fail) call addr got kept
    → IsFailedAsPlanned plan who call addr got kept ⊎ IsUnsteady mappers who
failed_there plan mappers who None call addr got kept there fails = inr (record { may_fail = None; its = there; unsteady = λ steady. cc })
failed_there plan mappers who (Some []) call addr got kept there fails = inl (planned_so plan who call addr got kept fails)
failed_there plan mappers who (Some (other ∷ others)) call addr got kept there fails =
    inr (record { may_fail = Some (other ∷ others); its = there; unsteady = λ steady. cc })

-- where the mapper of a first one may fail so, the plan has it, or the mapper is not steady
failed_of : (workload : Workload) (mappers : List (Option (List FailingCall))) (servers : List AloneView) (who call addr : ℕ) (got : MapAnswer)
    (kept : Option Ask) → HaveCome workload mappers servers → MayFailSoIn servers who call addr got kept
    → IsFailedAsPlanned workload.plan.items who call addr got kept ⊎ IsUnsteady mappers who
failed_of workload mappers servers who call addr got kept come may =
    let over = come.each who may.party (sym (party_there servers come.parties come.are who) ∙ may.its) in
    let began : may.party.maps.may_fail ≡ may_fail_by workload.plan.items who over.may_fail =
    ap (λ (party : Party). party.maps.may_fail) over.planned.is ∙ over.planned.fails in
    failed_there workload.plan.items mappers who over.may_fail call addr got kept over.its
    (subst (λ (may_fail : Option (List FailingCall)). FailsFor may_fail call addr got kept) began may.fails)

-- what is said by the participants that have come is said by the plan and the mappers
pub named_all : (workload : Workload) (mappers : List (Option (List FailingCall))) (servers : List AloneView) (answers : List Answer)
    (segs : SegsView) → HaveCome workload mappers servers → AreAsMay workload servers answers segs → AreNamed workload mappers answers segs
named_all workload mappers servers answers segs come are = record {
  failures = λ entry who call logged failed.
      failed_of workload mappers servers who call failed.addr failed.got entry.ask come (are.failures entry who call logged failed);
  once = are.once;
  refusals = λ place who call refused. named_of workload mappers servers who call come (are.refusals place who call refused);
  refused_once = are.refused_once;
}

-- an element of a mapped list is of one of the list
mapped_from : {X Y : Type 0} (f : X → Y) (xs : List X) (place : ℕ) (y : Y) → slice_get (map f xs) place ≡ Some y
    → (x : X) × (slice_get xs place ≡ Some x) × (f x ≡ y)
mapped_from f xs place y is =
    let within : place < length xs = omega (arith, slice_get_within (map f xs) place y is, length-map xs f) in
    let there = there_below xs place within in
    let one : Some (f there.0) ≡ Some y = ap (option_map f) (sym there.1) ∙ sym (slice_get-map f xs place) ∙ is in
    (there.0, there.1, same_Some (f there.0) y one)

-- a line that maps pages and was refused is that of a course
pub record IsRefusedCourse (courses : List Course) (place who call : ℕ) : Type 0 where
  pub course : Course
  pub its : slice_get courses place ≡ Some course
  pub is : IsRefusedMapping who call course

pub refused_course : (courses : List Course) (lines : List Line) (answers : List Answer) (place who call : ℕ)
    → map (λ (course : Course). course.line) courses ≡ lines → map (λ (course : Course). course.answer) courses ≡ answers
    → IsRefusedAt lines answers place who call → IsRefusedCourse courses place who call
refused_course courses lines answers place who call lines_are answered refused =
    let at =
    mapped_from (λ (course : Course). course.line) courses place refused.line
    (ap (λ (lines : List Line). slice_get lines place) lines_are ∙ refused.its) in
    let given =
    mapped_from (λ (course : Course). course.answer) courses place (Refused call)
    (ap (λ (answers : List Answer). slice_get answers place) answered ∙ refused.refused) in
    let same : given.0 ≡ at.0 = same_Some given.0 at.0 (sym given.1 ∙ at.1) in
    record {
      course = at.0;
      its = at.1;
      is = record {
        who = ap (λ (line : Line). line.participant) at.2 ∙ refused.who;
        maps = subst (λ (line : Line). MapsPages line.act) (sym at.2) refused.maps;
        answer = ap (λ (course : Course). course.answer) (sym same) ∙ given.2;
      };
    }

module _ (workload : Workload) (answers : List Answer) (first last : SoloView) (segs : SegsView) (given : IsGiven workload)
    (before : HaveDoneLines workload [] [] first) (done : HaveDoneLines workload workload.lines.items answers last)
    (alike : FailAsBefore first.servers last.servers) where
  -- a mapper that may fail might from the first
  may_first : (who call : ℕ) → MayHaveFailed done.parties who call → MayFailIn first.servers who call
  may_first who call may =
      let within : who < length done.parties = slice_get_within done.parties who may.party may.its in
      let there = there_below before.parties who (omega (arith, within, before.so_far.count, done.so_far.count)) in
      let began = party_there first.servers before.parties before.are who ∙ there.1 in
      let ended = party_there last.servers done.parties done.are who ∙ may.its in
      record {
        party = there.0;
        its = began;
        may = ap (λ (may_fail : Option (List FailingCall)). may_fail_at may_fail call) (sym (alike who there.0 may.party began ended)) ∙ may.may;
      }

  -- and one that may fail so might from the first
  may_first_so : (who call addr : ℕ) (got : MapAnswer) (kept : Option Ask) → MayHaveFailedSo done.parties who call addr got kept
      → MayFailSoIn first.servers who call addr got kept
  may_first_so who call addr got kept may =
      let within : who < length done.parties = slice_get_within done.parties who may.party may.its in
      let there = there_below before.parties who (omega (arith, within, before.so_far.count, done.so_far.count)) in
      let began = party_there first.servers before.parties before.are who ∙ there.1 in
      let ended = party_there last.servers done.parties done.are who ∙ may.its in
      record {
        party = there.0;
        its = began;
        fails =
            subst (λ (may_fail : Option (List FailingCall)). FailsFor may_fail call addr got kept)
            (alike who there.0 may.party began ended) may.fails;
      }

  refused_in : (place who call : ℕ) → IsRefusedAt workload.lines.items answers place who call
      → IsRefusedCourse done.courses place who call
  refused_in place who call refused =
      refused_course done.courses workload.lines.items answers place who call done.lines_are done.answered refused

  -- mappings failed as the mappers may, and at no call twice
  pub fail_so : FailsByReason → FailsOnce → RefusesByReason → RefusesOnce → segs_in (slot_at last.plain MAX_HEAPS) ≡ Some segs
      → AreAsMay workload first.servers answers segs
  fail_so fails once refuses refused_once there = record {
    failures = λ entry who call logged failed.
        may_first_so who call failed.addr failed.got entry.ask
        (fails workload done.courses done.parties last.plain segs entry who call given done.so_far there logged failed);
    once = λ place other entry second who call here too is also.
        once workload done.courses done.parties last.plain segs place other entry second who call given done.so_far there here too is also;
    refusals = λ place who call refused.
        let it = refused_in place who call refused in
        may_first who call
        (refuses workload done.courses done.parties last.plain it.course who call given done.so_far
        (place, slice_get_within done.courses place it.course it.its, get_or_from_slice_get done.courses place it.course it.course it.its) it.is);
    refused_once = λ place other who call one two.
        let it = refused_in place who call one in
        let also = refused_in other who call two in
        refused_once workload done.courses done.parties last.plain place other it.course also.course who call given done.so_far it.its
        also.its it.is also.is;
  }
