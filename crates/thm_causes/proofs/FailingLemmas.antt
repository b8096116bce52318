-- A mapping that fails for one who has taken in each granted record is one of the open growth's pages, and is noted for it.
use Rattle.std.proofs.Common.{◌≡◌, ◌∙◌, ◌==◌, ◌⊎◌, ℕ, suc, ◌+◌, ◌-◌, ◌*◌, ◌<◌, ◌≤◌, Bool, true, false, List, [], ◌∷◌, length, drop, Option, Some, None, cond, refl, sym, ap, subst, arith, inl, inr, eq-eqb}
use Rattle.std.specs.List.{slice_get}
use Rattle.std.specs.Option.{option_and_then, option_map}
use Rattle.std.specs.Prelude.{is_some}
use Rattle.std.proofs.lemmas.Bool.{and_from, cases_Bool, eqb-true}
use Rattle.std.proofs.lemmas.List.Elements.{Contains-append_right}
use Rattle.hp_base.specs.declared.caught.Caught.{Caught}
use Rattle.hp_base.specs.declared.caught.Caught.TheVariants.{Done, Refused, Elsewhere}
use Rattle.hp_base.specs.declared.map_answer.MapAnswer.{MapAnswer}
use Rattle.hp_base.specs.declared.map_answer.MapAnswer.TheVariants as answer
use Rattle.hp_base.specs.declared.row.Row.{Row}
use Rattle.hp_base.specs.declared.row.Run.{Run}
use Rattle.hp_core.specs.Following.{after_catching, failure_of}
use Rattle.hp_log.specs.Rows.{row_of}
use Rattle.hp_log.specs.declared.log_record.LogRecord.TheVariants.{Add}
use Rattle.hp_maps.specs.Catching.{HasAnswered, HasFailed, new_rows, newer}
use Rattle.hp_maps.specs.MapsView.{MapsView}
use Rattle.thm_causes.proofs.BroughtRows.{IsBrought, page_in_run, row_brought, slice_get-drop}
use Rattle.thm_causes.specs.Failing.{AreGrantsWithin, FailsAtTheGrowth, IsOfTheGrowth, NotesAFailure, failing_call, failing_row}
use Rattle.hp_serve.specs.Serving.{CatchesUp}
use Rattle.hp_segs.specs.LaterSteps.{after_note, has_failed_from, is_failure, is_growth_row, is_noted, noted_failure, noting}
use Rattle.hp_segs.specs.SegsView.{SegsView, added_run, granted_by}
use Rattle.hp_segs.specs.Sound.{IsSound}
use Rattle.hp_segs.specs.SoundAsks.{grants, is_grant_of, is_granted, is_open}
use Rattle.hp_segs.specs.SoundRows.{IsGrowth, IsLogged}
use Rattle.hp_segs.specs.declared.growth.Growth.{Growth}
use Rattle.hp_segs.specs.declared.outcome.AskLog.{AskLog}
use Rattle.hp_segs.specs.declared.outcome.Cause.TheVariants.{MapFailed}
use Rattle.hp_segs.specs.declared.outcome.Outcome.{Outcome}
use Rattle.hp_segs.specs.declared.outcome.Outcome.TheVariants as outcome

-- the page of a growth's run is one of its rows
growth_page : (growth : Growth) (page : ℕ) → page < growth.run.count
    → is_growth_row growth (row_of growth.run growth.generation page) ≡ true
growth_page growth page within =
    let run = growth.run in
    let generation = growth.generation in
    let place : run.addr + page * run.page ≡ run.addr + (run.first + page - run.first) * run.page =
    ap (λ k. run.addr + k * run.page) (omega arith) in
    and_from (generation == generation) _ (eq-eqb generation generation refl)
    (and_from _ _ (page_in_run run generation page within)
    (and_from _ _ (eq-eqb (run.addr + page * run.page) (run.addr + (run.first + page - run.first) * run.page) place)
    (and_from (run.page == run.page) (run.socket == run.socket) (eq-eqb run.page run.page refl) (eq-eqb run.socket run.socket refl))))

granted_so : (generation : ℕ) (outcome : Outcome) → is_grant_of generation outcome ≡ true → granted_by outcome ≡ Some generation
granted_so generation (outcome.Granted granted) is = ap Some (eqb-true granted generation is)
granted_so generation (outcome.Refused cause) is = cc
granted_so generation (outcome.Stale done) is = cc
granted_so generation (outcome.Freed freed) is = cc

-- a generation that was granted is among the records that were taken in
granted_within : (number generation : ℕ) (asks : List AskLog) → AreGrantsWithin number asks → is_granted asks generation ≡ true
    → generation ≤ number
granted_within number generation [] within is = cc
granted_within number generation (entry ∷ asks) within is = elim (cases_Bool (grants generation entry)) [
  | inl here ↦ within entry generation (0, omega arith, refl) (granted_so generation entry.outcome here)
  | inr other ↦ granted_within number generation asks
      (λ one stamp has. within one stamp (Contains-append_right (entry ∷ []) asks one has))
      (grind (arith, other, is))
]

module _ (segs : SegsView) (number : ℕ) (row : Row) (sound : IsSound segs) (within : AreGrantsWithin number segs.asks)
    (brought : IsBrought number (drop number segs.log) row) where
  added : slice_get segs.log (number + brought.place) ≡ Some (Add brought.run brought.heap)
  added = sym (slice_get-drop number segs.log brought.place) ∙ brought.added

  -- it is the open growth's, as it is neither granted nor dropped
  is_of_open : is_open segs.growth (number + brought.place + 1) ≡ false → ⊥
  is_of_open closed = elim (cases_Bool (is_granted segs.asks (number + brought.place + 1))) [
    | inl granted ↦ omega (arith, granted_within number (number + brought.place + 1) segs.asks within granted)
    | inr ungranted ↦
        (let dropped = sound.asks.settled (number + brought.place) brought.run brought.heap added closed ungranted in
        let next : number + suc brought.place ≡ number + brought.place + 1 = omega arith in
        brought.stays (slice_get-drop number segs.log (suc brought.place) ∙ ap (slice_get segs.log) next ∙ dropped))
  ]

  of_growth : (growth : Growth) → IsGrowth segs.pools segs.log segs.segments growth
      → growth.generation ≡ number + brought.place + 1 → is_growth_row growth row ≡ true
  of_growth growth logged stamp =
      let before : growth.generation - 1 ≡ number + brought.place = omega (arith, stamp) in
      let same : Some (Add growth.run growth.ask.heap) ≡ Some (Add brought.run brought.heap) =
      sym logged.added ∙ ap (slice_get segs.log) before ∙ added in
      let runs : Some brought.run ≡ Some growth.run = ap (option_and_then added_run) (sym same) in
      let run_is : brought.run ≡ growth.run = cc in
      let row_is : row ≡ row_of growth.run growth.generation brought.page =
      brought.its_row ∙ ap (λ (generation : ℕ). row_of brought.run generation brought.page) (sym stamp)
      ∙ ap (λ (run : Run). row_of run growth.generation brought.page) run_is in
      subst (λ (one : Row). is_growth_row growth one ≡ true) (sym row_is)
      (growth_page growth brought.page (subst (λ (run : Run). brought.page < run.count) run_is brought.within))

  -- so it is a row of the open growth
  row_of_growth : (growth : Option Growth) → segs.growth ≡ growth
      → (own : Growth) × (segs.growth ≡ Some own) × (is_growth_row own row ≡ true)
  row_of_growth None is = absurd (is_of_open (ap (λ growth. is_open growth (number + brought.place + 1)) is))
  row_of_growth (Some growth) is = elim (cases_Bool (growth.generation == number + brought.place + 1)) [
    | inl same ↦ (
      growth,
      is,
      of_growth growth (subst (IsLogged segs.pools segs.log segs.segments) is sound.rows.logged)
          (eqb-true growth.generation (number + brought.place + 1) same),
    )
    | inr other ↦ absurd (is_of_open (ap (λ growth. is_open growth (number + brought.place + 1)) is ∙ other))
  ]

-- a mapping of some rows failed: its row is one of these, and what is noted is that
pub record Fails (fresh : List Row) (caught : Caught) : Type 0 where
  pub row : Row
  pub call : ℕ
  pub got : MapAnswer
  pub place : ℕ
  pub its_place : slice_get fresh place ≡ Some row
  pub some : is_some (failure_of caught) ≡ true
  pub row_is : failing_row caught ≡ Some row
  pub call_is : failing_call caught ≡ Some call
  pub noted : (who : ℕ) (segs : SegsView) → after_catching who caught segs ≡ after_note who call row got segs

failed_elsewhere : (fresh : List Row) (old new : List MapAnswer) (row : Row) (call : ℕ) (got : MapAnswer) → is_failure row got ≡ true
    → HasFailed fresh old new row call got → Fails fresh (Elsewhere row call got)
failed_elsewhere fresh old new row call got is failed = record {
  row = row;
  call = call;
  got = got;
  place = failed.place;
  its_place = failed.its_row;
  some = rw is refl;
  row_is = rw is refl;
  call_is = rw is refl;
  noted = λ who segs. rw is refl;
}

-- either none of the mappings failed, or one did
pub failed_or_none : (fresh : List Row) (old new : List MapAnswer) (caught : Caught) → HasAnswered fresh old new caught
    → (failure_of caught ≡ None) ⊎ Fails fresh caught
failed_or_none fresh old new Done answered = inl refl
failed_or_none fresh old new (Refused row call) failed = inr (record {
  row = row;
  call = call;
  got = answer.Refused;
  place = failed.place;
  its_place = failed.its_row;
  some = refl;
  row_is = refl;
  call_is = refl;
  noted = λ who segs. refl;
})
failed_or_none fresh old new (Elsewhere row call got) failed = elim (cases_Bool (is_failure row got)) [
  | inl fails ↦ inr (failed_elsewhere fresh old new row call got fails failed.0)
  | inr holds ↦ inl (rw holds refl)
]

-- a failed mapping of a row of the open growth is noted for it, if none was before
pub noted_behind : (segs : SegsView) (who call : ℕ) (row : Row) (got : MapAnswer) → IsOfTheGrowth segs row
    → has_failed_from segs.asks who call ≡ false → is_some (noted_failure (after_note who call row got segs)) ≡ true
noted_behind segs who call row got its unfailed =
    let growth = its.growth in
    let cause = MapFailed who call row.addr got in
    let is_noted_behind : Bool → Bool =
    λ test. is_some (noted_failure (cond test (record segs { growth = noting cause segs.growth }) segs)) in
    elim (cases_Bool (is_noted segs who call row segs.growth)) [
      | inl takes ↦ ap is_noted_behind takes
          ∙ ap (λ (own : Option Growth). is_some (option_and_then (λ (one : Growth). one.noted) (noting cause own))) its.is_open
      | inr leaves ↦
          (let off : is_noted segs who call row (Some growth) ≡ false = ap (is_noted segs who call row) (sym its.is_open) ∙ leaves in
          let before : is_some growth.noted ≡ true = grind (arith, off, its.its_row, unfailed) in
          ap is_noted_behind leaves
          ∙ ap (λ (own : Option Growth). is_some (option_and_then (λ (one : Growth). one.noted) own)) its.is_open ∙ before)
    ]

-- where one has taken in each granted record, no mapping fails, or that of a row of the open growth does
pub fails_so : (segs : SegsView) (maps new : MapsView) (caught : Caught) → IsSound segs → AreGrantsWithin maps.number segs.asks
    → CatchesUp segs.log maps new caught
    → (failure_of caught ≡ None)
    ⊎ ((failed : Fails (new_rows maps.number (newer segs.log maps.number (length segs.log))) caught) × IsOfTheGrowth segs failed.row)
fails_so segs maps new caught sound within caught_up =
    let fresh = new_rows maps.number (newer segs.log maps.number (length segs.log)) in
    elim (failed_or_none fresh maps.answers new.answers caught caught_up.answered) [
      | inl none ↦ inl none
      | inr failed ↦
          (let brought = row_brought segs.log maps.number failed.place failed.row failed.its_place in
          let (growth, is, its_row) = row_of_growth segs maps.number failed.row sound within brought segs.growth refl in
          inr (failed, record { growth = growth; is_open = is; its_row = its_row }))
    ]

pub fails_at_the_growth : FailsAtTheGrowth
fails_at_the_growth segs maps new caught row sound within caught_up fails = elim (fails_so segs maps new caught sound within caught_up) [
  | inl none ↦ (let never : None ≡ Some row = ap (option_map (λ failure. failure.row)) (sym none) ∙ fails in cc)
  | inr (failed, its) ↦
      (let rows : Some failed.row ≡ Some row = sym failed.row_is ∙ fails in
      let same : failed.row ≡ row = cc in
      subst (IsOfTheGrowth segs) same its)
]

pub notes_a_failure : NotesAFailure
notes_a_failure segs maps new caught who call sound within caught_up fails unfailed =
    elim (fails_so segs maps new caught sound within caught_up) [
      | inl none ↦ (let never : None ≡ Some call = ap (option_map (λ failure. failure.call)) (sym none) ∙ fails in cc)
      | inr (failed, its) ↦
          (let calls : Some failed.call ≡ Some call = sym failed.call_is ∙ fails in
          let same : failed.call ≡ call = cc in
          ap (λ (behind : SegsView). is_some (noted_failure behind)) (failed.noted who segs)
          ∙ noted_behind segs who failed.call failed.row failed.got its (ap (has_failed_from segs.asks who) same ∙ unfailed))
    ]
