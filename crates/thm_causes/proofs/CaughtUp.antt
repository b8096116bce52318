-- What a catching up leaves of the segment value, of a table and of the failures that are logged.
use Rattle.std.proofs.Common.{◌≡◌, ◌⊎◌, ◌∙◌, ℕ, ◌+◌, ◌≤◌, Bool, true, false, not, ◌&&◌, ◌||◌, ◌==◌, nat_le, List, [], ◌∷◌, ◌++◌, length, map, take, Option, Some, None, is_some, inl, inr, refl, ap, arith}
use Rattle.std.specs.Option.{option_and_then}
use Rattle.std.specs.Prelude.{if◌then◌else◌}
use Rattle.std.proofs.lemmas.Bool.{and_parts, eqb-true, leb-false, lt-leb}
use Rattle.std.proofs.lemmas.List.{length-append}
use Rattle.hp_base.specs.Mapping.{is_done, own_place}
use Rattle.hp_base.specs.declared.caught.Caught.{Caught}
use Rattle.hp_base.specs.declared.caught.Caught.TheVariants as caught
use Rattle.hp_base.specs.declared.map_answer.MapAnswer.{MapAnswer}
use Rattle.hp_base.specs.declared.map_answer.MapAnswer.TheVariants as answer
use Rattle.hp_base.specs.declared.row.Row.{Row}
use Rattle.hp_core.specs.Core.{is_open_for}
use Rattle.hp_core.specs.Following.{after_catching, noted}
use Rattle.hp_core.specs.declared.phase.Round.{Round}
use Rattle.hp_log.specs.declared.log_record.LogRecord.{LogRecord}
use Rattle.hp_maps.specs.Catching.{HasAnswered, HasFailed, IsElsewhere, new_rows, newer}
use Rattle.hp_maps.specs.MapsView.{MapsView, calls_of}
use Rattle.hp_segs.proofs.SlotFacts.ListFacts.{or_off_parts}
use Rattle.hp_segs.specs.LaterSteps.{after_note, fails_from, has_failed_from, is_failure, is_noted, noted_failure, noting, outcome_fails_from}
use Rattle.hp_segs.specs.SegsView.{SegsView}
use Rattle.hp_segs.specs.declared.growth.Growth.{Growth}
use Rattle.hp_segs.specs.declared.outcome.AskLog.{AskLog}
use Rattle.hp_segs.specs.declared.outcome.Cause.{Cause}
use Rattle.hp_segs.specs.declared.outcome.Cause.TheVariants.{CannotHold, Denied, Late, ListFull, MapFailed, NoList, TooFew, Withdrawn}
use Rattle.hp_segs.specs.declared.outcome.Outcome.{Outcome}
use Rattle.hp_segs.specs.declared.outcome.Outcome.TheVariants.{Freed, Granted, Refused, Stale}
use Rattle.hp_serve.specs.Serving.{CatchesUp}
use Rattle.thm_causes.specs.Failing.{failing_call}

-- WHAT IS NOTED

-- a cause is a failed mapping of that participant, by one of so many calls
pub record IsOwnFailure (who calls : ℕ) (cause : Cause) : Type 0 where
  pub call : ℕ
  pub addr : ℕ
  pub got : MapAnswer
  pub is : cause ≡ MapFailed who call addr got
  pub made : call ≤ calls

-- of a segment value nothing has changed but that a failed mapping of that participant may be noted for the open growth
pub record MayNote (who calls : ℕ) (old new : SegsView) : Type 0 where
  pub log : new.log ≡ old.log
  pub asks : new.asks ≡ old.asks
  pub roster : new.roster ≡ old.roster
  pub armed : new.armed ≡ old.armed
  pub retiring : new.retiring ≡ old.retiring
  pub opens : (round : Round) → is_open_for round new.growth ≡ is_open_for round old.growth
  pub none : old.growth ≡ None → new.growth ≡ None
  pub stays : is_some (noted_failure old) ≡ true → is_some (noted_failure new) ≡ true
  pub noted : (cause : Cause) → noted_failure new ≡ Some cause → (noted_failure old ≡ Some cause) ⊎ IsOwnFailure who calls cause

-- so it is with one that is as it was
pub as_before : (who calls : ℕ) (segs : SegsView) → MayNote who calls segs segs
as_before who calls segs = record {
  log = refl;
  asks = refl;
  roster = refl;
  armed = refl;
  retiring = refl;
  opens = λ round. refl;
  none = λ is. is;
  stays = λ is. is;
  noted = λ cause is. inl is;
}

module _ (cause : Cause) where
  open_noting : (round : Round) (growth : Option Growth) → is_open_for round (noting cause growth) ≡ is_open_for round growth
  open_noting round None = refl
  open_noting round (Some growth) = refl

  stays_noting : (growth : Option Growth) → is_some (option_and_then (λ growth. growth.noted) growth) ≡ true
      → is_some (option_and_then (λ growth. growth.noted) (noting cause growth)) ≡ true
  stays_noting None is = is
  stays_noting (Some growth) is = refl

  noted_noting : (growth : Option Growth) (other : Cause) → option_and_then (λ growth. growth.noted) (noting cause growth) ≡ Some other
      → other ≡ cause
  noted_noting None other is = cc
  noted_noting (Some growth) other is = cc

module _ (who call : ℕ) (row : Row) (got : MapAnswer) (calls : ℕ) (made : call ≤ calls) (segs : SegsView) where
  its_cause : Cause
  its_cause = MapFailed who call row.addr got

  noted_by : (takes : Bool)
      → MayNote who calls segs
      (if takes then record segs { growth = noting (MapFailed who call row.addr got) segs.growth } else segs)
  noted_by false = as_before who calls segs
  noted_by true = record {
    log = refl;
    asks = refl;
    roster = refl;
    armed = refl;
    retiring = refl;
    opens = λ round. open_noting (MapFailed who call row.addr got) round segs.growth;
    none = λ is. ap (noting (MapFailed who call row.addr got)) is;
    stays = stays_noting (MapFailed who call row.addr got) segs.growth;
    noted = λ cause is.
        inr (record {
          call = call;
          addr = row.addr;
          got = got;
          is = noted_noting (MapFailed who call row.addr got) segs.growth cause is;
          made = made;
        });
  }

  note_may : MayNote who calls segs (after_note who call row got segs)
  note_may = noted_by (is_noted segs who call row segs.growth)

elsewhere_may : (who call : ℕ) (row : Row) (got : MapAnswer) (calls : ℕ) → call ≤ calls → (segs : SegsView) (fails : Bool)
    → MayNote who calls segs (noted who segs (if fails then Some (record { row = row; call = call; got = got }) else None))
elsewhere_may who call row got calls made segs true = note_may who call row got calls made segs
elsewhere_may who call row got calls made segs false = as_before who calls segs

-- who has caught up, or failed to, may note a failure by one of its calls
pub catching_may : (who : ℕ) (caught : Caught) (fresh : List Row) (old new : List MapAnswer) (segs : SegsView)
    → HasAnswered fresh old new caught → MayNote who (length new) segs (after_catching who caught segs)
catching_may who caught.Done fresh old new segs answered = as_before who (length new) segs
catching_may who (caught.Refused row call) fresh old new segs failed =
    note_may who call row answer.Refused (length new) (omega (arith, failed.its_call)) segs
catching_may who (caught.Elsewhere row call got) fresh old new segs failed =
    elsewhere_may who call row got (length new) (omega (arith, failed.0.its_call)) segs (is_failure row got)

-- HOW IT ENDS

-- a row that came out elsewhere failed (as in hp_serve's Handed)
other_place : (row : Row) (addr page socket : ℕ) (same : Bool)
    → ((addr == row.addr) && ((page == row.page) && (socket == row.socket))) ≡ same
    → IsElsewhere row (answer.At addr page socket) → not same ≡ true
other_place row addr page socket false is elsewhere = refl
other_place row addr page socket true is elsewhere =
    let parts = and_parts (addr == row.addr) ((page == row.page) && (socket == row.socket)) is in
    let more = and_parts (page == row.page) (socket == row.socket) parts.1 in
    absurd (elsewhere.other
    (ap (λ addr. answer.At addr page socket) (eqb-true addr row.addr parts.0)
    ∙ ap (λ page. answer.At row.addr page socket) (eqb-true page row.page more.0)
    ∙ ap (λ socket. answer.At row.addr row.page socket) (eqb-true socket row.socket more.1)))

elsewhere_fails : (row : Row) (got : MapAnswer) → IsElsewhere row got → is_failure row got ≡ true
elsewhere_fails row answer.Refused elsewhere = refl
elsewhere_fails row (answer.At addr page socket) elsewhere =
    other_place row addr page socket ((addr == row.addr) && ((page == row.page) && (socket == row.socket))) refl elsewhere

failed_longer : (fresh : List Row) (old new : List MapAnswer) (row : Row) (call : ℕ) (got : MapAnswer)
    → HasFailed fresh old new row call got
    → length old + 1 ≤ call
failed_longer fresh old new row call got failed =
    let before = map own_place (take failed.place fresh) in
    omega (arith, failed.its_call, ap length failed.answered, length-append (old ++ before) (got ∷ []), length-append old before)

failing_elsewhere : (row : Row) (call : ℕ) (got : MapAnswer) → is_failure row got ≡ true
    → failing_call (caught.Elsewhere row call got) ≡ Some call
failing_elsewhere row call got is = rw is refl

-- a table has taken in the whole log, or a mapping failed, by a later call than those before
pub data Ends (log : List LogRecord) (old new : MapsView) (ended : Caught) : Type 0 where
  whole : ended ≡ caught.Done → new.number ≡ length log → calls_of old ≤ calls_of new → Ends log old new ended
  failed : (call : ℕ) → failing_call ended ≡ Some call → calls_of old + 1 ≤ call → call ≡ calls_of new → is_done ended ≡ false
      → new.number ≡ old.number → Ends log old new ended

-- the rows that come to a table
abbrev pub fresh_rows : List LogRecord → MapsView → List Row
fresh_rows log old = new_rows old.number (newer log old.number (length log))

pub ends_so : (log : List LogRecord) (old new : MapsView) (ended : Caught) → CatchesUp log old new ended → Ends log old new ended
ends_so log old new caught.Done is =
    whole refl is.number
    (omega (arith, ap length is.answered, length-append old.answers (map own_place (fresh_rows log old))))
ends_so log old new (caught.Refused row call) is =
    failed call refl
    (failed_longer (fresh_rows log old) old.answers new.answers row call answer.Refused is.answered) is.answered.its_call refl is.number
ends_so log old new (caught.Elsewhere row call got) is =
    failed call (failing_elsewhere row call got (elsewhere_fails row got is.answered.1))
    (failed_longer (fresh_rows log old) old.answers new.answers row call got is.answered.0) is.answered.0.its_call refl is.number

-- FAILURES THAT ARE LOGGED

module _ (who first later : ℕ) (behind : first ≤ later) where
  not_later : (same : Bool) (of : ℕ) → (same && nat_le first of) ≡ false → (same && nat_le later of) ≡ false
  not_later false of none = refl
  not_later true of none = lt-leb later of (omega (arith, behind, leb-false first of none))

  cause_later : (cause : Cause) → fails_from who first cause ≡ false → fails_from who later cause ≡ false
  cause_later NoList none = refl
  cause_later (TooFew have need) none = refl
  cause_later (ListFull longest need) none = refl
  cause_later (CannotHold addr len) none = refl
  cause_later (Denied validator limit total) none = refl
  cause_later (MapFailed participant of addr got) none = not_later (participant == who) of none
  cause_later (Late participant from to) none = refl
  cause_later (Withdrawn from to) none = refl

  outcome_later : (outcome : Outcome) → outcome_fails_from who first outcome ≡ false → outcome_fails_from who later outcome ≡ false
  outcome_later (Granted generation) none = refl
  outcome_later (Refused cause) none = cause_later cause none
  outcome_later (Stale done) none = refl
  outcome_later (Freed generation) none = refl

  -- where none by a call or a later one is logged, none by a later call is
  pub none_later : (asks : List AskLog) → has_failed_from asks who first ≡ false → has_failed_from asks who later ≡ false
  none_later [] none = refl
  none_later (entry ∷ asks) none =
      let parts = or_off_parts (outcome_fails_from who first entry.outcome) (has_failed_from asks who first) none in
      ap (λ (b : Bool). b || has_failed_from asks who later) (outcome_later entry.outcome parts.0) ∙ none_later asks parts.1
