-- What a step of the coordinator logs: an outcome of an ask that it took or of the ask of the open growth, and the drops.
use Rattle.std.proofs.Common.{◌≡◌, ℕ, ◌<◌, true, List, [], ◌∷◌, ◌++◌, length, map, Some, None, IfSome, refl, sym, subst, append-nil}
use Rattle.hp_base.specs.declared.row.Run.{Run}
use Rattle.hp_core.specs.Asks.{asker, number_of}
use Rattle.hp_core.specs.declared.asked.Asked.{Asked}
use Rattle.hp_core.specs.declared.asked.Asked.TheVariants as want
use Rattle.hp_log.specs.declared.log_record.LogRecord.{LogRecord}
use Rattle.hp_log.specs.declared.log_record.LogRecord.TheVariants.{Add, Drop}
use Rattle.hp_segs.specs.GrowthLaws.{IsOfArmed, HasArmedGrowth}
use Rattle.hp_segs.specs.LaterSteps.{after_stale, armed_ask}
use Rattle.hp_segs.specs.SegsView.{SegsView, closed_number, is_grant_or_refusal, is_stale}
use Rattle.hp_segs.specs.Steps.{after_close, after_drop, after_freed, after_open, after_agree, after_cancel}
use Rattle.hp_segs.specs.declared.ask.Ask.{Ask}
use Rattle.hp_segs.specs.declared.growth.Growth.{Growth}
use Rattle.hp_segs.specs.declared.outcome.AskLog.{AskLog}
use Rattle.hp_segs.specs.declared.outcome.Cause.{Cause}
use Rattle.hp_segs.specs.declared.outcome.Outcome.TheVariants.{Freed, Granted, Refused, Stale}
use Rattle.hp_segs.specs.declared.outcome.Outcome.{Outcome}
use Rattle.thm_run.proofs.RunFacts.Changes.{outcome_for}
use Rattle.thm_run.proofs.RunFacts.CallCases.{agree_holds, cancel_holds}

-- the records of a value with a Drop of each Retiring run after them
abbrev pub with_drops : SegsView → List LogRecord
with_drops segs = segs.log ++ map (λ run. Drop run) segs.retiring

-- the outcome is of an ask that was taken, of one with which its participant is armed, or of a notice that was taken, after the drops
pub data IsLogged (Q : Asked → Type 0) (old new : SegsView) (entry : AskLog) : Type 0 where
  stale : (one : Asked) → Q one → entry.from ≡ asker one → entry.number ≡ number_of one → is_stale entry.outcome ≡ true
      → IsLogged Q old new entry
  answered : (ask : Ask) → armed_ask old ask.from ≡ Some ask → closed_number old.asks ask.from < ask.number → entry.from ≡ ask.from
      → entry.number ≡ ask.number → entry.ask ≡ Some ask → is_grant_or_refusal entry.outcome ≡ true → IsLogged Q old new entry
  freed : (from number : ℕ) (more : List LogRecord) → Q (want.Shrink from number) → closed_number old.asks from < number → entry.from ≡ from
      → entry.number ≡ number → entry.outcome ≡ Freed (length (with_drops old)) → new.log ≡ with_drops old ++ more
      → IsLogged Q old new entry

-- no outcome came, or one
pub data HasLogged (Q : Asked → Type 0) (old new : SegsView) : Type 0 where
  stays : new.asks ≡ old.asks → HasLogged Q old new
  adds : (entry : AskLog) → new.asks ≡ old.asks ++ entry ∷ [] → IsLogged Q old new entry → HasLogged Q old new

-- records came after the others; and the Retiring runs stay, or each was dropped
pub data LogMoves (old new : SegsView) : Type 0 where
  keeps : (more : List LogRecord) → new.log ≡ old.log ++ more → new.retiring ≡ old.retiring → LogMoves old new
  drops : (more : List LogRecord) → new.log ≡ with_drops old ++ more → new.retiring ≡ [] → LogMoves old new

-- what a step makes of the outcomes, the armed asks, the records and the Retiring runs
pub record IsLoggedBy (Q : Asked → Type 0) (old new : SegsView) : Type 0 where
  pub armed : new.armed ≡ old.armed
  pub log : LogMoves old new
  pub asks : HasLogged Q old new

-- what may be done with an ask that is started
pub record StartsWith (P : SegsView → Type 0) (one : Asked) (segs : SegsView) : Type 0 where
  pub stale : P (after_stale (asker one) (number_of one) segs)
  pub refused : (ask : Ask) (cause : Cause) → armed_ask segs ask.from ≡ Some ask → closed_number segs.asks ask.from < ask.number
      → P (after_close ask cause (after_drop segs))
  pub opened : (ask : Ask) (run : Run) → P (after_open ask run (after_drop segs))
  pub freed : (from number : ℕ) → one ≡ want.Shrink from number → closed_number segs.asks from < number
      → P (after_freed from number (after_drop segs))

module _ (Q : Asked → Type 0) (segs : SegsView) where
  unmoved : LogMoves segs segs
  unmoved = keeps [] (sym (append-nil segs.log)) refl

  pub same_logs : IsLoggedBy Q segs segs
  same_logs = record { armed = refl; log = unmoved; asks = stays refl }

  stale_logs : (one : Asked) → Q one → IsLoggedBy Q segs (after_stale (asker one) (number_of one) segs)
  stale_logs one its = record {
    armed = refl;
    log = keeps [] (sym (append-nil segs.log)) refl;
    asks = adds
        (record {
          from = asker one;
          number = number_of one;
          outcome = Stale (closed_number segs.asks (asker one));
          at = length segs.log;
          ask = None;
        })
        refl (stale one its refl refl refl);
  }

  -- after the drops an ask is refused, or a notice is answered
  close_logs : (ask : Ask) (cause : Cause) → armed_ask segs ask.from ≡ Some ask → closed_number segs.asks ask.from < ask.number
      → IsLoggedBy Q segs (after_close ask cause (after_drop segs))
  close_logs ask cause armed fresh = record {
    armed = refl;
    log = drops [] (sym (append-nil (with_drops segs))) refl;
    asks = adds
        (record { from = ask.from; number = ask.number; outcome = Refused cause; at = length (with_drops segs); ask = Some ask }) refl
        (answered ask armed fresh refl refl refl refl);
  }

  freed_logs : (from number : ℕ) → Q (want.Shrink from number) → closed_number segs.asks from < number
      → IsLoggedBy Q segs (after_freed from number (after_drop segs))
  freed_logs from number its fresh = record {
    armed = refl;
    log = drops [] (sym (append-nil (with_drops segs))) refl;
    asks = adds
        (record {
          from = from;
          number = number;
          outcome = Freed (length (with_drops segs));
          at = length (with_drops segs);
          ask = None;
        })
        refl (freed from number [] its fresh refl refl refl (sym (append-nil (with_drops segs))));
  }

  -- an ask that is started
  pub start_logs : (one : Asked) → Q one → StartsWith (IsLoggedBy Q segs) one segs
  start_logs one its = record {
    stale = stale_logs one its;
    refused = close_logs;
    opened = λ ask run. record { armed = refl; log = drops (Add run ask.heap ∷ []) refl refl; asks = stays refl };
    freed = λ from number is fresh. freed_logs from number (subst Q is its) fresh;
  }

  -- the ask of the open growth is answered
  its_answer : (growth : Growth) (outcome : Outcome) (new : SegsView) → segs.growth ≡ Some growth → HasArmedGrowth segs
      → is_grant_or_refusal outcome ≡ true → IsLogged Q segs new (outcome_for growth outcome (Some growth.ask) segs)
  its_answer growth outcome new is old shown =
      let its : IsOfArmed segs.asks segs.armed growth = subst (λ growth. IfSome growth (IsOfArmed segs.asks segs.armed)) is old in
      answered growth.ask its.its_ask its.above refl refl refl shown

  -- a growth that is cancelled is refused to its ask, and its Drop logged
  pub cancel_logs : (cause : Cause) → HasArmedGrowth segs → IsLoggedBy Q segs (after_cancel cause segs)
  cancel_logs cause old =
      cancel_holds (IsLoggedBy Q segs) segs same_logs cause (λ growth is. record {
        armed = refl;
        log = keeps (Drop growth.run ∷ []) refl refl;
        asks = adds (outcome_for growth (Refused cause) (Some growth.ask) segs) refl (its_answer growth (Refused cause) _ is old refl);
      })

  -- and one that is agreed on is granted to it
  pub agree_logs : (acks : List ℕ) → HasArmedGrowth segs → IsLoggedBy Q segs (after_agree acks segs)
  agree_logs acks old =
      agree_holds (IsLoggedBy Q segs) segs same_logs acks (λ growth is. record {
        armed = refl;
        log = keeps [] (sym (append-nil segs.log)) refl;
        asks = adds (outcome_for growth (Granted growth.generation) (Some growth.ask) segs) refl
            (its_answer growth (Granted growth.generation) _ is old refl);
      })
