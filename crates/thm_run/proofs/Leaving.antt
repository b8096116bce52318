-- What a claim, a withdrawal and places for a step leave of a segment value: its outcomes, armed asks, records and Retiring runs.
use Rattle.std.proofs.Common.{◌≡◌, ℕ, true, [], ◌∷◌, ◌++◌, length, refl, sym, append-nil}
use Rattle.hp_log.specs.declared.log_record.LogRecord.TheVariants.{Drop}
use Rattle.hp_segs.specs.LaterSteps.{after_withdraw, armed_ask}
use Rattle.hp_segs.specs.SegsView.{SegsView, is_grant_or_refusal}
use Rattle.hp_segs.specs.Steps.{after_claim}
use Rattle.hp_segs.specs.declared.outcome.AskLog.{AskLog}
use Rattle.hp_segs.specs.declared.outcome.Cause.TheVariants.{Withdrawn}
use Rattle.hp_segs.specs.declared.outcome.Outcome.TheVariants.{Refused}
use Rattle.hp_segs.specs.Sound.{IsSound}
use Rattle.hp_serve.specs.Coordinating.{with_room}
use Rattle.thm_run.proofs.SeatFacts.CoreLogs.{LogMoves, keeps}
use Rattle.thm_run.proofs.RunFacts.CallCases.{claim_holds, withdraw_holds}

-- a claim leaves the outcomes, the armed asks, the records and the Retiring runs
pub record IsClaimed (old new : SegsView) : Type 0 where
  pub asks : new.asks ≡ old.asks
  pub armed : new.armed ≡ old.armed
  pub log : new.log ≡ old.log
  pub retiring : new.retiring ≡ old.retiring

pub claim_leaves : (from number : ℕ) (segs : SegsView) → IsClaimed segs (after_claim from number segs)
claim_leaves from number segs =
    claim_holds (IsClaimed segs) segs (record { asks = refl; armed = refl; log = refl; retiring = refl }) from number
    (λ generation. record { asks = refl; armed = refl; log = refl; retiring = refl })

-- no outcome came, or a refusal
pub data IsRefusedOnce (old new : SegsView) : Type 0 where
  leaves : new.asks ≡ old.asks → IsRefusedOnce old new
  refuses : (entry : AskLog) → is_grant_or_refusal entry.outcome ≡ true → new.asks ≡ old.asks ++ entry ∷ [] → IsRefusedOnce old new

-- a withdrawal leaves the armed asks and the Retiring runs, and records come after the others
pub record IsWithdrawn (old new : SegsView) : Type 0 where
  pub armed : new.armed ≡ old.armed
  pub log : LogMoves old new
  pub asks : IsRefusedOnce old new

pub withdraw_leaves : (segs : SegsView) (from number since now : ℕ) → IsWithdrawn segs (after_withdraw from number since now segs)
withdraw_leaves segs from number since now =
    withdraw_holds (IsWithdrawn segs) segs
    (record { armed = refl; log = keeps [] (sym (append-nil segs.log)) refl; asks = leaves refl }) from number since now
    (λ none other.
    record { armed = refl; log = keeps [] (sym (append-nil segs.log)) refl; asks = refuses (refusal from number) refl refl })
    (λ none growth is own. record {
      armed = refl;
      log = keeps (Drop growth.run ∷ []) refl refl;
      asks = refuses (refusal growth.ask.from growth.ask.number) refl refl;
    })
  where
    -- the refusal of a withdrawal
    refusal : ℕ → ℕ → AskLog
    refusal who which =
        record { from = who; number = which; outcome = Refused (Withdrawn since now); at = length segs.log; ask = armed_ask segs from }

-- places for a step change nothing of what is sound
pub room_sound : (segs : SegsView) → IsSound segs → IsSound (with_room segs)
room_sound segs sound = record { rows = sound.rows; asks = sound.asks; places = sound.places; returned = sound.returned }
