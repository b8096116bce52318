-- Agreement is kept by each form of a give, of the giver and of the others.
use Rattle.std.proofs.Common.{◌≡◌, ◌≢◌, ⊎_elim, ◌∙◌, ℕ, ◌<◌, ◌≤◌, eqb, eq-eqb, List, length, Some, slice_index, refl, sym, arith}
use Rattle.std.specs.List.{Contains}
use Rattle.std.proofs.lemmas.Bool.{cond-true}
use Rattle.std.proofs.lemmas.List.Elements.{All-contains}
use Rattle.hp_log.specs.declared.log_record.LogRecord.{LogRecord}
use Rattle.hp_segs.specs.SegsView.{SegsView, granted_by}
use Rattle.hp_segs.specs.Sound.{IsSound}
use Rattle.hp_segs.specs.SoundAsks.{IsGranted}
use Rattle.hp_segs.specs.declared.outcome.AskLog.{AskLog}
use Rattle.hp_segs.specs.declared.outcome.Outcome.{Outcome}
use Rattle.hp_segs.specs.declared.outcome.Outcome.TheVariants.{Granted, Refused, Stale, Freed}
use Rattle.hp_board.proofs.TakenIn.{HasTakenIn}
use Rattle.hp_hall.specs.Giving.{giver_of}
use Rattle.hp_board.specs.Knowing.{knows_of}
use Rattle.hp_board.specs.Left.{IsLeft}
use Rattle.hp_board.specs.declared.view.Mine.{Mine}
use Rattle.hp_board.specs.Views.{noted_of}
use Rattle.hp_board.specs.Words.{IsTold, ack_word}
use Rattle.hp_segs.proofs.GrowthSteps.ClaimLemmas.{record_within}

-- a granted record is one of the log
granted_within_by : (log : List LogRecord) (outcome : Outcome) (generation : ℕ) → IsGranted log outcome → granted_by outcome ≡ Some generation → generation ≤ length log
granted_within_by log (Granted stamp) generation granted is =
    let within = record_within log stamp granted.1.0 granted.1.1 in
    let same : stamp ≡ generation = cc in
    omega (arith, within, granted.0, same)
granted_within_by log (Refused cause) generation granted is = absurd (cc)
granted_within_by log (Stale done) generation granted is = absurd (cc)
granted_within_by log (Freed stamp) generation granted is = absurd (cc)

pub granted_within : (segs : SegsView) → IsSound segs → (entry : AskLog) (generation : ℕ) → Contains segs.asks entry → granted_by entry.outcome ≡ Some generation
    → generation ≤ length segs.log
granted_within segs sound entry generation among granted =
    granted_within_by segs.log entry.outcome generation (All-contains (λ (e : AskLog). IsGranted segs.log e.outcome) segs.asks entry sound.asks.granted among) granted

module _ (participants : ℕ) (words : List ℕ) (mine : Mine) (taken given : SegsView) (left : IsLeft (giver_of (knows_of mine)) taken given) where
  -- what the giver knows of another is at most that one's number
  pub agreed_other : (who : ℕ) (other : Mine) → who < participants → who ≢ mine.who → ((k : ℕ) → k < participants → noted_of k mine ≤ slice_index words (ack_word k))
      → IsTold participants words who other → HasTakenIn taken who other → HasTakenIn given who other
  agreed_other who other declared apart noted told agreed = record {
    granted = λ its entry generation among granted.
        ⊎_elim (λ old. agreed.granted (sym (left.others who apart) ∙ its) entry generation old granted)
        (λ known. let low = noted who declared in omega (arith, known, low, told.own))
        (left.agreed entry generation who among granted its);
  }

  own_number : noted_of mine.who mine ≡ mine.number
  own_number = cond-true (eqb mine.who mine.who) mine.number (Rattle.std.specs.Prelude.unwrap_or (Rattle.hp_board.specs.Views.value_of mine.who mine.noted) 0) (eq-eqb mine.who mine.who refl)

  pub agreed_own : IsSound given → HasTakenIn taken mine.who mine → (new : Mine) → new.number ≡ mine.number → HasTakenIn given mine.who new
  agreed_own sound agreed new same = record {
    granted = λ its entry generation among granted.
        ⊎_elim
        (λ was. ⊎_elim (λ old. let had = agreed.granted was entry generation old granted in omega (arith, had, same)) (λ known. omega (arith, known, own_number, same))
        (left.agreed entry generation mine.who among granted its))
        (λ joins. let within = granted_within given sound entry generation among granted in omega (arith, within, joins, same))
        (left.own its);
  }

-- whose number does not fall has taken in what it had
pub agreed_rises : (segs : SegsView) (who : ℕ) (old new : Mine) → old.number ≤ new.number → HasTakenIn segs who old → HasTakenIn segs who new
agreed_rises segs who old new rises agreed = record {
  granted = λ its entry generation among granted. let had = agreed.granted its entry generation among granted in omega (arith, had, rises);
}
