-- What a participant that catches up and notes a failed mapping leaves of a segment value, and one that attaches, or tries to.
use Rattle.std.proofs.Common.{◌≡◌, ℕ, Bool, true, false, Some, None, refl, if◌then◌else◌}
use Rattle.std.proofs.lemmas.Bool.{cond_both}
use Rattle.hp_base.specs.declared.caught.Caught.{Caught}
use Rattle.hp_base.specs.declared.caught.Caught.TheVariants as caught
use Rattle.hp_base.specs.declared.map_answer.MapAnswer.{MapAnswer}
use Rattle.hp_base.specs.declared.map_answer.MapAnswer.TheVariants as answer
use Rattle.hp_base.specs.declared.row.Row.{Row}
use Rattle.hp_core.specs.Following.{after_catching, noted}
use Rattle.hp_segs.specs.LaterSteps.{after_note, is_failure, is_noted, noting}
use Rattle.hp_segs.specs.SegsView.{SegsView}
use Rattle.hp_segs.specs.declared.outcome.Cause.TheVariants.{MapFailed}
use Rattle.hp_serve.specs.Attaching.{after_attaching}
use Rattle.thm_run.proofs.Leaving.{IsClaimed}

module _ (P : SegsView → Type 0) (segs : SegsView) (still : P segs) (who : ℕ) where
  -- a failed mapping is noted, or not
  pub note_by : (row : Row) (call : ℕ) (got : MapAnswer) → (is_noted segs who call row segs.growth ≡ true
      → P (record segs { growth = noting (MapFailed who call row.addr got) segs.growth })) → P (after_note who call row got segs)
  note_by row call got notes =
      cond_both (is_noted segs who call row segs.growth)
      (record segs { growth = noting (MapFailed who call row.addr got) segs.growth }) segs P
      notes
      (λ other. still)

  pub elsewhere_by : (row : Row) (call : ℕ) (got : MapAnswer) → (is_noted segs who call row segs.growth ≡ true
      → P (record segs { growth = noting (MapFailed who call row.addr got) segs.growth })) → (failed : Bool)
      → P (noted who segs (if failed then Some (record { row = row; call = call; got = got }) else None))
  elsewhere_by row call got notes true = note_by row call got notes
  elsewhere_by row call got notes false = still

  -- a participant has caught up, or its failed mapping is noted
  pub catching_by : ((call addr : ℕ) (got : MapAnswer) → P (record segs { growth = noting (MapFailed who call addr got) segs.growth }))
      → (ended : Caught) → P (after_catching who ended segs)
  catching_by notes caught.Done = still
  catching_by notes (caught.Refused row call) = note_by row call answer.Refused (λ taken. notes call row.addr answer.Refused)
  catching_by notes (caught.Elsewhere row call got) = elsewhere_by row call got (λ taken. notes call row.addr got) (is_failure row got)

-- who catches up leaves the outcomes, the armed asks, the records and the Retiring runs
pub catching_leaves : (who : ℕ) (ended : Caught) (segs : SegsView) → IsClaimed segs (after_catching who ended segs)
catching_leaves who ended segs =
    catching_by (IsClaimed segs) segs (record { asks = refl; armed = refl; log = refl; retiring = refl }) who
    (λ call addr got. record { asks = refl; armed = refl; log = refl; retiring = refl }) ended

-- so does who attaches, or tries to
pub attaching_leaves : (who : ℕ) (ended : Caught) (segs : SegsView) → IsClaimed segs (after_attaching who ended segs)
attaching_leaves who caught.Done segs = record { asks = refl; armed = refl; log = refl; retiring = refl }
attaching_leaves who (caught.Refused row call) segs = record { asks = refl; armed = refl; log = refl; retiring = refl }
attaching_leaves who (caught.Elsewhere row call got) segs = record { asks = refl; armed = refl; log = refl; retiring = refl }
