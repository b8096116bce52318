-- What is granted after a line was begun is a later record than those that were there then.
use Rattle.std.proofs.Common.{◌≡◌, ◌∙◌, ℕ, ◌+◌, ◌<◌, ◌≤◌, List, length, Some, IfSome, refl, ap, arith}
use Rattle.std.specs.List.{All}
use Rattle.std.specs.Prelude.{Contains, slice_get}
use Rattle.std.proofs.lemmas.List.Elements.{All-contains_itself, All-weaker}
use Rattle.hp_base.specs.declared.pool_line.PoolLine.{PoolLine}
use Rattle.hp_hall.specs.Later.{IsLaterSegs}
use Rattle.hp_proc.specs.Doing.{Done}
use Rattle.hp_proc.specs.WatchedBytes.{HasLaterGrant}
use Rattle.hp_segs.specs.SegsView.{granted_by}
use Rattle.hp_segs.specs.declared.outcome.AskLog.{AskLog}
use Rattle.hp_segs.specs.declared.outcome.Outcome.{Outcome}
use Rattle.hp_segs.specs.declared.outcome.Outcome.TheVariants.{Freed, Granted, Refused, Stale}
use Rattle.thm_run.proofs.GrownHeaps.GrantTurns.{among_read}
use Rattle.thm_run.proofs.GrownHeaps.Grown.{get_behind}
use Rattle.thm_run.proofs.GrownHeaps.LaterGrants.{GrantsLater}
use Rattle.thm_run.proofs.LineSteps.LineSettled.{IsLineRun, line_stands}
use Rattle.thm_run.specs.Seats.{Seat}
use Rattle.thm_run.specs.Together.{GlobalState, IsFirst, RunsByMail}

module _ (count absent : ℕ) (pools : List PoolLine) (first start now : GlobalState) (is_first : IsFirst count absent pools first)
    (to_start : RunsByMail count first start) (who : ℕ) (old new : Seat) (trace : List Done) (line : IsLineRun count who start now old new trace)
    (segs : IsLaterSegs start.segs now.segs) where
  pub grants_later : GrantsLater (length start.segs.log) segs.outcomes
  grants_later entry generation among granted =
      let read = among_read segs.outcomes entry among in
      let place : ℕ = length start.segs.asks + read.0 in
      let here : slice_get now.segs.asks place ≡ Some entry =
      ap (λ (asks : List AskLog). slice_get asks place) segs.asks ∙ (get_behind start.segs.asks segs.outcomes read.0 place refl ∙ read.1) in
      (((line_stands count absent pools first start now is_first to_start who old new trace line).since place entry (omega arith) here).granted generation
      granted).later

-- so what they grant to whomever is of a record beyond those that a table could have seen
module _ (start : ℕ) (others : List AskLog) (later : GrantsLater start others) (who asks seen : ℕ) (within : seen ≤ start) where
  by_outcome : (entry : AskLog) → Contains others entry → (outcome : Outcome) → entry.outcome ≡ outcome
      → IfSome (granted_by outcome) (λ generation. seen < generation)
  by_outcome entry among (Granted generation) is =
      let far = later entry generation among is in
      omega (arith, far, within)
  by_outcome entry among (Refused cause) is = tt
  by_outcome entry among (Stale done) is = tt
  by_outcome entry among (Freed own) is = tt

  pub all_later : All (HasLaterGrant who asks seen) others
  all_later =
      All-weaker (Contains others) (HasLaterGrant who asks seen) (λ entry among from above. by_outcome entry among entry.outcome refl) others
      (All-contains_itself others)
