-- What was granted, and what is open, has a place for what was asked.
use Rattle.std.proofs.Common.{◌≡◌, ◌∙◌, List, [], ◌∷◌, ◌++◌, Option, Some, None, IfSome, ap, sym, subst}
use Rattle.std.specs.List.{All}
use Rattle.std.specs.Option.{option_and_then}
use Rattle.std.proofs.lemmas.List.Elements.{All-cons, All-nil}
use Rattle.hp_base.specs.declared.pool_line.PoolLine.{PoolLine}
use Rattle.hp_log.specs.declared.log_record.LogRecord.{LogRecord}
use Rattle.hp_segs.specs.Causes.{AllCaused, HasCause}
use Rattle.hp_segs.specs.GrowthLaws.{GrantsHavePlace, IsPlacedGrant, OpenHasPlace}
use Rattle.hp_segs.specs.Plan.{HasPlace}
use Rattle.hp_segs.specs.SegsView.{added_run, run_of}
use Rattle.hp_segs.specs.SoundRows.{IsLogged}
use Rattle.hp_segs.specs.declared.growth.Growth.{Growth}
use Rattle.hp_segs.specs.declared.outcome.AskLog.{AskLog}
use Rattle.hp_segs.specs.declared.row_state.Segment.{Segment}

open_by : (pools : List PoolLine) (log : List LogRecord) (segments : List Segment) (growth : Option Growth) → IsLogged pools log segments growth
    → IfSome growth (λ growth. HasPlace growth.ask growth.run)
open_by pools log segments None logged = tt
open_by pools log segments (Some growth) logged = logged.place

pub open_has_place : OpenHasPlace
open_has_place segs sound = open_by segs.pools segs.log segs.segments segs.growth sound.rows.logged

placed_by : (pools : List PoolLine) (log : List LogRecord) (before : List AskLog) (entry : AskLog) → HasCause pools log before entry entry.outcome
    → IsPlacedGrant log entry
placed_by pools log before entry cause ask generation run kept granted added =
    let has = subst (HasCause pools log before entry) granted cause in
    let asked : Some has.0 ≡ Some ask = sym has.2.kept ∙ kept in
    let its_ask : has.0 ≡ ask = cc in
    let grown : Some has.1 ≡ Some run = sym (ap (run_of log) has.3 ∙ ap (option_and_then added_run) has.4.added) ∙ added in
    let its_run : has.1 ≡ run = cc in
    subst (λ ask. HasPlace ask run) its_ask (subst (HasPlace has.0) its_run has.4.place)

placed_from : (pools : List PoolLine) (log : List LogRecord) (before asks : List AskLog) → AllCaused pools log before asks
    → All (IsPlacedGrant log) asks
placed_from pools log before [] caused = All-nil (IsPlacedGrant log)
placed_from pools log before (entry ∷ asks) caused =
    All-cons (IsPlacedGrant log) entry asks (placed_by pools log before entry caused.0.cause) (placed_from pools log (before ++ entry ∷ []) asks caused.1)

pub grants_have_place : GrantsHavePlace
grants_have_place segs sound = placed_from segs.pools segs.log [] segs.asks sound.asks.caused
