-- Along a run of all participants records only come after the others.
use Rattle.std.specs.Prelude.{⊤}
use Rattle.std.proofs.Common.{◌≡◌, ◌∙◌, ℕ, List, [], ◌∷◌, ◌++◌, map, Option, Some, None, IfSome, refl, ap, sym, append-nil, append_assoc}
use Rattle.std.proofs.lemmas.List.Elements.{All-cons, All-nil}
use Rattle.hp_base.specs.declared.pool_line.PoolLine.{PoolLine}
use Rattle.hp_core.specs.Core.{Core}
use Rattle.hp_core.specs.declared.asked.Asked.{Asked}
use Rattle.hp_core.specs.declared.event.CoreEvent.{CoreEvent}
use Rattle.hp_core.specs.declared.event.CoreEvent.TheVariants.{Grow, Poll, SelfMapped, Shrink}
use Rattle.hp_log.specs.declared.log_record.LogRecord.{LogRecord}
use Rattle.hp_log.specs.declared.log_record.LogRecord.TheVariants.{Drop}
use Rattle.hp_segs.specs.GrowthLaws.{HasArmedGrowth}
use Rattle.hp_segs.specs.LaterSteps.{after_withdraw}
use Rattle.hp_segs.specs.SegsView.{SegsView}
use Rattle.hp_serve.specs.Coordinating.{stepping, with_room}
use Rattle.thm_run.specs.Seats.{Handles, Seat}
use Rattle.thm_run.specs.Together.{IsFirst, GlobalState, Runs, Steps}
use Rattle.thm_run.proofs.SeatFacts.CoreLogs.{IsLoggedBy, LogMoves, drops, keeps}
use Rattle.thm_run.proofs.SeatFacts.CoreSteps.{Brings, step_logs}
use Rattle.thm_run.proofs.SeatFacts.CoreWalk.{AreHeld}
use Rattle.thm_run.proofs.Following.{attaching_leaves, catching_leaves}
use Rattle.thm_run.proofs.Leaving.{claim_leaves, withdraw_leaves}
use Rattle.thm_run.proofs.SeatFacts.SegsAlong.{armed_along}
use Rattle.thm_run.proofs.PathSteps.ByMail.{runs_then}

-- records came after the others
pub record HasRecords (old new : List LogRecord) : Type 0 where
  pub more : List LogRecord
  pub is : new ≡ old ++ more

pub same_records : (old new : List LogRecord) → new ≡ old → HasRecords old new
same_records old new same = record { more = []; is = same ∙ sym (append-nil old) }

pub records_then : (old mid new : List LogRecord) → HasRecords old mid → HasRecords mid new → HasRecords old new
records_then old mid new here there = record {
  more = here.more ++ there.more;
  is = there.is ∙ (ap (λ log. log ++ there.more) here.is ∙ append_assoc old here.more there.more);
}

moved_records : (old new : SegsView) → LogMoves old new → HasRecords old.log new.log
moved_records old new (keeps more log retiring) = record { more = more; is = log }
moved_records old new (drops more log retiring) =
    let gone : List LogRecord = map (λ run. Drop run) old.retiring in
    record { more = gone ++ more; is = log ∙ append_assoc old.log gone more }

-- any ask
abbrev pub IsAny : Asked → Type 0
IsAny one = ⊤

any_one : (one : Option Asked) → IfSome one IsAny
any_one None = tt
any_one (Some one) = tt

any_held : (held : List (Option Asked)) → AreHeld IsAny held
any_held [] = All-nil (λ one. IfSome one IsAny)
any_held (one ∷ held) = All-cons (λ one. IfSome one IsAny) one held (any_one one) (any_held held)

brings_any : (event : CoreEvent) → Brings IsAny event
brings_any (Grow ask) = tt
brings_any (Shrink from number) = tt
brings_any (SelfMapped caught now) = tt
brings_any (Poll now acks) = tt

-- what a step of the coordinator leaves of the armed asks, and what it logs
pub core_logged : (denied : Option (List ℕ × ℕ)) (event : CoreEvent) (core : Core) (segs : SegsView) → HasArmedGrowth segs
    → IsLoggedBy IsAny (with_room segs) (stepping denied event core segs).segs
core_logged denied event core segs armed = step_logs IsAny (λ socket total. denied) event core (with_room segs) (brings_any event) (any_held core.held) armed

core_records : (denied : Option (List ℕ × ℕ)) (event : CoreEvent) (core : Core) (segs : SegsView) → HasArmedGrowth segs
    → HasRecords segs.log (stepping denied event core segs).segs.log
core_records denied event core segs armed =
    moved_records (with_room segs) (stepping denied event core segs).segs (core_logged denied event core segs armed).log

handles_records : {count who : ℕ} {old new : Seat} {taken given : SegsView} → Handles count who old new taken given → HasArmedGrowth taken
    → HasRecords taken.log given.log
handles_records (Handles.looks seat segs) armed = same_records segs.log segs.log refl
handles_records (Handles.moves_ranges seat segs ranges moves) armed = same_records segs.log segs.log refl
handles_records (Handles.steps seat segs event core is its knows denied may) armed = core_records denied event core segs armed
handles_records (Handles.maps seat segs caught table now core is its caught_up) armed = core_records None (SelfMapped caught now) core segs armed
handles_records {count} {who} (Handles.follows seat segs caught table member caught_up) armed =
    same_records segs.log _ (catching_leaves who caught segs).log
handles_records (Handles.arms seat segs asked run number is) armed = same_records segs.log segs.log refl
handles_records {count} {who} (Handles.claims seat segs) armed = same_records segs.log _ (claim_leaves who seat.party.asked segs).log
handles_records {count} {who} (Handles.settles seat segs since now late) armed =
    let mid = after_withdraw who seat.party.asked since now segs in
    records_then segs.log mid.log _ (moved_records segs mid (withdraw_leaves segs who seat.party.asked since now).log)
    (same_records mid.log _ (claim_leaves who seat.party.asked mid).log)
handles_records (Handles.cuts seat segs heap addr run) armed = same_records segs.log segs.log refl
handles_records {count} {who} (Handles.attaches seat segs caught after tried) armed =
    same_records segs.log _ (attaching_leaves who caught segs).log
handles_records (Handles.detaches seat segs told secondary none heard) armed = same_records segs.log segs.log refl

pub step_records : (count : ℕ) (old new : GlobalState) → Steps count old new → HasArmedGrowth old.segs → HasRecords old.segs.log new.segs.log
step_records count _ _ (Steps.quietly at who old new there did) armed = same_records at.segs.log at.segs.log refl
step_records count _ _ (Steps.mails at who old new step there did) armed = same_records at.segs.log at.segs.log refl
step_records count _ _ (Steps.handles at who old new given there did kept good) armed = handles_records did armed

-- from one moment of a run to a later one
pub records_along : (count absent : ℕ) (pools : List PoolLine) (first from now : GlobalState) → IsFirst count absent pools first
    → Runs count first from → Runs count from now → HasRecords from.segs.log now.segs.log
records_along count absent pools first from _ is before (Runs.stands at) = same_records at.segs.log at.segs.log refl
records_along count absent pools first from now is before (Runs.goes_on start mid last runs step) =
    records_then from.segs.log mid.segs.log now.segs.log (records_along count absent pools first from mid is before runs)
    (step_records count mid now step
    (armed_along count absent pools first is mid (runs_then count first from mid before runs)).growth)
