-- A run of all participants is changes by their deadline, which stays at each seat, as do its number, the calls at which its mapper may
-- fail and that its validators are those of its lines; and participant 0's coordinator waits as long.
use Rattle.std.proofs.Common.{◌≡◌, ◌∙◌, ℕ, ◌+◌, ◌*◌, ◌<◌, ◌≤◌, ◌==◌, Bool, true, false, List, Option, Some, None, refl, ap, sym, subst, if◌then◌else◌, arith}
use Rattle.std.specs.Prelude.{length, replicate, slice_get, slice_set}
use Rattle.std.proofs.lemmas.List.Elements.{All-nil}
use Rattle.std.proofs.lemmas.Option.{slice_get_within}
use Rattle.hp_base.specs.Mapping.{FailingCall}
use Rattle.hp_base.specs.declared.caught.Caught.{Caught}
use Rattle.hp_base.specs.declared.caught.Caught.TheVariants as caught
use Rattle.hp_base.specs.declared.pool_line.PoolLine.{PoolLine}
use Rattle.hp_core.specs.Core.{Core}
use Rattle.hp_core.specs.declared.event.CoreEvent.{CoreEvent}
use Rattle.hp_core.specs.declared.event.CoreEvent.TheVariants.{SelfMapped}
use Rattle.hp_core.specs.declared.phase.Phase.TheVariants.{Idle}
use Rattle.hp_frame.specs.declared.message.Body.{Body}
use Rattle.hp_hall.specs.Mail.{MailStep}
use Rattle.hp_maps.specs.Catching.{HasReason}
use Rattle.hp_maps.specs.MapsView.{MapsView}
use Rattle.hp_segs.specs.GrowthLaws.{HasArmedGrowth}
use Rattle.hp_segs.specs.LaterSteps.{after_withdraw}
use Rattle.hp_segs.specs.SegsView.{SegsView}
use Rattle.hp_segs.specs.Sound.{IsSound}
use Rattle.hp_serve.specs.Attaching.{table_left}
use Rattle.hp_core.specs.Judging.{judged_at}
use Rattle.hp_serve.specs.Coordinating.{IsAskIn, MayDeny, stepping, with_room}
use Rattle.hp_serve.specs.Asking.{ask_of}
use Rattle.hp_serve.specs.Party.{first_core}
use Rattle.hp_serve.specs.Denials.{Denials}
use Rattle.hp_proc.specs.Denying.{denials_of}
use Rattle.thm_run.specs.Seats.{Handles, Knows, Mails, Quietly, Seat}
use Rattle.thm_run.specs.Together.{IsFirst, GlobalState, Runs, Steps}
use Rattle.thm_run.proofs.RunFacts.CallChanges as change
use Rattle.thm_run.proofs.RunFacts.Changes.{Changes, stays}
use Rattle.thm_run.proofs.RunFacts.Changes as changes
use Rattle.thm_run.proofs.DenialsKnown.{AreOfLines, IsOfLines, IsWithin, denies_by_lines, lines_deny, may_within, of_ended, tried_validators, within_then}
use Rattle.thm_run.proofs.LinesOnward.{MayDenyByLines, denies_before}
use Rattle.thm_run.proofs.SeatFacts.SeatsAlong.{count_along}
use Rattle.thm_run.proofs.SeatFacts.SegsAlong.{armed_along, sound_along}
use Rattle.thm_run.proofs.SeatFacts.Seating.{IsSeatAfter, seat_behind}
use Rattle.thm_run.proofs.RunFacts.StepChanges.{TellsReason, step_waits, stepping_changes}

-- the coordinator waits so long
abbrev WaitsFor : ℕ → Option Core → Type 0
WaitsFor deadline core = (one : Core) → core ≡ Some one → one.deadline ≡ deadline

-- a seat is that of its participant, which waits so long, whose mapper may fail at these calls, and whose validators are those of its lines
pub record IsSteady (deadline : ℕ) (may_fail : ℕ → Option (List FailingCall)) (who : ℕ) (seat : Seat) : Type 0 where
  pub me : seat.party.me ≡ who
  pub its_deadline : seat.party.deadline ≡ deadline
  pub its_may_fail : seat.party.maps.may_fail ≡ may_fail who
  pub waits : WaitsFor deadline seat.party.core
  pub judged : AreOfLines seat.lines seat.standing.validators

module _ (deadline : ℕ) (may_fail : ℕ → Option (List FailingCall)) (who : ℕ) where
  abbrev Steady : Seat → Type 0
  Steady seat = IsSteady deadline may_fail who seat

  pub quietly_steady : {old new : Seat} → Quietly old new → Steady old → Steady new
  quietly_steady (Quietly.hears seat answered) was =
      record { me = was.me; its_deadline = was.its_deadline; its_may_fail = was.its_may_fail; waits = was.waits; judged = was.judged }
  quietly_steady (Quietly.counts seat sent) was =
      record { me = was.me; its_deadline = was.its_deadline; its_may_fail = was.its_may_fail; waits = was.waits; judged = was.judged }
  quietly_steady (Quietly.calls seat heap call answer none) was =
      record { me = was.me; its_deadline = was.its_deadline; its_may_fail = was.its_may_fail; waits = was.waits; judged = was.judged }
  quietly_steady (Quietly.notes seat elements chunks) was =
      record { me = was.me; its_deadline = was.its_deadline; its_may_fail = was.its_may_fail; waits = was.waits; judged = was.judged }
  quietly_steady (Quietly.reads_names seat names) was =
      record { me = was.me; its_deadline = was.its_deadline; its_may_fail = was.its_may_fail; waits = was.waits; judged = was.judged }
  quietly_steady (Quietly.reads_stats seat heap counted) was =
      record { me = was.me; its_deadline = was.its_deadline; its_may_fail = was.its_may_fail; waits = was.waits; judged = was.judged }
  quietly_steady (Quietly.changes_names seat change) was =
      record { me = was.me; its_deadline = was.its_deadline; its_may_fail = was.its_may_fail; waits = was.waits; judged = was.judged }
  quietly_steady (Quietly.sees_heap seat heap history) was =
      record { me = was.me; its_deadline = was.its_deadline; its_may_fail = was.its_may_fail; waits = was.waits; judged = was.judged }
  quietly_steady (Quietly.plans_range seat addr len page plan) was =
      record { me = was.me; its_deadline = was.its_deadline; its_may_fail = was.its_may_fail; waits = was.waits; judged = was.judged }
  quietly_steady (Quietly.maps_chunk seat chunk maps ended is) was =
      let may_fails = is.others.may_fail ∙ was.its_may_fail in
      record { me = was.me; its_deadline = was.its_deadline; its_may_fail = may_fails; waits = was.waits; judged = was.judged }
  quietly_steady (Quietly.leaves_chunk seat chunk maps is) was =
      let may_fails = is.others.may_fail ∙ was.its_may_fail in
      record { me = was.me; its_deadline = was.its_deadline; its_may_fail = may_fails; waits = was.waits; judged = was.judged }
  quietly_steady (Quietly.ends_line seat deed given) was = record {
    me = was.me;
    its_deadline = was.its_deadline;
    its_may_fail = was.its_may_fail;
    waits = was.waits;
    judged = of_ended seat deed given was.judged;
  }

  pub mails_steady : {old new : Seat} {step : MailStep} → Mails who old new step → Steady old → Steady new
  mails_steady (Mails.notes seat note) was = was
  mails_steady (Mails.finds_nothing seat) was = was
  mails_steady (Mails.fetches seat frame) was =
      record { me = was.me; its_deadline = was.its_deadline; its_may_fail = was.its_may_fail; waits = was.waits; judged = was.judged }
  mails_steady (Mails.asks seat ask frame action posted its says) was = was
  mails_steady (Mails.tells seat heap run frame action posted says) was =
      record { me = was.me; its_deadline = was.its_deadline; its_may_fail = was.its_may_fail; waits = was.waits; judged = was.judged }
  mails_steady (Mails.speaks seat to frame body action posted nothing says) was = was

  -- the coordinator after a step waits as long
  waits_on : (denied : Option (List ℕ × ℕ)) (event : CoreEvent) (core : Core) (segs : SegsView) → core.deadline ≡ deadline
      → WaitsFor deadline (Some (stepping denied event core segs).core)
  waits_on denied event core segs same one is =
      let own : (stepping denied event core segs).core ≡ one = cc in
      ap (λ (core : Core). core.deadline) (sym own) ∙ (step_waits denied event core segs ∙ same)

  left_may_fail : (ended : Caught) (maps : MapsView) → (table_left ended maps).may_fail ≡ maps.may_fail
  left_may_fail caught.Done maps = refl
  left_may_fail (caught.Refused row call) maps = refl
  left_may_fail (caught.Elsewhere row call got) maps = refl

  pub handles_steady : {count : ℕ} {old new : Seat} {taken given : SegsView} → Handles count who old new taken given → Steady old → Steady new
  handles_steady (Handles.looks seat segs) was = was
  handles_steady (Handles.moves_ranges seat segs ranges moves) was = was
  handles_steady (Handles.steps seat segs event core is its knows denied may) was =
      let waits = waits_on denied event core segs (was.waits core its) in
      record { me = was.me; its_deadline = was.its_deadline; its_may_fail = was.its_may_fail; waits = waits; judged = was.judged }
  handles_steady (Handles.maps seat segs caught table now core is its caught_up) was = record {
    me = was.me;
    its_deadline = was.its_deadline;
    its_may_fail = caught_up.stays ∙ was.its_may_fail;
    waits = waits_on None (SelfMapped caught now) core segs (was.waits core its);
    judged = was.judged;
  }
  handles_steady (Handles.follows seat segs caught table member caught_up) was =
      let may_fails = caught_up.stays ∙ was.its_may_fail in
      record { me = was.me; its_deadline = was.its_deadline; its_may_fail = may_fails; waits = was.waits; judged = was.judged }
  handles_steady (Handles.arms seat segs asked run number is) was =
      record { me = was.me; its_deadline = was.its_deadline; its_may_fail = was.its_may_fail; waits = was.waits; judged = was.judged }
  handles_steady (Handles.claims seat segs) was = was
  handles_steady (Handles.settles seat segs since now late) was = was
  handles_steady (Handles.cuts seat segs heap addr run) was =
      record { me = was.me; its_deadline = was.its_deadline; its_may_fail = was.its_may_fail; waits = was.waits; judged = was.judged }
  handles_steady (Handles.attaches seat segs caught after tried) was = record {
    me = ap (λ party. party.me) tried.after_is ∙ was.me;
    its_deadline = ap (λ party. party.deadline) tried.after_is ∙ was.its_deadline;
    its_may_fail =
        ap (λ party. party.maps.may_fail) tried.after_is
        ∙ (left_may_fail caught tried.maps ∙ (tried.caught_up.stays ∙ was.its_may_fail));
    waits = subst (WaitsFor deadline) (sym (ap (λ party. party.core) tried.after_is)) was.waits;
    judged = subst (AreOfLines seat.lines) (sym (tried_validators (length segs.log) caught seat.standing)) was.judged;
  }
  handles_steady (Handles.detaches seat segs told secondary none heard) was =
      record { me = was.me; its_deadline = was.its_deadline; its_may_fail = was.its_may_fail; waits = was.waits; judged = was.judged }

-- an ask tells of no mapping
ask_reason : (count : ℕ) (may_fail : ℕ → Option (List FailingCall)) (body : Body) (event : CoreEvent) → IsAskIn count body event
    → TellsReason count may_fail event
ask_reason count may_fail body event (IsAskIn.asks ask size align bound flags is within request its) =
    subst (TellsReason count may_fail) (sym its) tt
ask_reason count may_fail body event (IsAskIn.frees from number heap address len is within its) =
    subst (TellsReason count may_fail) (sym its) tt

known_reason : (count : ℕ) (may_fail : ℕ → Option (List FailingCall)) (seat : Seat) (event : CoreEvent) → Knows count seat event
    → TellsReason count may_fail event
known_reason count may_fail seat _ (Knows.polls now acks) = tt
known_reason count may_fail seat event (Knows.takes frame body its among says is_ask) = ask_reason count may_fail body event is_ask

module _ (count deadline : ℕ) (may_fail : ℕ → Option (List FailingCall)) (denies : Denials) (who : ℕ) (declared : who < count) where
  coordinates : (denied : Option (List ℕ × ℕ)) (event : CoreEvent) (core : Core) (segs : SegsView) → core.deadline ≡ deadline → IsSound segs
      → TellsReason count may_fail event → MayDeny denies event core segs denied
      → Changes count deadline may_fail denies segs (stepping denied event core segs).segs
  coordinates denied event core segs same sound reason may =
      subst (λ deadline. Changes count deadline may_fail denies segs (stepping denied event core segs).segs) same
      (stepping_changes count may_fail denies denied event core segs sound reason may)

  -- what it makes of the segment value is changes
  pub handles_changes : {old new : Seat} {taken given : SegsView} → Handles count who old new taken given
      → IsSteady deadline may_fail who old → (who ≡ 0 → IsWithin (denials_of old.standing) denies) → IsSound taken → HasArmedGrowth taken
      → Changes count deadline may_fail denies taken given
  handles_changes (Handles.looks seat segs) was within sound armed = stays segs
  handles_changes (Handles.moves_ranges seat segs ranges moves) was within sound armed =
      change.ranges_move count deadline may_fail denies segs ranges
  handles_changes (Handles.steps seat segs event core is its knows denied may) was within sound armed =
      coordinates denied event core segs (was.waits core its) sound (known_reason count may_fail seat event knows)
      (may_within (denials_of seat.standing) denies (within is) (judged_at event core (with_room segs)) denied may)
  handles_changes (Handles.maps seat segs caught table now core is its caught_up) was within sound armed =
      coordinates None (SelfMapped caught now) core segs (was.waits core its) sound (
        subst (λ who. who < count) is declared,
        subst (λ who. HasReason (may_fail who) caught) is
            (subst (λ (may_fail : Option (List FailingCall)). HasReason may_fail caught) was.its_may_fail caught_up.reason),
      ) refl
  handles_changes (Handles.follows seat segs caught table member caught_up) was within sound armed =
      change.catches count deadline may_fail denies segs who declared caught
      (subst (λ (may_fail : Option (List FailingCall)). HasReason may_fail caught) was.its_may_fail caught_up.reason)
  handles_changes (Handles.arms seat segs asked run number is) was within sound armed =
      change.arms count deadline may_fail denies segs (ask_of who number asked)
  handles_changes (Handles.claims seat segs) was within sound armed = change.claims count deadline may_fail denies segs who seat.party.asked
  handles_changes (Handles.settles seat segs since now late) was within sound armed =
      let mid = after_withdraw who seat.party.asked since now segs in
      changes.goes_on segs mid _
      (change.withdraws count deadline may_fail denies segs sound armed who seat.party.asked since now
      (subst (λ deadline. since + 3 * deadline ≤ now) was.its_deadline late))
      (change.claims count deadline may_fail denies mid who seat.party.asked)
  handles_changes (Handles.cuts seat segs heap addr run) was within sound armed = change.retires count deadline may_fail denies segs heap run
  handles_changes (Handles.attaches seat segs caught after tried) was within sound armed =
      change.attaches count deadline may_fail denies segs who declared caught
  handles_changes (Handles.detaches seat segs told secondary none heard) was within sound armed = change.detaches count deadline may_fail denies segs who secondary

-- all wait so long, and their mappers may fail at these calls
abbrev pub AreSetSo : ℕ → (ℕ → Option (List FailingCall)) → GlobalState → Type 0
AreSetSo deadline may_fail first = (who : ℕ) (seat : Seat) → slice_get first.seats who ≡ Some seat
    → (seat.party.deadline ≡ deadline) × (seat.party.maps.may_fail ≡ may_fail who)

-- the segment value comes from the first by changes, and each seat is steady
pub record AreBehind (count deadline : ℕ) (may_fail : ℕ → Option (List FailingCall)) (denies : Denials) (first at : GlobalState) : Type 0 where
  pub changed : Changes count deadline may_fail denies first.segs at.segs
  pub each : (who : ℕ) (seat : Seat) → slice_get at.seats who ≡ Some seat → IsSteady deadline may_fail who seat

module _ (count deadline : ℕ) (may_fail : ℕ → Option (List FailingCall)) (denies : Denials) where
  -- one seat came to something else
  pub seated_steady : (seats : List Seat) (who : ℕ) (old new : Seat) → slice_get seats who ≡ Some old
      → IsSteady deadline may_fail who new
      → ((other : ℕ) (seat : Seat) → slice_get seats other ≡ Some seat → IsSteady deadline may_fail other seat)
      → (other : ℕ) (seat : Seat)
      → slice_get (slice_set seats who new) other ≡ Some seat → IsSteady deadline may_fail other seat
  seated_steady seats who old new there steady each other seat here = by_seat (seat_behind seats who old new there other seat here)
    where
      by_seat : IsSeatAfter seats who new other seat → IsSteady deadline may_fail other seat
      by_seat (IsSeatAfter.its same is) =
          subst (λ seat. IsSteady deadline may_fail other seat) (sym is)
          (subst (λ other. IsSteady deadline may_fail other new) (sym same) steady)
      by_seat (IsSeatAfter.apart beside is) = each other seat is

  step_behind : {old new : GlobalState} (first : GlobalState) → Steps count old new → length old.seats ≡ count → IsSound old.segs
      → HasArmedGrowth old.segs → MayDenyByLines denies old → AreBehind count deadline may_fail denies first old → AreBehind count deadline may_fail denies first new
  step_behind first (Steps.quietly at who old new there did) all sound armed within was = record {
    changed = was.changed;
    each = seated_steady at.seats who old new there (quietly_steady deadline may_fail who did (was.each who old there)) was.each;
  }
  step_behind first (Steps.mails at who old new step there did) all sound armed within was = record {
    changed = was.changed;
    each = seated_steady at.seats who old new there (mails_steady deadline may_fail who did (was.each who old there)) was.each;
  }
  step_behind first (Steps.handles at who old new given there did kept grown) all sound armed within was = record {
    changed = changes.goes_on first.segs at.segs given was.changed
        (handles_changes count deadline may_fail denies who (omega (arith, all, slice_get_within at.seats who old there)) did
        (was.each who old there)
        (λ primary.
        within_then (denials_of old.standing) (denies_by_lines old.lines) denies
        (lines_deny old.lines old.standing.validators (was.each who old there).judged) (within who old there)) sound armed);
    each = seated_steady at.seats who old new there (handles_steady deadline may_fail who did (was.each who old there)) was.each;
  }

  if_some : (has : Bool) (core one : Core) → (if has then Some core else None) ≡ Some one → core ≡ one
  if_some true core one is = cc
  if_some false core one is = cc

  first_waits : (who own : ℕ) → own ≡ deadline → WaitsFor deadline (first_core who own)
  first_waits who own same one is =
      ap (λ (core : Core). core.deadline)
      (sym (if_some (who == 0) (record { deadline = own; phase = Idle; held = replicate 16 None }) one is)) ∙ same

  -- at first they are set so, and nobody has a validator
  module _ (absent : ℕ) (pools : List PoolLine) (first : GlobalState) (is : IsFirst count absent pools first)
      (set : AreSetSo deadline may_fail first) where
    first_steady : (who : ℕ) (seat : Seat) → slice_get first.seats who ≡ Some seat → IsSteady deadline may_fail who seat
    first_steady who seat there =
        let its = is.each who seat there in
        record {
          me = its.me;
          its_deadline = (set who seat there).0;
          its_may_fail = (set who seat there).1;
          judged = subst (AreOfLines seat.lines) (sym its.validators) (All-nil (IsOfLines seat.lines));
          waits = subst (WaitsFor deadline) (sym its.core) (first_waits who seat.party.deadline (set who seat there).0);
        }

    -- each moment of a run is after its first, where judges may deny what the lines that have ended by then register
    pub runs_behind : {now : GlobalState} → Runs count first now → MayDenyByLines denies now → AreBehind count deadline may_fail denies first now
    runs_behind (Runs.stands at) within = record { changed = stays first.segs; each = first_steady }
    runs_behind (Runs.goes_on start mid last runs step) within =
        let earlier : MayDenyByLines denies mid = denies_before denies step within in
        step_behind first step (count_along runs ∙ is.seats) (sound_along count absent pools first is mid runs)
        (armed_along count absent pools first is mid runs).growth earlier (runs_behind runs earlier)
