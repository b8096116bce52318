-- A line of a run leads from a quiet world to a quiet one, and after it nothing is owed.
use Rattle.std.proofs.Common.{◌≡◌, ◌≢◌, ◌∙◌, ℕ, ◌+◌, ◌<◌, ◌≤◌, ◌^◌, ◌++◌, ⊎_elim, false, List, length, Option, Some, None, refl, sym, ap, subst, arith}
use Rattle.std.specs.Prelude.{slice_get, slice_set}
use Rattle.std.proofs.Math.ListN.{length-set}
use Rattle.std.proofs.lemmas.Bool.{cases_eq}
use Rattle.std.proofs.lemmas.List.{length-map}
use Rattle.std.proofs.lemmas.Option.{slice_get_within}
use Rattle.hp_plain.specs.HallView.{HallView, lines_at}
use Rattle.hp_hall.specs.Mail.{MailStep}
use Rattle.hp_hall.specs.Own.{Own}
use Rattle.hp_plain.proofs.Slotted.{slice_get-set_other, slice_get-set_same}
use Rattle.hp_script.specs.declared.answer.Answer.{Answer}
use Rattle.hp_script.specs.declared.line.Line.{Line}
use Rattle.hp_proc.specs.Acting.{Acts}
use Rattle.hp_proc.specs.ParticipantView.{ParticipantView}
use Rattle.hp_proc.specs.Progress.{Moment, doer_at}
use Rattle.hp_solo.specs.Sequence.{going_place}
use Rattle.hp_solo.specs.Solo.{AloneView, SoloView, nobody, party_at, party_in}
use Rattle.thm_run.specs.EndLaws.{tells_one_more}
use Rattle.thm_causes.specs.RoundTrip.{IsSetting, Setting, RunState}
use Rattle.thm_causes.specs.Quiet.{IsQuietOwing, IsQuietState}
use Rattle.thm_causes.specs.Lines.{ActsInQuiet, AreWaitsQuiet, AttachesOnce, LinesOweNothing, Owes}
use Rattle.thm_causes.specs.Threads.{DoesInTurn, IsRunStateAt}
use Rattle.thm_causes.specs.Waits.{LeadsTo}
use Rattle.thm_causes.specs.RunStates.{IsRunStateOf}
use Rattle.thm_causes.proofs.LineFacts.Lines.{ends_line, tells_line}
use Rattle.thm_causes.proofs.LineFacts.LinesCarried.{clock_rises}
use Rattle.thm_causes.proofs.ThreadRuns.ThreadsLooks.{attaches_once}
use Rattle.thm_causes.proofs.ThreadRuns.ThreadsPlaces.{none_set, sequence_long}
use Rattle.thm_causes.proofs.TurnSteps.TurnsSequence.{IsCutIn, cut_in}

-- as many take part as are set
pub all_count : (set : Setting) (hall : SoloView) (world : RunState) → IsRunStateAt hall world → IsQuietState set world
    → length hall.plain.owns ≡ set.count
all_count set hall world at quiet =
    sym (length-map hall.plain.owns (λ (own : Own). own.number))
    ∙ sym (ap (λ (numbers : List ℕ). length numbers) at.shared.numbers)
    ∙ quiet.base.numbers

-- a hall is a quiet world, and nothing is owed
pub record IsQuietAt (set : Setting) (hall : SoloView) : Type 0 where
  pub world : RunState
  pub its : IsRunStateAt hall world
  pub quiet : IsQuietOwing set false world

module _ (set : Setting) (sets : IsSetting set) (waits : AreWaitsQuiet) (acts : ActsInQuiet) (owing : LinesOweNothing)
    (line : Line) (answer : Answer) (old new : SoloView) (world : RunState) (at : IsRunStateAt old world) (quiet : IsQuietOwing set false world)
    (does : DoesInTurn line answer old new) (early : does.back.plain.clock ≤ 2 ^ 62) where
  abbrev me : ℕ
  me = line.participant

  gone_plain : does.away.plain ≡ old.plain
  gone_plain = ap (λ (hall : SoloView). hall.plain) does.gone

  gone_servers : does.away.servers ≡ slice_set old.servers me nobody
  gone_servers = ap (λ (hall : SoloView). hall.servers) does.gone

  is_there : party_at old.servers me ≡ Some does.doer.party
  is_there = ap party_in does.there

  apart : (servers : List AloneView) (place : AloneView) (who : ℕ) → who ≢ me
      → party_at servers who ≡ party_at (slice_set servers me place) who
  apart servers place who other = sym (ap party_in (slice_get-set_other servers me who place other))

  -- it has left its place
  gone : IsRunStateOf does.away me does.doer.party world
  gone =
      subst (λ (hall : SoloView). IsRunStateOf hall me does.doer.party world) (sym does.gone)
      (record {
        shared = at.shared;
        order = at.order;
        going = none_set old.servers me nobody refl at.going;
        own = at.all me ∙ is_there;
        others = λ who other. at.all who ∙ apart old.servers nobody who other;
      })

  -- the participant before its line ends
  abbrev mid : ParticipantView
  mid = doer_at does.does.mid

  did : Acts set.count None None does.does.held does.doer mid does.does.does.trace does.does.does.steps
  did =
      subst (λ (count : ℕ). Acts count None None does.does.held does.doer mid does.does.does.trace does.does.does.steps)
      (sym does.all ∙ ap (λ (hall : HallView). length hall.owns) gone_plain ∙ all_count set old world at quiet.quiet)
      (subst (λ (hand : Option ℕ). Acts does.count None hand does.does.held does.doer mid does.does.does.trace does.does.does.steps)
      (ap (λ (moment : Moment). moment.hand) (sym does.does.ended)) does.does.does.acts)

  looks : AttachesOnce does.doer.party does.does.does.trace
  looks =
      attaches_once line does.does.facts does.does.does.trace _ does.doer.party
      (λ joined. does.does.known.attached ∙ sym does.attached ∙ joined) does.does.does.leads

  owes : Owes false does.does.does.trace false
  owes = owing line does.does.facts does.does.does.trace answer does.does.does.leads

  -- after its line it tells of it
  abbrev told : List MailStep
  told = tells_one_more me (lines_at does.away.plain me)

  cut : IsCutIn me does.away does.does.does.steps told does.back
  cut = cut_in me does.away does.back (does.does.does.steps ++ told) does.does.does.steps told refl does.sequence

  before : cut.mid.plain.clock ≤ 2 ^ 62
  before = omega (arith, clock_rises me told cut.mid does.back cut.ends (tt, (tt, tt)), early)

  acted : LeadsTo (IsQuietOwing set false) cut.mid me mid.party
  acted =
      acts waits set me false false does.away cut.mid None None does.does.held does.doer mid does.does.does.trace
      does.does.does.steps world sets gone quiet before cut.begins looks owes did

  leads : LeadsTo (IsQuietOwing set false) does.back me does.after.party
  leads =
      subst (LeadsTo (IsQuietOwing set false) does.back me) (sym (ap (λ (moment : Moment). moment.party) does.does.ended))
      (ends_line waits set me sets does.back mid.party line.act answer false
      (tells_line waits set me sets cut.mid does.back mid.party false (lines_at does.away.plain me) (lines_at does.away.plain me + 1) cut.ends
      acted))

  within : me < length does.back.servers
  within =
      let long = sequence_long me does.away does.back (does.does.does.steps ++ told) does.sequence in
      let before = slice_get_within old.servers me (going_place does.doer.context.standing.validators does.doer.party) does.there in
      omega (
        arith,
        long,
        before,
        length-set old.servers me nobody,
        ap (λ (servers : List AloneView). length servers) gone_servers,
      )

  all_there : (who : ℕ) → slice_get leads.world.parties who ≡ party_at (slice_set does.back.servers me (going_place does.after.context.standing.validators does.after.party)) who
  all_there who =
      ⊎_elim
      (λ (same : who ≡ me).
      subst (λ (who : ℕ). slice_get leads.world.parties who ≡ party_at (slice_set does.back.servers me (going_place does.after.context.standing.validators does.after.party)) who) (sym same)
      (leads.its.own ∙ sym (ap party_in (slice_get-set_same does.back.servers me (going_place does.after.context.standing.validators does.after.party) within))))
      (λ (other : who ≢ me). leads.its.others who other ∙ apart does.back.servers (going_place does.after.context.standing.validators does.after.party) who other)
      (cases_eq who me)

  -- it has come back
  pub quiet_behind : IsQuietAt set new
  quiet_behind = record {
    world = leads.world;
    its = subst (λ (hall : SoloView). IsRunStateAt hall leads.world) (sym does.new_is)
        (record {
          shared = leads.its.shared;
          order = leads.its.order;
          going = none_set does.back.servers me (going_place does.after.context.standing.validators does.after.party) refl leads.its.going;
          all = all_there;
        });
    quiet = leads.holds;
  }
