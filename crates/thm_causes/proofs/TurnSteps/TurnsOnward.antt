-- A turn of a wait goes on from stage to stage.
use Rattle.std.proofs.Common.{◌≡◌, ◌∙◌, ◌+◌, ◌*◌, ◌<◌, ◌≤◌, ◌⊎◌, ℕ, zero, suc, Bool, true, false, List, [], ◌∷◌, ◌++◌, Some, inl, inr, refl, sym, ap, subst, arith}
use Rattle.std.specs.Prelude.{slice_get}
use Rattle.std.proofs.lemmas.Bool.{cases_eq, cases_lt}
use Rattle.std.proofs.lemmas.List.{get_or_past}
use Rattle.std.proofs.lemmas.Option.{none-some}
use Rattle.hp_core.specs.declared.asked.Asked.{Asked}
use Rattle.hp_plain.specs.HallSteps.{after_pause}
use Rattle.hp_plain.specs.HallView.{HallView}
use Rattle.hp_hall.specs.Mail.{MailStep, Notes}
use Rattle.hp_plain.specs.Boxes.{box_of}
use Rattle.hp_hall.specs.declared.note.Note.TheVariants.{Paused, Read}
use Rattle.hp_serve.specs.Denials.{Denials}
use Rattle.hp_serve.specs.Party.{Party, due_in}
use Rattle.hp_serve.specs.Waiting.{HaveServed, IsTurned, PausesAt}
use Rattle.hp_solo.specs.Sequence.{Sequence}
use Rattle.hp_solo.specs.Solo.{AloneView, SoloView, due_at, party_at}
use Rattle.thm_causes.specs.RoundTrip.{Setting, RunState, mail_of}
use Rattle.thm_causes.specs.Stages.{IsSent}
use Rattle.thm_causes.specs.Waits.{AreServingsKnown, IsAtTurn, LeadsTo, TurnsOn}
use Rattle.thm_causes.specs.RunStates.{IsRunStateOf}
use Rattle.thm_causes.proofs.TurnSteps.TurnsAll.{AllServed, all_serve, read_on}
use Rattle.thm_causes.proofs.TurnSteps.TurnsMembers.{mail_empty}
use Rattle.thm_causes.proofs.TurnSteps.TurnsPause.{HasTurned, at_clock, has_turned, paused_at}
use Rattle.thm_causes.proofs.TurnSteps.TurnsSequence.{begins_with, cut_in, pauses_in}
use Rattle.thm_causes.proofs.TurnSteps.TurnsServings.{FollowsAt, IsDuring, LeadsAt}
use Rattle.thm_causes.proofs.TurnSteps.TurnsStages.{stages_on}
use Rattle.thm_causes.proofs.TurnSteps.TurnsVisits.{still_on}

-- A PAUSE

-- the world after a pause: the clock stands where something moved, and else goes no further than the deadline that is waited for and that of
-- participant 0's round
pub record PausedTo (until : ℕ) (moved : Bool) (hall : SoloView) (me : ℕ) (party : Party) (world : RunState) : Type 0 where
  pub now : ℕ
  pub its : IsRunStateOf hall me party (at_clock now world)
  pub stands : moved ≡ true → now ≡ world.shared.clock
  pub later : moved ≡ false → world.shared.clock ≤ now
  pub within : moved ≡ false → now ≤ until
  pub least : moved ≡ false → (primary : Party) → slice_get world.parties 0 ≡ Some primary → (due : ℕ) → due_in primary.core ≡ Some due
      → world.shared.clock < due → now ≤ due

-- the hall after it
paused_world : (me next now : ℕ) (moved : Bool) (hall : SoloView) (party : Party) (world : RunState) → IsRunStateOf hall me party world
    → IsRunStateOf (record { plain = after_pause me moved (Some next) now hall.plain; servers = hall.servers }) me party (at_clock now world)
paused_world me next now moved hall party world its = record {
  shared = record { segs = its.shared.segs; boxes = its.shared.boxes; clock = refl; numbers = its.shared.numbers };
  order = record { fits = its.order.fits; boxes = its.order.boxes; few = its.order.few };
  going = its.going;
  own = its.own;
  others = its.others;
}

pub pause_on : AreServingsKnown → (me until : ℕ) (old new : SoloView) (party : Party) (steps : List MailStep) (moved : Bool) (world : RunState)
    → IsRunStateOf old me party world → Sequence me old steps new → PausesAt until (due_in party.core) moved steps
    → PausedTo until moved new me party world
pause_on known me until old new party steps moved world its sequence pauses =
    let step : MailStep = Notes (Paused moved (Some pauses.next)) in
    let cut = cut_in me old new steps (Notes (Read pauses.now) ∷ []) (step ∷ []) pauses.are sequence in
    let read = read_on known me old cut.mid party pauses.now world cut.begins its in
    let begins = begins_with me cut.mid new (step ∷ []) step [] refl cut.ends in
    let paused = pauses_in me cut.mid begins.behind moved pauses.next begins.makes in
    let now : ℕ = begins.behind.plain.clock in
    let there : IsRunStateOf begins.behind me party (at_clock now world) =
    subst (λ (plain : HallView). IsRunStateOf (record { plain = plain; servers = begins.behind.servers }) me party (at_clock now world)) (sym paused.is)
    (subst (λ (servers : List AloneView).
    IsRunStateOf (record { plain = after_pause me moved (Some pauses.next) now cut.mid.plain; servers = servers }) me party
    (at_clock now world))
    (sym paused.servers) (paused_world me pauses.next now moved cut.mid party world read.its)) in
    record {
      now = now;
      its = still_on known me begins.behind new party [] (at_clock now world) begins.ends refl there;
      stands = λ some. paused.stands some ∙ sym read.its.shared.clock;
      later = λ none. omega (arith, (paused.goes none).later, read.its.shared.clock);
      within = λ none. omega (arith, (paused.goes none).within, pauses.sooner.within);
      least = λ none primary found due is to_come. elim (cases_eq me 0) [
        | inl same ↦
            (let own : Some party ≡ Some primary =
            sym read.its.own ∙ ap (slice_get world.parties) same ∙ found in
            let one : party ≡ primary = cc in
            let sooner =
            pauses.sooner.least due (ap (λ (party : Party). due_in party.core) one ∙ is) (omega (arith, to_come, read.now_is)) in
            omega (arith, sooner, (paused.goes none).within))
        | inr apart ↦
            (let there : due_at (party_at cut.mid.servers 0) ≡ Some due =
            ap due_at (sym (read.its.others 0 (λ (same : 0 ≡ me). apart (sym same))) ∙ found) ∙ is in
            (paused.goes none).least due (0, there, omega (arith, to_come, read.its.shared.clock)))
      ];
    }

-- A TURN

follows_from : (set : Setting) (call : Asked) (sent visited : ℕ) (world : RunState) → 0 < visited → IsDuring set call sent visited world
    → FollowsAt set call sent visited world
follows_from set call sent zero world some during = absurd (omega arith)
follows_from set call sent (suc who) world some during = during

none_by : (moved : Bool) → (moved ≡ true) ⊎ (moved ≡ false)
none_by true = inl refl
none_by false = inr refl

module _ (known : AreServingsKnown) (set : Setting) (call : Asked) (sent until me : ℕ) (is_sent : IsSent set call sent)
    (in_time : until ≤ sent + 3 * set.deadline) where
  -- all have served, and all mailboxes but participant 0's are empty
  served_out : (after : Party) (moved : Bool) (hall : SoloView) (all : AllServed known set me (IsDuring set call sent) (stages_on known set call sent is_sent me) moved after hall)
      → HasTurned set call sent all.world
  served_out after moved hall all =
      let follows = follows_from set call sent all.visited all.world (omega (arith, all.behind)) all.during in
      has_turned set call sent all.visited all.world is_sent follows
      (λ who beside. elim (cases_lt who all.visited) [
        | inl below ↦ follows.emptied who beside below
        | inr past ↦ get_or_past all.world.shared.boxes who [] (omega (arith, all.all who past, follows.base.boxes))
      ])

  all_empty : (world : RunState) → IsAtTurn set call sent world → box_of world.shared.boxes 0 ≡ [] → (who : ℕ) → mail_of world who ≡ []
  all_empty world at_turn first zero = mail_empty set world 0 at_turn.base first
  all_empty world at_turn first (suc who) = at_turn.empty (suc who) (λ (same : suc who ≡ 0). omega arith)

  -- and then the pause
  behind_pause : (moved : Bool) (world : RunState) (hall : SoloView) (after : Party) → HasTurned set call sent world
      → (moved ≡ false → box_of world.shared.boxes 0 ≡ []) → PausedTo until moved hall me after world
      → LeadsTo (IsAtTurn set call sent) hall me after
  behind_pause moved world hall after turned still paused = record {
    world = at_clock paused.now world;
    its = paused.its;
    holds = paused_at set call sent paused.now world is_sent turned.at_turn (elim (none_by moved) [
      | inl some ↦ inl (paused.stands some)
      | inr none ↦ inr (
        paused.later none,
        all_empty world turned.at_turn (still none),
        λ primary found due is early. paused.least none primary found due is ((turned.rested primary found).to_come due is early),
        omega (arith, paused.within none, in_time),
      )
    ]);
  }

  turn_ends : (denies : Denials) (old new : SoloView) (party after : Party) (steps served paused : List MailStep) (moved : Bool)
      (world : RunState)
      → IsRunStateOf old me party world → IsAtTurn set call sent world → Sequence me old steps new
      → HaveServed denies set.count party after served (Some moved)
      → PausesAt until (due_in after.core) moved paused → steps ≡ served ++ paused → LeadsTo (IsAtTurn set call sent) new me after
  turn_ends denies old new party after steps served paused moved world its at_turn sequence have pauses did =
      let cut = cut_in me old new steps served paused did sequence in
      let leads : LeadsAt set call sent world = record { base = at_turn.base; stage = at_turn.stage; light = at_turn.light } in
      let all = all_serve known set me (IsDuring set call sent)
      (stages_on known set call sent is_sent me) denies old cut.mid party after served moved world its
      leads cut.begins have in
      behind_pause moved all.world new after (served_out after moved cut.mid all) all.still
      (pause_on known me until cut.mid new after paused moved all.world all.its cut.ends pauses)

pub turns_on : TurnsOn
turns_on known denies set call sent until me old new party after steps moved world is_sent in_time its at_turn sequence
    (IsTurned.stops served is) =
    absurd (none-some moved (sym is))
turns_on known denies set call sent until me old new party after steps moved world is_sent in_time its at_turn sequence
    (IsTurned.ends any served paused have pauses did is) =
    turn_ends known set call sent until me is_sent in_time denies old new party after steps served paused any world its at_turn sequence
    have pauses did
