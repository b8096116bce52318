-- Waits of asks, from the turn at which one was sent to a quiet world in which nothing is owed.
use Rattle.std.proofs.Common.{◌≡◌, ◌∙◌, ℕ, ◌+◌, ◌*◌, ◌≤◌, Bool, true, false, List, [], ◌∷◌, ◌++◌, Option, Some, inl, inr, refl, sym, ap, arith, subst}
use Rattle.std.specs.List.{list_any}
use Rattle.std.proofs.lemmas.Option.{none-some}
use Rattle.hp_base.specs.declared.row.Run.{Run}
use Rattle.hp_core.specs.declared.asked.Asked.TheVariants as want
use Rattle.hp_hall.specs.Mail.{MailStep}
use Rattle.hp_segs.specs.SegsView.{SegsView, grants_or_refuses}
use Rattle.hp_segs.specs.Steps.{after_claim}
use Rattle.hp_segs.specs.declared.ask.Ask.{Ask}
use Rattle.hp_serve.specs.Denials.{Denials}
use Rattle.hp_serve.specs.AskSteps.{IsAwaitedBy, IsSettledLate, waits_until}
use Rattle.hp_serve.specs.Asking.{after_settling}
use Rattle.hp_serve.specs.Party.{Party}
use Rattle.hp_serve.specs.Serving.{gives_segments, takes_segments}
use Rattle.hp_serve.specs.Waiting.{IsWaited}
use Rattle.hp_solo.specs.Sequence.{Sequence}
use Rattle.hp_solo.specs.Solo.{SoloView}
use Rattle.thm_causes.specs.RoundTrip.{Setting, RunState}
use Rattle.thm_causes.specs.Quiet.{IsQuietOwing}
use Rattle.thm_causes.specs.Shared.{with_segs}
use Rattle.thm_causes.specs.Stages.{IsSent, world_with}
use Rattle.thm_causes.specs.Waits.{AreServingsKnown, HasComeOut, IsAtTurn, LeadsTo, WaitsOut}
use Rattle.thm_causes.specs.RunStates.{IsRunStateOf}
use Rattle.thm_causes.proofs.AskStages.AsksBack.{owing_claimed, owing_settled}
use Rattle.thm_causes.proofs.AskStages.AsksClaims.{claims, settles_back, HasOutcomes, IsBackIn}
use Rattle.thm_causes.proofs.AskStages.AsksOut.{lost_out, none_open, owing_answered}
use Rattle.thm_causes.proofs.AskStages.AsksOwn.{has_held, held_same}
use Rattle.thm_causes.proofs.TurnSteps.TurnsSequence.{cut_in}

module _ (known : AreServingsKnown) (denies : Denials) (waits_out : WaitsOut) (set : Setting) (ask : Ask) (since : ℕ)
    (is_sent : IsSent set (want.Grow ask) since) where
  -- a wait until three deadlines of the setting
  waits_long : (old new : SoloView) (party after : Party) (steps : List MailStep) (heeds : Bool) (now : ℕ) (world : RunState)
      → IsRunStateOf old ask.from party world → IsAtTurn set (want.Grow ask) since world → Sequence ask.from old steps new
      → IsWaited denies set.count (waits_until since party.deadline) heeds party after steps (Some now)
      → LeadsTo (HasComeOut set (want.Grow ask) since now) new ask.from after
  waits_long old new party after steps heeds now world its turn sequence waits =
      let same : party.deadline ≡ set.deadline = (turn.base.places ask.from party its.own).deadline in
      waits_out known denies set (want.Grow ask) since now heeds old new party after steps world is_sent its turn sequence
      (subst (λ (deadline : ℕ). IsWaited denies set.count (waits_until since deadline) heeds party after steps (Some now)) same waits)

  -- a look that finds the answer claims what was granted
  looks_quiet : (old new : SoloView) (party : Party) (now : ℕ) (taken : SegsView) (world : RunState) → IsRunStateOf old ask.from party world
      → HasComeOut set (want.Grow ask) since now world → list_any (grants_or_refuses ask.from ask.number) taken.asks ≡ true
      → Sequence ask.from old (takes_segments taken ∷ gives_segments (after_claim ask.from ask.number taken) ∷ []) new
      → LeadsTo (IsQuietOwing set false) new ask.from party
  looks_quiet old new party now taken world its out stands sequence =
      let segs = after_claim ask.from ask.number taken in
      let held = has_held known.along ask.from old new party world taken segs its sequence in
      let owing =
      owing_answered set ask since now world out
      (ap (λ (segs : SegsView). list_any (grants_or_refuses ask.from ask.number) segs.asks) (sym held.its_own) ∙ stands) in
      record {
        world = world_with (with_segs segs world.shared) world.mail ask.from party world;
        its = held.its;
        holds = owing_claimed set ask.from world segs party owing.quiet its.own held.sound (held.armed owing.quiet.base.armed) false
            owing.gone (subst (λ (old : SegsView). HasOutcomes old segs) held.its_own (claims ask.from ask.number taken));
      }

  -- a wait that heeds no answer ends once three deadlines have passed
  reached : (deadline : ℕ) (party after : Party) (steps : List MailStep) (now : ℕ)
      → IsWaited denies set.count (waits_until since deadline) false party after steps (Some now) → waits_until since deadline ≤ now
  reached deadline party after steps now (IsWaited.ends turns last first are waited did is) =
      let same : last ≡ now = cc in
      subst (λ (now : ℕ). waits_until since deadline ≤ now) same (elim waited [
        | inl over ↦ absurd (cc over)
        | inr until ↦ until
      ])
  reached deadline party after steps now (IsWaited.stops turns last mid first rest are waits turned did is) = absurd (none-some now (sym is))

  three_passed : (deadline now : ℕ) → deadline ≡ set.deadline → waits_until since deadline ≤ now → since + 3 * set.deadline ≤ now
  three_passed deadline now same passed = omega (arith, same, passed, is_sent.early, is_sent.setting.within)

  -- it settles its ask as three deadlines have passed
  settles_quiet : (old new : SoloView) (party : Party) (now : ℕ) (taken : SegsView) (world : RunState) → IsRunStateOf old ask.from party world
      → HasComeOut set (want.Grow ask) since now world → since + 3 * set.deadline ≤ now
      → Sequence ask.from old (takes_segments taken ∷ gives_segments (after_settling ask since now taken) ∷ []) new
      → LeadsTo (IsQuietOwing set false) new ask.from party
  settles_quiet old new party now taken world its out passed sequence =
      let segs = after_settling ask since now taken in
      let held = has_held known.along ask.from old new party world taken segs its sequence in
      let back : IsBackIn ask.from ask.number since now world.shared.segs segs =
      subst (λ (old : SegsView). IsBackIn ask.from ask.number since now old segs) held.its_own
      (settles_back ask since now taken (ap (λ (segs : SegsView). segs.growth) held.its_own ∙ none_open set (want.Grow ask) since now world out)) in
      record {
        world = world_with (with_segs segs world.shared) world.mail ask.from party world;
        its = held.its;
        holds = owing_settled set ask world segs party its.own held.sound (held.armed out.at_turn.base.armed) since now back
            (owing_answered set ask since now world out)
            (λ none.
            let lost = lost_out set ask since now world is_sent out none in
            record {
              quiet = lost.quiet;
              asked = lost.asked party its.own;
              room = lost.room party its.own;
              on_time = omega (arith, lost.in_time, passed);
              loses = lost.loses;
            });
      }

  late_quiet : (old new : SoloView) (party after : Party) (steps : List MailStep) (world : RunState) → IsRunStateOf old ask.from party world
      → IsAtTurn set (want.Grow ask) since world → Sequence ask.from old steps new
      → IsSettledLate denies set.count party after ask since steps
      → LeadsTo (IsQuietOwing set false) new ask.from after
  late_quiet old new party after steps world its turn sequence late =
      let cut = cut_in ask.from old new steps late.waited _ late.are sequence in
      let out = waits_long old cut.mid party after late.waited false late.now world its turn cut.begins late.waits in
      let same : party.deadline ≡ set.deadline = (turn.base.places ask.from party its.own).deadline in
      settles_quiet cut.mid new after late.now late.taken out.world out.its out.holds
      (three_passed party.deadline late.now same (reached party.deadline party after late.waited late.now late.waits)) cut.ends

  -- it waits for its answer
  pub awaited_quiet : (old new : SoloView) (party after : Party) (steps : List MailStep) (run : Option Run) (world : RunState)
      → IsRunStateOf old ask.from party world → IsAtTurn set (want.Grow ask) since world → Sequence ask.from old steps new
      → IsAwaitedBy denies set.count party after ask since steps run → LeadsTo (IsQuietOwing set false) new ask.from after
  awaited_quiet old new party after steps run world its turn sequence (IsAwaitedBy.finds now waited looked waits look are) =
      let cut = cut_in ask.from old new steps waited looked are sequence in
      let out = waits_long old cut.mid party after waited true now world its turn cut.begins waits in
      looks_quiet cut.mid new after now look.taken out.world out.its out.holds look.found
      (subst (λ (steps : List MailStep). Sequence ask.from cut.mid steps new) look.are cut.ends)
  awaited_quiet old new party after steps run world its turn sequence
      (IsAwaitedBy.settles mid now waited looked late waits look settles are) =
      let cut = cut_in ask.from old new steps waited (looked ++ late) are sequence in
      let out = waits_long old cut.mid party mid waited true now world its turn cut.begins waits in
      let more = cut_in ask.from cut.mid new (looked ++ late) looked late refl cut.ends in
      let behind =
      held_same known.along ask.from cut.mid more.mid mid out.world look.taken out.its
      (subst (λ (steps : List MailStep). Sequence ask.from cut.mid steps more.mid) look.are more.begins) in
      late_quiet more.mid new mid after late out.world behind out.holds.at_turn more.ends settles
