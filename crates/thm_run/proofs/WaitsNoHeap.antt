-- Who waits takes no heap and gives none back, nor does who asks or tells of a run.
use Rattle.std.proofs.Common.{ℕ, zero, suc, Bool, true, false, List, [], ◌∷◌, Option, Some, sym, subst}
use Rattle.std.proofs.lemmas.Option.{none-some}
use Rattle.hp_base.specs.declared.caught.Caught.{Caught}
use Rattle.hp_base.specs.declared.caught.Caught.TheVariants as caught
use Rattle.hp_base.specs.declared.row.Run.{Run}
use Rattle.hp_hall.specs.Mail.{MailStep, Notes}
use Rattle.hp_hall.specs.declared.note.Note.TheVariants.{Read, Yielded}
use Rattle.hp_serve.specs.AskSteps.{DoesAsk, DoesNotify, IsAwaitedBy, IsSettledLate}
use Rattle.hp_serve.specs.Denials.{Denials}
use Rattle.hp_serve.specs.Party.{Party}
use Rattle.hp_serve.specs.Serving.{acks_after}
use Rattle.hp_serve.specs.Waiting.{AreServings, AreTurns, HaveServed, IsServedOut, IsTurned, IsWaited}
use Rattle.hp_serve.specs.declared.pages_asked.PagesAsked.{PagesAsked}
use Rattle.hp_segs.specs.declared.ask.Ask.{Ask}
use Rattle.thm_run.proofs.HeapGivers.{GiveNoHeap}
use Rattle.thm_run.proofs.ServesNoHeap.{none_both, served_leaves}

-- what an attach tells
pub acks_none : (caught : Caught) (records : ℕ) → GiveNoHeap (acks_after caught records)
acks_none caught.Done records = (tt, tt)
acks_none (caught.Refused row call) records = tt
acks_none (caught.Elsewhere row call got) records = tt

module _ (denies : Denials) (count : ℕ) where
  servings_none : (times : ℕ) (party after : Party) (steps : List MailStep) → AreServings denies count times party after steps → GiveNoHeap steps
  unfolding AreServings
  servings_none zero party after steps are = subst GiveNoHeap (sym are.1) tt
  servings_none (suc n) party after steps are =
      subst GiveNoHeap (sym are.5)
      (none_both are.1 are.2 (servings_none n party are.0 are.1 are.3) (served_leaves count are.0 after are.2 true are.4).none)

  served_out_none : (party after : Party) (steps : List MailStep) (own : Bool) → IsServedOut denies count party after steps (Some own)
      → GiveNoHeap steps
  served_out_none party after steps own (IsServedOut.rests times mid first last few are served did is) =
      subst GiveNoHeap (sym did)
      (none_both first last (servings_none times party mid first are) (served_leaves count mid after last false served).none)
  served_out_none party after steps own (IsServedOut.stops times mid first last few are served did is) = absurd (none-some own (sym is))
  served_out_none party after steps own (IsServedOut.enough are is) = servings_none _ party after steps are

  all_served_none : (party after : Party) (steps : List MailStep) (moved : Bool) → HaveServed denies count party after steps (Some moved)
      → GiveNoHeap steps
  all_served_none party after steps moved (HaveServed.below_stops did after_is is) = absurd (none-some moved (sym is))
  all_served_none party after steps moved (HaveServed.stops below own served did is) = absurd (none-some moved (sym is))
  all_served_none party after steps moved (HaveServed.above_stops below mine own served did is) = absurd (none-some moved (sym is))
  all_served_none party after steps moved (HaveServed.ends below mine above own served did is) =
      subst GiveNoHeap (sym did)
      (tt, none_both own (Notes (Yielded true (Some above)) ∷ []) (served_out_none party after own mine served) (tt, tt))

  -- a turn that came to its end, and so many
  pub turn_none : (until : ℕ) (party after : Party) (steps : List MailStep) (moved : Bool)
      → IsTurned denies count until party after steps (Some moved) → GiveNoHeap steps
  turn_none until party after steps moved (IsTurned.stops served is) = absurd (none-some moved (sym is))
  turn_none until party after steps moved (IsTurned.ends any served paused have pauses did is) =
      subst GiveNoHeap (sym did)
      (none_both served paused (all_served_none party after served any have) (subst GiveNoHeap (sym pauses.are) (tt, (tt, tt))))

  turns_none : (until : ℕ) (heeds : Bool) (turns : ℕ) (party after : Party) (steps : List MailStep)
      → AreTurns denies count until heeds turns party after steps → GiveNoHeap steps
  unfolding AreTurns
  turns_none until heeds zero party after steps are = subst GiveNoHeap (sym are.1) tt
  turns_none until heeds (suc n) party after steps are =
      subst GiveNoHeap (sym are.8)
      (none_both are.1 (Notes (Read are.3) ∷ are.2) (turns_none until heeds n party are.0 are.1 are.5)
      (tt, turn_none until are.0 after are.2 are.4 are.7))

  -- a wait that came to its end
  wait_none : (until now : ℕ) (heeds : Bool) (party after : Party) (steps : List MailStep)
      → IsWaited denies count until heeds party after steps (Some now) → GiveNoHeap steps
  wait_none until now heeds party after steps (IsWaited.ends turns last first are waited did is) =
      subst GiveNoHeap (sym did)
      (none_both first (Notes (Read last) ∷ []) (turns_none until heeds turns party after first are) (tt, tt))
  wait_none until now heeds party after steps (IsWaited.stops turns at mid first last are waits one did is) = absurd (none-some now (sym is))

  settled_none : (party after : Party) (ask : Ask) (since : ℕ) (steps : List MailStep) → IsSettledLate denies count party after ask since steps
      → GiveNoHeap steps
  settled_none party after ask since steps late =
      subst GiveNoHeap (sym late.are)
      (none_both late.waited _ (wait_none _ late.now false party after late.waited late.waits) (tt, (tt, tt)))

  awaited_none : (party after : Party) (ask : Ask) (since : ℕ) (steps : List MailStep) (run : Option Run)
      → IsAwaitedBy denies count party after ask since steps run → GiveNoHeap steps
  awaited_none party after ask since steps run (IsAwaitedBy.finds now waited looked waits look did) =
      subst GiveNoHeap (sym did)
      (none_both waited looked (wait_none _ now true party after waited waits) (subst GiveNoHeap (sym look.are) (tt, (tt, tt))))
  awaited_none party after ask since steps run (IsAwaitedBy.settles mid now waited looked late waits look settled did) =
      subst GiveNoHeap (sym did)
      (none_both waited _ (wait_none _ now true party mid waited waits)
      (none_both looked late (subst GiveNoHeap (sym look.are) (tt, (tt, tt))) (settled_none mid after ask since late settled)))

  -- an ask, and a notice
  pub ask_none : (party after : Party) (asked : PagesAsked) (steps : List MailStep) (run : Option Run)
      → DoesAsk denies count party after asked steps run → GiveNoHeap steps
  ask_none party after asked steps run does =
      subst GiveNoHeap (sym does.are)
      (none_both does.sending does.rest (subst GiveNoHeap (sym does.sent.are) (tt, (tt, (tt, (tt, tt)))))
      (awaited_none _ after _ does.since does.rest run does.awaited))

  pub notice_none : (party after : Party) (heap : ℕ) (run : Run) (steps : List MailStep) → DoesNotify denies count party after heap run steps
      → GiveNoHeap steps
  notice_none party after heap run steps does =
      subst GiveNoHeap (sym does.are) (tt, (tt, wait_none _ does.now true _ after does.waited does.waits))
