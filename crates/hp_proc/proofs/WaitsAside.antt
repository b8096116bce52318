-- Who waits or asks takes the segment value alone, and gives it back; and tells of no run that was given up.
use Rattle.std.proofs.Common.{◌≡◌, ◌∙◌, ℕ, zero, suc, Bool, true, false, List, [], ◌∷◌, ◌++◌, Option, Some, None, refl, sym, ap, subst}
use Rattle.std.specs.List.{fold}
use Rattle.std.proofs.lemmas.List.Sums.{fold-append}
use Rattle.hp_base.specs.declared.row.Run.{Run}
use Rattle.hp_hall.specs.HallState.{Did, HallState}
use Rattle.hp_hall.specs.Mail.{MailStep, Fetches, Gives, Notes, Posts, Takes}
use Rattle.hp_hall.specs.Telling.{has_names, names_after}
use Rattle.hp_hall.specs.declared.kept.Kept.TheVariants.{Heap, Names, Segments}
use Rattle.hp_hall.specs.declared.note.Note.TheVariants.{Read, Yielded}
use Rattle.hp_segs.specs.declared.ask.Ask.{Ask}
use Rattle.hp_serve.specs.AskSteps.{DoesAsk, DoesAskOn, IsAwaitedBy, IsAwaitedOn, IsSentAs, IsSettledLate, IsSettledOn}
use Rattle.hp_serve.specs.Denials.{Denials}
use Rattle.hp_serve.specs.Party.{Party}
use Rattle.hp_serve.specs.Waiting.{AreServings, AreTurns, AreTurnsOn, HaveServed, HaveServedOn, IsOutlasted, IsServedOut, IsTurned, IsTurnedOn, IsWaited, IsWaitedOut}
use Rattle.hp_serve.specs.declared.pages_asked.PagesAsked.{PagesAsked}
use Rattle.hp_proc.proofs.ServesAside.{AreAside, IsAside, aside_as, aside_then, served_aside}

-- such steps leave the names in hand, or not in hand
pub names_aside : (has ends naming : Bool) (steps : List MailStep) → AreAside has ends steps → fold names_after naming steps ≡ naming
names_aside has ends naming [] aside = refl
names_aside has ends naming (Posts to frame action posted ∷ steps) aside = names_aside has ends naming steps aside.1
names_aside has ends naming (Fetches frame ∷ steps) aside = names_aside has ends naming steps aside
names_aside has ends naming (Takes slot (Segments segs) ∷ steps) aside = names_aside true ends naming steps aside.3
names_aside has ends naming (Takes slot (Heap heap pen) ∷ steps) aside = absurd aside.2
names_aside has ends naming (Takes slot (Names names) ∷ steps) aside = absurd aside.2
names_aside has ends naming (Gives slot (Segments segs) ∷ steps) aside = names_aside false ends naming steps aside.3
names_aside has ends naming (Gives slot (Heap heap pen) ∷ steps) aside = absurd aside.2
names_aside has ends naming (Gives slot (Names names) ∷ steps) aside = absurd aside.2
names_aside has ends naming (Notes note ∷ steps) aside = names_aside has ends naming steps aside

-- so by its steps it has the names, or has not, as before
pub hands_aside : {me : ℕ} (steps : List MailStep) {a b : HallState} → IsAside steps → Did me steps a b
    → has_names (b.done me) ≡ has_names (a.done me)
hands_aside {me} steps {a} {b} aside did =
    ap has_names did.made ∙ (fold-append names_after false (a.done me) steps ∙ names_aside false false (has_names (a.done me)) steps aside)

module _ (denies : Denials) (count : ℕ) where
  servings_aside : (times : ℕ) (party after : Party) (steps : List MailStep) → AreServings denies count times party after steps → IsAside steps
  unfolding AreServings
  servings_aside zero party after steps are = aside_as steps _ are.1 refl
  servings_aside (suc n) party after steps are =
      aside_as steps _ are.5
      (aside_then are.1 are.2 (servings_aside n party are.0 are.1 are.3) (served_aside count are.0 after are.2 (Some true) are.4))

  served_out : (party after : Party) (steps : List MailStep) (own : Option Bool) → IsServedOut denies count party after steps own → IsAside steps
  served_out party after steps own (IsServedOut.rests times mid first last few are served did is) =
      aside_as steps _ did
      (aside_then first last (servings_aside times party mid first are) (served_aside count mid after last (Some false) served))
  served_out party after steps own (IsServedOut.stops times mid first last few are served did is) =
      aside_as steps _ did (aside_then first last (servings_aside times party mid first are) (served_aside count mid after last None served))
  served_out party after steps own (IsServedOut.enough are is) = servings_aside _ party after steps are

  all_served : (party after : Party) (steps : List MailStep) (moved : Option Bool) → HaveServed denies count party after steps moved → IsAside steps
  all_served party after steps moved (HaveServed.below_stops did after_is is) = aside_as steps _ did refl
  all_served party after steps moved (HaveServed.stops below own served did is) = aside_as steps _ did (served_out party after own None served)
  all_served party after steps moved (HaveServed.above_stops below mine own served did is) =
      aside_as steps _ did (aside_then own (Notes (Yielded true None) ∷ []) (served_out party after own (Some mine) served) refl)
  all_served party after steps moved (HaveServed.ends below mine above own served did is) =
      aside_as steps _ did (aside_then own (Notes (Yielded true (Some above)) ∷ []) (served_out party after own (Some mine) served) refl)

  -- a turn, whether it stopped or not, and so many
  pub turn_aside : (until : ℕ) (party after : Party) (steps : List MailStep) (answer : Option Bool)
      → IsTurned denies count until party after steps answer → IsAside steps
  turn_aside until party after steps answer (IsTurned.stops served is) = all_served party after steps None served
  turn_aside until party after steps answer (IsTurned.ends any served paused have pauses did is) =
      aside_as steps _ did
      (aside_then served paused (all_served party after served (Some any) have) (aside_as paused _ pauses.are refl))

  turns_aside : (until : ℕ) (heeds : Bool) (turns : ℕ) (party after : Party) (steps : List MailStep)
      → AreTurns denies count until heeds turns party after steps → IsAside steps
  unfolding AreTurns
  turns_aside until heeds zero party after steps are = aside_as steps _ are.1 refl
  turns_aside until heeds (suc n) party after steps are =
      aside_as steps _ are.8
      (aside_then are.1 (Notes (Read are.3) ∷ are.2) (turns_aside until heeds n party are.0 are.1 are.5)
      (turn_aside until are.0 after are.2 (Some are.4) are.7))

  -- a wait, whether it stopped or not
  pub wait_aside : (until : ℕ) (heeds : Bool) (party after : Party) (steps : List MailStep) (ended : Option ℕ)
      → IsWaited denies count until heeds party after steps ended → IsAside steps
  wait_aside until heeds party after steps ended (IsWaited.ends turns last first are waited did is) =
      aside_as steps _ did (aside_then first (Notes (Read last) ∷ []) (turns_aside until heeds turns party after first are) refl)
  wait_aside until heeds party after steps ended (IsWaited.stops turns at mid first last are waits one did is) =
      aside_as steps _ did
      (aside_then first (Notes (Read at) ∷ last) (turns_aside until heeds turns party mid first are) (turn_aside until mid after last None one))

  -- and one that is seen through
  served_on : (party after : Party) (steps : List MailStep) (moved : Bool) → HaveServedOn denies count party after steps moved → IsAside steps
  served_on party after steps moved on =
      aside_as steps _ on.are (aside_then on.own (Notes (Yielded true on.above) ∷ []) (served_out party after on.own on.mine on.served) refl)

  turned_on : (until : ℕ) (party after : Party) (steps : List MailStep) → IsTurnedOn denies count until party after steps → IsAside steps
  turned_on until party after steps on =
      aside_as steps _ on.are
      (aside_then on.served on.paused (served_on party after on.served on.moved on.all) (aside_as on.paused _ on.pause.are refl))

  turns_on : (until : ℕ) (heeds : Bool) (turns : ℕ) (party after : Party) (steps : List MailStep)
      → AreTurnsOn denies count until heeds turns party after steps → IsAside steps
  unfolding AreTurnsOn
  turns_on until heeds zero party after steps are = aside_as steps _ are.1 refl
  turns_on until heeds (suc n) party after steps are =
      aside_as steps _ are.7
      (aside_then are.1 (Notes (Read are.3) ∷ are.2) (turns_on until heeds n party are.0 are.1 are.4) (turned_on until are.0 after are.2 are.6))

  outlasted : (until : ℕ) (heeds : Bool) (party after : Party) (steps : List MailStep) (ended : ℕ)
      → IsOutlasted denies count until heeds party after steps ended → IsAside steps
  outlasted until heeds party after steps ended lasts =
      aside_as steps _ lasts.are
      (aside_then lasts.first (Notes (Read ended) ∷ []) (turns_on until heeds lasts.turns party after lasts.first lasts.are_turns) refl)

  pub waited_out : (until : ℕ) (heeds : Bool) (party after : Party) (steps : List MailStep) (ended : ℕ) (stopped : Bool)
      → IsWaitedOut denies count until heeds party after steps ended stopped → IsAside steps
  waited_out until heeds party after steps ended stopped (IsWaitedOut.whole waits is) =
      wait_aside until heeds party after steps (Some ended) waits
  waited_out until heeds party after steps ended stopped (IsWaitedOut.outlasts mid first rest waits lasts did is) =
      aside_as steps _ did
      (aside_then first rest (wait_aside until heeds party mid first None waits) (outlasted until heeds mid after rest ended lasts))

  sent_aside : (party : Party) (ask : Ask) (since : ℕ) (steps : List MailStep) → IsSentAs party ask since steps → IsAside steps
  sent_aside party ask since steps sent =
      aside_as steps _ sent.are (refl, refl, tt, (refl, refl, tt, ((_, sent.says, tt), refl)))

  settled_late : (party after : Party) (ask : Ask) (since : ℕ) (steps : List MailStep) → IsSettledLate denies count party after ask since steps
      → IsAside steps
  settled_late party after ask since steps late =
      aside_as steps _ late.are
      (aside_then late.waited _ (wait_aside _ false party after late.waited (Some late.now) late.waits)
      (refl, refl, tt, (refl, refl, tt, refl)))

  awaited_by : (party after : Party) (ask : Ask) (since : ℕ) (steps : List MailStep) (run : Option Run)
      → IsAwaitedBy denies count party after ask since steps run → IsAside steps
  awaited_by party after ask since steps run (IsAwaitedBy.finds now waited looked waits look did) =
      aside_as steps _ did
      (aside_then waited looked (wait_aside _ true party after waited (Some now) waits) (aside_as looked _ look.are (refl, refl, tt, (refl, refl, tt, refl))))
  awaited_by party after ask since steps run (IsAwaitedBy.settles mid now waited looked late waits look settled did) =
      aside_as steps _ did
      (aside_then waited _ (wait_aside _ true party mid waited (Some now) waits)
      (aside_then looked late (aside_as looked _ look.are (refl, refl, tt, (refl, refl, tt, refl))) (settled_late mid after ask since late settled)))

  -- an ask
  pub ask_aside : (party after : Party) (asked : PagesAsked) (steps : List MailStep) (run : Option Run)
      → DoesAsk denies count party after asked steps run → IsAside steps
  ask_aside party after asked steps run does =
      aside_as steps _ does.are
      (aside_then does.sending does.rest (sent_aside party _ does.since does.sending does.sent)
      (awaited_by _ after _ does.since does.rest run does.awaited))

  settled_on : (party after : Party) (ask : Ask) (since : ℕ) (steps : List MailStep) (stopped : Bool)
      → IsSettledOn denies count party after ask since steps stopped → IsAside steps
  settled_on party after ask since steps stopped late =
      aside_as steps _ late.are
      (aside_then late.waited _ (waited_out _ false party after late.waited late.now stopped late.waits)
      (refl, refl, tt, (refl, refl, tt, refl)))

  awaited_on : (party after : Party) (ask : Ask) (since : ℕ) (steps : List MailStep) (run : Option Run) (stopped : Bool)
      → IsAwaitedOn denies count party after ask since steps run stopped → IsAside steps
  awaited_on party after ask since steps run stopped (IsAwaitedOn.finds now waited looked waits look did) =
      aside_as steps _ did
      (aside_then waited looked (waited_out _ true party after waited now stopped waits) (aside_as looked _ look.are (refl, refl, tt, (refl, refl, tt, refl))))
  awaited_on party after ask since steps run stopped (IsAwaitedOn.settles mid now waited looked late first second waits look settled did is) =
      aside_as steps _ did
      (aside_then waited _ (waited_out _ true party mid waited now first waits)
      (aside_then looked late (aside_as looked _ look.are (refl, refl, tt, (refl, refl, tt, refl))) (settled_on mid after ask since late second settled)))

  -- also where somebody may stop meanwhile
  pub ask_on_aside : (party after : Party) (asked : PagesAsked) (steps : List MailStep) (run : Option Run) (stopped : Bool)
      → DoesAskOn denies count party after asked steps run stopped → IsAside steps
  ask_on_aside party after asked steps run stopped does =
      aside_as steps _ does.are
      (aside_then does.sending does.rest (sent_aside party _ does.since does.sending does.sent)
      (awaited_on _ after _ does.since does.rest run stopped does.awaited))
