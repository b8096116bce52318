-- An ask that is seen through whoever stops is one as it is where nobody does, where nobody did.
use Rattle.std.proofs.Common.{◌≡◌, ℕ, Bool, true, false, List, Option, Some}
use Rattle.hp_base.specs.declared.row.Run.{Run}
use Rattle.hp_hall.specs.Mail.{MailStep}
use Rattle.hp_segs.specs.declared.ask.Ask.{Ask}
use Rattle.hp_serve.specs.AskSteps.{DoesAsk, DoesAskOn, IsAwaitedBy, IsAwaitedOn, IsSettledLate, IsSettledOn}
use Rattle.hp_serve.specs.Denials.{Denials}
use Rattle.hp_serve.specs.Party.{Party, after_alloc}
use Rattle.hp_serve.specs.Waiting.{IsWaited, IsWaitedOut}
use Rattle.hp_serve.specs.declared.pages_asked.PagesAsked.{PagesAsked}
use Rattle.hp_serve.proofs.AskingFacts.AskedAlong.{stops_neither}

module _ (count : ℕ) where
  wait_whole : {denies : Denials} → (until : ℕ) (heeds : Bool) (party after : Party) (steps : List MailStep) (ended : ℕ) (stopped : Bool)
      → stopped ≡ false
      → IsWaitedOut denies count until heeds party after steps ended stopped
      → IsWaited denies count until heeds party after steps (Some ended)
  wait_whole until heeds party after steps ended stopped unstopped (IsWaitedOut.whole waits is) = waits
  wait_whole until heeds party after steps ended stopped unstopped (IsWaitedOut.outlasts mid first rest waits rests are is) = cc

  settled_whole : {denies : Denials} → (party after : Party) (ask : Ask) (since : ℕ) (steps : List MailStep) (stopped : Bool)
      → stopped ≡ false
      → IsSettledOn denies count party after ask since steps stopped → IsSettledLate denies count party after ask since steps
  settled_whole party after ask since steps stopped unstopped settled = record {
    waited = settled.waited;
    taken = settled.taken;
    now = settled.now;
    waits = wait_whole _ false party after settled.waited settled.now stopped unstopped settled.waits;
    are = settled.are;
  }

  awaited_whole : {denies : Denials}
      → (party after : Party) (ask : Ask) (since : ℕ) (steps : List MailStep) (run : Option Run) (stopped : Bool) → stopped ≡ false
      → IsAwaitedOn denies count party after ask since steps run stopped → IsAwaitedBy denies count party after ask since steps run
  awaited_whole party after ask since steps run stopped unstopped (IsAwaitedOn.finds now waited looked waits look are) =
      IsAwaitedBy.finds now waited looked (wait_whole _ true party after waited now stopped unstopped waits) look are
  awaited_whole party after ask since steps run stopped unstopped
      (IsAwaitedOn.settles mid now waited looked late first second waits look settled are either) =
      let neither = stops_neither first second stopped either unstopped in
      IsAwaitedBy.settles mid now waited looked late (wait_whole _ true party mid waited now first neither.0 waits) look
      (settled_whole mid after ask since late second neither.1 settled) are

  pub asked_whole : {denies : Denials}
      → (party after : Party) (asked : PagesAsked) (steps : List MailStep) (run : Option Run) (stopped : Bool) → stopped ≡ false
      → DoesAskOn denies count party after asked steps run stopped → DoesAsk denies count party after asked steps run
  asked_whole party after asked steps run stopped unstopped asks = record {
    since = asks.since;
    sending = asks.sending;
    rest = asks.rest;
    sent = asks.sent;
    awaited = awaited_whole (after_alloc after.asked party) after _ asks.since asks.rest run stopped unstopped asks.awaited;
    are = asks.are;
  }
