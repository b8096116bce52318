-- The owner's pass meets one more.
use Rattle.std.proofs.Common.{◌≡◌, ◌∙◌, ◌<◌, List, length, refl, sym, subst, vec_len, arith}
use Rattle.std.specs.List.{All}
use Rattle.std.proofs.lemmas.List.Elements.{All-drop}
use Rattle.std.proofs.lemmas.Option.{slice_get_read}
use Rattle.hp_mail.specs.PassView.{MailboxView, PassView, WasInOrder}
use Rattle.hp_threads.specs.Meeting.{IsOthers}
use Rattle.hp_threads.proofs.Meetings.{all_with}
use Rattle.hp_threads.proofs.meeting.meet_others.Goals as goal

pub loop-own-preserved : goal.loop-own-preserved
loop-own-preserved c =
    let was = c.loop-own.invariant in
    let mailbox : MailboxView = c.args.mailbox.now in
    let own : PassView = c.args.own.now in
    let pass : PassView = c.remove.result in
    let left : List PassView = c.loop-own.passes.items in
    let left_some : 0 < vec_len c.loop-own.passes = grind (arith, c.loop-own-test.ensures) in
    let some : 0 < length left = omega (arith, left_some, c.loop-own.passes.ok.0) in
    let met : WasInOrder own pass = subst (λ (one : PassView). WasInOrder one pass) was.own c.meet_one.ensures.met in
    record {
      own = c.meet_one.ensures.same ∙ was.own;
      others = subst (All (IsOthers mailbox own)) (sym c.remove.ensures.items) (All-drop (IsOthers mailbox own) 1 left was.others);
      met = λ rest.
          was.met
          (all_with (WasInOrder own) left 0 pass (slice_get_read left (length left) 0 pass refl some c.remove.ensures.value) met
          (subst (All (WasInOrder own)) c.remove.ensures.items rest));
    }
