-- The owner's pass meets itself and all the others.
use Rattle.std.proofs.Common.{◌≡◌, List, sym, subst}
use Rattle.std.specs.List.{All}
use Rattle.hp_mail.specs.PassView.{IsOwner, MailboxView, PassView, WasInOrder}
use Rattle.hp_threads.specs.Meeting.{IsOthers}
use Rattle.hp_threads.proofs.Meetings.{all_met, are_others, owns_it}
use Rattle.hp_threads.proofs.meeting.meet_at.Goals as goal

pub meet_itself-requires : goal.meet_itself-requires
meet_itself-requires c = record {
  owner = owns_it c.args.mailbox.now c.args.owner c.args.passes.items c.remove-own.new.self.items c.remove-own.result c.requires
      c.remove-own.ensures.value c.remove-own.ensures.items;
}

pub meet_others-requires : goal.meet_others-requires
meet_others-requires c =
    let mailbox : MailboxView = c.args.mailbox.now in
    let rest : List PassView = c.remove-own.new.self.items in
    let own : PassView = c.remove-own.result in
    let same : c.meet_itself.new.owner ≡ own = c.meet_itself.ensures.owner_same in
    record {
      owner = subst (λ (pass : PassView). (pass.mailbox ≡ mailbox.id) × IsOwner pass) (sym same)
          (owns_it mailbox c.args.owner c.args.passes.items rest own c.requires c.remove-own.ensures.value c.remove-own.ensures.items);
      others = subst (λ (pass : PassView). All (IsOthers mailbox pass) rest) (sym same)
          (are_others mailbox c.args.owner c.args.passes.items rest own c.requires c.remove-own.ensures.value c.remove-own.ensures.items);
    }

pub returns : goal.returns
returns c =
    let rest : List PassView = c.remove-own.new.self.items in
    let own : PassView = c.remove-own.result in
    let same : c.meet_itself.new.owner ≡ own = c.meet_itself.ensures.owner_same in
    all_met c.args.mailbox.now c.args.owner c.args.passes.items rest own c.requires c.remove-own.ensures.value c.remove-own.ensures.items
    c.meet_itself.ensures.in_order (subst (λ (pass : PassView). All (WasInOrder pass) rest) same c.meet_others.ensures)
    c.meet_itself.ensures.strangers
