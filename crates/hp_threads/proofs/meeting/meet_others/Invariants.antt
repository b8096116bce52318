use Rattle.std.proofs.Common.{◌≡◌, vec_len}
use Rattle.std.specs.List.{All}
use Rattle.hp_mail.specs.PassView.{WasInOrder}
use Rattle.hp_threads.specs.Meeting.{IsOthers}
use Rattle.hp_threads.proofs.meeting.meet_others.Given as goal

abbrev pub invariant-loop-own : goal.invariant-loop-own
invariant-loop-own l = record {
  own : l.own ≡ l.initial.own;
  others : All (IsOthers l.fn.mailbox l.initial.own) l.passes.items;
  met : All (WasInOrder l.initial.own) l.passes.items → All (WasInOrder l.initial.own) l.initial.passes.items;
}

abbrev pub decreases-loop-own : goal.decreases-loop-own
decreases-loop-own l = vec_len l.passes
