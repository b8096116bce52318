use Rattle.std.proofs.Common.{◌≡◌, ◌+◌, ◌≤◌, drop, length}
use Rattle.std.specs.Prelude.{string_bytes}
use Rattle.hp_bytes.specs.Sessions.{plain_of, IsSession}
use Rattle.hp_bytes.proofs.RunLemmas.{Replies}
use Rattle.hp_bytes.proofs.running.reply_text.Given as goal

-- the text has the answers to the lines so far, and there is room for a call for each of the others
abbrev pub invariant-loop-line : goal.invariant-loop-line
invariant-loop-line l = record {
  next : l.number ≡ l.line-index + 1;
  state : IsSession l.number l.session;
  room : length l.lines ≤ l.session.heap.spare + l.line-index;
  replies : Replies l.lines (string_bytes l.text) l.number (drop l.line-index l.lines) (plain_of l.session);
}
