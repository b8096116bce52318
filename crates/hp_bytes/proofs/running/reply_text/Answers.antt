-- Each line is done, and answered.
use Rattle.std.proofs.Common.{◌≡◌, ◌+◌, List, ◌∷◌, [], drop, length, sym, ap, ◌∙◌, arith, subst}
use Rattle.std.specs.Prelude.{string_bytes}
use Rattle.std.proofs.lemmas.List.{drop_all, drop_more}
use Rattle.hp_bytes.specs.Sessions.{plain_of}
use Rattle.hp_bytes.specs.declared.line.Line.{Line}
use Rattle.hp_bytes.proofs.RunLemmas.{Replies, replies_all, replies_more}
use Rattle.hp_bytes.proofs.running.reply_text.Goals as goal

pub loop-line-preserved : goal.loop-line-preserved
loop-line-preserved c =
    let i = c.loop-line.line-index in
    let lines = c.args.lines.now in
    let line = c.line-item.result in
    let was = c.loop-line.invariant in
    let does = c.in_ok-answer.ensures in
    let more : drop i lines ≡ line ∷ drop (i + 1) lines = drop_more lines i line c.loop-line-test.true ∙ ap (λ (l : Line). l ∷ drop (i + 1) lines) (sym c.line-item.is) in
    record {
      next = omega (arith, was.next);
      state = does.session;
      room = omega (arith, was.room, does.room);
      replies = replies_more lines _ _ c.loop-line.number line (drop (i + 1) lines) _ _ c.in_ok-answer.answer
          (subst (λ (rest : List Line). Replies lines (string_bytes c.loop-line.text) c.loop-line.number rest (plain_of c.loop-line.session)) more was.replies) does.step c.in_ok-push_answer.ensures;
    }

pub returns : goal.returns
returns c =
    let none : drop c.loop-line.line-index c.args.lines.now ≡ [] = drop_all c.loop-line.line-index c.args.lines.now c.loop-line-test.false in
    replies_all c.args.lines.now (string_bytes c.loop-line.text) c.loop-line.number _ _ none c.loop-line.invariant.replies
