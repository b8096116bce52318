-- What stands after a word's first bytes is a word, where there are more.
use Rattle.std.proofs.Common.{◌≡◌, ◌-◌, ◌≤◌, length, drop, arith}
use Rattle.std.proofs.lemmas.List.{length-drop}
use Rattle.hp_script.proofs.TokenFacts.WordLemmas.{word_behind}
use Rattle.hp_script.proofs.token.Token.token_behind.Goals as goal

pub new-requires-clause-word : goal.new-requires-clause-word
new-requires-clause-word c =
    let text = c.self.inside.text.now in
    let within : c.args.n ≤ length text = rw (← c.self.view_is) at c.requires in
    let len : length (drop c.args.n text) ≡ length text - c.args.n = length-drop c.args.n text in
    let some : 1 ≤ length (drop c.args.n text) = omega (arith, len, c.if-self-n.false, within) in
    rw (c.as_bytes.ensures.text, c.behind-rest.ensures, ← c.self.view_is) (word_behind text c.args.n c.self.invariant.2 some)
