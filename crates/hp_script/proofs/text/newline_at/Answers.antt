-- What `memchr` finds is the first newline.
use Rattle.hp_script.proofs.TokenFacts.TextLemmas.{newline_place, newline_within}
use Rattle.hp_script.proofs.text.newline_at.Goals as goal

pub returns : goal.returns
returns c = record {
  place = newline_place c.args.text.now c.memchr.result c.memchr.ensures;
  within = newline_within c.args.text.now c.memchr.result c.memchr.ensures;
}
