use Rattle.hp_script.specs.DrawnWords.Generator.{standing}
use Rattle.hp_script.specs.DrawnWords.GeneratedText.{generated_text}
use Rattle.hp_script.proofs.DrawnFacts.GeneratingLemmas.{text_goes_on, text_ends}
use Rattle.hp_script.proofs.generating.generate.Goals as goal

pub loop-before-preserved : goal.loop-before-preserved
loop-before-preserved c =
    text_goes_on c.loop-before.text.items c.put_line.new.text.items (generated_text c.args.start c.args.lines) (standing c.loop-before.generator.state c.loop-before.generator.live.items)
    (standing c.line.new.self.state c.line.new.self.live.items) c.in_ok-line.line c.loop-before.before c.args.lines c.loop-before-test.true c.loop-before.invariant
    c.in_ok-line.ensures.line c.in_ok-line.ensures.left c.in_ok-put_line.ensures

pub returns : goal.returns
returns c =
    text_ends c.loop-before.text.items (generated_text c.args.start c.args.lines) (standing c.loop-before.generator.state c.loop-before.generator.live.items) c.loop-before.before c.args.lines
    c.loop-before-test.false c.loop-before.invariant
