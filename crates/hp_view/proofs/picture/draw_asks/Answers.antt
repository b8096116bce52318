use Rattle.std.proofs.Common.{◌++◌, ◌∙◌, ap, ℕ, None}
use Rattle.std.specs.Prelude.{codes}
use Rattle.std.proofs.lemmas.Result.{on_ok_weaker}
use Rattle.hp_view.specs.declared.counts.Kind.TheVariants as kind
use Rattle.hp_view.specs.declared.shape.Style.TheVariants as style
use Rattle.hp_view.specs.Asks.{refusals}
use Rattle.hp_view.specs.Counts.{count_of}
use Rattle.hp_view.specs.Picture.{words_at}
use Rattle.hp_view.specs.Scales.{plus}
use Rattle.hp_view.specs.Tallies.{tallies}
use Rattle.hp_view.proofs.StepLemmas.{and_at}
use Rattle.hp_view.proofs.picture.draw_asks.Goals as goal

pub returns : goal.returns
returns c =
    let page = c.args.page.now in
    let lines = c.args.lines.now in
    let y = c.args.y in
    let head = λ (at : ℕ). words_at at style.Head (codes "Asks for pages that were refused, over the same records (ask p n: number n of participant p)") in
    let table = λ (at : ℕ). words_at at style.Head (codes "Asks of the coordinator, for pages and of pages given up, by outcome") in
    let marks = λ (records at : ℕ). refusals lines records at 0 0 None lines in
    let one = head (plus y 14) in
    let two = one ++ marks (count_of kind.Record lines) (plus y 26) in
    let one_drawn = c.in_ok-draw_words.ensures ∙ ap (λ (at : ℕ). page ++ head at) c.plus.ensures in
    let marked = and_at (marks c.count_of-records.result) _ _ page _ _ one c.plus-2.ensures one_drawn c.in_ok-draw_refusals.ensures in
    let two_drawn = marked ∙ ap (λ (records : ℕ). page ++ (one ++ marks records (plus y 26))) c.count_of-records.ensures in
    let three_drawn = and_at table _ _ page _ _ two c.plus-3.ensures two_drawn c.in_ok-draw_words-2.ensures in
    on_ok_weaker c.draw_tallies.result
    (λ last. and_at (λ (at : ℕ). tallies at lines) _ _ page _ _ (two ++ table (plus y 76)) c.plus-4.ensures three_drawn last) c.draw_tallies.ensures
