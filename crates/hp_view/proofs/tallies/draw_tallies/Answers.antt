use Rattle.std.proofs.Common.{◌++◌, ℕ}
use Rattle.std.proofs.lemmas.Result.{on_ok_weaker}
use Rattle.hp_view.specs.declared.counts.Kind.{Kind}
use Rattle.hp_view.specs.declared.counts.Kind.TheVariants as kind
use Rattle.hp_view.specs.declared.outcome.Cause.TheVariants as cause
use Rattle.hp_view.specs.Scales.{plus}
use Rattle.hp_view.specs.Tallies.{tally_shapes}
use Rattle.hp_view.proofs.StepLemmas.{and_at}
use Rattle.hp_view.proofs.tallies.draw_tallies.Goals as goal

pub returns : goal.returns
returns c =
    let page = c.args.page.now in
    let y = c.args.y in
    let row = λ (due : Kind) (at : ℕ). tally_shapes at due c.args.lines.now in
    let one = row kind.Granted y in
    let two = one ++ row kind.Freed (plus y 18) in
    let three = two ++ row kind.Stale (plus y 36) in
    let four = three ++ row (kind.Refused cause.NoList) (plus y 54) in
    let five = four ++ row (kind.Refused cause.TooFew) (plus y 72) in
    let six = five ++ row (kind.Refused cause.ListFull) (plus y 90) in
    let seven = six ++ row (kind.Refused cause.CannotHold) (plus y 108) in
    let eight = seven ++ row (kind.Refused cause.Denied) (plus y 126) in
    let nine = eight ++ row (kind.Refused cause.MapFailed) (plus y 144) in
    let ten = nine ++ row (kind.Refused cause.Late) (plus y 162) in
    let two_drawn = and_at (row kind.Freed) _ _ page _ _ one c.plus.ensures c.in_ok-draw_tally.ensures c.in_ok-draw_tally-2.ensures in
    let three_drawn = and_at (row kind.Stale) _ _ page _ _ two c.plus-2.ensures two_drawn c.in_ok-draw_tally-3.ensures in
    let four_drawn = and_at (row (kind.Refused cause.NoList)) _ _ page _ _ three c.plus-3.ensures three_drawn c.in_ok-draw_refusal.ensures in
    let five_drawn = and_at (row (kind.Refused cause.TooFew)) _ _ page _ _ four c.plus-4.ensures four_drawn c.in_ok-draw_refusal-2.ensures in
    let six_drawn = and_at (row (kind.Refused cause.ListFull)) _ _ page _ _ five c.plus-5.ensures five_drawn c.in_ok-draw_refusal-3.ensures in
    let seven_drawn = and_at (row (kind.Refused cause.CannotHold)) _ _ page _ _ six c.plus-6.ensures six_drawn c.in_ok-draw_refusal-4.ensures in
    let eight_drawn = and_at (row (kind.Refused cause.Denied)) _ _ page _ _ seven c.plus-7.ensures seven_drawn c.in_ok-draw_refusal-5.ensures in
    let nine_drawn = and_at (row (kind.Refused cause.MapFailed)) _ _ page _ _ eight c.plus-8.ensures eight_drawn c.in_ok-draw_refusal-6.ensures in
    let ten_drawn = and_at (row (kind.Refused cause.Late)) _ _ page _ _ nine c.plus-9.ensures nine_drawn c.in_ok-draw_refusal-7.ensures in
    on_ok_weaker c.draw_refusal-8.result (λ last. and_at (row (kind.Refused cause.Withdrawn)) _ _ page _ _ ten c.plus-10.ensures ten_drawn last) c.draw_refusal-8.ensures
