-- What is held is that of one answer more.
use Rattle.std.proofs.Common.{◌≡◌, ◌∙◌, ◌≤◌, Bool, true, false, cond, List, [], ◌∷◌, ◌++◌, length-append, ap, sym, subst, arith}
use Rattle.hp_script.specs.declared.answer.Answer.{Answer}
use Rattle.hp_script.specs.declared.line.Act.{Act}
use Rattle.hp_run.specs.AnswersKept.{IsHeldOf, count_more}
use Rattle.hp_run.specs.Deeds.{is_done}
use Rattle.hp_run.specs.declared.deed.Deed.TheVariants.{Allocated, Freed, Resized}
use Rattle.hp_run.specs.declared.summary.Counts.{Counts}
use Rattle.hp_run.specs.declared.told.Held.{Held}
use Rattle.hp_run.specs.declared.told.Held.TheVariants.{Counted}
use Rattle.hp_run.proofs.told.Told.push.Goals as goal
use Rattle.hp_run.proofs.told.Told.push.Goals.{in-Kept+in_ok-push-in-Kept, in-Counted}

-- a line has done it once, or not
once : (done : Bool) → cond done 1 0 ≤ 1
once true = omega arith
once false = omega arith

-- one line more is counted, and of each deed at most one
counted_holds : (counts : Counts) (act : Act) (answer : Answer) (all : List Answer) → IsHeldOf (Counted counts) all
    → IsHeldOf (Counted (count_more counts act answer)) (all ++ answer ∷ [])
counted_holds counts act answer all held = (
  omega (arith, held.0, length-append all (answer ∷ [])),
  omega (arith, held.1, once (is_done Allocated act answer)),
  omega (arith, held.2, once (is_done Freed act answer)),
  omega (arith, held.3, once (is_done Resized act answer)),
)

pub invariant_of-self-2 : goal.invariant_of-self-2
invariant_of-self-2 c =
    let was = c.self.inside.all in
    elim c.match-self.branch [
      | in-Kept+in_ok-push-in-Kept w ↦
          let all : c.with-2.result ≡ was ++ c.args.answer ∷ [] =
          c.with-2.ensures ∙ ap (λ told. told.all ++ c.args.answer ∷ []) w.self-inside-is in
          let kept = subst (λ (held : Held). IsHeldOf held was) w.in-Kept.is c.self.invariant in
          subst (λ (held : Held). IsHeldOf held c.with-2.result) (sym (ap (λ told. told.held) w.self-inside-is))
          (w.in_ok-push-in-Kept.ensures.items ∙ ap (λ (front : List Answer). front ++ c.args.answer ∷ []) kept ∙ sym all)
      | in-Counted w ↦
          let all : c.with-2.result ≡ was ++ c.args.answer ∷ [] =
          c.with-2.ensures ∙ ap (λ told. told.all ++ c.args.answer ∷ []) w.self-inside-is in
          let counted = subst (λ (held : Held). IsHeldOf held was) w.in-Counted.is c.self.invariant in
          let more : c.match-self.self-inside.held ≡ Counted (count_more w.in-Counted.counts c.args.act.now c.args.answer) =
          ap (λ told. told.held) w.self-inside-is ∙ ap Counted w.with.ensures in
          subst (λ (held : Held). IsHeldOf held c.with-2.result) (sym more)
          (subst (IsHeldOf (Counted (count_more w.in-Counted.counts c.args.act.now c.args.answer))) (sym all)
          (counted_holds w.in-Counted.counts c.args.act.now c.args.answer was counted))
    ]
