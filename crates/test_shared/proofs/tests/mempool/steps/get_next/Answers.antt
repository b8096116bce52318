use Rattle.std.proofs.Common.{ℕ, map, List, [], ◌∷◌, ◌++◌, ap, sym, subst, ◌∙◌}
use Rattle.std.proofs.lemmas.List.{map-append}
use Rattle.hp_mempool.specs.PassView.{AreOut, ObjView}
use Rattle.hp_mempool.proofs.PassLaws.{out_more}
use Rattle.test_shared.proofs.tests.mempool.steps.get_next.Goals as goal

-- of each object, its number
abbrev number_of : ObjView → ℕ
number_of obj = obj.number

pub returns-clause-out : goal.returns-clause-out
returns-clause-out g c =
    let before = c.args.out.now.items in
    subst (λ (numbers : List ℕ). AreOut c.get.new.pass numbers)
    (sym (ap (map number_of) c.in_ok-push.ensures.items ∙ map-append number_of before (c.in-Some.obj ∷ [])))
    (out_more c.args.pass.now c.get.new.pass (map number_of before) c.in-Some.obj.number c.in-Some.ensures.got c.requires.out)
