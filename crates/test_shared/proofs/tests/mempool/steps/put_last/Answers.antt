use Rattle.std.proofs.Common.{ℕ, map, List, [], ◌∷◌, ◌++◌, ap, subst, ◌∙◌}
use Rattle.std.proofs.lemmas.List.{map-append}
use Rattle.hp_mempool.specs.PassView.{AreOut, ObjView}
use Rattle.hp_mempool.proofs.PassLaws.{out_fewer, out_last}
use Rattle.test_shared.proofs.tests.mempool.steps.put_last.Goals as goal

-- of each object, its number
abbrev number_of : ObjView → ℕ
number_of obj = obj.number

pub put-requires-clause-out : goal.put-requires-clause-out
put-requires-clause-out g c =
    let rest = c.pop.new.self.items in
    out_last c.args.pass.now (map number_of rest) c.in-Some.obj.number
    (subst (λ (numbers : List ℕ). AreOut c.args.pass.now numbers)
    (ap (map number_of) c.in-Some.ensures.items ∙ map-append number_of rest (c.in-Some.obj ∷ [])) c.requires.out)

pub returns-in-Some-clause-out : goal.returns-in-Some-clause-out
returns-in-Some-clause-out g c =
    let rest = c.pop.new.self.items in
    out_fewer c.args.pass.now c.put.new.pass (map number_of rest) c.in-Some.obj.number c.put.ensures
    (subst (λ (numbers : List ℕ). AreOut c.args.pass.now numbers)
    (ap (map number_of) c.in-Some.ensures.items ∙ map-append number_of rest (c.in-Some.obj ∷ [])) c.requires.out)
