use Rattle.std.proofs.Common.{◌≡◌, ◌≤◌, Bool, true, false, refl, MatchBool, ltb}
use Rattle.std.proofs.lemmas.Bool.{ltb-true, ltb-false}
use Rattle.hp_base.specs.declared.span.Span.{Span}
use Rattle.hp_heap.specs.Cut.{cut_from, cut_to, IsWidestCut, HasNoCut}
use Rattle.hp_heap.proofs.CutFacts.CutLaw.{cut-is-widest, no-cut}
use Rattle.hp_heap.proofs.laws.cut_law.Goals as goal

by_test : (range : Span) (b : Bool) → 192 ≤ range.page → ltb (cut_from range) (cut_to range) ≡ b → MatchBool b (IsWidestCut range (cut_from range) (cut_to range)) (HasNoCut range)
by_test range true large some = cut-is-widest range large (ltb-true (cut_from range) (cut_to range) some)
by_test range false large none = no-cut range large (ltb-false (cut_from range) (cut_to range) none)

pub returns : goal.returns
returns c = λ range large. by_test range (ltb (cut_from range) (cut_to range)) large refl
