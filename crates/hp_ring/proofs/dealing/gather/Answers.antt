use Rattle.std.proofs.Common.{List, [], ◌∷◌, length, refl, subst, sym, ap, ◌∙◌, arith}
use Rattle.std.specs.List.{Contains}
use Rattle.std.proofs.lemmas.List.{length_push, nil_from_length}
use Rattle.std.proofs.lemmas.List.Elements.{Contains-append_left, Contains-push}
use Rattle.crossbeam_queue.specs.Passes.{view}
use Rattle.hp_ring.specs.declared.view.View.{View}
use Rattle.hp_ring.specs.PassViews.{SendView}
use Rattle.hp_ring.proofs.PassLemmas.{gathered_all, gathered_more, gathered_none}
use Rattle.hp_ring.proofs.dealing.gather.Goals as goal

pub loop-pass-init : goal.loop-pass-init
loop-pass-init c = record {
  of = c.requires.queue;
  same = (refl, refl, refl);
  taken = (refl, refl);
  rest = c.requires.senders;
  gathered = gathered_none c.args.senders.items (view c.args.token.now);
}

pub gather_one-requires-clause-pass : goal.gather_one-requires-clause-pass
gather_one-requires-clause-pass c =
    c.loop-pass.invariant.rest c.in-Some.pass
    (subst (λ (l : List SendView). Contains l c.in-Some.pass) (sym c.in-Some.ensures.items) (Contains-push c.pop.new.self.items c.in-Some.pass))

pub loop-pass-preserved : goal.loop-pass-preserved
loop-pass-preserved c =
    let inv = c.loop-pass.invariant in
    let same = c.gather_one.ensures.queue in
    let is = c.gather_one.ensures.gathered in
    let rest = c.pop.new.self.items in
    record {
      of = (same.0 ∙ inv.of.0, same.2 ∙ inv.of.1);
      same = (same.0 ∙ inv.same.0, same.1 ∙ inv.same.1, same.2 ∙ inv.same.2);
      taken = (ap (λ (v : View). v.takes) is ∙ inv.taken.0, ap (λ (v : View). v.taken) is ∙ inv.taken.1);
      rest = λ pass has. inv.rest pass
          (subst (λ (l : List SendView). Contains l pass) (sym c.in-Some.ensures.items) (Contains-append_left rest (c.in-Some.pass ∷ []) pass has));
      gathered = gathered_more _ c.loop-pass.senders.items rest c.in-Some.pass _ _ c.in-Some.ensures.items is inv.gathered;
    }

pub loop-pass-smaller : goal.loop-pass-smaller
loop-pass-smaller c =
    let long = ap length c.in-Some.ensures.items in
    let push = length_push c.pop.new.self.items c.in-Some.pass in
    omega (arith, long, push)

pub returns-clause-has : goal.returns-clause-has
returns-clause-has c =
    let none = c.in_default.ensures.cases.0 in
    let same = c.loop-pass.senders.ok.0 in
    gathered_all _ c.loop-pass.senders.items _ (nil_from_length c.loop-pass.senders.items (omega (arith, none, same))) c.loop-pass.invariant.gathered
