-- One kit more.
use Rattle.std.proofs.Common.{◌∷◌, [], List, Some, length, length-append, ap, sym, subst, arith}
use Rattle.std.specs.List.{All}
use Rattle.std.proofs.lemmas.List.Elements.{All-nil, All-push}
use Rattle.hp_base.specs.Mapping.{IsSteady, owned, refusals_at}
use Rattle.hp_run.specs.Mappers.{IsUnused}
use Rattle.hp_run.proofs.mappers.mem_kits.Goals as goal

pub loop-participant-init : goal.loop-participant-init
loop-participant-init g c = record {
  count = ap (λ (kits : List _). length kits) c.in_ok-kits.ensures.items;
  unused = subst (All (λ kit. IsUnused (owned kit.mapper.rows) kit.mapper.answers kit.mapper.capacity)) (sym c.in_ok-kits.ensures.items)
      (All-nil (λ kit. IsUnused (owned kit.mapper.rows) kit.mapper.answers kit.mapper.capacity));
  steady = subst (All (λ kit. IsSteady (Some (refusals_at kit.mapper.fails)))) (sym c.in_ok-kits.ensures.items)
      (All-nil (λ kit. IsSteady (Some (refusals_at kit.mapper.fails))));
}

pub loop-participant-preserved : goal.loop-participant-preserved
loop-participant-preserved g c =
    let was = c.loop-participant.invariant in
    let kits = c.loop-participant.kits.items in
    let one = c.in_ok-mem_kit.field-0 in
    record {
      count = omega (
        arith,
        ap (λ (kits : List _). length kits) c.in_ok-push.ensures.items,
        length-append kits (one ∷ []),
        was.count,
      );
      unused = subst (All (λ kit. IsUnused (owned kit.mapper.rows) kit.mapper.answers kit.mapper.capacity)) (sym c.in_ok-push.ensures.items)
          (All-push (λ kit. IsUnused (owned kit.mapper.rows) kit.mapper.answers kit.mapper.capacity) kits one was.unused
          c.in_ok-mem_kit.ensures.unused);
      steady = subst (All (λ kit. IsSteady (Some (refusals_at kit.mapper.fails)))) (sym c.in_ok-push.ensures.items)
          (All-push (λ kit. IsSteady (Some (refusals_at kit.mapper.fails))) kits one was.steady c.in_ok-mem_kit.ensures.steady);
    }

pub returns-clause-count : goal.returns-clause-count
returns-clause-count g c =
    omega (arith, c.loop-participant.invariant.count, c.loop-participant-test.false, c.loop-participant.auto._participant-end)
