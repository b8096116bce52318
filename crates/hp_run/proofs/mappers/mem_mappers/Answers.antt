use Rattle.std.proofs.Common.{◌≡◌, ◌∷◌, ◌++◌, [], List, Some, ap, sym, subst, length, length-append, arith}
use Rattle.std.specs.List.{All}
use Rattle.std.proofs.lemmas.List.Elements.{All-nil, All-push}
use Rattle.hp_base.specs.Mapping.{IsSteady, owned, refusals_at}
use Rattle.hp_base.specs.MemMapping.{MapperState}
use Rattle.hp_run.specs.Mappers.{IsUnused}
use Rattle.hp_run.proofs.mappers.mem_mappers.Goals as goal

-- nothing is in such a mapper
abbrev IsEmpty : MapperState → Type 0
IsEmpty mapper = IsUnused (owned mapper.rows) mapper.answers mapper.capacity

-- and it refuses no call
abbrev RefusesNone : MapperState → Type 0
RefusesNone mapper = IsSteady (Some (refusals_at mapper.fails))

module _ (mappers all : List MapperState) (mapper : MapperState) (pushed : all ≡ mappers ++ mapper ∷ []) where
  one_more : (P : MapperState → Type 0) → All P mappers → P mapper → All P all
  one_more P was is = subst (All P) (sym pushed) (All-push P mappers mapper was is)

pub loop-participant-init : goal.loop-participant-init
loop-participant-init c = record {
  count = ap (λ (mappers : List MapperState). length mappers) c.in_ok-mappers.ensures.items;
  unused = subst (All IsEmpty) (sym c.in_ok-mappers.ensures.items) (All-nil IsEmpty);
  steady = subst (All RefusesNone) (sym c.in_ok-mappers.ensures.items) (All-nil RefusesNone);
}

pub loop-participant-preserved : goal.loop-participant-preserved
loop-participant-preserved c =
    let was = c.loop-participant.invariant in
    let mappers = c.loop-participant.mappers.items in
    let mapper = c.in_ok-mem_mapper.field-0 in
    record {
      count = omega (
        arith,
        ap (λ (mappers : List MapperState). length mappers) c.in_ok-push.ensures.items,
        length-append mappers (mapper ∷ []),
        was.count,
      );
      unused = one_more mappers c.push.new.self.items mapper c.in_ok-push.ensures.items IsEmpty was.unused
          c.in_ok-mem_mapper.ensures.unused;
      steady = one_more mappers c.push.new.self.items mapper c.in_ok-push.ensures.items RefusesNone was.steady
          c.in_ok-mem_mapper.ensures.steady;
    }

pub returns-clause-count : goal.returns-clause-count
returns-clause-count c =
    omega (arith, c.loop-participant.invariant.count, c.loop-participant-test.false, c.loop-participant.auto._participant-end)
