-- What a run in one thread says of mappers it says of those of the kits.
use Rattle.std.proofs.Common.{◌∙◌, List, Option, ap, map, length, sym, subst, refl}
use Rattle.std.specs.List.{All}
use Rattle.std.proofs.lemmas.List.{length-map}
use Rattle.std.proofs.lemmas.List.Elements.{All-map}
use Rattle.std.proofs.lemmas.Simd.{map-map}
use Rattle.hp_base.specs.Mapping.{FailingCall}
use Rattle.hp_base.specs.Streams.{HasRisen}
use Rattle.hp_run.specs.Mappers.{IsUnused}
use Rattle.hp_run.specs.Outcome.{SoloEnds}
use Rattle.hp_run.specs.Outcome.RanOut.{before}
use Rattle.hp_run.proofs.one_thread.solo_by_kits.Goals as goal

pub solo-requires : goal.solo-requires
solo-requires g c = record {
  count = ap (λ (all : List _). length all) c.in-Ok.ensures ∙ length-map c.args.kits.items (λ kit. kit.mapper) ∙ c.requires.count;
  unused = subst (All (λ mapper. IsUnused (g.M.Mapper.held mapper) (g.M.Mapper.answers mapper) (g.M.Mapper.capacity mapper)))
      (sym c.in-Ok.ensures)
      (All-map (λ mapper. IsUnused (g.M.Mapper.held mapper) (g.M.Mapper.answers mapper) (g.M.Mapper.capacity mapper)) (λ kit. kit.mapper)
      c.args.kits.items c.requires.unused);
}

pub returns-in-Ok-clause-outcome : goal.returns-in-Ok-clause-outcome
returns-in-Ok-clause-outcome g c =
    subst
    (λ (mappers : List (Option (List FailingCall))). SoloEnds mappers
    (g.S.Source.left c.args.source.now) (g.S.Source.left c.solo.new.source)
    (g.K.Sink.held c.args.sink.now) (g.K.Sink.held c.solo.new.sink)
    (HasRisen (g.S.Source.faults c.args.source.now) (g.S.Source.faults c.solo.new.source))
    (HasRisen (g.K.Sink.faults c.args.sink.now) (g.K.Sink.faults c.solo.new.sink)) c.solo.result)
    (ap (λ (all : List _). map g.M.Mapper.may_fail all) c.in-Ok.ensures
    ∙ map-map g.M.Mapper.may_fail (λ kit. kit.mapper) c.args.kits.items)
    c.solo.ensures.outcome

pub returns-in-Err-clause-outcome : goal.returns-in-Err-clause-outcome
returns-in-Err-clause-outcome g c = before (record { because = tt; nothing = refl })
