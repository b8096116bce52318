-- What the summary of a run says of mappers it says of those of the kits.
use Rattle.std.proofs.Common.{◌∙◌, List, Option, ap, map, length, sym, subst, refl}
use Rattle.std.specs.List.{All}
use Rattle.std.proofs.lemmas.List.{length-map}
use Rattle.std.proofs.lemmas.List.Elements.{All-map}
use Rattle.std.proofs.lemmas.Simd.{map-map}
use Rattle.hp_base.specs.Mapping.{FailingCall}
use Rattle.hp_base.specs.Streams.{HasRisen}
use Rattle.hp_script.specs.DrawnWords.GeneratedText.{generated_text}
use Rattle.hp_run.specs.Making.{IsMade, IsSummaryFor}
use Rattle.hp_run.specs.Making.IsMade.{wrote_nothing}
use Rattle.hp_run.specs.Mappers.{IsUnused}
use Rattle.hp_run.proofs.one_thread.summary_by_kits.Goals as goal

pub generate_summary-requires : goal.generate_summary-requires
generate_summary-requires g c = record {
  some = c.requires.some;
  few = c.requires.few;
  count = ap (λ (all : List _). length all) c.in-Ok.ensures ∙ length-map c.args.kits.items (λ kit. kit.mapper) ∙ c.requires.count;
  unused = subst (All (λ mapper. IsUnused (g.M.Mapper.held mapper) (g.M.Mapper.answers mapper) (g.M.Mapper.capacity mapper)))
      (sym c.in-Ok.ensures)
      (All-map (λ mapper. IsUnused (g.M.Mapper.held mapper) (g.M.Mapper.answers mapper) (g.M.Mapper.capacity mapper)) (λ kit. kit.mapper)
      c.args.kits.items c.requires.unused);
}

pub returns-in-Ok-clause-outcome : goal.returns-in-Ok-clause-outcome
returns-in-Ok-clause-outcome g c =
    subst
    (λ (mappers : List (Option (List FailingCall))). IsMade (IsSummaryFor mappers (generated_text c.args.start c.args.lines))
    (g.K.Sink.held c.args.sink.now) (g.K.Sink.held c.generate_summary.new.sink)
    (HasRisen (g.K.Sink.faults c.args.sink.now) (g.K.Sink.faults c.generate_summary.new.sink)) c.generate_summary.result)
    (ap (λ (all : List _). map g.M.Mapper.may_fail all) c.in-Ok.ensures
    ∙ map-map g.M.Mapper.may_fail (λ kit. kit.mapper) c.args.kits.items)
    c.generate_summary.ensures.outcome

pub returns-in-Err-clause-outcome : goal.returns-in-Err-clause-outcome
returns-in-Err-clause-outcome g c = wrote_nothing refl
