-- A row that is mapped was not there before, and a call that is to fail is refused.
use Rattle.std.proofs.Common.{◌≡◌, ◌∙◌, ◌∷◌, ◌+◌, ◌<◌, ◌-◌, ◌^◌, ℕ, [], ap, arith, false, true, inr, length, length-append, refl, subst, sym}
use Rattle.std.specs.List.{list_any}
use Rattle.std.proofs.lemmas.List.{length-map}
use Rattle.hp_base.specs.HeldRows.{rows_in}
use Rattle.hp_base.specs.Mapping.{IsFailing, Refuses, at_own_place, has_addr, owned, refusals_at}
use Rattle.hp_base.specs.MemMapping.{MapperState}
use Rattle.hp_base.specs.Streams.{list_has}
use Rattle.hp_base.specs.declared.map_answer.MapAnswer.TheVariants.{Refused}
use Rattle.hp_base.proofs.HeldRowLemmas.{once_more}
use Rattle.hp_base.proofs.MappingLemmas.{refusal_told}
use Rattle.hp_base.proofs.mapper.MemMapperMapper.map.Goals as goal

pub invariant_of-self-2 : goal.invariant_of-self-2
invariant_of-self-2 c =
    let rows = rows_in c.self.inside.runs.items in
    let row = c.args.row.now in
    let apart : list_any (λ one. has_addr row.addr one.row) (owned rows) ≡ false =
    subst (λ (mapper : MapperState). list_any (λ one. has_addr row.addr one.row) (owned mapper.rows) ≡ false) (sym c.self.view_is) c.requires.apart in
    let room : length (owned rows) < c.self.inside.capacity =
    subst (λ (mapper : MapperState). length (owned mapper.rows) < mapper.capacity) (sym c.self.view_is) c.requires.room in
    let countable : length c.self.inside.answers < 2 ^ 64 - 1 =
    subst (λ (mapper : MapperState). length mapper.answers < 2 ^ 64 - 1) (sym c.self.view_is) c.requires.countable in
    record {
      counts =
          omega (
            arith,
            c.next_fails.ensures.calls,
            c.self.invariant.counts,
            ap length c.with-2.ensures,
            length-append c.self.inside.answers (c.own_place-answer.result ∷ []),
            countable,
          );
      once = once_more row rows (rows_in c.push_row.new.runs.items) c.self.invariant.once apart c.push_row.ensures.rows;
      holds = omega (arith, ap length c.push_row.ensures.rows, length-append rows (row ∷ []), room, length-map rows at_own_place);
      fits = omega (arith, c.self.invariant.fits, c.push_row.ensures.capacity);
      within = c.push_row.ensures.runs;
    }

pub returns-then-next_fails-clause-told : goal.returns-then-next_fails-clause-told
returns-then-next_fails-clause-told c =
    let inside = c.self.inside in
    let countable : length inside.answers < 2 ^ 64 - 1 =
    subst (λ (mapper : MapperState). length mapper.answers < 2 ^ 64 - 1) (sym c.self.view_is) c.requires.countable in
    let number : c.next_fails.new.self.calls ≡ length inside.answers + 1 =
    omega (arith, c.next_fails.ensures.calls, c.self.invariant.counts, countable) in
    let fails : list_has (length inside.answers + 1) inside.failing.fails.items ≡ true =
    ap (λ (call : ℕ). list_has call inside.failing.fails.items) (sym number) ∙ sym c.next_fails.ensures.result ∙ c.if-next_fails.true in
    inr (subst (λ (mapper : MapperState). IsFailing (refusals_at mapper.fails) (length mapper.answers + 1) c.args.row.now Refused) c.self.view_is
    (record { how = Refuses; its = refusal_told (length inside.answers + 1) inside.failing.fails.items fails; is = refl }))
