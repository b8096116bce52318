-- The rows go on the last run. None of them was there before.
use Rattle.std.proofs.Common.{◌≡◌, ◌∙◌, ◌+◌, ◌≤◌, ◌<◌, ◌-◌, ◌^◌, ◌++◌, List, ap, arith, length, length-append, length-take, map, subst, sym, take}
use Rattle.std.proofs.lemmas.List.{length-map, map-append}
use Rattle.hp_base.specs.HeldRows.{AreOnce, rows_in}
use Rattle.hp_base.specs.Mapping.{AreApart, Held, at_own_place, own_place, owned}
use Rattle.hp_base.specs.MemMapping.{MapperState}
use Rattle.hp_base.specs.declared.row.Row.{Row}
use Rattle.hp_base.proofs.HeldRowLemmas.{apart_first, once_apart}
use Rattle.hp_base.proofs.MappingLemmas.{rows_of_owned}
use Rattle.hp_base.proofs.mapper.MemMapperMapper.map_first.Goals as goal

pub invariant_of-self : goal.invariant_of-self
invariant_of-self c =
    let rows = rows_in c.self.inside.runs.items in
    let fresh = c.args.rows.now in
    let count = c.push_first-count.result in
    let all : AreApart (map (λ (one : Held). one.row) (owned rows) ++ fresh) =
    subst (λ (mapper : MapperState). AreApart (map (λ (one : Held). one.row) (owned mapper.rows) ++ fresh)) (sym c.self.view_is) c.requires.apart in
    let apart : AreApart (rows ++ fresh) = subst (λ (l : List Row). AreApart (l ++ fresh)) (rows_of_owned rows) all in
    let room : length (owned rows) + length fresh ≤ c.self.inside.capacity =
    subst (λ (mapper : MapperState). length (owned mapper.rows) + length fresh ≤ mapper.capacity) (sym c.self.view_is) c.requires.room in
    let countable : length c.self.inside.answers + length fresh < 2 ^ 64 =
    subst (λ (mapper : MapperState). length mapper.answers + length fresh < 2 ^ 64) (sym c.self.view_is) c.requires.countable in
    let few : length (take count fresh) ≡ count = omega (arith, length-take count fresh, c.push_first-count.ensures.few) in
    record {
      counts =
          omega (
            arith,
            c.add_calls.ensures.calls,
            c.self.invariant.counts,
            ap length c.add_own.ensures,
            length-append c.self.inside.answers (map own_place (take count fresh)),
            length-map (take count fresh) own_place,
            few,
            c.push_first-count.ensures.few,
            countable,
          );
      once = subst AreOnce (sym c.push_first-count.ensures.rows) (once_apart (rows ++ take count fresh) (apart_first rows fresh count apart));
      holds =
          omega (
            arith,
            ap length c.push_first-count.ensures.rows,
            length-append rows (take count fresh),
            few,
            c.push_first-count.ensures.few,
            room,
            length-map rows at_own_place,
          );
      fits = omega (arith, c.self.invariant.fits, c.push_first-count.ensures.capacity);
      within = c.push_first-count.ensures.runs;
    }

pub returns-clause-held : goal.returns-clause-held
returns-clause-held c =
    let rows = rows_in c.self.inside.runs.items in
    let more = take c.push_first-count.result c.args.rows.now in
    subst (λ (mapper : MapperState). owned (rows_in c.push_first-count.new.runs.items) ≡ owned mapper.rows ++ owned more) c.self.view_is
    (ap owned c.push_first-count.ensures.rows ∙ map-append at_own_place rows more)
