-- The other mapper is asked, which holds all that is held.
use Rattle.std.proofs.Common.{◌≡◌, ◌≤◌, ◌+◌, ◌∙◌, ◌++◌, ℕ, ◌<◌, List, Option, ap, arith, length, length-append, length-take, map, rules, subst, sym, take}
use Rattle.std.specs.Prelude.{IfSome}
use Rattle.std.proofs.lemmas.List.{append-nil, length-map}
use Rattle.hp_base.specs.Mapping.{ArePlaced, CanMapAll, Held, own_place, owned}
use Rattle.hp_base.specs.declared.row.Row.{Row}
use Rattle.hp_maps.specs.PlannedLayout.{misplaced_held}
use Rattle.hp_maps.specs.PlannedView.{AreAsked, PlannedView, after_mapping}
use Rattle.hp_maps.proofs.PlannedLemmas.{can_map_inner, none_aside, nothing_asked, view_made}
use Rattle.hp_maps.proofs.planned.PlannedMapper.map_first.Goals as goal

pub map_first-count-requires : goal.map_first-count-requires
map_first-count-requires g c =
    let inside = c.self.inside in
    can_map_inner c.args.rows.now (g.M.Mapper.held inside.inner) (misplaced_held inside.misplaced) (g.M.Mapper.capacity inside.inner)
    (length inside.answers) _
    (subst (λ (mapper : PlannedView). CanMapAll c.args.rows.now mapper.held mapper.capacity (length mapper.answers)) (sym c.self.view_is) c.requires)
    c.self.invariant.fewer

pub invariant_of-self : goal.invariant_of-self
invariant_of-self g c =
    let inside = c.self.inside in
    let gone = take c.map_first-count.result c.args.rows.now in
    let long = ap length c.add_own.ensures in
    let both = length-append inside.answers (map own_place gone) in
    let few = length-take c.map_first-count.result c.args.rows.now in
    record {
      counted = omega (arith, c.self.invariant.counted, long, both, length-map gone own_place, few, c.map_first-count.ensures.within);
      fewer =
          omega (
            arith,
            c.self.invariant.fewer,
            long,
            both,
            ap length c.map_first-count.ensures.answers,
            length-append (g.M.Mapper.answers inside.inner) (map own_place gone),
          );
      own = omega (arith, c.self.invariant.own, long, both);
      aside = c.self.invariant.aside;
    }

-- none is misplaced, so the rows come after all that is held
held_now : (misplaced : Option Row) (before now rows : List Held) → ArePlaced (before ++ misplaced_held misplaced)
    → IfSome misplaced (λ (row : Row). 0 < row.page) → now ≡ before ++ rows
    → now ++ misplaced_held misplaced ≡ (before ++ misplaced_held misplaced) ++ rows
held_now misplaced before now rows placed aside is_now =
    let none = none_aside misplaced before placed aside in
    ap (λ (l : List Held). now ++ l) none
    ∙ (append-nil now ∙ (is_now
    ∙ ap (λ (l : List Held). l ++ rows) (sym (ap (λ (l : List Held). before ++ l) none ∙ append-nil before))))

pub returns-clause-held : goal.returns-clause-held
returns-clause-held g c =
    let inside = c.self.inside in
    let more = take c.map_first-count.result c.args.rows.now in
    let placed = subst (λ (mapper : PlannedView). ArePlaced mapper.held) (sym c.self.view_is) c.requires.placed in
    held_now inside.misplaced (g.M.Mapper.held inside.inner) _ (owned more) placed c.self.invariant.aside c.map_first-count.ensures.held
    ∙ ap (λ (mapper : PlannedView). mapper.held ++ owned more) c.self.view_is

pub returns-clause-planned : goal.returns-clause-planned
returns-clause-planned g c =
    let inside = c.self.inside in
    let more = take c.map_first-count.result c.args.rows.now in
    subst (λ (mapper : PlannedView). AreAsked mapper.plan mapper.party (length mapper.answers + 1) more) c.self.view_is
    (nothing_asked inside.plan.now inside.party (length inside.answers + 1) more (search rules))

pub returns-clause-after : goal.returns-clause-after
returns-clause-after g c =
    let inside = c.self.inside in
    let more = take c.map_first-count.result c.args.rows.now in
    let inner = c.map_first-count.ensures in
    let placed = subst (λ (mapper : PlannedView). ArePlaced mapper.held) (sym c.self.view_is) c.requires.placed in
    view_made inside.plan.now inside.party
    (held_now inside.misplaced (g.M.Mapper.held inside.inner) _ (owned more) placed c.self.invariant.aside inner.held)
    inner.capacity c.add_own.ensures inner.answers (ap (λ (n : ℕ). n + inside.refused) inner.faults) inner.may_fail
    ∙ ap (λ (mapper : PlannedView). after_mapping mapper more) c.self.view_is
