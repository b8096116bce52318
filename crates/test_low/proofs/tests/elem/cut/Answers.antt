use Rattle.std.proofs.Common.{◌≡◌, ℕ, [], refl, sym, ap, ◌∙◌, subst, lit<}
use Rattle.hp_base.specs.declared.span.Span.{Span}
use Rattle.hp_elem.specs.Items.{Items, IsAt, IsInside, lower_part, upper_part, cut_at, after_add}
use Rattle.hp_elem.specs.Worked.{free_span}
use Rattle.hp_elem.proofs.OrderLemmas.{lower_end}
use Rattle.hp_elem.proofs.IndexLemmas.{edit_is}
use Rattle.test_low.proofs.tests.elem.cut.Goals as goal

inside_span : (span : Span) → span ≡ free_span 4096 1024 → IsInside 4352 span
inside_span span is =
    let inside : IsInside 4352 (free_span 4096 1024) = record { above = lit< tt; below = lit< tt } in
    subst (λ (s : Span). IsInside 4352 s) (sym is) inside

abbrev one_at : (items before : Items) (key : ℕ) (span : Span) → items ≡ after_add (record { key = key; value = span }) before → before ≡ [] → span ≡ free_span 4096 1024
    → IsAt (IsInside 4352) key items
one_at items before key span is none span_is = record {
  front = [];
  found = record { key = key; value = span };
  back = [];
  is = is ∙ ap (λ (zs : Items). after_add (record { key = key; value = span }) zs) none;
  same = refl;
  holds = inside_span span span_is;
}

pub split-second-requires-clause-inside : goal.split-second-requires-clause-inside
split-second-requires-clause-inside c =
    one_at c.add-key.new.self.items c.args.elems.now.items c.add-key.result c.free.result c.add-key.ensures.items c.requires.nothing c.free.ensures

pub join_next-requires : goal.join_next-requires
join_next-requires c =
    let at : IsAt (IsInside 4352) c.add-key.result c.add-key.new.self.items =
    one_at c.add-key.new.self.items c.args.elems.now.items c.add-key.result c.free.result c.add-key.ensures.items c.requires.nothing c.free.ensures in
    record {
      next = record {
        front = [];
        found = record { key = c.add-key.result; value = lower_part 4352 c.free.result };
        next = record { key = c.split-second.result; value = upper_part 4352 c.free.result };
        back = [];
        is = c.split-second.ensures.items
            ∙ edit_is (cut_at 4352 c.split-second.result) (IsInside 4352) c.add-key.result c.add-key.new.self.items at c.add-key.ensures.ordered.apart;
        same = refl;
        holds = record { adjacent = lower_end 4352 c.free.result (inside_span c.free.result c.free.ensures); same_list = refl };
      };
    }
