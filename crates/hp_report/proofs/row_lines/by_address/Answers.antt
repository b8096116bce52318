use Rattle.std.proofs.Common.{rules, ◌≡◌, ◌∙◌, ap}
use Rattle.std.proofs.lemmas.List.Sorted.{IsNonDecreasingBy-from_sort_by_key, answers_always}
use Rattle.hp_report.specs.TableTexts.{by_address}
use Rattle.hp_report.proofs.SortLemmas.{sorted_is}
use Rattle.hp_report.proofs.row_lines.by_address.Goals as goal

pub returns : goal.returns
returns c =
    let copied : c.in_ok-sorted.sorted.items ≡ c.args.rows.now = c.in_ok-sorted.ensures.items in
    sorted_is c.in_ok-sorted.sorted.items c.sort_by_key.new.self.items
    (IsNonDecreasingBy-from_sort_by_key (λ row. row.addr) _ c.in_ok-sort_by_key.ensures.sorted (λ a r q k. search rules))
    (c.in_ok-sort_by_key.ensures.stable (λ row. row.addr) (answers_always _ _ _ (λ f a r g h. search rules)))
    ∙ ap by_address copied
