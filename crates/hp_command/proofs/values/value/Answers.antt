use Rattle.std.proofs.Common.{rules, ◌≡◌, ℕ, ◌+◌, ◌<◌, ◌≤◌, List, [], map, length, get_or, sym, ap, ◌∙◌, arith}
use Rattle.std.proofs.lemmas.List.{get_or-map, length-map}
use Rattle.std.specs.Prelude.{string_bytes}
use Rattle.hp_command.proofs.ValueLemmas.{are_counted, is_value_at, within_back, within_front}
use Rattle.hp_command.proofs.values.value.Goals as goal

pub bounds-words-at : goal.bounds-words-at
bounds-words-at c =
    within_front (map string_bytes c.args.words.now) c.args.dashes c.args.at (length c.args.words.now) (length-map c.args.words.now string_bytes) c.requires.dashes
    c.if-at-dashes.true

pub bounds-words-at-else-at-dashes : goal.bounds-words-at-else-at-dashes
bounds-words-at-else-at-dashes c =
    within_back (map string_bytes c.args.words.now) c.args.dashes c.args.at (length c.args.words.now) (length-map c.args.words.now string_bytes) c.requires.dashes
    c.requires.within c.if-at-dashes.false

pub offset_bounds-words-at : goal.offset_bounds-words-at
offset_bounds-words-at c = let within = bounds-words-at c in search (rules, within)

pub overflow_add-result : goal.overflow_add-result
overflow_add-result c = let within = bounds-words-at-else-at-dashes c in let few = c.well_formed.0.0 in omega (arith, within, few)

pub offset_bounds-words-at-else-at-dashes : goal.offset_bounds-words-at-else-at-dashes
offset_bounds-words-at-else-at-dashes c = let within = bounds-words-at-else-at-dashes c in let few = c.well_formed.0.1 in omega (arith, within, few)

pub returns-then-at-dashes : goal.returns-then-at-dashes
returns-then-at-dashes c =
    let words = map string_bytes c.args.words.now in
    let at = c.requires.dashes in
    let before = c.if-at-dashes.true in
    let within = within_front words c.args.dashes c.args.at (length c.args.words.now) (length-map c.args.words.now string_bytes) at before in
    ap string_bytes c.index-words-at.is
    ∙ (sym (get_or-map string_bytes c.args.words.now c.args.at c.index-words-at.result [] within) ∙ sym ((is_value_at words c.args.at).front (omega (arith, at, before))))

pub returns-else-at-dashes : goal.returns-else-at-dashes
returns-else-at-dashes c =
    let words = map string_bytes c.args.words.now in
    let at = c.requires.dashes in
    let after = c.if-at-dashes.false in
    let within = within_back words c.args.dashes c.args.at (length c.args.words.now) (length-map c.args.words.now string_bytes) at c.requires.within after in
    ap string_bytes c.index-words-at-else-at-dashes.is
    ∙ (sym (get_or-map string_bytes c.args.words.now (c.args.at + 1) c.index-words-at-else-at-dashes.result [] within)
    ∙ sym ((is_value_at words c.args.at).back (omega (arith, at, after)) c.requires.within))
