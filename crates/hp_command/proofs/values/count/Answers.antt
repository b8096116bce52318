use Rattle.std.proofs.Common.{◌≡◌, ℕ, List, map, length, arith}
use Rattle.std.proofs.lemmas.List.{length-map}
use Rattle.std.specs.Prelude.{string_bytes}
use Rattle.hp_command.proofs.ValueLemmas.{are_counted}
use Rattle.hp_command.proofs.values.count.Goals as goal

pub returns-then-dashes-words : goal.returns-then-dashes-words
returns-then-dashes-words c =
    let words = map string_bytes c.args.words.now in
    let long = length-map c.args.words.now string_bytes in
    let at = c.requires in
    let less = c.if-dashes-words.true in
    let count = (are_counted words).some (omega (arith, at, less, long)) in
    omega (arith, count, long)

pub returns-else-dashes-words : goal.returns-else-dashes-words
returns-else-dashes-words c =
    let words = map string_bytes c.args.words.now in
    let long = length-map c.args.words.now string_bytes in
    let at = c.requires in
    let past = c.if-dashes-words.false in
    let count = (are_counted words).none (omega (arith, at, past, long)) in
    omega (arith, count, long)
