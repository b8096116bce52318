use Rattle.std.proofs.Common.{◌≡◌, ◌<◌, ◌∷◌, ◌++◌, [], false, suc, List, ℕ, None, length, get_or, set, ap, sym, ◌∙◌, arith, rules, subst}
use Rattle.std.specs.Prelude.{is_some}
use Rattle.hp_script.specs.Noted.{AreFiled, bucket_of, found_from, line_noted}
use Rattle.hp_script.specs.declared.first_lines.Noted.{Noted}
use Rattle.hp_script.proofs.NotedLemmas.{filed_with, none_noted, not_found, noted_with, read_as}
use Rattle.hp_script.proofs.first_lines.file.Goals as goal

pub returns-clause-filed : goal.returns-clause-filed
returns-clause-filed c =
    let noted = c.args.noted.now.items in
    let lasts = c.args.lasts.now.items in
    let bucket = c.bucket_of-bucket.result in
    let last = c.index-before.result.now in
    let name = c.args.name.now in
    let within : bucket < length lasts = search (rules, c.bucket_of-bucket.ensures.within) in
    let is : bucket ≡ bucket_of name (length lasts) = search (rules, c.bucket_of-bucket.ensures.bucket) in
    let goes : last ≡ get_or lasts bucket 0 = c.index-before.ensures ∙ read_as lasts bucket last 0 within in
    let not : is_some c.find_from.result ≡ false = search (rules, c.if-is_some.false, c.is_some.ensures) in
    let found : c.find_from.result ≡ found_from noted (length noted) last name =
    search (rules, c.find_from.ensures, c.as_slice.ensures.value) in
    let none : line_noted noted name ≡ None =
    none_noted noted lasts name bucket last c.requires.filed c.requires.some is goes
    (not_found c.find_from.result (found_from noted (length noted) last name) found not) in
    let more : c.in-Ok-Ok.last ≡ suc (length noted) = omega (arith, c.in-Ok-Ok.ensures', c.len-2.ensures) in
    rw (c.in_ok-push.ensures.items, more, c.new.ensures) (filed_with noted lasts _ bucket c.requires.filed within is goes none)

pub returns-clause-noted : goal.returns-clause-noted
returns-clause-noted c = λ other.
    let same : c.in-Ok-Ok.number ≡ c.args.number = search (rules, c.in-Ok-Ok.ensures) in
    rw (c.in_ok-push.ensures.items, c.new.ensures, same) (noted_with c.args.noted.now.items _ other)
