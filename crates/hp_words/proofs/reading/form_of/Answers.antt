use Rattle.std.proofs.Common.{◌≡◌, ◌≤◌, ◌∙◌, ap, subst, map, List, [], length, arith, codes, inl, inr}
use Rattle.std.specs.Prelude.{string_bytes}
use Rattle.std.proofs.lemmas.List.{length-map}
use Rattle.clap.specs.Faults.{fault_of, is_simple_and_free}
use Rattle.clap.specs.Kinds.{IsAmong}
use Rattle.clap.specs.Matches.{found_of}
use Rattle.clap.specs.Simple.{App, app_of, is_simple, matches_of}
use Rattle.clap.specs.Walk.{Row, all_of, rows_of}
use Rattle.clap.proofs.WalkLemmas.{raw_values-rows}
use Rattle.hp_words.specs.Command.{words_app}
use Rattle.hp_words.proofs.ClapLemmas.{all_text, form_none, form_when, form_without, have_none, have_values}
use Rattle.hp_words.proofs.reading.form_of.Goals as goal

pub returns-in-Some-clause-form : goal.returns-in-Some-clause-form
returns-in-Some-clause-form c =
    let words = map string_bytes c.args.words.now in
    let app : app_of c.in_ok-command.command ≡ words_app = c.in_ok-command.ensures in
    let none : fault_of words_app words ≡ [] = subst (λ (app : App). fault_of app words ≡ []) app (c.in-Ok.ensures.kinds (ap is_simple_and_free app)) in
    let rows : rows_of (found_of c.in-Ok.matches) ≡ matches_of words_app words =
    (c.in-Ok.ensures.matches (ap is_simple app)).0 ∙ ap (λ (app : App). matches_of app words) app in
    c.form_of_values.ensures.form
    ∙ form_when words (have_values words (all_text c.args.words.now) none) (map (λ value. value.now) c.in-Some.values.now)
    (c.in-Some.ensures ∙ raw_values-rows (found_of c.in-Ok.matches) (codes "words") ∙ ap (λ (rows : List Row). all_of (codes "words") rows) rows)

pub returns-in-Ok-clause-form : goal.returns-in-Ok-clause-form
returns-in-Ok-clause-form c =
    let words = map string_bytes c.args.words.now in
    let app : app_of c.in_ok-command.command ≡ words_app = c.in_ok-command.ensures in
    let none : fault_of words_app words ≡ [] = subst (λ (app : App). fault_of app words ≡ []) app (c.in-Ok.ensures.kinds (ap is_simple_and_free app)) in
    let rows : rows_of (found_of c.in-Ok.matches) ≡ matches_of words_app words =
    (c.in-Ok.ensures.matches (ap is_simple app)).0 ∙ ap (λ (app : App). matches_of app words) app in
    form_without words (have_values words (all_text c.args.words.now) none)
    (c.in-None.ensures ∙ raw_values-rows (found_of c.in-Ok.matches) (codes "words") ∙ ap (λ (rows : List Row). all_of (codes "words") rows) rows)

pub returns-clause-form : goal.returns-clause-form
returns-clause-form c =
    let words = map string_bytes c.args.words.now in
    let app : app_of c.in_ok-command.command ≡ words_app = c.in_ok-command.ensures in
    let few : length words ≤ 18446744073709551615 = omega (arith, length-map c.args.words.now string_bytes, c.well_formed) in
    form_none words (elim (c.in-Err.ensures.kinds (ap is_simple_and_free app)) [
      | inl memory ↦ absurd (c.in_default.not-OutOfMemory (c.kind.ensures ∙ memory))
      | inr among ↦ have_none words (all_text c.args.words.now) few c.in-Err.error.kind
          (subst (λ (app : App). IsAmong c.in-Err.error.kind (fault_of app words)) app among)
    ])
