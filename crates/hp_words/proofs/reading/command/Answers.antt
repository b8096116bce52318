use Rattle.std.proofs.Common.{◌≡◌, ◌∙◌, Option, ap, ap₂, true, rules, Some}
use Rattle.std.proofs.lemmas.Result.{IfOk-weaker}
use Rattle.std.specs.Option.{IsSomeAnd}
use Rattle.std.specs.Prelude.{None}
use Rattle.clap.specs.Lexer.{usize_max}
use Rattle.clap.specs.Walk.{Rule, rule_of}
use Rattle.clap.specs.Simple.{app_of, app_of_fields, on_top, with_rule}
use Rattle.clap.specs.declared.builder.action.ArgAction.TheVariants.{Append}
use Rattle.clap.specs.declared.builder.range.ValueRange.{ValueRange}
use Rattle.hp_words.specs.Command.{words_rule}
use Rattle.hp_words.proofs.reading.command.Goals as goal

some_same : (got : Option ValueRange) (range : ValueRange) → IsSomeAnd got (λ one. one ≡ range) → got ≡ Some range
some_same None range is = absurd is
some_same (Some one) range is = ap Some is

pub returns : goal.returns
returns c =
    let range : c.num_args-values.result.num_vals ≡ Some (record { start_inclusive = 0; end_inclusive = usize_max }) = some_same _ _ c.num_args-values.ensures.1 in
    let counted : rule_of c.num_args-values.result ≡ record (rule_of c.action.result) { range = c.num_args-values.result.num_vals } =
    ap rule_of c.num_args-values.ensures.0 in
    let acting : rule_of c.action.result ≡ record (rule_of c.new.result) { action = Some Append } = ap rule_of c.action.ensures in
    let rule : rule_of c.num_args-values.result ≡ words_rule =
    counted ∙ ap (λ (rule : Rule). record rule { range = c.num_args-values.result.num_vals }) (acting ∙ ap (λ (rule : Rule). record rule { action = Some Append }) c.new.ensures.rule)
    ∙ ap (λ (range : Option ValueRange). record words_rule { range = range }) range in
    let unnamed : app_of c.no_binary_name.result ≡ on_top (λ top. record top { no_binary_name = true }) (app_of c.new-2.result) = ap app_of_fields c.no_binary_name.ensures in
    let helpless : app_of c.disable_help_flag.result ≡ on_top (λ top. record top { disable_help_flag = true }) (app_of c.no_binary_name.result) =
    ap app_of_fields c.disable_help_flag.ensures in
    let app = helpless ∙ ap (on_top (λ top. record top { disable_help_flag = true })) (unnamed ∙ ap (on_top (λ top. record top { no_binary_name = true })) c.new-2.ensures.app) in
    IfOk-weaker c.arg.result _ _ (λ command adds. adds.shape (search rules) ∙ ap₂ with_rule app rule) c.arg.ensures
