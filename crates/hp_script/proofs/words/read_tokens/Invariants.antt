use Rattle.std.proofs.Common.{◌≡◌, ◌++◌, ◌+◌, length, false}
use Rattle.std.specs.Prelude.{filter}
use Rattle.std.specs.List.{list_all, list_any}
use Rattle.std.specs.Option.{option_map_or}
use Rattle.hp_script.specs.Text.{parts_left, is_filled, is_plain, is_long, fields_of}
use Rattle.hp_script.specs.Words.{is_plain_rest}
use Rattle.hp_script.specs.declared.text.Separator.TheVariants.{Blank}
use Rattle.hp_script.proofs.words.read_tokens.Given as goal

-- the tokens so far and the fields that are left are those of the line
abbrev pub invariant-loop-rest : goal.invariant-loop-rest
invariant-loop-rest l = record {
  fields : l.tokens.items ++ filter is_filled (parts_left Blank l.rest) ≡ fields_of l.line;
  plain : list_all is_plain l.line.text ≡ is_plain_rest l.rest;
  short : list_any is_long l.tokens.items ≡ false;
}

abbrev pub decreases-loop-rest : goal.decreases-loop-rest
decreases-loop-rest l = option_map_or (λ rest. length rest.text + 1) l.rest 0
