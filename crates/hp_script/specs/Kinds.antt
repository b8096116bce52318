-- The words of the kinds of refusal.
use Rattle.std.specs.Prelude.{ℕ, List, codes}
use Rattle.hp_script.specs.declared.bad_kind.BadKind.{BadKind}
use Rattle.hp_script.specs.declared.bad_kind.BadKind.TheVariants as bad

-- the word that stands for a kind
abbrev pub kind_word : BadKind → List ℕ
kind_word bad.Byte = codes "Byte"
kind_word bad.Long = codes "Long"
kind_word bad.Verb = codes "Verb"
kind_word bad.Fields = codes "Fields"
kind_word bad.Number = codes "Number"
kind_word bad.Range = codes "Range"
kind_word bad.Option = codes "Option"
kind_word bad.Order = codes "Order"
kind_word bad.Duplicate = codes "Duplicate"
kind_word bad.Unknown = codes "Unknown"
kind_word bad.Ahead = codes "Ahead"
kind_word bad.Limit = codes "Limit"
