-- What clap gives of the words: their values, or that they have none.
use Rattle.std.proofs.Common.{◌≡◌, ◌∙◌, ap₂, ℕ, ◌≤◌, Bool, false, List, [], ◌∷◌, map, length, refl, sym, ap, subst, arith, Option, Some, None, codes, suc}
use Rattle.std.specs.Prelude.{is_some, option_and_then, nat_lt, string_bytes, String}
use Rattle.std.specs.List.{AllByRecursion}
use Rattle.std.specs.Str.{IsUtf8}
use Rattle.std.proofs.lemmas.Str.{IsUtf8-string_bytes}
use Rattle.std.proofs.lemmas.Bool.{le-ltb}
use Rattle.std.proofs.lemmas.Option.{none-some, same_Some}
use Rattle.clap.specs.Lexer.{usize_max}
use Rattle.clap.specs.Walk.{Text, Walk, all_of, finished, nothing_held, settled, walk}
use Rattle.clap.specs.Simple.{built, entered, matches_of}
use Rattle.clap.specs.Faults.{check_fault, defaults_fault, entered_fault, fault_of, settle_fault, walk_fault}
use Rattle.clap.specs.Kinds.{IsAmong, Kinds, or_else, range_kinds, values_kinds}
use Rattle.clap.specs.declared.builder.value_parser.ValueParser.TheVariants as vp
use Rattle.clap.specs.declared.error.kind.ErrorKind.{ErrorKind}
use Rattle.hp_words.specs.Command.{words_app}
use Rattle.hp_words.specs.Forms.{form_of, form_of_values, values_of}
use Rattle.hp_words.proofs.WalkLemmas.{Ends, behind, holding, shape, walk_ends}
use Rattle.hp_words.proofs.WalkLemmas.Ends.{refused, took}

-- the words of a program are text
pub all_text : {Z : Type 0} (words : List (String Z)) → AllByRecursion IsUtf8 (map string_bytes words)
all_text [] = tt
all_text (word ∷ words) = (IsUtf8-string_bytes word, all_text words)

-- ---- what is checked after the walk

in_range : (n : ℕ) → n ≤ usize_max → range_kinds 0 usize_max n ≡ []
in_range n few =
    let above : nat_lt n 0 ≡ false = le-ltb n 0 (omega arith) in
    let below : nat_lt usize_max n ≡ false = le-ltb usize_max n few in
    rw (above, below) refl

any_text : (values : List Text) → values_kinds false vp.String values ≡ []
any_text [] = refl
any_text (value ∷ values) = any_text values

abbrev after_walk : Walk → Kinds
after_walk place =
    or_else (entered_fault (built words_app) place.stopped)
    (or_else (settle_fault shape.rules false place.held)
    (or_else (defaults_fault (settled shape.rules place.held).rows shape.rules)
    (check_fault shape (finished shape.rules place.held) (is_some (entered (built words_app) place.stopped)))))

clean : (found : List Text) (dashes : Bool) → length found ≤ usize_max → after_walk (behind found dashes) ≡ []
unfolding defaults_fault
clean [] dashes few = refl
clean (value ∷ found) dashes few =
    ap (λ kinds. or_else kinds []) (ap₂ or_else (in_range (length (value ∷ found)) few) (any_text (value ∷ found)))

fault_is : (words : List Text) → fault_of words_app words ≡ or_else (walk_fault shape [] (behind [] false) words) (after_walk (walk shape.rules [] nothing_held words))
fault_is words = refl

-- ---- what is found

-- the values under the argument: none where there are none
abbrev pub given : List Text → Option (List Text)
given [] = None
given (value ∷ values) = Some (value ∷ values)

found_by : (found : List Text) → all_of (codes "words") (finished shape.rules (holding found)) ≡ given found
found_by [] = refl
found_by (value ∷ values) = refl

-- where no fault is possible the words have values, and these are found
pub record HasValues (words : List Text) : Type 0 where
  pub found : List Text
  pub values : values_of words ≡ Some found
  pub matches : all_of (codes "words") (matches_of words_app words) ≡ given found

values_when : (words : List Text) (values : Option (List Text)) → Ends [] words values → values_of words ≡ values → fault_of words_app words ≡ []
    → HasValues words
values_when words None (refused first more is) same none = absurd (never (sym (ap₂ or_else is refl) ∙ none))
  where
    never : or_else (first ∷ more) (after_walk (walk shape.rules [] nothing_held words)) ≡ [] → ⊥
    never bad = let long : suc (length more) ≡ 0 = ap length bad in omega arith
values_when words (Some _) (took found dashes is ends few) same none = record {
  found = found;
  values = same;
  matches = ap (λ (place : Walk). all_of (codes "words") (finished shape.rules place.held)) ends ∙ found_by found;
}

pub have_values : (words : List Text) → AllByRecursion IsUtf8 words → fault_of words_app words ≡ [] → HasValues words
have_values words valid none = values_when words (values_of words) (walk_ends [] words valid) refl none

-- where a fault comes they have none
none_when : (words : List Text) (values : Option (List Text)) → Ends [] words values → length words ≤ usize_max → (kind : ErrorKind)
    → IsAmong kind (fault_of words_app words) → values ≡ None
none_when words None ends few kind among = refl
none_when words (Some _) (took found dashes is ends short) few kind among =
    absurd (subst (IsAmong kind) (ap₂ or_else is (ap after_walk ends ∙ clean found dashes (omega (arith, short, few)))) among)

pub have_none : (words : List Text) → AllByRecursion IsUtf8 words → length words ≤ usize_max → (kind : ErrorKind)
    → IsAmong kind (fault_of words_app words) → values_of words ≡ None
have_none words valid few kind among = none_when words (values_of words) (walk_ends [] words valid) few kind among

-- ---- the form

given_some : (found values : List Text) → Some values ≡ given found → found ≡ values
given_some [] values is = absurd (none-some values (sym is))
given_some (value ∷ found) values is = sym (same_Some values (value ∷ found) is)

given_none : (found : List Text) → None ≡ given found → found ≡ []
given_none [] is = refl
given_none (value ∷ found) is = absurd (none-some (value ∷ found) is)

-- of values that were found
pub form_when : (words : List Text) → HasValues words → (values : List Text) → Some values ≡ all_of (codes "words") (matches_of words_app words)
    → form_of_values values ≡ form_of words
unfolding form_of
form_when words has values are =
    ap form_of_values (sym (given_some has.found values (are ∙ has.matches))) ∙ sym (ap (option_and_then form_of_values) has.values)

-- of no values
pub form_without : (words : List Text) → HasValues words → None ≡ all_of (codes "words") (matches_of words_app words) → None ≡ form_of words
unfolding form_of
form_without words has are = sym (ap (option_and_then form_of_values) has.values ∙ ap form_of_values (given_none has.found (are ∙ has.matches)))

-- of words that have none
pub form_none : (words : List Text) → values_of words ≡ None → None ≡ form_of words
unfolding form_of
form_none words none = sym (ap (option_and_then form_of_values) none)
