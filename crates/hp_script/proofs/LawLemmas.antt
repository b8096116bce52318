-- The laws of lines, of readings that are joined, and of verbs.
use Rattle.std.proofs.Common.{◌≡◌, ℕ, ◌+◌, true, false, List, [], ◌∷◌, ◌++◌, length, map, refl, sym, ap, ◌∙◌, inl, inr, arith}
use Rattle.std.specs.Prelude.{Some, Result, Ok, Err, All}
use Rattle.std.proofs.lemmas.List.Splits.{slice_split_at}
use Rattle.hp_script.specs.Part.{Part}
use Rattle.hp_script.specs.Text.{is_separator, placed, parts_of, without_return, lines_in}
use Rattle.hp_script.specs.Makers.{Makers}
use Rattle.hp_script.specs.ShapeWords.Shapes.{is_participant_line, shape_of}
use Rattle.hp_script.specs.ShapeWords.Verbs.{verb_named}
use Rattle.hp_script.specs.ShapeWords.ActVerbs.{verb_of, verb_word}
use Rattle.hp_script.specs.Reading.{read_line}
use Rattle.hp_script.specs.Workloads.{go_on, read_further, read_from}
use Rattle.hp_script.specs.declared.bad_kind.BadKind.{BadKind}
use Rattle.hp_script.specs.declared.line.Act.{Act}
use Rattle.hp_script.specs.declared.line.Act.TheVariants as act
use Rattle.hp_script.specs.declared.reader.Reader.{Reader}
use Rattle.hp_script.specs.declared.shape.Shape.TheVariants.{Does}
use Rattle.hp_script.specs.declared.text.Separator.TheVariants.{Newline}
use Rattle.hp_script.proofs.ActLemmas.{shape_says, verb_made}

-- a line, a newline and a rest
pub lines_more : (base : ℕ × ℕ) (start : ℕ) (line rest : List ℕ) → All (λ byte. is_separator Newline byte ≡ false) line
    → lines_in (record { start = start; text = line ++ 10 ∷ rest; base = base })
    ≡ without_return (record { start = start; text = line; base = base }) ∷ lines_in (record { start = start + length line + 1; text = rest; base = base })
unfolding parts_of
lines_more base start line rest none =
    ap (λ parts. map without_return (placed base start parts)) (slice_split_at (is_separator Newline) line 10 rest none refl)

module _ (makers : Makers) where
  -- lines, and further ones
  pub read_joined : (read : Reader) (number : ℕ) (lines others : List Part)
      → read_from makers read number (lines ++ others) ≡ read_further (read_from makers read number lines) (λ more. read_from makers more (number + length lines) others)
  read_joined read number [] others = let count : number + 0 ≡ number = omega arith in rw count refl
  read_joined read number (line ∷ lines) others = step (read_line makers read number line) (λ more. read_joined more (number + 1) lines others)
    where
      count : number + 1 + length lines ≡ number + length (line ∷ lines)
      count = omega arith

      step : (answer : Result Reader BadKind)
          → ((more : Reader) → read_from makers more (number + 1) (lines ++ others) ≡ read_further (read_from makers more (number + 1) lines) (λ last. read_from makers last (number + 1 + length lines) others))
          → go_on answer number (λ more. read_from makers more (number + 1) (lines ++ others))
          ≡ read_further (go_on answer number (λ more. read_from makers more (number + 1) lines)) (λ last. read_from makers last (number + length (line ∷ lines)) others)
      step (Ok more) rest = rest more ∙ ap (λ (n : ℕ). read_further (read_from makers more (number + 1) lines) (λ last. read_from makers last n others)) count
      step (Err kind) rest = refl

-- the word of a verb is read as the verb
pub word_named : (start : ℕ) (base : ℕ × ℕ) (deed : Act) → verb_named (record { start = start; text = verb_word deed; base = base }) ≡ Some (verb_of deed)
unfolding verb_named
word_named start base (act.Alloc label size options) = refl
word_named start base (act.Free label) = refl
word_named start base (act.Resize label size) = refl
word_named start base (act.Zone name len options) = refl
word_named start base (act.Lookup name) = refl
word_named start base (act.Unzone name) = refl
word_named start base act.Attach = refl
word_named start base act.Detach = refl
word_named start base (act.Heap name) = refl
word_named start base (act.Unheap name) = refl
word_named start base (act.Add heap addr len page) = refl
word_named start base (act.Remove heap addr len) = refl
word_named start base (act.Map heap addr len) = refl
word_named start base (act.Unmap heap addr len) = refl
word_named start base (act.Watch name) = refl
word_named start base (act.Unwatch name) = refl
word_named start base (act.Limit name socket bytes allow) = refl
word_named start base (act.Unlimit name socket) = refl
word_named start base (act.Await other lines) = refl
word_named start base (act.Dump heap) = refl
word_named start base (act.Stats heap) = refl

-- an act that is read has the verb that its word names
pub verb_read : (first word : Part) (arguments : List Part) (party : ℕ) (deed : Act) → is_participant_line first ≡ true
    → shape_of (first ∷ word ∷ arguments) ≡ Ok (Does party deed) → verb_named word ≡ Some (verb_of deed)
verb_read first word arguments party deed digit shape =
    elim (shape_says first (word ∷ arguments) (Does party deed) shape) [
      | inl call ↦
          let same : call.1.word ≡ word = head_is call.1.word word call.1.arguments arguments (sym call.1.others_are) in
          ap verb_named (sym same) ∙ call.1.named ∙ ap (λ verb. Some verb) (sym (verb_made first call.1.verb call.1.arguments party deed call.1.says.0))
      | inr setup ↦ absurd setup.1
    ]
  where
    head_is : (one other : Part) (ones others : List Part) → one ∷ ones ≡ other ∷ others → one ≡ other
    head_is one other ones others same = cc
