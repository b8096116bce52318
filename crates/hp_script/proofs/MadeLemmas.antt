-- What lines of an accepted text free or resize, lines of the workload make.
use Rattle.std.proofs.Common.{◌≡◌, ℕ, ◌+◌, Bool, true, false, ◌&&◌, ◌||◌, List, [], ◌∷◌, ◌++◌, get_or, refl, sym, ap, ◌∙◌, cond, ◌⊎◌, inl, inr, arith}
use Rattle.std.specs.Prelude.{Option, Some, None, IsSome, Ok, IfOk, All, ⊤, is_some, is_none, nat_lt, codes, ◌==◌}
use Rattle.std.specs.List.{find, list_any}
use Rattle.std.specs.Option.{option_or, option_map_or}
use Rattle.std.proofs.lemmas.Bool.Decides.{nat_tests}
use Rattle.std.proofs.lemmas.List.Elements.{All-push}
use Rattle.std.proofs.lemmas.List.Folds.{find-append}
use Rattle.std.proofs.lemmas.Slice.Eq.{bytes_eq-Decides}
use Rattle.std.specs.Str.{bytes_eq}
use denote.Ref.{Bor}
use Rattle.hp_script.specs.Part.{Part, is_word}
use Rattle.hp_script.specs.Text.{lines_of, fields_of, is_call, is_skipped}
use Rattle.hp_script.specs.ShapeWords.Acts.{label_used, is_unknown}
use Rattle.hp_script.specs.Judge.{number_field, party_field}
use Rattle.hp_script.specs.ShapeWords.Options.{options_of}
use Rattle.hp_script.specs.Numbers.{number}
use Rattle.hp_script.specs.Labels.{name_made, makes_name, maker_of, AreMade}
use Rattle.hp_script.specs.Makers.{Makers, makers_of, made_by, is_maker, first_maker, is_unmade}
use Rattle.hp_script.specs.Setups.{nothing, setup_step}
use Rattle.hp_script.specs.ShapeWords.ShapesMemory.{alloc_line, zone_line}
use Rattle.hp_script.specs.ShapeWords.Shapes.{is_participant_line, participant_line, shape_of}
use Rattle.hp_script.specs.ShapeWords.Verbs.{verb_named}
use Rattle.hp_script.specs.Reading.{read_line}
use Rattle.hp_script.specs.Workloads.{read_from, reading_at}
use Rattle.hp_script.specs.declared.bad_kind.BadKind.TheVariants as bad
use Rattle.hp_script.specs.declared.line.Act.{Act}
use Rattle.hp_script.specs.declared.line.Act.TheVariants as act
use Rattle.hp_script.specs.declared.line.Line.{Line}
use Rattle.hp_script.specs.declared.verb.Verb.TheVariants as verb
use Rattle.hp_script.specs.declared.shape.Shape.{Shape}
use Rattle.hp_script.specs.declared.shape.Shape.TheVariants.{Setup, Does, Awaits}
use Rattle.hp_script.specs.declared.reader.Reader.{Reader}
use Rattle.hp_script.proofs.SpanLemmas.{KeepsLines, setup_keeps}
use Rattle.hp_script.proofs.StepLemmas.{through, passed, present, answered, Adds, read_line_says, going, along}

both : (first second : Bool) → (first && second) ≡ true → (first ≡ true) × (second ≡ true)
both true second is = (refl, is)
both false second is = absurd cc

-- lines make a name
abbrev Make : List Line → List ℕ → Type 0
Make lines name = IsSome (maker_of lines name)

still_some : {X : Type 0} (first second : Option X) → IsSome first → IsSome (option_or first second)
still_some None second some = absurd cc
still_some (Some x) second some = refl

-- lines and one more make what the lines make
make_more : (lines : List Line) (line : Line) (name : List ℕ) → Make lines name → Make (lines ++ line ∷ []) name
make_more lines line name makes =
    rw (find-append (makes_name name) lines (line ∷ [])) (still_some (find (makes_name name) lines) (find (makes_name name) (line ∷ [])) makes)

-- lines and one that makes a name make it
make_last : (lines : List Line) (line : Line) (name : List ℕ) → makes_name name line ≡ true → Make (lines ++ line ∷ []) name
make_last [] line name makes = rw makes refl
make_last (first ∷ lines) line name makes = chosen (makes_name name first) (make_last lines line name makes)
  where
    chosen : (test : Bool) → Make (lines ++ line ∷ []) name → IsSome (cond test (Some first) (find (makes_name name) (lines ++ line ∷ [])))
    chosen true rest = refl
    chosen false rest = rest

-- a line says an act that makes its label
abbrev pub SaysMade : Part → Shape → Type 0
SaysMade label (Does party deed) = name_made deed ≡ Some label
SaysMade label _ = ⊥

module _ (first word label : Part) (others : List Part) where
  alloc_made : IfOk (alloc_line first (label ∷ others)) (SaysMade label)
  unfolding alloc_line
  alloc_made = by_words others
    where
      by_words : (fields : List Part) → IfOk (alloc_line first (label ∷ fields)) (SaysMade label)
      by_words [] = tt
      by_words (n ∷ words) =
          through (party_field first) _ _ (λ party _.
          through (number_field n) _ _ (λ size _.
          present (options_of words) bad.Option _ _ (λ options _. refl)))

  pub zone_made : IfOk (zone_line first (label ∷ others)) (SaysMade label)
  unfolding zone_line
  zone_made = by_words others
    where
      by_words : (fields : List Part) → IfOk (zone_line first (label ∷ fields)) (SaysMade label)
      by_words [] = tt
      by_words (n ∷ words) =
          through (party_field first) _ _ (λ party _.
          through (number_field n) _ _ (λ len _.
          passed (nat_lt len 1) bad.Range _ _ (λ some.
          present (options_of words) bad.Option _ _ (λ options _. refl))))

  alloc_line_made : verb_named word ≡ Some verb.Alloc → IfOk (participant_line first (word ∷ label ∷ others)) (SaysMade label)
  unfolding participant_line
  alloc_line_made named = rw named alloc_made

  zone_line_made : verb_named word ≡ Some verb.Zone → IfOk (participant_line first (word ∷ label ∷ others)) (SaysMade label)
  unfolding participant_line
  zone_line_made named = rw named zone_made

alloc_named : (start : ℕ) (base : ℕ × ℕ) (text : List ℕ) → text ≡ codes "alloc" → verb_named (record { start = start; text = text; base = base }) ≡ Some verb.Alloc
unfolding verb_named
alloc_named start base text is = rw is refl

zone_named : (start : ℕ) (base : ℕ × ℕ) (text : List ℕ) → text ≡ codes "zone" → verb_named (record { start = start; text = text; base = base }) ≡ Some verb.Zone
unfolding verb_named
zone_named start base text is = rw is refl

-- a line makes a name by its fields
abbrev pub makes_by : List ℕ → Part → Bool
makes_by name line = is_maker (codes "alloc") name line || is_maker (codes "zone") name line

-- fields that make a name, and what they say
record MakesName (name : List ℕ) (fields : List Part) : Type 0 where
  first : Part
  word : Part
  label : Part
  others : List Part
  fields_are : fields ≡ first ∷ word ∷ label ∷ others
  digit : is_participant_line first ≡ true
  same : bytes_eq label.text name ≡ true
  named : (verb_named word ≡ Some verb.Alloc) ⊎ (verb_named word ≡ Some verb.Zone)

made_fields : (call name : List ℕ) (fields : List Part) → ((word : Part) → is_word call word ≡ true → (verb_named word ≡ Some verb.Alloc) ⊎ (verb_named word ≡ Some verb.Zone))
    → option_map_or (λ made. bytes_eq made name) (made_by call fields) false ≡ true → MakesName name fields
made_fields call name [] by_word makes = absurd cc
made_fields call name (first ∷ []) by_word makes = absurd cc
made_fields call name (first ∷ word ∷ []) by_word makes = absurd cc
made_fields call name (first ∷ word ∷ label ∷ others) by_word makes =
    chosen (is_participant_line first && is_word call word) refl makes
  where
    chosen : (test : Bool) → (is_participant_line first && is_word call word) ≡ test → option_map_or (λ made. bytes_eq made name) (cond test (Some label.text) None) false ≡ true
        → MakesName name (first ∷ word ∷ label ∷ others)
    chosen true is same =
        let parts = both (is_participant_line first) (is_word call word) is in
        record { first = first; word = word; label = label; others = others; fields_are = refl; digit = parts.0; same = same; named = by_word word parts.1 }
    chosen false is same = absurd cc

makes_fields : (name : List ℕ) (line : Part) → makes_by name line ≡ true → MakesName name (fields_of line)
makes_fields name line makes = chosen (is_maker (codes "alloc") name line) refl makes
  where
    chosen : (test : Bool) → is_maker (codes "alloc") name line ≡ test → (test || is_maker (codes "zone") name line) ≡ true → MakesName name (fields_of line)
    chosen true is either =
        made_fields (codes "alloc") name (fields_of line) (λ word named. inl (alloc_named word.start word.base word.text ((bytes_eq-Decides word.text (codes "alloc")).0 named))) is
    chosen false is either =
        made_fields (codes "zone") name (fields_of line) (λ word named. inr (zone_named word.start word.base word.text ((bytes_eq-Decides word.text (codes "zone")).0 named))) either

-- a line that is skipped is no participant line
skipped_no_call : (fields : List Part) → is_skipped fields ≡ true → is_call fields ≡ false
skipped_no_call [] skipped = refl
skipped_no_call (first ∷ others) skipped = hash (get_or first.text 0 0) skipped
  where
    hash : (byte : ℕ) → (byte == 35) ≡ true → is_call (record { start = 0; text = byte ∷ []; base = (0, 0) } ∷ []) ≡ false
    hash byte is = let same : byte ≡ 35 = grind (arith, nat_tests, is) in rw same refl

module _ (makers : Makers) (name : List ℕ) where
  -- what is said makes the name
  said_makes : (fields : List Part) (said : Shape) → MakesName name fields → shape_of fields ≡ Ok said → (label : Part) × (bytes_eq label.text name ≡ true) × SaysMade label said
  said_makes fields said makes shape =
      let line : shape_of (makes.first ∷ makes.word ∷ makes.label ∷ makes.others) ≡ Ok said = rw makes.fields_are at shape in
      let call : participant_line makes.first (makes.word ∷ makes.label ∷ makes.others) ≡ Ok said = rw makes.digit at line in (
        makes.label,
        makes.same,
        answered (SaysMade makes.label) (participant_line makes.first (makes.word ∷ makes.label ∷ makes.others)) said call
            (elim makes.named [
              | inl named ↦ alloc_line_made makes.first makes.word makes.label makes.others named
              | inr named ↦ zone_line_made makes.first makes.word makes.label makes.others named
            ]),
      )

  said_adds : (read more : Reader) (number : ℕ) (said : Shape) → Adds makers read number said more → (label : Part) → bytes_eq label.text name ≡ true → SaysMade label said → Make more.lines name
  said_adds read more number (Setup setup) adds label same says = absurd says
  said_adds read more number (Does party deed) adds label same says =
      let makes : option_map_or (λ made. bytes_eq made.text name) (name_made deed) false ≡ true = rw says same in
      rw adds.1.added (make_last read.lines (record { line = number; participant = party; act = deed }) name makes)
  said_adds read more number (Awaits party other k) adds label same says = absurd says

  -- a line that makes the name adds a line that makes it
  line_makes : (read more : Reader) (number : ℕ) (line : Part) → read_line makers read number line ≡ Ok more → makes_by name line ≡ true → Make more.lines name
  line_makes read more number line same makes =
      let by = makes_fields name line makes in
      elim (read_line_says makers read number line more same) [
        | inl skipped ↦
            let no : is_call (fields_of line) ≡ false = skipped_no_call (fields_of line) skipped.0 in
            let digit : is_participant_line by.first ≡ false = rw by.fields_are at no in
            absurd (let differ : true ≡ false = sym by.digit ∙ digit in cc)
        | inr says ↦
            let made = said_makes (fields_of line) says.1.said by says.1.shape in
            said_adds read more number says.1.said says.1.adds made.0 made.1 made.2
      ]

  kept_by : (read more : Reader) (number : ℕ) (said : Shape) → Adds makers read number said more → Make read.lines name → Make more.lines name
  kept_by read more number (Setup setup) adds before =
      let kept = answered (KeepsLines read) (setup_step read number setup) more adds.1 (setup_keeps read number setup) in
      rw kept before
  kept_by read more number (Does party deed) adds before = rw adds.1.added (make_more read.lines (record { line = number; participant = party; act = deed }) name before)
  kept_by read more number (Awaits party other k) adds before =
      rw adds.adds.added (make_more read.lines (record { line = number; participant = party; act = act.Await other k }) name before)

  -- what is made stays made
  line_keeps : (read more : Reader) (number : ℕ) (line : Part) → read_line makers read number line ≡ Ok more → Make read.lines name → Make more.lines name
  line_keeps read more number line same before =
      elim (read_line_says makers read number line more same) [
        | inl skipped ↦ rw skipped.1 before
        | inr says ↦ kept_by read more number says.1.said says.1.adds before
      ]

  -- a name that was made, or that one of the lines makes, is made in the end
  made_in_all : (lines : List Part) (read whole : Reader) (number : ℕ) → read_from makers read number lines ≡ Ok whole → Make read.lines name ⊎ (list_any (makes_by name) lines ≡ true) → Make whole.lines name
  made_in_all [] read whole number same (inl before) = let is : read ≡ whole = cc in rw (← is) before
  made_in_all [] read whole number same (inr some) = absurd cc
  made_in_all (line ∷ lines) read whole number same makes =
      let went = going (read_line makers read number line) number (λ more. read_from makers more (number + 1) lines) whole same in
      made_in_all lines went.0 whole (number + 1) went.2 (next went.0 went.1 makes)
    where
      chosen : (more : Reader) (test : Bool) → read_line makers read number line ≡ Ok more → makes_by name line ≡ test → (test || list_any (makes_by name) lines) ≡ true
          → Make more.lines name ⊎ (list_any (makes_by name) lines ≡ true)
      chosen more true step is some = inl (line_makes read more number line step is)
      chosen more false step is some = inr some

      next : (more : Reader) → read_line makers read number line ≡ Ok more → Make read.lines name ⊎ (list_any (makes_by name) (line ∷ lines) ≡ true) → Make more.lines name ⊎ (list_any (makes_by name) lines ≡ true)
      next more step (inl before) = inl (line_keeps read more number line step before)
      next more step (inr some) = chosen more (makes_by name line) step refl some

-- a name that has a first line is made by one of the lines
some_maker : (verb name : List ℕ) (lines : List Part) (number : ℕ) → is_some (first_maker verb lines number name) ≡ true → list_any (is_maker verb name) lines ≡ true
some_maker verb name [] number some = absurd cc
some_maker verb name (line ∷ lines) number some = chosen (is_maker verb name line) some (some_maker verb name lines (number + 1))
  where
    chosen : (test : Bool) → is_some (cond test (Some number) (first_maker verb lines (number + 1) name)) ≡ true
        → (is_some (first_maker verb lines (number + 1) name) ≡ true → list_any (is_maker verb name) lines ≡ true) → (test || list_any (is_maker verb name) lines) ≡ true
    chosen true some rest = refl
    chosen false some rest = rest some

first_of_two : (lines : List Part) (p q : Part → Bool) → list_any p lines ≡ true → list_any (λ line. p line || q line) lines ≡ true
first_of_two [] p q some = absurd cc
first_of_two (line ∷ lines) p q some = chosen (p line) (q line) some (first_of_two lines p q)
  where
    chosen : (one other : Bool) → (one || list_any p lines) ≡ true → (list_any p lines ≡ true → list_any (λ some. p some || q some) lines ≡ true)
        → ((one || other) || list_any (λ some. p some || q some) lines) ≡ true
    chosen true other some rest = refl
    chosen false true some rest = refl
    chosen false false some rest = rest some

second_of_two : (lines : List Part) (p q : Part → Bool) → list_any q lines ≡ true → list_any (λ line. p line || q line) lines ≡ true
second_of_two [] p q some = absurd cc
second_of_two (line ∷ lines) p q some = chosen (p line) (q line) some (second_of_two lines p q)
  where
    chosen : (one other : Bool) → (other || list_any q lines) ≡ true → (list_any q lines ≡ true → list_any (λ some. p some || q some) lines ≡ true)
        → ((one || other) || list_any (λ some. p some || q some) lines) ≡ true
    chosen true other some rest = refl
    chosen false true some rest = refl
    chosen false false some rest = rest some

-- a name that is not unmade is made by one of the lines of the text
not_unmade : (lines : List Part) (name : List ℕ) → is_unmade (makers_of lines) name ≡ false → list_any (makes_by name) lines ≡ true
not_unmade lines name made = chosen (first_maker (codes "alloc") lines 1 name) (first_maker (codes "zone") lines 1 name) refl refl made
  where
    chosen : (alloc zone : Option ℕ) → first_maker (codes "alloc") lines 1 name ≡ alloc → first_maker (codes "zone") lines 1 name ≡ zone → (is_none alloc && is_none zone) ≡ false
        → list_any (makes_by name) lines ≡ true
    chosen (Some n) zone is other made =
        first_of_two lines (is_maker (codes "alloc") name) (is_maker (codes "zone") name) (some_maker (codes "alloc") name lines 1 (ap is_some is))
    chosen None (Some n) is other made =
        second_of_two lines (is_maker (codes "alloc") name) (is_maker (codes "zone") name) (some_maker (codes "zone") name lines 1 (ap is_some other))
    chosen None None is other made = absurd cc

-- the text makes what a line frees or resizes
module _ (makers : Makers) where
  abbrev IsKnown : Line → Type 0
  IsKnown line = is_unknown makers line.act ≡ false

  said_known : (read more : Reader) (number : ℕ) (said : Shape) → Adds makers read number said more → All IsKnown read.lines → All IsKnown more.lines
  said_known read more number (Setup setup) adds before =
      let kept = answered (KeepsLines read) (setup_step read number setup) more adds.1 (setup_keeps read number setup) in
      rw kept before
  said_known read more number (Does party deed) adds before =
      rw adds.1.added (All-push IsKnown read.lines (record { line = number; participant = party; act = deed }) before adds.2)
  said_known read more number (Awaits party other k) adds before =
      rw adds.adds.added (All-push IsKnown read.lines (record { line = number; participant = party; act = act.Await other k }) before refl)

  line_known : (read more : Reader) (number : ℕ) (line : Part) → All IsKnown read.lines → ⊤ → read_line makers read number line ≡ Ok more → All IsKnown more.lines
  line_known read more number line before _ same =
      elim (read_line_says makers read number line more same) [
        | inl skipped ↦ rw skipped.1 before
        | inr says ↦ said_known read more number says.1.said says.1.adds before
      ]

used_made : (makers : Makers) (deed : Act) (label : Part) → is_unknown makers deed ≡ false → label_used deed ≡ Some label → is_unmade makers label.text ≡ false
used_made makers deed label known used = ap (λ (o : Option Part). option_map_or (λ l. is_unmade makers l.text) o false) (sym used) ∙ known

-- what lines of an accepted text free or resize, lines of the workload make
pub reading_made : (bytes : Bor (List ℕ)) (read : Reader) → reading_at bytes ≡ Ok read → AreMade read.lines
unfolding reading_at
reading_made bytes read same =
    let makers = makers_of (lines_of bytes) in
    let known = along makers (λ _ some. All (IsKnown makers) some.lines) (λ _ _. ⊤) (line_known makers) (lines_of bytes) nothing read 1 (λ i d within. tt) (λ k d within. absurd (omega (arith, within))) same in
    λ k d within label used.
    made_in_all makers label.text (lines_of bytes) nothing read 1 same
    (inr (not_unmade (lines_of bytes) label.text (used_made makers (get_or read.lines k d).act label (known k d within) used)))
