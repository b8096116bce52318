-- The participant lines of an accepted text: their numbers rise, their labels differ, and their sizes have 64 bits.
use Rattle.std.proofs.Common.{◌≡◌, ℕ, ◌+◌, ◌<◌, ◌≤◌, ◌^◌, Bool, true, false, ◌||◌, List, [], ◌∷◌, ◌++◌, get_or, refl, sym, ap, ◌∙◌, inl, inr, arith}
use Rattle.std.specs.Prelude.{Option, Some, Ok, All, is_some, codes}
use Rattle.std.specs.Option.{option_map_or}
use Rattle.std.proofs.lemmas.List.Elements.{All-push}
use Rattle.std.proofs.lemmas.List.Quantifiers.{all_pairs_push}
use Rattle.std.proofs.lemmas.Bool.Decides.{nat_tests}
use denote.Ref.{Bor}
use Rattle.hp_script.specs.Part.{Part}
use Rattle.hp_script.specs.Text.{lines_of, fields_of}
use Rattle.hp_script.specs.ShapeWords.Acts.{label_made, is_duplicate}
use Rattle.hp_script.specs.Lines.{act_size, size_of}
use Rattle.hp_script.specs.Limits.{MakeOtherLabels, MakeOtherNames, AreParticipantLines, zone_reserved}
use Rattle.hp_script.specs.Makers.{Makers, makers_of, is_maker, is_taken, is_earlier}
use Rattle.hp_script.specs.Setups.{nothing, setup_step}
use Rattle.hp_script.specs.ShapeWords.Shapes.{is_participant_line, shape_of}
use Rattle.hp_script.specs.Reading.{read_line}
use Rattle.hp_script.specs.Workloads.{reading_at}
use Rattle.hp_script.specs.declared.line.Act.{Act}
use Rattle.hp_script.specs.declared.line.Act.TheVariants as act
use Rattle.hp_script.specs.declared.line.Line.{Line}
use Rattle.hp_script.specs.declared.shape.Shape.{Shape}
use Rattle.hp_script.specs.declared.shape.Shape.TheVariants.{Setup, Does, Awaits}
use Rattle.hp_script.specs.declared.verb.Verb.{Verb}
use Rattle.hp_script.specs.declared.verb.Verb.TheVariants.{Alloc}
use Rattle.hp_script.specs.declared.reader.Reader.{Reader}
use Rattle.hp_script.proofs.SpanLemmas.{KeepsLines, setup_keeps}
use Rattle.hp_script.proofs.ActLemmas.{IsMadeBy, IsCall, shape_says}
use Rattle.hp_script.proofs.LabelLemmas.{IsMadeUpTo, alloc_word, label_maker, maker_known}
use Rattle.hp_script.proofs.ZoneLemmas.{zone_maker}
use Rattle.hp_script.proofs.StepLemmas.{answered, AddsLine, Adds, read_line_says, along}

module _ (makers : Makers) where
  -- the label of a line is known to be made there or before
  abbrev IsKnown : Line → Type 0
  IsKnown line = (label : Part) → label_made line.act ≡ Some label → IsMadeUpTo makers.alloc_line label.text line.line

  -- the name of a memzone is known to be one, and a label is not
  abbrev IsZoned : Line → Type 0
  IsZoned line = (name : Part) → zone_reserved line.act ≡ Some name → is_some (makers.zone_line name.text) ≡ true

  abbrev IsUnzoned : Line → Type 0
  IsUnzoned line = (label : Part) → label_made line.act ≡ Some label → is_some (makers.zone_line label.text) ≡ false

  -- so the two differ
  names_apart : (lines : List Line) → All IsZoned lines → All IsUnzoned lines → All (λ line. All (MakeOtherNames line) lines) lines
  names_apart lines zoned unzoned = λ k d within. λ i e below. λ label name made reserved same.
      absurd (let differ : true ≡ false =
      sym (zoned i e below name reserved) ∙ ap (λ (text : List ℕ). is_some (makers.zone_line text)) (sym same) ∙ unzoned k d within label made in cc)

  -- the lines that were read stand before a number
  record HasLines (number : ℕ) (read : Reader) : Type 0 where
    some : 1 ≤ number
    keeps : AreParticipantLines read.lines
    before : All (λ line. line.line < number) read.lines
    known : All IsKnown read.lines
    zoned : All IsZoned read.lines
    unzoned : All IsUnzoned read.lines

  -- what a line with an act needs beside its number
  record IsNext (number : ℕ) (deed : Act) : Type 0 where
    fits : act_size deed < 2 ^ 64
    known : (label : Part) → label_made deed ≡ Some label → IsMadeUpTo makers.alloc_line label.text number
    zoned : (name : Part) → zone_reserved deed ≡ Some name → is_some (makers.zone_line name.text) ≡ true
    once : is_duplicate makers number deed ≡ false

  first_false : (some other : Bool) → (some || other) ≡ false → some ≡ false
  first_false true other both = absurd cc
  first_false false other both = refl

  second_false : (some other : Bool) → (some || other) ≡ false → other ≡ false
  second_false true other both = absurd cc
  second_false false other both = both

  -- a label that is made before is taken
  other_labels : (number : ℕ) (deed : Act) (line : Line) → IsNext number deed → line.line < number → IsKnown line → (party : ℕ) → MakeOtherLabels line (record { line = number; participant = party; act = deed })
  other_labels number deed line next before known party = λ label second made makes same.
      let free : is_taken makers number second.text ≡ false = ap (λ (o : Option Part). option_map_or (λ l. is_taken makers number l.text) o false) (sym makes) ∙ next.once in
      let not_earlier = second_false (is_some (makers.zone_line second.text)) (is_earlier (makers.alloc_line second.text) number) free in
      let earlier = known label made in
      let found : makers.alloc_line second.text ≡ Some earlier.first = ap makers.alloc_line (sym same) ∙ earlier.made in
      let late : is_earlier (Some earlier.first) number ≡ false = ap (λ (o : Option ℕ). is_earlier o number) (sym found) ∙ not_earlier in
      absurd (grind (arith, nat_tests, late, earlier.before, before))

  -- a label that a memzone has for its name is taken
  next_unzoned : (number party : ℕ) (deed : Act) → IsNext number deed → IsUnzoned (record { line = number; participant = party; act = deed })
  next_unzoned number party deed next = λ label makes.
      let free : is_taken makers number label.text ≡ false = ap (λ (o : Option Part). option_map_or (λ l. is_taken makers number l.text) o false) (sym makes) ∙ next.once in
      first_false (is_some (makers.zone_line label.text)) (is_earlier (makers.alloc_line label.text) number) free

  -- one line more
  with_next : (read more : Reader) (number party : ℕ) (deed : Act) → HasLines number read → IsNext number deed → AddsLine read number party deed more → HasLines (number + 1) more
  with_next read more number party deed has next adds =
      let line : Line = record { line = number; participant = party; act = deed } in
      let zoned = All-push IsZoned read.lines line has.zoned next.zoned in
      let unzoned = All-push IsUnzoned read.lines line has.unzoned (next_unzoned number party deed next) in
      rw adds.added (record {
        some = omega arith;
        keeps = record {
          numbered = All-push (λ line. 1 ≤ line.line) read.lines line has.keeps.numbered has.some;
          rising = all_pairs_push (λ first other. first.line < other.line) read.lines line has.keeps.rising has.before;
          distinct = all_pairs_push MakeOtherLabels read.lines line has.keeps.distinct (λ k d within. other_labels number deed (get_or read.lines k d) next (has.before k d within) (has.known k d within) party);
          apart = names_apart (read.lines ++ line ∷ []) zoned unzoned;
          sizes = All-push (λ line. size_of line < 2 ^ 64) read.lines line has.keeps.sizes next.fits;
        };
        before = All-push (λ line. line.line < number + 1) read.lines line (λ k d within. omega (arith, has.before k d within)) (omega arith);
        known = All-push IsKnown read.lines line has.known next.known;
        zoned = zoned;
        unzoned = unzoned;
      })

  -- no line more
  kept_lines : (read more : Reader) (number : ℕ) → HasLines number read → more.lines ≡ read.lines → HasLines (number + 1) more
  kept_lines read more number has same = record {
    some = omega arith;
    keeps = rw same has.keeps;
    before = rw same (λ k d within. omega (arith, has.before k d within));
    known = rw same has.known;
    zoned = rw same has.zoned;
    unzoned = rw same has.unzoned;
  }

  -- the labels and names of a line, where it makes some
  abbrev AreKnown : ℕ → Part → Type 0
  AreKnown number line =
      ((name : List ℕ) → is_maker (codes "alloc") name line ≡ true → IsMadeUpTo makers.alloc_line name number)
      × ((name : List ℕ) → is_maker (codes "zone") name line ≡ true → IsMadeUpTo makers.zone_line name number)

  act_fits : (p : Part) (verb : Verb) (arguments : List Part) (party : ℕ) (deed : Act) → IsMadeBy p verb arguments party deed → act_size deed < 2 ^ 64
  act_fits p verb arguments party (act.Alloc label size options) is = is.fits
  act_fits p verb arguments party _ is = omega arith

  -- what makes a label is `alloc`, with the label in its place
  record IsMaking (verb : Verb) (arguments : List Part) (label : Part) : Type 0 where
    verb_is : verb ≡ Alloc
    others : List Part
    arguments_are : arguments ≡ label ∷ others

  act_makes : (p : Part) (verb : Verb) (arguments : List Part) (party : ℕ) (deed : Act) → IsMadeBy p verb arguments party deed → (label : Part) → label_made deed ≡ Some label → IsMaking verb arguments label
  act_makes p verb arguments party (act.Alloc made size options) is label same =
      let labels : made ≡ label = cc in
      record { verb_is = is.verb_is; others = is.size_field ∷ is.words; arguments_are = is.arguments_are ∙ ap (λ some. some ∷ is.size_field ∷ is.words) labels }
  act_makes p verb arguments party _ is label same = absurd cc

  -- what fields say is a next line
  call_next : (number : ℕ) (line first : Part) (others : List Part) (party : ℕ) (deed : Act) → fields_of line ≡ first ∷ others → is_participant_line first ≡ true → IsCall first others (Does party deed)
      → shape_of (first ∷ others) ≡ Ok (Does party deed) → AreKnown number line → is_duplicate makers number deed ≡ false → IsNext number deed
  call_next number line first others party deed fields digit call shape names once = record {
    fits = act_fits first call.verb call.arguments party deed call.says.0;
    known = λ label made.
        let making = act_makes first call.verb call.arguments party deed call.says.0 label made in
        let word = alloc_word call.word (call.named ∙ ap (λ verb. Some verb) making.verb_is) in
        let all : fields_of line ≡ first ∷ call.word ∷ label ∷ making.others = fields ∙ ap (λ some. first ∷ some) (call.others_are ∙ ap (λ some. call.word ∷ some) making.arguments_are) in
        names.0 label.text (label_maker (codes "alloc") line first call.word label making.others all digit word);
    zoned = λ zone reserved. ap is_some (names.1 zone.text (zone_maker line first others party deed fields digit call shape zone reserved)).made;
    once = once;
  }

  said_lines : (read more : Reader) (number : ℕ) (line : Part) (fields : List Part) (said : Shape) → fields_of line ≡ fields → HasLines number read → AreKnown number line
      → shape_of fields ≡ Ok said → Adds makers read number said more → HasLines (number + 1) more
  said_lines read more number line fields (Setup setup) is has names shape adds =
      kept_lines read more number has (answered (KeepsLines read) (setup_step read number setup) more adds.1 (setup_keeps read number setup))
  said_lines read more number line [] (Does party deed) is has names shape adds = absurd cc
  said_lines read more number line (first ∷ others) (Does party deed) is has names shape adds =
      elim (shape_says first others (Does party deed) shape) [
        | inl call ↦ with_next read more number party deed has (call_next number line first others party deed is call.0 call.1 shape names adds.0) adds.1
        | inr setup ↦ absurd setup.1
      ]
  said_lines read more number line fields (Awaits party other k) is has names shape adds =
      with_next read more number party (act.Await other k) has (record { fits = omega arith; known = λ label made. absurd cc; zoned = λ name reserved. absurd cc; once = refl }) adds.adds

  line_lines : (read more : Reader) (number : ℕ) (line : Part) → HasLines number read → AreKnown number line → read_line makers read number line ≡ Ok more → HasLines (number + 1) more
  line_lines read more number line has names same =
      elim (read_line_says makers read number line more same) [
        | inl skipped ↦ kept_lines read more number has (ap (λ (some : Reader). some.lines) skipped.1)
        | inr says ↦ said_lines read more number line (fields_of line) says.1.said refl has names says.1.shape says.1.adds
      ]

-- the participant lines of an accepted text
pub reading_lines : (bytes : Bor (List ℕ)) (read : Reader) → reading_at bytes ≡ Ok read → AreParticipantLines read.lines
unfolding reading_at
reading_lines bytes read same =
    (along makers (HasLines makers) (AreKnown makers) (line_lines makers) lines nothing read 1 (λ i d within. (
      λ name makes. maker_known (codes "alloc") lines 1 i d name within makes,
      λ name makes. maker_known (codes "zone") lines 1 i d name within makes,
    )) none same).keeps
  where
    lines : List Part
    lines = lines_of bytes

    makers : Makers
    makers = makers_of lines

    none : HasLines makers 1 nothing
    none = record {
      some = omega arith;
      keeps = record {
        numbered = λ k d within. absurd (omega (arith, within));
        rising = λ i j d before within. absurd (omega (arith, within));
        distinct = λ i j d before within. absurd (omega (arith, within));
        apart = λ k d within. absurd (omega (arith, within));
        sizes = λ k d within. absurd (omega (arith, within));
      };
      before = λ k d within. absurd (omega (arith, within));
      known = λ k d within. absurd (omega (arith, within));
      zoned = λ k d within. absurd (omega (arith, within));
      unzoned = λ k d within. absurd (omega (arith, within));
    }
