-- What is read of a text does not depend on where it stands.
use Rattle.std.proofs.Common.{◌≡◌, ℕ, ◌+◌, Bool, true, false, ◌||◌, List, [], ◌∷◌, length, map, refl, ap, ◌∙◌, cond}
use Rattle.std.specs.Prelude.{Option, Result, Ok, Err, not, codes, filter}
use Rattle.std.specs.List.{list_any, list_all, slice_split}
use Rattle.std.specs.Option.{option_map_or}
use Rattle.std.specs.Str.{bytes_eq}
use denote.Ref.{Bor}
use Rattle.hp_script.specs.Part.{Part}
use Rattle.hp_script.specs.Text.{is_separator, placed, parts_of, without_return, lines_of, is_filled, fields_of, is_skipped, is_plain, is_long}
use Rattle.hp_script.specs.Words.{tokens_in}
use Rattle.hp_script.specs.Judge.{refuse}
use Rattle.hp_script.specs.Makers.{Makers, makers_of, made_by, is_maker, first_maker}
use Rattle.hp_script.specs.Setups.{nothing}
use Rattle.hp_script.specs.ShapeWords.Shapes.{shape_of}
use Rattle.hp_script.specs.Reading.{judged, read_line}
use Rattle.hp_script.specs.Workloads.{Refusal, go_on, read_from, reading_at, reading_of, IsRefusalOf}
use Rattle.hp_script.specs.declared.parse_fault.ParseFault.{ParseFault}
use Rattle.hp_script.specs.declared.parse_fault.ParseFault.TheVariants as parse_fault
use Rattle.hp_script.specs.declared.bad_kind.BadKind.{BadKind}
use Rattle.hp_script.specs.declared.bad_kind.BadKind.TheVariants as bad
use Rattle.hp_script.specs.declared.line.Line.{Line}
use Rattle.hp_script.specs.declared.text.Separator.TheVariants.{Newline, Blank}
use Rattle.hp_script.specs.declared.reader.Reader.{Reader}
use Rattle.hp_script.proofs.MakerLemmas.{same_makers}
use Rattle.hp_script.proofs.AlikeLemmas.{Alike, after, follow, SameShape, moved}
use Rattle.hp_script.proofs.MovedFacts.MovedShapes.{shape_moved}
use Rattle.hp_script.proofs.MovedFacts.MovedReads.{SameLines, SameRead, said_same}

module _ (base : ℕ × ℕ) where
  placed_moved : (own : ℕ × ℕ) (at : ℕ) (texts : List (List ℕ)) → placed base at texts ≡ map (moved base) (placed own at texts)
  placed_moved own at [] = refl
  placed_moved own at (text ∷ texts) = ap (λ (rest : List Part). record { start = at; text = text; base = base } ∷ rest) (placed_moved own (at + length text + 1) texts)

  filled_moved : (parts : List Part) → filter is_filled (map (moved base) parts) ≡ map (moved base) (filter is_filled parts)
  filled_moved [] = refl
  filled_moved (part ∷ parts) = chosen (is_filled part) (filled_moved parts)
    where
      chosen : (test : Bool) → filter is_filled (map (moved base) parts) ≡ map (moved base) (filter is_filled parts)
          → cond test (moved base part ∷ filter is_filled (map (moved base) parts)) (filter is_filled (map (moved base) parts)) ≡ map (moved base) (cond test (part ∷ filter is_filled parts) (filter is_filled parts))
      chosen true rest = ap (λ (others : List Part). moved base part ∷ others) rest
      chosen false rest = rest

  returned_moved : (parts : List Part) → map without_return (map (moved base) parts) ≡ map (moved base) (map without_return parts)
  returned_moved [] = refl
  returned_moved (part ∷ parts) = ap (λ (others : List Part). without_return (moved base part) ∷ others) (returned_moved parts)

  fields_moved : (line : Part) → fields_of (moved base line) ≡ map (moved base) (fields_of line)
  unfolding fields_of parts_of
  fields_moved line = ap (filter is_filled) (placed_moved line.base line.start (slice_split (is_separator Blank) line.text)) ∙ filled_moved (placed line.base line.start (slice_split (is_separator Blank) line.text))

  pub lines_moved : (bytes : Bor (List ℕ)) → lines_of (record { ref_ptr = base; now = bytes.now }) ≡ map (moved base) (lines_of bytes)
  unfolding lines_of parts_of
  lines_moved bytes = ap (map without_return) (placed_moved bytes.ref_ptr 0 (slice_split (is_separator Newline) bytes.now)) ∙ returned_moved (placed bytes.ref_ptr 0 (slice_split (is_separator Newline) bytes.now))

  long_moved : (parts : List Part) → list_any is_long (map (moved base) parts) ≡ list_any is_long parts
  long_moved [] = refl
  long_moved (part ∷ parts) = ap (λ (rest : Bool). is_long part || rest) (long_moved parts)

  skipped_moved : (fields : List Part) → is_skipped (map (moved base) fields) ≡ is_skipped fields
  skipped_moved [] = refl
  skipped_moved (first ∷ others) = refl

  made_moved : (call : List ℕ) (fields : List Part) → made_by call (map (moved base) fields) ≡ made_by call fields
  made_moved call [] = refl
  made_moved call (first ∷ []) = refl
  made_moved call (first ∷ word ∷ []) = refl
  made_moved call (first ∷ word ∷ name ∷ others) = refl

  maker_moved : (call name : List ℕ) (line : Part) → is_maker call name (moved base line) ≡ is_maker call name line
  maker_moved call name line = ap (λ (made : Option (List ℕ)). option_map_or (λ text. bytes_eq text name) made false) (ap (made_by call) (fields_moved line) ∙ made_moved call (fields_of line))

  first_moved : (call : List ℕ) (lines : List Part) (n : ℕ) (name : List ℕ) → first_maker call (map (moved base) lines) n name ≡ first_maker call lines n name
  first_moved call [] n name = refl
  first_moved call (line ∷ lines) n name = rw (maker_moved call name line, first_moved call lines (n + 1) name) refl

  makers_moved : (lines : List Part) → makers_of (map (moved base) lines) ≡ makers_of lines
  makers_moved lines = same_makers _ _ (λ name. first_moved (codes "alloc") lines 1 name) (λ name. first_moved (codes "zone") lines 1 name)

  tokens_moved : (line : Part) → Alike (λ tokens others. others ≡ map (moved base) tokens) (tokens_in line) (tokens_in (moved base line))
  unfolding tokens_in
  tokens_moved line =
      rw (fields_moved line, long_moved (fields_of line)) (
      after _ (refuse (not (list_all is_plain line.text)) bad.Byte) _ _ (λ plain.
      after (λ tokens others. others ≡ map (moved base) tokens) (refuse (list_any is_long (fields_of line)) bad.Long) _ _ (λ short. refl)))

  judged_moved : (makers : Makers) (read : Reader) (lines : List Line) (same : SameLines read.lines lines) (n : ℕ) (line : Part) → Alike SameRead (judged makers read n line) (judged makers (record read { lines = lines }) n (moved base line))
  unfolding judged
  judged_moved makers read lines same n line =
      follow (λ tokens others. others ≡ map (moved base) tokens) SameRead (tokens_in line) (tokens_in (moved base line)) _ _ (tokens_moved line) (λ tokens others are.
      rw are (
      follow SameShape SameRead (shape_of tokens) (shape_of (map (moved base) tokens)) _ _ (shape_moved base tokens) (λ said again alike.
      said_same makers read lines same n said again alike)))

  line_moved : (makers : Makers) (read : Reader) (lines : List Line) (same : SameLines read.lines lines) (n : ℕ) (line : Part) → Alike SameRead (read_line makers read n line) (read_line makers (record read { lines = lines }) n (moved base line))
  unfolding read_line
  line_moved makers read lines same n line =
      rw (fields_moved line, skipped_moved (fields_of line)) (
      chosen (is_skipped (fields_of line)))
    where
      chosen : (test : Bool) → Alike SameRead (cond test (Ok read) (judged makers read n line)) (cond test (Ok (record read { lines = lines })) (judged makers (record read { lines = lines }) n (moved base line)))
      chosen true = record { lines = lines; is = refl; same = same }
      chosen false = judged_moved makers read lines same n line

  going_on : (n : ℕ) (one two : Result Reader BadKind) (next other : Reader → Result Reader Refusal) → Alike SameRead one two → ((read again : Reader) → SameRead read again → Alike SameRead (next read) (other again))
      → Alike SameRead (go_on one n next) (go_on two n other)
  going_on n (Ok x) (Ok y) next other same alike = alike x y same
  going_on n (Ok x) (Err kind) next other same alike = absurd same
  going_on n (Err kind) (Ok y) next other same alike = absurd same
  going_on n (Err kind) (Err again) next other same alike = ap (λ (k : BadKind). record { line = n; kind = k }) same

  from_moved : (makers : Makers) (parts : List Part) (read : Reader) (lines : List Line) (same : SameLines read.lines lines) (n : ℕ) → Alike SameRead (read_from makers read n parts) (read_from makers (record read { lines = lines }) n (map (moved base) parts))
  from_moved makers [] read lines same n = record { lines = lines; is = refl; same = same }
  from_moved makers (part ∷ parts) read lines same n =
      going_on n (read_line makers read n part) (read_line makers (record read { lines = lines }) n (moved base part)) (λ more. read_from makers more (n + 1) parts) (λ more. read_from makers more (n + 1) (map (moved base) parts))
      (line_moved makers read lines same n part) (λ more again alike. rw alike.is (from_moved makers parts more alike.lines alike.same (n + 1)))

  -- a text is read alike wherever it stands
  pub reading_moved : (bytes : Bor (List ℕ)) → Alike SameRead (reading_at bytes) (reading_at (record { ref_ptr = base; now = bytes.now }))
  unfolding reading_at
  reading_moved bytes = rw (lines_moved bytes, makers_moved (lines_of bytes)) (from_moved (makers_of (lines_of bytes)) (lines_of bytes) nothing [] tt 1)

-- a refusal of a text is one wherever it stands
pub refused_anywhere : (bytes : Bor (List ℕ)) (fault : ParseFault) → IsRefusalOf (reading_at bytes) fault → IsRefusalOf (reading_of bytes.now) fault
refused_anywhere bytes parse_fault.OutOfMemory same = tt
refused_anywhere bytes (parse_fault.Bad line kind) same = refused (reading_at bytes) (reading_of bytes.now) (reading_moved (0, 0) bytes) same
  where
    refused : (one two : Result Reader Refusal) → Alike SameRead one two → one ≡ Err (record { line = line; kind = kind }) → two ≡ Err (record { line = line; kind = kind })
    refused (Ok x) two alike is = absurd cc
    refused (Err refusal) (Ok y) alike is = absurd alike
    refused (Err refusal) (Err other) alike is = let same : refusal ≡ record { line = line; kind = kind } = cc in ap (λ (some : Refusal). Err some) (alike ∙ same)

-- what is read of a text wherever it stands
pub record ReadAnywhere (bytes : List ℕ) (read : Reader) : Type 0 where
  pub nowhere : Reader
  pub whole : reading_of bytes ≡ Ok nowhere

pub read_anywhere : (bytes : Bor (List ℕ)) (read : Reader) → reading_at bytes ≡ Ok read → ReadAnywhere bytes.now read
read_anywhere bytes read same = alike (reading_at bytes) (reading_of bytes.now) refl (reading_moved (0, 0) bytes) same
  where
    alike : (one two : Result Reader Refusal) → reading_of bytes.now ≡ two → Alike SameRead one two → one ≡ Ok read → ReadAnywhere bytes.now read
    alike (Err refusal) two is both same = absurd cc
    alike (Ok x) (Err refusal) is both same = absurd both
    alike (Ok x) (Ok y) is both same = record { nowhere = y; whole = is }
