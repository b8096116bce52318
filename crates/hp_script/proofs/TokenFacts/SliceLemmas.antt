-- Slices of a text that rise, and how lines and fields are such.
use Rattle.std.proofs.Common.{◌≡◌, ℕ, ◌+◌, ◌-◌, ◌≤◌, Bool, true, false, List, [], ◌∷◌, ◌++◌, length, take, drop, get_or, map, refl, sym, ap, subst, ◌∙◌, cond, arith}
use Rattle.std.specs.Prelude.{filter, ◌==◌, if◌then◌else◌}
use Rattle.std.specs.List.{slice_split, onto_first}
use Rattle.std.proofs.lemmas.List.{length-take-le, length-drop, take-take, drop-drop, drop-take}
use Rattle.std.proofs.Math.Seq.{take-length}
use Rattle.std.proofs.Math.ListN.{take-append-drop}
use denote.Ref.{Bor}
use Rattle.hp_script.specs.Part.{Part, behind}
use Rattle.hp_script.specs.Text.{is_separator, placed, parts_of, lines_of, fields_of, is_filled, without_return}
use Rattle.hp_script.specs.declared.text.Separator.{Separator}
use Rattle.hp_script.specs.declared.text.Separator.TheVariants.{Newline, Blank}
use Rattle.hp_script.specs.Spans.{IsSlice, AreSlices}

pub lower : (bytes : Bor (List ℕ)) (a b to : ℕ) (parts : List Part) → a ≤ b → AreSlices bytes b to parts → AreSlices bytes a to parts
lower bytes a b to [] le slices = omega (arith, le, slices)
lower bytes a b to (part ∷ parts) le slices = (omega (arith, le, slices.0), slices.1, slices.2)

pub bounds : (bytes : Bor (List ℕ)) (a b : ℕ) (parts : List Part) → AreSlices bytes a b parts → a ≤ b
bounds bytes a b [] slices = slices
bounds bytes a b (part ∷ parts) slices =
    omega (arith, slices.0, bounds bytes (part.start + length part.text) b parts slices.2)

pub raise : (bytes : Bor (List ℕ)) (from a b : ℕ) (parts : List Part) → a ≤ b → AreSlices bytes from a parts → AreSlices bytes from b parts
raise bytes from a b [] le slices = omega (arith, le, slices)
raise bytes from a b (part ∷ parts) le slices =
    (slices.0, slices.1, raise bytes (part.start + length part.text) a b parts le slices.2)

-- slices without the first
pub skip : (bytes : Bor (List ℕ)) (a b : ℕ) (part : Part) (parts : List Part) → AreSlices bytes a b (part ∷ parts) → AreSlices bytes a b parts
skip bytes a b part parts slices = lower bytes a (part.start + length part.text) b parts (omega (arith, slices.0)) slices.2

-- slices, and then others
pub join : (bytes : Bor (List ℕ)) (a b c : ℕ) (parts others : List Part) → AreSlices bytes a b parts → AreSlices bytes b c others → AreSlices bytes a c (parts ++ others)
join bytes a b c [] others front back = lower bytes a b c others front back
join bytes a b c (part ∷ parts) others front back =
    (front.0, front.1, join bytes (part.start + length part.text) b c parts others front.2 back)

choose : (bytes : Bor (List ℕ)) (a b : ℕ) (test : Bool) (parts others : List Part) → AreSlices bytes a b parts → AreSlices bytes a b others → AreSlices bytes a b (cond test parts others)
choose bytes a b true parts others first second = first
choose bytes a b false parts others first second = second

-- some of the slices
filtered : (bytes : Bor (List ℕ)) (a b : ℕ) (test : Part → Bool) (parts : List Part) → AreSlices bytes a b parts → AreSlices bytes a b (filter test parts)
filtered bytes a b test [] slices = slices
filtered bytes a b test (part ∷ parts) slices =
    choose bytes a b (test part) (part ∷ filter test parts) (filter test parts)
    (slices.0, slices.1, filtered bytes (part.start + length part.text) b test parts slices.2)
    (filtered bytes a b test parts (skip bytes a b part parts slices))

-- the front of a slice
front_slice : (bytes : Bor (List ℕ)) (n : ℕ) (part : Part) → n ≤ length part.text → IsSlice bytes part
    → IsSlice bytes (record { start = part.start; text = take n part.text; base = part.base })
front_slice bytes n part within slice =
    let len : length (take n part.text) ≡ n = length-take-le n part.text within in
    record {
      within = rw len (omega (arith, slice.within));
      same = rw len (ap (take n) slice.same ∙ take-take n (length part.text) (drop part.start bytes.now) within);
      lent = slice.lent;
    }

-- what is after the front of a slice
pub behind_slice : (bytes : Bor (List ℕ)) (n : ℕ) (part : Part) → n ≤ length part.text → IsSlice bytes part → IsSlice bytes (behind n part)
behind_slice bytes n part within slice =
    let len : length (drop n part.text) ≡ length part.text - n = length-drop n part.text in
    let parts : length part.text ≡ n + (length part.text - n) = omega arith in
    record {
      within = rw len (omega (arith, slice.within));
      same = rw len (ap (drop n) slice.same ∙ ap (λ (k : ℕ). drop n (take k (drop part.start bytes.now))) parts
          ∙ drop-take n (length part.text - n) (drop part.start bytes.now) ∙ ap (take (length part.text - n)) (drop-drop n part.start bytes.now));
      lent = slice.lent;
    }

returned : (bytes : Bor (List ℕ)) (a b : ℕ) (parts : List Part) → AreSlices bytes a b parts → AreSlices bytes a b (map without_return parts)
returned bytes a b [] slices = slices
returned bytes a b (part ∷ parts) slices =
    let rest = returned bytes (part.start + length part.text) b parts slices.2 in
    let kept : IsSlice bytes (record { start = part.start; text = part.text; base = part.base }) = slices.1 in
    chosen (get_or part.text (length part.text - 1) 0 == 13) rest kept
  where
    chosen : (test : Bool) → AreSlices bytes (part.start + length part.text) b (map without_return parts) → IsSlice bytes (record { start = part.start; text = part.text; base = part.base })
        → AreSlices bytes a b (record { start = part.start; text = (if test then take (length part.text - 1) part.text else part.text); base = part.base } ∷ map without_return parts)
    chosen true rest kept =
        let shorter : length part.text - 1 ≤ length part.text = omega arith in
        let len : length (take (length part.text - 1) part.text) ≡ length part.text - 1 = length-take-le (length part.text - 1) part.text shorter in (
          slices.0,
          front_slice bytes (length part.text - 1) part shorter kept,
          lower bytes (part.start + length (take (length part.text - 1) part.text)) (part.start + length part.text) b (map without_return parts) (omega (arith, len)) rest,
        )
    chosen false rest kept = (slices.0, kept, rest)

-- the bytes from a place on
record Stands (bytes : Bor (List ℕ)) (at to : ℕ) (text back : List ℕ) : Type 0 where
  there : drop at bytes.now ≡ text ++ back
  end : at + length text ≡ to
  within : to ≤ length bytes.now

-- one byte further
further : (bytes : Bor (List ℕ)) (at to byte : ℕ) (text back : List ℕ) → Stands bytes at to (byte ∷ text) back → Stands bytes (at + 1) to text back
further bytes at to byte text back stands = record {
  there = sym (drop-drop 1 at bytes.now) ∙ ap (drop 1) stands.there;
  end = omega (arith, stands.end);
  within = stands.within;
}

empty_slice : (bytes : Bor (List ℕ)) (at : ℕ) → at ≤ length bytes.now → IsSlice bytes (record { start = at; text = []; base = bytes.ref_ptr })
empty_slice bytes at within = record { within = omega arith; same = refl; lent = refl }

-- a byte put before the first of the parts after it
onto : (bytes : Bor (List ℕ)) (at to byte : ℕ) (text back : List ℕ) (parts : List (List ℕ)) → Stands bytes at to (byte ∷ text) back
    → AreSlices bytes (at + 1) to (placed bytes.ref_ptr (at + 1) parts) → AreSlices bytes at to (placed bytes.ref_ptr at (onto_first byte parts))
onto bytes at to byte text back [] stands slices =
    (omega arith, record { within = omega (arith, stands.within, slices); same = sym (ap (take 1) stands.there); lent = refl }, slices)
onto bytes at to byte text back (part ∷ parts) stands slices =
    let more = further bytes at to byte text back stands in
    let place : at + 1 + length part ≡ at + length (byte ∷ part) = omega arith in
    let same : byte ∷ part ≡ take (length (byte ∷ part)) (drop at bytes.now) =
    ap (λ (r : List ℕ). byte ∷ r) (slices.1.same ∙ ap (take (length part)) more.there) ∙ sym (ap (take (length (byte ∷ part))) stands.there) in (
      omega arith,
      record { within = omega (arith, slices.1.within); same = same; lent = refl },
      subst (λ (k : ℕ). AreSlices bytes k to (placed bytes.ref_ptr (k + 1) parts)) place slices.2,
    )

-- the parts of what stands at a place are slices
split_slices : (test : ℕ → Bool) (bytes : Bor (List ℕ)) (at to : ℕ) (text back : List ℕ) → Stands bytes at to text back → AreSlices bytes at to (placed bytes.ref_ptr at (slice_split test text))
split_slices test bytes at to [] back stands =
    (omega arith, empty_slice bytes at (omega (arith, stands.end, stands.within)), omega (arith, stands.end))
split_slices test bytes at to (byte ∷ text) back stands =
    let more = further bytes at to byte text back stands in
    let rest = split_slices test bytes (at + 1) to text back more in
    chosen (test byte) rest
  where
    chosen : (b : Bool) → AreSlices bytes (at + 1) to (placed bytes.ref_ptr (at + 1) (slice_split test text)) → AreSlices bytes at to (placed bytes.ref_ptr at (cond b ([] ∷ slice_split test text) (onto_first byte (slice_split test text))))
    chosen true rest =
        let place : at + 1 ≡ at + 0 + 1 = omega arith in (
          omega arith,
          empty_slice bytes at (omega (arith, stands.end, stands.within)),
          lower bytes (at + 0) (at + 1) to (placed bytes.ref_ptr (at + 0 + 1) (slice_split test text)) (omega arith)
              (subst (λ (k : ℕ). AreSlices bytes (at + 1) to (placed bytes.ref_ptr k (slice_split test text))) place rest),
        )
    chosen false rest = onto bytes at to byte text back (slice_split test text) stands rest

-- the parts of a slice are slices
parts_slices : (separator : Separator) (bytes : Bor (List ℕ)) (whole : Part) → IsSlice bytes whole → AreSlices bytes whole.start (whole.start + length whole.text) (parts_of separator whole)
unfolding parts_of
parts_slices separator bytes whole slice =
    rw slice.lent (split_slices (is_separator separator) bytes whole.start (whole.start + length whole.text) whole.text (drop (length whole.text) (drop whole.start bytes.now))
    (record {
      there = sym (take-append-drop (length whole.text) (drop whole.start bytes.now)) ∙ ap (λ (r : List ℕ). r ++ drop (length whole.text) (drop whole.start bytes.now)) (sym slice.same);
      end = refl;
      within = slice.within;
    }))

-- the lines of a text are slices of it
pub lines_slices : (bytes : Bor (List ℕ)) → AreSlices bytes 0 (length bytes.now) (lines_of bytes)
unfolding lines_of
lines_slices bytes =
    let whole : Part = record { start = 0; text = bytes.now; base = bytes.ref_ptr } in
    let place : 0 + length bytes.now ≡ length bytes.now = omega arith in
    let all : IsSlice bytes whole = record { within = omega arith; same = sym (take-length bytes.now); lent = refl } in
    returned bytes 0 (length bytes.now) (parts_of Newline whole) (subst (λ (k : ℕ). AreSlices bytes 0 k (parts_of Newline whole)) place (parts_slices Newline bytes whole all))

-- the fields of a slice are slices
pub fields_slices : (bytes : Bor (List ℕ)) (line : Part) → IsSlice bytes line → AreSlices bytes line.start (line.start + length line.text) (fields_of line)
unfolding fields_of
fields_slices bytes line slice =
    filtered bytes line.start (line.start + length line.text) is_filled (parts_of Blank line) (parts_slices Blank bytes line slice)
