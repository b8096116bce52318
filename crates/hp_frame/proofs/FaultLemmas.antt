-- What the checks of a text say of its parts, and that a frame passes them.
use Rattle.std.proofs.Common.{◌≡◌, ℕ, ◌+◌, ◌-◌, ◌<◌, ◌≤◌, Bool, true, false, not, cond, ltb, eqb, List, ◌∷◌, ◌++◌, length, get_or, drop, Option, Some, None, All, refl, sym, ap, ◌∙◌, length-append, length-drop, arith, le_refl}
use Rattle.std.specs.Prelude.{is_none, slice_range}
use Rattle.std.specs.Option.{option_map, option_or}
use Rattle.std.specs.Char.{IsAsciiGraphic, is_ascii_graphic}
use Rattle.std.specs.List.{position_or_len}
use Rattle.std.specs.Int.{w16, to_le_bytes}
use Rattle.std.proofs.lemmas.Bool.{ltb-false, le-ltb, eqb-true}
use Rattle.std.proofs.lemmas.List.{take_at, take_all, drop_at, drop-drop}
use Rattle.std.proofs.lemmas.List.Sums.{fails_before_first, position_or_len_is}
use Rattle.hp_base.specs.Names.{IsNameText}
use Rattle.hp_frame.specs.declared.kind.Kind.{Kind}
use Rattle.hp_frame.specs.declared.kind.Kind.TheVariants as kinds
use Rattle.hp_frame.specs.declared.fault.Fault.{Fault}
use Rattle.hp_frame.specs.declared.fault.Fault.TheVariants as faults
use Rattle.hp_frame.specs.declared.message.Body.{Body}
use Rattle.hp_frame.specs.declared.message.Body.TheVariants.{Alloc, Free, Sync, Answer}
use Rattle.hp_frame.specs.Spelling.{kind_of, byte_of, kind_with_byte, param_len_of, param_of, HasFieldValues}
use Rattle.hp_frame.specs.FirstFault.{param_len, whole_len, name_in, param_in, is_no_name_len, bad_param_byte, bad_name_byte, bad_place, bad_place_in, first_fault}

-- ---- names

graphic : (c : ℕ) → not (is_ascii_graphic c) ≡ false → IsAsciiGraphic c
graphic c e = grind arith

not_graphic : (c : ℕ) → IsAsciiGraphic c → not (is_ascii_graphic c) ≡ false
not_graphic c h = grind arith

at_none : (n len : ℕ) → cond (ltb n len) (Some n) None ≡ None → len ≤ n
at_none n len e = ltb-false n len (grind arith)

-- a name without a bad byte is visible ASCII
pub is_visible : (name : List ℕ) → bad_name_byte name ≡ None → All IsAsciiGraphic name
is_visible name e k d lt =
    let test : ℕ → Bool = λ c. not (is_ascii_graphic c) in
    let all : length name ≤ position_or_len test name = at_none (position_or_len test name) (length name) e in
    graphic (get_or name k d) (fails_before_first test name k d (omega arith))

pub has_no_bad_byte : (name : List ℕ) → All IsAsciiGraphic name → bad_name_byte name ≡ None
has_no_bad_byte name h =
    let test : ℕ → Bool = λ c. not (is_ascii_graphic c) in
    let all : position_or_len test name ≡ length name = position_or_len_is test name (length name) 0 (le_refl (length name)) (λ k lt. not_graphic (get_or name k 0) (h k 0 lt)) (λ lt. absurd (omega arith)) in
    rw (all, le-ltb (length name) (length name) (le_refl (length name))) refl

-- ---- parameters

-- the fields have their values where no byte of the parameter is bad
pub has_field_values : (b : Body) → bad_param_byte (kind_of b) (param_of b) ≡ None → HasFieldValues b
has_field_values (Alloc from number heap socket page size align bound flags) e = grind arith
has_field_values (Free from number heap address len) e = grind arith
has_field_values (Sync generation round) e = grind arith
has_field_values (Answer from number what code) e = grind arith

pub no_bad_param_byte : (b : Body) → HasFieldValues b → bad_param_byte (kind_of b) (param_of b) ≡ None
no_bad_param_byte (Alloc from number heap socket page size align bound flags) h = grind arith
no_bad_param_byte (Free from number heap address len) h = grind arith
no_bad_param_byte (Sync generation round) h = grind arith
no_bad_param_byte (Answer from number what code) h = grind arith

-- ---- places

-- what is known where no place is bad
pub record HasGoodPlaces (kind : Kind) (name param : List ℕ) : Type 0 where
  pub param_len : length param ≡ param_len_of kind
  pub name_bytes : bad_name_byte name ≡ None
  pub param_bytes : bad_param_byte kind param ≡ None

map_none : (o : Option ℕ) (f : ℕ → ℕ) → option_map f o ≡ None → o ≡ None
map_none None f e = refl
map_none (Some x) f e = absurd cc

or_none : (o p : Option ℕ) → option_or o p ≡ None → (o ≡ None) × (p ≡ None)
or_none None p e = (refl, e)
or_none (Some x) p e = absurd cc

test_none : (b : Bool) (x : ℕ) (o : Option ℕ) → cond (not b) (Some x) o ≡ None → (b ≡ true) × (o ≡ None)
test_none true x o e = (refl, e)
test_none false x o e = absurd cc

pub has_good_places : (kind : Kind) (name param : List ℕ) → bad_place kind name param ≡ None → HasGoodPlaces kind name param
has_good_places kind name param e =
    let t = test_none (eqb (length param) (param_len_of kind)) 2 (option_or (option_map (λ i. 4 + i) (bad_name_byte name)) (option_map (λ i. 4 + length name + i) (bad_param_byte kind param))) e in
    let p = or_none (option_map (λ i. 4 + i) (bad_name_byte name)) (option_map (λ i. 4 + length name + i) (bad_param_byte kind param)) t.1 in
    record {
      param_len = eqb-true _ _ t.0;
      name_bytes = map_none (bad_name_byte name) (λ i. 4 + i) p.0;
      param_bytes = map_none (bad_param_byte kind param) (λ i. 4 + length name + i) p.1;
    }

-- ---- whole texts

-- a range up to the end is what is left
pub range-to_end : (text : List ℕ) (i j : ℕ) → j ≡ length text → slice_range text i j ≡ drop i text
range-to_end text i j end = take_all (j - i) (drop i text) (omega (arith, end, length-drop i text))

-- a frame of that kind with these parts
abbrev pub framed : Kind → List ℕ → List ℕ → List ℕ
framed kind name param = byte_of kind ∷ length name ∷ to_le_bytes w16 (param_len_of kind) ++ (name ++ param)

kind_again : (kind : Kind) → kind_with_byte (byte_of kind) ≡ Some kind
kind_again kinds.Alloc = refl
kind_again kinds.Free = refl
kind_again kinds.Sync = refl
kind_again kinds.Answer = refl

param_len_again : (kind : Kind) (name param : List ℕ) → param_len (framed kind name param) ≡ param_len_of kind
param_len_again kinds.Alloc name param = refl
param_len_again kinds.Free name param = refl
param_len_again kinds.Sync name param = refl
param_len_again kinds.Answer name param = refl

short_param : (kind : Kind) → param_len_of kind ≤ 256
short_param kinds.Alloc = omega arith
short_param kinds.Free = omega arith
short_param kinds.Sync = omega arith
short_param kinds.Answer = omega arith

is_name_len : (n : ℕ) → 0 < n → n ≤ 63 → is_no_name_len n ≡ false
is_name_len n some short = grind arith

-- a check that finds nothing
passes : (b : Bool) (fault others : Option Fault) → b ≡ false → others ≡ None → cond b fault others ≡ None
passes true fault others e none = absurd cc
passes false fault others e none = none

no_bad_place : (kind : Kind) (name param : List ℕ) → HasGoodPlaces kind name param → bad_place kind name param ≡ None
no_bad_place kind name param h =
    let same : eqb (length param) (param_len_of kind) ≡ true = grind (arith, h.param_len) in
    rw (same, h.name_bytes, h.param_bytes) refl

-- a frame whose places are good has no fault
pub framed_no_fault : (kind : Kind) (name param : List ℕ) → IsNameText name → HasGoodPlaces kind name param → first_fault (framed kind name param) ≡ None
framed_no_fault kind name param text h =
    let len : length (framed kind name param) ≡ 4 + length name + param_len_of kind = omega (arith, length-append name param, h.param_len) in
    let whole : whole_len (framed kind name param) ≡ 4 + length name + param_len_of kind = rw (param_len_again kind name param) in
    let name_is : name_in (framed kind name param) ≡ name = take_at name param (4 + length name - 4) (omega arith) in
    let behind : drop (4 + length name) (framed kind name param) ≡ param = sym (drop-drop (length name) 4 (framed kind name param)) ∙ drop_at name param (length name) refl in
    let param_is : param_in (framed kind name param) ≡ param = range-to_end (framed kind name param) (4 + length name) (whole_len (framed kind name param)) (omega (arith, len, whole)) ∙ behind in
    let t1 : ltb (length (framed kind name param)) 4 ≡ false = le-ltb _ _ (omega (arith, len)) in
    let t4 : ltb 256 (param_len (framed kind name param)) ≡ false = le-ltb _ _ (omega (arith, param_len_again kind name param, short_param kind)) in
    let t5 : ltb (length (framed kind name param)) (whole_len (framed kind name param)) ≡ false = le-ltb _ _ (omega (arith, len, whole)) in
    let t6 : ltb (whole_len (framed kind name param)) (length (framed kind name param)) ≡ false = le-ltb _ _ (omega (arith, len, whole)) in
    let places : bad_place_in (framed kind name param) ≡ None = rw (kind_again kind, name_is, param_is) (no_bad_place kind name param h) in
    let t2 : is_none (kind_with_byte (byte_of kind)) ≡ false = ap (λ (k : Option Kind). is_none k) (kind_again kind) in
    let t3 = is_name_len (length name) text.some text.short in
    passes _ _ _ t1 (passes _ _ _ t2 (passes _ _ _ t3 (passes _ _ _ t4 (passes _ _ _ t5 (passes _ _ _ t6
    (ap (λ (place : Option ℕ). option_map faults.Field place) places))))))
