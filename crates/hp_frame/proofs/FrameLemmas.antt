-- A frame has no fault, and a text that passes the checks is a frame.
use Rattle.std.proofs.Common.{◌≡◌, ℕ, zero, suc, ◌+◌, ◌-◌, ◌<◌, ◌≤◌, false, List, [], ◌∷◌, ◌++◌, length, get_or, take, drop, Some, None, refl, sym, ap, ◌∙◌, length-take, length-drop, take-append-drop, arith}
use Rattle.std.specs.Prelude.{slice_range}
use Rattle.std.specs.Int.{w16, to_le_bytes}
use Rattle.std.proofs.lemmas.List.{drop_at, drop-drop}
use Rattle.std.proofs.lemmas.Nat.{le_bytes_2}
use Rattle.hp_frame.specs.declared.kind.Kind.{Kind}
use Rattle.hp_frame.specs.declared.kind.Kind.TheVariants as kinds
use Rattle.hp_frame.specs.declared.message.Body.{Body}
use Rattle.hp_frame.specs.declared.message.Body.TheVariants.{Alloc, Free, Sync, Answer}
use Rattle.hp_frame.specs.declared.message.Message.{Message}
use Rattle.hp_frame.specs.Spelling.{kind_of, byte_of, kind_with_byte, param_len_of, param_of, spelling, FitsWidths, HasSpelling, Spells}
use Rattle.hp_frame.specs.FirstFault.{name_len, param_len, whole_len, name_in, param_in, is_no_name_len, bad_param_byte, first_fault}
use Rattle.hp_frame.specs.Parts.{IsChecked}
use Rattle.hp_frame.specs.View.{message_in, IsFrameOf}
use Rattle.hp_frame.proofs.FaultLemmas.{HasGoodPlaces, has_good_places, is_visible, has_no_bad_byte, has_field_values, no_bad_param_byte, framed_no_fault, range-to_end}

length-param : (b : Body) → length (param_of b) ≡ param_len_of (kind_of b)
length-param (Alloc from number heap socket page size align bound flags) = refl
length-param (Free from number heap address len) = refl
length-param (Sync generation round) = refl
length-param (Answer from number what code) = refl

good_places : (m : Message) → HasSpelling m → HasGoodPlaces (kind_of m.body) m.name (param_of m.body)
good_places m h = record {
  param_len = length-param m.body;
  name_bytes = has_no_bad_byte m.name h.valid.name;
  param_bytes = no_bad_param_byte m.body h.valid.fields;
}

-- the frame of a message has no fault
pub frame_no_fault : (text : List ℕ) (m : Message) → Spells text m → first_fault text ≡ None
frame_no_fault text m s = ap first_fault s.is_spelling ∙ framed_no_fault (kind_of m.body) m.name (param_of m.body) s.has_spelling.name (good_places m s.has_spelling)

-- ---- a text that passes the checks

byte_again : (byte : ℕ) (kind : Kind) → kind_with_byte byte ≡ Some kind → byte ≡ byte_of kind
byte_again byte kinds.Alloc e = grind arith
byte_again byte kinds.Free e = grind arith
byte_again byte kinds.Sync e = grind arith
byte_again byte kinds.Answer e = grind arith

-- a text of four bytes and more by its cells
four : (text : List ℕ) → 4 ≤ length text → text ≡ get_or text 0 0 ∷ get_or text 1 0 ∷ get_or text 2 0 ∷ get_or text 3 0 ∷ drop 4 text
four [] h = absurd (omega arith)
four (a ∷ []) h = absurd (omega arith)
four (a ∷ b ∷ []) h = absurd (omega arith)
four (a ∷ b ∷ c ∷ []) h = absurd (omega arith)
four (a ∷ b ∷ c ∷ d ∷ rest) h = refl

name_lens : (n : ℕ) → is_no_name_len n ≡ false → (0 < n) × (n ≤ 63)
name_lens n e = grind arith

two_bytes : (a b : ℕ) → a < 256 → b < 256 → (i : ℕ) → get_or (a ∷ b ∷ []) i 0 < 256
two_bytes a b h k zero = h
two_bytes a b h k (suc zero) = k
two_bytes a b h k (suc (suc i)) = omega arith

same_cells : (a a' b b' : ℕ) (c c' d d' : List ℕ) → a ≡ a' → b ≡ b' → c ≡ c' → d ≡ d' → a ∷ b ∷ c ++ d ≡ a' ∷ b' ∷ c' ++ d'
same_cells a a' b b' c c' d d' e f g h = cc

pub is_frame : (text : List ℕ) (kind : Kind) (body : Body) → ((i : ℕ) → get_or text i 0 < 256) → IsChecked text kind
    → drop (4 + name_len text) text ≡ param_of body → kind_of body ≡ kind → FitsWidths body → IsFrameOf text (name_len text) body
is_frame text kind body bytes h param_is kind_is widths =
    let n = name_len text in
    let name = slice_range text 4 (4 + n) in
    let long : 4 + n ≤ length text = omega (arith, h.whole) in
    let param_all : param_in text ≡ drop (4 + n) text = range-to_end text (4 + n) (whole_len text) (sym h.whole) in
    let places = has_good_places kind (name_in text) (param_in text) h.no_bad_place in
    let kind_len : param_len text ≡ param_len_of kind = omega (arith, h.whole, places.param_len, ap length param_all, length-drop (4 + n) text) in
    let name_is : length name ≡ n = omega (arith, long, length-take (4 + n - 4) (drop 4 text), length-drop 4 text) in
    let lens = name_lens n h.name_len_is in
    let front : take n (drop 4 text) ≡ name = ap (λ (k : ℕ). take k (drop 4 text)) (omega arith) in
    let back : drop 4 text ≡ name ++ param_of body = sym (take-append-drop n (drop 4 text)) ∙ rw (front, drop-drop n 4 text, param_is) refl in
    let kind_byte : get_or text 0 0 ≡ byte_of (kind_of body) = byte_again (get_or text 0 0) kind h.kind_is ∙ ap byte_of (sym kind_is) in
    let low_high : to_le_bytes w16 (param_len_of (kind_of body)) ≡ get_or text 2 0 ∷ get_or text 3 0 ∷ [] =
    ap (λ (k : Kind). to_le_bytes w16 (param_len_of k)) kind_is ∙ ap (λ (k : ℕ). to_le_bytes w16 k) (sym kind_len)
    ∙ le_bytes_2 (get_or text 2 0 ∷ get_or text 3 0 ∷ []) (param_len text) refl (two_bytes (get_or text 2 0) (get_or text 3 0) (bytes 2) (bytes 3)) refl in
    let spelled : text ≡ spelling (message_in text n body) =
    four text (omega (arith, long)) ∙ same_cells _ _ _ _ (get_or text 2 0 ∷ get_or text 3 0 ∷ []) _ _ _ kind_byte (sym name_is) (sym low_high) back in
    let param_bytes : bad_param_byte (kind_of body) (param_of body) ≡ None =
    ap (λ (k : Kind). bad_param_byte k (param_of body)) kind_is ∙ ap (λ (l : List ℕ). bad_param_byte kind l) (sym (param_all ∙ param_is)) ∙ places.param_bytes in
    record {
      spelled = record {
        has_spelling = record {
          name = record { some = omega (arith, name_is, lens.0); short = omega (arith, name_is, lens.1) };
          valid = record { name = is_visible (name_in text) places.name_bytes; fields = has_field_values body param_bytes };
          widths = widths;
        };
        is_spelling = spelled;
      };
      name_len_is = name_is;
    }

-- the parameter is what stands after the name
pub param_behind : (text : List ℕ) (n : ℕ) (body : Body) → IsFrameOf text n body → drop (4 + n) text ≡ param_of body
param_behind text n body f =
    sym (drop-drop n 4 text) ∙ ap (λ (l : List ℕ). drop n (drop 4 l)) f.spelled.is_spelling ∙ drop_at (slice_range text 4 (4 + n)) (param_of body) n f.name_len_is
