-- The text of a picture is balanced.
use Rattle.std.proofs.Common.{◌≡◌, ℕ, suc, zero, ◌+◌, ◌/◌, ◌%◌, Bool, true, false, cond, List, [], ◌∷◌, ◌++◌, refl, sym, ap, subst, ◌∙◌, append_assoc, append-nil, length, take, drop, ◌-◌, arith}
use Rattle.std.specs.Prelude.{◌==◌, ◌&&◌, nat_le, nat_lt, codes}
use Rattle.std.specs.List.{flat_map}
use Rattle.std.specs.Fmt.{decimal, digit_glyph, digits, digits_onto}
use Rattle.std.proofs.lemmas.List.Folds.{list_all-append}
use Rattle.hp_view.specs.declared.shape.Colour.{Colour}
use Rattle.hp_view.specs.declared.shape.Colour.TheVariants as colour
use Rattle.hp_view.specs.declared.shape.Style.{Style}
use Rattle.hp_view.specs.declared.shape.Style.TheVariants as style
use Rattle.hp_view.specs.declared.shape.Shape.{Shape}
use Rattle.hp_view.specs.declared.shape.Shape.TheVariants as shape
use Rattle.hp_view.specs.declared.style.TheConstants.{HEAD, STYLES, END}
use Rattle.hp_view.specs.Content.{IsContent, are_letters, are_plain, element, is_plain}
use Rattle.hp_view.specs.Content.IsContent.{empty, tagged, words}
use Rattle.hp_view.specs.Printing.{area_text, colour_word, escaped, escaped_byte, label_text, picture_text, shape_text, style_word}

-- one content after another is one
content_append : (a b : List ℕ) → IsContent a → IsContent b → IsContent (a ++ b)
content_append _ b empty more = more
content_append _ b (words text rest plain left) more =
    subst IsContent (sym (append_assoc text rest b)) (words text (rest ++ b) plain (content_append rest b left more))
content_append _ b (tagged name attributes inner rest letters plain within left) more =
    subst IsContent (sym (append_assoc (element name attributes inner) rest b))
    (tagged name attributes inner (rest ++ b) letters plain within (content_append rest b left more))

text_alone : (text : List ℕ) → are_plain text ≡ true → IsContent text
text_alone text plain = subst IsContent (append-nil text) (words text [] plain empty)

element_alone : (name attributes inner : List ℕ) → are_letters name ≡ true → are_plain attributes ≡ true → IsContent inner → IsContent (element name attributes inner)
element_alone name attributes inner letters plain within =
    subst IsContent (append-nil (element name attributes inner)) (tagged name attributes inner [] letters plain within empty)

-- plain texts together
plain_append : (a b : List ℕ) → are_plain a ≡ true → are_plain b ≡ true → are_plain (a ++ b) ≡ true
plain_append a b first second = list_all-append is_plain a b ∙ rw (first, second) refl

plain_glyph : (d : ℕ) → is_plain (digit_glyph false d) ≡ true
plain_glyph d = of (nat_lt d 10) refl
  where
    of : (b : Bool) → nat_lt d 10 ≡ b → is_plain (cond b (48 + d) (87 + d)) ≡ true
    of true small = grind (arith, small)
    of false large = grind arith

plain_more : (byte : ℕ) (rest : List ℕ) → is_plain byte ≡ true → are_plain rest ≡ true → are_plain (byte ∷ rest) ≡ true
plain_more byte rest first others = ap (λ (b : Bool). b && are_plain rest) first ∙ others

plain_choice : (b : Bool) (x y : List ℕ) → are_plain x ≡ true → are_plain y ≡ true → are_plain (cond b x y) ≡ true
plain_choice true x y first second = first
plain_choice false x y first second = second

plain_digits : (k n : ℕ) (acc : List ℕ) → are_plain acc ≡ true → are_plain (digits_onto k 10 false n acc) ≡ true
plain_digits zero n acc plain = plain
plain_digits (suc k) n acc plain =
    let longer = digit_glyph false (n % 10) ∷ acc in
    let more = plain_more (digit_glyph false (n % 10)) acc (plain_glyph (n % 10)) plain in
    plain_choice (n / 10 == 0) longer (digits_onto k 10 false (n / 10) longer) more (plain_digits k (n / 10) longer more)

plain_decimal : (n : ℕ) → are_plain (decimal n) ≡ true
unfolding digits
plain_decimal n = plain_digits 64 n [] refl

plain_colour : (paint : Colour) → are_plain (colour_word paint) ≡ true
plain_colour colour.Busy = refl
plain_colour (colour.Free class) = plain_append (codes "free") (decimal class) refl (plain_decimal class)
plain_colour colour.Many = refl
plain_colour colour.Tick = refl
plain_colour colour.Grown = refl
plain_colour colour.Shrunk = refl
plain_colour colour.Stayed = refl
plain_colour colour.Refused = refl

plain_style : (kind : Style) → are_plain (style_word kind) ≡ true
plain_style style.Title = refl
plain_style style.Head = refl
plain_style style.Note = refl
plain_style style.Plain = refl
plain_style style.Pale = refl
plain_style style.Inside = refl
plain_style style.Before = refl

-- escaped words have no `<` and no `>`
plain_byte : (byte : ℕ) → are_plain (escaped_byte byte) ≡ true
plain_byte byte = of (byte == 38) (byte == 60) (byte == 62) (byte == 34) (nat_le 32 byte && nat_le byte 126) refl refl
  where
    of : (amp lt gt quot printable : Bool) → (byte == 60) ≡ lt → (byte == 62) ≡ gt
        → are_plain (cond amp (codes "&amp;") (cond lt (codes "&lt;") (cond gt (codes "&gt;") (cond quot (codes "&quot;") (cond printable (byte ∷ []) (codes "?")))))) ≡ true
    of true lt gt quot printable is_lt is_gt = refl
    of false true gt quot printable is_lt is_gt = refl
    of false false true quot printable is_lt is_gt = refl
    of false false false true printable is_lt is_gt = refl
    of false false false false true is_lt is_gt = rw (is_lt, is_gt) refl
    of false false false false false is_lt is_gt = refl

plain_escaped : (text : List ℕ) → are_plain (escaped text) ≡ true
plain_escaped [] = refl
plain_escaped (byte ∷ bytes) = plain_append (escaped_byte byte) (escaped bytes) (plain_byte byte) (plain_escaped bytes)

-- four texts after another, together
four : (x a b c d : List ℕ) → x ++ a ++ b ++ c ++ d ≡ x ++ (a ++ (b ++ (c ++ d)))
four x a b c d = append_assoc (x ++ a ++ b) c d ∙ (append_assoc (x ++ a) b (c ++ d) ∙ append_assoc x a (b ++ (c ++ d)))

-- one attribute more
plain_pair : (front word value : List ℕ) → are_plain front ≡ true → are_plain word ≡ true → are_plain value ≡ true
    → are_plain (front ++ word ++ value) ≡ true
plain_pair front word value before named valued = plain_append (front ++ word) value (plain_append front word before named) valued

module _ (x y width height : ℕ) (paint : Colour) where
  -- the attributes of a field, but for the last quotation mark
  abbrev to_x : List ℕ
  to_x = codes " x=\"" ++ decimal x

  abbrev to_y : List ℕ
  to_y = to_x ++ codes "\" y=\"" ++ decimal y

  abbrev to_width : List ℕ
  to_width = to_y ++ codes "\" width=\"" ++ decimal width

  abbrev to_height : List ℕ
  to_height = to_width ++ codes "\" height=\"" ++ decimal height

  abbrev field_attributes : List ℕ
  field_attributes = to_height ++ codes "\" class=\"" ++ colour_word paint

  field_tag : area_text x y width height paint ≡ codes "<" ++ codes "rect" ++ (field_attributes ++ codes "\"") ++ codes ">"
  field_tag = sym (append_assoc (codes "<rect" ++ field_attributes) (codes "\"") (codes ">"))

  plain_field : are_plain (field_attributes ++ codes "\"") ≡ true
  plain_field =
      let first = plain_append (codes " x=\"") (decimal x) refl (plain_decimal x) in
      let second = plain_pair to_x (codes "\" y=\"") (decimal y) first refl (plain_decimal y) in
      let third = plain_pair to_y (codes "\" width=\"") (decimal width) second refl (plain_decimal width) in
      let fourth = plain_pair to_width (codes "\" height=\"") (decimal height) third refl (plain_decimal height) in
      let fifth = plain_pair to_height (codes "\" class=\"") (colour_word paint) fourth refl (plain_colour paint) in
      plain_append field_attributes (codes "\"") fifth refl

module _ (x y : ℕ) (kind : Style) where
  -- those of words, but for the last quotation mark
  abbrev from_x : List ℕ
  from_x = codes " x=\"" ++ decimal x

  abbrev from_y : List ℕ
  from_y = from_x ++ codes "\" y=\"" ++ decimal y

  abbrev label_attributes : List ℕ
  label_attributes = from_y ++ codes "\" class=\"" ++ style_word kind

  label_tag : label_text x y kind ≡ codes "<" ++ codes "text" ++ (label_attributes ++ codes "\"") ++ codes ">"
  label_tag = sym (append_assoc (codes "<text" ++ label_attributes) (codes "\"") (codes ">"))

  plain_label : are_plain (label_attributes ++ codes "\"") ≡ true
  plain_label =
      let first = plain_append (codes " x=\"") (decimal x) refl (plain_decimal x) in
      let second = plain_pair from_x (codes "\" y=\"") (decimal y) first refl (plain_decimal y) in
      let third = plain_pair from_y (codes "\" class=\"") (style_word kind) second refl (plain_style kind) in
      plain_append label_attributes (codes "\"") third refl

-- a tag around a title, as it is printed
titled : (tag title : List ℕ) → tag ++ codes "<title>" ++ title ++ codes "</title></rect>\n"
    ≡ tag ++ element (codes "title") [] title ++ codes "</" ++ codes "rect" ++ codes ">" ++ codes "\n"
titled tag title =
    ap (λ (front : List ℕ). front ++ codes "</title></rect>\n") (append_assoc tag (codes "<title>") title)
    ∙ (append_assoc tag (codes "<title>" ++ title) (codes "</title></rect>\n")
    ∙ (ap (λ (rest : List ℕ). tag ++ rest) (sym (four (codes "<title>" ++ title) (codes "</") (codes "title") (codes ">") (codes "</rect>\n")))
    ∙ (sym (append_assoc tag (element (codes "title") [] title) (codes "</rect>\n"))
    ∙ sym (four (tag ++ element (codes "title") [] title) (codes "</") (codes "rect") (codes ">") (codes "\n")))))

shape_content : (one : Shape) → IsContent (shape_text one)
shape_content (shape.Field area paint text) =
    subst IsContent
    (sym (titled (area_text area.x area.y area.width area.height paint) (escaped text)
    ∙ ap (λ (tag : List ℕ). tag ++ element (codes "title") [] (escaped text) ++ codes "</" ++ codes "rect" ++ codes ">" ++ codes "\n")
    (field_tag area.x area.y area.width area.height paint)))
    (tagged (codes "rect") (field_attributes area.x area.y area.width area.height paint ++ codes "\"") (element (codes "title") [] (escaped text)) (codes "\n")
    refl (plain_field area.x area.y area.width area.height paint) (element_alone (codes "title") [] (escaped text) refl refl (text_alone (escaped text) (plain_escaped text)))
    (text_alone (codes "\n") refl))
shape_content (shape.Label x y kind text) =
    subst IsContent
    (sym (sym (four (label_text x y kind ++ escaped text) (codes "</") (codes "text") (codes ">") (codes "\n"))
    ∙ ap (λ (tag : List ℕ). tag ++ escaped text ++ codes "</" ++ codes "text" ++ codes ">" ++ codes "\n") (label_tag x y kind)))
    (tagged (codes "text") (label_attributes x y kind ++ codes "\"") (escaped text) (codes "\n") refl (plain_label x y kind) (text_alone (escaped text) (plain_escaped text))
    (text_alone (codes "\n") refl))

shapes_content : (shapes : List Shape) → IsContent (flat_map shape_text shapes)
shapes_content [] = empty
shapes_content (one ∷ others) = content_append (shape_text one) (flat_map shape_text others) (shape_content one) (shapes_content others)

-- the rules of the styles: what stands between `">`, a newline and `<style>`, and `</style>` and a newline
rules_text : List ℕ
rules_text = take (length STYLES.now - 19) (drop 10 STYLES.now)

module _ (height : ℕ) (shapes : List Shape) where
  abbrev drawn : List ℕ
  drawn = flat_map shape_text shapes

  -- the tag of the picture, but for its last quotation mark and what closes it
  abbrev front : List ℕ
  front = HEAD.now ++ decimal height

  abbrev within : List ℕ
  within = codes "\n" ++ (element (codes "style") [] rules_text ++ (codes "\n" ++ drawn))

  abbrev picture_attributes : List ℕ
  picture_attributes = drop 4 HEAD.now ++ decimal height ++ codes "\""

  within_content : IsContent within
  unfolding rules_text
  within_content =
      words (codes "\n") (element (codes "style") [] rules_text ++ (codes "\n" ++ drawn)) refl
      (tagged (codes "style") [] rules_text (codes "\n" ++ drawn) refl refl (text_alone rules_text refl)
      (words (codes "\n") drawn refl (shapes_content shapes)))

  picture_is : picture_text height shapes ≡ element (codes "svg") picture_attributes within ++ codes "\n"
  unfolding rules_text
  picture_is =
      ap (λ (text : List ℕ). text ++ drawn ++ END.now)
      (sym (append_assoc (front ++ codes "\"") (codes ">") (codes "\n" ++ (element (codes "style") [] rules_text ++ codes "\n"))
      ∙ append_assoc front (codes "\"") (codes ">" ++ (codes "\n" ++ (element (codes "style") [] rules_text ++ codes "\n")))))
      ∙ (ap (λ (text : List ℕ). text ++ END.now)
      (append_assoc (front ++ codes "\"" ++ codes ">") (codes "\n" ++ (element (codes "style") [] rules_text ++ codes "\n")) drawn)
      ∙ sym (four (front ++ codes "\"" ++ codes ">" ++ within) (codes "</") (codes "svg") (codes ">") (codes "\n")))

  -- a picture is balanced
  pub picture_content : IsContent (picture_text height shapes)
  picture_content =
      subst IsContent (sym picture_is)
      (tagged (codes "svg") picture_attributes within (codes "\n") refl
      (plain_append (drop 4 HEAD.now ++ decimal height) (codes "\"") (plain_append (drop 4 HEAD.now) (decimal height) refl (plain_decimal height)) refl)
      within_content (text_alone (codes "\n") refl))
