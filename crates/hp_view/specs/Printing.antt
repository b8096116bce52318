-- The text of a picture.
use Rattle.std.specs.Prelude.{ℕ, ◌==◌, ◌&&◌, nat_le, List, [], ◌∷◌, ◌++◌, codes, if◌then◌else◌}
use Rattle.std.specs.Fmt.{decimal}
use Rattle.std.specs.List.{flat_map}
use Rattle.hp_view.specs.declared.shape.Colour.{Colour}
use Rattle.hp_view.specs.declared.shape.Colour.TheVariants as colour
use Rattle.hp_view.specs.declared.shape.Style.{Style}
use Rattle.hp_view.specs.declared.shape.Style.TheVariants as style
use Rattle.hp_view.specs.declared.shape.Shape.{Shape}
use Rattle.hp_view.specs.declared.shape.Shape.TheVariants as shape
use Rattle.hp_view.specs.declared.style.TheConstants.{HEAD, STYLES, END}

-- a byte as text of a picture: `&`, `<`, `>` and `"` (38, 60, 62, 34) by their names, and what is not printable ASCII as `?`
abbrev pub escaped_byte : ℕ → List ℕ
escaped_byte byte =
    if byte == 38 then codes "&amp;"
    else (if byte == 60 then codes "&lt;"
    else (if byte == 62 then codes "&gt;"
    else (if byte == 34 then codes "&quot;"
    else (if nat_le 32 byte && nat_le byte 126 then byte ∷ [] else codes "?"))))

-- words as text of a picture
abbrev pub escaped : List ℕ → List ℕ
escaped words = flat_map escaped_byte words

-- the word of a colour
abbrev pub colour_word : Colour → List ℕ
colour_word colour.Busy = codes "busy"
colour_word (colour.Free class) = codes "free" ++ decimal class
colour_word colour.Many = codes "many"
colour_word colour.Tick = codes "tick"
colour_word colour.Grown = codes "grown"
colour_word colour.Shrunk = codes "shrunk"
colour_word colour.Stayed = codes "stayed"
colour_word colour.Refused = codes "refused"

-- the word of a style
abbrev pub style_word : Style → List ℕ
style_word style.Title = codes "title"
style_word style.Head = codes "head"
style_word style.Note = codes "note"
style_word style.Plain = codes "plain"
style_word style.Pale = codes "pale"
style_word style.Inside = codes "inside"
style_word style.Before = codes "before"

-- the tag that opens a field
abbrev pub area_text : ℕ → ℕ → ℕ → ℕ → Colour → List ℕ
area_text x y width height paint =
    codes "<rect x=\"" ++ decimal x ++ codes "\" y=\"" ++ decimal y ++ codes "\" width=\"" ++ decimal width ++ codes "\" height=\"" ++ decimal height
    ++ codes "\" class=\"" ++ colour_word paint ++ codes "\">"

-- the tag that opens words
abbrev pub label_text : ℕ → ℕ → Style → List ℕ
label_text x y kind = codes "<text x=\"" ++ decimal x ++ codes "\" y=\"" ++ decimal y ++ codes "\" class=\"" ++ style_word kind ++ codes "\">"

-- a shape: each tag that it opens it closes, and its words are escaped
abbrev pub shape_text : Shape → List ℕ
shape_text (shape.Field area paint words) =
    area_text area.x area.y area.width area.height paint ++ codes "<title>" ++ escaped words ++ codes "</title></rect>\n"
shape_text (shape.Label x y kind words) = label_text x y kind ++ escaped words ++ codes "</text>\n"

-- a picture so high, with these shapes
abbrev pub picture_text : ℕ → List Shape → List ℕ
picture_text height shapes = HEAD.now ++ decimal height ++ STYLES.now ++ flat_map shape_text shapes ++ END.now
