-- What a picture is made of.
use Rattle.std.specs.Prelude.{ℕ, List}
use Rattle.hp_view.specs.declared.shape.Area.{Area}
use Rattle.hp_view.specs.declared.shape.Colour.{Colour}
use Rattle.hp_view.specs.declared.shape.Style.{Style}
use Rattle.hp_view.specs.declared.shape.Shape.{Shape}
use Rattle.hp_view.specs.declared.shape.Shape.TheVariants as shape

-- a field of a colour, with words that show where one points at it
abbrev pub field : Area → Colour → List ℕ → Shape
field area colour words = shape.Field area colour words

-- words at a place
abbrev pub label : ℕ → ℕ → Style → List ℕ → Shape
label x y style words = shape.Label x y style words

-- a rectangle, by its upper left corner
abbrev pub rectangle : ℕ → ℕ → ℕ → ℕ → Area
rectangle x y width height = record { x = x; y = y; width = width; height = height }
