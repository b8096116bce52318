-- What is read alike: outcomes that are alike, and what differs in where its parts stand alone.
use Rattle.std.proofs.Common.{◌≡◌, ℕ, Bool, true, false, refl, cond}
use Rattle.std.specs.Prelude.{Option, Some, None, Result, Ok, Err, ⊤, is_some}
use Rattle.std.specs.Option.{option_map}
use Rattle.hp_script.specs.Part.{Part}
use Rattle.hp_script.specs.Judge.{◌>>=◌}
use Rattle.hp_script.specs.ShapeWords.Acts.{label_made, label_used}
use Rattle.hp_script.specs.declared.bad_kind.BadKind.{BadKind}
use Rattle.hp_script.specs.declared.given.Given.{Given}
use Rattle.hp_script.specs.declared.options.Options.{Options}
use Rattle.hp_script.specs.declared.line.Act.{Act}
use Rattle.hp_script.specs.declared.shape.Shape.{Shape}
use Rattle.hp_script.specs.declared.shape.Shape.TheVariants.{Setup, Does, Awaits}

-- two outcomes are alike: both refused so, or both go on with what is alike
abbrev pub Alike : {A B K : Type 0} → (A → B → Type 0) → Result A K → Result B K → Type 0
Alike R (Ok x) (Ok y) = R x y
Alike R (Err kind) (Err other) = other ≡ kind
Alike R _ _ = ⊥

abbrev pub Both : {A B : Type 0} → (A → B → Type 0) → Option A → Option B → Type 0
Both R None None = ⊤
Both R (Some x) (Some y) = R x y
Both R _ _ = ⊥

-- after the same step
pub after : {A B C : Type 0} (R : B → C → Type 0) (step : Result A BadKind) (next : A → Result B BadKind) (other : A → Result C BadKind)
    → ((x : A) → Alike R (next x) (other x)) → Alike R (step >>= next) (step >>= other)
after R (Ok x) next other alike = alike x
after R (Err kind) next other alike = refl

-- after steps that are alike
pub follow : {A B C D : Type 0} (Q : A → B → Type 0) (R : C → D → Type 0) (step : Result A BadKind) (again : Result B BadKind) (next : A → Result C BadKind) (other : B → Result D BadKind)
    → Alike Q step again → ((x : A) (y : B) → Q x y → Alike R (next x) (other y)) → Alike R (step >>= next) (again >>= other)
follow Q R (Ok x) (Ok y) next other same alike = alike x y same
follow Q R (Ok x) (Err kind) next other same alike = absurd same
follow Q R (Err kind) (Ok y) next other same alike = absurd same
follow Q R (Err kind) (Err other_kind) next other same alike = same

-- acts that differ in their tokens' addresses alone
pub record SameAct (deed other : Act) : Type 0 where
  pub made : option_map (λ label. label.text) (label_made other) ≡ option_map (λ label. label.text) (label_made deed)
  pub used : option_map (λ label. label.text) (label_used other) ≡ option_map (λ label. label.text) (label_used deed)

abbrev pub SameShape : Shape → Shape → Type 0
SameShape (Setup setup) (Setup other) = other ≡ setup
SameShape (Does party deed) (Does who other) = (who ≡ party) × SameAct deed other
SameShape (Awaits party k n) (Awaits who j m) = (who ≡ party) × (j ≡ k) × (m ≡ n)
SameShape _ _ = ⊥

-- two options both name a heap, or neither does
abbrev pub AlikeOptions : Options → Options → Type 0
AlikeOptions options other = is_some other.heap ≡ is_some options.heap

pub record SameGiven (given other : Given) : Type 0 where
  pub socket : other.socket ≡ given.socket
  pub heap : is_some other.heap ≡ is_some given.heap
  pub align : other.align ≡ given.align
  pub bound : other.bound ≡ given.bound
  pub flags : other.flags ≡ given.flags

-- a test chooses between outcomes that are alike
pub choose : {A B : Type 0} (R : A → B → Type 0) (test : Bool) (one two : Option A) (three four : Option B) → Both R one three → Both R two four → Both R (cond test one two) (cond test three four)
choose R true one two three four first second = first
choose R false one two three four first second = second

pub either : {A B K : Type 0} (R : A → B → Type 0) (test : Bool) (one two : Result A K) (three four : Result B K) → Alike R one three → Alike R two four → Alike R (cond test one two) (cond test three four)
either R true one two three four first second = first
either R false one two three four first second = second

-- a part of the text where it stands elsewhere
abbrev pub moved : ℕ × ℕ → Part → Part
moved base part = record { start = part.start; text = part.text; base = base }
