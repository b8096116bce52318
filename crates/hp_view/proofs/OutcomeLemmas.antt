-- What was drawn or said, and how a run ended.
use Rattle.std.proofs.Common.{◌≡◌, ℕ, Bool, true, List, Option, ap, sym, ◌∙◌, refl, subst}
use Rattle.std.specs.Prelude.{Err, Ok}
use Rattle.hp_base.specs.declared.status.Status.{Status}
use Rattle.hp_base.specs.declared.status.Status.TheVariants as status
use Rattle.hp_view.specs.declared.line.Line.{Line}
use Rattle.hp_view.specs.Content.{IsContent}
use Rattle.hp_view.specs.Picture.{height_of, picture_of, shapes_of}
use Rattle.hp_view.specs.Reading.{reading}
use Rattle.hp_view.specs.declared.input.ReadFault.{ReadFault}
use Rattle.hp_view.specs.declared.input.ReadFault.TheVariants as faults
use Rattle.hp_view.specs.Streaming.{GaveAll, GaveTooMuch, GaveUp}
use Rattle.hp_view.specs.Outcome.{Ends, Held, IsAnswered, IsSaid, IsWritten, Silent, refusal_text}
use Rattle.hp_view.proofs.ContentLemmas.{picture_content}
use Rattle.hp_view.specs.Outcome.Ends.{answered}
use Rattle.hp_view.specs.Outcome.IsAnswered.{drawn, ran_out, refused}
use Rattle.hp_view.specs.Outcome.IsSaid.{said, unsaid}

-- the text of each picture is balanced
pub all_balanced : (lines : List Line) → IsContent (picture_of lines)
all_balanced lines = picture_content (height_of lines) (shapes_of lines)

-- the picture of the lines of an input was written
pub drawn_is : (input bytes : List ℕ) (lines slice : List Line) (out err : Held) (result : Status) → reading input ≡ Ok lines → slice ≡ lines
    → bytes ≡ picture_of slice → IsWritten status.Ok bytes out result → Silent err → IsAnswered input out err result
drawn_is input bytes lines slice out err result read same is written silent =
    drawn lines result read (subst (λ text. IsWritten status.Ok text out result) (is ∙ ap picture_of same) written) silent

-- which line is none of a report was said
pub said_is : (line : ℕ) (bytes : List ℕ) (err : Held) (result : Status) → bytes ≡ refusal_text line → IsWritten status.BadWorkload bytes err result
    → IsSaid line err result
said_is line bytes err result is written = said result (subst (λ text. IsWritten status.BadWorkload text err result) is written)

pub said_answers : (input : List ℕ) (line : ℕ) (out err : Held) (result : Status) → reading input ≡ Err line → IsSaid line err result → Silent out
    → IsAnswered input out err result
said_answers input line out err _ is (said result written) silent = refused line result is written silent
said_answers input line out err _ is (unsaid quiet) silent = ran_out silent quiet

-- what a fault says of the source
pub gave_too_much : (old new : Option (List ℕ)) (fault : ReadFault) → fault ≡ faults.TooLong → GaveUp old new fault → GaveTooMuch old new
gave_too_much old new fault is gave = subst (λ (f : ReadFault). GaveUp old new f) is gave

-- what was read was answered
pub answered_ends : (left left' : Option (List ℕ)) (source_failed : Type 0) (input slice : List ℕ) (out err : Held) (result : Status) → GaveAll left left' input
    → slice ≡ input → IsAnswered slice out err result → Ends true left left' source_failed out err result
answered_ends left left' source_failed input slice out err result gave same done =
    answered input result refl gave (subst (λ text. IsAnswered text out err result) same done)

-- a run ends so under the program's own words
pub own_ends : (right : Bool) (left left' : Option (List ℕ)) (source_failed : Type 0) (out err : Held) (result : Status) → right ≡ true
    → Ends true left left' source_failed out err result → Ends right left left' source_failed out err result
own_ends right left left' source_failed out err result own ended = subst (λ (b : Bool). Ends b left left' source_failed out err result) (sym own) ended
