-- The table of asks by outcome.
use Rattle.std.specs.Prelude.{ℕ, ◌==◌, List, [], ◌∷◌, ◌++◌, codes, if◌then◌else◌}
use Rattle.std.specs.Fmt.{decimal}
use Rattle.hp_view.specs.declared.counts.Kind.{Kind}
use Rattle.hp_view.specs.declared.counts.Kind.TheVariants as kind
use Rattle.hp_view.specs.declared.line.Line.{Line}
use Rattle.hp_view.specs.declared.outcome.Cause.{Cause}
use Rattle.hp_view.specs.declared.outcome.Cause.TheVariants as cause
use Rattle.hp_view.specs.declared.shape.Shape.{Shape}
use Rattle.hp_view.specs.declared.shape.Style.{Style}
use Rattle.hp_view.specs.declared.shape.Style.TheVariants as style
use Rattle.hp_view.specs.Counts.{count_of}
use Rattle.hp_view.specs.Scales.{plus}
use Rattle.hp_view.specs.Shapes.{label}

-- what a cause means
abbrev pub cause_meaning : Cause → List ℕ
cause_meaning cause.NoList = codes "the socket has no pages of that size"
cause_meaning cause.TooFew = codes "the pool has fewer free pages than are needed"
cause_meaning cause.ListFull = codes "the list has no stretch of free slots that is long enough"
cause_meaning cause.CannotHold = codes "the pages would not hold the request"
cause_meaning cause.Denied = codes "a validator denied it"
cause_meaning cause.MapFailed = codes "participant p (mapfailed p n) could not map the pages, so they went again"
cause_meaning cause.Late = codes "participant p (late p ..) had not mapped the pages in time, so they went again"
cause_meaning cause.Withdrawn = codes "the asker took it back, since no answer came"

-- the word of a cause in the report
abbrev pub cause_word : Cause → List ℕ
cause_word cause.NoList = codes "refused nolist"
cause_word cause.TooFew = codes "refused toofew"
cause_word cause.ListFull = codes "refused listfull"
cause_word cause.CannotHold = codes "refused cannothold"
cause_word cause.Denied = codes "refused denied"
cause_word cause.MapFailed = codes "refused mapfailed"
cause_word cause.Late = codes "refused late"
cause_word cause.Withdrawn = codes "refused withdrawn"

abbrev pub kind_word : Kind → List ℕ
kind_word kind.Granted = codes "granted"
kind_word kind.Freed = codes "freed"
kind_word kind.Stale = codes "stale"
kind_word (kind.Refused why) = cause_word why
kind_word _ = []

abbrev pub kind_meaning : Kind → List ℕ
kind_meaning kind.Granted = codes "the pages came, and every attached participant mapped them"
kind_meaning kind.Freed = codes "pages were given up, and went back to their pool"
kind_meaning kind.Stale = codes "the ask came twice"
kind_meaning (kind.Refused why) = cause_meaning why
kind_meaning _ = []

abbrev pub tally_style : ℕ → Style
tally_style count = if count == 0 then style.Pale else style.Plain

-- a row: how many asks ended so, the word of that, and what it means
abbrev pub tally_shapes : ℕ → Kind → List Line → List Shape
tally_shapes y due lines =
    label 40 y (tally_style (count_of due lines)) (decimal (count_of due lines))
    ∷ label 100 y (tally_style (count_of due lines)) (kind_word due)
    ∷ label 250 y (tally_style (count_of due lines)) (kind_meaning due)
    ∷ []

abbrev pub refusal_shapes : ℕ → Cause → List Line → List Shape
refusal_shapes y why lines = tally_shapes y (kind.Refused why) lines

-- the rows that say what was done
abbrev pub done_shapes : ℕ → List Line → List Shape
done_shapes y lines = tally_shapes y kind.Granted lines ++ tally_shapes (plus y 18) kind.Freed lines ++ tally_shapes (plus y 36) kind.Stale lines

-- the table
abbrev pub tallies : ℕ → List Line → List Shape
tallies y lines =
    done_shapes y lines
    ++ refusal_shapes (plus y 54) cause.NoList lines ++ refusal_shapes (plus y 72) cause.TooFew lines ++ refusal_shapes (plus y 90) cause.ListFull lines
    ++ refusal_shapes (plus y 108) cause.CannotHold lines ++ refusal_shapes (plus y 126) cause.Denied lines
    ++ refusal_shapes (plus y 144) cause.MapFailed lines ++ refusal_shapes (plus y 162) cause.Late lines
    ++ refusal_shapes (plus y 180) cause.Withdrawn lines
