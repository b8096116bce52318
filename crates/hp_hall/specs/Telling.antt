-- What a participant has told since it took the segment value, and whether it has the names, by its steps: the rule "Giving" of
-- docs/HALLS.md.
use Rattle.std.specs.Prelude.{ℕ, Bool, true, false, List, Option, Some, None}
use Rattle.std.specs.List.{fold}
use Rattle.hp_hall.specs.Mail.{MailStep, Gives, Notes, Takes}
use Rattle.hp_hall.specs.declared.kept.Kept.TheVariants.{Names, Segments}
use Rattle.hp_hall.specs.declared.note.Note.TheVariants.{Acked, Emptied}

-- how many records it has acknowledged since then, after one step more; where it has acknowledged none, or has not the value in hand, there
-- is no number
abbrev pub acked_after : Option ℕ → MailStep → Option ℕ
acked_after acked (Takes slot (Segments segs)) = None
acked_after acked (Gives slot (Segments segs)) = None
acked_after acked (Notes (Acked number)) = Some number
acked_after acked _ = acked

abbrev pub acked_since_take : List MailStep → Option ℕ
acked_since_take steps = fold acked_after None steps

-- whether it has told since then that its table has no row, after one step more; who acknowledges records after that has a table again
abbrev pub emptied_after : Bool → MailStep → Bool
emptied_after emptied (Takes slot (Segments segs)) = false
emptied_after emptied (Gives slot (Segments segs)) = false
emptied_after emptied (Notes (Acked number)) = false
emptied_after emptied (Notes Emptied) = true
emptied_after emptied _ = emptied

abbrev pub emptied_since_take : List MailStep → Bool
emptied_since_take steps = fold emptied_after false steps

-- whether it has the names in hand, after one step more
abbrev pub names_after : Bool → MailStep → Bool
names_after naming (Takes slot (Names names)) = true
names_after naming (Gives slot (Names names)) = false
names_after naming _ = naming

abbrev pub has_names : List MailStep → Bool
has_names steps = fold names_after false steps
