-- What a participant has seen of the names after its way is what its lines gave back last.
use Rattle.std.proofs.Common.{◌≡◌, ◌∙◌, ℕ, List, [], ◌∷◌, ◌++◌, append-nil, refl, ap, sym, subst}
use Rattle.std.specs.List.{fold}
use Rattle.std.proofs.lemmas.List.Sums.{fold-append}
use Rattle.hp_chair.specs.DoneBy.{changes_after, zones_after}
use Rattle.hp_hall.specs.Mail.{Fetches, Gives, MailStep, Notes, Posts, Takes}
use Rattle.hp_hall.specs.declared.kept.Kept.TheVariants.{Heap, Names, Segments}
use Rattle.hp_zone.specs.declared.name_change.NameChange.{NameChange}
use Rattle.hp_zone.specs.declared.zone.ZoneChange.{ZoneChange}
use Rattle.hp_proc.specs.Doing.{Done}
use Rattle.hp_proc.specs.Doing.Done.{NamesRead}
use Rattle.hp_proc.specs.LinesDone.{Course}
use Rattle.hp_proc.specs.NamesOfLines.{NamesOfLine, names_read, steps_of_names}
use Rattle.hp_proc.specs.SharedNames.{SharedNames}
use Rattle.thm_run.specs.OwnLines.{WentByLines}
use Rattle.thm_run.specs.Seats.{Seat}
use Rattle.thm_moved.proofs.NamesAwaited.{last_both}
use Rattle.thm_moved.proofs.NamesOfWays.{none_of_names}
use Rattle.thm_moved.specs.AtBoard.{given_by, given_last}

-- it goes by the steps of the names alone
zones_only : (zones : List ZoneChange) (steps : List MailStep) → fold zones_after zones steps ≡ fold zones_after zones (steps_of_names steps)
zones_only zones [] = refl
zones_only zones (Posts to frame action posted ∷ steps) = zones_only zones steps
zones_only zones (Fetches frame ∷ steps) = zones_only zones steps
zones_only zones (Notes note ∷ steps) = zones_only zones steps
zones_only zones (Takes slot (Heap heap pen) ∷ steps) = zones_only zones steps
zones_only zones (Takes slot (Segments segs) ∷ steps) = zones_only zones steps
zones_only zones (Takes slot (Names names) ∷ steps) = zones_only names.zones.log steps
zones_only zones (Gives slot (Heap heap pen) ∷ steps) = zones_only zones steps
zones_only zones (Gives slot (Segments segs) ∷ steps) = zones_only zones steps
zones_only zones (Gives slot (Names names) ∷ steps) = zones_only names.zones.log steps

changes_only : (changes : List NameChange) (steps : List MailStep)
    → fold changes_after changes steps ≡ fold changes_after changes (steps_of_names steps)
changes_only changes [] = refl
changes_only changes (Posts to frame action posted ∷ steps) = changes_only changes steps
changes_only changes (Fetches frame ∷ steps) = changes_only changes steps
changes_only changes (Notes note ∷ steps) = changes_only changes steps
changes_only changes (Takes slot (Heap heap pen) ∷ steps) = changes_only changes steps
changes_only changes (Takes slot (Segments segs) ∷ steps) = changes_only changes steps
changes_only changes (Takes slot (Names names) ∷ steps) = changes_only names.heaps.log steps
changes_only changes (Gives slot (Heap heap pen) ∷ steps) = changes_only changes steps
changes_only changes (Gives slot (Segments segs) ∷ steps) = changes_only changes steps
changes_only changes (Gives slot (Names names) ∷ steps) = changes_only names.heaps.log steps

-- it has seen what these lines gave back last
pub record HasSeen (known : SharedNames) (courses : List Course) (steps : List MailStep) : Type 0 where
  pub zones : fold zones_after known.zones steps ≡ (given_last known courses).zones
  pub names : fold changes_after known.heaps steps ≡ (given_last known courses).heaps

seen_aside : (known : SharedNames) (steps : List MailStep) → steps_of_names steps ≡ [] → HasSeen known [] steps
seen_aside known steps aside = record {
  zones = zones_only known.zones steps ∙ ap (fold zones_after known.zones) aside;
  names = changes_only known.heaps steps ∙ ap (fold changes_after known.heaps) aside;
}

unread_gives : (known : SharedNames) (trace : List Done) → names_read trace ≡ [] → given_by known trace ≡ known
unread_gives known [] none = refl
unread_gives known (NamesRead names ∷ trace) none = cc
unread_gives known (_ ∷ trace) none = refl

seen_line : (known : SharedNames) (course : Course) (steps : List MailStep) → NamesOfLine course.trace steps
    → HasSeen known (course ∷ []) steps
seen_line known course steps (NamesOfLine.none aside unread unchanged) =
    let seen = seen_aside known steps aside in
    let same = sym (unread_gives known course.trace unread) in
    record {
      zones = seen.zones ∙ ap (λ (names : SharedNames). names.zones) same;
      names = seen.names ∙ ap (λ (names : SharedNames). names.heaps) same;
    }
seen_line known course steps (NamesOfLine.once taken given rest both trace unread leaves) =
    let same = leaves ∙ ap (given_by known) (sym trace) in
    record {
      zones = zones_only known.zones steps
          ∙ (ap (fold zones_after known.zones) both ∙ ap (λ (names : SharedNames). names.zones) same);
      names = changes_only known.heaps steps
          ∙ (ap (fold changes_after known.heaps) both ∙ ap (λ (names : SharedNames). names.heaps) same);
    }

seen_both : (known : SharedNames) (courses more : List Course) (before steps : List MailStep) → HasSeen known courses before
    → HasSeen (given_last known courses) more steps → HasSeen known (courses ++ more) (before ++ steps)
seen_both known courses more before steps early late =
    let last = sym (last_both known courses more) in
    record {
      zones = fold-append zones_after known.zones before steps
          ∙ (ap (λ (zones : List ZoneChange). fold zones_after zones steps) early.zones
          ∙ (late.zones ∙ ap (λ (names : SharedNames). names.zones) last));
      names = fold-append changes_after known.heaps before steps
          ∙ (ap (λ (changes : List NameChange). fold changes_after changes steps) early.names
          ∙ (late.names ∙ ap (λ (names : SharedNames). names.heaps) last));
    }

pub way_names : {count who : ℕ} {first last : Seat} {courses : List Course} {steps : List MailStep}
    → WentByLines count who first last courses steps → (known : SharedNames) → HasSeen known courses steps
way_names (WentByLines.begins seat) known = record { zones = refl; names = refl }
way_names {count} {who} (WentByLines.beside first old new courses before steps went path same stays none) known =
    subst (λ (courses : List Course). HasSeen known courses (before ++ steps)) (append-nil courses)
    (seen_both known courses [] before steps (way_names went known)
    (seen_aside (given_last known courses) steps (none_of_names who steps none)))
way_names {count} {who} (WentByLines.does_line first old new courses course before steps went is) known =
    seen_both known courses (course ∷ []) before steps (way_names went known)
    (seen_line (given_last known courses) course steps is.names)
