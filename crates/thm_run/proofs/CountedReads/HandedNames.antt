-- Names that a line is handed are those that were there when it began, and it is handed them before it does anything else.
use Rattle.std.proofs.Common.{◌≡◌, ◌∙◌, List, [], ◌∷◌, ◌++◌, refl, ap, sym, inl, inr}
use Rattle.hp_proc.specs.Doing.{Done}
use Rattle.hp_proc.specs.Doing.Done.{NamesRead}
use Rattle.hp_proc.specs.Handing.{shared_of}
use Rattle.hp_proc.specs.NamesOfLines.{names_read}
use Rattle.hp_proc.specs.SharedNames.{SharedNames}
use Rattle.hp_zone.specs.declared.names.Names.{Names as NamesView}
use Rattle.thm_run.proofs.NamesAlong.{ReadsOnce}

-- where no names are read none are at any place
unread_at : (first : List Done) (read : SharedNames) (rest : List Done) → names_read (first ++ NamesRead read ∷ rest) ≡ [] → ⊥
unread_at [] read rest none = cc
unread_at (NamesRead other ∷ first) read rest none = cc
unread_at (_ ∷ first) read rest none = unread_at first read rest none

-- they are read first, and are these
pub record ReadsFirst (names : NamesView) (first : List Done) (read : SharedNames) : Type 0 where
  pub none : first ≡ []
  pub its : read ≡ shared_of names

pub read_first : (names : NamesView) (trace first rest : List Done) (read : SharedNames) → ReadsOnce names trace
    → trace ≡ first ++ NamesRead read ∷ rest → ReadsFirst names first read
read_first names trace first rest read (inl none) at = absurd (unread_at first read rest (ap names_read (sym at) ∙ none))
read_first names trace [] rest read (inr (more, is, unread)) at =
    let same : NamesRead read ∷ rest ≡ NamesRead (shared_of names) ∷ more = sym at ∙ is in
    let own : read ≡ shared_of names = cc in
    record { none = refl; its = own }
read_first names trace (done ∷ first) rest read (inr (more, is, unread)) at =
    let same : done ∷ (first ++ NamesRead read ∷ rest) ≡ NamesRead (shared_of names) ∷ more = sym at ∙ is in
    let behind : first ++ NamesRead read ∷ rest ≡ more = cc in
    absurd (unread_at first read rest (ap names_read behind ∙ unread))
