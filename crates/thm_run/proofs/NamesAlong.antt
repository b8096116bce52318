-- What a line makes of the names of a hall in one thread: it is handed those that are there, and leaves what its changes make of them.
use Rattle.std.proofs.Common.{◌≡◌, ◌∙◌, ◌⊎◌, ℕ, ◌==◌, Bool, true, false, cond, List, [], ◌∷◌, ◌++◌, filter_map, fold, Some, None, refl, ap, sym, subst, inl, inr}
use Rattle.std.specs.Prelude.{slice_get}
use Rattle.std.proofs.lemmas.Bool.{eqb-true}
use Rattle.std.proofs.lemmas.List.Elements.{filter_map-append}
use Rattle.std.proofs.lemmas.List.Sums.{fold-append}
use Rattle.hp_hall.specs.Mail.{Fetches, Gives, MailStep, Notes, Posts, Takes}
use Rattle.hp_hall.specs.declared.kept.Kept.{Kept}
use Rattle.hp_hall.specs.declared.kept.Kept.TheVariants.{Heap, Names, Segments}
use Rattle.hp_hall.specs.declared.slot.TheConstants.{NAMES_SLOT}
use Rattle.hp_plain.specs.Keeping.{IsGivenBy}
use Rattle.hp_proc.specs.Doing.{Done}
use Rattle.hp_proc.specs.Doing.Done.{NamesRead}
use Rattle.hp_proc.specs.Handing.{shared_of}
use Rattle.hp_proc.specs.LinesDone.{Course, trace_of}
use Rattle.hp_proc.specs.NamesLog.{change_made}
use Rattle.hp_proc.specs.NamesOfLines.{NamesOfLine, names_after, names_read, steps_of_names}
use Rattle.hp_proc.specs.OneThread.{names_by}
use Rattle.hp_proc.specs.SharedNames.{NamesChange, SharedNames, names_with, no_changes}
use Rattle.hp_zone.specs.declared.names.Names.{Names as NamesView}
use Rattle.thm_run.proofs.LineSteps.LineMore.{trace_more}
use Rattle.thm_run.proofs.SlotAlong.{AreAlong}

module _ (who : ℕ) where
  abbrev Along : Kept → List MailStep → Kept → Type 0
  Along kept steps last = AreAlong NAMES_SLOT who kept steps last

  -- what is given beside names leaves them
  beside : (slot : ℕ) (names : NamesView) (given last : Kept) (steps : List MailStep) → (IsGivenBy who (Names names) given → ⊥)
      → (slot ≡ NAMES_SLOT → IsGivenBy who (Names names) given) → Along (cond (slot == NAMES_SLOT) given (Names names)) steps last
      → Along (Names names) steps last
  beside slot names given last steps never shown along = by_test (slot == NAMES_SLOT) refl
    where
      by_test : (b : Bool) → (slot == NAMES_SLOT) ≡ b → Along (Names names) steps last
      by_test true is = absurd (never (shown (eqb-true slot NAMES_SLOT is)))
      by_test false is = subst (λ (b : Bool). Along (cond b given (Names names)) steps last) is along

  by_test : (given names : NamesView) (last : Kept) (steps : List MailStep) (b : Bool)
      → (Along (Names given) steps last → Along (Names given) (steps_of_names steps) last)
      → (Along (Names names) steps last → Along (Names names) (steps_of_names steps) last)
      → Along (cond b (Names given) (Names names)) steps last → Along (cond b (Names given) (Names names)) (steps_of_names steps) last
  by_test given names last steps true one other along = one along
  by_test given names last steps false one other along = other along

  -- what its steps make of the names is what those on names make of them
  along_names : (names : NamesView) (last : Kept) (steps : List MailStep) → Along (Names names) steps last
      → Along (Names names) (steps_of_names steps) last
  along_names names last [] along = along
  along_names names last (Posts to frame action posted ∷ steps) along = along_names names last steps along.1
  along_names names last (Fetches frame ∷ steps) along = along_names names last steps along.1
  along_names names last (Notes note ∷ steps) along = along_names names last steps along.1
  along_names names last (Takes slot (Heap heap pen) ∷ steps) along = along_names names last steps along.1
  along_names names last (Takes slot (Segments segs) ∷ steps) along = along_names names last steps along.1
  along_names names last (Takes slot (Names taken) ∷ steps) along = (along.0, along_names names last steps along.1)
  along_names names last (Gives slot (Heap heap pen) ∷ steps) along =
      along_names names last steps (beside slot names (Heap heap pen) last steps (λ wrong. wrong) along.0 along.1)
  along_names names last (Gives slot (Segments segs) ∷ steps) along =
      along_names names last steps (beside slot names (Segments segs) last steps (λ wrong. wrong) along.0 along.1)
  along_names names last (Gives slot (Names given) ∷ steps) along =
      (along.0, by_test given names last steps (slot == NAMES_SLOT) (along_names given last steps) (along_names names last steps) along.1)

-- a trace reads no names, or first of all these, and no others
abbrev pub ReadsOnce : NamesView → List Done → Type 0
ReadsOnce names trace =
    (names_read trace ≡ []) ⊎ ((rest : List Done) × (trace ≡ NamesRead (shared_of names) ∷ rest) × (names_read rest ≡ []))

-- what a line leaves of the names that were there
pub record LeavesNames (names : NamesView) (trace : List Done) (last : Kept) : Type 0 where
  pub given : NamesView
  pub last_is : last ≡ Names given
  pub leaves : shared_of given ≡ names_after (shared_of names) trace
  pub reads : ReadsOnce names trace
  pub sockets : given.heaps.sockets ≡ names.heaps.sockets

same_view : (one other : NamesView) → Names one ≡ Names other → one ≡ other
same_view one other same = cc

pub line_leaves : (who : ℕ) (names : NamesView) (trace : List Done) (steps : List MailStep) (last : Kept) → NamesOfLine trace steps
    → AreAlong NAMES_SLOT who (Names names) steps last → LeavesNames names trace last
line_leaves who names trace steps last (NamesOfLine.none nothing unread unchanged) along =
    let kept = subst (λ (own : List MailStep). AreAlong NAMES_SLOT who (Names names) own last) nothing (along_names who names last steps along) in
    record {
      given = names;
      last_is = kept;
      leaves = sym (ap (λ (changes : List NamesChange). fold names_with (shared_of names) changes) unchanged);
      reads = inl unread;
      sockets = refl;
    }
line_leaves who names trace steps last (NamesOfLine.once taken given rest two is unread changed) along =
    let kept = subst (λ (own : List MailStep). AreAlong NAMES_SLOT who (Names names) own last) two (along_names who names last steps along) in
    let same : taken ≡ names = same_view taken names (kept.0 refl) in
    record {
      given = given;
      last_is = kept.1.1;
      leaves = changed
          ∙ ap (λ (names : NamesView). names_after (shared_of names) rest) same
          ∙ sym (ap (names_after (shared_of names)) is);
      reads = inr (rest, is ∙ ap (λ (names : NamesView). NamesRead (shared_of names) ∷ rest) same, unread);
      sockets = (kept.1.0 refl).sockets;
    }

-- what lines leave with one more
pub names_more : (courses : List Course) (course : Course) → names_by (courses ++ course ∷ []) ≡ names_after (names_by courses) course.trace
names_more courses course =
    ap (λ (trace : List Done). fold names_with no_changes (filter_map change_made trace)) (trace_more courses course)
    ∙ ap (fold names_with no_changes) (filter_map-append change_made (trace_of courses) course.trace)
    ∙ fold-append names_with no_changes (filter_map change_made (trace_of courses)) (filter_map change_made course.trace)
