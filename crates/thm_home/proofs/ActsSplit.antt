-- What is done of a line before it reads statistics, and what after.
use Rattle.std.proofs.Common.{◌≡◌, ◌≢◌, ◌∙◌, ℕ, List, [], ◌∷◌, ◌++◌, append_assoc, Option, None, ⊎_elim, refl, ap, sym, subst}
use Rattle.std.specs.Prelude.{⊤}
use Rattle.std.specs.List.{AllByRecursion}
use Rattle.std.proofs.lemmas.List.{append_cancel_left}
use Rattle.hp_chair.specs.FoundEmptyLaws.{nothing_among, split_at, tail_of}
use Rattle.hp_hall.specs.Mail.{MailStep, Notes}
use Rattle.hp_hall.specs.declared.note.Note.TheVariants.{ReadStats}
use Rattle.hp_proc.specs.Acting.{Acts}
use Rattle.hp_proc.specs.Doing.{Counted, Done}
use Rattle.hp_proc.specs.Doing.Done.{StatsRead}
use Rattle.hp_proc.specs.Handing.{counted_in}
use Rattle.hp_proc.specs.NamesOfLines.{AreUntold}
use Rattle.hp_proc.specs.ParticipantView.{ParticipantView}
use Rattle.hp_stats.specs.declared.stat_pair.StatPair.{StatPair}

-- it read no statistics
abbrev pub IsNoRead : Done → Type 0
IsNoRead (StatsRead heap counted) = ⊥
IsNoRead _ = ⊤

none_read : (trace first rest : List Done) (index : ℕ) (counted : Counted) → AllByRecursion IsNoRead trace
    → trace ≡ first ++ StatsRead index counted ∷ rest → ⊥
none_read trace first rest index counted none is = later first (subst (AllByRecursion IsNoRead) is none)
  where
    later : (first : List Done) → AllByRecursion IsNoRead (first ++ StatsRead index counted ∷ rest) → ⊥
    later [] none = none.0
    later (done ∷ first) none = later first none.1

-- who has the names in hand reads none
untold_reads : (trace : List Done) → AreUntold trace → AllByRecursion IsNoRead trace
untold_reads [] untold = tt
untold_reads (StatsRead heap counted ∷ trace) untold = absurd untold.0
untold_reads (_ ∷ trace) untold = (tt, untold_reads trace untold.1)

-- what stands after a place in one of two lists goes on with the other
pub rest_is : (trace other first more rest : List Done) (done : Done) → trace ≡ first ++ done ∷ more → trace ++ other ≡ first ++ done ∷ rest
    → more ++ other ≡ rest
rest_is trace other first more rest done here whole =
    ap tail_of
    (append_cancel_left first (done ∷ (more ++ other)) (done ∷ rest)
    (sym (append_assoc first (done ∷ more) other) ∙ (ap (λ (l : List Done). l ++ other) (sym here) ∙ whole)))

-- with the steps that were made by then, and the heaps that were taken
pub record IsSplit (count : ℕ) (hand fin : Option ℕ) (held : List ℕ) (doer after : ParticipantView) (index : ℕ) (first rest : List Done)
    (counted : Counted) (steps : List MailStep) : Type 0 where
  pub pair : StatPair
  pub is : counted ≡ counted_in pair
  pub mid : ParticipantView
  pub early : List ℕ
  pub late : List ℕ
  pub held_are : held ≡ early ++ late
  pub before : List MailStep
  pub behind : List MailStep
  pub steps_are : steps ≡ before ++ Notes (ReadStats index pair) ∷ behind
  pub one : Acts count hand None early doer mid first before
  pub two : Acts count None fin late mid after rest behind

reads_here : (count : ℕ) (doer : ParticipantView) (heap index : ℕ) (pair : StatPair) (counted : Counted) (rest : List Done) → heap ≡ index
    → counted ≡ counted_in pair → [] ≡ rest
    → IsSplit count None None [] doer doer index [] rest counted (Notes (ReadStats heap pair) ∷ [])
reads_here count doer heap index pair counted rest same is none = record {
  pair = pair;
  is = is;
  mid = doer;
  early = [];
  late = [];
  held_are = refl;
  before = [];
  behind = [];
  steps_are = ap (λ (one : ℕ). Notes (ReadStats one pair) ∷ []) same;
  one = Acts.nothing None doer;
  two = subst (λ (trace : List Done). Acts count None None [] doer doer trace []) none (Acts.nothing None doer);
}

-- in the first of two things, or in the second
module _ (count : ℕ) (hand between fin : Option ℕ) (held more : List ℕ) (doer mid after : ParticipantView) (begun ended : List Done)
    (before behind : List MailStep) (index : ℕ) (counted : Counted) where
  split_early : (first left rest : List Done) → left ++ ended ≡ rest → IsSplit count hand between held doer mid index first left counted before
      → Acts count between fin more mid after ended behind
      → IsSplit count hand fin (held ++ more) doer after index first rest counted (before ++ behind)
  split_early first left rest is early two = record {
    pair = early.pair;
    is = early.is;
    mid = early.mid;
    early = early.early;
    late = early.late ++ more;
    held_are = ap (λ (l : List ℕ). l ++ more) early.held_are ∙ append_assoc early.early early.late more;
    before = early.before;
    behind = early.behind ++ behind;
    steps_are = ap (λ (l : List MailStep). l ++ behind) early.steps_are
        ∙ append_assoc early.before (Notes (ReadStats index early.pair) ∷ early.behind) behind;
    one = early.one;
    two = subst (λ (trace : List Done). Acts count None fin (early.late ++ more) early.mid after trace (early.behind ++ behind)) is
        (Acts.and_then None between fin early.late more early.mid mid after left ended early.behind behind early.two two);
  }

  split_late : (first left rest : List Done) → first ≡ begun ++ left → IsSplit count between fin more mid after index left rest counted behind
      → Acts count hand between held doer mid begun before
      → IsSplit count hand fin (held ++ more) doer after index first rest counted (before ++ behind)
  split_late first left rest is late one = record {
    pair = late.pair;
    is = late.is;
    mid = late.mid;
    early = held ++ late.early;
    late = late.late;
    held_are = ap (λ (l : List ℕ). held ++ l) late.held_are ∙ sym (append_assoc held late.early late.late);
    before = before ++ late.before;
    behind = late.behind;
    steps_are = ap (λ (l : List MailStep). before ++ l) late.steps_are
        ∙ sym (append_assoc before late.before (Notes (ReadStats index late.pair) ∷ late.behind));
    one = subst (λ (trace : List Done). Acts count hand None (held ++ late.early) doer late.mid trace (before ++ late.before)) (sym is)
        (Acts.and_then hand between None held late.early doer mid late.mid begun left before late.before one late.one);
    two = late.two;
  }

-- where a line reads statistics
pub acts_split : {count : ℕ} {hand fin : Option ℕ} {held : List ℕ} {doer after : ParticipantView} {trace : List Done} {steps : List MailStep}
    → Acts count hand fin held doer after trace steps → (index : ℕ) (first rest : List Done) (counted : Counted)
    → trace ≡ first ++ StatsRead index counted ∷ rest → IsSplit count hand fin held doer after index first rest counted steps
acts_split (Acts.nothing hand doer) index first rest counted is = absurd (nothing_among first rest (StatsRead index counted) is)
acts_split (Acts.waits_turn until doer after moved steps turned) index first rest counted is =
    absurd (nothing_among first rest (StatsRead index counted) is)
acts_split (Acts.takes_heap doer heap pen few) index first rest counted is =
    absurd (nothing_among first rest (StatsRead index counted) is)
acts_split (Acts.sees_heap doer heap pen few) index first rest counted is = absurd (none_read _ first rest index counted (tt, tt) is)
acts_split (Acts.gives_heap doer heap pen) index first rest counted is = absurd (nothing_among first rest (StatsRead index counted) is)
acts_split (Acts.makes_call doer its call answer uncut) index first rest counted is = absurd (none_read _ first rest index counted (tt, tt) is)
acts_split (Acts.cuts_run doer its addr run segs) index first rest counted is = absurd (none_read _ first rest index counted (tt, tt) is)
acts_split (Acts.asks_pages doer after asked run steps does) index first rest counted is =
    absurd (none_read _ first rest index counted (tt, tt) is)
acts_split (Acts.notifies_run doer after its run steps does) index first rest counted is =
    absurd (none_read _ first rest index counted (tt, tt) is)
acts_split (Acts.attaches doer after segs caught tried) index first rest counted is =
    absurd (none_read _ first rest index counted (tt, (tt, tt)) is)
acts_split (Acts.detaches doer segs told above left bare heard) index first rest counted is =
    absurd (nothing_among first rest (StatsRead index counted) is)
acts_split (Acts.notes_left doer elements) index first rest counted is = absurd (nothing_among first rest (StatsRead index counted) is)
acts_split (Acts.reads_names doer names) index first rest counted is = absurd (none_read _ first rest index counted (tt, tt) is)
acts_split (Acts.holds_names held doer after names given trace steps does changes) index first rest counted is =
    absurd (none_read _ first rest index counted (tt, untold_reads trace changes.untold) is)
acts_split (Acts.changes_names hand doer change) index first rest counted is =
    absurd (none_read _ first rest index counted (tt, tt) is)
acts_split (Acts.looks_at_segs doer its segs) index first rest counted is =
    absurd (nothing_among first rest (StatsRead index counted) is)
acts_split (Acts.plans_range doer its addr len page segs) index first rest counted is =
    absurd (none_read _ first rest index counted (tt, tt) is)
acts_split (Acts.claims doer its chunk segs planned) index first rest counted is =
    absurd (none_read _ first rest index counted (tt, (tt, (tt, tt))) is)
acts_split (Acts.releases doer its chunk segs) index first rest counted is =
    absurd (none_read _ first rest index counted (tt, (tt, tt)) is)
acts_split (Acts.maps_chunk doer its chunk maps ended also) index first rest counted is =
    absurd (none_read _ first rest index counted (tt, tt) is)
acts_split (Acts.shares doer its chunk also) index first rest counted is = absurd (none_read _ first rest index counted (tt, tt) is)
acts_split (Acts.leaves doer its chunk maps also) index first rest counted is = absurd (none_read _ first rest index counted (tt, tt) is)
acts_split (Acts.looks_up_lines doer other lines) index first rest counted is = absurd (nothing_among first rest (StatsRead index counted) is)
acts_split {count} (Acts.reads_stats doer heap pair) index [] rest counted is =
    let heaps : heap ≡ index = cc in
    let its : counted ≡ counted_in pair = cc in
    reads_here count doer heap index pair counted rest heaps its (ap tail_of is)
acts_split (Acts.reads_stats doer heap pair) index (done ∷ first) rest counted is =
    absurd (nothing_among first rest (StatsRead index counted) (ap tail_of is))
acts_split {count} (Acts.and_then hand between fin held more doer mid after begun ended before behind one two) index first rest counted is =
    ⊎_elim
    (λ (early : (left : List Done) × (begun ≡ first ++ StatsRead index counted ∷ left)).
    split_early count hand between fin held more doer mid after begun ended before behind index counted first early.0 rest
    (rest_is begun ended first early.0 rest (StatsRead index counted) early.1 is)
    (acts_split one index first early.0 counted early.1) two)
    (λ (late : (left : List Done) × (first ≡ begun ++ left) × (ended ≡ left ++ StatsRead index counted ∷ rest)).
    split_late count hand between fin held more doer mid after begun ended before behind index counted first late.0 rest late.1
    (acts_split two index late.0 rest counted late.2) one)
    (split_at begun ended first rest (StatsRead index counted) is)
