-- What was done while a heap was in hand: it told the coordinator of no run, and read no statistics. And a tree comes back to itself by nothing.
use Rattle.std.proofs.Common.{◌≡◌, ◌∙◌, ℕ, List, [], ◌∷◌, ◌++◌, append-nil, filter_map, fold, Option, Some, None, refl, ap, sym, subst}
use Rattle.std.proofs.lemmas.List.Elements.{filter_map-append}
use Rattle.hp_hall.specs.Mail.{MailStep}
use Rattle.hp_zone.specs.declared.names.Names.{Names as NamesView}
use Rattle.hp_proc.specs.Acting.{Acts}
use Rattle.hp_proc.specs.Doing.{Doing, Done, Goes, Leads}
use Rattle.hp_proc.specs.Doing.Doing.{Ended, Then}
use Rattle.hp_proc.specs.Handing.{shared_of}
use Rattle.hp_proc.specs.NamesLog.{change_made}
use Rattle.hp_proc.specs.NamesOfLines.{AreUntold, ChangesNames, names_read}
use Rattle.hp_proc.specs.ParticipantView.{ParticipantView}
use Rattle.hp_proc.specs.SharedNames.{NamesChange, SharedNames, names_with}
use Rattle.hp_proc.proofs.LawLemmas.{leads_on}
use Rattle.hp_proc.proofs.LinesOrdered.{read_on, untold_both}

-- A TREE COMES BACK BY NOTHING

pub no_return : (doing : Doing) (done : Done) (trace : List Done) → Leads doing (done ∷ trace) doing → ⊥
unfolding Leads Goes
no_return (Ended given) done trace leads = leads
no_return (Then deed next) done [] (given, is, leads) =
    no_return (next given) done [] (leads_on (next given) [] (done ∷ []) (Then deed next) (next given) leads (given, is, refl))
no_return (Then deed next) done (other ∷ trace) (given, is, leads) =
    no_return (next given) other (trace ++ done ∷ [])
    (leads_on (next given) (other ∷ trace) (done ∷ []) (Then deed next) (next given) leads (given, is, refl))

pub still_leads : (doing : Doing) (trace : List Done) → Leads doing trace doing → trace ≡ []
still_leads doing [] leads = refl
still_leads doing (done ∷ trace) leads = absurd (no_return doing done trace leads)

-- WITH A HEAP IN HAND

some_none : {X : Type 0} (x : X) (xs : List X) → x ∷ xs ≡ [] → ⊥
some_none x xs none = cc

none_parts : {X : Type 0} (first rest : List X) → first ++ rest ≡ [] → (first ≡ []) × (rest ≡ [])
none_parts [] rest none = (refl, none)
none_parts (x ∷ first) rest none = cc

module _ (count : ℕ) where
  -- who has none, and takes none, has none
  no_heap : (hand last : Option ℕ) (held : List ℕ) (doer after : ParticipantView) (trace : List Done) (steps : List MailStep)
      → Acts count hand last held doer after trace steps → held ≡ [] → hand ≡ None → last ≡ None
  no_heap _ _ _ _ _ _ _ (Acts.nothing hand doer) none is = is
  no_heap _ _ _ _ _ _ _ (Acts.changes_names hand doer change) none is = is
  no_heap _ _ _ _ _ _ _ (Acts.and_then hand between last held more doer mid after first rest before behind here there) none is =
      let parts = none_parts held more none in
      no_heap between last more mid after rest behind there parts.1 (no_heap hand between held doer mid first before here parts.0 is)
  no_heap _ _ _ _ _ _ _ _ none is = cc

  -- who has one to the end, and takes none, tells of no run
  pub untold_in_hand : (hand last : Option ℕ) (held : List ℕ) (doer after : ParticipantView) (trace : List Done) (steps : List MailStep)
      → Acts count hand last held doer after trace steps → held ≡ [] → (heap end : ℕ) → hand ≡ Some heap → last ≡ Some end → AreUntold trace
  untold_in_hand _ _ _ _ _ _ _ (Acts.nothing hand doer) none heap end is ends = tt
  untold_in_hand _ _ _ _ _ _ _ (Acts.makes_call doer at call answer whole) none heap end is ends = (tt, tt)
  untold_in_hand _ _ _ _ _ _ _ (Acts.cuts_run doer at addr run taken) none heap end is ends = (tt, tt)
  untold_in_hand _ _ _ _ _ _ _ (Acts.asks_pages doer after asked run steps does) none heap end is ends = (tt, tt)
  untold_in_hand _ _ _ _ _ _ _ (Acts.changes_names hand doer change) none heap end is ends = (tt, tt)
  untold_in_hand _ _ _ _ _ _ _ (Acts.looks_at_segs doer at taken) none heap end is ends = tt
  untold_in_hand _ _ _ _ _ _ _ (Acts.plans_range doer at addr len page taken) none heap end is ends = (tt, tt)
  untold_in_hand _ _ _ _ _ _ _ (Acts.claims doer at chunk taken plan) none heap end is ends = (tt, (tt, (tt, tt)))
  untold_in_hand _ _ _ _ _ _ _ (Acts.releases doer at chunk taken) none heap end is ends = (tt, (tt, tt))
  untold_in_hand _ _ _ _ _ _ _ (Acts.maps_chunk doer at chunk after ended maps) none heap end is ends = (tt, tt)
  untold_in_hand _ _ _ _ _ _ _ (Acts.shares doer at chunk its) none heap end is ends = (tt, tt)
  untold_in_hand _ _ _ _ _ _ _ (Acts.leaves doer at chunk after leaves) none heap end is ends = (tt, tt)
  untold_in_hand _ _ _ _ _ _ _ (Acts.and_then hand between last held more doer mid after first rest before behind here there) none heap end is ends =
      let parts = none_parts held more none in
      by_hand between refl
      (λ missing. no_heap between last more mid after rest behind there parts.1 missing)
      (λ at there_is. untold_in_hand hand between held doer mid first before here parts.0 heap at is there_is)
      (λ at there_is. untold_in_hand between last more mid after rest behind there parts.1 at end there_is ends)
    where
      none_is : None ≡ Some end → ⊥
      none_is same = cc

      by_hand : (at : Option ℕ) → between ≡ at → (between ≡ None → last ≡ None) → ((at : ℕ) → between ≡ Some at → AreUntold first)
          → ((at : ℕ) → between ≡ Some at → AreUntold rest) → AreUntold (first ++ rest)
      by_hand None missing ended front behind = absurd (none_is (sym (ended missing) ∙ ends))
      by_hand (Some at) there_is ended front behind = untold_both first rest (front at there_is) (behind at there_is)
  untold_in_hand _ _ _ _ _ _ _ _ none heap end is ends = absurd (cc)

-- WHAT FOLLOWS AMONG THE NAMES

-- more that has to do with no names follows
pub changes_quiet : (names given : NamesView) (first rest : List Done) → ChangesNames names given first → filter_map change_made rest ≡ []
    → names_read rest ≡ [] → AreUntold rest → ChangesNames names given (first ++ rest)
changes_quiet names given first rest changes none unread untold = record {
  changed = changes.changed
      ∙ sym (ap (λ (made : List NamesChange). fold names_with (shared_of names) made)
      (filter_map-append change_made first rest
      ∙ (ap (λ (more : List NamesChange). filter_map change_made first ++ more) none ∙ append-nil (filter_map change_made first))));
  unread = read_on first rest ∙ (ap (λ (some : List SharedNames). some ++ names_read rest) changes.unread ∙ unread);
  untold = untold_both first rest changes.untold untold;
}

-- what was done of nothing before it and after it makes no difference
pub changes_between : (names given : NamesView) (first mid last : List Done) → first ≡ [] → last ≡ [] → ChangesNames names given mid
    → ChangesNames names given ((first ++ mid) ++ last)
changes_between names given first mid last none end changes =
    subst (λ (first : List Done). ChangesNames names given ((first ++ mid) ++ last)) (sym none)
    (subst (λ (last : List Done). ChangesNames names given (mid ++ last)) (sym end)
    (subst (λ (trace : List Done). ChangesNames names given trace) (sym (append-nil mid)) changes))

-- it did nothing with them
pub changes_none : (names : NamesView) → ChangesNames names names []
changes_none names = record { changed = refl; unread = refl; untold = tt }
