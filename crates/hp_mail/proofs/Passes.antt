-- How passes are made, fetch, and meet.
use Rattle.std.proofs.Common.{◌≡◌, ◌≢◌, ℕ, zero, suc, ◌+◌, ◌≤◌, Bool, true, false, cond, Option, Some, None, eqb, List, [], ◌∷◌, ◌++◌, map, refl, sym, ap, subst, ◌∙◌, arith}
use Rattle.std.specs.List.{range_with_len, Contains}
use Rattle.std.proofs.lemmas.List.FromFn.{map-range_with_len_more}
use Rattle.std.proofs.lemmas.Option.{same_Some}
use Rattle.atomic_table.specs.Seated.{TableId}
use Rattle.std.specs.Prelude.{IfNone}
use Rattle.crossbeam_queue.specs.Fifo.{Held}
use Rattle.crossbeam_queue.specs.Passes.{view}
use Rattle.hp_mail.specs.declared.letter.Letter.{Letter}
use Rattle.hp_mail.specs.declared.pass.Pass.TheInside.{Inside}
use Rattle.hp_mail.specs.declared.view.Sender.{Sender}
use Rattle.hp_mail.specs.declared.view.View.{View}
use Rattle.hp_mail.specs.PassInside.{IsPass, dealt_pass, pass_view, with_participants}
use Rattle.hp_mail.specs.PassView.{HasNoStrangers, PassView, ShowsOwn, WasEmpty, WasInOrder, after_fetch}
use Rattle.hp_mail.specs.Views.{frames_of, sender_of, whole_view, first_view, only_sender, sender, IsLeft, after_get, participants_of, with_dealing, Shows, ShowsBoth}
use Rattle.hp_mail.proofs.Letters.{frames_of-append}

pub left_first : (v : View) → v ≡ whole_view → IsLeft 0 v
left_first v is = subst (IsLeft 0) (sym is) (record { senders = refl; fetched = refl; deals = refl; count = refl })

pub fetches_first : (v : View) → v ≡ whole_view → v.fetches ≡ true
fetches_first v is = subst (λ (u : View). u.fetches ≡ true) (sym is) refl

pub new_is_pass : (a : Inside) (is_owner : Bool) → view a.token ≡ first_view a.who is_owner → a.token.me.1 ≡ [] → IsPass a
new_is_pass a is_owner is out = record {
  one = subst (λ (v : View). v.senders ≡ sender_of v ∷ []) (sym is) refl;
  who = subst (λ (v : View). a.who ≡ (sender_of v).who) (sym is) refl;
  out = out;
}

-- a pass as its number, its token's queue and its token's view tell
abbrev told_pass : TableId → View → PassView
told_pass table v = record {
  mailbox = table;
  who = (sender_of v).who;
  posted = (sender_of v).posted;
  fetches = v.fetches;
  fetched = v.fetched;
  participants = participants_of v;
}

-- a pass that was dealt is the participant's
pub new_is : (a : Inside) (id : TableId) (owner : ℕ) → a.token.table_id ≡ id → view a.token ≡ first_view a.who (eqb a.who owner) → pass_view a ≡ dealt_pass id owner a.who
new_is a id owner table is = λ i. told_pass (table i) (is i)

-- a pass that took over the dealing knows how many passes there are
pub dealing_is : (a b : Inside) (their : View) → b.token.table_id ≡ a.token.table_id → view b.token ≡ with_dealing (view a.token) their
    → their.deals ≡ true → pass_view b ≡ with_participants their.dealt (pass_view a)
dealing_is a b their table is dealing =
    (λ i. told_pass (table i) (is i))
    ∙ (λ i. record (pass_view a) { participants = participants_of (record their { deals = dealing i }) })

-- the passes so far, and one more
pub dealt-push : (id : TableId) (owner who : ℕ)
    → map (dealt_pass id owner) (range_with_len 0 (who + 1)) ≡ map (dealt_pass id owner) (range_with_len 0 who) ++ dealt_pass id owner who ∷ []
dealt-push id owner who = map-range_with_len_more (dealt_pass id owner) 0 who who (omega arith)

-- a letter was fetched
pub fetched : (a b : Inside) (l : Letter) → b.token.table_id ≡ a.token.table_id → view b.token ≡ after_get l (view a.token) → pass_view b ≡ after_fetch l (pass_view a)
fetched a b l table is = λ i. told_pass (table i) (is i)

first_in : {A : Type 0} (x : A) (xs : List A) → Contains (x ∷ xs) x
first_in x xs = (0, omega arith, refl)

-- what was fetched of a sender, and then what is there of it, is what it has posted
pub met : (h : Sender) (v : View) → v.fetches ≡ true → ShowsBoth h v → (letters : List Letter) × (frames_of h.who v.fetched ++ frames_of h.who letters ≡ h.posted)
met h v fetches both =
    let letters = both.0 in
    let shows = both.1 in
    (letters, sym (frames_of-append h.who v.fetched letters) ∙ ap (λ g. frames_of h.who (g ++ letters)) (sym (shows.fetched fetches)) ∙ shows.in_order h (first_in h v.senders))

-- a view gets its sender back
pub sender_back : (v : View) (h : Sender) → v.senders ≡ h ∷ [] → record v { senders = h ∷ [] } ≡ v
sender_back v h one = λ i. record v { senders = sym one i }

-- what a pass shows of the letters that are there
pub shows_own : (a : Inside) (letters : List Letter) → IsPass a → Shows (view a.token) letters → ShowsOwn (pass_view a) letters
shows_own a letters is shows =
    let h : Sender = sender_of (view a.token) in
    record {
      before = shows.before;
      fetched = shows.fetched;
      in_order = shows.in_order h (subst (λ (hs : List Sender). Contains hs h) (sym is.one) (first_in h []));
    }

-- a pass is as before where nothing came, and the mailbox was empty
pub nothing_came : (a b : Inside) → IsPass a → b.token.table_id ≡ a.token.table_id → (view b.token ≡ view a.token) × Held 0 (Shows (view a.token))
    → (pass_view b ≡ pass_view a) × WasEmpty (pass_view a)
nothing_came a b is table came =
    let held = came.1 in
    ((λ i. told_pass (table i) (came.0 i)), (held.0, held.1, shows_own a held.0 is held.2))

pub if_none : {A : Type 0} (P : Type 0) (o : Option A) → P → IfNone o P
if_none P None holds = holds
if_none P (Some x) holds = tt

nothing_before : {A : Type 0} (xs ys : List A) → xs ++ ys ≡ [] → xs ≡ []
nothing_before [] ys none = refl
nothing_before (x ∷ xs) ys none = absurd (cc)

-- what the owner fetched of itself, and then what is there of it, is what it has posted to itself; and nothing is of who has no pass
pub met_itself : (a : Inside) (letters : List Letter) → IsPass a → (view a.token).fetches ≡ true → Shows (view a.token) letters → WasInOrder (pass_view a) (pass_view a)
met_itself a letters is fetches shows =
    let v : View = view a.token in
    let h : Sender = sender_of v in (
      letters,
      sym (frames_of-append h.who v.fetched letters) ∙ ap (λ g. frames_of h.who (g ++ letters)) (sym (shows.fetched fetches))
          ∙ shows.in_order h (subst (λ (hs : List Sender). Contains hs h) (sym is.one) (first_in h [])),
    )

known_deals : (deals : Bool) (dealt participants : ℕ) → cond deals (Some dealt) None ≡ Some participants → (deals ≡ true) × (dealt ≡ participants)
known_deals true dealt participants is = (refl, same_Some dealt participants is)
known_deals false dealt participants is = absurd (cc)

pub no_strangers : (a : Inside) (letters : List Letter) → (view a.token).fetches ≡ true → Shows (view a.token) letters → HasNoStrangers (pass_view a)
no_strangers a letters fetches shows participants knows who past =
    let v : View = view a.token in
    let deals = known_deals v.deals v.dealt participants knows in
    nothing_before (frames_of who v.fetched) (frames_of who letters)
    (sym (frames_of-append who v.fetched letters) ∙ ap (λ g. frames_of who (g ++ letters)) (sym (shows.fetched fetches))
    ∙ shows.strangers deals.0 who (omega (arith, deals.1, past)))
