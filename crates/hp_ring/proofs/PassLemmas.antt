-- How passes are made, take, and meet.
use Rattle.std.proofs.Common.{◌≡◌, ℕ, zero, suc, ◌+◌, true, List, [], ◌∷◌, ◌++◌, map, append_assoc, append-nil, refl, sym, ap, subst, ◌∙◌, arith}
use Rattle.std.specs.Prelude.{Option, Some, None, IfNone, IfSome, Result, Ok, Err, OnErr, OnOk}
use Rattle.std.specs.List.{range_with_len, Contains}
use Rattle.std.proofs.lemmas.List.FromFn.{map-range_with_len_more}
use Rattle.atomic_table.specs.Seated.{TableId}
use Rattle.crossbeam_queue.specs.Fifo.{Held}
use Rattle.crossbeam_queue.specs.Passes.{view}
use Rattle.hp_ring.specs.declared.send_pass.SendPass.TheInside.{Inside}
use Rattle.hp_ring.specs.declared.view.Sender.{Sender}
use Rattle.hp_ring.specs.declared.view.View.{View}
use Rattle.hp_ring.specs.declared.take_pass.TakePass.TheInside.{Inside as TakeInside}
use Rattle.hp_ring.specs.Bulks.{BulkView, bulk, bulks_of}
use Rattle.hp_ring.specs.PassInside.{send_view, take_view}
use Rattle.hp_ring.specs.PassViews.{AreSenders, RingView, SendView, WasEmpty, WasFull, new_sender, after_put as put_view, after_take as take_after}
use Rattle.hp_ring.specs.Views.{HasAllOf, HasTakenTo, Shows, ShowsBoth, after_put, after_take, both_senders, first_view, sender, sender_of, with_sender}
use Rattle.hp_ring.proofs.OfSender.{bulks_of-append}

-- a pass that was dealt is the sender's
pub new_is : (a : Inside) (id : TableId) (who : ℕ) → a.token.table_id ≡ id → view a.token ≡ first_view who → send_view a ≡ new_sender id who
new_is a id who table is = λ i. record { ring = table i; who = (sender_of (is i)).who; sent = (sender_of (is i)).sent }

-- the passes so far, and one more
pub dealt-push : (id : TableId) (who : ℕ) → map (new_sender id) (range_with_len 0 (who + 1)) ≡ map (new_sender id) (range_with_len 0 who) ++ new_sender id who ∷ []
dealt-push id who = map-range_with_len_more (new_sender id) 0 who who (omega arith)

first_in : {A : Type 0} (x : A) (xs : List A) → Contains (x ∷ xs) x
first_in x xs = (0, omega arith, refl)

in_tail : {A : Type 0} (x : A) (xs : List A) (y : A) → Contains xs y → Contains (x ∷ xs) y
in_tail x xs y has = let inside = has.1 in (suc has.0, omega (arith, inside), has.2)

-- of these passes, all but the first ones, which are left, went into a view with their senders
pub record HasGathered (all rest : List SendView) (v : View) : Type 0 where
  pub gone : List SendView
  pub parts : all ≡ rest ++ gone
  pub has : (pass : SendView) → Contains gone pass → Contains v.senders (sender pass.who pass.sent)

pub gathered_none : (all : List SendView) (v : View) → HasGathered all all v
gathered_none all v = record {
  gone = [];
  parts = sym (append-nil all);
  has = λ pass has. absurd (let inside = has.1 in omega (arith, inside));
}

-- a pass that went, in a list with its first
has_more : (first : SendView) (gone : List SendView) (v : View) → ((pass : SendView) → Contains gone pass → Contains v.senders (sender pass.who pass.sent))
    → (pass : SendView) → Contains (first ∷ gone) pass → Contains (sender first.who first.sent ∷ v.senders) (sender pass.who pass.sent)
has_more first gone v had pass (zero, inside, is) =
    subst (λ (p : SendView). Contains (sender first.who first.sent ∷ v.senders) (sender p.who p.sent)) is (first_in (sender first.who first.sent) v.senders)
has_more first gone v had pass (suc k, inside, is) =
    in_tail (sender first.who first.sent) v.senders (sender pass.who pass.sent) (had pass (k, omega (arith, inside), is))

pub gathered_more : (all old rest : List SendView) (last : SendView) (v w : View) → old ≡ rest ++ last ∷ [] → w ≡ with_sender (sender last.who last.sent) v
    → HasGathered all old v → HasGathered all rest w
gathered_more all old rest last v w is now gathered = record {
  gone = last ∷ gathered.gone;
  parts = gathered.parts ∙ (ap (λ (l : List SendView). l ++ gathered.gone) is ∙ append_assoc rest (last ∷ []) gathered.gone);
  has = subst (λ (u : View). (pass : SendView) → Contains (last ∷ gathered.gone) pass → Contains u.senders (sender pass.who pass.sent)) (sym now)
      (has_more last gathered.gone v gathered.has);
}

-- none is left
pub gathered_all : (all rest : List SendView) (v : View) → rest ≡ [] → HasGathered all rest v
    → (pass : SendView) → Contains all pass → Contains v.senders (sender pass.who pass.sent)
gathered_all all rest v none gathered pass has =
    gathered.has pass (subst (λ (l : List SendView). Contains l pass) (gathered.parts ∙ ap (λ (l : List SendView). l ++ gathered.gone) none) has)

-- the passes of all senders are the ring's
pub rings_are : (ring : RingView) (passes : List SendView) (id : TableId) → AreSenders ring passes → ring.id ≡ id
    → (pass : SendView) → Contains passes pass → pass.ring ≡ id
rings_are ring passes id are same pass has =
    sym (ap (λ (p : SendView). p.ring) has.2) ∙ (are.ring_is has.0 pass has.1 ∙ same)

-- the one sender of a pass was taken in
pub gathered_one : (v w : View) → w.senders ≡ sender_of w ∷ [] → both_senders v w ≡ with_sender (sender (sender_of w).who (sender_of w).sent) v
gathered_one v w one = λ i. record v { senders = one i ++ v.senders }

-- a bulk was put
pub put_is : (a b : Inside) (x : BulkView) (words : List ℕ) → b.token.table_id ≡ a.token.table_id → view b.token ≡ after_put x (view a.token)
    → x ≡ bulk (sender_of (view a.token)).who words → send_view b ≡ put_view (bulk (sender_of (view a.token)).who words) (send_view a)
put_is a b x words table is bulk_is =
    (λ i. record { ring = table i; who = (sender_of (is i)).who; sent = (sender_of (is i)).sent })
    ∙ ap (λ (y : BulkView). put_view y (send_view a)) bulk_is

-- nothing was put
pub nothing_put : (a b : Inside) → b.token.table_id ≡ a.token.table_id → view b.token ≡ view a.token → send_view b ≡ send_view a
nothing_put a b table is = λ i. record { ring = table i; who = (sender_of (is i)).who; sent = (sender_of (is i)).sent }

-- there was no room for it
pub was_full : (ring : RingView) (a : Inside) (n : ℕ) → n ≡ ring.slots → (view a.token).senders ≡ sender_of (view a.token) ∷ []
    → Held n (Shows (view a.token)) → WasFull ring (send_view a)
was_full ring a n slots one held =
    let shows = held.2 in (
      held.0,
      held.1 ∙ slots,
      record {
        before = shows.before;
        in_order = shows.in_order (sender_of (view a.token))
            (subst (λ (l : List Sender). Contains l (sender_of (view a.token))) (sym one) (first_in (sender_of (view a.token)) []));
      },
    )

-- by the two outcomes of a put
pub on_ok : {T E : Type 0} (r : Result T E) (P Q : Type 0) → (P → Q) → OnOk r P → OnOk r Q
on_ok (Ok x) P Q so is = so is
on_ok (Err e) P Q so is = tt

pub on_err : {T E : Type 0} (r : Result T E) (P Q : Type 0) → (P → Q) → OnErr r P → OnErr r Q
on_err (Ok x) P Q so is = tt
on_err (Err e) P Q so is = so is

-- a bulk was taken, where there was one
pub took_is : (a b : TakeInside) (taken : Option BulkView) → b.token.table_id ≡ a.token.table_id
    → IfSome taken (λ x. view b.token ≡ after_take x (view a.token)) → IfSome taken (λ x. take_view b ≡ take_after x (take_view a))
took_is a b None table is = tt
took_is a b (Some x) table is = λ i. record { ring = table i; taken = (is i).taken }

-- where there was none, nothing was taken
pub took_none : (a b : TakeInside) (taken : Option BulkView) → b.token.table_id ≡ a.token.table_id
    → IfNone taken ((view b.token ≡ view a.token) × Held 0 (Shows (view a.token))) → IfNone taken ((take_view b ≡ take_view a) × WasEmpty (take_view a))
took_none a b None table had =
    let same = had.0 in (
      (λ i. record { ring = table i; taken = (same i).taken }),
      ([], refl, ((λ (who : ℕ). bulks_of who ((take_view a).taken ++ [])), λ (who : ℕ). refl)),
    )
took_none a b (Some x) table had = tt

-- what was taken of a sender, and then what is there of it, is what it has put
pub met : (s : Sender) (v : View) → v.takes ≡ true → ShowsBoth s v → (bulks : List BulkView) × (bulks_of s.who v.taken ++ bulks_of s.who bulks ≡ s.sent)
met s v takes both =
    let bulks = both.0 in
    let shows = both.1 in
    (bulks, sym (bulks_of-append s.who v.taken bulks) ∙ (ap (λ taken. bulks_of s.who (taken ++ bulks)) (sym (shows.taken takes)) ∙ shows.in_order s (first_in s v.senders)))

-- bulks that were taken, one after another
pub taken_none : (v : View) → v.takes ≡ true → HasTakenTo v v []
taken_none v takes = record { takes = takes; senders = refl; taken = sym (append-nil v.taken) }

pub taken_more : (old mid new : View) (bulks more : List BulkView) (x : BulkView) → HasTakenTo old mid bulks → new ≡ after_take x mid → more ≡ bulks ++ x ∷ []
    → HasTakenTo old new more
taken_more old mid new bulks more x had is more_is = record {
  takes = ap (λ (v : View). v.takes) is ∙ had.takes;
  senders = ap (λ (v : View). v.senders) is ∙ had.senders;
  taken = ap (λ (v : View). v.taken) is ∙ (ap (λ (l : List BulkView). l ++ x ∷ []) had.taken ∙ (append_assoc old.taken bulks (x ∷ []) ∙ ap (λ (l : List BulkView). old.taken ++ l) (sym more_is)));
}

-- none was left then
pub taken_all : (old new : View) (bulks rest : List BulkView) → HasTakenTo old new bulks → rest ≡ [] → Shows new rest → HasAllOf old bulks
taken_all old new bulks rest had none shows s has =
    sym (append-nil (bulks_of s.who (old.taken ++ bulks)))
    ∙ (ap (λ (l : List BulkView). bulks_of s.who l ++ []) (sym had.taken ∙ sym (shows.taken had.takes))
    ∙ (ap (λ (l : List BulkView). bulks_of s.who shows.before ++ bulks_of s.who l) (sym none)
    ∙ (sym (bulks_of-append s.who shows.before rest) ∙ shows.in_order s (subst (λ (l : List Sender). Contains l s) (sym had.senders) has))))
