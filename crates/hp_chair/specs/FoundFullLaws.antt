-- What is known of a full mailbox lasts from state to state of a hall with one seat.
use Rattle.std.proofs.Common.{◌≡◌, ◌⊎◌, ⊎_elim, ℕ, List, [], ◌∷◌, ◌++◌, sym, ap, subst, ◌∙◌}
use Rattle.std.proofs.lemmas.List.{append-nil, append_assoc}
use Rattle.hp_mail.specs.PassView.{MailboxView}
use Rattle.hp_hall.specs.Mail.{MailStep}
use Rattle.hp_chair.specs.FoundEmptyLaws.{alone_at, nothing_among, split_at}
use Rattle.hp_chair.specs.FoundFull.{AllWentByRoom, WentByRoom}

module _ (who : ℕ) (boxes : List MailboxView) (before : List MailStep) where
  -- no step among none, and one step alone
  pub none_went : AllWentByRoom who boxes before []
  none_went step first rest is = absurd (nothing_among first rest step is)

  pub one_went : (step : MailStep) → WentByRoom who boxes before step → AllWentByRoom who boxes before (step ∷ [])
  one_went step went other first rest is =
      let alone = alone_at step other first rest is in
      subst (λ (l : List MailStep). WentByRoom who boxes l other)
      (sym (append-nil before) ∙ ap (λ (l : List MailStep). before ++ l) (sym alone.0))
      (subst (WentByRoom who boxes before) alone.1 went)

  -- steps that go on after others
  pub went_then : (here next : List MailStep) → AllWentByRoom who boxes before here → AllWentByRoom who boxes (before ++ here) next
      → AllWentByRoom who boxes before (here ++ next)
  went_then here next was after step first rest is =
      ⊎_elim
      (λ (among : (l : List MailStep) × (here ≡ first ++ step ∷ l)). was step first among.0 among.1)
      (λ (later : (l : List MailStep) × (first ≡ here ++ l) × (next ≡ l ++ step ∷ rest)).
      subst (λ (l : List MailStep). WentByRoom who boxes l step)
      (append_assoc before here later.0 ∙ ap (λ (l : List MailStep). before ++ l) (sym later.1)) (after step later.0 rest later.2))
      (split_at here next first rest step is)
