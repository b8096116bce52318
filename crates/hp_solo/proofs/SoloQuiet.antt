-- Participants that serve one after another, as long as nothing moves.
use Rattle.std.proofs.Common.{◌≡◌, ◌≢◌, ℕ, ◌+◌, ◌<◌, ◌≤◌, ◌⊎◌, false, List, [], ◌++◌, length, set, Option, Some, None, refl, sym, ap, subst, ◌∙◌, ⊎_elim, inl, inr, arith}
use Rattle.std.specs.Prelude.{IsSome, is_some}
use Rattle.std.specs.List.{slice_get}
use Rattle.std.proofs.lemmas.Bool.{cases_lt}
use Rattle.std.proofs.lemmas.List.{append-nil}
use Rattle.std.proofs.lemmas.Option.{same_Some, slice_get_within}
use Rattle.hp_plain.proofs.Slotted.{slice_get-set_same}
use Rattle.hp_frame.specs.declared.frame.Frame.{Frame}
use Rattle.hp_plain.specs.Course.{done_then}
use Rattle.hp_plain.specs.HallView.{HallView, HasDone}
use Rattle.hp_hall.specs.Mail.{MailStep}
use Rattle.hp_plain.specs.Boxes.{box_of}
use Rattle.hp_serve.specs.Party.{Party}
use Rattle.hp_solo.specs.Solo.{FindsNothing, HasNothingToDo, HaveNotStopped, IsBetween, IsIdle, IsQuiet, AloneView, SoloView, looks_and_finds_nothing, party_in, server_at}

-- before anybody has served
pub quiet_first : (from : ℕ) (hall : SoloView) → IsQuiet (IsBetween from from) hall hall
quiet_first from hall = record {
  idle = λ who server between there going. absurd (omega (arith, between.0, between.1));
  boxes = λ going. refl;
  empty = λ going who between some. absurd (omega (arith, between.0, between.1));
}

-- a number before another one, or that one
pub below_or_same : (number who : ℕ) → who < number + 1 → (who < number) ⊎ (who ≡ number)
below_or_same number who below =
    ⊎_elim (λ (before : who < number). inl before) (λ (past : number ≤ who). inr (omega arith)) (cases_lt who number)

-- those from one number on were quiet, and then the next one
module _ (from number : ℕ) (a b c : SoloView) (begun : from ≤ number) (clock : c.plain.clock ≡ b.plain.clock)
    (before : HasDone a.plain b.plain number [])
    (there : server_at b.servers number ≡ server_at a.servers number)
    (others : (who : ℕ) → who ≢ number → HasDone b.plain c.plain who [])
    (stay : (who : ℕ) → who ≢ number → server_at c.servers who ≡ server_at b.servers who) (first : IsQuiet (IsBetween from number) a b)
    (next : IsQuiet (λ who. who ≡ number) b c) where
  idle_more : (who : ℕ) (server : AloneView) → IsBetween from (number + 1) who → server_at a.servers who ≡ Some server
      → server.stopped ≡ false → IsIdle a c who server
  idle_more who server between is going =
      ⊎_elim
      (λ (below : who < number).
      let apart : who ≢ number = λ same. absurd (omega (arith, below, same)) in
      let idle : IsIdle a b who server = first.idle who server (between.0, below) is going in
      let looks = looks_and_finds_nothing who b.plain.clock in
      let same : looks ++ [] ≡ looks_and_finds_nothing who c.plain.clock = append-nil looks ∙ ap (looks_and_finds_nothing who) (sym clock) in
      record {
        stays = stay who apart ∙ idle.stays;
        looked = λ some.
            subst (λ (steps : List MailStep). HasDone a.plain c.plain who steps) same
            (done_then a.plain b.plain c.plain who looks [] (idle.looked some) (others who apart));
      })
      (λ (same : who ≡ number).
      let was : HasDone a.plain b.plain who [] = subst (λ (n : ℕ). HasDone a.plain b.plain n []) (sym same) before in
      let kept : server_at b.servers who ≡ server_at a.servers who =
      subst (λ (n : ℕ). server_at b.servers n ≡ server_at a.servers n) (sym same) there in
      let idle : IsIdle b c who server = next.idle who server same (kept ∙ is) going in
      record {
        stays = idle.stays;
        looked = λ some. done_then a.plain b.plain c.plain who [] (looks_and_finds_nothing who c.plain.clock) was (idle.looked some);
      })
      (below_or_same number who between.1)

  going_first : HaveNotStopped (IsBetween from (number + 1)) a.servers → HaveNotStopped (IsBetween from number) a.servers
  going_first going who server between is = going who server (between.0, omega (arith, between.1)) is

  going_next : HaveNotStopped (IsBetween from (number + 1)) a.servers → HaveNotStopped (λ who. who ≡ number) b.servers
  going_next going who server same is =
      going who server (omega (arith, same, begun), omega (arith, same))
      (sym (subst (λ (n : ℕ). server_at b.servers n ≡ server_at a.servers n) (sym same) there) ∙ is)

  empty_more : HaveNotStopped (IsBetween from (number + 1)) a.servers → (who : ℕ) → IsBetween from (number + 1) who
      → IsSome (party_in (server_at a.servers who)) → box_of c.plain.boxes who ≡ []
  empty_more going who between some =
      ⊎_elim
      (λ (below : who < number).
      ap (λ (boxes : List (List Frame)). box_of boxes who) (next.boxes (going_next going))
      ∙ first.empty (going_first going) who (between.0, below) some)
      (λ (same : who ≡ number).
      let kept : server_at b.servers who ≡ server_at a.servers who =
      subst (λ (n : ℕ). server_at b.servers n ≡ server_at a.servers n) (sym same) there in
      next.empty (going_next going) who same (subst (λ (o : Option AloneView). IsSome (party_in o)) (sym kept) some))
      (below_or_same number who between.1)

  pub quiet_more : IsQuiet (IsBetween from (number + 1)) a c
  quiet_more = record {
    idle = idle_more;
    boxes = λ going. next.boxes (going_next going) ∙ first.boxes (going_first going);
    empty = empty_more;
  }

there_within : (servers : List AloneView) (who : ℕ) (server : Option AloneView) → server_at servers who ≡ server → IsSome (party_in server)
    → who < length servers
there_within servers who None is some = cc
there_within servers who (Some server) is some = slice_get_within servers who server is

-- those of a side are those of its numbers that the hall has
pub quiet_beside : (beside between : ℕ → Type 0) (old new : SoloView) → ((who : ℕ) → between who → beside who)
    → ((who : ℕ) → beside who → who < length old.servers → between who) → IsQuiet between old new → IsQuiet beside old new
quiet_beside beside between old new wide narrow quiet =
    let going : HaveNotStopped beside old.servers → HaveNotStopped between old.servers =
    λ all who server is there. all who server (wide who is) there in
    record {
      idle = λ who server is there still. quiet.idle who server (narrow who is (slice_get_within old.servers who server there)) there still;
      boxes = λ all. quiet.boxes (going all);
      empty = λ all who is some. quiet.empty (going all) who (narrow who is (there_within old.servers who (server_at old.servers who) refl some)) some;
    }

-- where nothing is to be done the mailboxes are as they were, and who is there finds nothing
nothing_boxes : (old new : HallView) (party : Option Party) → HasNothingToDo old new party → new.boxes ≡ old.boxes
nothing_boxes old new None nothing = ap (λ (hall : HallView). hall.boxes) nothing
nothing_boxes old new (Some party) nothing = nothing.boxes

nothing_found : (old new : HallView) (who : ℕ) (party : Option Party) → ((there : Party) → party ≡ Some there → there.me ≡ who)
    → HasNothingToDo old new party → IsSome party → FindsNothing old new who
nothing_found old new who None numbered nothing some = cc
nothing_found old new who (Some party) numbered nothing some = subst (FindsNothing old new) (numbered party refl) nothing

-- one that had nothing to do stands where it stood
module _ (old new : HallView) (servers : List AloneView) (number : ℕ) (server after : AloneView) (there : slice_get servers number ≡ Some server)
    (numbered : (party : Party) → server.party ≡ Some party → party.me ≡ number) (stays : server.stopped ≡ false → after ≡ server)
    (nothing : server.stopped ≡ false → HasNothingToDo old new server.party) where
  here : (who : ℕ) (other : AloneView) → who ≡ number → server_at servers who ≡ Some other → server ≡ other
  here who other same is = same_Some server other (sym there ∙ ap (server_at servers) (sym same) ∙ is)

  found : server.stopped ≡ false → IsSome server.party → FindsNothing old new number
  found going some = nothing_found old new number server.party numbered (nothing going) some

  idle : (who : ℕ) (other : AloneView) → who ≡ number → server_at servers who ≡ Some other → other.stopped ≡ false
      → IsIdle (record { plain = old; servers = servers }) (record { plain = new; servers = set servers number after }) who other
  idle who other same is still =
      let one : server ≡ other = here who other same is in
      let going : server.stopped ≡ false = ap (λ (s : AloneView). s.stopped) one ∙ still in
      record {
        stays = ap (server_at (set servers number after)) same
            ∙ slice_get-set_same servers number after (slice_get_within servers number server there)
            ∙ ap Some (stays going ∙ one);
        looked = λ some. subst (λ (n : ℕ). HasDone old new n (looks_and_finds_nothing n new.clock)) (sym same)
            (found going (ap (λ (s : AloneView). is_some s.party) one ∙ some)).did;
      }

  pub quiet_one : IsQuiet (λ who. who ≡ number) (record { plain = old; servers = servers })
      (record { plain = new; servers = set servers number after })
  quiet_one = record {
    idle = idle;
    boxes = λ going. nothing_boxes old new server.party (nothing (going number server refl there));
    empty = λ going who same some. subst (λ (n : ℕ). box_of new.boxes n ≡ []) (sym same)
        (found (going number server refl there)
        (ap (λ (o : Option AloneView). is_some (party_in o)) (sym there ∙ ap (server_at servers) (sym same)) ∙ some)).empty;
  }
