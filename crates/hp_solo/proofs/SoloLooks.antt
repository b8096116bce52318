-- Participants that serve one after another: each looks last into its mailbox.
use Rattle.std.proofs.Common.{◌≡◌, ◌≢◌, ℕ, ◌+◌, ◌<◌, ◌≤◌, List, [], ◌++◌, length, Option, Some, None, refl, sym, ap, subst, ◌∙◌, ⊎_elim, arith}
use Rattle.std.specs.Prelude.{IsSome}
use Rattle.std.proofs.lemmas.List.{append-nil, append_assoc}
use Rattle.std.proofs.lemmas.Option.{slice_get_within}
use Rattle.hp_plain.specs.Course.{done_then}
use Rattle.hp_plain.specs.HallView.{HallView, HasDone}
use Rattle.hp_hall.specs.Mail.{MailStep}
use Rattle.hp_serve.specs.Party.{Party}
use Rattle.hp_solo.specs.Solo.{HasLookedLast, IsLaterParty, LooksLast, LooksLastAt, AloneView, looks_and_finds_nothing, server_at}
use Rattle.hp_solo.proofs.SoloQuiet.{below_or_same}

-- who looked last into its mailbox did so where it did nothing after it, and where it had done nothing before
last_on : (a b c : HallView) (who : ℕ) → c.clock ≡ b.clock → LooksLast a b who → HasDone b c who [] → LooksLast a c who
last_on a b c who clock looked nothing =
    let looks = looked.0 ++ looks_and_finds_nothing who b.clock in
    let same : looks ++ [] ≡ looked.0 ++ looks_and_finds_nothing who c.clock =
    append-nil looks ∙ ap (λ (now : ℕ). looked.0 ++ looks_and_finds_nothing who now) (sym clock) in
    (looked.0, subst (λ (steps : List MailStep). HasDone a c who steps) same (done_then a b c who looks [] looked.1 nothing))

pub last_behind : (a b c : HallView) (who : ℕ) (steps : List MailStep) → HasDone a b who steps → LooksLast b c who → LooksLast a c who
last_behind a b c who steps did looked = (
  steps ++ looked.0,
  subst (λ (all : List MailStep). HasDone a c who all) (sym (append_assoc steps looked.0 (looks_and_finds_nothing who c.clock)))
      (done_then a b c who steps (looked.0 ++ looks_and_finds_nothing who c.clock) did looked.1),
)

last_on_at : (a b c : HallView) (who : ℕ) (server : Option AloneView) → c.clock ≡ b.clock → HasDone b c who [] → LooksLastAt a b who server
    → LooksLastAt a c who server
last_on_at a b c who None clock nothing looked = tt
last_on_at a b c who (Some server) clock nothing looked = λ going some. last_on a b c who clock (looked going some) nothing

last_behind_at : (a b c : HallView) (who : ℕ) (server : Option AloneView) → HasDone a b who [] → LooksLastAt b c who server
    → LooksLastAt a c who server
last_behind_at a b c who None nothing looked = tt
last_behind_at a b c who (Some server) nothing looked = λ going some. last_behind a b c who [] nothing (looked going some)

-- those from one number on looked last into their mailboxes, and then the next one
pub looks_more : (from number : ℕ) (a b c : HallView) (old new : List AloneView) → c.clock ≡ b.clock → HasDone a b number []
    → ((who : ℕ) → who ≢ number → HasDone b c who []) → ((who : ℕ) → who ≢ number → server_at new who ≡ server_at old who)
    → ((who : ℕ) → from ≤ who → who < number → LooksLastAt a b who (server_at old who)) → LooksLastAt b c number (server_at new number)
    → (who : ℕ) → from ≤ who → who < number + 1 → LooksLastAt a c who (server_at new who)
looks_more from number a b c old new clock before others stay so_far next who begun below =
    ⊎_elim
    (λ (earlier : who < number).
    let apart : who ≢ number = λ same. absurd (omega (arith, earlier, same)) in
    subst (LooksLastAt a c who) (sym (stay who apart))
    (last_on_at a b c who (server_at old who) clock (others who apart) (so_far who begun earlier)))
    (λ (same : who ≡ number).
    subst (λ (n : ℕ). LooksLastAt a c n (server_at new n)) (sym same) (last_behind_at a b c number (server_at new number) before next))
    (below_or_same number who below)

-- one that looked last stands at its number
pub last_one : (old new : HallView) (number : ℕ) (party after : Option Party) → ((there : Party) → party ≡ Some there → there.me ≡ number)
    → IsLaterParty party after → HasLookedLast old new party → IsSome after → LooksLast old new number
last_one old new number None None numbered later looked some = cc
last_one old new number None (Some after) numbered later looked some = absurd later
last_one old new number (Some party) None numbered later looked some = absurd later
last_one old new number (Some party) (Some after) numbered later looked some = subst (LooksLast old new) (numbered party refl) looked

-- nobody is to have looked whom the hall does not have
looks_some : (old new : HallView) (who : ℕ) (server : Option AloneView) → ((there : AloneView) → server ≡ Some there → LooksLastAt old new who server)
    → LooksLastAt old new who server
looks_some old new who None looks = tt
looks_some old new who (Some there) looks = looks there refl

pub looks_within : (old new : HallView) (servers : List AloneView) (who : ℕ)
    → (who < length servers → LooksLastAt old new who (server_at servers who)) → LooksLastAt old new who (server_at servers who)
looks_within old new servers who looks =
    looks_some old new who (server_at servers who) (λ there is. looks (slice_get_within servers who there is))
