-- What participant 0 posts, put together of its parts: the rule "Coordinating" of docs/PARTICIPANTS.md.
use Rattle.std.proofs.Common.{◌≡◌, ◌∙◌, ℕ, ◌≤◌, ◌<◌, Bool, true, false, ◌&&◌, List, [], ◌∷◌, Option, Some, refl, ap, sym, arith}
use Rattle.std.specs.Prelude.{nat_lt}
use Rattle.std.proofs.lemmas.Bool.Decides.{nat_tests}
use Rattle.hp_base.specs.Plans.{action_of}
use Rattle.hp_base.specs.declared.plan_entry.MsgKind.TheVariants as message
use Rattle.hp_core.specs.Core.{Core}
use Rattle.hp_core.specs.declared.out.Out.{Out}
use Rattle.hp_core.specs.declared.out.Out.TheVariants as out
use Rattle.hp_frame.specs.declared.frame.Frame.{Frame}
use Rattle.hp_frame.specs.declared.message.Body.TheVariants.{Sync}
use Rattle.hp_hall.specs.Mail.{MailStep, Posts}
use Rattle.hp_mail.specs.declared.posted.Posted.{Posted}
use Rattle.hp_serve.specs.Frames.{Says}
use Rattle.hp_serve.specs.Party.{Party, one_more, with_table}
use Rattle.hp_serve.specs.Posting.{AreTold, IsPosted, is_asker, is_told, result_body, sent_once_more, syncs_after, times_sent}

-- a participant with these counts of RESULTs, and of SYNCs
abbrev pub with_answers : List ℕ → Party → Party
with_answers answers party = record party { sent = record party.sent { answers = answers } }

abbrev pub with_syncs : List ℕ → Party → Party
with_syncs syncs party = record party { sent = record party.sent { syncs = syncs } }

pub posted_answer : (count : ℕ) (party after : Party) (to number what : ℕ) (good : Bool) (frame : Frame) (posted : Posted) (answers : List ℕ)
    → is_asker count to ≡ true → Says frame (result_body number what good) → answers ≡ sent_once_more party.sent.answers to
    → after ≡ with_answers answers party
    → IsPosted count party after (out.Answer to number what good)
    (Posts to frame (action_of party.plan message.Answer to (one_more (times_sent party.sent.answers to))) posted ∷ [])
posted_answer count party after to number what good frame posted answers asks says counted after_is =
    IsPosted.answers to number what good frame posted refl asks says refl (after_is ∙ ap (λ counts. with_answers counts party) counted)

pub posted_syncs : (count : ℕ) (party after : Party) (answer : Out) (generation round members : ℕ) (frame : Frame) (steps : List MailStep) (syncs : List ℕ)
    → answer ≡ out.Sync generation round members → Says frame (Sync generation round)
    → AreTold party.plan party.sent.syncs frame (is_told count members) 15 steps
    → syncs ≡ syncs_after (is_told count members) party.sent.syncs 15 → after ≡ with_syncs syncs party → IsPosted count party after answer steps
posted_syncs count party after answer generation round members frame steps syncs is says told counted after_is =
    IsPosted.syncs generation round members frame is says told (after_is ∙ ap (λ counts. with_syncs counts party) counted)

-- a participant that the hall has is an asker, and no other
asker_by : (count to : ℕ) → to < count → to < 16 → (nat_lt to count && nat_lt to 16) ≡ true
asker_by count to below few = grind (arith, nat_tests)

pub is_an_asker : (count to : ℕ) → to < count → to < 16 → is_asker count to ≡ true
is_an_asker count to below few = asker_by count to below few

none_by : (count to : ℕ) → count ≤ to → (nat_lt to count && nat_lt to 16) ≡ false
none_by count to past = grind (arith, nat_tests)

pub past_count : (count to : ℕ) → count ≤ to → is_asker count to ≡ false
past_count count to past = none_by count to past

few_by : (count to : ℕ) → 16 ≤ to → (nat_lt to count && nat_lt to 16) ≡ false
few_by count to past = grind (arith, nat_tests)

pub past_all : (count to : ℕ) → 16 ≤ to → is_asker count to ≡ false
past_all count to past = few_by count to past

pub nobody_asked : (count : ℕ) (party : Party) (to number what : ℕ) (good : Bool) → is_asker count to ≡ false
    → IsPosted count party party (out.Answer to number what good) []
nobody_asked count party to number what good none = IsPosted.nobody to number what good refl none refl refl

-- a participant with its own coordinator and table is as it was
pub table_back : (party : Party) (core : Core) → party.core ≡ Some core → with_table core party.maps party.listeners party.joined party ≡ party
table_back party core is = ap (λ (own : Option Core). record party { core = own }) (sym is)
