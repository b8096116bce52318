-- How a pass is kept. No public clause cites this module.
use Rattle.std.specs.Prelude.{◌≡◌, ℕ, ◌==◌, [], ◌∷◌, Some, None}
use Rattle.atomic_table.specs.Seated.{TableId}
use Rattle.crossbeam_queue.specs.Passes.{view}
use Rattle.hp_mail.specs.declared.pass.Pass.TheInside.{Inside}
use Rattle.hp_mail.specs.PassView.{PassView}
use Rattle.hp_mail.specs.Views.{participants_of, sender_of}

abbrev pub pass_view : Inside → PassView
pass_view a = record {
  mailbox = a.token.table_id;
  who = (sender_of (view a.token)).who;
  posted = (sender_of (view a.token)).posted;
  fetches = (view a.token).fetches;
  fetched = (view a.token).fetched;
  participants = participants_of (view a.token);
}

-- a pass as it was dealt, and the owner's when all are dealt, and so many are
abbrev pub dealt_pass : TableId → ℕ → ℕ → PassView
dealt_pass id owner who = record { mailbox = id; who = who; posted = []; fetches = who == owner; fetched = []; participants = None }

abbrev pub with_participants : ℕ → PassView → PassView
with_participants participants pass = record pass { participants = Some participants }

-- its token has one sender, its participant, and no slot of the queue is out with it
pub record IsPass (a : Inside) : Type 0 where
  pub one : (view a.token).senders ≡ sender_of (view a.token) ∷ []
  pub who : a.who ≡ (sender_of (view a.token)).who
  pub out : a.token.me.1 ≡ []
