-- How passes are kept. No public clause cites this module.
use Rattle.std.specs.Prelude.{◌≡◌, true, [], ◌∷◌}
use Rattle.crossbeam_queue.specs.Passes.{view}
use Rattle.hp_ring.specs.declared.send_pass.SendPass.TheInside.{Inside as SendInside}
use Rattle.hp_ring.specs.declared.take_pass.TakePass.TheInside.{Inside as TakeInside}
use Rattle.hp_ring.specs.PassViews.{SendView, TakeView}
use Rattle.hp_ring.specs.Views.{sender_of}

abbrev pub send_view : SendInside → SendView
send_view a = record { ring = a.token.table_id; who = (sender_of (view a.token)).who; sent = (sender_of (view a.token)).sent }

-- its token has one sender, and no slot of the queue is out with it
pub record IsSendPass (a : SendInside) : Type 0 where
  pub one : (view a.token).senders ≡ sender_of (view a.token) ∷ []
  pub who : a.who ≡ (sender_of (view a.token)).who
  pub out : a.token.me.1 ≡ []

abbrev pub take_view : TakeInside → TakeView
take_view a = record { ring = a.token.table_id; taken = (view a.token).taken }

-- its token takes, and no slot of the queue is out with it
pub record IsTakePass (a : TakeInside) : Type 0 where
  pub takes : (view a.token).takes ≡ true
  pub none : (view a.token).senders ≡ []
  pub out : a.token.me.1 ≡ []
