use Rattle.hp_mempool.proofs.top_call.exercised.Goals as goal

pub returns : goal.returns
returns g c = λ i. record { objects = c.args.load.now.objects; calls = c.calls_of-calls.ensures i; home = c.in_ok-home.ensures i }
