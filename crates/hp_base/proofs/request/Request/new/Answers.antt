use Rattle.std.proofs.Common.{sym, ◌∙◌, arith}
use Rattle.hp_base.proofs.RequestLemmas.{accepted_is}
use Rattle.hp_base.proofs.request.Request.new.Goals as goal

pub invariant_of-result : goal.invariant_of-result
invariant_of-result c = record {
  accepted = accepted_is c.args.size c.in-Some.size c.args.align c.max.result c.args.bound (omega arith) c.in-Some.ensures c.max.ensures
      (sym c.is_align.ensures ∙ c.if-not-is_align.false) (sym c.is_bound.ensures ∙ c.if-not-is_bound.false) (sym c.overflows.ensures ∙ c.if-overflows.false);
}
