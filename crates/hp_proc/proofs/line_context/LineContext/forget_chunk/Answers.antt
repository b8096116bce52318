-- Without one each stands before those after it.
use Rattle.std.proofs.Common.{List, ap, subst, sym, ◌∙◌}
use Rattle.hp_proc.proofs.OwnNotes.{own_kept}
use Rattle.hp_proc.specs.Contexts.{Context, with_chunks}
use Rattle.hp_proc.specs.OwnChunks.{AreOwnChunks, is_before, without_own_chunk}
use Rattle.hp_proc.specs.declared.own_chunk.OwnChunk.{OwnChunk}
use Rattle.hp_proc.proofs.line_context.LineContext.forget_chunk.Goals as goal

pub invariant_of-self : goal.invariant_of-self
invariant_of-self c = (
  c.self.invariant.0,
  subst AreOwnChunks (sym c.leave_out.ensures) (own_kept c.args.chunk.now c.self.inside.chunks.items c.self.invariant.1),
)

pub returns : goal.returns
returns c =
    ap (λ (context : Context). with_chunks c.leave_out.new.chunks.items context) c.self.view_is
    ∙ ap (λ (chunks : List OwnChunk). with_chunks chunks c.args.self.now)
    (c.leave_out.ensures ∙ ap (λ (context : Context). without_own_chunk c.args.chunk.now context.standing.chunks) c.self.view_is)
