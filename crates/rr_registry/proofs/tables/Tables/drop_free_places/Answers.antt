use Rattle.std.proofs.Common.{length, sym, ap, ◌∙◌}
use Rattle.rr_registry.proofs.FreeLemmas.{free_next}
use Rattle.rr_registry.proofs.tables.Tables.drop_free_places.Goals as goal

pub loop-command-preserved : goal.loop-command-preserved
loop-command-preserved c = record {
  kept = c.drop_places.ensures.kept ∙ c.loop-command.invariant.kept;
  count = c.drop_places.ensures.count ∙ c.loop-command.invariant.count;
  counted = c.drop_places.ensures.count ∙ c.loop-command.invariant.counted ∙ sym (ap (λ k. length k.bindings) c.drop_places.ensures.kept);
  free = free_next c.loop-command.self c.drop_places.new.self c.args.commands.now c.loop-command.command-index c.command-item.result c.loop-command-test.true c.command-item.is c.loop-command.invariant.free c.drop_places.ensures.free;
}
