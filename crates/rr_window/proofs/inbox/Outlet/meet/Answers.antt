use Rattle.std.proofs.Common.{◌∙◌}
use Rattle.rr_window.proofs.Moves.{merges, meets, parts, two}
use Rattle.rr_window.proofs.inbox.Outlet.meet.Goals as goal

pub absorb-requires-clause-rule : goal.absorb-requires-clause-rule
absorb-requires-clause-rule g c = merges _ _ _ _

pub learn_as-requires-clause-rule : goal.learn_as-requires-clause-rule
learn_as-requires-clause-rule g c = meets _ _ (two _ _ _ c.absorb.ensures.rule c.self.invariant.1 c.port.invariant.1)

pub another-pass-requires-clause-rule : goal.another-pass-requires-clause-rule
another-pass-requires-clause-rule g c = parts _ _ (two _ _ _ (c.learn_as.ensures.queue.1 ∙ c.absorb.ensures.rule) c.self.invariant.1 c.port.invariant.1)
