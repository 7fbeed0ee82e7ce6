use Rattle.std.proofs.Common.{false, ap}
use Rattle.rr_model.specs.NodeState.{NodeState}
use Rattle.rr_core.proofs.PoolLemmas.{combined_none}
use Rattle.rr_core.proofs.step.Changes.clear.Goals as goal

pub returns-clause-value : goal.returns-clause-value
returns-clause-value c = combined_none c.args.base.now (record { rows = _; staged = _; taken = _; pooled = _; suspects = _; watches = _; waiting = _; owed = _; spent = c.base.inside.is_spent; front = false; settled = c.base.inside.is_settled }) c.clear.ensures.items c.clear-2.ensures.items c.clear-3.ensures.items c.clear-4.ensures.items (ap (λ (s : NodeState). s.suspects) c.base.view_is) (ap (λ (s : NodeState). s.watches) c.base.view_is) c.clear-5.ensures.items c.clear-6.ensures.items
