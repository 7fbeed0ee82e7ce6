use Rattle.std.proofs.Common.{◌∙◌, ap, length, refl, is_some}
use Rattle.rr_registry.specs.Kept.{kept_reply}
use Rattle.rr_model.specs.NodeState.{NodeState, decided_prefix}
use Rattle.rr_core.proofs.SearchLemmas.{none_waits, one_answered, none_answered}
use Rattle.rr_core.proofs.leaving.take_acknowledged.Goals as goal

pub returns-then-searched-count-clause-taken : goal.returns-then-searched-count-clause-taken
returns-then-searched-count-clause-taken c = (
  none_waits c.search_on.result.count c.search_on.result.is_stale c.args.state.now c.args.registry.now c.requires.kept
      (c.if-searched-count.true ∙ c.prefix_len-count.ensures ∙ ap (λ (s : NodeState). length (decided_prefix s)) c.state.view_is)
      c.if-not-searched.true c.search_on.ensures,
  refl,
)

pub returns-in-Some-clause-behind : goal.returns-in-Some-clause-behind
returns-in-Some-clause-behind c = one_answered c.search_on.result.count c.search_on.result.is_stale _ c.args.state.now c.take_answered.new.waiting (λ q. is_some (kept_reply c.args.registry.now q)) c.state.view_is c.in-Some.ensures.2 c.search_on.ensures

pub returns-clause-behind : goal.returns-clause-behind
returns-clause-behind c = none_answered c.prefix_len-count.result _ c.args.state.now c.args.registry.now c.take_answered.new.waiting c.state.view_is c.requires.kept c.prefix_len-count.ensures c.in_default.ensures
