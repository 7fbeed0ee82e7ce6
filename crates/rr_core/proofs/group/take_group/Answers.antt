use Rattle.std.proofs.Common.{◌<◌, ◌^◌, sym, ◌∙◌, subst}
use Rattle.std.proofs.lemmas.Bool.{false≢true}
use Rattle.rr_model.specs.NodeState.{NodeState, next_number}
use Rattle.rr_core.proofs.GroupLemmas.{front_fits}
use Rattle.rr_core.proofs.group.take_group.Goals as goal

pub unreachable-requires : goal.unreachable-requires
unreachable-requires c =
    let staging = c.state.inside.unmarked in
    let P : NodeState → Type 0 = λ s. next_number s < 2 ^ 64 in
    let room = subst P (sym c.state.view_is) c.requires in
    false≢true (c.in-Err.ensures.valid.1 (front_fits c.state.inside.marked_end c.count.result staging.running staging.staged c.in_ok-facts.facts.items (sym c.is_running.ensures ∙ c.if-is_running.false) c.count.ensures c.if-count-eq0.false c.in_ok-facts.ensures.ok room))
