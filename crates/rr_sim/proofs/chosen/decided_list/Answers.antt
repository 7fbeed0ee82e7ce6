use Rattle.std.proofs.Common.{◌<◌, ℕ, length, vec_len, subst, sym, ◌∙◌}
use Rattle.std.specs.Ordering.{nat_cmp}
use Rattle.std.specs.BTreeMap.{get}
use Rattle.rr_model.specs.Sound.{IsChosen}
use Rattle.rr_sim.proofs.ChosenLemmas.{proposals_from, fewer_left, chosen_push, is_longest, chosen_found, none_found}
use Rattle.rr_sim.proofs.chosen.decided_list.Goals as goal

pub loop-command-smaller : goal.loop-command-smaller
loop-command-smaller c =
    let wire = c.args.wire.now in
    let chosen = chosen_found c.args.nodes wire (get nat_cmp c.in_ok-found.found) c.in_ok-found.ensures.chosen c.len.result (vec_len c.loop-command.list) c.in-Some.command.now c.len.ensures (sym c.in-Some.ensures.value) in
    subst (λ (k : ℕ). proposals_from k wire < proposals_from (vec_len c.loop-command.list) wire) (sym c.in_ok-push.ensures.len) (fewer_left c.args.nodes wire (vec_len c.loop-command.list) c.in-Some.command.now chosen)

pub loop-command-preserved : goal.loop-command-preserved
loop-command-preserved c =
    let wire = c.args.wire.now in
    let chosen = chosen_found c.args.nodes wire (get nat_cmp c.in_ok-found.found) c.in_ok-found.ensures.chosen c.len.result (length c.loop-command.list.items) c.in-Some.command.now (c.len.ensures ∙ c.loop-command.list.ok.0) (sym c.in-Some.ensures.value) in
    rw c.in_ok-push.ensures.items (chosen_push c.args.nodes wire c.loop-command.list.items c.in-Some.command.now c.loop-command.invariant chosen)

pub returns : goal.returns
returns c =
    record {
      list = is_longest c.args.nodes c.args.wire.now c.loop-command.list.items c.loop-command.invariant
          (λ v h. none_found _ c.in_default.ensures.value (c.in_ok-found.ensures.all c.len.result v (subst (λ (k : ℕ). IsChosen c.args.nodes c.args.wire.now k v) (sym (c.len.ensures ∙ c.loop-command.list.ok.0)) h)));
    }
