use Rattle.std.proofs.Common.{◌≤◌, ℕ, List, rules, subst}
use Rattle.rr_types.specs.declared.message.Message.{Message}
use Rattle.rr_model.specs.Sound.{IsDecidedList}
use Rattle.rr_lively.proofs.FinishLaws.{is_finish}
use Rattle.rr_lively.proofs.finish.finish_of.Goals as goal

pub returns-clause-ok : goal.returns-clause-ok
returns-clause-ok c =
    let g = c.args.going in
    is_finish c.args.nodes g.line c.requires.read.0 g.cluster c.args.given.now g.schedule.items g.report.items c.push_decided_list.new.out.items c.in_ok-added.added.items c.in_ok-decided.decided.items
    (subst (λ (n : ℕ). 1 ≤ n) c.count-count.ensures.value c.count-count.ensures.range.0) (subst (λ (n : ℕ). n ≤ 7) c.count-count.ensures.value c.count-count.ensures.range.1)
    c.requires.line c.requires.so_far c.requires.read.1 c.requires.adds
    (subst (λ (wire : List Message). IsDecidedList c.args.nodes wire c.in_ok-decided.decided.items) c.wire.ensures c.in_ok-decided.ensures.list)
    (search rules) (search rules)
