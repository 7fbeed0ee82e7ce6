use Rattle.std.proofs.Common.{rules}
use Rattle.rr_lively.proofs.LivelyLaws.{so_far_same, so_far_more}
use Rattle.rr_lively.proofs.going.Going.add.Goals as goal

pub returns-then-may_stay-clause-so_far : goal.returns-then-may_stay-clause-so_far
returns-then-may_stay-clause-so_far c =
    so_far_same c.args.nodes c.args.self.now.line c.args.self.now.cluster c.args.self.now.schedule.items c.args.self.now.report.items c.requires.so_far c.args.event.now c.step_in_memory.new.self c.tell.new.self c.tell.new.text.items
    c.in_ok-step_in_memory.ensures.ok c.in_ok-tell.ensures.kept c.in_ok-tell.ensures.told (search rules) (search rules)

pub returns-clause-so_far : goal.returns-clause-so_far
returns-clause-so_far c =
    so_far_more c.args.nodes c.args.self.now.line c.args.self.now.cluster c.args.self.now.schedule.items c.args.self.now.report.items c.requires.so_far c.args.event.now c.step_in_memory.new.self c.tell.new.self c.tell.new.text.items
    c.in_ok-step_in_memory.ensures.ok c.in_ok-tell.ensures.kept c.in_ok-tell.ensures.told _ c.push_event_line.new.out.items (search rules) c.in_ok-step_in_memory.ensures.spelt c.in_ok-push_event_line.ensures.ok (search rules)
