use Rattle.rr_sim.proofs.Alone.{refused_for_want, call_made, ended_is}
use Rattle.rr_sim.proofs.opening.open_on.Goals as goal

pub want_of_memory-requires : goal.want_of_memory-requires
want_of_memory-requires c = let o = c.requires in refused_for_want o.0 o.1 o.2 c.args.seat.now c.step.new.self c.in-Err.refusal o.3 c.in-Err.ensures.gives

pub returns-in-Ok-clause-calls : goal.returns-in-Ok-clause-calls
returns-in-Ok-clause-calls c n p left o =
    ended_is n p left c.args.seat.now c.step.new.self c.in-Ok.outcome c.ended_by.result (call_made n p left c.args.seat.now c.step.new.self c.in-Ok.outcome o c.in-Ok.ensures.gives c.in-Ok.ensures.spelt) c.ended_by.ensures
