use Rattle.std.proofs.Common.{ap}
use Rattle.rr_text.specs.declared.report.ReportLine.TheVariants as line
use Rattle.rr_sim.proofs.Alone.{open_begins, open_goes_on, open_ends, where_some, where_none}
use Rattle.rr_sim.proofs.opening.open.Goals as goal

pub loop-call-init : goal.loop-call-init
loop-call-init c = open_begins c.args.seat c.step.new.self c.step.result c.requires.stands c.requires.down c.step.ensures.gives c.step.ensures.spelt

pub returns-in-Some : goal.returns-in-Some
returns-in-Some c =
    record {
      opens = open_ends c.args.node c.args.seat c.loop-call.seat c.open_on.new.seat c.loop-call._call c.in-Some.facts c.in-Some.decided c.in-Some.names
          (line.Restart c.args.node c.in-Some.facts c.in-Some.decided c.in_ok-bindings.bindings) c.loop-call.invariant c.loop-call-test.true c.requires.down
          (λ n p left goes. where_some _ _ c.in_ok-facts.field-0 (c.in-Some.facts, c.in-Some.decided, c.in-Some.names) c.in-Some.is (c.in_ok-facts.ensures.calls n p left goes))
          c.in_ok-facts.ensures.spelt (ap (λ names. line.Restart c.args.node c.in-Some.facts c.in-Some.decided names) c.in_ok-bindings.ensures.ok);
    }

pub loop-call-preserved : goal.loop-call-preserved
loop-call-preserved c =
    open_goes_on c.args.seat c.loop-call.seat c.open_on.new.seat c.loop-call._call c.loop-call.invariant c.loop-call-test.true
    (λ n p left goes. where_none _ _ c.in_ok-facts.field-0 c.in_default.not-Some (c.in_ok-facts.ensures.calls n p left goes)) c.in_ok-facts.ensures.spelt
