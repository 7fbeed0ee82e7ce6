use Rattle.std.proofs.Common.{◌≡◌, ◌∷◌, [], ◌++◌, arith}
use Rattle.std.proofs.lemmas.List.{length_push}
use Rattle.std.proofs.lemmas.Result.{err_from_is_err_and}
use Rattle.rr_frame.specs.declared.stop.Stop.TheVariants as stops
use Rattle.rr_frame.specs.GroupFormat.{facts_at}
use Rattle.rr_frame.proofs.Loops.{facts_go_on, facts_stop, facts_end}
use Rattle.rr_frame.proofs.group.read_facts.Goals as goal

pub returns-in_err-fact-clause-read : goal.returns-in_err-fact-clause-read
returns-in_err-fact-clause-read c =
    let p = err_from_is_err_and c.from_residual-in_err-fact.result c.from_residual-in_err-fact.ensures.1 in
    rw (p.1, p.2) (facts_stop c.args.version (stops.Malformed c.in_err-fact.field-0.0) c.loop.facts.items c.args.count c.loop.counter c.loop.reader (facts_at c.args.version c.args.count c.args.reader.now) c.loop-test.true c.in_err-fact.ensures c.loop.invariant.read)

pub returns-clause-read : goal.returns-clause-read
returns-clause-read c = facts_end c.args.version c.loop.facts.items c.args.count c.loop.counter c.loop.reader (facts_at c.args.version c.args.count c.args.reader.now) c.loop-test.false c.loop.invariant.read

pub loop-preserved : goal.loop-preserved
loop-preserved c =
    let f = c.in_ok-fact.fact in
    let e : c.push.new.self.items ≡ c.loop.facts.items ++ f ∷ [] = c.in_ok-push.ensures.items in
    record {
      read = rw e (facts_go_on c.args.version c.loop.facts.items c.args.count c.loop.counter c.loop.reader f c.read_fact.new.reader (facts_at c.args.version c.args.count c.args.reader.now) c.loop-test.true c.in_ok-fact.ensures c.loop.invariant.read);
      count = rw e (omega (arith, length_push c.loop.facts.items f, c.loop.invariant.count));
    }
