use Rattle.std.proofs.Common.{IsTrue, take, ◌∙◌}
use Rattle.std.proofs.lemmas.List.Elements.{All-more, All-weaker}
use Rattle.rr_registry.specs.Tables.{has_places}
use Rattle.rr_registry.proofs.FreeLemmas.{free_known}
use Rattle.rr_registry.proofs.tables.Tables.make_all_places.Goals as goal

pub loop-command-preserved : goal.loop-command-preserved
loop-command-preserved c =
    let commands = c.args.commands.now in
    let place : IsTrue (has_places c.make_places.new.self c.command-item.result) = c.in_ok-make_places.ensures.made in
    record {
      kept = c.make_places.ensures.kept ∙ c.loop-command.invariant.kept;
      count = c.make_places.ensures.count ∙ c.loop-command.invariant.count;
      made =
          All-more (λ x. IsTrue (has_places c.make_places.new.self x)) commands c.loop-command.command-index c.command-item.result c.loop-command-test.true
          (All-weaker (λ x. IsTrue (has_places c.loop-command.self x)) (λ x. IsTrue (has_places c.make_places.new.self x)) c.make_places.ensures.stay (take c.loop-command.command-index commands) c.loop-command.invariant.made)
          (rw (← c.command-item.is) place);
      free = free_known c.make_places.new.self commands c.loop-command.command-index c.command-item.result c.loop-command-test.true c.command-item.is (c.make_places.ensures.free commands c.loop-command.invariant.free);
    }

pub returns-in_err-make_places-clause-free : goal.returns-in_err-make_places-clause-free
returns-in_err-make_places-clause-free c =
    let commands = c.args.commands.now in
    free_known c.make_places.new.self commands c.loop-command.command-index c.command-item.result c.loop-command-test.true c.command-item.is (c.make_places.ensures.free commands c.loop-command.invariant.free)
