use Rattle.std.proofs.Common.{rules}
use Rattle.rr_sim.proofs.DrawingLemmas.{is_a_schedule}
use Rattle.rr_sim.proofs.random_events.random.Goals as goal

pub of_parts-requires : goal.of_parts-requires
of_parts-requires g c =
    is_a_schedule c.args.nodes c.args.steps c.seed_from_u64-generator.result c.in_ok-cluster.cluster c.draw_all-drawn.new.events.items (search rules) (search rules) (search rules) (search rules)
