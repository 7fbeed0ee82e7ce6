use Rattle.std.proofs.Common.{refl}
use Rattle.rr_journal.specs.Image.{Unformatted}
use Rattle.rr_journal.specs.Stages.{first_stage}
use Rattle.rr_journal.proofs.RewriteLaws.{sized_anew}
use Rattle.rr_journal.proofs.rewrite.Rewrite.formatting.Goals as goal

pub new-requires : goal.new-requires
new-requires c = sized_anew c.args.nodes c.args.node Unformatted c.in_ok-body.body.items (first_stage c.args.closes) refl c.in_ok-body.ensures.ok
