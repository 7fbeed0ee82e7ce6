use Rattle.std.proofs.Common.{sym, ap, subst, ◌∙◌}
use Rattle.rr_journal.specs.OpeningTable.{OpensAny}
use Rattle.rr_node.specs.Views.{NodeDisk, areas_in}
use Rattle.rr_node.proofs.doing.restart.Goals as goal

pub returns-clause-steady : goal.returns-clause-steady
returns-clause-steady c calm =
    let gave = c.start.ensures in (
      gave.whose.0,
      gave.whose.1,
      ap (λ (d : NodeDisk). d.due) gave.disk ∙ calm,
      subst (λ (d : NodeDisk). OpensAny c.args.nodes c.args.node c.start.result.phase (areas_in d)) (sym gave.disk) (gave.rests tt),
    )
