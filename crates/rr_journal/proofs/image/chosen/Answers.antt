use Rattle.std.proofs.Common.{sym, ◌∙◌}
use Rattle.rr_journal.proofs.ChoiceLaws.{chosen_is, first_alone, second_alone}
use Rattle.rr_journal.proofs.image.chosen.Goals as goal

pub returns : goal.returns
returns c = chosen_is c.args.nodes c.args.node c.args.first.now c.args.second.now _ _ _ c.beginning_of-first.ensures c.beginning_of-second.ensures c.choose.ensures

pub returns-then-not-is_formatted : goal.returns-then-not-is_formatted
returns-then-not-is_formatted c = first_alone c.args.nodes c.args.node c.args.first.now c.args.second.now (sym c.is_formatted.ensures ∙ c.if-not-is_formatted.true)

pub returns-then-not-is_formatted-2 : goal.returns-then-not-is_formatted-2
returns-then-not-is_formatted-2 c = second_alone c.args.nodes c.args.node c.args.first.now c.args.second.now (sym c.is_formatted-2.ensures ∙ c.if-not-is_formatted-2.true)
