use Rattle.std.proofs.Common.{rules}
use Rattle.rr_account.proofs.table.json_statistics.Goals as goal

pub returns-clause-some : goal.returns-clause-some
returns-clause-some c = record { statistics = c.args.statistics.now; text_is = search rules }

pub returns-clause-shown : goal.returns-clause-shown
returns-clause-shown c = λ account are. record { statistics = c.args.statistics.now; are = are; text_is = search rules }
