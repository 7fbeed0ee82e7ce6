use Rattle.std.proofs.Common.{sym}
use Rattle.rr_account.proofs.HeardLaws.{heard_back}
use Rattle.rr_account.proofs.decisions.heard_before.Goals as goal

pub returns : goal.returns
returns c =
    heard_back c.args.seen.now c.args.left c.args.place c.args.node c.args.instance c.args.round c.args.set c.joined.result c.in-Some.it c.requires.some c.requires.heard
    (sym c.in-Some.ensures) (c.is_opened.ensures c.if-is_opened.false) c.joined.ensures
