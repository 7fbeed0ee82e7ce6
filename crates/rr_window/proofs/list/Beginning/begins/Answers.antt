use Rattle.std.proofs.Common.{◌≤◌, length, List, ap, subst, arith}
use mathlib.Core.List.{IsPrefix}
use Rattle.rr_types.specs.declared.command.Command.{Command}
use Rattle.rr_window.specs.Lists.{Beginning}
use Rattle.rr_window.proofs.Beginnings.{shorter_begins}
use Rattle.rr_window.proofs.list.Beginning.begins.Goals as goal

pub returns : goal.returns
returns c =
    let both = c.learn.new.self.log in
    let this : IsPrefix c.self.inside.seen.log both = subst (λ (l : List Command). IsPrefix l both) (ap (λ s. s.log) c.again-both.ensures) c.learn.ensures.2 in
    let less : length c.self.inside.seen.log ≤ length c.other.inside.seen.log = omega (arith, ap (λ (b : Beginning). length b.list) c.self.view_is, ap (λ (b : Beginning). length b.list) c.other.view_is, c.requires.shorter) in
    subst (λ (b : Beginning). IsPrefix b.list c.args.other.now.list) c.self.view_is
    (subst (λ (b : Beginning). IsPrefix c.self.inside.seen.log b.list) c.other.view_is (shorter_begins c.self.inside.seen.log c.other.inside.seen.log both this c.learn.ensures.3 less))
