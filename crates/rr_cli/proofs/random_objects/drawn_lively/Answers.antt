use Rattle.std.proofs.Common.{ℕ, List, subst, sym}
use Rattle.rr_lively.specs.Lively.{IsLivelySchedule}
use Rattle.rr_cli.proofs.RandomLemmas.{read_so, unread_so}
use Rattle.rr_cli.proofs.random_objects.drawn_lively.Goals as goal

pub returns-clause-ok : goal.returns-clause-ok
returns-clause-ok g c =
    let d = c.args.numbers in
    read_so d.nodes d.seed d.steps c.args.faults c.as_slice.result.now c.parse.result
    (subst (λ (t : List ℕ). IsLivelySchedule d.nodes d.steps t) (sym c.as_slice.ensures.value) c.in_ok-text.ensures.ok) c.parse.ensures.found

pub returns-clause-err : goal.returns-clause-err
returns-clause-err g c =
    let d = c.args.numbers in
    unread_so d.nodes d.steps c.as_slice.result.now c.parse.result
    (subst (λ (t : List ℕ). IsLivelySchedule d.nodes d.steps t) (sym c.as_slice.ensures.value) c.in_ok-text.ensures.ok) c.parse.ensures.only
