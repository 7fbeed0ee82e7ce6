-- What a look gives behind looks that told nothing is what the wait gives.
use Rattle.std.proofs.Common.{Ok, Err, subst, sym}
use Rattle.std.proofs.lemmas.Result.{err_from_is_err_and}
use Rattle.rr_client.specs.Asking.{IsLookedFor, IsAwaited}
use Rattle.rr_client.proofs.Waits.{awaited_on, looked_last, quiet_on}
use Rattle.rr_client.proofs.seated.Caller.look_until.Goals as goal

pub returns-in_err-awaited : goal.returns-in_err-awaited
returns-in_err-awaited g c =
    let p = err_from_is_err_and c.from_residual-in_err-awaited.result c.from_residual-in_err-awaited.ensures.1 in
    rw p.1 (awaited_on c.args.prefix.now c.args.self.now c.looks.self c.look_once.new.self (Err p.0) c.looks.invariant
    (subst (λ e. IsAwaited c.args.prefix.now c.looks.self c.look_once.new.self (Err e)) (sym p.2) c.in_err-awaited.ensures))

pub returns-in-Some-2 : goal.returns-in-Some-2
returns-in-Some-2 g c =
    looked_last c.args.prefix.now c.is_zero.result c.args.self.now c.looks.self c.look_once.new.self c.in-Some-2.awaited c.looks.invariant
    (subst (λ r. IsLookedFor c.args.prefix.now c.is_zero.result c.looks.self c.look_once.new.self (Ok r)) c.in-Some-2.is c.in_ok-awaited.ensures)

pub looks-preserved : goal.looks-preserved
looks-preserved g c =
    let quiet = subst (λ r. IsLookedFor c.args.prefix.now c.is_zero.result c.looks.self c.look_once.new.self (Ok r)) c.in_default.is c.in_ok-awaited.ensures in
    quiet_on c.args.prefix.now c.args.self.now c.looks.self c.look_once.new.self c.looks.invariant quiet.1
