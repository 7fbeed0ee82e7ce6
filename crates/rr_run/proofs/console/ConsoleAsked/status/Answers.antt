use Rattle.std.proofs.Common.{◌∙◌, ℕ, inr, sym, subst}
use Rattle.std.proofs.lemmas.Result.{IfOk-weaker}
use Rattle.rr_run.specs.Boards.{WasDown}
use Rattle.rr_run.proofs.console.ConsoleAsked.status.Goals as goal

pub returns-clause-own : goal.returns-clause-own
returns-clause-own g c =
    let gives = g.B.Board.gives in
    IfOk-weaker c.down_status-in-None.result _ _
    (λ s down. inr (down.1, subst (λ (k : ℕ). WasDown gives k) (sym down.0) (inr (c.in_ok-told.told, (_, _, c.in_ok-told.ensures.ok), sym c.summary_in.ensures ∙ c.in-None.is)), down.2))
    c.down_status-in-None.ensures
