use Rattle.std.proofs.Common.{List, ℕ, subst, rules}
use Rattle.rr_account.specs.Accounts.{IsAccountOn}
use Rattle.rr_cli.proofs.finishing.account_text.Goals as goal

pub returns-clause-ok : goal.returns-clause-ok
returns-clause-ok g c =
    record {
      account = c.in-Ok.account;
      is_account = subst (λ (bytes : List ℕ). IsAccountOn bytes c.in-Ok.account) (search rules) c.in-Ok.ensures.ok;
      shows = c.in_ok-text.ensures.ok;
    }
