use Rattle.std.proofs.Common.{◌≡◌, ◌∙◌, ℕ, ◌+◌, length, ap, ap₂}
use Rattle.std.proofs.lemmas.Result.{on_ok_weaker}
use Rattle.rr_types.specs.Groups.{Grouped}
use Rattle.rr_folders.proofs.RenewalLemmas.{decisions_long}
use Rattle.rr_folders.proofs.renewal.append.Goals as goal

pub returns-in-Ok-clause-goes_on : goal.returns-in-Ok-clause-goes_on
returns-in-Ok-clause-goes_on g c =
    let ok = c.in-Ok.ensures.ok in
    let first : c.in-Ok.group.serial ≡ c.args.journal.now.next = ap (λ (x : Grouped). x.serial) ok ∙ c.facts-serial.ensures in
    let long : length c.in-Ok.group.facts ≡ length c.args.commands.now =
    ap (λ (x : Grouped). length x.facts) ok ∙ ap length c.in_ok-facts.ensures ∙ decisions_long c.facts-serial.result c.args.commands.now in
    on_ok_weaker c.carry.result (λ p. record { nodes = p.0; node = p.1; next = p.2 ∙ ap₂ (λ (a b : ℕ). a + b) first long }) c.carry.ensures.goes_on
