-- A command with a new number is the client's last request.
use Rattle.std.proofs.Common.{◌≡◌, ℕ, ◌+◌, ◌-◌, ◌<◌, ◌≤◌, Some, Result, inr, ap₂, sym, subst, arith}
use Rattle.rr_types.specs.declared.command.Op.{Op}
use Rattle.rr_types.specs.declared.command.RequestNo.{RequestNo}
use Rattle.rr_types.specs.declared.command.Reply.{Reply}
use Rattle.rr_types.specs.Registry.{reply_of}
use Rattle.rr_client.specs.declared.error.ClusterError.{ClusterError}
use Rattle.rr_client.specs.Asking.{Asker, ComesTo, IsSubmitted, last_request}

-- the request whose number is right below the next one
last : (b : Asker) (client n : ℕ) → b.client ≡ client → b.next ≡ n + 1 → record { client = client; seq = n } ≡ last_request b
last b client n of next =
    let seq : n ≡ b.next - 1 = omega (arith, next) in
    ap₂ (λ (c s : ℕ). record { client = c; seq = s }) (sym of) seq

pub submitted : (op : Op) (a b : Asker) (client n : ℕ) (result : Result Reply ClusterError) → b.client ≡ client → b.next ≡ n + 1 → a.next ≤ n
    → ComesTo (record { request = record { client = client; seq = n }; op = op }) b result → IsSubmitted op a b result
submitted op a b client n result of next new comes =
    inr (omega (arith, next, new), subst (λ (q : RequestNo). ComesTo (record { request = q; op = op }) b result) (last b client n of next) comes)

pub synced : (a b : Asker) (client n : ℕ) (reply : Reply) → b.client ≡ client → b.next ≡ n + 1 → a.next ≤ n
    → reply_of b.known (record { client = client; seq = n }) ≡ Some reply → (a.next < b.next) × ((r : Reply) × (reply_of b.known (last_request b) ≡ Some r))
synced a b client n reply of next new is =
    (omega (arith, next, new), (reply, subst (λ (q : RequestNo). reply_of b.known q ≡ Some reply) (last b client n of next) is))
