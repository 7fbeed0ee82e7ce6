-- What an open instance owes the coordinator of its round: its estimate, or its acknowledgement.
use Rattle.std.specs.Prelude.{ℕ, if◌then◌else◌, Some, [], ◌∷◌, nat_lt}
use Rattle.rr_types.specs.declared.message.Body.TheVariants as say
use Rattle.rr_types.specs.Rounds.{OpenAt, coordinator_of}
use Rattle.rr_model.specs.NodeState.{NodeState}
use Rattle.rr_model.specs.NodeParts.{owe, backing_at}

-- what an open instance owes the coordinator of its round: its estimate, or its acknowledgement where it has adopted
unfoldable pub owe_coordinator : ℕ → OpenAt → NodeState → NodeState
owe_coordinator i o s =
    if nat_lt o.stamp o.round
    then owe (say.Estimate i (record { round = o.round; stamp = o.stamp; command = o.estimate }))
    (Some (backing_at (λ b. b.entered) s i)) (coordinator_of o.round s.nodes ∷ []) s
    else owe (say.Ack i o.round) (Some (backing_at (λ b. b.adopted) s i)) (coordinator_of o.round s.nodes ∷ []) s
