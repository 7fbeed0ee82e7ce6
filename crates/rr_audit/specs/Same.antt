-- Whether two messages are one, field by field.
use Rattle.std.specs.Prelude.{Bool, true, false, ◌&&◌, ◌==◌}
use Rattle.rr_types.specs.declared.message.Body.{Body}
use Rattle.rr_types.specs.declared.message.Body.TheVariants.{Estimate, Proposal, Ack, Decision, Request, Nack, Beat, Suspects, Ask}
use Rattle.rr_types.specs.declared.message.Message.{Message}
use Rattle.rr_types.specs.Commands.{is_same_command}
use Rattle.rr_types.specs.Rounds.{Estimated}

-- whether two estimates are one
abbrev pub is_same_estimate : Estimated → Estimated → Bool
is_same_estimate e f = e.round == f.round && e.stamp == f.stamp && is_same_command e.command f.command

-- whether two messages say the same
abbrev pub is_same_body : Body → Body → Bool
is_same_body (Estimate i e) (Estimate j f) = i == j && is_same_estimate e f
is_same_body (Proposal i r v) (Proposal j q w) = i == j && r == q && is_same_command v w
is_same_body (Ack i r) (Ack j q) = i == j && r == q
is_same_body (Decision i v) (Decision j w) = i == j && is_same_command v w
is_same_body (Request v) (Request w) = is_same_command v w
is_same_body (Nack i r) (Nack j q) = i == j && r == q
is_same_body Beat Beat = true
is_same_body (Suspects s) (Suspects t) = s == t
is_same_body (Ask i) (Ask j) = i == j
is_same_body _ _ = false

-- whether two messages are one
abbrev pub is_same_message : Message → Message → Bool
is_same_message m o = m.from == o.from && m.to == o.to && is_same_body m.body o.body
