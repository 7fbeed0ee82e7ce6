-- What a client is answered.
use Rattle.std.specs.Prelude.{◌≡◌, ℕ, List, Option, None, Some}
use Rattle.rr_types.specs.declared.command.Command.{Command}
use Rattle.rr_types.specs.declared.command.RequestNo.{RequestNo}
use Rattle.rr_types.specs.Registry.{registry_of, holding_of, reply_of}
use Rattle.rr_text.specs.declared.answer.Answer.{Answer}
use Rattle.rr_text.specs.declared.answer.Answer.TheVariants.{Acknowledged, Unacknowledged, Free, Bound, Unseen}
use Rattle.rr_text.specs.declared.script_line.ScriptLine.{ScriptLine}
use Rattle.rr_text.specs.declared.script_line.ScriptLine.TheVariants.{Submit, Look}

-- a client: the node that it asks, the longest list that it has seen or learned, how often it has rested while it waited for replies, and
-- the command that it has put on its counter last, to be submitted
pub record Asking : Type 0 where
  pub node : ℕ
  pub known : List Command
  pub rests : ℕ
  pub wanted : Option Command

-- an answer to a request: a reply is that of the list that the client then knows
abbrev pub IsAnswered : RequestNo → Asking → Answer → Type 0
IsAnswered q a (Acknowledged p r reply) = (p ≡ a.node) × (r ≡ q) × (reply_of a.known q ≡ Some reply)
IsAnswered q a (Unacknowledged p r) = (p ≡ a.node) × (r ≡ q)
IsAnswered q a _ = ⊥

-- an answer to a look at a name, from one list known to the next: what is seen is who has the name by the list that the
-- client then knows; where nothing is seen, it knows what it knew
abbrev pub IsSeen : List ℕ → Asking → Asking → Answer → Type 0
IsSeen name before a (Free p n) = (p ≡ a.node) × (n ≡ name) × (holding_of (registry_of a.known) name ≡ None)
IsSeen name before a (Bound p n owner value) =
    (p ≡ a.node) × (n ≡ name) × (holding_of (registry_of a.known) name ≡ Some (record { owner = owner; value = value }))
IsSeen name before a (Unseen p n) = (p ≡ a.node) × (n ≡ name) × (a ≡ before)
IsSeen name before a _ = ⊥

-- an answer to a line of a script, whichever node the line names
abbrev pub IsAnswerTo : ScriptLine → Asking → Asking → Answer → Type 0
IsAnswerTo (Submit p c) before a answer = IsAnswered c.request a answer
IsAnswerTo (Look p name) before a answer = IsSeen name before a answer

-- the command that lies on its counter once a line is asked: that of a submit; a look puts none there
abbrev pub wanted_after : ScriptLine → Asking → Option Command
wanted_after (Submit p c) a = Some c
wanted_after (Look p name) a = a.wanted
