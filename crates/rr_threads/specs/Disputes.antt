-- Decisions against a node's own.
use Rattle.std.specs.Prelude.{ℕ, if◌then◌else◌, List, slice_get, Option, None, Some}
use Rattle.rr_types.specs.Commands.{is_same_command}
use Rattle.rr_types.specs.declared.command.Command.{Command}
use Rattle.rr_types.specs.declared.message.Body.{Body}
use Rattle.rr_types.specs.declared.message.Body.TheVariants.{Decision}
use Rattle.rr_types.specs.declared.message.Message.{Message}
use Rattle.rr_threads.specs.declared.disputing.Dispute.{Dispute}

-- what a decision that is heard disputes of what is decided for its instance, if something is: it disputes another command
abbrev pub dispute_over : ℕ → Command → Option Command → Option Dispute
dispute_over i heard None = None
dispute_over i heard (Some own) = if is_same_command own heard then None else Some (record { instance = i; own = own; heard = heard })

-- what a message that says this disputes of a list of decided commands. Decisions alone dispute
abbrev pub disputed_by : List Command → Body → Option Dispute
disputed_by list (Decision i heard) = dispute_over i heard (slice_get list i)
disputed_by list body = None

abbrev pub dispute_in : List Command → Message → Option Dispute
dispute_in list message = disputed_by list message.body
