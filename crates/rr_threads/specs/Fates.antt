-- What a list of decided commands says of a command.
use Rattle.std.specs.Prelude.{Bool, if◌then◌else◌, is_some, nat_lt, List, length, Option, None, Some}
use Rattle.std.specs.List.{find}
use Rattle.rr_types.specs.Limits.{instance_count}
use Rattle.rr_types.specs.Registry.{is_same_request, reply_of}
use Rattle.rr_types.specs.Commands.{is_same_op}
use Rattle.rr_types.specs.declared.command.Command.{Command}
use Rattle.rr_types.specs.declared.command.RequestNo.{RequestNo}
use Rattle.rr_threads.specs.declared.fate.Fate.{Fate}
use Rattle.rr_threads.specs.declared.fate.Fate.TheVariants.{Decided, Used, Never, Open}

-- the first command of a list with this request number
abbrev pub first_under : RequestNo → List Command → Option Command
first_under q list = find (λ c. is_same_request c.request q) list

-- what a list says of a command whose request number it has, by the first command with that number
abbrev pub fate_under : Command → Option Command → Fate
fate_under c None = Open
fate_under c (Some first) = if is_same_op first.op c.op then Decided else Used first

-- what a list says of a command: where it has a reply to the request number, what the first command with that number says; else
-- that it is never decided if the list is full, and open if not
abbrev pub fate_of : List Command → Command → Fate
fate_of list c =
    if is_some (reply_of list c.request) then fate_under c (first_under c.request list)
    else (if nat_lt (length list) instance_count then Open else Never)
