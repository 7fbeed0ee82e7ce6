-- What is said to a line of a shell.
use Rattle.std.specs.Prelude.{ℕ, ◌-◌, ◌/◌, nat_le, Bool, List, [], ◌∷◌, ◌++◌, length, map, Option, None, Some, codes, decimal}
use Rattle.std.specs.List.{flat_map}
use Rattle.std.specs.Option.{option_map}
use Rattle.rr_text.specs.Words.{spaced, value_words, op_words, set_text}
use Rattle.rr_text.specs.ReportTexts.{reply_words, request_text}
use Rattle.rr_types.specs.Commands.{listed, op_form, op_word, op_kinds}
use Rattle.rr_types.specs.Limits.{instance_count}
use Rattle.rr_types.specs.declared.command.Command.{Command}
use Rattle.rr_types.specs.declared.command.RequestNo.{RequestNo}
use Rattle.rr_types.specs.declared.binding.Binding.{Binding}
use Rattle.rr_text.specs.declared.answer.Answer.{Answer}
use Rattle.rr_text.specs.declared.answer.Answer.TheVariants.{Acknowledged, Unacknowledged, Free, Bound, Unseen}
use Rattle.rr_shell.specs.declared.status.NodeStatus.{NodeStatus}
use Rattle.rr_shell.specs.declared.status.NodeTrouble.{NodeTrouble}
use Rattle.rr_shell.specs.declared.status.NodeTrouble.TheVariants.{Down, NoSnapshot, NoStart}
use Rattle.rr_types.specs.declared.summary.NodeSummary.{NodeSummary}
use Rattle.rr_shell.specs.declared.shell_line.LineFault.{LineFault}
use Rattle.rr_shell.specs.declared.shell_line.LineFault.TheVariants.{NoCommand, BadName, BadValue, BadOwner, NoNode, Behind, TooLong}
use Rattle.rr_explain.specs.declared.shell_word.ShellWord.{ShellWord}
use Rattle.rr_explain.specs.ShellWords.{shell_words, word_text, word_form, word_example, word_help, help_line}

-- a name that is bound: its owner, and its value unless that is empty
abbrev pub bound_words : List ℕ → ℕ → List ℕ → List (List ℕ)
bound_words name owner value = name ∷ codes "bound" ∷ decimal owner ∷ value_words value

-- an answer as words: the reply to a submit, or the name of a look and what was seen
abbrev pub answer_words : Answer → List (List ℕ)
answer_words (Acknowledged p q reply) = reply_words reply
answer_words (Unacknowledged p q) = codes "unacknowledged" ∷ []
answer_words (Free p name) = name ∷ codes "free" ∷ []
answer_words (Bound p name owner value) = bound_words name owner value
answer_words (Unseen p name) = name ∷ codes "unseen" ∷ []

-- the line of an answer
abbrev pub answer_line : Answer → List ℕ
answer_line a = spaced (answer_words a) ++ 10 ∷ []

-- the line that a node has learned what was acknowledged anywhere
abbrev pub synced_line : List ℕ
synced_line = codes "synced" ++ 10 ∷ []

-- the line of a bound name, which is that of the answer to a look at it
abbrev pub bound_line : Binding → List ℕ
bound_line b = spaced (bound_words b.name b.owner b.value) ++ 10 ∷ []

-- the lines of the bound names that were seen, behind one that says how many they are; or the line that none was seen
abbrev pub list_lines : Option (List Binding) → List ℕ
list_lines None = codes "list unseen" ++ 10 ∷ []
list_lines (Some names) = codes "list" ++ (32 ∷ decimal (length names)) ++ 10 ∷ [] ++ flat_map bound_line names

-- the line that a watch has begun
abbrev pub watching_line : List ℕ
watching_line = codes "watching" ++ 10 ∷ []

-- the line of a name that is bound from now on as it wasn't before
abbrev pub changed_line : Binding → List ℕ
changed_line b = codes "changed" ++ 32 ∷ bound_line b

-- the line of a name that is free from now on
abbrev pub freed_line : List ℕ → List ℕ
freed_line name = codes "freed" ++ 32 ∷ name ++ 10 ∷ []

-- that a watch is over, as changes were missed
abbrev pub late_text : List ℕ
late_text = codes "changes were missed: list the names, and watch again"

-- the line of that
abbrev pub late_line : List ℕ
late_line = codes "late: " ++ late_text ++ 10 ∷ []

-- the line that node p is asked from now on
abbrev pub move_line : ℕ → List ℕ
move_line p = codes "at" ++ (32 ∷ decimal p) ++ 10 ∷ []

-- the line that node p is down from now on
abbrev pub stop_line : ℕ → List ℕ
stop_line p = codes "stopped" ++ (32 ∷ decimal p) ++ 10 ∷ []

-- the line that node p is up from now on
abbrev pub start_line : ℕ → List ℕ
start_line p = codes "started" ++ (32 ∷ decimal p) ++ 10 ∷ []

-- the line that node p has written a snapshot
abbrev pub snapshot_line : ℕ → List ℕ
snapshot_line p = codes "snapshot" ++ (32 ∷ decimal p) ++ 10 ∷ []

-- the words that name node p
unfoldable pub node_text : ℕ → List ℕ
node_text p = codes "node" ++ 32 ∷ decimal p

-- that node p doesn't do what is asked of it
abbrev pub trouble_words : NodeTrouble → List ℕ
trouble_words Down = codes " is down: start it, or ask another"
trouble_words NoSnapshot = codes " wrote no snapshot: down or busy"
trouble_words NoStart = codes " has failed again: status says why"

abbrev pub trouble_text : NodeTrouble → ℕ → List ℕ
trouble_text t p = node_text p ++ trouble_words t

-- the line of that
abbrev pub trouble_line : NodeTrouble → ℕ → List ℕ
trouble_line t p = codes "error: " ++ trouble_text t p ++ 10 ∷ []

-- the words that name a request
unfoldable pub numbered_text : RequestNo → List ℕ
numbered_text q = codes "request" ++ 32 ∷ request_text q

-- that a request number was already used for a command
abbrev pub used_text : Command → List ℕ
used_text c = numbered_text c.request ++ codes " was already used for:" ++ 32 ∷ spaced (op_words c.op)

-- that the list is full
abbrev pub full_text : List ℕ
full_text = codes "no further command can be decided, and this one isn't"

-- that nothing is asked again
abbrev pub nothing_text : List ℕ
nothing_text = codes "nothing to ask again: no command is unacknowledged"

-- how many commands can still be decided, behind so many
abbrev pub left_behind : ℕ → ℕ
left_behind decided = instance_count - decided

-- whether at most a tenth of the commands that can be decided is left
abbrev pub is_nearly_full : ℕ → Bool
is_nearly_full left = nat_le left (instance_count / 10)

-- how many facts a node has on its disk, how many commands it knows to be decided, and how many can still be
abbrev pub counts_words : NodeSummary → List (List ℕ)
counts_words k = codes "facts" ∷ decimal k.facts ∷ codes "decided" ∷ decimal k.decided ∷ codes "left" ∷ decimal (left_behind k.decided) ∷ []

-- that a node is down; or that it has failed, and why
abbrev pub down_words : Option (List ℕ) → List ℕ
down_words None = codes "down"
down_words (Some why) = codes "failed: " ++ why

-- that a node is up, and what it knows
abbrev pub up_words : NodeSummary → List (List ℕ)
up_words k = codes "up" ∷ counts_words k ++ codes "suspects" ∷ set_text k.suspects ∷ []

-- how it is with a node
abbrev pub state_words : Option NodeSummary → Option (List ℕ) → List ℕ
state_words None failure = down_words failure
state_words (Some k) failure = spaced (up_words k)

-- the line of what a node tells of itself
abbrev pub status_line : NodeStatus → List ℕ
status_line s = spaced (codes "node" ∷ decimal s.node ∷ []) ++ 32 ∷ state_words s.summary (option_map (λ v. v.items) s.failure) ++ 10 ∷ []

-- the commands, or how one is used
abbrev pub forms_text : List ℕ
forms_text =
    listed (map op_form op_kinds)
    ++ codes ", look NAME, list [PREFIX], watch [PREFIX], sync, at NODE, stop NODE, start NODE, snapshot NODE, status, again, help [COMMAND], quit or exit"

abbrev pub example_text : ShellWord → List ℕ
example_text word = codes "; for example: " ++ word_example word

abbrev pub use_text : ShellWord → List ℕ
use_text word = word_help word ++ example_text word

abbrev pub help_text : Option ShellWord → List ℕ
help_text None = forms_text
help_text (Some word) = use_text word

-- the lines that tell them: one for each command, or one on it and one with an example
abbrev pub example_line : ShellWord → List ℕ
example_line word = (10 ∷ codes "for example: ") ++ word_example word ++ 10 ∷ []

abbrev pub use_lines : ShellWord → List ℕ
use_lines word = word_help word ++ example_line word

abbrev pub all_lines : List ℕ
all_lines = flat_map help_line shell_words

abbrev pub help_lines : Option ShellWord → List ℕ
help_lines None = all_lines
help_lines (Some word) = use_lines word

-- that there is no such node, of n nodes
abbrev pub no_node_text : ℕ → List ℕ
no_node_text n = codes "no such node: a number is expected that is below" ++ 32 ∷ decimal n

-- that a line is no command, and which one was meant, or else which ones there are
abbrev pub words_text : List ℕ
words_text = listed (map op_word op_kinds) ++ codes ", look, list, watch, sync, at, stop, start, snapshot, status, again, help, quit or exit is expected"

abbrev pub meant_text : ShellWord → List ℕ
meant_text word = codes "did you mean `" ++ word_text word ++ codes "`?"

-- which command was meant, or else which ones there are
abbrev pub which_text : Option ShellWord → List ℕ
which_text None = words_text
which_text (Some word) = meant_text word

abbrev pub no_command_text : Option ShellWord → List ℕ
no_command_text meant = codes "no such command: " ++ which_text meant

-- how a command is written, behind what is wrong
abbrev pub form_behind : ShellWord → List ℕ
form_behind word = codes "; the form is `" ++ word_form word ++ codes "`"

-- that there is no name or no value where this command wants one
abbrev pub no_name_text : ShellWord → List ℕ
no_name_text word = codes "no name: 1 to 64 bytes of a to z, 0 to 9 and - are expected" ++ form_behind word

abbrev pub no_value_text : ShellWord → List ℕ
no_value_text word = codes "no value: 0 to 64 bytes from ! to ~ are expected, and no space" ++ form_behind word

-- what is wrong with a line, and what is expected, of n nodes
abbrev pub fault_text : ℕ → LineFault → List ℕ
fault_text n (NoCommand meant) = no_command_text meant
fault_text n (BadName word) = no_name_text word
fault_text n (BadValue word) = no_value_text word
fault_text n (BadOwner word) = codes "no owner: a number below 4294967296 is expected" ++ form_behind word
fault_text n (NoNode word) = no_node_text n ++ form_behind word
fault_text n (Behind word) = codes "too many words" ++ form_behind word
fault_text n TooLong = codes "too long a line: at most 4096 bytes are expected"

-- the line of a fault, of n nodes
abbrev pub fault_line : ℕ → LineFault → List ℕ
fault_line n fault = codes "error: " ++ fault_text n fault ++ 10 ∷ []
