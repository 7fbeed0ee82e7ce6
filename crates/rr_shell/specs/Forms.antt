-- What is said to a line of a shell: with JSON, or in words.
use Rattle.std.specs.Prelude.{ℕ, Bool, if◌then◌else◌, List, [], ◌∷◌, ◌++◌, Option, codes}
use Rattle.std.specs.List.{flat_map}
use Rattle.rr_types.specs.declared.binding.Binding.{Binding}
use Rattle.rr_text.specs.declared.answer.Answer.{Answer}
use Rattle.rr_text.specs.declared.answer.Answer.TheVariants.{Acknowledged}
use Rattle.rr_shell.specs.declared.status.NodeStatus.{NodeStatus}
use Rattle.rr_shell.specs.declared.status.NodeTrouble.{NodeTrouble}
use Rattle.rr_shell.specs.declared.shell_line.LineFault.{LineFault}
use Rattle.rr_shell.specs.Texts.{answer_line, synced_line, list_lines, watching_line, changed_line, freed_line, late_line, late_text, move_line, stop_line, start_line, snapshot_line, trouble_line, trouble_text, status_line, help_lines, help_text, fault_line, fault_text, used_text, full_text, nothing_text}
use Rattle.rr_types.specs.declared.command.Command.{Command}
use Rattle.rr_shell.specs.declared.outcome.Outcome.{Outcome}
use Rattle.rr_shell.specs.declared.outcome.Outcome.TheVariants.{Answered, ListFull, Used, Nothing, Whole}
use Rattle.rr_json.specs.Json.{escaped_byte}
use Rattle.rr_explain.specs.declared.shell_word.ShellWord.{ShellWord}
use Rattle.rr_shell.specs.Objects.{answer_object, synced_object, list_objects, watching_object, changed_object, freed_object, node_object, status_object, text_object}

-- an answer
abbrev pub answer_said : Bool → Answer → List ℕ
answer_said json a = if json then answer_object a else answer_line a

-- that the list is full
abbrev pub full_said : Bool → List ℕ
full_said json = if json then text_object (codes "full list") full_text else codes "full list: " ++ full_text ++ 10 ∷ []

-- that a request number was already used for a command
abbrev pub used_said : Bool → Command → List ℕ
used_said json c = if json then text_object (codes "error") (flat_map escaped_byte (used_text c)) else codes "error: " ++ used_text c ++ 10 ∷ []

-- that nothing is asked again
abbrev pub nothing_said : Bool → List ℕ
nothing_said json = if json then text_object (codes "error") nothing_text else codes "error: " ++ nothing_text ++ 10 ∷ []

-- that a node has learned what was acknowledged anywhere
abbrev pub synced_said : Bool → List ℕ
synced_said json = if json then synced_object else synced_line

-- what comes of a submit; of a sync a full list too, of which the node has published all
abbrev pub outcome_said : Bool → Outcome → List ℕ
outcome_said json (Answered a) = answer_said json a
outcome_said json ListFull = full_said json
outcome_said json (Used c) = used_said json c
outcome_said json Nothing = nothing_said json
outcome_said json Whole = synced_said json

-- what comes of a sync: that it is done, where its command is acknowledged, whatever the reply; else what comes of a submit
abbrev pub sync_said : Bool → Outcome → List ℕ
sync_said json (Answered (Acknowledged p q reply)) = synced_said json
sync_said json o = outcome_said json o

-- the bound names that were seen
abbrev pub list_said : Bool → Option (List Binding) → List ℕ
list_said json names = if json then list_objects names else list_lines names

-- that a watch has begun
abbrev pub watching_said : Bool → List ℕ
watching_said json = if json then watching_object else watching_line

-- a name that is bound from now on as it wasn't before
abbrev pub changed_said : Bool → Binding → List ℕ
changed_said json b = if json then changed_object b else changed_line b

-- a name that is free from now on
abbrev pub freed_said : Bool → List ℕ → List ℕ
freed_said json name = if json then freed_object name else freed_line name

-- that a watch is over, as changes were missed
abbrev pub late_said : Bool → List ℕ
late_said json = if json then text_object (codes "late") late_text else late_line

-- that node p is asked from now on
abbrev pub move_said : Bool → ℕ → List ℕ
move_said json p = if json then node_object (codes "at") p else move_line p

-- that node p is down from now on
abbrev pub stop_said : Bool → ℕ → List ℕ
stop_said json p = if json then node_object (codes "stopped") p else stop_line p

-- that node p is up from now on
abbrev pub start_said : Bool → ℕ → List ℕ
start_said json p = if json then node_object (codes "started") p else start_line p

-- that node p has written a snapshot
abbrev pub snapshot_said : Bool → ℕ → List ℕ
snapshot_said json p = if json then node_object (codes "snapshot") p else snapshot_line p

-- that node p doesn't do what is asked of it
abbrev pub trouble_said : NodeTrouble → Bool → ℕ → List ℕ
trouble_said t json p = if json then text_object (codes "error") (trouble_text t p) else trouble_line t p

-- what a node tells of itself
abbrev pub status_said : Bool → NodeStatus → List ℕ
status_said json s = if json then status_object s else status_line s

-- the commands, or how one is used
abbrev pub help_said : Bool → Option ShellWord → List ℕ
help_said json word = if json then text_object (codes "help") (help_text word) else help_lines word

-- what is wrong with a line, of n nodes
abbrev pub fault_said : Bool → ℕ → LineFault → List ℕ
fault_said json n fault = if json then text_object (codes "error") (fault_text n fault) else fault_line n fault
