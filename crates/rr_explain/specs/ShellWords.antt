-- The words with which a line of a shell begins: how each is used, what it does, and which was meant where none stands.
use Rattle.std.specs.Prelude.{ℕ, ◌+◌, ◌==◌, nat_le, Bool, true, false, ◌&&◌, ◌||◌, if◌then◌else◌, List, [], ◌∷◌, ◌++◌, codes, Option, None, Some}
use Rattle.rr_types.specs.declared.command.OpKind.TheVariants as kinds
use Rattle.rr_types.specs.Commands.{find_by, op_word, op_form}
use Rattle.rr_explain.specs.declared.shell_word.ShellWord.{ShellWord}
use Rattle.rr_explain.specs.declared.shell_word.ShellWord.TheVariants.{Op, Look, List as Names, Watch, Sync, At, Stop, Start, Snapshot, Status, Again, Help, Quit, Exit}

-- all of them, in the order in which they are told
abbrev pub shell_words : List ShellWord
shell_words =
    Op kinds.Claim ∷ Op kinds.Update ∷ Op kinds.Release ∷ Op kinds.Transfer ∷ Look ∷ Names ∷ Watch ∷ Sync ∷ At ∷ Stop ∷ Start
    ∷ Snapshot ∷ Status ∷ Again ∷ Help ∷ Quit ∷ Exit ∷ []

-- the word itself
abbrev pub word_text : ShellWord → List ℕ
word_text (Op kind) = op_word kind
word_text Look = codes "look"
word_text Names = codes "list"
word_text Watch = codes "watch"
word_text Sync = codes "sync"
word_text At = codes "at"
word_text Stop = codes "stop"
word_text Start = codes "start"
word_text Snapshot = codes "snapshot"
word_text Status = codes "status"
word_text Again = codes "again"
word_text Help = codes "help"
word_text Quit = codes "quit"
word_text Exit = codes "exit"

-- which word a text is
abbrev pub shell_word_at : List ℕ → Option ShellWord
shell_word_at text = find_by word_text text shell_words

-- how a line that begins with it is written
abbrev pub word_form : ShellWord → List ℕ
word_form (Op kind) = op_form kind
word_form Look = codes "look NAME"
word_form Names = codes "list [PREFIX]"
word_form Watch = codes "watch [PREFIX]"
word_form At = codes "at NODE"
word_form Stop = codes "stop NODE"
word_form Start = codes "start NODE"
word_form Snapshot = codes "snapshot NODE"
word_form Help = codes "help [COMMAND]"
word_form word = word_text word

-- a letter of A to Z as a small one, and any other byte as it is
abbrev pub small_letter : ℕ → ℕ
small_letter b = if nat_le 65 b && nat_le b 90 then b + 32 else b

-- what is left of two texts behind the front in which they are the same, but for capitals in the first
abbrev pub behind_front : List ℕ → List ℕ → List ℕ × List ℕ
behind_front [] ws = ([], ws)
behind_front (t ∷ ts) [] = (t ∷ ts, [])
behind_front (t ∷ ts) (w ∷ ws) = if small_letter t == w then behind_front ts ws else (t ∷ ts, w ∷ ws)

-- whether nothing is left
abbrev pub is_nothing : List ℕ → Bool
is_nothing [] = true
is_nothing (b ∷ bs) = false

-- whether nothing is left of two texts
abbrev pub are_nothing : List ℕ × List ℕ → Bool
are_nothing left = is_nothing left.0 && is_nothing left.1

-- whether a text is a word, but for capitals
abbrev pub is_same_word : List ℕ → List ℕ → Bool
is_same_word text word = are_nothing (behind_front text word)

-- whether the first two letters of a text are those of a word the other way round, and all else is the same
abbrev pub is_swapped : List ℕ → List ℕ → Bool
is_swapped [] ws = false
is_swapped (s ∷ []) ws = false
is_swapped (s ∷ t ∷ ts) [] = false
is_swapped (s ∷ t ∷ ts) (v ∷ []) = false
is_swapped (s ∷ t ∷ ts) (v ∷ w ∷ ws) = (small_letter s == w && small_letter t == v) && is_same_word ts ws

-- what stands behind the first letter
abbrev pub behind_first : List ℕ → List ℕ
behind_first [] = []
behind_first (b ∷ bs) = bs

-- whether one slip at most, at the front, leads from a word to a text: a letter too many, one that lacks, one that is another, or
-- two that changed places
abbrev pub is_slip_at : List ℕ → List ℕ → Bool
is_slip_at ts ws =
    is_same_word (behind_first ts) ws
    || (is_same_word ts (behind_first ws) || (is_same_word (behind_first ts) (behind_first ws) || is_swapped ts ws))

-- whether a text is a word, but for capitals and one slip
abbrev pub is_slip : List ℕ → List ℕ → Bool
is_slip text word = is_slip_at (behind_front text word).0 (behind_front text word).1

-- the first of these words that a text is, but for capitals and one slip
abbrev pub nearest_of : List ℕ → List ShellWord → Option ShellWord
nearest_of text [] = None
nearest_of text (w ∷ ws) = if is_slip text (word_text w) then Some w else nearest_of text ws

-- the word that was meant by a text, if one was
abbrev pub nearest_word : List ℕ → Option ShellWord
nearest_word text = nearest_of text shell_words

-- what a line that begins with it does
unfoldable pub word_about : ShellWord → List ℕ
word_about (Op kinds.Claim) = codes "takes a free name for this client, with a value or the empty one"
word_about (Op kinds.Update) = codes "sets the value of a name of this client; without VALUE the empty one"
word_about (Op kinds.Release) = codes "gives up a name of this client, which is free then"
word_about (Op kinds.Transfer) = codes "hands a name of this client to the client with the number OWNER"
word_about Look = codes "tells who has a name and its value, as the node that is asked knows it"
word_about Names = codes "lists the names that are taken, or those that begin with PREFIX"
word_about Watch = codes "tells each change of these names, until the next line"
word_about Sync = codes "waits until looks here have all that was answered anywhere before"
word_about At = codes "asks this node from now on"
word_about Stop = codes "takes a node down, as by a crash; the others go on"
word_about Start = codes "starts a node that is down, from its folder"
word_about Snapshot = codes "has a node write a snapshot of its facts"
word_about Status = codes "tells of each node whether it is up, and what it knows"
word_about Again = codes "asks the last unacknowledged command once more, so that it counts once"
word_about Help = codes "tells all commands, or how one is used"
word_about Quit = codes "ends the shell"
word_about Exit = codes "ends the shell, as quit does"

-- a line that begins with it, as an example
unfoldable pub word_example : ShellWord → List ℕ
word_example (Op kinds.Claim) = codes "claim printer room-4"
word_example (Op kinds.Update) = codes "update printer room-5"
word_example (Op kinds.Release) = codes "release printer"
word_example (Op kinds.Transfer) = codes "transfer printer 9"
word_example Look = codes "look printer"
word_example Names = codes "list room-"
word_example Watch = codes "watch room-"
word_example At = codes "at 1"
word_example Stop = codes "stop 2"
word_example Start = codes "start 2"
word_example Snapshot = codes "snapshot 0"
word_example Help = codes "help claim"
word_example word = word_text word

-- how a word is used, and what for
abbrev pub word_help : ShellWord → List ℕ
word_help word = word_form word ++ codes ": " ++ word_about word

-- the line of that
abbrev pub help_line : ShellWord → List ℕ
help_line word = word_help word ++ 10 ∷ []
