-- What a line of a shell asks for: reading it from left to right, as the code does.
use Rattle.std.specs.Prelude.{ℕ, Bool, not, ◌==◌, ◌&&◌, ◌||◌, false, true, if◌then◌else◌, is_some, List, [], ◌∷◌, ◌++◌, length, Option, None, Some, Result, Ok, Err}
use Rattle.rr_types.specs.declared.command.OpKind.{OpKind}
use Rattle.rr_types.specs.declared.command.Shape.{Shape}
use Rattle.rr_types.specs.declared.command.Shape.TheVariants.{Bare, Valued, Owned}
use Rattle.rr_types.specs.Commands.{op_shape}
use Rattle.rr_text.specs.Reading.{cut_at, name_at, node_at, op_at}
use Rattle.rr_explain.specs.declared.shell_word.ShellWord.{ShellWord}
use Rattle.rr_explain.specs.declared.shell_word.ShellWord.TheVariants as words
use Rattle.rr_explain.specs.ShellWords.{shell_word_at, nearest_word}
use Rattle.rr_shell.specs.declared.shell_line.ShellLine.{ShellLine}
use Rattle.rr_shell.specs.declared.shell_line.ShellLine.TheVariants.{Submit, Look, Names, Watch, Sync, At, Stop, Start, Snapshot, Status, Again, Help, Quit}
use Rattle.rr_shell.specs.declared.shell_line.LineFault.{LineFault}
use Rattle.rr_shell.specs.declared.shell_line.LineFault.TheVariants.{NoCommand, BadName, BadValue, BadOwner, NoNode, Behind}

-- what divides words: a space or a tab
abbrev pub is_blank : ℕ → Bool
is_blank b = b == 32 || b == 9

-- what was read, with a space behind it where a blank was seen since
abbrev pub spaced_if : Bool → List ℕ → List ℕ
spaced_if seen read = if seen && not (length read == 0) then read ++ 32 ∷ [] else read

-- what is read of a line behind what was, where a blank was seen since or wasn't: of blanks between words one space, and no others
abbrev pub tidied_on : List ℕ → Bool → List ℕ → List ℕ
tidied_on read seen [] = read
tidied_on read seen (b ∷ bs) = if is_blank b then tidied_on read true bs else tidied_on (spaced_if seen read ++ b ∷ []) false bs

-- the words of a line, with one space between two of them
abbrev pub tidied : List ℕ → List ℕ
tidied line = tidied_on [] false line

-- the first word of a text and what stands behind it, by the cut at its first space
abbrev pub parts_from : List ℕ → Option (List ℕ × List ℕ) → List ℕ × List ℕ
parts_from text None = (text, [])
parts_from text (Some parts) = parts

-- the first word of a text, and what stands behind it; nothing stands behind a word alone
abbrev pub parts_of : List ℕ → List ℕ × List ℕ
parts_of text = parts_from text (cut_at 32 text)

-- what is wrong behind a word that wants a name there: the name, or else this
abbrev pub named_fault : LineFault → ShellWord → List ℕ → LineFault
named_fault fault word rest = if is_some (name_at (parts_of rest).0) then fault else BadName word

-- why a line of an operation which has this beside its name, with this behind its word, is none
abbrev pub shape_fault : Shape → ShellWord → List ℕ → LineFault
shape_fault Bare word rest = named_fault (Behind word) word rest
shape_fault Valued word rest = named_fault (BadValue word) word rest
shape_fault Owned word rest = named_fault (BadOwner word) word rest

-- what a line asks for that wants something, where that is there
abbrev pub wanted : {A : Type 0} → LineFault → (A → ShellLine) → Option A → Result ShellLine LineFault
wanted fault line None = Err fault
wanted fault line (Some x) = Ok (line x)

-- a submit of the operation that a text is, of this kind and with this behind its word
abbrev pub command_at : List ℕ → OpKind → List ℕ → Result ShellLine LineFault
command_at text kind rest = wanted (shape_fault (op_shape kind) (words.Op kind) rest) Submit (op_at text)

-- a look at the name that a text is
abbrev pub look_at : List ℕ → Result ShellLine LineFault
look_at rest = wanted (named_fault (Behind words.Look) words.Look rest) Look (name_at rest)

-- what is done with names: they are watched, or else listed
abbrev pub prefix_line : ShellWord → Option (List ℕ) → ShellLine
prefix_line words.Watch prefix = Watch prefix
prefix_line word prefix = Names prefix

-- what is done with the names that begin with the prefix that a text is, or with all; a prefix of a name is a name
abbrev pub prefix_at : ShellWord → List ℕ → Result ShellLine LineFault
prefix_at word [] = Ok (prefix_line word None)
prefix_at word (b ∷ bs) = wanted (named_fault (Behind word) word (b ∷ bs)) (λ prefix. prefix_line word (Some prefix)) (name_at (b ∷ bs))

-- what is done with a node: it is stopped, started, or writes a snapshot, or else it is asked from now on
abbrev pub node_line : ShellWord → ℕ → ShellLine
node_line words.Stop p = Stop p
node_line words.Start p = Start p
node_line words.Snapshot p = Snapshot p
node_line word p = At p

-- why a text is no node of n
abbrev pub node_fault : ℕ → ShellWord → List ℕ → LineFault
node_fault n word rest = if is_some (node_at n (parts_of rest).0) then Behind word else NoNode word

-- what is done with the node that a text is, of n nodes
abbrev pub node_line_at : ℕ → ShellWord → List ℕ → Result ShellLine LineFault
node_line_at n word rest = wanted (node_fault n word rest) (node_line word) (node_at n rest)

-- what a word alone asks for, with nothing behind it
abbrev pub alone : ShellWord → ShellLine → List ℕ → Result ShellLine LineFault
alone word line [] = Ok line
alone word line (b ∷ bs) = Err (Behind word)

-- the help on the word that a text is
abbrev pub help_by : List ℕ → Option ShellWord → Result ShellLine LineFault
help_by text None = Err (NoCommand (nearest_word text))
help_by text (Some word) = Ok (Help (Some word))

-- the help on the word that a text is, or on all
abbrev pub help_at : List ℕ → Result ShellLine LineFault
help_at [] = Ok (Help None)
help_at (b ∷ bs) = help_by (b ∷ bs) (shell_word_at (b ∷ bs))

-- what a line asks for that begins with this word, with this behind it
unfoldable pub line_by : ℕ → List ℕ → List ℕ → ShellWord → Result ShellLine LineFault
line_by n text rest (words.Op kind) = command_at text kind rest
line_by n text rest words.Look = look_at rest
line_by n text rest words.List = prefix_at words.List rest
line_by n text rest words.Watch = prefix_at words.Watch rest
line_by n text rest words.Sync = alone words.Sync Sync rest
line_by n text rest words.At = node_line_at n words.At rest
line_by n text rest words.Stop = node_line_at n words.Stop rest
line_by n text rest words.Start = node_line_at n words.Start rest
line_by n text rest words.Snapshot = node_line_at n words.Snapshot rest
line_by n text rest words.Status = alone words.Status Status rest
line_by n text rest words.Again = alone words.Again Again rest
line_by n text rest words.Help = help_at rest
line_by n text rest words.Quit = alone words.Quit Quit rest
line_by n text rest words.Exit = alone words.Exit Quit rest

-- what a line of these parts asks for, by the word that its first part is
abbrev pub line_from : ℕ → List ℕ → List ℕ × List ℕ → Option ShellWord → Result ShellLine LineFault
line_from n text parts None = Err (NoCommand (nearest_word parts.0))
line_from n text parts (Some word) = line_by n text parts.1 word

-- what a line asks for, of n nodes
abbrev pub shell_line_at : ℕ → List ℕ → Result ShellLine LineFault
shell_line_at n text = line_from n text (parts_of text) (shell_word_at (parts_of text).0)
