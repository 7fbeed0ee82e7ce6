-- What is printed of the folders of a cluster: fields, as lines of words or as objects of JSON.
use Rattle.std.specs.Prelude.{ℕ, ◌+◌, ◌-◌, Bool, true, false, List, [], ◌∷◌, ◌++◌, length, codes, decimal}
use Rattle.std.specs.List.{flat_map}
use Rattle.rr_types.specs.declared.command.Command.{Command}
use Rattle.rr_types.specs.Refusal.{refusal_text}
use Rattle.rr_types.specs.Limits.{instance_count}
use Rattle.rr_types.specs.Promises.{decided_from}
use Rattle.rr_frame.specs.Versions.{version_number}
use Rattle.rr_text.specs.Words.{spaced}
use Rattle.rr_text.specs.ReportTexts.{command_words}
use Rattle.rr_json.specs.Json as json
use Rattle.rr_folders.specs.declared.verify_folder.Folder.{Folder}
use Rattle.rr_folders.specs.declared.verify_folder.Reading.{Reading}
use Rattle.rr_folders.specs.declared.verify_folder.Reading.TheVariants.{Facts, Blank, Refused}
use Rattle.rr_folders.specs.declared.verdict.Clash.{Clash}
use Rattle.rr_folders.specs.declared.fields.Form.{Form}
use Rattle.rr_folders.specs.declared.fields.Form.TheVariants.{Words, Json}

-- the beginning of a line of this kind
unfoldable pub opened : Form → List ℕ → List ℕ
opened Words kind = kind
opened Json kind = json.opened kind

-- its end
unfoldable pub closed : Form → List ℕ
closed Words = 10 ∷ []
closed Json = 125 ∷ 10 ∷ []

-- the name of a field among words
unfoldable pub named : List ℕ → List ℕ
named name = 32 ∷ name ++ 32 ∷ []

-- a field that is a number
unfoldable pub number_field : Form → List ℕ → ℕ → List ℕ
number_field Words name n = named name ++ decimal n
number_field Json name n = json.number_member name n

-- a field that is a text
unfoldable pub text_field : Form → List ℕ → List ℕ → List ℕ
text_field Words name text = named name ++ text
text_field Json name text = json.words_member name text

-- a line of this kind with these fields
abbrev pub line_of : Form → List ℕ → List ℕ → List ℕ
line_of form kind fields = opened form kind ++ fields ++ closed form

-- what a folder holds: its node and how many there are, how many facts and decided commands it has, how many commands are
-- left to be decided, and its version
abbrev pub folder_fields : Form → ℕ → Folder → List ℕ
folder_fields form p f =
    number_field form (codes "place") p ++ number_field form (codes "node") f.node
    ++ number_field form (codes "nodes") f.nodes ++ number_field form (codes "facts") f.facts
    ++ number_field form (codes "decided") (length (decided_from 0 f.promise))
    ++ number_field form (codes "left") (instance_count - length (decided_from 0 f.promise))
    ++ number_field form (codes "version") (version_number f.version)

-- what was read of the folder at a place
abbrev pub reading_line : Form → ℕ → Reading → List ℕ
reading_line form p (Facts f) = line_of form (codes "folder") (folder_fields form p f)
reading_line form p Blank = line_of form (codes "blank") (number_field form (codes "place") p)
reading_line form p (Refused e) = line_of form (codes "refused") (number_field form (codes "place") p ++ text_field form (codes "refusal") (refusal_text e))

-- what was read of the folders, the first of which is at place p
abbrev pub reading_lines : Form → ℕ → List Reading → List ℕ
reading_lines form p [] = []
reading_lines form p (r ∷ rs) = reading_line form p r ++ reading_lines form (p + 1) rs

-- a field that is a command
unfoldable pub command_field : Form → List ℕ → Command → List ℕ
command_field form name c = text_field form name (spaced (command_words c))

-- an instance that two folders decide differently: both places, and the command of each
abbrev pub clash_fields : Form → Clash → List ℕ
clash_fields form c =
    number_field form (codes "instance") c.difference.instance ++ number_field form (codes "place") c.place
    ++ command_field form (codes "command") c.difference.one
    ++ number_field form (codes "other_place") c.other_place
    ++ command_field form (codes "other_command") c.difference.other

abbrev pub clash_line : Form → Clash → List ℕ
clash_line form c = line_of form (codes "differ") (clash_fields form c)

-- whether the folders agree
abbrev pub verdict_line : Form → Bool → List ℕ
verdict_line form true = line_of form (codes "agree") []
verdict_line form false = line_of form (codes "disagree") []

-- what is printed of folders, of the instances that two of them decide differently, and of whether they agree
abbrev pub verdict_text : Form → List Reading → List Clash → Bool → List ℕ
verdict_text form readings clashes agree =
    reading_lines form 0 readings ++ flat_map (clash_line form) clashes ++ verdict_line form agree
