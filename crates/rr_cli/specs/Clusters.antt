-- The folders of a cluster, as `rr verify` and `rr export` read them, and what an export is.
use Rattle.std.specs.Prelude.{◌≡◌, ◌⊎◌, ℕ, zero, suc, ◌≤◌, Bool, true, false, List, [], ◌∷◌, ◌++◌, length, codes, decimal}
use Rattle.std.specs.List.{AllByRecursion, flat_map}
use Rattle.rr_types.specs.declared.refusal.Refusal.TheVariants.{Device}
use Rattle.rr_types.specs.declared.command.Op.{Op}
use Rattle.rr_types.specs.declared.command.Op.TheVariants.{Claim}
use Rattle.rr_types.specs.declared.command.Command.{Command}
use Rattle.rr_types.specs.Limits.{max_nodes}
use Rattle.rr_types.specs.Registry.{registry_of}
use Rattle.rr_text.specs.ReportTexts.{line, decided_lines}
use Rattle.rr_text.specs.declared.script_line.ScriptLine.{ScriptLine}
use Rattle.rr_text.specs.declared.script_line.ScriptLine.TheVariants.{Submit, Look}
use Rattle.rr_text.specs.Scripted.{IsScript}
use Rattle.rr_text.specs.ScriptTexts.{script_text}
use Rattle.rr_json.specs.Json.{text_member, words_member, number_member, object_line}
use Rattle.rr_json.specs.Objects.{decided_objects}
use Rattle.rr_words.specs.declared.tasks.Exported.{Exported}
use Rattle.rr_words.specs.declared.tasks.Exported.TheVariants as export
use Rattle.rr_words.specs.declared.tasks.Form.{Form}
use Rattle.rr_words.specs.declared.tasks.Form.TheVariants.{Plain, Json}
use Rattle.rr_folders.specs.declared.fields.Form as code
use Rattle.rr_folders.specs.declared.fields.Form.TheVariants as forms
use Rattle.rr_folders.specs.declared.verify_folder.Reading.{Reading}
use Rattle.rr_folders.specs.declared.verify_folder.Reading.TheVariants.{Facts, Blank, Refused}
use Rattle.rr_folders.specs.Folders.{reading_of}
use Rattle.rr_folders.specs.Sifts.{AreUsed}
use Rattle.rr_folders.specs.Exports.{export_of, commands_of}

-- what was read of a folder: areas of some bytes; or it couldn't be read
abbrev pub IsRead : Reading → Type 0
IsRead r = ((first : List ℕ) × (second : List ℕ) × (r ≡ reading_of first second)) ⊎ (r ≡ Refused Device)

-- a folder holds no facts
abbrev pub HoldsNothing : Reading → Type 0
HoldsNothing (Facts f) = ⊥
HoldsNothing Blank = Unit {0}
HoldsNothing (Refused e) = Unit {0}

-- the folders of a cluster were read, at least one
pub record AreRead (readings : List Reading) : Type 0 where
  pub some : 1 ≤ length readings
  pub each : AllByRecursion IsRead readings

-- the status of folders that don't agree, or of which some aren't used, by that of the printing
abbrev pub unlike : ℕ → ℕ
unlike zero = 4
unlike (suc n) = suc n

-- the status of an export, by whether a folder that holds facts wasn't used
abbrev pub left_status : Bool → ℕ → ℕ
left_status true status = unlike status
left_status false status = status

-- folders that are used of those of a cluster that were read, and whether one that holds facts isn't
abbrev pub AreExported : List Reading → Bool → Type 0
AreExported used told = (readings : List Reading) × AreRead readings × AreUsed readings used told

-- how the form of the words is that of the fields
abbrev pub form_in : Form → code.Form
form_in Plain = forms.Words
form_in Json = forms.Json

-- a name, its owner and its value, as an object
abbrev pub name_object : List ℕ → ℕ → List ℕ → List ℕ
name_object name owner value =
    object_line (codes "bound") (text_member (codes "name") name ++ number_member (codes "owner") owner ++ words_member (codes "value") value)

-- what a command claims for its client, as an object
abbrev pub claimed_object : ℕ → Op → List ℕ
claimed_object client (Claim name value) = name_object name client value
claimed_object client op = []

-- what a line of a script claims, as an object
abbrev pub claim_object : ScriptLine → List ℕ
claim_object (Submit p c) = claimed_object c.request.client c.op
claim_object (Look p name) = []

-- a text is the export of a decided list: a script for each number of nodes, and the commands that it submits give the same registry;
-- or an object for each claim of that script; or the list itself as a report has it, in words or as JSON
abbrev pub IsExportOf : Exported → List Command → List ℕ → Type 0
IsExportOf export.Claims decided text =
    (lines : List ScriptLine) × (text ≡ script_text lines)
    × ((n : ℕ) → 1 ≤ n → n ≤ max_nodes → IsScript (record { nodes = n; lines = lines }))
    × (registry_of (commands_of lines) ≡ registry_of decided)
IsExportOf export.Names decided text = text ≡ flat_map claim_object (export_of (registry_of decided))
IsExportOf export.List decided text = text ≡ line (codes "decided" ∷ decimal (length decided) ∷ []) ++ decided_lines 0 decided
IsExportOf export.Commands decided text = text ≡ decided_objects decided
