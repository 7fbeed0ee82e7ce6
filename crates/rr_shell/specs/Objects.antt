-- What is said to a line of a shell as JSON: an object for each line of words.
use Rattle.std.specs.Prelude.{ℕ, List, [], ◌∷◌, ◌++◌, length, Option, None, Some, codes}
use Rattle.std.specs.List.{flat_map}
use Rattle.std.specs.Option.{option_map}
use Rattle.rr_text.specs.ReportTexts.{reply_words}
use Rattle.rr_types.specs.declared.binding.Binding.{Binding}
use Rattle.rr_text.specs.declared.answer.Answer.{Answer}
use Rattle.rr_text.specs.declared.answer.Answer.TheVariants.{Acknowledged, Unacknowledged, Free, Bound, Unseen}
use Rattle.rr_shell.specs.declared.status.NodeStatus.{NodeStatus}
use Rattle.rr_types.specs.declared.summary.NodeSummary.{NodeSummary}
use Rattle.rr_json.specs.Json.{label, text_member, words_member, number_member, opened, object_line}
use Rattle.rr_shell.specs.Texts.{left_behind}

-- the members of a reply, by its words: its name, and the owner of a name that is taken
abbrev pub reply_members : List (List ℕ) → List ℕ
reply_members [] = []
reply_members (word ∷ []) = text_member (codes "reply") word
reply_members (word ∷ owner ∷ words) = text_member (codes "reply") word ++ label (codes "owner") ++ owner

-- the members of a name that is bound: its owner and its value
abbrev pub bound_members : List ℕ → ℕ → List ℕ → List ℕ
bound_members name owner value =
    text_member (codes "name") name ++ number_member (codes "owner") owner
    ++ words_member (codes "value") value

-- a name that is bound
abbrev pub bound_object : List ℕ → ℕ → List ℕ → List ℕ
bound_object name owner value = object_line (codes "bound") (bound_members name owner value)

-- an answer
abbrev pub answer_object : Answer → List ℕ
answer_object (Acknowledged p q reply) = object_line (codes "reply") (reply_members (reply_words reply))
answer_object (Unacknowledged p q) = object_line (codes "unacknowledged") []
answer_object (Free p name) = object_line (codes "free") (text_member (codes "name") name)
answer_object (Bound p name owner value) = bound_object name owner value
answer_object (Unseen p name) = object_line (codes "unseen") (text_member (codes "name") name)

-- that a node has learned what was acknowledged anywhere
abbrev pub synced_object : List ℕ
synced_object = object_line (codes "synced") []

-- a bound name, as the answer to a look at it
abbrev pub binding_object : Binding → List ℕ
binding_object b = bound_object b.name b.owner b.value

-- the bound names that were seen, behind an object that says how many they are; or that none was seen
abbrev pub list_objects : Option (List Binding) → List ℕ
list_objects None = object_line (codes "unseen") []
list_objects (Some names) = object_line (codes "list") (number_member (codes "names") (length names)) ++ flat_map binding_object names

-- that a watch has begun
abbrev pub watching_object : List ℕ
watching_object = object_line (codes "watching") []

-- a name that is bound from now on as it wasn't before
abbrev pub changed_object : Binding → List ℕ
changed_object b = object_line (codes "changed") (bound_members b.name b.owner b.value)

-- a name that is free from now on
abbrev pub freed_object : List ℕ → List ℕ
freed_object name = object_line (codes "freed") (text_member (codes "name") name)

-- that a node is asked, is down or is up from now on, by this word
abbrev pub node_object : List ℕ → ℕ → List ℕ
node_object word p = object_line word (number_member (codes "node") p)

-- that a node is down; and if it has failed, why
abbrev pub failed_member : Option (List ℕ) → List ℕ
failed_member None = []
failed_member (Some why) = words_member (codes "failed") why

abbrev pub down_members : Option (List ℕ) → List ℕ
down_members failure = (label (codes "up") ++ codes "false") ++ failed_member failure

-- that a node is down; or that it is up, and what it knows: bit q of its suspects is node q
abbrev pub state_members : Option NodeSummary → Option (List ℕ) → List ℕ
state_members None failure = down_members failure
state_members (Some k) failure =
    (label (codes "up") ++ codes "true") ++ number_member (codes "facts") k.facts
    ++ number_member (codes "decided") k.decided
    ++ number_member (codes "left") (left_behind k.decided) ++ number_member (codes "suspects") k.suspects

-- what a node tells of itself
abbrev pub status_object : NodeStatus → List ℕ
status_object s = object_line (codes "node") (number_member (codes "node") s.node ++ state_members s.summary (option_map (λ v. v.items) s.failure))

-- the beginning of an object of this kind that has a text, and its end
abbrev pub text_opened : List ℕ → List ℕ
text_opened kind = opened kind ++ label (codes "text") ++ 34 ∷ []

abbrev pub text_closed : List ℕ
text_closed = 34 ∷ 125 ∷ 10 ∷ []

-- an error, or the commands, as a text
abbrev pub text_object : List ℕ → List ℕ → List ℕ
text_object kind text = text_opened kind ++ text ++ text_closed
