-- What an audit finds as JSON: one object.
use Rattle.std.specs.Prelude.{ℕ, zero, suc, ◌+◌, List, [], ◌∷◌, ◌++◌, codes}
use Rattle.std.specs.Box.{box_value}
use Rattle.rr_types.specs.declared.refusal.Refusal.{Refusal}
use Rattle.rr_types.specs.declared.refusal.Refusal.TheVariants.{AuditNo}
use Rattle.rr_types.specs.Refusal.{number_of, name_of}
use Rattle.rr_text.specs.declared.report.ReportLine.TheVariants as lines
use Rattle.rr_audit.specs.declared.given.Given.{Given}
use Rattle.rr_audit.specs.declared.given.Given.TheVariants as given
use Rattle.rr_json.specs.Json.{label, text_member, number_member, opened, object_line}
use Rattle.rr_json.specs.Objects.{line_front}

-- a yes to a tape of so many events
abbrev pub yes_object : ℕ → List ℕ
yes_object count = object_line (codes "yes") (number_member (codes "events") count)

-- the members of a refusal: its number and its name
abbrev pub refusal_members : Refusal → List ℕ
refusal_members r = number_member (codes "number") (number_of r) ++ text_member (codes "name") (name_of r)

-- what node p gives instead of an event, without the end of the object. A message and a reply are as in a report
abbrev pub given_front : ℕ → Given → List ℕ
given_front p given.NoNode = opened (codes "no node")
given_front p (given.Refused r) = opened (codes "refusal") ++ refusal_members r
given_front p given.NoMessage = opened (codes "no message")
given_front p (given.OtherNode q) = opened (codes "other node") ++ number_member (codes "node") q
given_front p given.NothingStaged = opened (codes "nothing to flush")
given_front p given.StillFlushing = opened (codes "still flushing")
given_front p given.NothingFlushed = opened (codes "nothing to mark")
given_front p (given.Number next) = opened (codes "other number") ++ number_member (codes "number") next
given_front p given.NothingToSend = opened (codes "nothing to send")
given_front p (given.Sends k m) = line_front (lines.Send k (box_value m))
given_front p given.NothingToAcknowledge = opened (codes "nothing to acknowledge")
given_front p (given.Acknowledges q r) = line_front (lines.Ack p q r)

-- the members of an event that isn't next: its number, from 1, its line, and the refusal
abbrev pub stop_members : ℕ → List ℕ
stop_members number = number_member (codes "event") number ++ number_member (codes "line") (number + 1) ++ refusal_members (AuditNo number)

-- the members of what is next: the event's node, and what that gives instead
abbrev pub given_members : ℕ → Given → List ℕ
given_members p instead = number_member (codes "node") p ++ label (codes "given") ++ given_front p instead ++ 125 ∷ []

-- a no to the event of this number
abbrev pub no_object : ℕ → ℕ → Given → List ℕ
no_object number p instead = object_line (codes "no") (stop_members number ++ given_members p instead)

-- the status of a no that was to be printed, by that of the printing
abbrev pub no_status : ℕ → ℕ
no_status zero = 7
no_status (suc n) = suc n
