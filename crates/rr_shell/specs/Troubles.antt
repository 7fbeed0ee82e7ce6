-- Lines that aren't answered as they ask, and the statuses that tell them.
use Rattle.std.specs.Prelude.{ℕ, List, Option, None, Some}
use Rattle.rr_types.specs.declared.binding.Binding.{Binding}
use Rattle.rr_types.specs.declared.command.Reply.{Reply}
use Rattle.rr_types.specs.declared.command.Reply.TheVariants as reply
use Rattle.rr_text.specs.declared.answer.Answer.{Answer}
use Rattle.rr_text.specs.declared.answer.Answer.TheVariants as answer
use Rattle.rr_shell.specs.declared.outcome.Outcome.{Outcome}
use Rattle.rr_shell.specs.declared.outcome.Outcome.TheVariants as outcome
use Rattle.rr_shell.specs.declared.troubles.Trouble.{Trouble}
use Rattle.rr_shell.specs.declared.troubles.Trouble.TheVariants.{Taken, NotOwner, Unknown, Full, Unacknowledged, Unseen, ListFull, Error, Free}

-- why a reply isn't what its command asked for; none where it is
abbrev pub reply_trouble : Reply → Option Trouble
reply_trouble reply.Claimed = None
reply_trouble reply.Updated = None
reply_trouble reply.Released = None
reply_trouble reply.Transferred = None
reply_trouble (reply.Taken owner) = Some Taken
reply_trouble reply.Unknown = Some Unknown
reply_trouble reply.NotOwner = Some NotOwner
reply_trouble reply.Full = Some Full

-- why an answer isn't what its line asked for; none where it is
abbrev pub answer_trouble : Answer → Option Trouble
answer_trouble (answer.Acknowledged p q r) = reply_trouble r
answer_trouble (answer.Unacknowledged p q) = Some Unacknowledged
answer_trouble (answer.Free p name) = Some Free
answer_trouble (answer.Bound p name owner value) = None
answer_trouble (answer.Unseen p name) = Some Unseen

-- why what comes of a submit isn't what its line asked for; none where it is
abbrev pub outcome_trouble : Outcome → Option Trouble
outcome_trouble (outcome.Answered a) = answer_trouble a
outcome_trouble outcome.ListFull = Some ListFull
outcome_trouble (outcome.Used c) = Some Error
outcome_trouble outcome.Nothing = Some Error
outcome_trouble outcome.Whole = None

-- why what comes of a sync isn't what its line asked for; none where its command is acknowledged, whatever the reply
abbrev pub sync_trouble : Outcome → Option Trouble
sync_trouble (outcome.Answered (answer.Acknowledged p q r)) = None
sync_trouble o = outcome_trouble o

-- why a list isn't what its line asked for; none where it is
abbrev pub listing_trouble : Option (List Binding) → Option Trouble
listing_trouble None = Some Unseen
listing_trouble (Some names) = None

-- the status of a shell that ends for a trouble
abbrev pub strict_status : Trouble → ℕ
strict_status Taken = 10
strict_status NotOwner = 11
strict_status Unknown = 12
strict_status Full = 13
strict_status Unacknowledged = 14
strict_status Unseen = 15
strict_status ListFull = 16
strict_status Error = 17
strict_status Free = 18

-- the status behind a talk: that of the trouble that ended it, or 0
abbrev pub ending_status : Option Trouble → ℕ
ending_status None = 0
ending_status (Some trouble) = strict_status trouble
